use Rattle.list_laws.proofs.Kit.{◌<◌, ◌≤◌, ◌^◌, ◌∙◌, length, take_all, arith}
use Rattle.tensor_defs.specs.Tensor.{coefficient, index_of}
use Rattle.tensor_laws.proofs.ComponentNumbers.{length-index_of}
use Rattle.tensor_action.specs.Factors.{entry_number, product_number}
use Rattle.tensor_action.proofs.Between.{product-more, within-place, within-more}
use Rattle.tensor_action.proofs.coefficients.product_between.Goals as goal

pub with_entry-product-requires : goal.with_entry-product-requires
with_entry-product-requires g c =
    within-place c.loop-place.place g.R.Rank.R c.loop-place.product
    (omega (arith, c.loop-place-test.true, c.R-place-end.ensures)) g.R.Rank.small c.loop-place.invariant.within

pub loop-place-preserved : goal.loop-place-preserved
loop-place-preserved g c =
    let r = g.R.Rank.R in
    let is = index_of r c.args.to in
    let js = index_of r c.args.from in
    let k = c.loop-place.place in
    let h : k < length is = omega (arith, c.loop-place-test.true, c.R-place-end.ensures, length-index_of r c.args.to) in
    let l : k < length js = omega (arith, c.loop-place-test.true, c.R-place-end.ensures, length-index_of r c.args.from) in
    record {
      within = within-more k c.with_entry-product.result (c.with_entry-product.ensures.within (3 ^ k) c.loop-place.invariant.within);
      value = product-more c.args.op.now is js k (product_number c.loop-place.product) (product_number c.with_entry-product.result)
          (entry_number c.entry_between.result) h l c.loop-place.invariant.value c.entry_between.ensures c.with_entry-product.ensures.value;
    }

pub returns-clause-value : goal.returns-clause-value
returns-clause-value g c =
    let r = g.R.Rank.R in
    let is = index_of r c.args.to in
    let js = index_of r c.args.from in
    let k = c.loop-place.place in
    let h : length is ≤ k = omega (arith, c.loop-place-test.false, c.R-place-end.ensures, length-index_of r c.args.to) in
    let l : length js ≤ k = omega (arith, c.loop-place-test.false, c.R-place-end.ensures, length-index_of r c.args.from) in
    c.loop-place.invariant.value ∙ (λ n. coefficient c.args.op.now (take_all k is h n) (take_all k js l n))
