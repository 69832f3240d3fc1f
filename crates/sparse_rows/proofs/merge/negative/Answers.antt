use Rattle.std.proofs.Common.{◌≡◌, ◌∙◌, ap, sym, refl}
use Rattle.tensor_defs.specs.Number.{mul, neg, value_of}
use Rattle.exact_frac.proofs.Parts.{held-not_large}
use Rattle.sparse_rows.proofs.Merging.{mul-not_zero, neg-not_zero}
use Rattle.sparse_rows.proofs.merge.negative.Goals as goal

pub returns-clause-entry : goal.returns-clause-entry
returns-clause-entry c =
    let f = c.args.factor.now in
    let b = c.args.b.now in
    let x = mul (value_of f) (value_of b.value) in
    let p = c.in_ok-product.ensures.exact in
    let v : value_of c.neg.result ≡ neg x = sym c.neg.ensures.value.same ∙ ap neg (sym p.same) in
    record {
      unknown = refl;
      value = v;
      entry = record {
        held = c.neg.ensures.value.held;
        not_zero = λ e. neg-not_zero x (mul-not_zero f b.value c.in_lowest_terms.ensures.held c.requires.factor c.requires.entry) (sym v ∙ e);
      };
      calm = λ r. held-not_large x c.in_ok-product.product p r;
    }
