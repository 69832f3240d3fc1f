use Rattle.std.proofs.Common.{sym, ◌∙◌}
use Rattle.tensor_defs.specs.Prelude.{index_before, index_of}
use Rattle.tensor_laws.proofs.ComponentNumbers.{length-index_of}
use Rattle.tensor_rank.specs.Orders.{spelled_before}
use Rattle.tensor_rank.proofs.OrderLaws.{spelled_apart, spelled_order, spelled_same}
use Rattle.tensor_rank.proofs.orders.spelled_precede.Goals as goal

pub returns-then-one-other : goal.returns-then-one-other
returns-then-one-other g c =
    let r = g.R.Rank.R in
    let is = index_of r c.args.a in
    let js = index_of r c.args.b in
    c.index_precedes.ensures
    ∙ sym (spelled_same _ _ (index_before is js) (sym c.spelled_by-one.ensures ∙ c.if-one-other.true ∙ c.spelled_by-other.ensures))
    ∙ sym (spelled_order r c.args.sizes.now is js c.requires (length-index_of r c.args.a) (length-index_of r c.args.b))

pub returns : goal.returns
returns g c =
    let r = g.R.Rank.R in
    let is = index_of r c.args.a in
    let js = index_of r c.args.b in
    sym (spelled_apart c.spelled_by-one.result c.spelled_by-other.result (index_before is js) c.if-one-other.false)
    ∙ (λ i. spelled_before (c.spelled_by-one.ensures i) (c.spelled_by-other.ensures i) (index_before is js))
    ∙ sym (spelled_order r c.args.sizes.now is js c.requires (length-index_of r c.args.a) (length-index_of r c.args.b))
