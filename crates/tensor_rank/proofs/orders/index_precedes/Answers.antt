use Rattle.std.proofs.Common.{ℕ, ◌<◌, ◌^◌, nat_lt, sym, ◌∙◌, subst}
use Rattle.tensor_rank.proofs.OrderLaws.{index_order_at}
use Rattle.tensor_rank.proofs.orders.index_precedes.Goals as goal

pub returns : goal.returns
returns g c =
    let a : c.number.result < 3 ^ g.R.Rank.R = subst (λ (x : ℕ). c.number.result < x) g.R.Rank.power c.number.ensures.in_range in
    let b : c.number-2.result < 3 ^ g.R.Rank.R = subst (λ (x : ℕ). c.number-2.result < x) g.R.Rank.power c.number-2.ensures.in_range in
    (λ i. nat_lt (c.number.ensures.same i) (c.number-2.ensures.same i))
    ∙ sym (index_order_at g.R.Rank.R c.args.a c.args.b
    (subst (λ (x : ℕ). x < 3 ^ g.R.Rank.R) c.number.ensures.same a)
    (subst (λ (x : ℕ). x < 3 ^ g.R.Rank.R) c.number-2.ensures.same b))
