use Rattle.std.proofs.Common.{arith, ◌≡◌, ◌<◌, ◌≤◌, ◌^◌, ap, ◌∙◌, refl}
use Rattle.tensor_rank.specs.Prelude.{digit_of, number_of, partner, exchanged}
use Rattle.tensor_rank.proofs.ExchangeLaws.{front_small, front_more, exchanged_below}
use Rattle.tensor_rank.proofs.exchanges.Exchange.carry.Goals as goal

pub loop-place-init : goal.loop-place-init
unfolding number_of
loop-place-init g c = refl

pub overflow_mul-number : goal.overflow_mul-number
overflow_mul-number g c =
    let few : c.loop-place.place ≤ 6 = omega (arith, g.R.Rank.small, c.R-place-end.ensures) in
    omega (arith, c.loop-place.invariant, front_small g.R.Rank.R c.loop-place.place c.args.c c.args.self.now few)

pub overflow_add-number : goal.overflow_add-number
overflow_add-number g c =
    let few : c.loop-place.place ≤ 6 = omega (arith, g.R.Rank.small, c.R-place-end.ensures) in
    omega (arith, c.loop-place.invariant, front_small g.R.Rank.R c.loop-place.place c.args.c c.args.self.now few)

pub loop-place-preserved : goal.loop-place-preserved
loop-place-preserved g c =
    let digit : c.axis.result ≡ digit_of g.R.Rank.R c.args.c (partner c.args.self.now c.loop-place.place) =
    c.axis.ensures.value ∙ ap (digit_of g.R.Rank.R c.args.c) c.partner.ensures in
    front_more c.loop-place.place (λ p. digit_of g.R.Rank.R c.args.c (partner c.args.self.now p)) _ _ c.loop-place.invariant digit

pub at-requires : goal.at-requires
unfolding exchanged
at-requires g c =
    let end : c.loop-place.place ≡ g.R.Rank.R = omega (arith, c.R-place-end.ensures) in
    let below : exchanged g.R.Rank.R c.args.self.now c.args.c < 3 ^ g.R.Rank.R = exchanged_below g.R.Rank.R c.args.self.now c.args.c in
    rw (g.R.Rank.power, c.loop-place.invariant, end) below

pub returns : goal.returns
unfolding exchanged
returns g c =
    let end : c.loop-place.place ≡ g.R.Rank.R = omega (arith, c.R-place-end.ensures) in
    c.at.ensures ∙ c.loop-place.invariant ∙ ap (λ k. number_of k (λ p. digit_of g.R.Rank.R c.args.c (partner c.args.self.now p))) end
