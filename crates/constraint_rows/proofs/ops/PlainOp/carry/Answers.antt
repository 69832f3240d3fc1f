use Rattle.std.proofs.Common.{ℕ, subst, arith, ◌≡◌, ◌+◌, ◌-◌, ◌<◌, ◌≤◌, ◌^◌, ap, ◌∙◌, refl}
use Rattle.tensor_rank.proofs.ExchangeLaws.{front_more}
use Rattle.tensor_rank.specs.Prelude.{digit_of, number_of, nth, digit_place, digit_index}
use Rattle.sign_moves.specs.Signs.{times}
use Rattle.tensor_defs.specs.Tensor.{axis_place, index_of}
use Rattle.constraint_rows.specs.PlainOps.{image, entry_sign, signs_of, op_carried}
use Rattle.constraint_rows.proofs.OpLaws.{images_small, signs_more, op_carried_within}
use Rattle.constraint_rows.proofs.ops.PlainOp.carry.Goals as goal

pub loop-place-init : goal.loop-place-init
unfolding number_of
loop-place-init g c = record { number = refl; sign = refl }

pub overflow_mul-number : goal.overflow_mul-number
overflow_mul-number g c =
    let few : c.loop-place.place ≤ 6 = omega (arith, g.R.Rank.small, c.R-place-end.ensures) in
    omega (arith, c.loop-place.invariant.number, images_small g.R.Rank.R c.loop-place.place c.args.c c.args.self.now c.requires.columns few)

pub overflow_add-number : goal.overflow_add-number
overflow_add-number g c =
    let few : c.loop-place.place ≤ 6 = omega (arith, g.R.Rank.small, c.R-place-end.ensures) in
    let row : c.digit.result - 1 < 3 = omega (arith, c.digit.ensures.in_range) in
    omega (arith, c.loop-place.invariant.number, images_small g.R.Rank.R c.loop-place.place c.args.c c.args.self.now c.requires.columns few, c.requires.columns.small (c.digit.result - 1) row)

pub loop-place-preserved : goal.loop-place-preserved
loop-place-preserved g c =
    let below : c.args.c < 3 ^ g.R.Rank.R = subst (λ (n : ℕ). c.args.c < n) g.R.Rank.power c.requires.component in
    let inside : c.loop-place.place < g.R.Rank.R = omega (arith, c.R-place-end.ensures) in
    let one : c.digit.result ≡ axis_place (nth (index_of g.R.Rank.R c.args.c) c.loop-place.place) + 1 =
    c.digit.ensures.value ∙ digit_place (nth (index_of g.R.Rank.R c.args.c) c.loop-place.place) in
    let same : digit_of g.R.Rank.R c.args.c c.loop-place.place ≡ axis_place (nth (index_of g.R.Rank.R c.args.c) c.loop-place.place) =
    digit_index g.R.Rank.R c.args.c below c.loop-place.place inside in
    let digit : c.digit.result - 1 ≡ digit_of g.R.Rank.R c.args.c c.loop-place.place = omega (arith, one, same) in
    record {
      number = front_more c.loop-place.place (λ p. image c.args.self.now (digit_of g.R.Rank.R c.args.c p)) _ _ c.loop-place.invariant.number (ap (image c.args.self.now) digit);
      sign = c.times-sign.ensures ∙ signs_more c.loop-place.place c.args.self.now (digit_of g.R.Rank.R c.args.c) _ _ c.loop-place.invariant.sign (c.entry_sign.ensures ∙ ap (entry_sign c.args.self.now) digit);
    }

pub at-requires : goal.at-requires
unfolding op_carried
at-requires g c =
    let end : c.loop-place.place ≡ g.R.Rank.R = omega (arith, c.R-place-end.ensures) in
    let below : op_carried g.R.Rank.R c.args.self.now c.args.c < 3 ^ g.R.Rank.R = op_carried_within g.R.Rank.R c.args.self.now c.requires.columns c.args.c in
    rw (g.R.Rank.power, c.loop-place.invariant.number, end) below

pub returns-clause-carried : goal.returns-clause-carried
unfolding op_carried
returns-clause-carried g c =
    let end : c.loop-place.place ≡ g.R.Rank.R = omega (arith, c.R-place-end.ensures) in
    c.at.ensures ∙ c.loop-place.invariant.number ∙ ap (λ k. number_of k (λ p. image c.args.self.now (digit_of g.R.Rank.R c.args.c p))) end

pub returns-clause-sign : goal.returns-clause-sign
returns-clause-sign g c =
    let end : c.loop-place.place ≡ g.R.Rank.R = omega (arith, c.R-place-end.ensures) in
    c.times.ensures ∙ ap (times c.args.self.now.whole) (c.loop-place.invariant.sign ∙ ap (signs_of c.args.self.now (digit_of g.R.Rank.R c.args.c)) end)
