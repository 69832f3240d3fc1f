use Rattle.std.proofs.Common.{◌≡◌, ◌≢◌, ◌-◌, drop, [], ap, sym, ◌∙◌, arith}
use Rattle.tensor_defs.specs.Prelude.{digit, index_of, level, plus, minus, begins_plus, minus_count, plus_count}
use Rattle.tensor_rank.specs.IndexLaws.{nth}
use Rattle.constraint_rows.specs.Gathering.{word_at}
use Rattle.constraint_rows.proofs.WordLaws.{letter_one, letter_two, letter_three, letter_split_back, no_letter}
use Rattle.constraint_rows.proofs.choosing.counts_of.Goals as goal

pub loop-place-init : goal.loop-place-init
loop-place-init g c =
    let none : drop c.R-place.result (word_at g.R.Rank.R c.args.word) ≡ [] = no_letter g.R.Rank.R c.args.word c.R-place.result (omega (arith, c.R-place.ensures)) in
    record {
      plus = sym (ap plus_count none);
      minus = sym (ap minus_count none);
      begins = sym (ap begins_plus none);
      small = omega (arith, c.R-place.ensures);
    }

pub loop-place-preserved-in-1 : goal.loop-place-preserved-in-1
loop-place-preserved-in-1 g c =
    let digit_is : digit (nth (index_of g.R.Rank.R c.args.word) (c.loop-place.place - 1)) ≡ 1 = sym c.digit.ensures.value ∙ c.in-1.is in
    let h = c.loop-place.invariant.small in
    let split = letter_split_back g.R.Rank.R c.args.word c.loop-place.place level (omega arith) (omega arith) (letter_one _ digit_is) in
    record {
      plus = c.loop-place.invariant.plus ∙ sym (ap plus_count split);
      minus = c.loop-place.invariant.minus ∙ sym (ap minus_count split);
      begins = c.loop-place.invariant.begins ∙ sym (ap begins_plus split);
      small = omega arith;
    }

pub loop-place-preserved-in-2 : goal.loop-place-preserved-in-2
loop-place-preserved-in-2 g c =
    let digit_is : digit (nth (index_of g.R.Rank.R c.args.word) (c.loop-place.place - 1)) ≡ 2 = sym c.digit.ensures.value ∙ c.in-2.is in
    let h = c.loop-place.invariant.small in
    let p = c.loop-place.invariant.plus in
    let m = c.loop-place.invariant.minus in
    let split = letter_split_back g.R.Rank.R c.args.word c.loop-place.place plus (omega arith) (omega arith) (letter_two _ digit_is) in
    let more = ap plus_count split in
    let others = ap minus_count split in
    record {
      plus = omega (arith, p, more);
      minus = omega (arith, m, others);
      begins = sym (ap begins_plus split);
      small = omega arith;
    }

pub loop-place-preserved : goal.loop-place-preserved
loop-place-preserved g c =
    let value = c.digit.ensures.value in
    let not_one : digit (nth (index_of g.R.Rank.R c.args.word) (c.loop-place.place - 1)) ≢ 1 = omega arith in
    let not_two : digit (nth (index_of g.R.Rank.R c.args.word) (c.loop-place.place - 1)) ≢ 2 = omega arith in
    let h = c.loop-place.invariant.small in
    let p = c.loop-place.invariant.plus in
    let m = c.loop-place.invariant.minus in
    let split = letter_split_back g.R.Rank.R c.args.word c.loop-place.place minus (omega arith) (omega arith) (letter_three _ not_one not_two) in
    let more = ap plus_count split in
    let others = ap minus_count split in
    record {
      plus = omega (arith, p, more);
      minus = omega (arith, m, others);
      begins = sym (ap begins_plus split);
      small = omega arith;
    }
