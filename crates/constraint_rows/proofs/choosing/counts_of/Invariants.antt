use Rattle.std.proofs.Common.{◌≡◌, ◌+◌, ◌≤◌, drop}
use Rattle.tensor_defs.specs.Words.{begins_plus, minus_count, plus_count}
use Rattle.constraint_rows.specs.Gathering.{word_at}
use Rattle.constraint_rows.proofs.choosing.counts_of.Given as goal

abbrev pub invariant-loop-place : goal.invariant-loop-place
invariant-loop-place g l = record {
  plus : l.plus ≡ plus_count (drop l.place (word_at g.R.Rank.R l.word));
  minus : l.minus ≡ minus_count (drop l.place (word_at g.R.Rank.R l.word));
  begins : l.begins ≡ begins_plus (drop l.place (word_at g.R.Rank.R l.word));
  small : l.plus + l.minus + l.place ≤ g.R.Rank.R;
}
