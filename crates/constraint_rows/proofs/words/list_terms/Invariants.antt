use Rattle.std.proofs.Common.{◌≡◌, ◌-◌, ◌^◌, ◌≤◌, drop}
use Rattle.constraint_rows.specs.Gathering.{terms_from, word_at}
use Rattle.constraint_rows.proofs.words.list_terms.Given as goal

abbrev pub invariant-loop-place : goal.invariant-loop-place
invariant-loop-place g l = record {
  terms : l.terms.items ≡ terms_from 0 0 (drop l.place (word_at g.R.Rank.R l.word));
  weight : l.weight ≡ 3 ^ (g.R.Rank.R - l.place);
  within : l.place ≤ g.R.Rank.R;
}
