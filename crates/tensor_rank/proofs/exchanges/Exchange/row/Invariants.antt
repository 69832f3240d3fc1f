use Rattle.std.proofs.Common.{◌≡◌, ℕ, ◌<◌, length, get_or, []}
use Rattle.tensor_rank.specs.ExchangeRows.{exchange_part}
use Rattle.tensor_rank.proofs.exchanges.Exchange.row.Given as goal

abbrev pub invariant-loop-place : goal.invariant-loop-place
invariant-loop-place g l = record {
  len : length l.parts ≡ 6;
  each : (k : ℕ) → k < l.place → get_or l.parts k [] ≡ exchange_part g.R.Rank.R l.self k;
}
