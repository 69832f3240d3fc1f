use Rattle.std.proofs.Common.{map, take, string_bytes}
use Rattle.check_runs.specs.Settings.{AreSettings}
use Rattle.check_runs.specs.Stops.{given_by_all}
use Rattle.check_runs.proofs.given.read_settings.Given as goal

abbrev pub invariant-loop-place : goal.invariant-loop-place
invariant-loop-place g l = AreSettings g.R.Rank.R (map string_bytes (take l.place l.words)) (given_by_all l.settings.items)
