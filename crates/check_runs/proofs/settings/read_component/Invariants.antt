use Rattle.check_runs.proofs.Names.{HasRead}
use Rattle.check_runs.proofs.settings.read_component.Given as goal

abbrev pub invariant-loop-place : goal.invariant-loop-place
invariant-loop-place g l = HasRead l.word l.place l.number
