use Rattle.dialects.specs.Searches.{IsPast}
use Rattle.dialects.proofs.Patterns.{SettingsBelow}
use Rattle.dialects.proofs.search.read_form.Given as goal

abbrev pub invariant-loop-setting : goal.invariant-loop-setting
invariant-loop-setting l = IsPast (SettingsBelow l.place l.setting-items l.setting-index) l.word l.furthest
