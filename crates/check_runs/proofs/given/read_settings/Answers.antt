use Rattle.std.specs.Prelude.{string_bytes}
use Rattle.check_runs.proofs.Gathered.{faulty_stop, settings_next}
use Rattle.check_runs.proofs.given.read_settings.Goals as goal

pub returns-in-Err-clause-stop : goal.returns-in-Err-clause-stop
returns-in-Err-clause-stop g c = λ h j same.
    faulty_stop string_bytes c.args.words.now c.loop-place.place c.index-words-place.result c.as_bytes.result.now g.R.Rank.R c.loop-place.settings.items
    c.loop-place-test.true c.index-words-place.is c.as_bytes.ensures.value c.loop-place.invariant h j c.in-Err.fault.place c.refused.result same
    c.in-Err.ensures c.refused.ensures

pub loop-place-preserved : goal.loop-place-preserved
loop-place-preserved g c =
    settings_next string_bytes c.args.words.now c.loop-place.place c.index-words-place.result c.as_bytes.result.now g.R.Rank.R c.loop-place.settings.items
    c.loop-place-test.true c.index-words-place.is c.as_bytes.ensures.value c.loop-place.invariant c.in-Ok.setting c.push.new.self.items
    c.in-Ok.ensures c.in-Ok-push.ensures.items
