use Rattle.std.proofs.Common.{◌≡◌, get_or, arith}
use Rattle.tensor_defs.specs.declared.Setting.TheVariants.{Default}
use Rattle.dialects.specs.Searches.{IsSettingText}
use Rattle.dialects.proofs.Past.{below_none, below_more}
use Rattle.dialects.proofs.Patterns.{all_settings, form_all}
use Rattle.dialects.proofs.search.read_form.Goals as goal

pub loop-setting-init : goal.loop-setting-init
loop-setting-init c = below_none (λ j. IsSettingText c.args.place (get_or all_settings j Default)) c.args.word.now

pub loop-setting-preserved : goal.loop-setting-preserved
loop-setting-preserved c =
    rw c.max-furthest.ensures
    (below_more (λ j. IsSettingText c.args.place (get_or all_settings j Default)) c.args.word.now c.loop-setting.setting-index
    c.loop-setting.furthest c.in-Err.fault.place c.loop-setting.invariant (rw c.in-Err.is at c.in_ok-tree.ensures))

pub returns : goal.returns
returns c =
    let e : c.loop-setting.setting-index ≡ 6 = omega arith in
    form_all c.args.place c.args.word.now c.loop-setting.furthest (rw e at c.loop-setting.invariant)
