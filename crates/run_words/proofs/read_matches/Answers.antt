use Rattle.std.proofs.Common.{◌≡◌, ◌∙◌, refl, true, ap, map}
use Rattle.std.proofs.lemmas.Result.{IfErr-weaker}
use Rattle.clap.specs.Words.{App, app_of, is_simple_and_free, fault_of, takes}
use Rattle.clap.proofs.OnLiterals.{clap_on_literals}
use Rattle.run_words.specs.Words.{tensors_app}
use Rattle.run_words.proofs.Faults.{faultless_ok, faulty_err}
use Rattle.run_words.proofs.read_matches.Goals as goal

is_free : is_simple_and_free tensors_app ≡ true
unfolding clap_on_literals
is_free = refl

pub returns-clause-err : goal.returns-clause-err
returns-clause-err c =
    let whole_is : app_of c.in_ok-command.field-0 ≡ tensors_app = c.in_ok-command.ensures in
    let words = map (λ s. s.now) c.args.all.now in
    IfErr-weaker c.try_get_matches_from.result _ _
    (λ e h took. h (ap (λ (a : App). takes a words) whole_is ∙ took)) c.try_get_matches_from.ensures.passes

pub returns-clause-faultless : goal.returns-clause-faultless
returns-clause-faultless c =
    let whole_is : app_of c.in_ok-command.field-0 ≡ tensors_app = c.in_ok-command.ensures in
    let words = map (λ s. s.now) c.args.all.now in
    let fails = c.try_get_matches_from.ensures.kinds (ap is_simple_and_free whole_is ∙ is_free) in
    faultless_ok c.try_get_matches_from.result (fault_of (app_of c.in_ok-command.field-0) words)
    (fault_of tensors_app words) (ap (λ (a : App). fault_of a words) whole_is) fails

pub returns-clause-faulty : goal.returns-clause-faulty
returns-clause-faulty c =
    let whole_is : app_of c.in_ok-command.field-0 ≡ tensors_app = c.in_ok-command.ensures in
    let words = map (λ s. s.now) c.args.all.now in
    let fails = c.try_get_matches_from.ensures.kinds (ap is_simple_and_free whole_is ∙ is_free) in
    faulty_err c.try_get_matches_from.result (fault_of (app_of c.in_ok-command.field-0) words)
    (fault_of tensors_app words) (ap (λ (a : App). fault_of a words) whole_is) fails
