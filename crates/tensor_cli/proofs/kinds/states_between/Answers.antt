use Rattle.std.proofs.Common.{List, sym, subst}
use Rattle.std.proofs.lemmas.Result.{IfErr-weaker, IfOk-weaker}
use Rattle.tensor_defs.specs.Prelude.{IsFramed, InGroup, IsListing, Operation, comes_before}
use Rattle.magnetic_groups.specs.Sets.{In}
use Rattle.state_answers.proofs.Outside.{none_outside, refusal_told}
use Rattle.tensor_cli.proofs.StopLaws.{if_ok_on}
use Rattle.tensor_cli.proofs.kinds.states_between.Goals as goal

pub returns-clause-whole : goal.returns-clause-whole
returns-clause-whole c = IfOk-weaker c.list_states.result _ _
    (λ s is. subst (λ (xs : List Operation). IsListing comes_before (InGroup c.args.g.now) xs) (sym is.0) c.requires.whole)
    c.list_states.ensures.groups

pub returns-clause-sub : goal.returns-clause-sub
returns-clause-sub c = IfOk-weaker c.list_states.result _ _
    (λ s is. subst (λ (xs : List Operation). IsListing comes_before (InGroup c.args.f.now) xs) (sym is.1) c.requires.sub)
    c.list_states.ensures.groups

pub returns-clause-framed : goal.returns-clause-framed
returns-clause-framed c = IfOk-weaker c.list_states.result _ _
    (λ s is. subst (λ (xs : List Operation). IsFramed (In xs)) (sym is.1) c.requires.framed) c.list_states.ensures.groups

pub returns-clause-within : goal.returns-clause-within
returns-clause-within c = if_ok_on c.list_states.result
    (λ s w. none_outside c.args.g.now c.args.f.now c.args.whole c.args.sub c.requires.whole c.requires.sub w) c.list_states.ensures.within

pub returns-clause-refused : goal.returns-clause-refused
returns-clause-refused c = IfErr-weaker c.list_states.result _ _
    (λ e r k is. refusal_told c.args.g.now c.args.f.now c.args.whole c.args.sub c.requires.whole c.requires.sub e r k is)
    c.list_states.ensures.refused
