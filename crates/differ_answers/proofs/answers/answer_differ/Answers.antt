use Rattle.std.proofs.Common.{List, ◌∙◌, subst, sym}
use Rattle.tensor_defs.specs.Prelude.{IsFramed, InGroup, IsListing, Operation, comes_before}
use Rattle.magnetic_groups.specs.Sets.{In}
use Rattle.reduced_form.proofs.ToldLaws.{err_same}
use Rattle.state_answers.proofs.Outside.{none_outside, refusal_told}
use Rattle.differ_answers.specs.Told.{of_states}
use Rattle.differ_answers.proofs.FaultLaws.{no_states_large, rows_large, states_outside}
use Rattle.differ_answers.proofs.answers.answer_differ.Goals as goal

pub returns-in_err-states-clause-refused : goal.returns-in_err-states-clause-refused
returns-in_err-states-clause-refused c =
    let e = c.in_err-states.field-0.0 in
    let told = refusal_told c.args.g.now c.args.f.now c.args.whole c.args.sub c.requires.whole c.requires.sub e
    c.in_err-states.ensures.refused in
    err_same c.from_residual.result (of_states e) _ c.from_residual.ensures.1 (λ k is. told k (states_outside e k is))

pub returns-in_err-states-clause-inside : goal.returns-in_err-states-clause-inside
returns-in_err-states-clause-inside c =
    let e = c.in_err-states.field-0.0 in
    err_same c.from_residual.result (of_states e) _ c.from_residual.ensures.1 (λ large. absurd (no_states_large e large))

pub returns-in_err-states-clause-grows : goal.returns-in_err-states-clause-grows
returns-in_err-states-clause-grows c =
    let e = c.in_err-states.field-0.0 in
    err_same c.from_residual.result (of_states e) _ c.from_residual.ensures.1 (λ large. absurd (no_states_large e large))

pub returns-in_err-states-clause-plain : goal.returns-in_err-states-clause-plain
returns-in_err-states-clause-plain c =
    let e = c.in_err-states.field-0.0 in
    err_same c.from_residual.result (of_states e) _ c.from_residual.ensures.1 (λ large. absurd (no_states_large e large))

pub answer_in_states-requires-clause-whole : goal.answer_in_states-requires-clause-whole
answer_in_states-requires-clause-whole c =
    subst (λ (xs : List Operation). IsListing comes_before (InGroup c.args.g.now) xs) (sym c.in_ok-states.ensures.groups.0)
    c.requires.whole

pub answer_in_states-requires-clause-sub : goal.answer_in_states-requires-clause-sub
answer_in_states-requires-clause-sub c =
    subst (λ (xs : List Operation). IsListing comes_before (InGroup c.args.f.now) xs) (sym c.in_ok-states.ensures.groups.1)
    c.requires.sub

pub answer_in_states-requires-clause-framed : goal.answer_in_states-requires-clause-framed
answer_in_states-requires-clause-framed c =
    subst (λ (xs : List Operation). IsFramed (In xs)) (sym c.in_ok-states.ensures.groups.1) c.requires.framed

pub returns-in-Ok-clause-within : goal.returns-in-Ok-clause-within
returns-in-Ok-clause-within c =
    none_outside c.args.g.now c.args.f.now c.args.whole c.args.sub c.requires.whole c.requires.sub c.in_ok-states.ensures.within

pub returns-clause-inside : goal.returns-clause-inside
returns-clause-inside c = λ large.
    none_outside c.args.g.now c.args.f.now c.args.whole c.args.sub c.requires.whole c.requires.sub c.in_ok-states.ensures.within

pub returns-clause-grows : goal.returns-clause-grows
returns-clause-grows c = λ large. c.in-Err.ensures.grows (rows_large c.in-Err.fault (sym c.of.ensures ∙ large))
