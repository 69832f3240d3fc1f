use Rattle.std.proofs.Common.{ℕ, rules, subst, sym}
use Rattle.text_defs.specs.Refusals.{IsOutside}
use Rattle.state_answers.proofs.Outside.{refusal_told}
use Rattle.species_runs.proofs.Pairs.{pair_answered, pair_too_large}
use Rattle.species_runs.proofs.answers.answer_groups.Goals as goal

pub returns-in-Err-NotSubgroup-clause-stop : goal.returns-in-Err-NotSubgroup-clause-stop
returns-in-Err-NotSubgroup-clause-stop c =
    let told = refusal_told c.args.g.now c.args.f.now c.args.whole c.args.sub c.requires.whole c.requires.sub
    c.in-Err-NotSubgroup.field-0 c.in-Err-NotSubgroup.ensures.refused c.in-Err-NotSubgroup.first
    c.in-Err-NotSubgroup.field-0-is in
    subst (λ (n : ℕ). IsOutside c.args.g.now c.args.f.now n) (sym c.in-Err-NotSubgroup.first-is) told

pub returns-in-Ok-answer_states-clause-text : goal.returns-in-Ok-answer_states-clause-text
returns-in-Ok-answer_states-clause-text c =
    pair_answered c.args.g.now c.args.f.now c.args.whole c.args.sub c.requires.whole c.requires.sub c.in-Ok.ensures.within
    c.in-Ok.states c.in-Ok-answer_states.text.items c.in-Ok.ensures.groups.0 c.in-Ok.ensures.groups.1 c.in-Ok.ensures.states
    c.in-Ok-answer_states.ensures.text c.in-Ok-answer_states.ensures.calm

pub returns-in-Err-TooLarge-clause-stop : goal.returns-in-Err-TooLarge-clause-stop
returns-in-Err-TooLarge-clause-stop c =
    pair_too_large c.args.g.now c.args.f.now c.args.whole c.args.sub c.requires.whole c.requires.sub c.in-Ok.ensures.within
    c.in-Ok.states c.in-Ok.ensures.groups.0 c.in-Ok.ensures.groups.1 (c.in-Err-TooLarge.ensures.grows c.in-Err-TooLarge.field-0-is)
