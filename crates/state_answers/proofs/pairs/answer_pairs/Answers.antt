use Rattle.list_laws.proofs.Kit.{◌≡◌, ℕ, List, ◌++◌, ap, subst, ◌∙◌, sym, on_ok_weaker, err_from_is_err_and}
use Rattle.std.specs.Prelude.{map, length}
use Rattle.tensor_defs.specs.Prelude.{Operation, InGroup, SameSet, AreStates, ArePairClasses}
use Rattle.tensor_defs.specs.PairClasses as defs
use Rattle.text_defs.specs.AnswerTexts.{pairs_text}
use Rattle.magnetic_groups.specs.Sets.{In}
use Rattle.twin_pairs.specs.Classes.{class_of}
use Rattle.state_answers.proofs.SameSets.{states_same, classes_same}
use Rattle.state_answers.proofs.Outside.{none_outside, refusal_told}
use Rattle.state_answers.proofs.pairs.answer_pairs.Goals as goal

pub returns-in_err-states-clause-refused : goal.returns-in_err-states-clause-refused
returns-in_err-states-clause-refused c =
    let told = refusal_told c.args.g.now c.args.f.now c.args.whole c.args.sub c.requires.whole c.requires.sub c.in_err-states.field-0.0 c.in_err-states.ensures.refused in
    let p = err_from_is_err_and c.from_residual.result c.from_residual.ensures.1 in rw (p.1, p.2) told

pub returns-clause-ok : goal.returns-clause-ok
returns-clause-ok c =
    let s = c.in_ok-states.states in
    let g : Operation → Type 0 = InGroup c.args.g.now in
    let f : Operation → Type 0 = InGroup c.args.f.now in
    let cs : List defs.PairClass = map class_of c.in_ok-classes.classes.items in
    let whole : SameSet (In s.whole) g = subst (λ (xs : List Operation). SameSet (In xs) g) (sym c.in_ok-states.ensures.groups.0) c.requires.whole.members in
    let sub : SameSet (In s.sub) f = subst (λ (xs : List Operation). SameSet (In xs) f) (sym c.in_ok-states.ensures.groups.1) c.requires.sub.members in
    let states : AreStates g f s.reps = states_same (In s.whole) g (In s.sub) f whole sub s.reps c.count.ensures.states in
    let classes : ArePairClasses g f s.reps cs = classes_same (In s.whole) g (In s.sub) f whole sub s.reps cs c.in_ok-classes.ensures.ok in
    let told : c.write_pairs.new.out.items ≡ c.args.out.now.items ++ pairs_text c.args.g.now c.args.f.now c.count.result (map class_of c.deref.result.now) → c.write_pairs.new.out.items ≡ c.args.out.now.items ++ pairs_text c.args.g.now c.args.f.now (length s.reps) cs =
    λ written. written
    ∙ ap (λ (n : ℕ). c.args.out.now.items ++ pairs_text c.args.g.now c.args.f.now n (map class_of c.deref.result.now)) c.count.ensures.is
    ∙ ap (λ xs. c.args.out.now.items ++ pairs_text c.args.g.now c.args.f.now (length s.reps) (map class_of xs)) c.deref.ensures.value in
    on_ok_weaker c.write_pairs.result (λ written. (s.reps, states, cs, classes, told written)) c.write_pairs.ensures.ok

pub returns-clause-within : goal.returns-clause-within
returns-clause-within c =
    on_ok_weaker c.write_pairs.result (λ _. none_outside c.args.g.now c.args.f.now c.args.whole c.args.sub c.requires.whole c.requires.sub c.in_ok-states.ensures.within) c.write_pairs.ensures.ok
