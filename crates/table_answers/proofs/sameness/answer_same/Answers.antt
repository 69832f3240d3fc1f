use Rattle.list_laws.proofs.Kit.{◌≡◌, ◌++◌, ◌⊎◌, Bool, inl, inr, on_ok_weaker}
use Rattle.tensor_laws.proofs.Sets.{same_back}
use Rattle.tensor_defs.specs.Prelude.{Grows, InGroup, AdmitSame, index_before}
use Rattle.text_defs.specs.AnswerTexts.{same_text}
use Rattle.jahn_grammar.specs.Symbols.{symbol_of}
use Rattle.magnetic_groups.specs.Sets.{In}
use Rattle.reduced_form.proofs.SetLaws.{admitted_same, grows_same}
use Rattle.table_answers.proofs.Told.{ok_always, same_grows, written_as}
use Rattle.table_answers.proofs.sameness.answer_same.Goals as goal

pub returns-in-Ok-clause-ok : goal.returns-in-Ok-clause-ok
returns-in-Ok-clause-ok c =
    let j = symbol_of c.args.jahn.now in
    let one = In c.args.one.now in
    let other = In c.args.other.now in
    let G = InGroup c.args.g.now in
    let H = InGroup c.args.h.now in
    let told = c.in-Ok.ensures.0 in
    on_ok_weaker c.write_same.result (λ written.
    written_as (AdmitSame j G H)
    (λ (same : Bool). c.write_same.new.out.items ≡ c.args.out.now.items ++ same_text c.args.g.now c.args.h.now j same) c.in-Ok.same (
      (λ t. admitted_same j one G other H c.requires.one.members c.requires.other.members (told.0 t)),
      (λ a.
          told.1
          (admitted_same j G one H other (same_back one G c.requires.one.members) (same_back other H c.requires.other.members) a)),
    ) written) c.write_same.ensures.ok

pub returns-in-Ok-clause-calm_one : goal.returns-in-Ok-clause-calm_one
returns-in-Ok-clause-calm_one c =
    let one = In c.args.one.now in
    let G = InGroup c.args.g.now in
    ok_always c.write_same.result (λ w.
    c.in-Ok.ensures.1 (grows_same (symbol_of c.args.jahn.now) G one index_before (same_back one G c.requires.one.members) w))

pub returns-in-Ok-clause-calm_other : goal.returns-in-Ok-clause-calm_other
returns-in-Ok-clause-calm_other c =
    let other = In c.args.other.now in
    let H = InGroup c.args.h.now in
    ok_always c.write_same.result (λ w.
    c.in-Ok.ensures.2 (grows_same (symbol_of c.args.jahn.now) H other index_before (same_back other H c.requires.other.members) w))

pub returns-in-Err-clause-grows : goal.returns-in-Err-clause-grows
returns-in-Err-clause-grows c = λ large.
    let j = symbol_of c.args.jahn.now in
    let one = In c.args.one.now in
    let other = In c.args.other.now in
    let G = InGroup c.args.g.now in
    let H = InGroup c.args.h.now in
    elim (same_grows j one other c.in-Err.fault c.in-Err.ensures large) as (λ _. Grows j G index_before ⊎ Grows j H index_before) [
      | inl w ↦ inl (grows_same j one G index_before c.requires.one.members w)
      | inr w ↦ inr (grows_same j other H index_before c.requires.other.members w)
    ]
