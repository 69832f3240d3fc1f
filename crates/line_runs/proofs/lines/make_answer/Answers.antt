use Rattle.std.proofs.Common.{◌≡◌, ◌↔◌, IsTrue, true, false, sym, rules, subst, List, ℕ}
use Rattle.text_defs.specs.Prelude.{IsAnswer, IsRefused}
use Rattle.line_runs.specs.declared.lines.LineEnd.TheVariants.{Refused}
use Rattle.line_runs.proofs.LongLines.{held_slow, on_err, refused_long, stands_false}
use Rattle.line_runs.proofs.lines.make_answer.Goals as goal

pub returns-then-is_too_long-clause-answer : goal.returns-then-is_too_long-clause-answer
returns-then-is_too_long-clause-answer g c =
    let made = c.in_ok-refuse_long.ensures.ok in
    record { answer = made.0; grown = made.1; is_answer = λ whole stands. made.2 whole (c.if-is_too_long.ensures whole stands) }

pub returns-then-is_too_long-clause-refused : goal.returns-then-is_too_long-clause-refused
returns-then-is_too_long-clause-refused g c = λ whole stands.
    refused_long c.args.format c.args.number whole (c.if-is_too_long.ensures whole stands)

pub returns-in_err-end-clause-memory : goal.returns-in_err-end-clause-memory
returns-in_err-end-clause-memory g c =
    on_err c.from_residual-in_err-end.result (λ whole stands.
    held_slow c.args.format c.args.number c.args.is_long c.args.line.now c.if-is_too_long.ensures.0
    (λ quick.
    let bad : false ≡ true = c.in_err-end.ensures.room c.requires.room quick in
    cc)
    whole stands)

pub returns-clause-answer : goal.returns-clause-answer
returns-clause-answer g c =
    let end = c.in_ok-end.ensures.ok in
    record {
      answer = end.answer;
      grown = end.grown;
      is_answer = λ whole stands.
          subst (λ (w : List ℕ). IsAnswer c.args.format c.args.number w end.answer)
          (sym (stands_false c.args.is_long c.args.line.now whole c.if-is_too_long.ensures.0 stands)) end.is_answer;
    }

pub returns-clause-refused : goal.returns-clause-refused
returns-clause-refused g c = λ whole stands.
    let end = c.in_ok-end.ensures.ok in
    let same = stands_false c.args.is_long c.args.line.now whole c.if-is_too_long.ensures.0 stands in
    let told : IsTrue c.eq.result ↔ (c.in_ok-end.end ≡ Refused) = search rules in
    subst (λ (w : List ℕ). IsTrue c.eq.result ↔ IsRefused c.args.format c.args.number w) (sym same)
    (λ yes. end.refused.0 (told.0 yes), λ no. told.1 (end.refused.1 no))
