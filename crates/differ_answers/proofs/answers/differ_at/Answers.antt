use Rattle.list_laws.proofs.Kit.{inl, inr, IfErr-weaker, on_ok_weaker}
use Rattle.jahn_grammar.specs.Symbols.{symbol_of}
use Rattle.reduced_form.proofs.ToldLaws.{err_same}
use Rattle.differ_answers.proofs.StateTexts.{grows_back, grows_told, text_told}
use Rattle.differ_answers.proofs.answers.differ_at.Goals as goal

pub returns-in_err-form-clause-grows : goal.returns-in_err-form-clause-grows
returns-in_err-form-clause-grows g c =
    let s = c.args.states.now in
    err_same c.from_residual.result c.in_err-form.field-0.0 _ c.from_residual.ensures.1 (λ p.
    grows_told c.args.g.now c.args.f.now (symbol_of c.args.jahn.now) s.whole s.sub c.requires.whole.members c.requires.sub.members
    (inl (c.in_err-form.ensures.grows p (symbol_of c.args.jahn.now) c.requires.shape)))

pub returns-in_err-form-clause-plain : goal.returns-in_err-form-clause-plain
returns-in_err-form-clause-plain g c =
    err_same c.from_residual.result c.in_err-form.field-0.0 _ c.from_residual.ensures.1 (λ p. λ plain.
    c.in_err-form.ensures.plain p (λ k h. plain k ((c.requires.sub.members k).0 h)))

pub write_answer-requires-clause-fits : goal.write_answer-requires-clause-fits
write_answer-requires-clause-fits g c = c.in_ok-form.ensures.fits (symbol_of c.args.jahn.now) c.requires.shape

pub returns-clause-ok : goal.returns-clause-ok
returns-clause-ok g c =
    let s = c.args.states.now in
    on_ok_weaker c.write_answer.result
    (text_told c.args.g.now c.args.f.now (symbol_of c.args.jahn.now) s.whole s.sub c.requires.whole.members c.requires.sub.members
    s.reps c.count-count.ensures.states c.args.out.now.items c.write_answer.new.out.items) c.write_answer.ensures.ok

pub returns-clause-calm : goal.returns-clause-calm
returns-clause-calm g c =
    let s = c.args.states.now in
    let j = symbol_of c.args.jahn.now in
    on_ok_weaker c.write_answer.result (λ told. λ w.
    elim (grows_back c.args.g.now c.args.f.now j s.whole s.sub c.requires.whole.members c.requires.sub.members w) as (λ _. ⊥) [
      | inl grows ↦ c.in_ok-form.ensures.calm j c.requires.shape grows
      | inr grows ↦ told.written.calm grows
    ]) c.write_answer.ensures.ok

pub returns-clause-grows : goal.returns-clause-grows
returns-clause-grows g c =
    let s = c.args.states.now in
    IfErr-weaker c.write_answer.result _ _ (λ e grows large.
    grows_told c.args.g.now c.args.f.now (symbol_of c.args.jahn.now) s.whole s.sub c.requires.whole.members c.requires.sub.members
    (inr (grows large))) c.write_answer.ensures.grows

pub returns-clause-plain : goal.returns-clause-plain
returns-clause-plain g c =
    IfErr-weaker c.write_answer.result _ _ (λ e units large. λ plain.
    units large (c.in_ok-form.ensures.units (λ k h. plain k ((c.requires.sub.members k).0 h)))) c.write_answer.ensures.units
