use Rattle.std.proofs.Common.{[], ◌+◌, ◌≤◌, ◌∙◌, ap, refl, subst, sym, Err}
use Rattle.std.proofs.lemmas.Result.{err_from_is_err_and}
use Rattle.tensor_defs.specs.Prelude.{JahnSymbol, rank, HasVoigtShape}
use Rattle.text_defs.specs.Prelude.{JahnGrows, JahnAt, Voigt}
use Rattle.jahn_grammar.specs.Symbols.{symbol_of}
use Rattle.line_runs.specs.declared.refusals.Word.TheVariants as word
use Rattle.tensor_cli.specs.Kinds.{IsVoigtFree, group_at}
use Rattle.tensor_cli.proofs.Grown.{voigt_grown}
use Rattle.tensor_cli.proofs.StopLaws.{as_refusal, first_unaccepted, one_large, rank_stop}
use Rattle.tensor_cli.proofs.kinds.voigt.Goals as goal

pub returns-in_err-group-clause-stop : goal.returns-in_err-group-clause-stop
returns-in_err-group-clause-stop c =
    let p = err_from_is_err_and c.from_residual.result c.from_residual.ensures.1 in
    rw (p.1, p.2) (λ b told. first_unaccepted c.args.g.now [] c.in_err-group.field-0.0 c.in_err-group.ensures.refused
    (Voigt (group_at c.args.g.now) b c.args.weights) [] refl)

pub returns-in_err-jahn-clause-stop : goal.returns-in_err-jahn-clause-stop
returns-in_err-jahn-clause-stop c =
    let p = err_from_is_err_and c.from_residual-in_err-jahn.result c.from_residual-in_err-jahn.ensures.1 in
    rw (p.1, p.2) (λ b told. rank_stop c.args.line.now c.args.j c.in_err-jahn.field-0.0 c.in_err-jahn.ensures.refused b told
    (Voigt (group_at c.args.g.now) b c.args.weights) refl (c.in_ok-group.ensures.accepted, tt))

pub returns-in-Ok-clause-ok : goal.returns-in-Ok-clause-ok
returns-in-Ok-clause-ok c = λ b told.
    voigt_grown c.args.g.now c.args.out.now.items c.answer_voigt.new.out.items b (symbol_of c.in_ok-jahn.jahn) c.args.weights
    (ap (λ (a : JahnAt). a.jahn) (c.in_ok-jahn.ensures.jahn b told)) c.in_ok-group.ensures.accepted c.in_ok-jahn.ensures.rank
    c.in-Ok.ensures.calm c.in-Ok.ensures.ok

pub returns-in-Err-Shape-clause-stop : goal.returns-in-Err-Shape-clause-stop
returns-in-Err-Shape-clause-stop c = λ b told.
    let q = Voigt (group_at c.args.g.now) b c.args.weights in
    let is = ap (λ (a : JahnAt). a.jahn) (c.in_ok-jahn.ensures.jahn b told) in
    let other = c.answer_voigt.ensures.shape.0 (c.in-Err-Shape.is ∙ ap Err c.in-Err-Shape.field-0-is) in
    as_refusal q c.at.result (record { word = word.Shape; column = c.args.j.start + 1 }) c.at.ensures (
      (c.in_ok-group.ensures.accepted, tt),
      (subst (λ (k : JahnSymbol). rank k ≤ 6) (sym is) c.in_ok-jahn.ensures.rank, tt),
      (subst (λ (k : JahnSymbol). HasVoigtShape k.factors → ⊥) (sym is) other, sym told.column),
    )

pub returns-in-Err-TooLarge-clause-stop : goal.returns-in-Err-TooLarge-clause-stop
returns-in-Err-TooLarge-clause-stop c = λ b told.
    let q = Voigt (group_at c.args.g.now) b c.args.weights in
    let is = ap (λ (a : JahnAt). a.jahn) (c.in_ok-jahn.ensures.jahn b told) in
    let large = c.in-Err-TooLarge.ensures.grows c.in-Err-TooLarge.field-0-is in
    as_refusal q c.at-in-Err-TooLarge.result (record { word = word.TooLarge; column = c.args.j.start + 1 }) c.at-in-Err-TooLarge.ensures
    (one_large q b (c.args.j.start + 1) refl told.column (c.in_ok-group.ensures.accepted, tt)
    (subst (λ (k : JahnSymbol). rank k ≤ 6) (sym is) c.in_ok-jahn.ensures.rank, tt)
    (subst (λ (k : JahnSymbol). HasVoigtShape k.factors) (sym is) (large.0, large.1)) (λ k x n. n)
    (subst (λ (k : JahnSymbol). JahnGrows q (record { jahn = k; column = b.column })) (sym is) large))

pub returns-in-Ok-clause-free : goal.returns-in-Ok-clause-free
returns-in-Ok-clause-free c = λ b told.
    subst (λ (k : JahnSymbol). IsVoigtFree c.args.g.now.tree k c.args.weights c.in-Ok.free)
    (sym (ap (λ (a : JahnAt). a.jahn) (c.in_ok-jahn.ensures.jahn b told))) c.in-Ok.ensures.free
