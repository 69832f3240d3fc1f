use Rattle.std.proofs.Common.{[], ap, refl, subst, sym, ◌≤◌, ◌+◌}
use Rattle.std.proofs.lemmas.Result.{err_from_is_err_and}
use Rattle.tensor_defs.specs.Jahn.{JahnSymbol, rank}
use Rattle.text_defs.specs.Prelude.{JahnGrows, JahnAt, Same}
use Rattle.jahn_grammar.specs.Symbols.{symbol_of}
use Rattle.line_runs.specs.declared.refusals.Word.TheVariants as word
use Rattle.tensor_cli.specs.Kinds.{group_at}
use Rattle.tensor_cli.proofs.Grown.{same_grown}
use Rattle.tensor_cli.proofs.StopLaws.{as_refusal, one_large, rank_stop}
use Rattle.tensor_cli.proofs.kinds.same.Goals as goal

pub returns-in_err-one-clause-stop : goal.returns-in_err-one-clause-stop
returns-in_err-one-clause-stop c =
    let p = err_from_is_err_and c.from_residual.result c.from_residual.ensures.1 in
    rw (p.1, p.2) (λ b told. c.in_err-one.ensures.stop (Same (group_at c.args.g.now) (group_at c.args.h.now) b) [] refl)

pub returns-in_err-jahn-clause-stop : goal.returns-in_err-jahn-clause-stop
returns-in_err-jahn-clause-stop c =
    let p = err_from_is_err_and c.from_residual-in_err-jahn.result c.from_residual-in_err-jahn.ensures.1 in
    rw (p.1, p.2) (λ b told. rank_stop c.args.line.now c.args.j c.in_err-jahn.field-0.0 c.in_err-jahn.ensures.refused b told
    (Same (group_at c.args.g.now) (group_at c.args.h.now) b) refl
    (c.in_ok-one.ensures.first.2, (c.in_ok-one.ensures.second.2, tt)))

pub returns-in-Ok-clause-ok : goal.returns-in-Ok-clause-ok
returns-in-Ok-clause-ok c = λ b told.
    same_grown c.args.g.now c.args.h.now c.args.out.now.items c.answer_same.new.out.items b (symbol_of c.in_ok-jahn.jahn)
    (ap (λ (a : JahnAt). a.jahn) (c.in_ok-jahn.ensures.jahn b told)) c.in_ok-one.ensures.first.2 c.in_ok-one.ensures.second.2
    c.in_ok-jahn.ensures.rank c.in-Ok.ensures.calm_one c.in-Ok.ensures.calm_other c.in-Ok.ensures.ok

pub returns-in-Err-TooLarge-clause-stop : goal.returns-in-Err-TooLarge-clause-stop
returns-in-Err-TooLarge-clause-stop c = λ b told.
    let q = Same (group_at c.args.g.now) (group_at c.args.h.now) b in
    let is = ap (λ (a : JahnAt). a.jahn) (c.in_ok-jahn.ensures.jahn b told) in
    as_refusal q c.at.result (record { word = word.TooLarge; column = c.args.j.start + 1 }) c.at.ensures
    (one_large q b (c.args.j.start + 1) refl told.column (c.in_ok-one.ensures.first.2, (c.in_ok-one.ensures.second.2, tt))
    (subst (λ (k : JahnSymbol). rank k ≤ 6) (sym is) c.in_ok-jahn.ensures.rank, tt) tt (λ k x n. n)
    (subst (λ (k : JahnSymbol). JahnGrows q (record { jahn = k; column = b.column })) (sym is)
    (c.in-Err-TooLarge.ensures.grows c.in-Err-TooLarge.field-0-is)))
