use Rattle.std.proofs.lemmas.Result.{err_from_is_err_and}
use Rattle.tensor_cli.proofs.StopLaws.{in_rank_memory}
use Rattle.tensor_cli.proofs.tensors.answer_word.Goals as goal

pub returns-in_err-jahn-clause-stop : goal.returns-in_err-jahn-clause-stop
returns-in_err-jahn-clause-stop g c =
    let p = err_from_is_err_and c.from_residual.result c.from_residual.ensures.1 in
    rw (p.1, p.2) (λ b told. in_rank_memory c.args.line.now c.args.word c.in_err-jahn.field-0.0 c.in_err-jahn.ensures.refused
    c.requires.told _ b.column)
