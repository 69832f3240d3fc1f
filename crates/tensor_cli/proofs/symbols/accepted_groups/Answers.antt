use Rattle.std.proofs.Common.{[], ◌∷◌}
use Rattle.std.proofs.lemmas.Result.{err_from_is_err_and}
use Rattle.tensor_cli.proofs.StopLaws.{first_unaccepted, second_unaccepted}
use Rattle.tensor_cli.proofs.symbols.accepted_groups.Goals as goal

pub returns-in_err-one-clause-stop : goal.returns-in_err-one-clause-stop
returns-in_err-one-clause-stop c =
    let p = err_from_is_err_and c.from_residual.result c.from_residual.ensures.1 in
    rw (p.1, p.2) (first_unaccepted c.args.g.now (c.args.h.now ∷ []) c.in_err-one.field-0.0 c.in_err-one.ensures.refused)

pub returns-in-Err-clause-stop : goal.returns-in-Err-clause-stop
returns-in-Err-clause-stop c =
    second_unaccepted c.args.g.now c.args.h.now c.in-Err.stop c.in_ok-one.ensures.accepted c.in-Err.ensures.refused
