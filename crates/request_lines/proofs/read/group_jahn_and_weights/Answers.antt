use Rattle.list_laws.proofs.Kit.{◌∷◌, [], err_from_is_err_and}
use Rattle.request_lines.specs.Words.{JahnSlot, WeightsSlot}
use Rattle.request_lines.proofs.Positions.{group_later, jahn_later}
use Rattle.request_lines.proofs.read.group_jahn_and_weights.Goals as goal

pub returns-in_err-j : goal.returns-in_err-j
returns-in_err-j c =
    let p = err_from_is_err_and c.from_residual-in_err-j.result c.from_residual-in_err-j.ensures.1 in
    rw (p.1, p.2) (group_later c.args.line.now c.args.start c.in_ok-g.g c.in_ok-g.second c.in_ok-g.ensures.reads JahnSlot (WeightsSlot ∷ []) c.in_err-j.field-0.0.place (c.in_err-j.ensures.reads WeightsSlot []))

pub returns-in_err-weights : goal.returns-in_err-weights
returns-in_err-weights c =
    let p = err_from_is_err_and c.from_residual-in_err-weights.result c.from_residual-in_err-weights.ensures.1 in
    rw (p.1, p.2) (group_later c.args.line.now c.args.start c.in_ok-g.g c.in_ok-g.second c.in_ok-g.ensures.reads JahnSlot (WeightsSlot ∷ []) c.in_err-weights.field-0.0.place (jahn_later c.args.line.now c.in_ok-g.second c.in_ok-j.j c.in_ok-j.third c.in_ok-j.ensures.reads WeightsSlot [] c.in_err-weights.field-0.0.place c.in_err-weights.ensures))
