use Rattle.list_laws.proofs.Kit.{[], err_from_is_err_and}
use Rattle.request_lines.specs.Words.{GroupSlot}
use Rattle.request_lines.proofs.Positions.{group_later}
use Rattle.request_lines.proofs.read.two_groups.Goals as goal

pub returns-in_err-f : goal.returns-in_err-f
returns-in_err-f c =
    let p = err_from_is_err_and c.from_residual-in_err-f.result c.from_residual-in_err-f.ensures.1 in
    rw (p.1, p.2) (group_later c.args.line.now c.args.start c.in_ok-g.g c.in_ok-g.next c.in_ok-g.ensures.reads GroupSlot [] c.in_err-f.field-0.0.place c.in_err-f.ensures)
