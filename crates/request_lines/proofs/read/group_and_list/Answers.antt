use Rattle.list_laws.proofs.Kit.{[], err_from_is_err_and}
use Rattle.request_lines.specs.Words.{ListSlot}
use Rattle.request_lines.proofs.Positions.{group_later}
use Rattle.request_lines.proofs.read.group_and_list.Goals as goal

pub returns-in_err-j : goal.returns-in_err-j
returns-in_err-j c =
    let p = err_from_is_err_and c.from_residual-in_err-j.result c.from_residual-in_err-j.ensures.1 in
    rw (p.1, p.2) (group_later c.args.line.now c.args.start c.in_ok-g.g c.in_ok-g.next c.in_ok-g.ensures.reads (ListSlot c.args.format) [] c.in_err-j.field-0.0.place c.in_err-j.ensures)
