use Rattle.list_laws.proofs.Kit.{◌∷◌, [], err_from_is_err_and}
use Rattle.request_lines.specs.Words.{GroupSlot, ListSlot}
use Rattle.request_lines.proofs.Positions.{group_later}
use Rattle.request_lines.proofs.read.two_groups_and_list.Goals as goal

pub returns-in_err-f : goal.returns-in_err-f
returns-in_err-f c =
    let p = err_from_is_err_and c.from_residual-in_err-f.result c.from_residual-in_err-f.ensures.1 in
    rw (p.1, p.2) (group_later c.args.line.now c.args.start c.in_ok-g.g c.in_ok-g.second c.in_ok-g.ensures.reads GroupSlot (ListSlot c.args.format ∷ []) c.in_err-f.field-0.0.place (c.in_err-f.ensures.reads (ListSlot c.args.format) []))

pub returns-in_err-j : goal.returns-in_err-j
returns-in_err-j c =
    let p = err_from_is_err_and c.from_residual-in_err-j.result c.from_residual-in_err-j.ensures.1 in
    rw (p.1, p.2) (group_later c.args.line.now c.args.start c.in_ok-g.g c.in_ok-g.second c.in_ok-g.ensures.reads GroupSlot (ListSlot c.args.format ∷ []) c.in_err-j.field-0.0.place (group_later c.args.line.now c.in_ok-g.second c.in_ok-f.f c.in_ok-f.third c.in_ok-f.ensures.reads (ListSlot c.args.format) [] c.in_err-j.field-0.0.place c.in_err-j.ensures))
