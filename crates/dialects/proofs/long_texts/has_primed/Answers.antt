use Rattle.list_laws.proofs.Kit.{◌∙◌, sym, ap, true}
use Rattle.tensor_defs.specs.declared.Setting.{Setting}
use Rattle.tensor_defs.specs.declared.Direction.{Direction}
use Rattle.tensor_defs.specs.Symbols.{operation_of, turned_to}
use Rattle.dialects.specs.Tables.{piece_of}
use Rattle.dialects.proofs.Pieces.{primed_told}
use Rattle.dialects.proofs.long_texts.has_primed.Goals as goal

pub returns-in-Some : goal.returns-in-Some
returns-in-Some c =
    let p = c.args.piece.now in
    primed_told c.args.tree.now (piece_of p).operator c.args.group.now c.in-Some.primed c.has.result c.requires
    (sym c.is_grey.ensures.value ∙ c.if-is_grey.false)
    (ap (λ (s : Setting). operation_of p.kind (turned_to s p.direction) true) (sym c.setting.ensures)
    ∙ ap (λ (d : Direction). operation_of p.kind d true) (sym c.turned_to.ensures) ∙ sym c.generator.ensures ∙ c.in-Some.is)
    c.has.ensures
