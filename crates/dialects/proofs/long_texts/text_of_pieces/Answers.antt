use Rattle.std.proofs.Common.{◌<◌, length, arith}
use Rattle.dialects.proofs.Pieces.{begun_marked, begun_bare, begun_all}
use Rattle.dialects.proofs.long_texts.text_of_pieces.Goals as goal
use Rattle.dialects.proofs.long_texts.text_of_pieces.Goals.{then-has_primed+in_ok-extend_from_slice-2, else-has_primed}

pub loop-piece-preserved : goal.loop-piece-preserved
loop-piece-preserved c =
    let t = c.args.tree.now in
    let ps = c.args.pieces.now in
    let i = c.loop-piece.piece-index in
    let lt : i < length ps = omega arith in
    elim c.if-has_primed.branch [
      | then-has_primed+in_ok-extend_from_slice-2 w ↦
          rw w.text-is
          (begun_marked t ps c.loop-piece.text.items i _ c.has_primed.result c.loop-piece.invariant lt c.has_primed.ensures
          c.extend_from_slice.new.self.items c.in_ok-extend_from_slice.ensures.items w.if-has_primed.true
          w.extend_from_slice-then-has_primed.new.self.items w.in_ok-extend_from_slice-2.ensures.items)
      | else-has_primed w ↦
          rw w.text-is
          (begun_bare t ps c.loop-piece.text.items i _ c.has_primed.result c.loop-piece.invariant lt c.has_primed.ensures
          c.extend_from_slice.new.self.items c.in_ok-extend_from_slice.ensures.items w.if-has_primed.false)
    ]

pub returns : goal.returns
returns c = begun_all c.args.tree.now c.args.pieces.now c.loop-piece.text.items c.loop-piece.piece-index c.loop-piece.invariant (omega arith)
