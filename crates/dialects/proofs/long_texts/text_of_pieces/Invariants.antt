use Rattle.dialects.proofs.Pieces.{IsBegun}
use Rattle.dialects.proofs.long_texts.text_of_pieces.Given as goal

abbrev pub invariant-loop-piece : goal.invariant-loop-piece
invariant-loop-piece l = IsBegun l.tree l.pieces l.text.items l.piece-index
