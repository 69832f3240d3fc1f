-- The tables of the code, as the definitions see them.
--   piece_of, form_of    a piece and a long form of the code
use Rattle.std.specs.Prelude.{map}
use Rattle.dialects.specs.LongTexts as defs
use Rattle.dialects.specs.declared.forms.LongForm.{LongForm}
use Rattle.dialects.specs.declared.forms.Piece.{Piece}

abbrev pub piece_of : Piece → defs.Piece
piece_of p = record { text = p.text.now; operator = record { kind = p.kind; direction = p.direction } }

abbrev pub form_of : LongForm → defs.LongForm
form_of f = record { parent = f.parent; pieces = map piece_of f.pieces.now; ending = f.ending.now }
