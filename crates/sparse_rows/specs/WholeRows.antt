-- Rows of whole numbers.
--   whole_part, whole_line    what an entry gives to an unknown; the line of a list of entries
--   AreWhole        the unknowns rise, and each whole number has a magnitude below the limit
--   IsWholeRow      a row of fractions with the line of the whole numbers
-- Source: this project's own.
use Rattle.std.specs.Prelude.{◌≡◌, ◌<◌, List, [], ◌∷◌, cond, nat_eq, unsigned_abs}
use Rattle.tensor_defs.specs.Prelude.{Each, add, num_zero, whole, limit, Line}
use Rattle.sparse_rows.specs.Rows.{coeff, IsRow}
use Rattle.sparse_rows.specs.declared.entry.Entry.{Entry}
use Rattle.sparse_rows.specs.declared.whole.WholeEntry.{WholeEntry}

unfoldable pub whole_part : WholeEntry → Line
whole_part e u = cond (nat_eq u e.unknown) (whole e.number) num_zero

abbrev pub whole_line : List WholeEntry → Line
whole_line [] u = num_zero
whole_line (e ∷ es) u = add (whole_part e u) (whole_line es u)

abbrev pub AreWhole : List WholeEntry → Type 0
AreWhole [] = Unit {0}
AreWhole (e ∷ es) = Each (λ f. e.unknown < f.unknown) es × (unsigned_abs e.number < limit) × AreWhole es

pub record IsWholeRow (ws : List WholeEntry) (es : List Entry) : Type 0 where
  pub is_row : IsRow es
  pub same : coeff es ≡ whole_line ws
