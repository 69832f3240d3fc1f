-- Texts of matrices, what ends a line, and lists that have grown.
--   matrix_text     the nine entries of an operation row by row
--   ending_of       what ends the line of an operation
--   IsLonger        a list that begins with another
use Rattle.std.specs.Prelude.{◌≡◌, ℕ, Bool, true, false, List, [], ◌∷◌, ◌++◌, codes}
use Rattle.tensor_defs.specs.Operation.{Operation}
use Rattle.text_defs.specs.Prelude.{row_entries, spaced}

abbrev pub matrix_text : Operation → List ℕ
matrix_text g = spaced (row_entries g.row_1 ++ (row_entries g.row_2 ++ row_entries g.row_3))

abbrev pub ending_of : Bool → List ℕ
ending_of true = codes " primed" ++ 10 ∷ []
ending_of false = 10 ∷ []

pub record IsLonger (old new : List ℕ) : Type 0 where
  pub more : List ℕ
  pub grown : new ≡ old ++ more
