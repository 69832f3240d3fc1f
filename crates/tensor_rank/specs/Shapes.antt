-- What a shape stands for.
--   IsShapeOf       the shape of a Jahn symbol of a rank
--   IsFirstBelow    the first component of a class in an order, among those below an end
use Rattle.std.specs.Prelude.{◌≡◌, ℕ, ◌<◌, Bool, false, List}
use Rattle.tensor_defs.specs.Jahn.{JahnSymbol, rank, body_brackets}
use Rattle.sign_moves.specs.declared.classes.Entry.{Entry}
use Rattle.sign_moves.specs.Classes.{first_at}
use Rattle.tensor_rank.specs.Symmetry.{exchanges_of}
use Rattle.tensor_rank.specs.ShapeValue.{ShapeValue}

pub record IsShapeOf (j : JahnSymbol) (r : ℕ) (s : ShapeValue) : Type 0 where
  pub rank_is : rank j ≡ r
  pub marks_are : s.marks ≡ j.marks
  pub exchanges_are : s.exchanges ≡ exchanges_of (body_brackets j.factors 0)

pub record IsFirstBelow (n : ℕ) (es : List Entry) (before : ℕ → ℕ → Bool) (root best end : ℕ) : Type 0 where
  pub below : best < n
  pub same_class : first_at es best ≡ root
  pub first : (e : ℕ) → e < end → first_at es e ≡ root → before e best ≡ false
