-- How a table of first components is made from a table of classes.
--   best_at         the component that is kept for a class, by the component that stands for the class
--   IsBestUpTo, IsBest    it is the first one in an order among the lower components; among all
--   link_of, AreLinks     the entries of a table of first components
use Rattle.std.specs.Prelude.{◌≡◌, ℕ, ◌<◌, Bool, false, List, length, get_or}
use Rattle.sign_moves.specs.declared.classes.Entry.{Entry}
use Rattle.sign_moves.specs.Signs.{times}
use Rattle.sign_moves.specs.Classes.{entry_at, first_at, sign_at, vanishes_at}

abbrev pub best_at : List ℕ → ℕ → ℕ
best_at best r = get_or best r 0

-- among the components below end
pub record IsBestUpTo (n : ℕ) (before : ℕ → ℕ → Bool) (classes : List Entry) (best : List ℕ) (end : ℕ) : Type 0 where
  pub len : length best ≡ n
  pub below : (r : ℕ) → r < n → best_at best r < n
  pub same : (r : ℕ) → r < n → first_at classes r ≡ r → first_at classes (best_at best r) ≡ r
  pub least : (r e : ℕ) → r < n → first_at classes r ≡ r → e < n → e < end → first_at classes e ≡ r → before e (best_at best r) ≡ false

abbrev pub IsBest : ℕ → (ℕ → ℕ → Bool) → List Entry → List ℕ → Type 0
IsBest n before classes best = IsBestUpTo n before classes best n

-- the first component of the class of c, and the sign with which c is carried there
abbrev pub link_of : List Entry → List ℕ → ℕ → Entry
link_of classes best c = record {
  first = best_at best (first_at classes c);
  sign = times (sign_at classes c) (sign_at classes (best_at best (first_at classes c)));
  vanishes = vanishes_at classes (first_at classes c);
}

pub record AreLinks (n : ℕ) (before : ℕ → ℕ → Bool) (classes links : List Entry) : Type 0 where
  pub len : length links ≡ n
  pub best : List ℕ
  pub is_best : IsBest n before classes best
  pub each : (c : ℕ) → c < n → entry_at links c ≡ link_of classes best c
