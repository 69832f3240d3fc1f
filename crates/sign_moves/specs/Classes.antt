-- Tables of the classes into which moves divide the components.
--   entry_at, first_at, sign_at, vanishes_at    what a table has at a component
--   IsSound         each component is carried to the lower one that the table has, with its sign
--   IsFixed         no move leads to a class that begins earlier
--   Clashes         a class is reached with both signs
--   IsClassTable    the classes, and where each kept list is zero
--   total_of        the sum of the first components
--   IsFirstOfClass  the first component of a class in an order, and the sign
use Rattle.std.specs.Prelude.{◌≡◌, ◌≢◌, ℕ, ◌<◌, ◌≤◌, List, length, get_or, Bool, true, false, sum_by}
use Rattle.sign_moves.specs.declared.classes.Entry.{Entry}
use Rattle.tensor_defs.specs.declared.Sign.{Sign}
use Rattle.tensor_defs.specs.declared.Sign.TheVariants.{Plus}
use Rattle.sign_moves.specs.Signs.{times}
use Rattle.sign_moves.specs.Moves.{Moves, Reaches}

-- what a table has at a component
abbrev pub entry_at : List Entry → ℕ → Entry
entry_at es c = get_or es c (record { first = 0; sign = Plus; vanishes = false })

abbrev pub first_at : List Entry → ℕ → ℕ
first_at es c = (entry_at es c).first

abbrev pub sign_at : List Entry → ℕ → Sign
sign_at es c = (entry_at es c).sign

abbrev pub vanishes_at : List Entry → ℕ → Bool
vanishes_at es c = (entry_at es c).vanishes

-- each component is carried to the one that the table has, with its sign
pub record IsSound (n : ℕ) (m : Moves) (es : List Entry) : Type 0 where
  pub len : length es ≡ n
  pub below : (c : ℕ) → c < n → first_at es c < n
  pub lower : (c : ℕ) → c < n → first_at es c ≤ c
  pub reached : (c : ℕ) → c < n → Reaches m c (first_at es c) (sign_at es c)

-- no move leads to a lower first component
pub record IsFixed (n : ℕ) (m : Moves) (es : List Entry) : Type 0 where
  pub fixed : (k c : ℕ) → k < m.count → c < n → first_at es c ≤ first_at es (m.carried k c)

-- a component of the class of r is carried to r with both signs
pub record Clashes (n : ℕ) (m : Moves) (es : List Entry) (r : ℕ) : Type 0 where
  pub move : ℕ
  pub component : ℕ
  pub is_move : move < m.count
  pub is_component : component < n
  pub first : first_at es component ≡ r
  pub differs : sign_at es component ≢ times (m.sign move component) (sign_at es (m.carried move component))

-- the classes and where each kept list is zero
pub record IsClassTable (n : ℕ) (m : Moves) (es : List Entry) : Type 0 where
  pub sound : IsSound n m es
  pub fixed : IsFixed n m es
  pub clashing : (r : ℕ) → r < n → vanishes_at es r ≡ true → Clashes n m es r
  pub clean : (k c : ℕ) → k < m.count → c < n → vanishes_at es (first_at es c) ≡ false → sign_at es c ≡ times (m.sign k c) (sign_at es (m.carried k c))

-- the sum of the first components, which falls with each component that is taken over into a class
abbrev pub total_of : List Entry → ℕ
total_of es = sum_by (λ e. e.first) es

-- the first component of the class of c in an order, and the sign with which c is carried there
pub record IsFirstOfClass (n : ℕ) (es : List Entry) (before : ℕ → ℕ → Bool) (c d : ℕ) (s : Sign) : Type 0 where
  pub below : d < n
  pub same_class : first_at es d ≡ first_at es c
  pub first : (e : ℕ) → e < n → first_at es e ≡ first_at es c → before e d ≡ false
  pub sign : s ≡ times (sign_at es c) (sign_at es d)
