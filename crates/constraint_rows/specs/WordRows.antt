-- The classes of components on the hexagonal axes, and the rows of words over the components that stand for the others.
--   carrier_of      the representatives and signs that a table of classes tells
--   IsKilled        a diagonal element has coefficient -1 from a component to itself
--   Part, part_at, row_at, row_sum    a component with a whole number; what a list of them has at a component, and what
--                   it adds up to on a component list
--   AreParts        components of a rank, none of their whole numbers 0
--   IsOwn           a component that is its own representative
--   AreSound        each representative is its own, and isn't later than the component
--   IsGiven         a row that may be given to the elimination on these classes
--   IsCarriedRow    the row that coefficients of components give, carried over to representatives
--   AreWordRows     the even and the odd rows of words, in their order
-- Source: a rotation about z multiplies the sum of a word by a unit number; this project's own form of it.
use Rattle.std.specs.Prelude.{◌≡◌, ◌≢◌, ℕ, ◌<◌, ◌≤◌, ◌^◌, Bool, false, List, [], ◌∷◌, cond, nat_eq, unsigned_abs, Option, Some, None}
use lib.IntN.{pos}
use Rattle.tensor_defs.specs.declared.Sign.{Sign}
use Rattle.tensor_defs.specs.declared.Sign.TheVariants.{Plus}
use Rattle.tensor_defs.specs.Prelude.{Carrier, share, IsDiagonal, Each, IsRising, Number, add, mul, neg, num_one, num_zero, whole, limit, Operation, Index}
use Rattle.tensor_defs.specs.Prelude.{Marks, Tensor, coefficient, component_number, index_of, sign, sum_indices, Word, even_row, odd_row}
use Rattle.sign_moves.specs.declared.classes.Entry.{Entry}
use Rattle.sign_moves.specs.Signs.{signed}
use Rattle.constraint_rows.specs.Classes.{class_at}
use Rattle.constraint_rows.specs.declared.rows.Part.{Part}

-- ---- classes
abbrev pub carried_to : ℕ → Option (ℕ × Sign) → Option (Index × Number)
carried_to r None = None
carried_to r (Some x) = Some (index_of r x.0, signed x.1 num_one)

abbrev pub carrier_of : ℕ → List Entry → Carrier
carrier_of r es c = carried_to r (class_at es (component_number c))

pub record IsKilled (m : Marks) (H : Operation → Type 0) (c : Index) : Type 0 where
  pub element : Operation
  pub inside : H element
  pub diagonal : IsDiagonal element
  pub turns : mul (sign m element) (coefficient element c c) ≡ neg num_one

-- ---- rows
unfoldable pub part_at : Part → ℕ → Number
part_at p c = cond (nat_eq c p.component) (whole p.number) num_zero

abbrev pub row_at : List Part → ℕ → Number
row_at [] c = num_zero
row_at (p ∷ ps) c = add (part_at p c) (row_at ps c)

abbrev pub row_sum : ℕ → List Part → Tensor → Number
row_sum r [] t = num_zero
row_sum r (p ∷ ps) t = add (mul (whole p.number) (t (index_of r p.component))) (row_sum r ps t)

abbrev pub AreParts : ℕ → List Part → Type 0
AreParts n ps = Each (λ p. (p.component < n) × (p.number ≢ pos 0)) ps

-- the component is its own representative
abbrev pub IsOwn : List Entry → ℕ → Type 0
IsOwn es c = class_at es c ≡ Some (c, Plus)

abbrev pub parts_rise : (ℕ → ℕ → Bool) → Part → Part → Bool
parts_rise before p q = before p.component q.component

pub record AreSound (n : ℕ) (before : ℕ → ℕ → Bool) (es : List Entry) : Type 0 where
  pub own : (c d : ℕ) (s : Sign) → c < n → class_at es c ≡ Some (d, s) → IsOwn es d
  pub below : (c d : ℕ) (s : Sign) → c < n → class_at es c ≡ Some (d, s) → d < n
  pub first : (c d : ℕ) (s : Sign) → c < n → class_at es c ≡ Some (d, s) → before c d ≡ false

-- a row that may be given to the elimination on these classes
pub record IsGiven (before : ℕ → ℕ → Bool) (es : List Entry) (ps : List Part) : Type 0 where
  pub rising : IsRising (parts_rise before) ps
  pub own : Each (λ p. IsOwn es p.component) ps
  pub small : Each (λ p. unsigned_abs p.number < limit) ps

-- the coefficients k of components, carried over to their representatives
pub record IsCarriedRow
    (r : ℕ) (before : ℕ → ℕ → Bool) (es : List Entry) (k : Index → Number) (ps : List Part) : Type 0 where
  pub rising : IsRising (parts_rise before) ps
  pub own : Each (λ p. IsOwn es p.component) ps
  pub few : Each (λ p. unsigned_abs p.number ≤ 729) ps
  pub carried : (u : ℕ) → u < 3 ^ r →
      row_at ps u ≡ sum_indices r (λ c. share (carrier_of r es c) (k c) (index_of r u))

-- for each word its even row, then its odd row
abbrev pub AreWordRows : ℕ → (ℕ → ℕ → Bool) → List Entry → List Word → List (List Part) → Type 0
AreWordRows r before es [] [] = Unit {0}
AreWordRows r before es (w ∷ ws) (a ∷ b ∷ rows) =
    IsCarriedRow r before es (even_row w) a × IsCarriedRow r before es (odd_row w) b × AreWordRows r before es ws rows
AreWordRows r before es ws rows = ⊥
