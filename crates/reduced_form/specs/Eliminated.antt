-- The table that the kept rows of an elimination give.
--   IsSystem, HasSystem  the unknowns of sound classes in an order, and their places
--   whole_of, wholes     parts by the places of their components among the unknowns
--   CanPlace             the places of parts rise
--   IsSparse, AreSparse  the row of fractions that parts give; those of all rows
--   pivot_at, entries_at the pivot of a kept row, and the terms of a sum, by their places
--   ArePivots            for each unknown the kept row whose pivot it is, among the first rows
--   free_places, number_at    the first unknowns that are no row's pivot, rising; how many of them come before an unknown
--   AreNumbers           these numbers
--   signed_fraction, entry_term    a fraction with a sign; the term that an entry gives
--   terms_told, class_row      the terms of an unknown with a sign; those of a component
--   AreTold              what the kept rows tell of the unknowns, with names in range
--   IsToldForm           the table of these terms
-- Source: the solution of a linear system by its free unknowns, as in any textbook.
use Rattle.std.specs.Prelude.{◌≡◌, ℕ, zero, suc, ◌<◌, ◌^◌, List, [], ◌∷◌, ◌++◌, length, get_or, map, Option, Some, None}
use lib.IntN.{neg_ℤ}
use Rattle.tensor_defs.specs.declared.Sign.{Sign}
use Rattle.tensor_defs.specs.declared.Sign.TheVariants.{Plus, Minus}
use Rattle.tensor_defs.specs.Prelude.{Kept, Each, Fraction}
use Rattle.sign_moves.specs.declared.classes.Entry.{Entry}
use Rattle.tensor_rank.specs.Orders.{Ordering, before_at}
use Rattle.constraint_rows.specs.Prelude.{class_at, AreParts, AreSound}
use Rattle.constraint_rows.specs.declared.rows.Part.{Part}
use Rattle.sparse_rows.specs.Prelude.{AreSolved, AreWhole, IsWholeRow}
use Rattle.sparse_rows.specs.declared.entry.Entry.{Entry as SparseEntry}
use Rattle.sparse_rows.specs.declared.entry.PivotSum.{PivotSum}
use Rattle.sparse_rows.specs.declared.entry.Row.{Row}
use Rattle.sparse_rows.specs.declared.whole.WholeEntry.{WholeEntry}
use Rattle.reduced_form.specs.declared.forms.Term.{Term}
use Rattle.reduced_form.specs.Forms.{ArePlaces, FormValue, IsFreeUpTo, free_at, row_at, unit_term}

-- ---- unknowns
pub record IsSystem (n r : ℕ) (o : Ordering) (es : List Entry) (us places : List ℕ) : Type 0 where
  pub size : n ≡ 3 ^ r
  pub sound : AreSound n (before_at r o) es
  pub unknowns : IsFreeUpTo n (before_at r o) es us n
  pub placed : ArePlaces n us places (length us)

abbrev pub HasSystem : ℕ → ℕ → List Entry → List ℕ → List ℕ → Type 0
HasSystem n r es us places = (o : Ordering) × IsSystem n r o es us places

-- ---- rows given to the elimination
abbrev pub whole_of : List ℕ → Part → WholeEntry
whole_of places p = record { unknown = get_or places p.component 0; number = p.number }

abbrev pub wholes : List ℕ → List Part → List WholeEntry
wholes places ps = map (whole_of places) ps

-- parts of components of a rank have rising places
abbrev pub CanPlace : ℕ → List ℕ → List Part → Type 0
CanPlace n places ps = AreParts n ps → AreWhole (wholes places ps)

pub record IsSparse (n : ℕ) (places : List ℕ) (ps : List Part) (sparse : Row) : Type 0 where
  pub parts : AreParts n ps
  pub row : IsWholeRow (wholes places ps) sparse.entries.items

abbrev pub AreSparse : ℕ → List ℕ → List (List Part) → List Row → Type 0
AreSparse n places [] [] = Unit {0}
AreSparse n places (ps ∷ rows) (r ∷ rs) = IsSparse n places ps r × AreSparse n places rows rs
AreSparse n places rows rs = ⊥

-- ---- what the kept rows tell
abbrev pub pivot_at : List Kept → ℕ → ℕ
pivot_at [] i = 0
pivot_at (κ ∷ κs) zero = κ.pivot
pivot_at (κ ∷ κs) (suc i) = pivot_at κs i

abbrev pub entries_at : List PivotSum → ℕ → List SparseEntry
entries_at [] i = []
entries_at (s ∷ ss) zero = s.terms.items
entries_at (s ∷ ss) (suc i) = entries_at ss i

-- the kept row whose pivot an unknown is
abbrev pub teller : List (Option ℕ) → ℕ → Option ℕ
teller at k = get_or at k None

-- for n unknowns, by the kept rows before end
pub record ArePivots (n : ℕ) (κs : List Kept) (at : List (Option ℕ)) (end : ℕ) : Type 0 where
  pub len : length at ≡ n
  pub pivot : (k i : ℕ) → teller at k ≡ Some i → (i < end) × (pivot_at κs i ≡ k)
  pub all : (i : ℕ) → i < end → (j : ℕ) × (teller at (pivot_at κs i) ≡ Some j)

-- one more unknown, if no row tells it
abbrev pub with_place : Option ℕ → ℕ → List ℕ → List ℕ
with_place None k ks = ks ++ k ∷ []
with_place (Some i) k ks = ks

abbrev pub free_places : List (Option ℕ) → ℕ → List ℕ
free_places at zero = []
free_places at (suc k) = with_place (teller at k) k (free_places at k)

abbrev pub number_at : List (Option ℕ) → ℕ → ℕ
number_at at k = length (free_places at k)

pub record AreNumbers (at : List (Option ℕ)) (end : ℕ) (numbers : List ℕ) : Type 0 where
  pub len : length numbers ≡ end
  pub number : (k : ℕ) → k < end → get_or numbers k 0 ≡ number_at at k

-- ---- the terms
abbrev pub signed_fraction : Sign → Fraction → Fraction
signed_fraction Plus f = f
signed_fraction Minus f = record { num = neg_ℤ f.num; den = f.den }

abbrev pub entry_term : List ℕ → Sign → SparseEntry → Term
entry_term numbers s e = record { free = get_or numbers e.unknown 0; factor = signed_fraction s e.value }

abbrev pub told_by : List ℕ → List PivotSum → ℕ → Sign → Option ℕ → List Term
told_by numbers ss k s None = unit_term (get_or numbers k 0) s ∷ []
told_by numbers ss k s (Some i) = map (entry_term numbers s) (entries_at ss i)

abbrev pub terms_told : List (Option ℕ) → List ℕ → List PivotSum → ℕ → Sign → List Term
terms_told at numbers ss k s = told_by numbers ss k s (teller at k)

-- the terms of a component of a class, whose first component has a place among the unknowns
abbrev pub class_row : List (Option ℕ) → List ℕ → List PivotSum → List ℕ → Option (ℕ × Sign) → List Term
class_row at numbers ss places None = []
class_row at numbers ss places (Some x) = terms_told at numbers ss (get_or places x.0 0) x.1

-- rows that are named and unknowns that are numbered are in range
pub record AreTold (n : ℕ) (at : List (Option ℕ)) (numbers : List ℕ) (ss : List PivotSum) : Type 0 where
  pub tellers : length at ≡ n
  pub len : length numbers ≡ n
  pub rows : (k i : ℕ) → teller at k ≡ Some i → i < length ss
  pub below : (i : ℕ) → i < length ss → Each (λ e. e.unknown < n) (entries_at ss i)

pub record IsToldForm
    (n : ℕ) (es : List Entry) (us places : List ℕ) (κs : List Kept) (f : FormValue) : Type 0 where
  pub at : List (Option ℕ)
  pub numbers : List ℕ
  pub sums : List PivotSum
  pub pivots : ArePivots (length us) κs at (length κs)
  pub are_numbers : AreNumbers at (length us) numbers
  pub solved : AreSolved κs κs sums
  pub free : f.free ≡ map (free_at us) (free_places at (length us))
  pub rows : (c : ℕ) → c < n → row_at f.rows c ≡ class_row at numbers sums places (class_at es c)
