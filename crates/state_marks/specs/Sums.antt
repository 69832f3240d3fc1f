-- Sums of parts, one for each free component.
--   factor_in       the factor of a free component in a row of a form
--   sum_at          the sum that is held for a free component
--   AddsTerm, TermGrows    one sum with one more part; a product or the new sum that reaches the limit
--   AddsRow, RowGrows    each sum with one more part, where nothing grows; a product or a new sum that reaches the limit
--   term_at, form_term_at    the term at a place
--   column          the factors of a free component in all components
--   IsZeros         as many sums as wanted, each 0
--   ListsSums       the sums other than 0, by rising places
--   PushesSum       one more of them
--   TellsSums, TellsFactors, TellsBoth    whether sums and the factors in a row of the form are others
use Rattle.std.specs.Prelude.{◌≡◌, ◌≢◌, ℕ, ◌<◌, ◌⊎◌, Bool, true, false, List, [], ◌∷◌, ◌++◌, length, get_or, map, slice_set, Ok}
use Rattle.tensor_defs.specs.Prelude.{Each, IsRising, Number, Root3, add, mul, num_zero, IsRoot3, value_of, PartReaches, ProductReaches, factor_at}
use Rattle.tensor_defs.specs.Prelude.{root_places_rise, Table, Tensor}
use Rattle.tensor_defs.specs.StateRows as defs
use Rattle.exact_frac.specs.Held.{zero_over_one}
use Rattle.root3_num.specs.Roots.{value_of_root}
use Rattle.reduced_form.specs.declared.forms.Term.{Term}
use Rattle.reduced_form.specs.Forms.{term_of}
use Rattle.tensor_action.specs.Acting.{AddsPart, zero_root}
use Rattle.state_marks.specs.declared.rows.RootTerm.{RootTerm}

abbrev pub factor_in : List Term → ℕ → Number
factor_in ts k = factor_at (map term_of ts) k

abbrev pub root_at : List Root3 → ℕ → Root3
root_at rs k = get_or rs k zero_root

abbrev pub sum_at : List Root3 → ℕ → Number
sum_at rs k = value_of_root (root_at rs k)

-- one of the sums with x times a term, which doesn't grow
abbrev pub AddsTerm : List Root3 → Number → Term → List Root3 → Type 0
AddsTerm old x t new =
    (v : Root3) × (new ≡ slice_set old t.free v) × AddsPart (sum_at old t.free) x (value_of t.factor) (Ok v)

abbrev pub TermGrows : List Root3 → Number → Term → Type 0
TermGrows old x t =
    ProductReaches x (value_of t.factor) ⊎ PartReaches (add (sum_at old t.free) (mul x (value_of t.factor)))

-- each of the sums old that is small with x times a factor of ts, none of which grows
pub record AddsRow (old : List Root3) (x : Number) (ts : List Term) (new : List Root3) : Type 0 where
  pub len : length new ≡ length old
  pub each : (k : ℕ) → k < length old → (PartReaches (sum_at old k) → ⊥) →
      AddsPart (sum_at old k) x (factor_in ts k) (Ok (root_at new k))

pub record RowGrows (old : List Root3) (x : Number) (ts : List Term) : Type 0 where
  pub place : ℕ
  pub within : place < length old
  pub reaches : ProductReaches x (factor_in ts place) ⊎ PartReaches (add (sum_at old place) (mul x (factor_in ts place)))

abbrev pub term_at : List RootTerm → ℕ → RootTerm
term_at row k = get_or row k (record { free = 0; factor = zero_root })

abbrev pub form_term_at : List Term → ℕ → Term
form_term_at ts k = get_or ts k (record { free = 0; factor = zero_over_one })

-- the factors of the free component k
abbrev pub column : Table → ℕ → Tensor
column a k j = factor_at (a.terms j) k

pub record IsZeros (n : ℕ) (rs : List Root3) : Type 0 where
  pub len : length rs ≡ n
  pub zero : (k : ℕ) → k < n → sum_at rs k ≡ num_zero

abbrev pub root_term_of : RootTerm → defs.RootTerm
root_term_of t = record { place = t.free; factor = t.factor }

-- the sums at places below n that aren't 0
pub record ListsSums (rs : List Root3) (n : ℕ) (ts : List RootTerm) : Type 0 where
  pub rising : IsRising root_places_rise (map root_term_of ts)
  pub terms : Each (λ t. (t.free < n) × (sum_at rs t.free ≢ num_zero) × IsRoot3 (sum_at rs t.free) t.factor) ts
  pub whole : (k : ℕ) → k < n → (sum_at rs k ≡ num_zero) ⊎ ((q : ℕ) × (q < length ts) × ((term_at ts q).free ≡ k))

-- the sum of a place as one more term, unless it is 0
abbrev pub PushesSum : List RootTerm → ℕ → Root3 → List RootTerm → Type 0
PushesSum old k s new =
    ((value_of_root s ≡ num_zero) × (new ≡ old))
    ⊎ ((value_of_root s ≢ num_zero) × IsRoot3 (value_of_root s) s × (new ≡ old ++ record { free = k; factor = s } ∷ []))

-- whether some sum that isn't 0 isn't the factor in a row of the form
abbrev pub TellsSums : List RootTerm → List Term → Bool → Type 0
TellsSums row ts true = (k : ℕ) × (k < length row) × (value_of_root (term_at row k).factor ≢ factor_in ts (term_at row k).free)
TellsSums row ts false = (k : ℕ) → k < length row → value_of_root (term_at row k).factor ≡ factor_in ts (term_at row k).free

-- whether some factor in a row of the form isn't the sum
abbrev pub TellsFactors : List Root3 → List Term → Bool → Type 0
TellsFactors rs ts true =
    (k : ℕ) × (k < length ts) × (sum_at rs (form_term_at ts k).free ≢ value_of (form_term_at ts k).factor)
TellsFactors rs ts false =
    (k : ℕ) → k < length ts → sum_at rs (form_term_at ts k).free ≡ value_of (form_term_at ts k).factor

-- whether some sum isn't the factor in a row of the form
abbrev pub TellsBoth : List Root3 → List Term → Bool → Type 0
TellsBoth rs ts true = (k : ℕ) × (k < length rs) × (sum_at rs k ≢ factor_in ts k)
TellsBoth rs ts false = (k : ℕ) → k < length rs → sum_at rs k ≡ factor_in ts k
