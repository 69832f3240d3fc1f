-- Component tables as they are kept: free components by number, and the terms of each component.
--   FormValue       free components, and rows of terms
--   IsForm          as many rows as components, and terms name free components
--   term_of, form_table    the term and the table of the definitions
--   unit_term       1 or -1 times the free component at a place
--   HasUnits        each factor is 1 or -1
--   IsWellFormed    terms by rising places, in lowest terms, none 0, which name free components
--   IsUnitRow, HasUnitRows    no term, or one with the factor 1 or -1; the same of each row
--   IsFormOf        the table that classes give: free are the first components of the classes that don't vanish
--   IsFreeUpTo, ArePlaces, row_of    the steps of making it
use Rattle.std.specs.Prelude.{◌≡◌, ℕ, ◌<◌, ◌≤◌, Bool, true, false, List, [], ◌∷◌, length, get_or, map}
use Rattle.std.proofs.Common.{cond}
use lib.IntN.{ℤ, pos, negsuc}
use Rattle.tensor_defs.specs.Prelude.{Each, Fraction, Index, component_number, index_of}
use Rattle.tensor_defs.specs.Table as defs
use Rattle.tensor_defs.specs.declared.Sign.{Sign}
use Rattle.tensor_defs.specs.declared.Sign.TheVariants.{Plus, Minus}
use Rattle.sign_moves.specs.declared.classes.Entry.{Entry}
use Rattle.sign_moves.specs.Classes.{first_at, sign_at, vanishes_at}
use Rattle.reduced_form.specs.declared.forms.Term.{Term}

pub record FormValue : Type 0 where
  pub free : List ℕ
  pub rows : List (List Term)

abbrev pub free_at : List ℕ → ℕ → ℕ
free_at free k = get_or free k 0

abbrev pub row_at : List (List Term) → ℕ → List Term
row_at rows c = get_or rows c []

-- for components below n
pub record IsForm (n : ℕ) (f : FormValue) : Type 0 where
  pub len : length f.rows ≡ n
  pub below : (k : ℕ) → k < length f.free → free_at f.free k < n
  pub few : length f.free ≤ n
  pub named : (c : ℕ) → c < n → Each (λ t. t.free < length f.free) (row_at f.rows c)

abbrev pub term_of : Term → defs.Term
term_of t = record { place = t.free; factor = t.factor }

abbrev pub form_table : ℕ → FormValue → defs.Table
form_table r f = record {
  free = map (index_of r) f.free;
  terms = λ c. map term_of (row_at f.rows (component_number c));
}

abbrev pub sign_whole : Sign → ℤ
sign_whole Plus = pos 1
sign_whole Minus = negsuc 0

-- 1 or -1
abbrev pub unit_fraction : Sign → Fraction
unit_fraction s = record { num = sign_whole s; den = 1 }

abbrev pub unit_term : ℕ → Sign → Term
unit_term k s = record { free = k; factor = unit_fraction s }

-- each factor is 1 or -1
abbrev pub HasUnits : ℕ → FormValue → Type 0
HasUnits n f = (c : ℕ) → c < n → Each (λ t. (s : Sign) × (t.factor ≡ unit_fraction s)) (row_at f.rows c)

-- the terms of each component are well formed, and name free components
abbrev pub IsWellFormed : ℕ → defs.Table → Type 0
IsWellFormed r a =
    (c : Index) → length c ≡ r → defs.AreTerms (a.terms c) × Each (λ t. t.place < length a.free) (a.terms c)

abbrev pub IsUnitRow : List Term → Type 0
IsUnitRow [] = Unit {0}
IsUnitRow (t ∷ ts) = (ts ≡ []) × (s : Sign) × (t.factor ≡ unit_fraction s)

-- below n
abbrev pub HasUnitRows : ℕ → FormValue → Type 0
HasUnitRows n f = (c : ℕ) → c < n → IsUnitRow (row_at f.rows c)

pub record IsFormOf (n : ℕ) (before : ℕ → ℕ → Bool) (es : List Entry) (f : FormValue) : Type 0 where
  pub rising : (i k : ℕ) → i < k → k < length f.free → before (free_at f.free i) (free_at f.free k) ≡ true
  pub only_below : (k : ℕ) → k < length f.free → free_at f.free k < n
  pub only_first : (k : ℕ) → k < length f.free → first_at es (free_at f.free k) ≡ free_at f.free k
  pub only_open : (k : ℕ) → k < length f.free → vanishes_at es (free_at f.free k) ≡ false
  pub none : (c : ℕ) → c < n → vanishes_at es c ≡ true → row_at f.rows c ≡ []
  pub one : (c : ℕ) → c < n → vanishes_at es c ≡ false → (k : ℕ) × (k < length f.free) ×
      (free_at f.free k ≡ first_at es c) × (row_at f.rows c ≡ unit_term k (sign_at es c) ∷ [])

-- among the components below end, those that are the first ones of classes that don't vanish, in the order
pub record IsFreeUpTo (n : ℕ) (before : ℕ → ℕ → Bool) (es : List Entry) (free : List ℕ) (end : ℕ) : Type 0 where
  pub rising : (i k : ℕ) → i < k → k < length free → before (free_at free i) (free_at free k) ≡ true
  pub below : (k : ℕ) → k < length free → free_at free k < n
  pub before_end : (k : ℕ) → k < length free → free_at free k < end
  pub first : (k : ℕ) → k < length free → first_at es (free_at free k) ≡ free_at free k
  pub opened : (k : ℕ) → k < length free → vanishes_at es (free_at free k) ≡ false
  pub few : length free ≤ end
  pub all : (c : ℕ) → c < end → vanishes_at es c ≡ false → first_at es c ≡ c → (k : ℕ) × (k < length free) × (free_at free k ≡ c)

-- for the first free components their places
pub record ArePlaces (n : ℕ) (free places : List ℕ) (end : ℕ) : Type 0 where
  pub len : length places ≡ n
  pub place : (k : ℕ) → k < end → get_or places (free_at free k) 0 ≡ k

-- the row of a component by what its table of classes has
abbrev pub row_of : Entry → List ℕ → List Term
row_of e places = cond e.vanishes [] (unit_term (get_or places e.first 0) e.sign ∷ [])
