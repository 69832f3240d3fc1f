-- Entries by their numbers.
--   entries_listed, listed_at, at_listed    the entries in order are those of the numbers below the count
--   number_told     the number of the entry of a number
--   component_told  the component of the entry of a number
--   entry_told      the block numbers of a component are those of the entry to which it belongs
--   shears_told     the shear pairs of a component are those of the entry to which it belongs
--   small_shift     the weight of an entry is 1, 2 or 4
--   blocks_are      the blocks are together the indices of a rank
use Rattle.list_laws.proofs.Kit.{◌≡◌, ℕ, zero, suc, ◌+◌, ◌^◌, ◌<◌, ◌≤◌, Bool, true, false, cond, nat_eq, nat_lt, List, [], ◌∷◌, ◌++◌, length, refl, sym}
use Rattle.list_laws.proofs.Kit.{subst, arith, inl, inr, cases_lt, eqb-true, Contains-append_left, Contains-push, Contains-push_cases}
use Rattle.std.specs.Prelude.{Contains}
use Rattle.tensor_defs.specs.declared.Weights.{Weights}
use Rattle.tensor_defs.specs.declared.Weights.TheVariants.{Plain, Shear}
use Rattle.tensor_defs.specs.Prelude.{same_numbers_in, block_numbers, component_number, index_of, VoigtEntry, component_of, entries, rank_of_blocks, shift}
use Rattle.tensor_rank.specs.Orders.{AreBlocks}
use Rattle.list_laws.proofs.Below.{all_below, below_told}
use Rattle.list_laws.proofs.Tests.{both, same_numbers_told}
use Rattle.voigt_table.specs.declared.entries.Blocks.{Blocks}
use Rattle.voigt_table.specs.declared.entries.Blocks.TheVariants.{Pair, VectorPair, PairVector, TwoPairs}
use Rattle.voigt_table.specs.Blocks.{component_at, entry_at, entry_count, entry_number, entry_of, shears_at, sizes_of}

-- ---- the entries in order
-- the first n values
abbrev pub firsts : (ℕ → VoigtEntry) → ℕ → List VoigtEntry
firsts f zero = []
firsts f (suc n) = firsts f n ++ f n ∷ []

pub entries_listed : (b : Blocks) → entries (sizes_of b) ≡ firsts (entry_at (sizes_of b)) (entry_count (sizes_of b))
entries_listed Pair = refl
entries_listed VectorPair = refl
entries_listed PairVector = refl
entries_listed TwoPairs = refl

first_at : (f : ℕ → VoigtEntry) (n : ℕ) (e : VoigtEntry) → Contains (firsts f n) e → (k : ℕ) × (k < n) × (f k ≡ e)
first_at f zero e h = absurd (omega arith)
first_at f (suc n) e h = elim (Contains-push_cases (firsts f n) (f n) e h) as (λ _. (k : ℕ) × (k < suc n) × (f k ≡ e)) [
  | inl c ↦
      let rest = first_at f n e c in
      (rest.0, omega (arith, rest.1), rest.2)
  | inr s ↦ (n, omega arith, s)
]

at_first : (f : ℕ → VoigtEntry) (n k : ℕ) → k < n → Contains (firsts f n) (f k)
at_first f zero k l = absurd (omega arith)
at_first f (suc n) k l = elim (cases_lt k n) as (λ _. Contains (firsts f (suc n)) (f k)) [
  | inl h ↦ Contains-append_left (firsts f n) (f n ∷ []) (f k) (at_first f n k h)
  | inr h ↦
      let same : n ≡ k = omega arith in
      subst (λ (x : ℕ). Contains (firsts f n ++ f n ∷ []) (f x)) same (Contains-push (firsts f n) (f n))
]

pub listed_at : (b : Blocks) (e : VoigtEntry) → Contains (entries (sizes_of b)) e →
    (k : ℕ) × (k < entry_count (sizes_of b)) × (entry_at (sizes_of b) k ≡ e)
listed_at b e h =
    first_at (entry_at (sizes_of b)) (entry_count (sizes_of b)) e
    (subst (λ (es : List VoigtEntry). Contains es e) (entries_listed b) h)

pub at_listed : (b : Blocks) (k : ℕ) → k < entry_count (sizes_of b) →
    Contains (entries (sizes_of b)) (entry_at (sizes_of b) k)
at_listed b k l =
    subst (λ (es : List VoigtEntry). Contains es (entry_at (sizes_of b) k)) (sym (entries_listed b))
    (at_first (entry_at (sizes_of b)) (entry_count (sizes_of b)) k l)

-- ---- numbers
abbrev has_number : Blocks → ℕ → Bool
has_number b k = nat_eq (entry_number (sizes_of b) (entry_at (sizes_of b) k)) k

numbers_checked : (b : Blocks) → all_below (entry_count (sizes_of b)) (has_number b) ≡ true
numbers_checked Pair = refl
numbers_checked VectorPair = refl
numbers_checked PairVector = refl
numbers_checked TwoPairs = refl

pub number_told : (b : Blocks) (k : ℕ) → k < entry_count (sizes_of b) →
    entry_number (sizes_of b) (entry_at (sizes_of b) k) ≡ k
number_told b k l =
    eqb-true _ _ (below_told (entry_count (sizes_of b)) (has_number b) (numbers_checked b) k l)

-- ---- components
abbrev has_component : Blocks → ℕ → Bool
has_component b k =
    cond (nat_eq (component_at b k) (component_number (component_of (sizes_of b) (entry_at (sizes_of b) k))))
    (nat_eq (length (component_of (sizes_of b) (entry_at (sizes_of b) k))) (rank_of_blocks (sizes_of b))) false

components_checked : (b : Blocks) → all_below (entry_count (sizes_of b)) (has_component b) ≡ true
components_checked Pair = refl
components_checked VectorPair = refl
components_checked PairVector = refl
components_checked TwoPairs = refl

component_parts : (b : Blocks) (k : ℕ) → k < entry_count (sizes_of b) →
    (component_at b k ≡ component_number (component_of (sizes_of b) (entry_at (sizes_of b) k)))
    × (length (component_of (sizes_of b) (entry_at (sizes_of b) k)) ≡ rank_of_blocks (sizes_of b))
component_parts b k l =
    let parts = both _ _ (below_told (entry_count (sizes_of b)) (has_component b) (components_checked b) k l) in
    (eqb-true _ _ parts.0, eqb-true _ _ parts.1)

pub component_told : (b : Blocks) (k : ℕ) → k < entry_count (sizes_of b) →
    component_at b k ≡ component_number (component_of (sizes_of b) (entry_at (sizes_of b) k))
component_told b k l = (component_parts b k l).0

pub component_rank : (b : Blocks) (k : ℕ) → k < entry_count (sizes_of b) →
    length (component_of (sizes_of b) (entry_at (sizes_of b) k)) ≡ rank_of_blocks (sizes_of b)
component_rank b k l = (component_parts b k l).1

-- ---- entries of components
abbrev has_entry_of : Blocks → ℕ → Bool
has_entry_of b c =
    same_numbers_in (entry_at (sizes_of b) (entry_of b c))
    (block_numbers (sizes_of b) (index_of (rank_of_blocks (sizes_of b)) c))

entries_checked : (b : Blocks) → all_below (3 ^ rank_of_blocks (sizes_of b)) (has_entry_of b) ≡ true
entries_checked Pair = refl
entries_checked VectorPair = refl
entries_checked PairVector = refl
entries_checked TwoPairs = refl

pub entry_told : (b : Blocks) (c : ℕ) → c < 3 ^ rank_of_blocks (sizes_of b) →
    entry_at (sizes_of b) (entry_of b c) ≡ block_numbers (sizes_of b) (index_of (rank_of_blocks (sizes_of b)) c)
entry_told b c l =
    same_numbers_told _ _ (below_told (3 ^ rank_of_blocks (sizes_of b)) (has_entry_of b) (entries_checked b) c l)

-- ---- weights
abbrev has_shears : Blocks → ℕ → Bool
has_shears b c = nat_eq (shears_at b c) (shift Shear (entry_at (sizes_of b) (entry_of b c)))

shears_checked : (b : Blocks) → all_below (3 ^ rank_of_blocks (sizes_of b)) (has_shears b) ≡ true
shears_checked Pair = refl
shears_checked VectorPair = refl
shears_checked PairVector = refl
shears_checked TwoPairs = refl

pub shears_told : (b : Blocks) (c : ℕ) → c < 3 ^ rank_of_blocks (sizes_of b) →
    shears_at b c ≡ shift Shear (entry_at (sizes_of b) (entry_of b c))
shears_told b c l =
    eqb-true _ _ (below_told (3 ^ rank_of_blocks (sizes_of b)) (has_shears b) (shears_checked b) c l)

one_at_most : (t : Bool) → cond t 1 0 ≤ 1
one_at_most true = omega arith
one_at_most false = omega arith

one_shear : (x : ℕ) → cond (nat_lt 3 x) 1 0 + 0 ≤ 2
one_shear x = omega (arith, one_at_most (nat_lt 3 x))

two_shears : (x y : ℕ) → cond (nat_lt 3 x) 1 0 + (cond (nat_lt 3 y) 1 0 + 0) ≤ 2
two_shears x y = omega (arith, one_at_most (nat_lt 3 x), one_at_most (nat_lt 3 y))

pub small_shift : (w : Weights) (b : Blocks) (k : ℕ) → shift w (entry_at (sizes_of b) k) ≤ 2
small_shift Plain b k = omega arith
small_shift Shear Pair k = one_shear _
small_shift Shear VectorPair k = two_shears _ _
small_shift Shear PairVector k = two_shears _ _
small_shift Shear TwoPairs k = two_shears _ _

-- ---- blocks
pub blocks_are : (b : Blocks) (r : ℕ) → rank_of_blocks (sizes_of b) ≡ r → AreBlocks r (sizes_of b)
blocks_are Pair r e = (((omega arith, omega arith), tt), e)
blocks_are VectorPair r e = (((omega arith, omega arith), ((omega arith, omega arith), tt)), e)
blocks_are PairVector r e = (((omega arith, omega arith), ((omega arith, omega arith), tt)), e)
blocks_are TwoPairs r e = (((omega arith, omega arith), ((omega arith, omega arith), tt)), e)
