-- The places of components in the orders of the blocks of a Voigt table, by computing.
--   pair_placed, vector_pair_placed, pair_vector_placed, two_pairs_placed    the tables of the code
--   one_size, two_sizes    a list of one size; of two
use Rattle.list_laws.proofs.Kit.{◌≡◌, ℕ, Bool, true, nat_lt, List, [], ◌∷◌, length, get_or, refl, subst, arith}
use Rattle.list_laws.proofs.Below.{all_below, below_told_2}
use Rattle.list_laws.proofs.Tests.{same_bool, same_bool_true}
use Rattle.tensor_defs.specs.Prelude.{block_before, index_of}
use Rattle.tensor_rank.specs.Orders.{AreBlocks, ArePlaced}
use Rattle.tensor_rank.specs.declared.orders.TheConstants.{PAIR, VECTOR_PAIR, PAIR_VECTOR, TWO_PAIRS}

-- two components are ordered as their places
abbrev are_ordered : ℕ → List ℕ → List ℕ → ℕ → ℕ → Bool
are_ordered r bs xs a b = same_bool (nat_lt (get_or xs a 0) (get_or xs b 0)) (block_before bs (index_of r a) (index_of r b))

all_placed : (r : ℕ) (bs xs : List ℕ) → all_below (length xs) (λ a. all_below (length xs) (are_ordered r bs xs a)) ≡ true →
    (s : ℕ) → r ≡ s → ArePlaced s bs xs
all_placed r bs xs e s same = subst (λ (t : ℕ). ArePlaced t bs xs) same (λ a b h l.
    same_bool_true _ _ (below_told_2 (length xs) (length xs) (are_ordered r bs xs) e a b h l))

pub pair_placed : (s : ℕ) → AreBlocks s (2 ∷ []) → ArePlaced s (2 ∷ []) PAIR
pair_placed s fit = all_placed 2 (2 ∷ []) PAIR refl s fit.1

pub vector_pair_placed : (s : ℕ) → AreBlocks s (1 ∷ 2 ∷ []) → ArePlaced s (1 ∷ 2 ∷ []) VECTOR_PAIR
vector_pair_placed s fit = all_placed 3 (1 ∷ 2 ∷ []) VECTOR_PAIR refl s fit.1

pub pair_vector_placed : (s : ℕ) → AreBlocks s (2 ∷ 1 ∷ []) → ArePlaced s (2 ∷ 1 ∷ []) PAIR_VECTOR
pair_vector_placed s fit = all_placed 3 (2 ∷ 1 ∷ []) PAIR_VECTOR refl s fit.1

pub two_pairs_placed : (s : ℕ) → AreBlocks s (2 ∷ 2 ∷ []) → ArePlaced s (2 ∷ 2 ∷ []) TWO_PAIRS
two_pairs_placed s fit = all_placed 4 (2 ∷ 2 ∷ []) TWO_PAIRS refl s fit.1

pub one_size : (bs : List ℕ) → length bs ≡ 1 → get_or bs 0 0 ∷ [] ≡ bs
one_size [] e = absurd (omega (arith, e))
one_size (b ∷ []) e = refl
one_size (b ∷ (c ∷ bs)) e = absurd (omega (arith, e))

pub two_sizes : (bs : List ℕ) → length bs ≡ 2 → get_or bs 0 0 ∷ get_or bs 1 0 ∷ [] ≡ bs
two_sizes [] e = absurd (omega (arith, e))
two_sizes (b ∷ []) e = absurd (omega (arith, e))
two_sizes (b ∷ (c ∷ [])) e = refl
two_sizes (b ∷ (c ∷ (d ∷ bs))) e = absurd (omega (arith, e))
