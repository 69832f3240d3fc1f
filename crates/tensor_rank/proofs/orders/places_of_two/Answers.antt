use Rattle.std.proofs.Common.{◌≡◌, ℕ, List, [], ◌∷◌, sym, subst}
use Rattle.tensor_rank.specs.Orders.{AreBlocks, ArePlaced}
use Rattle.tensor_rank.specs.declared.orders.TheConstants.{VECTOR_PAIR, PAIR_VECTOR, TWO_PAIRS}
use Rattle.tensor_rank.proofs.PlacedTables.{pair_vector_placed, two_pairs_placed, vector_pair_placed}
use Rattle.tensor_rank.proofs.orders.places_of_two.Goals as goal

at_sizes : (us ws xs : List ℕ) → us ≡ ws → ((r : ℕ) → AreBlocks r us → ArePlaced r us xs) → (r : ℕ) → AreBlocks r ws → ArePlaced r ws xs
at_sizes us ws xs e h r fit = subst (λ (bs : List ℕ). ArePlaced r bs xs) e (h r (subst (AreBlocks r) (sym e) fit))

pub returns-then-last-eq2 : goal.returns-then-last-eq2
returns-then-last-eq2 c =
    at_sizes (1 ∷ 2 ∷ []) (c.args.first ∷ c.args.last ∷ []) VECTOR_PAIR
    (λ i. sym c.if-first-eq1.true i ∷ sym c.if-last-eq2.true i ∷ []) vector_pair_placed

pub returns-then-last-eq1 : goal.returns-then-last-eq1
returns-then-last-eq1 c =
    at_sizes (2 ∷ 1 ∷ []) (c.args.first ∷ c.args.last ∷ []) PAIR_VECTOR
    (λ i. sym c.if-first-eq2.true i ∷ sym c.if-last-eq1.true i ∷ []) pair_vector_placed

pub returns-then-last-eq2-2 : goal.returns-then-last-eq2-2
returns-then-last-eq2-2 c =
    at_sizes (2 ∷ 2 ∷ []) (c.args.first ∷ c.args.last ∷ []) TWO_PAIRS
    (λ i. sym c.if-first-eq2-2.true i ∷ sym c.if-last-eq2-2.true i ∷ []) two_pairs_placed
