use Rattle.std.proofs.Common.{◌≡◌, ℕ, List, [], ◌∷◌, sym, ◌∙◌, subst}
use Rattle.tensor_rank.specs.Orders.{AreBlocks, ArePlaced}
use Rattle.tensor_rank.specs.declared.orders.TheConstants.{PAIR}
use Rattle.tensor_rank.proofs.PlacedTables.{one_size, pair_placed, two_sizes}
use Rattle.tensor_rank.proofs.orders.places_of.Goals as goal

pub returns-then-sizes-eq2 : goal.returns-then-sizes-eq2
returns-then-sizes-eq2 c r fit =
    let ws = c.args.sizes.now in
    let e : 2 ∷ [] ≡ ws = (λ i. sym c.if-sizes-eq2.true i ∷ []) ∙ one_size ws c.if-sizes-eq1.true in
    subst (λ (bs : List ℕ). ArePlaced r bs PAIR) e (pair_placed r (subst (AreBlocks r) (sym e) fit))

pub returns-then-sizes-eq2-2 : goal.returns-then-sizes-eq2-2
returns-then-sizes-eq2-2 c r fit =
    let ws = c.args.sizes.now in
    let e = two_sizes ws c.if-sizes-eq2-2.true in
    subst (λ (bs : List ℕ). ArePlaced r bs c.places_of_two.result.now) e (c.places_of_two.ensures r (subst (AreBlocks r) (sym e) fit))
