-- The order of operations, in which a set has one listing.
--   before_irreflexive, before_transitive    it goes in no circles
--   operations_listed   a set has one listing
--   one_listing_lem     and so has the group of a symbol
use Rattle.std.proofs.Common.{◌≡◌, List}
use Rattle.std.specs.Prelude.{IsTrue}
use Rattle.list_laws.proofs.Rising.{listing_same}
use Rattle.tensor_defs.specs.Prelude.{InGroup, IsListing, Operation, comes_before, places}
use Rattle.tensor_laws.proofs.BlockOrder.{lexicographic_irreflexive, lexicographic_transitive}
use Rattle.answer_laws.specs.Laws.{OneListing}

pub before_irreflexive : (g : Operation) → ¬ IsTrue (comes_before g g)
unfolding comes_before
before_irreflexive g h = lexicographic_irreflexive (places g) h

pub before_transitive : (g h k : Operation) → IsTrue (comes_before g h) → IsTrue (comes_before h k) →
    IsTrue (comes_before g k)
unfolding comes_before
before_transitive g h k p q = lexicographic_transitive (places g) (places h) (places k) p q

pub operations_listed : (S : Operation → Type 0) (gs hs : List Operation) → IsListing comes_before S gs →
    IsListing comes_before S hs → gs ≡ hs
operations_listed S gs hs p q =
    listing_same comes_before before_irreflexive before_transitive S S (λ g s. s) (λ g s. s) gs hs p q

pub one_listing_lem : OneListing
one_listing_lem t gs hs p q = operations_listed (InGroup t) gs hs p q
