-- A product of operations acts as its factors in turn.
--   ComponentsActInTurn    on a tensor, at each component of a rank
--   ListsActInTurn         on lists of all components: what k makes of a list has the numbers that g makes of what h makes of it
-- Source: facts of matrices.
use Rattle.std.specs.Prelude.{◌≡◌, ℕ, ◌<◌, List, get_or}
use Rattle.tensor_defs.specs.Prelude.{Root3, Operation, IsProduct, Tensor, Marks, act, index_of}
use Rattle.root3_num.specs.Roots.{value_of_root}
use Rattle.tensor_action.specs.Acting.{IsCarriedList, zero_root}

abbrev pub ComponentsActInTurn : ℕ → ℕ → Type 0
ComponentsActInTurn r n =
    (m : Marks) (g h k : Operation) → IsProduct g h k → (t : Tensor) (c : ℕ) → c < n →
    act m k t (index_of r c) ≡ act m g (act m h t) (index_of r c)

abbrev pub ListsActInTurn : ℕ → ℕ → Type 0
ListsActInTurn r n =
    (m : Marks) (g h k : Operation) → IsProduct g h k → (rs hs gs ks : List Root3) →
    IsCarriedList m h r n rs hs → IsCarriedList m g r n hs gs → IsCarriedList m k r n rs ks →
    (c : ℕ) → c < n → value_of_root (get_or ks c zero_root) ≡ value_of_root (get_or gs c zero_root)
