-- Lists to which operations carried one tensor.
--   even_marks      the marks under which the inversion and time reversal leave each tensor of a rank the same
--   AreCarried      each is the one to which its operation carries it
--   IsListAt        the list at a place is the one to which an operation carries it
--   Serves          whatever the tensor is
-- Source: International Tables D 1.1.
use Rattle.std.specs.Prelude.{◌≡◌, ℕ, ◌<◌, ◌%◌, List, false, length, get_or, nat_eq}
use Rattle.tensor_defs.specs.Prelude.{Each, Root3, Operation, Marks}
use Rattle.tensor_action.specs.Acting.{IsCarriedList}
use Rattle.given_tensors.specs.declared.carried.Carried.{Carried}

unfoldable pub even_marks : ℕ → Marks
even_marks r = record { axial = nat_eq (r % 2) 1; magnetic = false }

abbrev pub AreCarried : Marks → ℕ → ℕ → List Root3 → List Carried → Type 0
AreCarried m r n ts cs = Each (λ c. IsCarriedList m c.op r n ts c.list.items) cs

pub record IsListAt (m : Marks) (g : Operation) (r n : ℕ) (ts : List Root3) (cs : List Carried) (k : ℕ) : Type 0 where
  pub within : k < length cs
  pub carried : (c : Carried) → c ≡ get_or cs k c → IsCarriedList m g r n ts c.list.items

abbrev pub Serves : Marks → Operation → ℕ → ℕ → List Carried → ℕ → Type 0
Serves m g r n cs k = (ts : List Root3) → AreCarried m r n ts cs → IsListAt m g r n ts cs k
