-- The operators of a parent with primes: the same matrices, unprimed or primed.
--   partner         an operator of the symbol without primes stands in each other one, unprimed or primed
--   operators_part  the operators are among the generators
use Rattle.std.proofs.Common.{◌≡◌, ℕ, ◌/◌, ◌%◌, Bool, false, List, [], ◌∷◌, refl, arith, subst, ◌⊎◌, inl, inr}
use Rattle.std.specs.Prelude.{◌==◌, Option, Some, None, Contains}
use Rattle.std.proofs.lemmas.List.Elements.{Contains-append_left, Contains-append_right, Contains-append_cases, Contains-push_cases}
use Rattle.list_laws.proofs.Lists.{none_held}
use Rattle.tensor_defs.specs.declared.OpKind.{OpKind}
use Rattle.tensor_defs.specs.declared.OpKind.TheVariants.{Two, Three, Four, Six, Bar1, Bar3, Bar4, Bar6, Mirror}
use Rattle.tensor_defs.specs.declared.Direction.{Direction}
use Rattle.tensor_defs.specs.declared.Direction.TheVariants.{X, Y, Z, XY, XmY, XYZ}
use Rattle.tensor_defs.specs.declared.Setting.{Setting}
use Rattle.tensor_defs.specs.Prelude.{Operation, operation_of, Operator, GroupSymbol, parent_operators, turned_to, listed, operations_of, generators}
use Rattle.op_matrix.specs.Table.{marked}

abbrev with_mark : Bool → Option Operation → Option Operation
with_mark b None = None
with_mark b (Some g) = Some (marked g b)

form : (k : OpKind) (d : Direction) (b : Bool) → with_mark b (operation_of k d false) ≡ operation_of k d b
form Two X b = refl
form Two Y b = refl
form Two Z b = refl
form Two XY b = refl
form Two XmY b = refl
form Mirror X b = refl
form Mirror Y b = refl
form Mirror Z b = refl
form Mirror XY b = refl
form Mirror XmY b = refl
form Four Z b = refl
form Bar4 Z b = refl
form Three Z b = refl
form Bar3 Z b = refl
form Six Z b = refl
form Bar6 Z b = refl
form Three XYZ b = refl
form Bar3 XYZ b = refl
form Bar1 Z b = refl
form k d b = refl

-- ---- the operators of a parent
listed_form : (o o' : Option Operation) (b : Bool) (g : Operation) → with_mark b o ≡ o' → Contains (listed o) g → Contains (listed o') (marked g b)
listed_form None o' b g e c = absurd (none_held g c)
listed_form (Some a) o' b g e c = subst (λ x. Contains (listed x) (marked g b)) e (elim (Contains-push_cases [] a g c) [
  | inl h ↦ absurd (none_held g h)
  | inr q ↦ subst (λ x. Contains (marked a b ∷ []) (marked x b)) q (0, omega arith, refl)
])

pub partner : (s : Setting) (os : List Operator) (p : ℕ) (g : Operation) → Contains (operations_of s 0 os) g → (b : Bool) × Contains (operations_of s p os) (marked g b)
partner s [] p g c = absurd (none_held g c)
partner s (o ∷ os) p g c =
    by (Contains-append_cases (listed (operation_of o.kind (turned_to s o.direction) false)) (operations_of s 0 os) g c) (partner s os (p / 2) g)
  where
    by : Contains (listed (operation_of o.kind (turned_to s o.direction) false)) g ⊎ Contains (operations_of s 0 os) g → (Contains (operations_of s 0 os) g → (b : Bool) × Contains (operations_of s (p / 2) os) (marked g b)) → (b : Bool) × Contains (operations_of s p (o ∷ os)) (marked g b)
    by (inl h) r = (p % 2 == 1, Contains-append_left (listed (operation_of o.kind (turned_to s o.direction) (p % 2 == 1))) (operations_of s (p / 2) os) (marked g (p % 2 == 1)) (listed_form (operation_of o.kind (turned_to s o.direction) false) (operation_of o.kind (turned_to s o.direction) (p % 2 == 1)) (p % 2 == 1) g (form o.kind (turned_to s o.direction) (p % 2 == 1)) h))
    by (inr h) r = let t = r h in (t.0, Contains-append_right (listed (operation_of o.kind (turned_to s o.direction) (p % 2 == 1))) (operations_of s (p / 2) os) (marked g t.0) t.1)

pub operators_part : (t : GroupSymbol) (g : Operation) → Contains (operations_of t.setting t.primes (parent_operators t.parent)) g → Contains (generators t) g
unfolding generators
operators_part t g c = Contains-append_left (operations_of t.setting t.primes (parent_operators t.parent)) _ g c
