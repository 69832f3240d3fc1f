-- The symbol of a parent without primes, not grey, is accepted: a product of operations without time reversal has none.
use Rattle.std.proofs.Common.{◌≡◌, ℕ, Bool, true, false, List, [], ◌∷◌, ◌++◌, refl, sym, ap, subst, arith, inl, inr}
use Rattle.std.specs.Prelude.{Option, Some, None, Contains}
use Rattle.std.proofs.lemmas.List.Elements.{Contains-append_cases, Contains-push_cases}
use mathlib.Core.Bool.{xor}
use Rattle.tensor_defs.specs.declared.OpKind.{OpKind}
use Rattle.tensor_defs.specs.declared.OpKind.TheVariants.{Two, Three, Four, Six, Bar1, Bar3, Bar4, Bar6, Mirror}
use Rattle.tensor_defs.specs.declared.Direction.{Direction}
use Rattle.tensor_defs.specs.declared.Direction.TheVariants.{X, Y, Z, XY, XmY, XYZ}
use Rattle.tensor_defs.specs.declared.Setting.{Setting}
use Rattle.tensor_defs.specs.declared.Setting.TheVariants.{Default}
use Rattle.tensor_defs.specs.Prelude.{Each, Operation, reversal, GroupSymbol, Operator, operation_of, turned_to, listed, operations_of, generators}
use Rattle.tensor_defs.specs.Prelude.{parent_operators, IsProductOf, IsAccepted}
use Rattle.dialects.specs.ClassNames.{plain_symbol, IsReadName}

abbrev IsMarked : Bool → Option Operation → Type 0
IsMarked m None = Unit {0}
IsMarked m (Some g) = g.primed ≡ m

pub marked_as : (k : OpKind) (d : Direction) (m : Bool) → IsMarked m (operation_of k d m)
marked_as Two X m = refl
marked_as Two Y m = refl
marked_as Two Z m = refl
marked_as Two XY m = refl
marked_as Two XmY m = refl
marked_as Mirror X m = refl
marked_as Mirror Y m = refl
marked_as Mirror Z m = refl
marked_as Mirror XY m = refl
marked_as Mirror XmY m = refl
marked_as Four Z m = refl
marked_as Bar4 Z m = refl
marked_as Three Z m = refl
marked_as Bar3 Z m = refl
marked_as Six Z m = refl
marked_as Bar6 Z m = refl
marked_as Three XYZ m = refl
marked_as Bar3 XYZ m = refl
marked_as Bar1 Z m = refl
marked_as k d m = tt

nothing : (g : Operation) → Contains [] g → ⊥
nothing g c = let h = c.1 in omega arith

listed_unmarked : (o : Option Operation) (g : Operation) → IsMarked false o → Contains (listed o) g → g.primed ≡ false
listed_unmarked None g m c = absurd (nothing g c)
listed_unmarked (Some a) g m c = elim (Contains-push_cases [] a g c) [
  | inl h ↦ absurd (nothing g h)
  | inr q ↦ subst (λ (x : Operation). x.primed ≡ false) q m
]

unmarked : (s : Setting) (os : List Operator) (g : Operation) → Contains (operations_of s 0 os) g → g.primed ≡ false
unmarked s [] g c = absurd (nothing g c)
unmarked s (o ∷ os) g c =
    elim (Contains-append_cases (listed (operation_of o.kind (turned_to s o.direction) false)) (operations_of s 0 os) g c) [
      | inl h ↦ listed_unmarked (operation_of o.kind (turned_to s o.direction) false) g (marked_as o.kind (turned_to s o.direction) false) h
      | inr h ↦ unmarked s os g h
    ]

both_off : (a b c : Bool) → a ≡ xor b c → b ≡ false → c ≡ false → a ≡ false
unfolding xor
both_off a b c e f g = rw (e, f, g) refl

products_unmarked : (S : Operation → Type 0) → ((g : Operation) → S g → g.primed ≡ false) → (gs : List Operation) (k : Operation) →
    Each S gs → IsProductOf gs k → k.primed ≡ false
products_unmarked S out [] k e is = ap (λ (x : Operation). x.primed) is
products_unmarked S out (g ∷ gs) k e (m, rest, is) =
    both_off k.primed g.primed m.primed is.marks (out g e.0) (products_unmarked S out gs m e.1 rest)

true_false : true ≡ false → ⊥
true_false e = cc

pub plain_accepted : (n : ℕ) → IsAccepted (plain_symbol n)
unfolding generators
plain_accepted n = inr (λ h. true_false (products_unmarked (λ g. Contains (generators (plain_symbol n)) g) by h.0 reversal h.1 h.2))
  where
    by : (g : Operation) → Contains (operations_of Default 0 (parent_operators n) ++ []) g → g.primed ≡ false
    by g c = elim (Contains-append_cases (operations_of Default 0 (parent_operators n)) [] g c) [
      | inl h ↦ unmarked Default (parent_operators n) g h
      | inr h ↦ absurd (nothing g h)
    ]

pub named_accepted : (word : List ℕ) (t : GroupSymbol) → IsReadName word t → IsAccepted t
named_accepted word t (inl (n, f, e)) = subst IsAccepted (sym e) (plain_accepted n)
named_accepted word t (inr (s, e)) = subst IsAccepted (sym e) (plain_accepted 20)
