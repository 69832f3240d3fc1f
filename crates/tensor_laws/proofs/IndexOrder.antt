-- Index order is a strict order.
use Rattle.std.proofs.Common.{◌≡◌, ◌≢◌, ℕ, [], ◌∷◌, length, refl, ap, sym, ◌∙◌, arith, ◌⊎◌, inl, inr}
use Rattle.std.specs.Prelude.{IsTrue}
use Rattle.tensor_defs.specs.Prelude.{x1, x2, x3, index_before, IsOrder, Index}

irreflexive : (c : Index) → ¬ IsTrue (index_before c c)
irreflexive [] h = cc
irreflexive (x1 ∷ is) h = irreflexive is h
irreflexive (x2 ∷ is) h = irreflexive is h
irreflexive (x3 ∷ is) h = irreflexive is h

transitive : (c d e : Index) → IsTrue (index_before c d) → IsTrue (index_before d e) → IsTrue (index_before c e)
transitive [] d e p q = cc
transitive (i ∷ is) [] e p q = cc
transitive (i ∷ is) (j ∷ js) [] p q = cc
transitive (x1 ∷ is) (x1 ∷ js) (x1 ∷ ks) p q = transitive is js ks p q
transitive (x1 ∷ is) (x1 ∷ js) (x2 ∷ ks) p q = refl
transitive (x1 ∷ is) (x1 ∷ js) (x3 ∷ ks) p q = refl
transitive (x1 ∷ is) (x2 ∷ js) (x1 ∷ ks) p q = cc
transitive (x1 ∷ is) (x2 ∷ js) (x2 ∷ ks) p q = refl
transitive (x1 ∷ is) (x2 ∷ js) (x3 ∷ ks) p q = refl
transitive (x1 ∷ is) (x3 ∷ js) (x1 ∷ ks) p q = cc
transitive (x1 ∷ is) (x3 ∷ js) (x2 ∷ ks) p q = refl
transitive (x1 ∷ is) (x3 ∷ js) (x3 ∷ ks) p q = refl
transitive (x2 ∷ is) (x1 ∷ js) e p q = cc
transitive (x2 ∷ is) (x2 ∷ js) (x1 ∷ ks) p q = cc
transitive (x2 ∷ is) (x2 ∷ js) (x2 ∷ ks) p q = transitive is js ks p q
transitive (x2 ∷ is) (x2 ∷ js) (x3 ∷ ks) p q = refl
transitive (x2 ∷ is) (x3 ∷ js) (x1 ∷ ks) p q = cc
transitive (x2 ∷ is) (x3 ∷ js) (x2 ∷ ks) p q = cc
transitive (x2 ∷ is) (x3 ∷ js) (x3 ∷ ks) p q = refl
transitive (x3 ∷ is) (x1 ∷ js) e p q = cc
transitive (x3 ∷ is) (x2 ∷ js) e p q = cc
transitive (x3 ∷ is) (x3 ∷ js) (x1 ∷ ks) p q = cc
transitive (x3 ∷ is) (x3 ∷ js) (x2 ∷ ks) p q = cc
transitive (x3 ∷ is) (x3 ∷ js) (x3 ∷ ks) p q = transitive is js ks p q

total : (c d : Index) → length c ≡ length d → c ≢ d → IsTrue (index_before c d) ⊎ IsTrue (index_before d c)
total [] [] e n = absurd (n refl)
total [] (j ∷ js) e n = absurd (omega arith)
total (i ∷ is) [] e n = absurd (omega arith)
total (x1 ∷ is) (x1 ∷ js) e n = total is js (omega arith) (λ s. n (ap (λ z. x1 ∷ z) s))
total (x2 ∷ is) (x2 ∷ js) e n = total is js (omega arith) (λ s. n (ap (λ z. x2 ∷ z) s))
total (x3 ∷ is) (x3 ∷ js) e n = total is js (omega arith) (λ s. n (ap (λ z. x3 ∷ z) s))
total (x1 ∷ is) (x2 ∷ js) e n = inl refl
total (x1 ∷ is) (x3 ∷ js) e n = inl refl
total (x2 ∷ is) (x3 ∷ js) e n = inl refl
total (x2 ∷ is) (x1 ∷ js) e n = inr refl
total (x3 ∷ is) (x1 ∷ js) e n = inr refl
total (x3 ∷ is) (x2 ∷ js) e n = inr refl

pub index_order : (r : ℕ) → IsOrder r index_before
index_order r =
    record { irreflexive = irreflexive; transitive = transitive; total = λ c d p q n. total c d (p ∙ sym q) n }
