-- Where words go wrong that are no weights.
use Rattle.std.proofs.Common.{◌≡◌, ◌≢◌, ◌⊎◌, ℕ, ◌<◌, ◌≤◌, List, [], ◌∷◌, length, get_or, refl, inl, inr, arith}
use Rattle.std.specs.Prelude.{codes}
use Rattle.tensor_defs.specs.declared.Weights.{Weights}
use Rattle.tensor_defs.specs.declared.Weights.TheVariants.{Plain, Shear}
use Rattle.text_defs.specs.Languages.{IsFaulty}
use Rattle.fault_places.proofs.Places.{faulty}
use Rattle.list_laws.proofs.Lists.{heads, none_some}
use Rattle.request_lines.specs.Words.{IsWeightsText, weights_word}

first_is : (b : ℕ) (z : List ℕ) (w : Weights) → b ∷ z ≡ weights_word w → (b ≡ 99) ⊎ (b ≡ 115)
first_is b z Plain e = inl (heads e)
first_is b z Shear e = inr (heads e)

not_empty : (w : Weights) → [] ≡ weights_word w → ⊥
not_empty Plain e = none_some e
not_empty Shear e = none_some e

pub weights_short : (word : List ℕ) → length word < 1 → IsFaulty IsWeightsText word 0
weights_short [] lt = faulty IsWeightsText [] 0 (λ a. not_empty a.0 a.1) (refl, (codes "c", (Plain, refl)))
weights_short (b ∷ bs) lt = absurd (omega arith)

pub weights_other : (word : List ℕ) → 1 ≤ length word → get_or word 0 0 ≢ 99 → get_or word 0 0 ≢ 115 → IsFaulty IsWeightsText word 0
weights_other [] le c s = absurd (omega arith)
weights_other (b ∷ bs) le c s =
    faulty IsWeightsText (b ∷ bs) 0 (λ a. none bs a) ((codes "c", (Plain, refl)), λ z a. none z a)
  where
    none : (z : List ℕ) → IsWeightsText (b ∷ z) → ⊥
    none z a = elim (first_is b z a.0 a.1) [ inl e ↦ c e | inr e ↦ s e ]
