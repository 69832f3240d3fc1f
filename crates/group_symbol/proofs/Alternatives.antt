-- The texts of the parents' symbols, and 1', as alternatives.
use Rattle.list_laws.proofs.Kit.{◌≡◌, ◌≢◌, ◌⊎◌, ℕ, ◌+◌, ◌<◌, ◌≤◌, List, length, get_or, take, max, refl, arith, inl, inr, cases_lt}
use Rattle.std.specs.Prelude.{codes}
use Rattle.text_defs.specs.Prelude.{IsFaulty, SpellsGroup, IsGroupText, grey_one}
use Rattle.fault_places.proofs.Places.{same_faulty}
use Rattle.fault_places.proofs.Furthest.{Furthest, Furthest-stay, Furthest-go, Furthest-all, single_faulty, Furthest-start}
use Rattle.tensor_defs.specs.Symbols.{GroupSymbol}
use Rattle.group_symbol.specs.Parts.{IsFullTextOf}

abbrev pub Alternative : ℕ → List ℕ → Type 0
Alternative k z = ((k ≡ 0) × (z ≡ codes "1'")) ⊎ IsFullTextOf k z

abbrev pub Tried : List ℕ → ℕ → ℕ → Type 0
Tried word count place = Furthest IsGroupText Alternative count word place

alternative_text : (k : ℕ) (z : List ℕ) → Alternative k z → IsGroupText z
alternative_text k z (inl h) = (grey_one, inr (h.1, refl))
alternative_text k z (inr h) = (h.0, inl h.2)

pub first_tried : (word : List ℕ) (n : ℕ) → n ≤ 2 → n ≤ length word → take n (codes "1'") ≡ take n word →
    (n < 2 → n < length word → get_or (codes "1'") n 0 ≢ get_or word n 0) → (n ≡ 2 → length word ≡ 2 → ⊥) → Tried word 1 n
first_tried word n in_text in_word same differ part =
    Furthest-go IsGroupText Alternative 0 word 0 (Furthest-start IsGroupText Alternative word (
      codes "1'",
      (grey_one, inr (refl, refl)),
    )) n (alternative_text 0)
    (same_faulty (λ z. z ≡ codes "1'") (Alternative 0) (λ z e. inl (refl, e))
    (λ z a. elim a [ inl h ↦ h.1 | inr h ↦ absurd (no_zero h.0.parent h.1 h.2.symbol.first) ]) word n
    (single_faulty (codes "1'") word n in_text in_word same differ (λ a b. part a (omega arith)))) (omega arith)
  where
    no_zero : (k : ℕ) → k ≡ 0 → 1 ≤ k → ⊥
    no_zero k e h = omega arith

module _ (word : List ℕ) (number place : ℕ) (first : 1 ≤ number) (h : Tried word number place) (m : ℕ) (f : IsFaulty (IsFullTextOf number) word m) where
  wrong : IsFaulty (Alternative number) word m
  wrong = same_faulty (IsFullTextOf number) (Alternative number) (λ z a. inr a) (λ z a. elim a [ inl b ↦ absurd (no_zero b.0) | inr b ↦ b ]) word m f
    where
      no_zero : number ≡ 0 → ⊥
      no_zero e = omega arith

  pub tried_next : Tried word (number + 1) (max place m)
  tried_next =
      elim (cases_lt place m) [
        | inl less ↦
            let is : max place m ≡ m = omega arith in
            rw is (Furthest-go IsGroupText Alternative number word place h m (alternative_text number) wrong (omega arith))
        | inr more ↦
            let is : max place m ≡ place = omega arith in
            rw is (Furthest-stay IsGroupText Alternative number word place h m wrong more)
      ]

pub all_tried : (word : List ℕ) (place : ℕ) → Tried word 43 place → IsFaulty IsGroupText word place
all_tried word place h = Furthest-all IsGroupText Alternative 43 word place h (λ z s. covered z s.0 s.1)
  where
    covered : (z : List ℕ) (t : GroupSymbol) → SpellsGroup z t → (k : ℕ) × (k < 43) × Alternative k z
    covered z t (inl full) = (t.parent, omega (arith, full.symbol.last), inr (t, refl, full))
    covered z t (inr short) = (0, omega arith, inl (refl, short.0))
