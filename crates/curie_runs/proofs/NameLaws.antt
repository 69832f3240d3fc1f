-- The texts of limiting groups, tried one after another.
use Rattle.std.proofs.Common.{◌≡◌, ◌≢◌, ℕ, ◌+◌, ◌<◌, ◌≤◌, List, length, get_or, take, max, refl, sym, ap, subst, ◌∙◌, arith, inl, inr}
use Rattle.std.proofs.lemmas.Bool.{cases_lt}
use Rattle.text_defs.specs.Languages.{IsFaulty}
use Rattle.fault_places.proofs.Furthest.{Furthest, Furthest-all, Furthest-go, Furthest-stay, single_faulty}
use Rattle.limiting_defs.specs.declared.Curie.{Curie}
use Rattle.limiting_defs.specs.declared.Curie.TheVariants.{Inf, InfM, Inf2, InfOverM, InfOverMM}
use Rattle.curie_runs.specs.CurieTexts.{IsCurieText, curie_at, curie_text}

abbrev pub Tried : List ℕ → ℕ → ℕ → Type 0
Tried word count place = Furthest IsCurieText (λ k z. z ≡ curie_text (curie_at k)) count word place

place_of : Curie → ℕ
place_of Inf = 0
place_of InfM = 1
place_of Inf2 = 2
place_of InfOverM = 3
place_of InfOverMM = 4

listed : (g : Curie) → (place_of g < 5) × (curie_at (place_of g) ≡ g)
unfolding place_of curie_at
listed Inf = (omega arith, refl)
listed InfM = (omega arith, refl)
listed Inf2 = (omega arith, refl)
listed InfOverM = (omega arith, refl)
listed InfOverMM = (omega arith, refl)

pub all_tried : (word : List ℕ) (place : ℕ) → Tried word 5 place → IsFaulty IsCurieText word place
all_tried word place h =
    Furthest-all IsCurieText (λ k z. z ≡ curie_text (curie_at k)) 5 word place h
    (λ z s. (place_of s.0, (listed s.0).0, s.1 ∙ ap curie_text (sym (listed s.0).1)))

-- the text of the next place has n bytes in common with the word, which isn't that text
pub tried_next : (word text : List ℕ) (place count n : ℕ) → Tried word count place → text ≡ curie_text (curie_at count) →
    n ≤ length text → n ≤ length word → take n text ≡ take n word →
    (n < length text → n < length word → get_or text n 0 ≢ get_or word n 0) → (n ≡ length text → n ≡ length word → ⊥) →
    Tried word (count + 1) (max place n)
tried_next word text place count n h is in_text in_word same differ part =
    elim (cases_lt place n) [
      | inl less ↦
          let e : max place n ≡ n = omega arith in
          rw e (Furthest-go IsCurieText (λ k z. z ≡ curie_text (curie_at k)) count word place h n (λ z r. (curie_at count, r)) wrong (omega arith))
      | inr more ↦
          let e : max place n ≡ place = omega arith in
          rw e (Furthest-stay IsCurieText (λ k z. z ≡ curie_text (curie_at k)) count word place h n wrong more)
    ]
  where
    wrong : IsFaulty (λ z. z ≡ curie_text (curie_at count)) word n
    wrong = subst (λ (t : List ℕ). IsFaulty (λ z. z ≡ t) word n) is (single_faulty text word n in_text in_word same differ part)
