-- The suffixes as alternatives, row by row.
use Rattle.list_laws.proofs.Kit.{◌≡◌, ◌≢◌, ℕ, ◌+◌, ◌<◌, ◌≤◌, true, false, IsTrue, List, [], length, get_or, take, max, refl, sym, ◌∙◌, arith, lit<, inl, inr}
use Rattle.list_laws.proofs.Kit.{cases_lt}
use Rattle.text_defs.specs.Prelude.{IsFaulty, suffix_at, no_suffix}
use Rattle.fault_places.proofs.Places.{same_faulty}
use Rattle.fault_places.proofs.Furthest.{Furthest, Furthest-skip, Furthest-stay, Furthest-go, Furthest-all, single_faulty}
use Rattle.group_symbol.specs.Parts.{IsSuffixText}

abbrev pub Row : ℕ → ℕ → List ℕ → Type 0
Row parent k z = IsTrue ((suffix_at k).parents parent) × (z ≡ (suffix_at k).text)

abbrev pub Rows : ℕ → List ℕ → ℕ → ℕ → Type 0
Rows parent word row place = Furthest (IsSuffixText parent) (Row parent) row word place

row_text : (parent k : ℕ) → k < 7 → (z : List ℕ) → Row parent k z → IsSuffixText parent z
row_text parent k lt z h = ((suffix_at k).setting, record { place = k; listed = lt; taken = h.0; setting_is = refl; text_is = h.1 })

pub no_suffix_is_one : (parent : ℕ) → IsSuffixText parent []
unfolding suffix_at
no_suffix_is_one parent = (no_suffix.setting, record { place = 0; listed = lit< tt; taken = refl; setting_is = refl; text_is = refl })

pub Rows-start : (parent : ℕ) (word : List ℕ) → Rows parent word 0 0
Rows-start parent word = record { within = omega arith; begins = ([], no_suffix_is_one parent); none = λ k lt. absurd (omega arith); longest = λ k lt. absurd (omega arith) }

pub Rows-end : (parent : ℕ) (word : List ℕ) (place : ℕ) → Rows parent word 7 place → IsFaulty (IsSuffixText parent) word place
Rows-end parent word place h = Furthest-all (IsSuffixText parent) (Row parent) 7 word place h (λ z s. (s.1.place, s.1.listed, (s.1.taken, s.1.text_is)))

module _ (parent : ℕ) (word : List ℕ) (row place : ℕ) (h : Rows parent word row place) where
  pub Rows-skip : (suffix_at row).parents parent ≡ false → Rows parent word (row + 1) place
  Rows-skip no_row = Furthest-skip (IsSuffixText parent) (Row parent) row word place h (λ z r. not_taken r.0)
    where
      not_taken : IsTrue ((suffix_at row).parents parent) → ⊥
      not_taken t = let clash : false ≡ true = sym no_row ∙ t in cc

  module _ (taken : (suffix_at row).parents parent ≡ true) (text : List ℕ) (is : text ≡ (suffix_at row).text) (n : ℕ) (in_text : n ≤ length text) (in_word : n ≤ length word) (same : take n text ≡ take n word) (differ : n < length text → n < length word → get_or text n 0 ≢ get_or word n 0) where
    is_taken : IsTrue ((suffix_at row).parents parent)
    is_taken = taken

    row_faulty : (n ≡ length text → n ≡ length word → ⊥) → IsFaulty (Row parent row) word n
    row_faulty part = same_faulty (λ z. z ≡ text) (Row parent row) (λ z e. (is_taken, e ∙ is)) (λ z r. r.1 ∙ sym is) word n (single_faulty text word n in_text in_word same differ part)

    pub Rows-next : row < 7 → (n ≡ length text → n ≡ length word → ⊥) → Rows parent word (row + 1) (max place n)
    Rows-next lt part =
        elim (cases_lt place n) [
          | inl less ↦
              let is : max place n ≡ n = omega arith in
              rw is (Furthest-go (IsSuffixText parent) (Row parent) row word place h n (row_text parent row lt) (row_faulty part) (omega arith))
          | inr more ↦
              let is : max place n ≡ place = omega arith in
              rw is (Furthest-stay (IsSuffixText parent) (Row parent) row word place h n (row_faulty part) more)
        ]
