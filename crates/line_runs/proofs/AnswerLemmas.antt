-- One answer after another, and the format that the first line tells.
--   answers-push        the answer of the next line
--   refused-append_left, refused-push, refused-of_push    refused lines among some and the next one
--   Told, told_push, told_in, retold    a format that the first of some lines tells
use Rattle.std.proofs.Common.{◌≡◌, ◌⊎◌, inl, inr, ⊎_elim, ℕ, ◌+◌, List, [], ◌∷◌, ◌++◌, length, refl, sym, ◌∙◌, ap, subst, arith, append_assoc}
use Rattle.std.proofs.lemmas.List.{append-nil}
use Rattle.text_defs.specs.declared.Format.{Format}
use Rattle.text_defs.specs.Prelude.{IsRefused, IsAnswer, AreAnswers, HasRefused, format_told}
use Rattle.line_runs.specs.Answering.{IsTold}

pub answers-push : (format : Format) (number : ℕ) (ls : List (List ℕ)) (line out answer : List ℕ) → AreAnswers format number ls out
    → IsAnswer format (length ls + number) line answer → AreAnswers format number (ls ++ line ∷ []) (out ++ answer)
answers-push format number [] line out answer so_far next =
    let same : out ++ answer ≡ answer ++ [] = ap (λ (o : List ℕ). o ++ answer) so_far ∙ sym (append-nil answer) in
    let at : IsAnswer format number line answer = subst (λ (n : ℕ). IsAnswer format n line answer) (omega arith) next in
    (answer, [], at, refl, same)
answers-push format number (l ∷ ls) line out answer so_far next =
    let shifted : IsAnswer format (length ls + (number + 1)) line answer =
    subst (λ (n : ℕ). IsAnswer format n line answer) (omega arith) next in (
      so_far.0,
      so_far.1 ++ answer,
      so_far.2,
      answers-push format (number + 1) ls line so_far.1 answer so_far.3 shifted,
      ap (λ (o : List ℕ). o ++ answer) so_far.4 ∙ append_assoc so_far.0 so_far.1 answer,
    )

pub refused-append_left : (format : Format) (number : ℕ) (ls more : List (List ℕ)) → HasRefused format number ls
    → HasRefused format number (ls ++ more)
refused-append_left format number [] more some = absurd some
refused-append_left format number (l ∷ ls) more (inl here) = inl here
refused-append_left format number (l ∷ ls) more (inr there) = inr (refused-append_left format (number + 1) ls more there)

pub refused-push : (format : Format) (number : ℕ) (ls : List (List ℕ)) (line : List ℕ) → IsRefused format (length ls + number) line
    → HasRefused format number (ls ++ line ∷ [])
refused-push format number [] line is = inl (subst (λ (n : ℕ). IsRefused format n line) (omega arith) is)
refused-push format number (l ∷ ls) line is =
    inr (refused-push format (number + 1) ls line (subst (λ (n : ℕ). IsRefused format n line) (omega arith) is))

pub refused-of_push : (format : Format) (number : ℕ) (ls : List (List ℕ)) (line : List ℕ) → HasRefused format number (ls ++ line ∷ [])
    → HasRefused format number ls ⊎ IsRefused format (length ls + number) line
refused-of_push format number [] line (inl is) = inr (subst (λ (n : ℕ). IsRefused format n line) (omega arith) is)
refused-of_push format number [] line (inr none) = absurd none
refused-of_push format number (l ∷ ls) line (inl here) = inl (inl here)
refused-of_push format number (l ∷ ls) line (inr there) =
    ⊎_elim (λ some. inl (inr some)) (λ is. inr (subst (λ (n : ℕ). IsRefused format n line) (omega arith) is))
    (refused-of_push format (number + 1) ls line there)

-- ---- the format
-- the first of the lines tells it, if there is one
abbrev pub Told : Format → List (List ℕ) → Type 0
Told format lines = (lines ≡ []) ⊎ (format ≡ format_told lines)

-- so do these lines with more behind them, where there is one
pub told_in : (format : Format) (lines more : List (List ℕ)) (P : Format → List (List ℕ) → Type 0) → Told format lines
    → ((other : Format) → P format [] → P other []) → P format lines → P (format_told (lines ++ more)) lines
told_in format [] more P told any so = any (format_told more) so
told_in format (l ∷ ls) more P (inl none) any so = cc
told_in format (l ∷ ls) more P (inr is) any so = subst (λ (f : Format). P f (l ∷ ls)) is so

-- at the next line
pub told_push : (before : Format) (number : ℕ) (lines : List (List ℕ)) (line : List ℕ) (more : List (List ℕ)) (format : Format)
    → number ≡ length lines + 1 → Told before lines → IsTold number before line format → format ≡ format_told (lines ++ line ∷ more)
told_push before number [] line more format counted told (inl first) = first.1
told_push before number [] line more format counted told (inr later) = absurd (later.0 counted)
told_push before number (l ∷ ls) line more format counted told (inl first) = absurd (omega (arith, first.0, counted))
told_push before number (l ∷ ls) line more format counted (inl none) (inr later) = cc
told_push before number (l ∷ ls) line more format counted (inr is) (inr later) = later.1 ∙ is

-- what is said of the lines so far stays true in the format of the next one
pub retold : (before : Format) (number : ℕ) (lines : List (List ℕ)) (line : List ℕ) (format : Format)
    → (P : Format → List (List ℕ) → Type 0) → number ≡ length lines + 1 → IsTold number before line format
    → (P before [] → P format []) → P before lines → P format lines
retold before number [] line format P counted told any so = any so
retold before number (l ∷ ls) line format P counted (inl first) any so = absurd (omega (arith, first.0, counted))
retold before number (l ∷ ls) line format P counted (inr later) any so = subst (λ (f : Format). P f (l ∷ ls)) (sym later.1) so
