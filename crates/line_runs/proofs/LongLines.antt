-- Lines that are too long, and the line that tells format 2.
--   long_answer, long_refused, long_slow    a line that is too long is refused, whatever its bytes
--   stands_long, stands_true, stands_false    what is held of a line that is too long, and of another one
--   other_length, heading_told    the line that says that an input is in format 2
use Rattle.list_laws.proofs.Kit.{◌≡◌, inl, inr, ◌∙◌, ℕ, ◌+◌, ◌<◌, ◌≤◌, Bool, true, false, List, [], ◌∷◌, length, refl, arith, ap, ◌↔◌, IsTrue, subst}
use Rattle.list_laws.proofs.Kit.{nat_tests, Ok, Err}
use Rattle.text_defs.specs.declared.Format.{Format}
use Rattle.text_defs.specs.declared.Format.TheVariants.{One, Two}
use Rattle.text_defs.specs.Prelude.{longest_line, IsPassed, IsRefused, refusal_text, heading, IsAnswer}
use Rattle.text_defs.specs.Refusals.RefusalWord.{Long}
use Rattle.tensor_defs.specs.Lists.{same_numbers_in}
use Rattle.std.specs.Prelude.{OnErr, MatchBool}
use Rattle.std.specs.declared.result.Result.{Result}
use Rattle.list_laws.proofs.Tests.{same_numbers_own, same_numbers_told}
use Rattle.line_runs.specs.Answering.{IsQuick}
use Rattle.line_runs.specs.Reads.{Stands}

some_long : (format : Format) → 8 < longest_line format
some_long One = omega arith
some_long Two = omega arith

not_passed : (format : Format) (number : ℕ) (line : List ℕ) → longest_line format < length line → IsPassed format number line → ⊥
not_passed format number line more (inl none) = omega (arith, more, ap length none)
not_passed One number line more (inr (inl first)) = first
not_passed Two number line more (inr (inl first)) = omega (arith, more, ap length first.1)
not_passed format number line more (inr (inr comment)) = omega (arith, more, comment.0)

pub long_answer : (format : Format) (number : ℕ) (line : List ℕ) → longest_line format < length line
    → IsAnswer format number line (refusal_text number (longest_line format + 1) Long)
long_answer format number line more =
    inr (not_passed format number line more, inl (Long, longest_line format + 1, (more, refl), refl))

pub long_refused : (format : Format) (number : ℕ) (line : List ℕ) → longest_line format < length line → IsRefused format number line
long_refused format number line more = (not_passed format number line more, Long, longest_line format + 1, (more, refl))

pub at_most : (format : Format) → longest_line format ≤ 4000
at_most One = omega arith
at_most Two = omega arith

pub stands_long : (format : Format) (held line : List ℕ) → Stands true held line → longest_line format < length line
stands_long format held line stands = omega (arith, stands, at_most format)

pub stands_true : (format : Format) (is_long : Bool) (held line : List ℕ) → is_long ≡ true → Stands is_long held line
    → longest_line format < length line
stands_true format true held line is stands = stands_long format held line stands
stands_true format false held line is stands = cc

pub stands_false : (is_long : Bool) (held line : List ℕ) → is_long ≡ false → Stands is_long held line → line ≡ held
stands_false true held line is stands = cc
stands_false false held line is stands = stands

pub refused_long : (format : Format) (number : ℕ) (line : List ℕ) → longest_line format < length line → IsTrue true ↔ IsRefused format number line
refused_long format number line more = (λ yes. long_refused format number line more, λ refused. refl)

pub held_slow : (format : Format) (number : ℕ) (is_long : Bool) (held : List ℕ) → is_long ≡ false → (IsQuick format number held → ⊥)
    → (line : List ℕ) → Stands is_long held line → IsQuick format number line → ⊥
held_slow format number is_long held is slow line stands quick =
    slow (subst (λ (l : List ℕ). IsQuick format number l) (stands_false is_long held line is stands) quick)

pub on_err : {T E : Type 0} {P : Type 0} (r : Result T E) → P → OnErr r P
on_err (Ok x) p = tt
on_err (Err e) p = p

-- ---- the line that tells format 2
pub other_length : (xs ys : List ℕ) → length ys < length xs → same_numbers_in xs ys ≡ false
other_length [] ys more = absurd (omega arith)
other_length (x ∷ xs) [] more = refl
other_length (x ∷ xs) (y ∷ ys) more = grind (arith, nat_tests, other_length xs ys)

pub heading_told : (line : List ℕ) (b : Bool) → MatchBool b (line ≡ heading) (line ≡ heading → ⊥) →
    same_numbers_in line heading ≡ b
heading_told line true e = ap (λ (l : List ℕ). same_numbers_in l heading) e ∙ same_numbers_own heading
heading_told line false n = by (same_numbers_in line heading) refl
  where
    by : (t : Bool) → same_numbers_in line heading ≡ t → same_numbers_in line heading ≡ false
    by true is = absurd (n (same_numbers_told line heading is))
    by false is = is
