-- The lines that are written.
--   cubic_text, hexagonal_text    the symbols of the whole groups
--   told_words      the words of a verdict tell it
--   check_text      the two lines
--   not_grown       neither the check nor the search for the stabiliser grows
use Rattle.std.proofs.Common.{◌≡◌, ◌∙◌, ℕ, ◌^◌, List, codes, refl, sym, ap, subst, inl, inr}
use Rattle.tensor_defs.specs.Prelude.{JahnSymbol, rank, IsListing, Operation, comes_before, GroupSymbol, parent_text, Marks, Tensor}
use Rattle.text_defs.specs.GroupTexts.{group_text, with_primes}
use Rattle.given_tensors.specs.Stabilisers.{Stabilises, StabiliserGrows}
use Rattle.given_tensors.specs.Verdicts.{CheckGrows, TellsVerdict}
use Rattle.given_tensors.specs.Wholes.{whole_symbol}
use Rattle.given_tensors.specs.declared.verdict.Verdict.{Verdict}
use Rattle.given_tensors.specs.declared.verdict.Verdict.TheVariants.{Invariant, Symmetry, Element}
use Rattle.given_tensors.specs.declared.wholes.Whole.{Whole}
use Rattle.given_tensors.specs.declared.wholes.Whole.TheVariants.{Cubic, Hexagonal}
use Rattle.check_runs.specs.CheckTexts.{IsCheckText, IsVerdictText, IsWholeOf, check_line}
use Rattle.check_runs.specs.CheckWords.{Grows}
use Rattle.check_runs.specs.Lines.{IsStabiliserLine, verdict_words}

cubic : codes "m-3m1'" ≡ group_text (whole_symbol Cubic)
unfolding with_primes parent_text
cubic = refl

hexagonal : codes "6/mmm1'" ≡ group_text (whole_symbol Hexagonal)
unfolding with_primes parent_text
hexagonal = refl

pub cubic_text : (whole : Whole) → whole ≡ Cubic → codes "m-3m1'" ≡ group_text (whole_symbol whole)
cubic_text whole e = cubic ∙ ap (λ (w : Whole). group_text (whole_symbol w)) (sym e)

pub hexagonal_text : (whole : Whole) → whole ≡ Hexagonal → codes "6/mmm1'" ≡ group_text (whole_symbol whole)
hexagonal_text whole e = hexagonal ∙ ap (λ (w : Whole). group_text (whole_symbol w)) (sym e)

told_at : {R : Type 0} (j : JahnSymbol) (hs : List Operation) (t : Tensor) (v : Verdict R) → TellsVerdict j hs (rank j) (3 ^ rank j) t v →
    IsVerdictText j hs t (verdict_words (rank j) v)
told_at j hs t Invariant h = inl (h, refl)
told_at j hs t (Symmetry c) h = inr (inl (c, h, refl))
told_at j hs t (Element place c) h = inr (inr (place, c, h, refl))

pub told_words : {R : Type 0} (j : JahnSymbol) (hs : List Operation) (r n : ℕ) (t : Tensor) (v : Verdict R) → rank j ≡ r → n ≡ 3 ^ r →
    TellsVerdict j hs r n t v → IsVerdictText j hs t (verdict_words r v)
told_words {R} j hs r n t v e f h =
    subst (λ (q : ℕ). (m : ℕ) → m ≡ 3 ^ q → TellsVerdict j hs q m t v → IsVerdictText j hs t (verdict_words q v)) e at_rank n f h
  where
    at_rank : (m : ℕ) → m ≡ 3 ^ rank j → TellsVerdict j hs (rank j) m t v → IsVerdictText j hs t (verdict_words (rank j) v)
    at_rank m g k = told_at j hs t v (subst (λ (q : ℕ). TellsVerdict j hs (rank j) q t v) g k)

one_whole : (hs : List Operation) (v w : Whole) → IsWholeOf hs v → IsWholeOf hs w → v ≡ w
one_whole hs Cubic Cubic a b = refl
one_whole hs Cubic Hexagonal a b = absurd (b a)
one_whole hs Hexagonal Cubic a b = absurd (a b)
one_whole hs Hexagonal Hexagonal a b = refl

module _ (j : JahnSymbol) (hs : List Operation) (r : ℕ) (m : Marks) (t : Tensor) (whole : Whole) (rank_is : rank j ≡ r) (marks_are : m ≡ j.marks)
    (axes : IsWholeOf hs whole) where
  pub check_text : {R : Type 0} (g : GroupSymbol) (n : ℕ) (v : Verdict R) (kept : List Operation) (text : List ℕ) → n ≡ 3 ^ r →
      TellsVerdict j hs r n t v → IsListing comes_before (Stabilises whole m r t) kept →
      IsStabiliserLine whole kept (check_line g j (verdict_words r v)) text → IsCheckText g j hs t text
  check_text g n v kept text power told listed line = record {
    verdict = verdict_words r v;
    told = told_words j hs r n t v rank_is power told;
    whole = whole;
    axes = axes;
    kept = kept;
    stabiliser = subst (λ (q : ℕ). IsListing comes_before (Stabilises whole j.marks q t) kept) (sym rank_is)
        (subst (λ (k : Marks). IsListing comes_before (Stabilises whole k r t) kept) marks_are listed);
    name = line.0;
    named = line.1;
    text_is = line.2;
  }

  pub not_grown : (CheckGrows j hs r t → ⊥) → (StabiliserGrows whole m r t → ⊥) → Grows j hs t → ⊥
  not_grown check stabiliser (inl h) = check (subst (λ (q : ℕ). CheckGrows j hs q t) rank_is h)
  not_grown check stabiliser (inr (w, other, h)) =
      stabiliser (subst (λ (v : Whole). StabiliserGrows v m r t) (one_whole hs w whole other axes)
      (subst (λ (k : Marks). StabiliserGrows w k r t) (sym marks_are)
      (subst (λ (q : ℕ). StabiliserGrows w j.marks q t) rank_is h)))
