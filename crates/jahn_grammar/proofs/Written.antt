-- The text that is written for a symbol.
use Rattle.list_laws.proofs.Kit.{◌≡◌, ℕ, ◌≤◌, Bool, true, false, List, [], ◌∷◌, ◌++◌, length, take, drop, refl, inl, inr}
use mathlib.Core.Bool.{xor}
use Rattle.tensor_defs.specs.Tensor.{Marks}
use Rattle.tensor_defs.specs.Jahn as defs
use Rattle.text_defs.specs.JahnTexts.{AreMarks, SpellsFactors, SpellsBody, factors_text, marks_text, body_text, no_marks, together}
use Rattle.jahn_grammar.specs.declared.Factor.{Factor}
use Rattle.jahn_grammar.specs.Trees.{factors_of}
use Rattle.jahn_grammar.specs.Laws.{WrittenIsSpelled}

-- factors without marks
unmarked_spelled : (fs : List defs.Factor) → SpellsFactors (factors_text fs) fs no_marks
unfolding xor
unmarked_spelled [] = (refl, refl)
unmarked_spelled (f ∷ fs) = ([], no_marks, refl, factors_text fs, no_marks, unmarked_spelled fs, refl, refl)

abbrev marks : Bool → Bool → Marks
marks a m = record { axial = a; magnetic = m }

pub written_is_spelled : WrittenIsSpelled
unfolding xor
written_is_spelled j is = record { are_factors = is; body = body j.marks.axial j.marks.magnetic j.factors }
  where
    some_none : {x : ℕ} {xs : List ℕ} → x ∷ xs ≡ [] → ⊥
    some_none e = cc

    front : (a m : Bool) (f : defs.Factor) (fs : List defs.Factor) → AreMarks (marks_text a m) a m →
        marks a m ≡ together (marks a m) no_marks → SpellsFactors (marks_text a m ++ factors_text (f ∷ fs)) (f ∷ fs) (marks a m)
    front a m f fs are e = (marks_text a m, marks a m, are, factors_text fs, no_marks, unmarked_spelled fs, refl, e)

    body : (a m : Bool) (fs : List defs.Factor) → SpellsBody (body_text (marks_text a m) fs) fs (marks a m)
    body false false [] = ([], refl, inr refl)
    body true false [] = (marks_text true false, refl, inl (some_none, refl))
    body false true [] = (marks_text false true, refl, inl (some_none, refl))
    body true true [] = (marks_text true true, inl refl, inl (some_none, refl))
    body false false (f ∷ fs) = front false false f fs refl refl
    body true false (f ∷ fs) = front true false f fs refl refl
    body false true (f ∷ fs) = front false true f fs refl refl
    body true true (f ∷ fs) = front true true f fs (inl refl) refl

-- ---- the factors one after another

-- What is written, with the factors from the place on, is the whole text.
pub record Underway (old out whole : List ℕ) (fs : List Factor) (place : ℕ) : Type 0 where
  pub text : out ++ factors_text (factors_of (drop place fs)) ≡ old ++ whole
  pub front : take (length old) out ≡ old
  pub longer : length old ≤ length out
