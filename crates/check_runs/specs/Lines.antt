-- The lines that are written.
--   verdict_words   the words that tell a verdict at a rank
--   IsStabiliserLine    the line of a stabiliser behind other text
use Rattle.std.specs.Prelude.{◌≡◌, ℕ, List, [], ◌∷◌, ◌++◌, codes, length, Option}
use Rattle.std.specs.Fmt.{decimal}
use Rattle.tensor_defs.specs.Prelude.{IsNameOf, Operation, GroupSymbol, index_of}
use Rattle.text_defs.specs.AnswerTexts.{component_name}
use Rattle.magnetic_groups.specs.Sets.{In}
use Rattle.given_tensors.specs.declared.verdict.Verdict.{Verdict}
use Rattle.given_tensors.specs.declared.verdict.Verdict.TheVariants.{Invariant, Symmetry, Element}
use Rattle.given_tensors.specs.declared.wholes.Whole.{Whole}
use Rattle.check_runs.specs.CheckTexts.{stabiliser_line}

abbrev pub verdict_words : {R : Type 0} → ℕ → Verdict R → List (List ℕ)
verdict_words r Invariant = codes "yes" ∷ []
verdict_words r (Symmetry c) = codes "no" ∷ codes "symmetry" ∷ component_name (index_of r c) ∷ []
verdict_words r (Element place c) = codes "no" ∷ codes "element" ∷ decimal place ∷ component_name (index_of r c) ∷ []

abbrev pub IsStabiliserLine : Whole → List Operation → List ℕ → List ℕ → Type 0
IsStabiliserLine whole kept before now =
    (name : Option GroupSymbol) × IsNameOf name (In kept) × (now ≡ before ++ stabiliser_line whole name (length kept))
