-- Laws of answers, as the contracts of src/ cite them.
--   OneListing      the group of a symbol has one listing in the order of operations
--   OneRefusal      at most one refusal applies to a line of a format, at one column
--   HasOneAnswer    a request has one answer
--   OneForm, OneGroup, OneVoigt, OneSame    a request for a form, for the elements of a group, for a Voigt table, or
--                   whether two groups leave the same tensors, has one answer
--   OneStates, OneDiffer    a request for states, or for the components that distinguish them, has one answer, where
--                   the second symbol keeps the rules of symbols
--   OnePairs        a request for pair classes has one answer, where both symbols keep the rules and the second
--                   group is below the first
--   OneAnswer       a line of a format and a number has one answer
--   OneOutput       an input has one output: the answers of its lines
use Rattle.std.specs.Prelude.{◌≡◌, ℕ, List}
use Rattle.tensor_defs.specs.declared.Weights.{Weights}
use Rattle.tensor_defs.specs.Prelude.{IsListing, Operation, comes_before, InGroup, IsBelow, GroupSymbol, IsGroupSymbol}
use Rattle.text_defs.specs.declared.Format.{Format}
use Rattle.text_defs.specs.Prelude.{AnswersRequest, IsAnswer, AreAnswersOf, RefusalWord, Refuses, GroupAt, JahnAt, Request, Form, Group, Voigt, States, Pairs}
use Rattle.text_defs.specs.Prelude.{Differ, Same}

abbrev pub OneListing : Type 0
OneListing =
    (t : GroupSymbol) (gs hs : List Operation) → IsListing comes_before (InGroup t) gs →
    IsListing comes_before (InGroup t) hs → gs ≡ hs

abbrev pub OneRefusal : Type 0
OneRefusal =
    (format : Format) (line : List ℕ) (v w : RefusalWord) (c d : ℕ) → Refuses format line v c → Refuses format line w d →
    (v ≡ w) × (c ≡ d)

-- a request has one answer
abbrev pub HasOneAnswer : Request → Type 0
HasOneAnswer q = (a b : List ℕ) → AnswersRequest q a → AnswersRequest q b → a ≡ b

abbrev pub OneForm : Type 0
OneForm = (g : GroupAt) (js : List JahnAt) → HasOneAnswer (Form g js)

abbrev pub OneGroup : Type 0
OneGroup = (g : GroupAt) → HasOneAnswer (Group g)

abbrev pub OneVoigt : Type 0
OneVoigt = (g : GroupAt) (j : JahnAt) (w : Weights) → HasOneAnswer (Voigt g j w)

abbrev pub OneSame : Type 0
OneSame = (g h : GroupAt) (j : JahnAt) → HasOneAnswer (Same g h j)

abbrev pub OneStates : Type 0
OneStates = (g f : GroupAt) → IsGroupSymbol f.symbol → HasOneAnswer (States g f)

abbrev pub OneDiffer : Type 0
OneDiffer = (g f : GroupAt) (js : List JahnAt) → IsGroupSymbol f.symbol → HasOneAnswer (Differ g f js)

abbrev pub OnePairs : Type 0
OnePairs =
    (g f : GroupAt) → IsGroupSymbol g.symbol → IsGroupSymbol f.symbol →
    IsBelow (InGroup f.symbol) (InGroup g.symbol) → HasOneAnswer (Pairs g f)

abbrev pub OneAnswer : Type 0
OneAnswer =
    (format : Format) (number : ℕ) (line a b : List ℕ) → IsAnswer format number line a → IsAnswer format number line b →
    a ≡ b

abbrev pub OneOutput : Type 0
OneOutput = (input a b : List ℕ) → AreAnswersOf input a → AreAnswersOf input b → a ≡ b
