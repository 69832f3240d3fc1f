use Rattle.std.proofs.Common.{ℕ, List, [], ◌∷◌, inr, refl}
use Rattle.tensor_defs.specs.Symbols.{GroupSymbol}
use Rattle.text_defs.specs.Prelude.{AnswersRequest, AreJoined, IsFormText, form_text, JahnAt, Request}
use Rattle.generated_runs.specs.Told.{AnswersFree, AreFormsFree}
use Rattle.generated_runs.proofs.Passed.{not_passed}
use Rattle.generated_runs.proofs.laws.answered_lines.Goals as goal

joined : (g : GroupSymbol) (js : List JahnAt) (bytes : List ℕ) (free : ℕ) → AreFormsFree g js bytes free →
    AreJoined (IsFormText g) js bytes
joined g [] bytes free a = a.0
joined g (j ∷ js) bytes free a =
    (form_text g j.jahn a.0, a.2, (a.0, a.1, refl), joined g js a.2 a.3 a.4, a.5)

answers : (q : Request) (bytes : List ℕ) (free : ℕ) → AnswersFree q bytes free → AnswersRequest q bytes
answers (Request.Form g js) bytes free a = joined g.symbol js bytes free a
answers (Request.Voigt g j w) bytes free a = (a.0, a.1, a.2, a.3, a.4)
answers (Request.Group g) bytes free a = a.0
answers (Request.States g f) bytes free a = a.0
answers (Request.Pairs g f) bytes free a = a.0
answers (Request.Differ g f js) bytes free a = a.0
answers (Request.Same g h j) bytes free a = a.0
answers Request.Comment bytes free a = a.0

pub returns : goal.returns
returns c = λ number b bs bytes kind free so.
    inr (not_passed number b bs, inr (so.0, so.1, so.2, answers so.1 bytes free so.4))
