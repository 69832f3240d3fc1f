-- What becomes of a line, by the request that it spells.
--   answered_becomes, syntax_becomes    a line is answered, or it spells no request
use Rattle.std.proofs.Common.{◌≡◌, ℕ, ◌+◌, ◌<◌, ◌≤◌, List, [], ◌∷◌, ◌++◌, length, refl, arith}
use Rattle.std.specs.Prelude.{Some}
use Rattle.tensor_defs.specs.Symbols.{GroupSymbol}
use Rattle.text_defs.specs.declared.Format.TheVariants.{One}
use Rattle.text_defs.specs.Prelude.{form_text, voigt_text, JahnAt, Request, SpellsRequest, IsNoRequest, Form, Group, Voigt, States, Pairs, Differ, Same}
use Rattle.text_defs.specs.Prelude.{Comment}
use Rattle.text_defs.specs.Refusals.RefusalWord.{Syntax}
use Rattle.generated_runs.specs.Told.{AnswersFree, AreFormsFree, Becomes, kind_of, refusal_of}
use Rattle.generated_runs.specs.declared.draws.Kind.{Kind}
use Rattle.generated_runs.specs.declared.counts.Refusal.{Refusal as Sort}
use Rattle.generated_runs.specs.declared.counts.LineOutcome.TheVariants as line
use Rattle.tensor_cli.specs.Kinds.{AddUp, IsFormFree, IsFreeOf, IsGrownBy}
use Rattle.tensor_cli.proofs.LineAnswers.{not_refused}

forms_free : (g : GroupSymbol) (js : List JahnAt) (n : ℕ) → AddUp (IsFormFree g) js n → (bytes : List ℕ) × AreFormsFree g js bytes n
forms_free g [] n sum = ([], (refl, sum))
forms_free g (j ∷ js) n sum =
    let rest = forms_free g js sum.1 sum.3 in
    let table = sum.2 in (
      form_text g j.jahn table.0 ++ rest.0,
      (table.0, table.1, rest.0, sum.1, rest.1, refl, omega (arith, sum.4, table.2)),
    )

answer_free : (q : Request) (old new : List ℕ) (n : ℕ) → IsGrownBy q old new → IsFreeOf q n → (bytes : List ℕ) × AnswersFree q bytes n
answer_free (Form g js) old new n grown free = forms_free g.symbol js n free
answer_free (Voigt g j w) old new n grown free =
    (voigt_text g.symbol j.jahn w free.0 free.2, (free.0, free.1, free.2, free.3, refl, free.4))
answer_free (Group g) old new n grown free = (grown.answer, (grown.answers, free))
answer_free (States g f) old new n grown free = (grown.answer, (grown.answers, free))
answer_free (Pairs g f) old new n grown free = (grown.answer, (grown.answers, free))
answer_free (Differ g f js) old new n grown free = (grown.answer, (grown.answers, free))
answer_free (Same g h j) old new n grown free = (grown.answer, (grown.answers, free))
answer_free Comment old new n grown free = (grown.answer, (grown.answers, free))

pub answered_becomes : (number : ℕ) (bytes old new : List ℕ) (q : Request) (kind : Kind) (n : ℕ) → 0 < length bytes
    → length bytes ≤ 1000 → SpellsRequest One bytes q → kind_of q ≡ Some kind → IsGrownBy q old new → IsFreeOf q n
    → Becomes number bytes (line.Answered kind n)
answered_becomes number [] old new q kind n some short s is grown free = absurd (omega (arith, some))
answered_becomes number (b ∷ bs) old new q kind n some short s is grown free =
    let made = answer_free q old new n grown free in
    (made.0, ((λ r. not_refused One (b ∷ bs) q short s grown.is_open r.1 r.2 r.3), q, s, is, made.1))

pub syntax_becomes : (number : ℕ) (bytes : List ℕ) (place : ℕ) (sort : Sort) → 0 < length bytes → length bytes ≤ 1000
    → IsNoRequest One bytes place → refusal_of Syntax ≡ sort → Becomes number bytes (line.Refused sort)
syntax_becomes number [] place sort some short none is = absurd (omega (arith, some))
syntax_becomes number (b ∷ bs) place sort some short none is = (Syntax, 1 + place, (short, place, none, refl), is)
