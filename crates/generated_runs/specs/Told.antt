-- What becomes of a line, by the definition of its answer.
--   kind_of, refusal_of    the kind of a request, which a comment has none of, and the sort of a refusal
--   AreFormsFree    the bytes are the component tables for some Jahn words, and their headers name so many free components
--   AnswersFree     the bytes are the text of the answer to a request, and its headers name so many free components
--   IsAnsweredSo    the bytes are the answer of a line of a number and a kind, with so many free components
--   Becomes         a line is answered, or refused
-- The lines are those of an input of format 1.
-- Source: this project's own.
use Rattle.std.specs.Prelude.{◌≡◌, ℕ, ◌+◌, List, [], ◌∷◌, ◌++◌, length, Option, Some, None}
use Rattle.tensor_defs.specs.Prelude.{InGroup, index_before, GroupSymbol, Table, Fits, HasBlocks, VoigtTable, IsVoigtTable}
use Rattle.text_defs.specs.declared.Format.TheVariants.{One}
use Rattle.text_defs.specs.Prelude.{form_text, voigt_text, AnswersRequest, RefusalWord, Refuses, IsRefused, Request, JahnAt, SpellsRequest}
use Rattle.generated_runs.specs.declared.draws.Kind.{Kind}
use Rattle.generated_runs.specs.declared.draws.Kind.TheVariants.{Form, Group, Voigt, States, Pairs, Differ, Same}
use Rattle.generated_runs.specs.declared.counts.Refusal.{Refusal}
use Rattle.generated_runs.specs.declared.counts.Refusal.TheVariants.{Long, Syntax, Primes, Rank, Shape, NotSub, TooLarge}
use Rattle.generated_runs.specs.declared.counts.LineOutcome.{LineOutcome}
use Rattle.generated_runs.specs.declared.counts.LineOutcome.TheVariants.{Answered, Refused}

abbrev pub kind_of : Request → Option Kind
kind_of (Request.Form g js) = Some Form
kind_of (Request.Group g) = Some Group
kind_of (Request.Voigt g j w) = Some Voigt
kind_of (Request.States g f) = Some States
kind_of (Request.Pairs g f) = Some Pairs
kind_of (Request.Differ g f js) = Some Differ
kind_of (Request.Same g h j) = Some Same
kind_of Request.Comment = None

abbrev pub refusal_of : RefusalWord → Refusal
refusal_of RefusalWord.Long = Long
refusal_of RefusalWord.Syntax = Syntax
refusal_of RefusalWord.Primes = Primes
refusal_of RefusalWord.Rank = Rank
refusal_of RefusalWord.Shape = Shape
refusal_of (RefusalWord.NotSub k) = NotSub
refusal_of RefusalWord.TooLarge = TooLarge

-- The header of a component table and that of a Voigt table name the number of free components; the others name none.
abbrev pub AreFormsFree : GroupSymbol → List JahnAt → List ℕ → ℕ → Type 0
AreFormsFree g [] bytes n = (bytes ≡ []) × (n ≡ 0)
AreFormsFree g (j ∷ js) bytes n =
    (a : Table) × Fits j.jahn (InGroup g) index_before a × (rest : List ℕ) × (others : ℕ)
    × AreFormsFree g js rest others × (bytes ≡ form_text g j.jahn a ++ rest) × (n ≡ length a.free + others)

abbrev pub AnswersFree : Request → List ℕ → ℕ → Type 0
AnswersFree (Request.Form g js) bytes n = AreFormsFree g.symbol js bytes n
AnswersFree (Request.Voigt g j w) bytes n =
    (bs : List ℕ) × HasBlocks j.jahn.factors bs × (v : VoigtTable) × IsVoigtTable j.jahn (InGroup g.symbol) bs w v
    × (bytes ≡ voigt_text g.symbol j.jahn w bs v) × (n ≡ length v.free)
AnswersFree q bytes n = AnswersRequest q bytes × (n ≡ 0)

-- The bytes are the answer of a line that isn't refused: a request of this kind, with so many free components.
abbrev pub IsAnsweredSo : ℕ → List ℕ → List ℕ → Kind → ℕ → Type 0
IsAnsweredSo number line bytes kind free =
    (IsRefused One number line → ⊥) × (q : Request) × SpellsRequest One line q × (kind_of q ≡ Some kind)
    × AnswersFree q bytes free

-- A line that isn't empty: it is answered, or its first refusal is of this sort.
abbrev pub Becomes : ℕ → List ℕ → LineOutcome → Type 0
Becomes number [] outcome = ⊥
Becomes number (b ∷ bs) (Answered kind free) = (bytes : List ℕ) × IsAnsweredSo number (b ∷ bs) bytes kind free
Becomes number (b ∷ bs) (Refused sort) =
    (word : RefusalWord) × (column : ℕ) × Refuses One (b ∷ bs) word column × (refusal_of word ≡ sort)
