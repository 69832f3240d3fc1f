-- The answer to a request, or why it has none.
--   group_at, jahn_at    a read word with the column of its first byte
--   IsNear          a group word begins within the longest line
--   IsUnaccepted    why a group is refused
--   IsOpen          no refusal applies to the request
--   IsGrownBy       a list grew by the answer to a request that isn't refused
--   IsStop          the refusal is the first that applies to the request; want of memory is free
--   IsStateStop     what becomes of states that can't be given
--   IsGroupStop     the refusal of a group, for each request that begins with such groups
--   IsOverRank      why a tensor isn't read: its rank is above 6, or memory was refused at one within rank
--   IsShortList, IsTold    a list of at most eight Jahn words, and a fact of these words
--   IsFirstStop     the refusal stands at the first of some Jahn words of which a fact holds
--   IsTooLarge      the refusal stands at a Jahn word whose numbers grow too large
--   IsJoinedOnto    a list grew by the answers for some Jahn words
--   IsFormFree, IsVoigtFree    how many components are free in the table that fits: what its header names
--   NamesNone       an answer names no number of free components
--   AddUp           the sum of such numbers over some Jahn words
--   IsFreeOf        how many free components the headers of the answer to a request name
-- Source: this project's own.
use Rattle.std.specs.Prelude.{◌≡◌, ◌+◌, ◌<◌, ◌≤◌, ℕ, List, [], ◌∷◌, ◌++◌, length, map}
use Rattle.tensor_defs.specs.Prelude.{InGroup, IsAccepted, JahnSymbol, rank, index_before, GroupSymbol, Table, Fits, HasBlocks, VoigtTable, IsVoigtTable}
use Rattle.tensor_defs.specs.declared.Weights.{Weights}
use Rattle.text_defs.specs.Prelude.{AnswersRequest, AreJoined, AreAccepted, FirstAt, HasShape, InRank, IsNotSub, JahnGrows, RefusesRequest, groups_of}
use Rattle.text_defs.specs.Prelude.{jahns_of, GroupAt, JahnAt, Request, Form, Voigt}
use Rattle.request_lines.specs.Readings.{TellsJahn, TellsList}
use Rattle.request_lines.specs.declared.Named.{Named}
use Rattle.request_lines.specs.declared.Span.{Span}
use Rattle.line_runs.specs.Words.{word_of}
use Rattle.line_runs.specs.declared.refusals.Word.{Word}
use Rattle.line_runs.specs.declared.refusals.Word.TheVariants.{Primes, Rank, TooLarge, NotSub}
use Rattle.coset_states.specs.declared.StateFault.{StateFault}
use Rattle.coset_states.specs.declared.StateFault.TheVariants as State
use Rattle.tensor_cli.specs.declared.stops.NoAnswer.{NoAnswer}
use Rattle.tensor_cli.specs.declared.stops.NoAnswer.TheVariants.{Refused, NoMemory}

abbrev pub group_at : Named → GroupAt
group_at g = record { symbol = g.tree; column = g.start + 1 }

abbrev pub jahn_at : Span → JahnSymbol → JahnAt
jahn_at j tree = record { jahn = tree; column = j.start + 1 }

abbrev pub IsNear : Named → Type 0
IsNear g = g.start ≤ 4000

abbrev pub IsUnaccepted : Named → NoAnswer → Type 0
IsUnaccepted g (Refused r) = (r ≡ record { word = Primes; column = g.start + 1 }) × (¬ IsAccepted g.tree)
IsUnaccepted g NoMemory = Unit {0}

pub record IsOpen (q : Request) : Type 0 where
  pub accepted : AreAccepted q
  pub in_rank : InRank q
  pub has_shape : HasShape q
  pub within : (k c : ℕ) → IsNotSub q k c → ⊥
  pub calm : (c : ℕ) → FirstAt (JahnGrows q) (jahns_of q) c → ⊥

pub record IsGrownBy (q : Request) (old new : List ℕ) : Type 0 where
  pub answer : List ℕ
  pub answers : AnswersRequest q answer
  pub is_open : IsOpen q
  pub grown : new ≡ old ++ answer

abbrev pub IsStop : Request → NoAnswer → Type 0
IsStop q (Refused r) = RefusesRequest q (word_of r.word) r.column
IsStop q NoMemory = Unit {0}

-- ---- lists of Jahn words
abbrev pub IsTold : List ℕ → Span → (List JahnAt → Type 0) → Type 0
IsTold line list Fact = (js : List JahnAt) → TellsList line list js → length js ≤ 8 → Fact js

-- a list of at most eight words
abbrev pub IsShortList : List ℕ → Span → Type 0
IsShortList line list = (js : List JahnAt) × TellsList line list js × (length js ≤ 8)

abbrev pub IsFirstStop : Word → (JahnAt → Type 0) → NoAnswer → List JahnAt → Type 0
IsFirstStop word Fact (Refused r) js = (r.word ≡ word) × FirstAt Fact js r.column
IsFirstStop word Fact NoMemory js = Unit {0}

abbrev pub IsJoinedOnto : (JahnSymbol → List ℕ → Type 0) → List ℕ → List ℕ → List JahnAt → Type 0
IsJoinedOnto Text old new js = (bytes : List ℕ) × AreJoined Text js bytes × (new ≡ old ++ bytes)

-- ---- numbers of free components
abbrev pub IsFormFree : GroupSymbol → JahnSymbol → ℕ → Type 0
IsFormFree g j n = (a : Table) × Fits j (InGroup g) index_before a × (n ≡ length a.free)

abbrev pub IsVoigtFree : GroupSymbol → JahnSymbol → Weights → ℕ → Type 0
IsVoigtFree g j w n =
    (bs : List ℕ) × HasBlocks j.factors bs × (v : VoigtTable) × IsVoigtTable j (InGroup g) bs w v × (n ≡ length v.free)

abbrev pub NamesNone : JahnSymbol → ℕ → Type 0
NamesNone j n = n ≡ 0

abbrev pub AddUp : (JahnSymbol → ℕ → Type 0) → List JahnAt → ℕ → Type 0
AddUp Free [] n = n ≡ 0
AddUp Free (j ∷ js) n = (m others : ℕ) × Free j.jahn m × AddUp Free js others × (n ≡ m + others)

abbrev pub IsFreeOf : Request → ℕ → Type 0
IsFreeOf (Form g js) n = AddUp (IsFormFree g.symbol) js n
IsFreeOf (Voigt g j w) n = IsVoigtFree g.symbol j.jahn w n
IsFreeOf q n = n ≡ 0

abbrev pub IsTooLarge : Type 0 → ℕ → NoAnswer → Type 0
IsTooLarge Grown column (Refused r) = (r ≡ record { word = TooLarge; column = column }) × Grown
IsTooLarge Grown column NoMemory = Unit {0}

abbrev pub IsStateStop : StateFault → Named → NoAnswer → Type 0
IsStateStop (State.NotSubgroup first) f e = e ≡ Refused (record { word = NotSub first; column = f.start + 1 })
IsStateStop State.NoMemory f e = e ≡ NoMemory

-- the stop of a request whose groups begin with these
abbrev pub IsGroupStop : List Named → NoAnswer → Type 0
IsGroupStop gs e = (q : Request) (more : List GroupAt) → groups_of q ≡ map group_at gs ++ more → IsStop q e

abbrev pub IsOverRank : List ℕ → Span → NoAnswer → Type 0
IsOverRank line j (Refused r) =
    (r ≡ record { word = Rank; column = j.start + 1 }) × ((b : JahnAt) → TellsJahn line j b → 6 < rank b.jahn)
IsOverRank line j NoMemory = (b : JahnAt) → TellsJahn line j b → rank b.jahn ≤ 6
