-- The one text that is defined for the words of the program.
--   none_long_first    where no word is long there is no first long word
--   answered_run       an answer, where no refusal applies
--   refused_run        a refusal
use Rattle.std.proofs.Common.{◌≡◌, ◌∙◌, ◌+◌, ℕ, List, [], ◌∷◌, length, get_or, refl, sym, ap, subst, arith, inl, inr}
use Rattle.std.proofs.Common.{Result, Ok, Err, IfOk}
use Rattle.tensor_defs.specs.Prelude.{GroupSymbol, IsAccepted}
use Rattle.dialects.specs.declared.write.Dialect.{Dialect}
use Rattle.dialects.specs.declared.write.Dialect.TheVariants.{Short, Long, Schoenflies}
use Rattle.dialects.specs.Naming.{Names}
use Rattle.dialects.specs.Answers.{IsDialectTextOf, HasText}
use Rattle.dialects.proofs.OneSymbol.{no_two}
use Rattle.tool_runs.specs.Tools.{Words, FirstLongFrom, NoneLong, refusal_text}
use Rattle.tool_runs.specs.declared.refusals.RefusalName.{RefusalName}
use Rattle.tool_runs.specs.declared.refusals.RefusalName.TheVariants as name
use Rattle.tool_runs.specs.declared.refusals.ToolRefusal.{ToolRefusal}
use Rattle.tool_runs.specs.declared.runs.Kind.{Kind}
use Rattle.tool_runs.specs.declared.runs.Kind.TheVariants.{Answer, Refusal}
use Rattle.tool_runs.proofs.LongWords.{none_first}
use Rattle.dialect_runs.specs.DialectRuns.{dialect_word, AsksFor, HasForm, RefusesSymbol, RefusesWords, Refuses}
use Rattle.dialect_runs.specs.DialectRuns.{AnswersSymbol, IsDialectRun}

-- the words tell the dialect and the name
word_length : Dialect → ℕ
word_length Short = 5
word_length Long = 4
word_length Schoenflies = 11

length_is : (to : Dialect) → length (dialect_word to) ≡ word_length to
unfolding word_length
length_is Short = refl
length_is Long = refl
length_is Schoenflies = refl

same_dialect : (to to' : Dialect) → word_length to ≡ word_length to' → to ≡ to'
unfolding word_length
same_dialect Short Short e = refl
same_dialect Short Long e = absurd (omega arith)
same_dialect Short Schoenflies e = absurd (omega arith)
same_dialect Long Short e = absurd (omega arith)
same_dialect Long Long e = refl
same_dialect Long Schoenflies e = absurd (omega arith)
same_dialect Schoenflies Short e = absurd (omega arith)
same_dialect Schoenflies Long e = absurd (omega arith)
same_dialect Schoenflies Schoenflies e = refl

pub same_asked : (words : Words) (to to' : Dialect) (symbol symbol' : List ℕ) → AsksFor words to symbol → AsksFor words to' symbol' →
    (to ≡ to') × (symbol ≡ symbol')
same_asked words to to' symbol symbol' a b =
    let e : dialect_word to ∷ symbol ∷ [] ≡ dialect_word to' ∷ symbol' ∷ [] = sym a ∙ b in
    let first : dialect_word to ≡ dialect_word to' = ap (λ (l : Words). get_or l 0 []) e in
    (same_dialect to to' (sym (length_is to) ∙ ap length first ∙ length_is to'), ap (λ (l : Words). get_or l 1 []) e)

-- a text in a dialect is there
has_text : (to : Dialect) (t : GroupSymbol) (text : List ℕ) → IsDialectTextOf to t text → HasText to t
has_text Short t text h = tt
has_text Long t text h = tt
has_text Schoenflies t text h = h.0

module _ (words : Words) (to : Dialect) (symbol text : List ℕ) (none : NoneLong words) (asks : AsksFor words to symbol)
    (answer : AnswersSymbol to symbol text) where
  answered_symbol : (name : RefusalName) (column : ℕ) (to' : Dialect) (symbol' : List ℕ) → to ≡ to' → symbol ≡ symbol' →
      RefusesSymbol to' symbol' name column → ⊥
  answered_symbol name.Syntax column to' symbol' e f (place, faulty, is) =
      faulty.none (answer.0, subst (λ (l : List ℕ). Names l answer.0) f answer.2.0)
  answered_symbol name.Primes column to' symbol' e f ((u, spells, out), is) =
      out (subst IsAccepted (no_two symbol' answer.0 u (subst (λ (l : List ℕ). Names l answer.0) f answer.2.0) (inl spells)) answer.2.1)
  answered_symbol name.NoName column to' symbol' e f (u, names, out, is) =
      out (subst (HasText to') (no_two symbol' answer.0 u (subst (λ (l : List ℕ). Names l answer.0) f answer.2.0) names.0)
      (subst (λ (d : Dialect). HasText d answer.0) e (has_text to answer.0 answer.1 answer.3)))
  answered_symbol name.Long column to' symbol' e f h = h
  answered_symbol name.Rank column to' symbol' e f h = h
  answered_symbol (name.NotSub n) column to' symbol' e f h = h
  answered_symbol name.TooLarge column to' symbol' e f h = h
  answered_symbol name.Twice column to' symbol' e f h = h

  later : (name : RefusalName) (word column : ℕ) →
      NoneLong words × (to' : Dialect) × (symbol' : List ℕ) × AsksFor words to' symbol' × RefusesSymbol to' symbol' name column × (word ≡ 2) → ⊥
  later name word column (n, to', symbol', asks', refuses, is) =
      let same = same_asked words to to' symbol symbol' asks asks' in
      answered_symbol name column to' symbol' same.0 same.1 refuses

  no_refusal : (name : RefusalName) (word column : ℕ) → RefusesWords words word name column → ⊥
  no_refusal name.Long word column h = none_first words 1 word none h.0
  no_refusal name.Syntax word column h = later name.Syntax word column h
  no_refusal name.Primes word column h = later name.Primes word column h
  no_refusal name.NoName word column h = later name.NoName word column h
  no_refusal name.Rank word column h = later name.Rank word column h
  no_refusal (name.NotSub n) word column h = later (name.NotSub n) word column h
  no_refusal name.TooLarge word column h = later name.TooLarge word column h
  no_refusal name.Twice word column h = later name.Twice word column h

  pub answered_run : IsDialectRun words Answer text
  answered_run = ((to, symbol, asks), λ r h. no_refusal r.name r.word r.column h, (to, symbol, asks, answer))

pub refused_run : {A E : Type 0} (kind : A → Kind) (text : A → List ℕ) (words : Words) (f : ToolRefusal) (r : Result A E) → HasForm words →
    Refuses words f → IfOk r (λ x. (kind x ≡ Refusal) × (text x ≡ refusal_text f)) →
    IfOk r (λ x. IsDialectRun words (kind x) (text x))
refused_run kind text words f (Ok a) form refuses h =
    subst (λ (k : Kind). IsDialectRun words k (text a)) (sym h.0) (form, f, refuses, h.1)
refused_run kind text words f (Err e) form refuses h = h

-- a refusal of the second word
pub refuses_second : (words : Words) (to : Dialect) (symbol : List ℕ) (n : RefusalName) (column : ℕ) → NoneLong words → AsksFor words to symbol →
    RefusesSymbol to symbol n column → Refuses words (record { word = 2; column = column; name = n })
refuses_second words to symbol name.Syntax column none asks h = (none, to, symbol, asks, h, refl)
refuses_second words to symbol name.Primes column none asks h = (none, to, symbol, asks, h, refl)
refuses_second words to symbol name.NoName column none asks h = (none, to, symbol, asks, h, refl)
refuses_second words to symbol name.Long column none asks h = absurd h
refuses_second words to symbol name.Rank column none asks h = absurd h
refuses_second words to symbol (name.NotSub n) column none asks h = absurd h
refuses_second words to symbol name.TooLarge column none asks h = absurd h
refuses_second words to symbol name.Twice column none asks h = absurd h
