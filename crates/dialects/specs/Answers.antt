-- What the public functions on dialects answer.
--   ReadsAny        the accepted symbol that a word names, or the cause why it names none
--   IsPlain         a symbol without primes that isn't grey
--   TellsAccepted   whether a symbol is accepted
--   IsDialectTextOf, HasText    the text of a symbol in a dialect, and whether it has one
--   Appends         a text was appended, or the symbol has none
--   TellsForm       the long form of a parent
-- Source: this project's own.
use Rattle.std.specs.Prelude.{◌≡◌, ℕ, ◌<◌, Bool, true, false, List, ◌++◌, Option, Some, None, Result, Ok, Err}
use Rattle.tensor_defs.specs.Prelude.{GroupSymbol, IsAccepted}
use Rattle.text_defs.specs.Prelude.{IsFaulty, SpellsGroup, group_text}
use Rattle.dialects.specs.declared.write.Dialect.{Dialect}
use Rattle.dialects.specs.declared.write.Dialect.TheVariants.{Short, Long, Schoenflies}
use Rattle.dialects.specs.declared.fault.DialectFault.{DialectFault}
use Rattle.dialects.specs.declared.fault.DialectFault.TheVariants.{Syntax, Primes, NoMemory}
use Rattle.dialects.specs.ClassNames.{class_name}
use Rattle.dialects.specs.LongTexts.{IsLongText, form_at, has_form}
use Rattle.dialects.specs.Naming.{Names, IsDialectText}

-- the word spells a symbol that isn't accepted
abbrev pub IsUnaccepted : List ℕ → Type 0
IsUnaccepted word = (t : GroupSymbol) × SpellsGroup word t × (¬ IsAccepted t)

abbrev pub ReadsAny : List ℕ → Result GroupSymbol DialectFault → Type 0
ReadsAny word (Ok t) = Names word t × IsAccepted t
ReadsAny word (Err (Syntax place)) = IsFaulty IsDialectText word place
ReadsAny word (Err Primes) = IsUnaccepted word
ReadsAny word (Err NoMemory) = Unit {0}

abbrev pub TellsAccepted : GroupSymbol → Result GroupSymbol DialectFault → Type 0
TellsAccepted tree (Ok t) = (t ≡ tree) × IsAccepted tree
TellsAccepted tree (Err (Syntax place)) = ⊥
TellsAccepted tree (Err Primes) = ¬ IsAccepted tree
TellsAccepted tree (Err NoMemory) = Unit {0}

abbrev pub IsPlain : GroupSymbol → Type 0
IsPlain t = (t.primes ≡ 0) × (t.grey ≡ false)

-- the text of a symbol in a dialect
abbrev pub IsDialectTextOf : Dialect → GroupSymbol → List ℕ → Type 0
IsDialectTextOf Short t text = text ≡ group_text t
IsDialectTextOf Long t text = IsLongText text t
IsDialectTextOf Schoenflies t text = IsPlain t × (text ≡ class_name t.parent)

-- whether the symbol has such a text: only a symbol that is plain has a name after Schoenflies
abbrev pub HasText : Dialect → GroupSymbol → Type 0
HasText Short t = Unit {0}
HasText Long t = Unit {0}
HasText Schoenflies t = IsPlain t

-- the text was appended, or the symbol has none and nothing was
abbrev pub Appends : Dialect → GroupSymbol → List ℕ → List ℕ → Bool → Type 0
Appends to t old new true = (text : List ℕ) × IsDialectTextOf to t text × (new ≡ old ++ text)
Appends to t old new false = (¬ HasText to t) × (new ≡ old)

-- the long text was appended
abbrev pub AppendsLong : GroupSymbol → List ℕ → List ℕ → Type 0
AppendsLong t old new = (text : List ℕ) × IsLongText text t × (new ≡ old ++ text)

-- the place of the long form of the parent of a number, or that it has none
abbrev pub TellsForm : ℕ → Option ℕ → Type 0
TellsForm n (Some k) = (k < 8) × ((form_at k).parent ≡ n)
TellsForm n None = has_form n ≡ false
