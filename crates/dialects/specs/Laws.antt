-- Laws of the words that name a symbol.
--   OneSymbol               no word names two symbols
--   WrittenNamesSymbol      what is written for an accepted symbol, short or long, names it
--   NameNamesFirst          the name of a class is read as the symbol of its first parent
--   OneLongText             a symbol has one long text
--   OneReading              at most one answer to a word is right, want of memory apart
--   LongOperatorsAreElements  each operator of a long text, with its prime, is an element of the group
use Rattle.std.specs.Prelude.{◌≡◌, ◌≢◌, ℕ, ◌≤◌, ◌↔◌, Bool, IsTrue, List, Contains, Result, Err}
use Rattle.tensor_defs.specs.Prelude.{Operation, GroupSymbol, IsGroupSymbol, InGroup, IsAccepted}
use Rattle.text_defs.specs.GroupTexts.{group_text}
use Rattle.dialects.specs.ClassNames.{class_name, plain_symbol, IsFirstOf}
use Rattle.dialects.specs.LongTexts.{Piece, form_at, HasPrimed, IsFormText, IsLongText, IsOperation}
use Rattle.dialects.specs.Naming.{Names}
use Rattle.dialects.specs.Answers.{ReadsAny}
use Rattle.dialects.specs.declared.fault.DialectFault.{DialectFault}
use Rattle.dialects.specs.declared.fault.DialectFault.TheVariants.{NoMemory}

abbrev pub OneSymbol : Type 0
OneSymbol = (word : List ℕ) (t u : GroupSymbol) → Names word t → Names word u → t ≡ u

abbrev pub OneLongText : Type 0
OneLongText = (t : GroupSymbol) (a b : List ℕ) → IsLongText a t → IsLongText b t → a ≡ b

abbrev pub WrittenNamesSymbol : Type 0
WrittenNamesSymbol = (t : GroupSymbol) → IsGroupSymbol t → IsAccepted t →
    Names (group_text t) t × ((text : List ℕ) → IsLongText text t → Names text t)

abbrev pub NameNamesFirst : Type 0
NameNamesFirst = (n : ℕ) → 1 ≤ n → n ≤ 42 →
    (first : ℕ) × IsFirstOf (class_name n) first × Names (class_name n) (plain_symbol first)

-- the operation of each piece with its mark
abbrev pub LongOperatorsAreElements : Type 0
LongOperatorsAreElements = (k : ℕ) (text : List ℕ) (t : GroupSymbol) (p : Piece) (mark : Bool) → IsFormText k text t →
    Contains (form_at k).pieces p → (IsTrue mark ↔ HasPrimed t p.operator) →
    (g : Operation) × IsOperation t p.operator mark g × InGroup t g

-- so Primes comes exactly where a word spells a symbol that isn't accepted, and Syntax exactly where it names none
abbrev pub OneReading : Type 0
OneReading = (word : List ℕ) (r s : Result GroupSymbol DialectFault) → ReadsAny word r → ReadsAny word s →
    r ≢ Err NoMemory → s ≢ Err NoMemory → r ≡ s
