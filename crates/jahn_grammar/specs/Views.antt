-- What the readers return, as contracts see it.
--   IsOpening, IsDigit, IsMark    the bytes [ and {, 2 to 6, and a and e
--   closer          the closing sign of an opening sign
--   HasAtom         the word begins with an atom, whatever follows
--   AtomIs, ReadsAtom    the atom at the front of a word, with its size and its rank; or where it goes wrong
--   TakesAtom       the tree of the atom at the front of a word, and its size
--   AreFactorsText, HasFactor    the word spells factors with their marks; it does, but for marks before the first
--   TakesFactor     a factor at the front of a word, with its size; its power is taken where one stands
--   FactorFrom, ReadsFactor    the factor from a place on, with its rank; or where the word goes wrong
--   TakesMarked     the word spells the factors and the marks of a tree
--   MarksAre        the marks at the front of a word
--   CountIs         a rank to 6, or that it is above
--   ReadsRank       the word spells a symbol of this rank, or goes wrong at the place
--   ReadsJahn       the word spells the symbol of this tree; or goes wrong; or its rank is above 6; or memory is wanted for a
--                   symbol of a rank to 6
use Rattle.std.specs.Prelude.{◌≡◌, ◌⊎◌, ◌==◌, if◌then◌else◌, ◌∷◌, Bool, ℕ, ◌≤◌, ◌<◌, ◌+◌, ◌*◌, List, ◌++◌, drop, get_or, length, Result, Ok, Err, min}
use Rattle.tensor_defs.specs.Prelude.{Marks, Atom, Factor, IsAtom, IsFactor, AreFactors, JahnSymbol, atom_rank, rank}
use Rattle.text_defs.specs.Prelude.{IsFaulty, atom_text, factor_text, AreMarks, SpellsFactors, SpellsJahn, IsJahnText}
use Rattle.text_defs.specs.declared.Fault.{Fault}
use Rattle.jahn_grammar.specs.declared.RankCount.{RankCount}
use Rattle.jahn_grammar.specs.declared.RankCount.TheVariants.{Known, More}
use Rattle.jahn_grammar.specs.declared.JahnFault.{JahnFault}
use Rattle.jahn_grammar.specs.declared.JahnFault.TheVariants as fault
use Rattle.jahn_grammar.specs.declared.Atom as tree
use Rattle.jahn_grammar.specs.declared.Jahn.{Jahn}
use Rattle.jahn_grammar.specs.Trees.{atom_of, factors_of}
use Rattle.jahn_grammar.specs.Symbols.{symbol_of}

abbrev pub IsOpening : ℕ → Type 0
IsOpening o = (o ≡ 91) ⊎ (o ≡ 123)

abbrev pub closer : ℕ → ℕ
closer o = if o == 91 then 93 else 125

abbrev pub IsDigit : ℕ → Type 0
IsDigit d = (50 ≤ d) × (d ≤ 54)

abbrev pub IsMark : ℕ → Type 0
IsMark b = (b ≡ 97) ⊎ (b ≡ 101)

abbrev pub HasAtom : List ℕ → Type 0
HasAtom word = (a : Atom) × IsAtom a × (more : List ℕ) × (word ≡ atom_text a ++ more)

-- The atom takes the first bytes of the word, as many as used says; its rank is given, or 7 where that is above 6.
pub record AtomIs (word : List ℕ) (used rank : ℕ) : Type 0 where
  pub atom : Atom
  pub is_atom : IsAtom atom
  pub within : used ≤ length word
  pub text : word ≡ atom_text atom ++ drop used word
  pub rank_is : rank ≡ min (atom_rank atom) 7

abbrev pub ReadsAtom : List ℕ → Result (ℕ × ℕ) Fault → Type 0
ReadsAtom word (Ok x) = AtomIs word x.0 x.1
ReadsAtom word (Err f) = IsFaulty HasAtom word f.place

pub record TakesAtom (word : List ℕ) (a : tree.Atom) (used : ℕ) : Type 0 where
  pub is_atom : IsAtom (atom_of a)
  pub within : used ≤ length word
  pub text : word ≡ atom_text (atom_of a) ++ drop used word

abbrev pub AreFactorsText : List ℕ → Type 0
AreFactorsText word = (fs : List Factor) × (m : Marks) × AreFactors fs × SpellsFactors word fs m

abbrev pub HasFactor : List ℕ → Type 0
HasFactor word =
    (f : Factor) × IsFactor f × (rest : List ℕ) × (word ≡ factor_text f ++ rest) × AreFactorsText rest

-- The factor takes the first bytes of the word, as many as used says.
pub record TakesFactor (word : List ℕ) (f : Factor) (used : ℕ) : Type 0 where
  pub is_factor : IsFactor f
  pub within : used ≤ length word
  pub text : word ≡ factor_text f ++ drop used word
  pub ends : f.power ≡ 1 → used < length word → IsDigit (get_or word used 0) → ⊥

-- The word's factor from start to end; its rank is given, or 7 where that is above 6.
pub record FactorFrom (word : List ℕ) (start end rank : ℕ) : Type 0 where
  pub factor : Factor
  pub used : ℕ
  pub takes : TakesFactor (drop start word) factor used
  pub end_is : end ≡ start + used
  pub rank_is : rank ≡ min (factor.power * atom_rank factor.atom) 7

abbrev pub ReadsFactor : List ℕ → ℕ → Result (ℕ × ℕ) Fault → Type 0
ReadsFactor word start (Ok x) = FactorFrom word start x.0 x.1
ReadsFactor word start (Err f) = (m : ℕ) × (f.place ≡ start + m) × IsFaulty HasAtom (drop start word) m

abbrev pub TakesMarked : List ℕ → Jahn → Type 0
TakesMarked word j = AreFactors (factors_of j.body) × SpellsFactors word (factors_of j.body) (symbol_of j).marks

-- The first n bytes of the word are marks, and its next byte is no further mark.
pub record MarksAre (word : List ℕ) (n : ℕ) : Type 0 where
  pub axial : Bool
  pub magnetic : Bool
  pub marks : List ℕ
  pub are : AreMarks marks axial magnetic
  pub size : length marks ≡ n
  pub text : word ≡ marks ++ drop n word
  pub next : (c : ℕ) (cs : List ℕ) → drop n word ≡ c ∷ cs → (more : List ℕ) (a m : Bool) →
      AreMarks (marks ++ (c ∷ more)) a m → ⊥

abbrev pub CountIs : RankCount → ℕ → Type 0
CountIs (Known r) n = (r ≡ n) × (n ≤ 6)
CountIs More n = 6 < n

abbrev pub ReadsRank : List ℕ → Result RankCount Fault → Type 0
ReadsRank word (Ok count) = (j : JahnSymbol) × SpellsJahn word j × CountIs count (rank j)
ReadsRank word (Err f) = IsFaulty IsJahnText word f.place

abbrev pub ReadsJahn : List ℕ → Result Jahn JahnFault → Type 0
ReadsJahn word (Ok j) = SpellsJahn word (symbol_of j) × (rank (symbol_of j) ≤ 6)
ReadsJahn word (Err (fault.Syntax place)) = IsFaulty IsJahnText word place
ReadsJahn word (Err fault.Rank) = (j : JahnSymbol) × SpellsJahn word j × (6 < rank j)
ReadsJahn word (Err fault.NoMemory) = (j : JahnSymbol) × SpellsJahn word j × (rank j ≤ 6)
