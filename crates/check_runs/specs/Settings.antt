-- Words that give numbers to components, and the tensor that they give.
--   Given           a component, and the number that is given to it
--   Sets            the word is the name of a component of a rank, =, and the text of a number
--   IsSetting       the word gives a number to some component
--   AreSettings     what each of the words gives, in their order
--   IsFirstFaulty   the first word that gives nothing, and where it goes wrong
--   ComesAgain      the component that a word gives a number to has one from an earlier word
--   IsFirstTwice, AreOnce    the first such word; there is none
--   number_of       the number that is given to a component, else 0
--   given_tensor    the tensor of these numbers
-- Components are told by their numbers in index order, and words by their places, both from 0. Source: this project's own.
use Rattle.std.specs.Prelude.{◌≡◌, ℕ, ◌<◌, ◌^◌, List, [], ◌∷◌, ◌++◌, cond, length, take, get_or, nat_eq}
use Rattle.tensor_defs.specs.Prelude.{Each, Number, num_zero, Tensor, component_number, index_of}
use Rattle.text_defs.specs.Prelude.{component_name, IsFaulty}
use Rattle.number_words.specs.NumberWords.{SpellsNumber}
use Rattle.tool_runs.specs.Tools.{Words}

pub record Given : Type 0 where
  pub component : ℕ
  pub number : Number

pub record Sets (r : ℕ) (word : List ℕ) (p : Given) : Type 0 where
  pub below : p.component < 3 ^ r
  pub text : List ℕ
  pub word_is : word ≡ component_name (index_of r p.component) ++ 61 ∷ text
  pub spelled : SpellsNumber text p.number

abbrev pub IsSetting : ℕ → List ℕ → Type 0
IsSetting r word = (p : Given) × Sets r word p

abbrev pub AreSettings : ℕ → Words → List Given → Type 0
AreSettings r [] [] = Unit {0}
AreSettings r [] (p ∷ ps) = ⊥
AreSettings r (w ∷ ws) [] = ⊥
AreSettings r (w ∷ ws) (p ∷ ps) = Sets r w p × AreSettings r ws ps

pub record IsFirstFaulty (r : ℕ) (words : Words) (k place : ℕ) : Type 0 where
  pub within : k < length words
  pub faulty : IsFaulty (IsSetting r) (get_or words k []) place
  pub earlier : Each (IsSetting r) (take k words)

abbrev pub nothing : Given
nothing = record { component = 0; number = num_zero }

abbrev pub component_at : List Given → ℕ → ℕ
component_at ps k = (get_or ps k nothing).component

abbrev pub ComesAgain : List Given → ℕ → Type 0
ComesAgain ps k = (i : ℕ) × (i < k) × (component_at ps i ≡ component_at ps k)

pub record IsFirstTwice (ps : List Given) (k : ℕ) : Type 0 where
  pub within : k < length ps
  pub twice : ComesAgain ps k
  pub earlier : (m : ℕ) → m < k → ComesAgain ps m → ⊥

abbrev pub AreOnce : List Given → Type 0
AreOnce ps = (k : ℕ) → k < length ps → ComesAgain ps k → ⊥

abbrev pub number_of : List Given → ℕ → Number
number_of [] c = num_zero
number_of (p ∷ ps) c = cond (nat_eq p.component c) p.number (number_of ps c)

abbrev pub given_tensor : List Given → Tensor
given_tensor ps is = number_of ps (component_number is)
