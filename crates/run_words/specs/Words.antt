-- The words of the command line.
--   tensors_app     the command: the options --generate and --seed, each with one value
--   no_faults, rows_given    the words have no fault for it; what it makes of them
--   IsNumber        a text is 1 to 10 digits, and this number
--   IsRun           both options are given, with a count and a seed in range
--   IsAccepted      the words are those of a generated run
--   Asks            what the words ask for: a run, or nothing that is accepted
-- Source: this project's own. What a command makes of words, and which faults they have, is defined by clap.
use Rattle.std.specs.Prelude.{◌≡◌, ℕ, ◌≤◌, List, [], ◌∷◌, length, codes, true, Some, None}
use Rattle.std.specs.Str.Parse.{AllDigits, digits_value}
use Rattle.std.specs.declared.option.Option.{Option}
use Rattle.clap.specs.Words.{App, Row, Rule, Text, first_of, matches_of, new_app, new_rule, takes, with_rule, fault_of}
use Rattle.clap.specs.declared.builder.ArgAction.TheVariants.{Set}
use Rattle.run_words.specs.declared.Generate.{Generate}

-- an option with one value
abbrev pub option_rule : Text → Rule
option_rule name = record (new_rule name) { long = Some name; action = Some Set }

abbrev pub tensors_app : App
tensors_app =
    with_rule (with_rule (new_app (codes "tensors")) (option_rule (codes "generate"))) (option_rule (codes "seed"))

-- the list that is given to the command
abbrev pub given_words : List Text → List Text
given_words words = codes "tensors" ∷ words

-- The command refuses the words nowhere, and they are no call for help.
abbrev pub HasNoFault : List Text → Type 0
HasNoFault words = fault_of tensors_app (given_words words) ≡ []

-- The same by the sufficient test of clap.
abbrev pub IsTaken : List Text → Type 0
IsTaken words = takes tensors_app (given_words words) ≡ true

abbrev pub rows_given : List Text → List Row
rows_given words = matches_of tensors_app (given_words words)

pub record IsNumber (text : Text) (n : ℕ) : Type 0 where
  pub some : 1 ≤ length text
  pub few : length text ≤ 10
  pub digits : AllDigits 10 text
  pub value : digits_value 10 text ≡ n

-- the option is given, with this number
pub record NumberAt (rows : List Row) (id : Text) (n : ℕ) : Type 0 where
  pub text : Text
  pub given : first_of id rows ≡ Some text
  pub is : IsNumber text n

pub record InRange (count seed : ℕ) : Type 0 where
  pub count_most : count ≤ 100000
  pub seed_least : 1 ≤ seed
  pub seed_most : seed ≤ 2147483646

pub record IsRun (rows : List Row) (run : Generate) : Type 0 where
  pub count_is : NumberAt rows (codes "generate") run.count
  pub seed_is : NumberAt rows (codes "seed") run.seed
  pub in_range : InRange run.count run.seed

pub record IsAccepted (words : List Text) (run : Generate) : Type 0 where
  pub faultless : HasNoFault words
  pub is_run : IsRun (rows_given words) run

abbrev pub Asks : List Text → Option Generate → Type 0
Asks words (Some run) = IsAccepted words run
Asks words None = (run : Generate) → IsAccepted words run → ⊥

-- the same of what a command made of words
abbrev pub AsksRows : List Row → Option Generate → Type 0
AsksRows rows (Some run) = IsRun rows run
AsksRows rows None = (run : Generate) → IsRun rows run → ⊥

-- a run with these numbers, or they are out of range
abbrev pub IsInRange : ℕ → ℕ → Option Generate → Type 0
IsInRange count seed (Some run) = (run.count ≡ count) × (run.seed ≡ seed) × InRange count seed
IsInRange count seed None = InRange count seed → ⊥
