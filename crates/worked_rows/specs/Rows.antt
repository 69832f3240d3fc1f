-- Worked rows of the definitions, as the contracts of src/ cite them.
--   ThriceThreeZ    the threefold rotation about z, three times, is the identity
--   GroupOfTwoPrime    the group of 2' has two elements
--   VectorTableFits    the table in which the component y alone is free fits the group of 2 and the symbol V
--   FirstRow        the line form 2 V spells a request of both formats, and its answer has these bytes
--   FirstLineNotRefused, FirstLineAnswered    no refusal applies to that line, and these bytes are its answer
--   TwoTensors      in format 2 the line form 2 V,eV spells a request for two tensors
--   MarkedFactors   VeV spells the axial symbol VV
--   LineForm        the line form is no request of either format, and goes wrong at its end
--   ThreeLines      two empty lines and the line form: the answers of an input
--   HeadedLines     the line format 2 and a comment: nothing is answered
--   GroupRow        the line group 2' spells a request, and its answer has these bytes
--   FaultOfOneText  where a word goes wrong in the language of one text
use Rattle.std.specs.Prelude.{◌≡◌, ◌≢◌, ℕ, true, false, List, [], ◌∷◌, ◌⊎◌, ◌↔◌, codes}
use Rattle.tensor_defs.specs.Prelude.{InGroup, IsProductOf, JahnSymbol, V, Operation, identity, matrix, one, nought, minus_one, x2, index_before, GroupSymbol}
use Rattle.tensor_defs.specs.Prelude.{Table, Term, alone, Fits, Index}
use Rattle.tensor_laws.specs.Laws.{three_z}
use Rattle.text_defs.specs.declared.Format.{Format}
use Rattle.text_defs.specs.declared.Format.TheVariants.{Two}
use Rattle.text_defs.specs.Prelude.{SpellsJahn, AnswersRequest, IsAnswer, IsRefused, Request, SpellsRequest, IsNoRequest, Form, Group, IsFaulty, AreAnswersOf}
use Rattle.tensor_defs.specs.declared.Setting.TheVariants.{Default}

-- 3z three times is the identity
abbrev pub ThriceThreeZ : Type 0
ThriceThreeZ = IsProductOf (three_z ∷ three_z ∷ three_z ∷ []) identity

-- the symbol 2', and its generator
abbrev pub two_prime : GroupSymbol
two_prime = record { parent = 3; primes = 1; grey = false; setting = Default }

abbrev pub two_y_prime : Operation
two_y_prime = matrix minus_one nought nought nought one nought nought nought minus_one true

-- the group of 2' has two elements
pub record GroupOfTwoPrime : Type 0 where
  pub members : (k : Operation) → InGroup two_prime k ↔ ((k ≡ identity) ⊎ (k ≡ two_y_prime))
  pub apart : identity ≢ two_y_prime

-- the table of `form 2 V`: the component y is free, and x and z vanish
abbrev pub two_alone : GroupSymbol
two_alone = record { parent = 3; primes = 0; grey = false; setting = Default }

abbrev pub vector_symbol : JahnSymbol
vector_symbol =
    record { marks = record { axial = false; magnetic = false }; factors = record { atom = V; power = 1 } ∷ [] }

abbrev pub vector_terms : Index → List Term
vector_terms (x2 ∷ []) = alone 0 ∷ []
vector_terms c = []

abbrev pub vector_table : Table
vector_table = record { free = (x2 ∷ []) ∷ []; terms = vector_terms }

abbrev pub VectorTableFits : Type 0
VectorTableFits = Fits vector_symbol (InGroup two_alone) index_before vector_table

abbrev pub first_line : List ℕ
first_line = codes "form 2 V"

abbrev pub first_request : Request
first_request = Form (record { symbol = two_alone; column = 6 }) (record { jahn = vector_symbol; column = 8 } ∷ [])

pub record FirstRow : Type 0 where
  pub spelled : (format : Format) → SpellsRequest format first_line first_request
  pub answered : AnswersRequest first_request (codes "form 2 V free 1 of 3\nT1 = 0\nT2 free\nT3 = 0\n")

abbrev pub FirstLineNotRefused : Type 0
FirstLineNotRefused = (format : Format) (number : ℕ) → ¬ IsRefused format number first_line

abbrev pub FirstLineAnswered : Type 0
FirstLineAnswered =
    (format : Format) (number : ℕ) → IsAnswer format number first_line (codes "form 2 V free 1 of 3\nT1 = 0\nT2 free\nT3 = 0\n")

-- two tensors, the second one axial
abbrev pub axial_vector : JahnSymbol
axial_vector =
    record { marks = record { axial = true; magnetic = false }; factors = record { atom = V; power = 1 } ∷ [] }

abbrev pub two_tensors : Request
two_tensors =
    Form (record { symbol = two_alone; column = 6 })
    (record { jahn = vector_symbol; column = 8 } ∷ record { jahn = axial_vector; column = 10 } ∷ [])

abbrev pub TwoTensors : Type 0
TwoTensors = SpellsRequest Two (codes "form 2 V,eV") two_tensors

abbrev pub axial_pair : JahnSymbol
axial_pair =
    record {
      marks = record { axial = true; magnetic = false };
      factors = record { atom = V; power = 1 } ∷ record { atom = V; power = 1 } ∷ [];
    }

abbrev pub MarkedFactors : Type 0
MarkedFactors = SpellsJahn (codes "VeV") axial_pair

abbrev pub LineForm : Type 0
LineForm = (format : Format) → IsNoRequest format (codes "form") 4

abbrev pub ThreeLines : Type 0
ThreeLines = AreAnswersOf (codes "\n\nform") (codes "error 3 5 syntax\n")

abbrev pub HeadedLines : Type 0
HeadedLines = AreAnswersOf (codes "format 2\n# note") []

abbrev pub group_request : Request
group_request = Group (record { symbol = two_prime; column = 7 })

pub record GroupRow : Type 0 where
  pub spelled : (format : Format) → SpellsRequest format (codes "group 2'") group_request
  pub answered : AnswersRequest group_request (codes "group 2' order 2\nelement 1 1 0 0 0 1 0 0 0 1\nelement 2 -1 0 0 0 1 0 0 0 -1 primed\n")

abbrev pub FaultOfOneText : Type 0
FaultOfOneText = IsFaulty (λ t. t ≡ codes "4/m") (codes "4/x") 2
