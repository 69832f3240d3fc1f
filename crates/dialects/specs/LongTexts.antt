-- Long Hermann-Mauguin texts.
--   Piece, LongForm     a long text without primes, cut behind the sign of each operator
--   long_forms          the long texts of the eight parents whose short texts leave operators out
--   HasPrimed           the symbol isn't grey, and its group holds the primed operator
--   ArePieces           the pieces, with ' behind each whose primed operator is in the group
--   IsFormText          the long text of a symbol of such a parent: its pieces, 1' where it is grey, and the suffix
--   IsLongText          the long text of an accepted symbol; for another parent the text that is written for it
-- Source: full Hermann-Mauguin symbols as in International Tables for Crystallography A; the dot between positions is
-- this project's own.
use Rattle.std.specs.Prelude.{◌≡◌, ◌⊎◌, ◌↔◌, ℕ, ◌<◌, ◌==◌, ◌||◌, Bool, true, false, IsTrue, List, [], ◌∷◌, ◌++◌, Some, get_or, codes}
use Rattle.tensor_defs.specs.declared.OpKind.{OpKind}
use Rattle.tensor_defs.specs.declared.OpKind.TheVariants.{Two, Four, Six, Bar3, Mirror}
use Rattle.tensor_defs.specs.declared.Direction.{Direction}
use Rattle.tensor_defs.specs.declared.Direction.TheVariants.{X, Y, Z, XmY, XYZ}
use Rattle.tensor_defs.specs.Prelude.{Operation, GroupSymbol, IsGroupSymbol, Operator, operation_of, turned_to, InGroup, IsAccepted}
use Rattle.text_defs.specs.GroupTexts.{grey_text, setting_text, group_text}

-- what stands before the sign of an operator and that sign, and the operator with its direction in the default setting
pub record Piece : Type 0 where
  pub text : List ℕ
  pub operator : Operator

-- a long text: its parent, its pieces, and what stands behind the last of them
pub record LongForm : Type 0 where
  pub parent : ℕ
  pub pieces : List Piece
  pub ending : List ℕ

abbrev piece : List ℕ → OpKind → Direction → Piece
piece text kind direction = record { text = text; operator = record { kind = kind; direction = direction } }

abbrev form : ℕ → List Piece → List ℕ → LongForm
form parent pieces ending = record { parent = parent; pieces = pieces; ending = ending }

-- 2/m.2/m.2/m, 4/m.2/m.2/m, -3.2/m, -3.2/m.1, -3.1.2/m, 6/m.2/m.2/m, 2/m.-3 and 4/m.-3.2/m
abbrev pub long_forms : List LongForm
long_forms =
    form 10 (
    piece (codes "2") Two X ∷ piece (codes "/m") Mirror X ∷ piece (codes ".2") Two Y ∷ piece (codes "/m") Mirror Y
    ∷ piece (codes ".2") Two Z ∷ piece (codes "/m") Mirror Z ∷ []
    ) []
    ∷ form 18 (
    piece (codes "4") Four Z ∷ piece (codes "/m") Mirror Z ∷ piece (codes ".2") Two X ∷ piece (codes "/m") Mirror X
    ∷ piece (codes ".2") Two XmY ∷ piece (codes "/m") Mirror XmY ∷ []
    ) []
    ∷ form 27 (piece (codes "-3") Bar3 Z ∷ piece (codes ".2") Two X ∷ piece (codes "/m") Mirror X ∷ []) []
    ∷ form 28 (piece (codes "-3") Bar3 Z ∷ piece (codes ".2") Two X ∷ piece (codes "/m") Mirror X ∷ []) (codes ".1")
    ∷ form 29 (piece (codes "-3") Bar3 Z ∷ piece (codes ".1.2") Two Y ∷ piece (codes "/m") Mirror Y ∷ []) []
    ∷ form 37 (
    piece (codes "6") Six Z ∷ piece (codes "/m") Mirror Z ∷ piece (codes ".2") Two X ∷ piece (codes "/m") Mirror X
    ∷ piece (codes ".2") Two Y ∷ piece (codes "/m") Mirror Y ∷ []
    ) []
    ∷ form 39 (piece (codes "2") Two Z ∷ piece (codes "/m") Mirror Z ∷ piece (codes ".-3") Bar3 XYZ ∷ []) []
    ∷ form 42 (
    piece (codes "4") Four Z ∷ piece (codes "/m") Mirror Z ∷ piece (codes ".-3") Bar3 XYZ ∷ piece (codes ".2") Two XmY
    ∷ piece (codes "/m") Mirror XmY ∷ []
    ) []
    ∷ []

unfoldable pub form_at : ℕ → LongForm
form_at k = get_or long_forms k (form 0 [] [])

abbrev pub has_form : ℕ → Bool
has_form n = n == 10 || n == 18 || n == 27 || n == 28 || n == 29 || n == 37 || n == 39 || n == 42

-- the operation of an operator in the setting of a symbol, unprimed or primed
abbrev pub IsOperation : GroupSymbol → Operator → Bool → Operation → Type 0
IsOperation t o mark g = operation_of o.kind (turned_to t.setting o.direction) mark ≡ Some g

abbrev pub HasPrimed : GroupSymbol → Operator → Type 0
HasPrimed t o = (t.grey ≡ false) × ((g : Operation) × IsOperation t o true g × InGroup t g)

abbrev pub prime_text : Bool → List ℕ
prime_text true = codes "'"
prime_text false = []

abbrev pub ArePieces : GroupSymbol → List Piece → List ℕ → Type 0
ArePieces t [] word = word ≡ []
ArePieces t (p ∷ ps) word =
    (mark : Bool) × (rest : List ℕ) × (IsTrue mark ↔ HasPrimed t p.operator) × ArePieces t ps rest
    × (word ≡ p.text ++ (prime_text mark ++ rest))

pub record IsFormText (k : ℕ) (word : List ℕ) (t : GroupSymbol) : Type 0 where
  pub listed : k < 8
  pub symbol : IsGroupSymbol t
  pub accepted : IsAccepted t
  pub parent : t.parent ≡ (form_at k).parent
  pub signs : List ℕ
  pub pieces : ArePieces t (form_at k).pieces signs
  pub text : word ≡ signs ++ ((form_at k).ending ++ (grey_text t.grey ++ setting_text t.setting))

-- the text that is written for a symbol of a parent with no long form
pub record IsShortText (word : List ℕ) (t : GroupSymbol) : Type 0 where
  pub symbol : IsGroupSymbol t
  pub accepted : IsAccepted t
  pub other : has_form t.parent ≡ false
  pub text : word ≡ group_text t

abbrev pub IsLongText : List ℕ → GroupSymbol → Type 0
IsLongText word t = ((k : ℕ) × IsFormText k word t) ⊎ IsShortText word t
