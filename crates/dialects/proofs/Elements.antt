-- The elements of a symbol's group, by the places of their matrices.
--   code_of, coded     the matrix of an operator in a setting
--   Marked             the group holds the operation with a matrix, unprimed or primed
--   apart              the group of an accepted symbol that isn't grey doesn't hold both
--   symbol_bits        the primes of an accepted symbol that isn't grey, told by the primed operators in its group
--   pieces_marked      the operators of its long text, each a product of operators of the symbol
use Rattle.list_laws.proofs.Kit.{◌≡◌, ◌∙◌, ◌<◌, ◌/◌, ◌%◌, ◌==◌, ◌↔◌, IsTrue, ℕ, zero, suc, Bool, true, false, List, [], ◌∷◌, get_or, nat_eq, refl, sym, ap}
use Rattle.list_laws.proofs.Kit.{subst, arith, inl, inr, lit<, Contains-append_left, Contains-append_right, ltb-true, eqb-true}
use Rattle.std.specs.Prelude.{Option, Some, None, Contains, nat_lt, if◌then◌else◌}
use mathlib.Core.Bool.{xor}
use Rattle.tensor_defs.specs.declared.OpKind.{OpKind}
use Rattle.tensor_defs.specs.declared.OpKind.TheVariants.{Two, Three, Four, Six, Bar1, Bar3, Bar4, Bar6, Mirror}
use Rattle.tensor_defs.specs.declared.Direction.{Direction}
use Rattle.tensor_defs.specs.declared.Direction.TheVariants as direction
use Rattle.tensor_defs.specs.declared.Setting.{Setting}
use Rattle.tensor_defs.specs.declared.Setting.TheVariants.{Default, X, Z, XY, D, P}
use Rattle.tensor_defs.specs.Prelude.{Each, Operation, reversal, GroupSymbol, IsGroupSymbol, Operator, operation_of, turned_to, takes_setting}
use Rattle.tensor_defs.specs.Prelude.{listed, operations_of, parent_operators, generators, InGroup, IsAccepted}
use Rattle.tensor_laws.proofs.Products.{product_unique}
use Rattle.list_laws.proofs.Prelude.{all_below, below_told, implied, each_held}
use Rattle.op_matrix.specs.Table.{operation_at, matrix_place}
use Rattle.op_matrix.proofs.Frames.{also, three_told}
use Rattle.op_matrix.proofs.Products.{product_code, frame_code, common, product_at}
use Rattle.op_matrix.proofs.Hexagonal.{implies, identity_at}
use Rattle.magnetic_groups.specs.Sets.{HaveFrame}
use Rattle.group_closing.proofs.Reaching.{spanned_one}
use Rattle.group_closing.proofs.Spans.{span_product, span_member}
use Rattle.magnetic_groups.proofs.SymbolFrames.{generators_framed}
use Rattle.dialects.specs.LongTexts.{form_at, Piece, HasPrimed, IsOperation}
use Rattle.dialects.specs.Laws.{LongOperatorsAreElements}

-- ---- the matrix of an operator
unfoldable pub place_in : Option Operation → ℕ
place_in None = 64
place_in (Some g) = matrix_place g

abbrev found : ℕ → Bool
found n = nat_lt n 64

coded_at : (k : OpKind) (d : Direction) (b : Bool) → found (place_in (operation_of k d false)) ≡ true →
    operation_of k d b ≡ Some (operation_at (place_in (operation_of k d false)) b)
unfolding place_in operation_at matrix_place
coded_at Two direction.X b e = refl
coded_at Two direction.Y b e = refl
coded_at Two direction.Z b e = refl
coded_at Two direction.XY b e = refl
coded_at Two direction.XmY b e = refl
coded_at Mirror direction.X b e = refl
coded_at Mirror direction.Y b e = refl
coded_at Mirror direction.Z b e = refl
coded_at Mirror direction.XY b e = refl
coded_at Mirror direction.XmY b e = refl
coded_at Four direction.Z b e = refl
coded_at Bar4 direction.Z b e = refl
coded_at Three direction.Z b e = refl
coded_at Bar3 direction.Z b e = refl
coded_at Six direction.Z b e = refl
coded_at Bar6 direction.Z b e = refl
coded_at Three direction.XYZ b e = refl
coded_at Bar3 direction.XYZ b e = refl
coded_at Bar1 direction.Z b e = refl
coded_at k d b e = cc

unfoldable pub code_of : Setting → Operator → ℕ
code_of s o = place_in (operation_of o.kind (turned_to s o.direction) false)

pub coded : (s : Setting) (o : Operator) (b : Bool) → found (code_of s o) ≡ true →
    operation_of o.kind (turned_to s o.direction) b ≡ Some (operation_at (code_of s o) b)
unfolding code_of
coded s o b e = coded_at o.kind (turned_to s o.direction) b e

below : (n : ℕ) → found n ≡ true → n < 64
below n e = ltb-true n 64 e

two : (a b : Bool) → also a b ≡ true → (a ≡ true) × (b ≡ true)
two true true e = (refl, refl)
two true false e = cc
two false b e = cc

abbrev fits : ℕ → ℕ → Bool
fits n m = also (found n) (also (found m) (common (frame_code n) (frame_code m)))

-- ---- powers of a matrix
unfoldable power_code : ℕ → ℕ → ℕ
power_code n zero = n
power_code n (suc k) = product_code n (power_code n k)

abbrev turns_back : ℕ → Bool
turns_back n = also (nat_eq (power_code n 11) 0) (all_below 11 (λ k. fits n (power_code n k)))

all_turn_back : all_below 64 turns_back ≡ true
unfolding power_code product_code frame_code
all_turn_back = refl

with_identity : ℕ → Bool
with_identity n = also (nat_eq (product_code n 0) n) (fits n 0)

all_with_identity : all_below 64 with_identity ≡ true
unfolding with_identity product_code frame_code
all_with_identity = refl

reversal_is : operation_at 0 true ≡ reversal
unfolding operation_at
reversal_is = refl

neither : false ≡ xor false false
unfolding xor
neither = refl

first_alone : true ≡ xor true false
unfolding xor
first_alone = refl

both_marked : false ≡ xor true true
unfolding xor
both_marked = refl

-- ---- words of operators, by their numbers from 0
abbrev pub all_found : Setting → List Operator → Bool
all_found s [] = true
all_found s (o ∷ os) = also (found (code_of s o)) (all_found s os)

unfoldable code_at : Setting → List Operator → ℕ → ℕ
code_at s [] j = 0
code_at s (o ∷ os) zero = code_of s o
code_at s (o ∷ os) (suc j) = code_at s os j

unfoldable word_code : Setting → List Operator → List ℕ → ℕ
word_code s os [] = 0
word_code s os (j ∷ w) = product_code (code_at s os j) (word_code s os w)

abbrev fits_word : Setting → List Operator → List ℕ → Bool
fits_word s os [] = true
fits_word s os (j ∷ w) = also (fits (code_at s os j) (word_code s os w)) (fits_word s os w)

abbrev is_word : Setting → List Operator → Piece → List ℕ → Bool
is_word s os p w =
    also (found (code_of s p.operator)) (also (fits_word s os w) (nat_eq (word_code s os w) (code_of s p.operator)))

abbrev are_words : Setting → List Operator → List Piece → List (List ℕ) → Bool
are_words s os [] ws = true
are_words s os (p ∷ ps) [] = false
are_words s os (p ∷ ps) (w ∷ ws) = also (is_word s os p w) (are_words s os ps ws)

-- a word for each operator of each long form, as a product of the operators of its parent
abbrev bar_words : List (List ℕ)
bar_words = (0 ∷ []) ∷ (1 ∷ 0 ∷ 0 ∷ 0 ∷ []) ∷ (1 ∷ []) ∷ []

abbrev words : List (List (List ℕ))
words =
    ((2 ∷ 1 ∷ []) ∷ (0 ∷ []) ∷ (2 ∷ 0 ∷ []) ∷ (1 ∷ []) ∷ (1 ∷ 0 ∷ []) ∷ (2 ∷ []) ∷ [])
    ∷ ((0 ∷ []) ∷ (1 ∷ []) ∷ (3 ∷ 1 ∷ 0 ∷ []) ∷ (2 ∷ []) ∷ (0 ∷ 2 ∷ 1 ∷ []) ∷ (3 ∷ []) ∷ [])
    ∷ bar_words
    ∷ bar_words
    ∷ bar_words
    ∷ ((0 ∷ []) ∷ (1 ∷ []) ∷ (3 ∷ 1 ∷ []) ∷ (2 ∷ []) ∷ (2 ∷ 1 ∷ []) ∷ (3 ∷ []) ∷ [])
    ∷ ((1 ∷ 1 ∷ 1 ∷ 0 ∷ []) ∷ (0 ∷ []) ∷ (1 ∷ []) ∷ [])
    ∷ ((1 ∷ 2 ∷ 0 ∷ 1 ∷ []) ∷ (0 ∷ []) ∷ (1 ∷ []) ∷ (2 ∷ 1 ∷ 1 ∷ 1 ∷ []) ∷ (2 ∷ []) ∷ [])
    ∷ []

abbrev form_test : Setting → ℕ → Bool
form_test s k =
    implies (takes_setting (form_at k).parent s)
    (also (all_found s (parent_operators (form_at k).parent))
    (are_words s (parent_operators (form_at k).parent) (form_at k).pieces (get_or words k [])))

all_forms : (s : Setting) → all_below 8 (form_test s) ≡ true
unfolding form_at parent_operators code_of place_in matrix_place code_at word_code product_code frame_code
all_forms Default = refl
all_forms X = refl
all_forms Z = refl
all_forms XY = refl
all_forms D = refl
all_forms P = refl

-- the operations of a list of operators
first_operation : (s : Setting) (p : ℕ) (o : Operator) (os : List Operator) → found (code_of s o) ≡ true →
    Contains (operations_of s p (o ∷ os)) (operation_at (code_of s o) (p % 2 == 1))
first_operation s p o os e =
    Contains-append_left (listed (operation_of o.kind (turned_to s o.direction) (p % 2 == 1))) (operations_of s (p / 2) os)
    (operation_at (code_of s o) (p % 2 == 1))
    (alone (operation_of o.kind (turned_to s o.direction) (p % 2 == 1)) (operation_at (code_of s o) (p % 2 == 1)) (coded s o (p % 2 == 1) e))
  where
    alone : (x : Option Operation) (g : Operation) → x ≡ Some g → Contains (listed x) g
    alone x g is = rw is (0, omega arith, refl)

later_operation : (s : Setting) (p : ℕ) (o : Operator) (os : List Operator) (g : Operation) →
    Contains (operations_of s (p / 2) os) g → Contains (operations_of s p (o ∷ os)) g
later_operation s p o os g c =
    Contains-append_right (listed (operation_of o.kind (turned_to s o.direction) (p % 2 == 1))) (operations_of s (p / 2) os) g c

false_true : false ≡ true → ⊥
false_true e = cc

-- ---- the group of a symbol
module _ (t : GroupSymbol) (i : IsGroupSymbol t) where
  frame : HaveFrame (generators t)
  frame = generators_framed t i

  times : (n m : ℕ) (p q r : Bool) → fits n m ≡ true → r ≡ xor p q → InGroup t (operation_at n p) → InGroup t (operation_at m q) →
      InGroup t (operation_at (product_code n m) r)
  times n m p q r e is a b =
      let f = three_told (found n) (found m) (common (frame_code n) (frame_code m)) e in
      let c = span_product (generators t) frame a.0 (operation_at n p) (operation_at m q) a.1 a.2 b in
      let d = product_at n m p q r (below n f.0) (below m f.1) f.2 is in
      subst (InGroup t) (product_unique (operation_at n p) (operation_at m q) c.0 (operation_at (product_code n m) r) c.2 d) c.1

  unfoldable pub Marked : ℕ → Type 0
  Marked n = (p : Bool) × InGroup t (operation_at n p)

  marked_times : (n m : ℕ) → fits n m ≡ true → Marked n → Marked m → Marked (product_code n m)
  unfolding Marked
  marked_times n m e (p, a) (q, b) = (xor p q, times n m p q (xor p q) e refl a b)

  -- both marks of one matrix give time reversal alone
  powers : (n : ℕ) → all_below 11 (λ k. fits n (power_code n k)) ≡ true → InGroup t (operation_at n false) → (k : ℕ) → k < 12 →
      InGroup t (operation_at (power_code n k) false)
  unfolding power_code
  powers n e a zero lt = a
  powers n e a (suc k) lt =
      times n (power_code n k) false false false (below_told 11 (λ j. fits n (power_code n j)) e k (omega arith)) neither a
      (powers n e a k (omega arith))

  pub reversal_of : (n : ℕ) → found n ≡ true → InGroup t (operation_at n true) → InGroup t (operation_at n false) → InGroup t reversal
  unfolding power_code
  reversal_of n lt a b =
      let e = two (nat_eq (power_code n 11) 0) (all_below 11 (λ k. fits n (power_code n k))) (below_told 64 turns_back all_turn_back n (below n lt)) in
      let back : power_code n 11 ≡ 0 = eqb-true (power_code n 11) 0 e.0 in
      let last : InGroup t (operation_at (product_code n (power_code n 10)) true) =
      times n (power_code n 10) true false true (below_told 11 (λ k. fits n (power_code n k)) e.1 10 (lit< tt)) first_alone a (powers n e.1 b 10 (lit< tt)) in
      let G : ℕ → Type 0 = λ (m : ℕ). InGroup t (operation_at m true) in
      subst (InGroup t) reversal_is (subst G back last)

  -- in a grey group an operation stands unprimed where it stands primed
  pub unprimed : (n : ℕ) → found n ≡ true → InGroup t reversal → InGroup t (operation_at n true) → InGroup t (operation_at n false)
  unfolding with_identity
  unprimed n lt r a =
      let e = two (nat_eq (product_code n 0) n) (fits n 0) (below_told 64 with_identity all_with_identity n (below n lt)) in
      let same : product_code n 0 ≡ n = eqb-true (product_code n 0) n e.0 in
      let G : ℕ → Type 0 = λ (m : ℕ). InGroup t (operation_at m false) in
      subst G same (times n 0 true true false e.1 both_marked a (subst (InGroup t) (sym reversal_is) r))

  -- ---- the operators of the symbol
  pub operators_marked : (os : List Operator) (p : ℕ) → ((g : Operation) → Contains (operations_of t.setting p os) g → InGroup t g) →
      all_found t.setting os ≡ true → Each (λ o. Marked (code_of t.setting o)) os
  unfolding Marked
  operators_marked [] p all e = tt
  operators_marked (o ∷ os) p all e =
      let f = two (found (code_of t.setting o)) (all_found t.setting os) e in (
        (
          p % 2 == 1,
          all (operation_at (code_of t.setting o) (p % 2 == 1)) (first_operation t.setting p o os f.0),
        ),
        operators_marked os (p / 2) (λ g c. all g (later_operation t.setting p o os g c)) f.1,
      )

  -- ---- products of operators
  code_marked : (os : List Operator) (j : ℕ) → Each (λ o. Marked (code_of t.setting o)) os → Marked (code_at t.setting os j)
  unfolding Marked code_at
  code_marked [] j h = (false, subst (InGroup t) identity_at (spanned_one (generators t)))
  code_marked (o ∷ os) zero h = h.0
  code_marked (o ∷ os) (suc j) h = code_marked os j h.1

  word_marked : (os : List Operator) → Each (λ o. Marked (code_of t.setting o)) os → (w : List ℕ) →
      fits_word t.setting os w ≡ true → Marked (word_code t.setting os w)
  unfolding Marked word_code
  word_marked os h [] e = (false, subst (InGroup t) identity_at (spanned_one (generators t)))
  word_marked os h (j ∷ w) e =
      let f = two (fits (code_at t.setting os j) (word_code t.setting os w)) (fits_word t.setting os w) e in
      marked_times (code_at t.setting os j) (word_code t.setting os w) f.0 (code_marked os j h) (word_marked os h w f.1)

  abbrev pub PieceMarked : Piece → Type 0
  PieceMarked p = (found (code_of t.setting p.operator) ≡ true) × Marked (code_of t.setting p.operator)

  pieces_told : (os : List Operator) → Each (λ o. Marked (code_of t.setting o)) os → (ps : List Piece) (ws : List (List ℕ)) →
      are_words t.setting os ps ws ≡ true → Each PieceMarked ps
  pieces_told os h [] ws e = tt
  pieces_told os h (p ∷ ps) [] e = cc
  pieces_told os h (p ∷ ps) (w ∷ ws) e =
      let f = two (is_word t.setting os p w) (are_words t.setting os ps ws) e in
      let g = three_told (found (code_of t.setting p.operator)) (fits_word t.setting os w)
      (nat_eq (word_code t.setting os w) (code_of t.setting p.operator)) f.0 in (
        (g.0, subst Marked (eqb-true (word_code t.setting os w) (code_of t.setting p.operator) g.2) (word_marked os h w g.1)),
        pieces_told os h ps ws f.1,
      )

  pub all_inside : (g : Operation) → Contains (operations_of t.setting t.primes (parent_operators t.parent)) g → InGroup t g
  unfolding generators
  all_inside g c = span_member (generators t) g frame (Contains-append_left (operations_of t.setting t.primes (parent_operators t.parent)) _ g c)

  pub pieces_marked : (k : ℕ) → k < 8 → t.parent ≡ (form_at k).parent → Each PieceMarked (form_at k).pieces
  pieces_marked k lt same =
      let e = two (all_found t.setting (parent_operators (form_at k).parent))
      (are_words t.setting (parent_operators (form_at k).parent) (form_at k).pieces (get_or words k []))
      (implied (takes_setting (form_at k).parent t.setting) _ (below_told 8 (form_test t.setting) (all_forms t.setting) k lt)
      (ap (λ (n : ℕ). takes_setting n t.setting) (sym same) ∙ i.setting)) in
      let inside : (g : Operation) → Contains (operations_of t.setting t.primes (parent_operators (form_at k).parent)) g → InGroup t g =
      (λ g c. all_inside g (subst (λ (n : ℕ). Contains (operations_of t.setting t.primes (parent_operators n)) g) (sym same) c)) in
      pieces_told (parent_operators (form_at k).parent) (operators_marked (parent_operators (form_at k).parent) t.primes inside e.0)
      (form_at k).pieces (get_or words k []) e.1

  -- ---- each operator of the long text, with its mark
  grey_reversal : t.grey ≡ true → InGroup t reversal
  unfolding generators
  grey_reversal e = span_member (generators t) reversal frame
      (Contains-append_right (operations_of t.setting t.primes (parent_operators t.parent))
      (if t.grey then reversal ∷ [] else []) reversal (rw e (0, omega arith, refl)))

  pub operator_told : (o : Operator) → found (code_of t.setting o) ≡ true → Marked (code_of t.setting o) → (mark : Bool) →
      (IsTrue mark ↔ HasPrimed t o) → (g : Operation) × IsOperation t o mark g × InGroup t g
  unfolding Marked
  operator_told o e (b, a) mark is = by mark is t.grey refl b a
    where
      n : ℕ
      n = code_of t.setting o

      by : (mark : Bool) → (IsTrue mark ↔ HasPrimed t o) → (grey : Bool) → t.grey ≡ grey → (b : Bool) → InGroup t (operation_at n b) →
          (g : Operation) × IsOperation t o mark g × InGroup t g
      by true is grey h b a = (is.0 refl).1
      by false is grey h false a = (operation_at n false, coded t.setting o false e, a)
      by false is false h true a = cc (is.1 (h, (operation_at n true, coded t.setting o true e, a)))
      by false is true h true a = (operation_at n false, coded t.setting o false e, unprimed n e (grey_reversal h) a)

  -- ---- the primes of the symbol, told by the primed operators in its group
  abbrev pub BitsTold : ℕ → List Operator → Type 0
  BitsTold p [] = Unit {0}
  BitsTold p (o ∷ os) = (IsTrue (p % 2 == 1) ↔ HasPrimed t o) × BitsTold (p / 2) os

  bit_told : t.grey ≡ false → IsAccepted t → (o : Operator) → found (code_of t.setting o) ≡ true → (b : Bool) →
      InGroup t (operation_at (code_of t.setting o) b) → IsTrue b ↔ HasPrimed t o
  bit_told plain accepted o e true a = (λ h. (plain, (operation_at (code_of t.setting o) true, coded t.setting o true e, a)), λ h. refl)
  bit_told plain accepted o e false a = (λ h. absurd (false_true h), λ h. absurd (clash accepted (reversal_of (code_of t.setting o) e (primed h.1) a)))
    where
      out : {x y : Operation} → Some x ≡ Some y → x ≡ y
      out q = cc

      primed : (g : Operation) × IsOperation t o true g × InGroup t g → InGroup t (operation_at (code_of t.setting o) true)
      primed (g, is, m) = subst (InGroup t) (out (sym is ∙ coded t.setting o true e)) m

      clash : IsAccepted t → InGroup t reversal → ⊥
      clash (inl g) r = false_true (sym plain ∙ g)
      clash (inr none) r = none r

  bits_told : t.grey ≡ false → IsAccepted t → (os : List Operator) (p : ℕ) →
      ((g : Operation) → Contains (operations_of t.setting p os) g → InGroup t g) → all_found t.setting os ≡ true → BitsTold p os
  bits_told plain accepted [] p all e = tt
  bits_told plain accepted (o ∷ os) p all e =
      let f = two (found (code_of t.setting o)) (all_found t.setting os) e in (
        bit_told plain accepted o f.0 (p % 2 == 1) (all (operation_at (code_of t.setting o) (p % 2 == 1)) (first_operation t.setting p o os f.0)),
        bits_told plain accepted os (p / 2) (λ g c. all g (later_operation t.setting p o os g c)) f.1,
      )

  pub symbol_bits : (k : ℕ) → k < 8 → t.parent ≡ (form_at k).parent → t.grey ≡ false → IsAccepted t →
      BitsTold t.primes (parent_operators (form_at k).parent)
  symbol_bits k lt same plain accepted =
      let e = two (all_found t.setting (parent_operators (form_at k).parent))
      (are_words t.setting (parent_operators (form_at k).parent) (form_at k).pieces (get_or words k []))
      (implied (takes_setting (form_at k).parent t.setting) _ (below_told 8 (form_test t.setting) (all_forms t.setting) k lt)
      (ap (λ (n : ℕ). takes_setting n t.setting) (sym same) ∙ i.setting)) in
      bits_told plain accepted (parent_operators (form_at k).parent) t.primes
      (λ g c. all_inside g (subst (λ (n : ℕ). Contains (operations_of t.setting t.primes (parent_operators n)) g) (sym same) c)) e.0

pub elements : LongOperatorsAreElements
elements k text t p mark f c is =
    let m = each_held (PieceMarked t f.symbol) (form_at k).pieces (pieces_marked t f.symbol k f.listed f.parent) p c in
    operator_told t f.symbol p.operator m.0 m.1 mark is
