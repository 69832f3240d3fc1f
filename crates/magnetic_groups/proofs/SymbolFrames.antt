-- The group of each symbol is framed: its operators are all plain, or all are hexagonal and a power of the first is the
-- threefold rotation about z without time reversal.
--   passes, each_operator, operators_pass    a test of each operator, primed or not
--   grey_tail, tail_is, reversal_plain    time reversal
--   SymbolFrame, symbol_frame, generators_framed, group_framed    the generators of a symbol
--   built, built_framed, built_refused, built_accepted    what the group built for a symbol is
use Rattle.list_laws.proofs.Kit.{[], ◌≡◌, ℕ, ◌/◌, ◌%◌, Bool, true, false, List, ◌∷◌, ◌++◌, refl, sym, ◌∙◌, arith, subst, ◌⊎◌, inl, inr, Contains-append_left}
use Rattle.list_laws.proofs.Kit.{Contains-append_cases, Contains-push_cases, ltb-true, false≢true}
use Rattle.std.specs.Prelude.{◌==◌, nat_lt, Option, Some, None, Contains, IsTrue, ◌↔◌, if◌then◌else◌}
use Rattle.list_laws.proofs.Prelude.{none_held, all_below, below_told, either_told, implied, both}
use mathlib.Core.Bool.{xor}
use Rattle.tensor_defs.specs.declared.OpKind.{OpKind}
use Rattle.tensor_defs.specs.declared.Direction.{Direction}
use Rattle.tensor_defs.specs.declared.Setting.{Setting}
use Rattle.tensor_defs.specs.declared.Setting.TheVariants.{Default, X, Z, XY, D, P}
use Rattle.tensor_defs.specs.Prelude.{operation_of, Operator, GroupSymbol, IsGroupSymbol, parent_operators, takes_setting, turned_to, listed, operations_of}
use Rattle.tensor_defs.specs.Prelude.{generators, Axis, x1, x2, x3, Operation, Row, in_row, IsProduct, reversal, InGroup, IsAccepted, IsListing, IsPlain}
use Rattle.tensor_defs.specs.Prelude.{IsHexagonal, AllOf, SameMatrix, IsFramed, same_entry, comes_before}
use Rattle.tensor_laws.specs.Laws.{three_z}
use Rattle.tensor_laws.proofs.Products.{product_unique, product_test, product_tested}
use Rattle.op_matrix.specs.Prelude.{operation_at, matrix_place, same_row, same_matrix, hex_frame}
use Rattle.op_matrix.proofs.Frames.{also, either, three_told, same_entry_true, plain_test, plain_told}
use Rattle.op_matrix.proofs.Products.{product_code, frame_code}
use Rattle.op_matrix.proofs.Hexagonal.{implies, hex_told}
use Rattle.magnetic_groups.specs.Sets.{In, HaveFrame, Spanned}
use Rattle.group_closing.proofs.Reaching.{spanned_times, spanned_plain, spanned_hex}
use Rattle.group_closing.proofs.Spans.{span_product, span_member}

-- ---- hexagonal, by a test
abbrev SameEntries : Row → Row → Type 0
SameEntries r s = (same_entry r.first s.first ≡ true) × (same_entry r.second s.second ≡ true) ×
    (same_entry r.third s.third ≡ true)

same_entries : (r s : Row) → same_row r s ≡ true → SameEntries r s
same_entries r s e = three_told (same_entry r.first s.first) (same_entry r.second s.second) (same_entry r.third s.third)
    e

same_row_at : (r s : Row) (j : Axis) → same_row r s ≡ true → in_row r j ≡ in_row s j
same_row_at r s x1 e = same_entry_true r.first s.first (same_entries r s e).0
same_row_at r s x2 e = same_entry_true r.second s.second (same_entries r s e).1
same_row_at r s x3 e = same_entry_true r.third s.third (same_entries r s e).2

abbrev SameRows : Operation → Operation → Type 0
SameRows g k = (same_row g.row_1 k.row_1 ≡ true) × (same_row g.row_2 k.row_2 ≡ true) × (same_row g.row_3 k.row_3 ≡ true)

same_rows : (g k : Operation) → same_matrix g k ≡ true → SameRows g k
same_rows g k e = three_told (same_row g.row_1 k.row_1) (same_row g.row_2 k.row_2) (same_row g.row_3 k.row_3) e

same_matrix_at : (g k : Operation) → same_matrix g k ≡ true → SameMatrix g k
same_matrix_at g k e x1 j = same_row_at g.row_1 k.row_1 j (same_rows g k e).0
same_matrix_at g k e x2 j = same_row_at g.row_2 k.row_2 j (same_rows g k e).1
same_matrix_at g k e x3 j = same_row_at g.row_3 k.row_3 j (same_rows g k e).2

abbrev table_matrix : Operation → Operation
table_matrix g = operation_at (matrix_place g) false

abbrev hex_test : Operation → Bool
hex_test g =
    also (nat_lt (matrix_place g) 64)
    (also (hex_frame (frame_code (matrix_place g))) (same_matrix (table_matrix g) g))

same_hexagonal : (g k : Operation) → SameMatrix g k → IsHexagonal g → IsHexagonal k
same_hexagonal g k e (r, d, m, t, q, p, s) = (r, d, m, t, q, p, λ i j. s i j ∙ e i j)

hex_tested : (g : Operation) → hex_test g ≡ true → IsHexagonal g
hex_tested g e =
    let t : (_ ≡ true) × (_ ≡ true) × (_ ≡ true) =
    three_told (nat_lt (matrix_place g) 64) (hex_frame (frame_code (matrix_place g)))
    (same_matrix (table_matrix g) g) e in
    same_hexagonal (table_matrix g) g (same_matrix_at (table_matrix g) g t.2)
    (hex_told (matrix_place g) false (ltb-true (matrix_place g) 64 t.0) t.1)

-- ---- a test of each operator, primed or not
abbrev pub passes : (Operation → Bool) → Option Operation → Bool
passes p (Some g) = p g
passes p None = true

abbrev pub each_operator : (Operation → Bool) → Setting → List Operator → Bool
each_operator p s [] = true
each_operator p s (o ∷ os) =
    also (passes p (operation_of o.kind (turned_to s o.direction) false))
    (also (passes p (operation_of o.kind (turned_to s o.direction) true)) (each_operator p s os))

either_mark : (p : Option Operation → Bool) (k : OpKind) (d : Direction) (b : Bool) →
    p (operation_of k d false) ≡ true → p (operation_of k d true) ≡ true → p (operation_of k d b) ≡ true
either_mark p k d true e f = f
either_mark p k d false e f = e

listed_pass : (p : Operation → Bool) (o : Option Operation) (g : Operation) → passes p o ≡ true →
    Contains (listed o) g →
    p g ≡ true
listed_pass p None g e c = absurd (none_held g c)
listed_pass p (Some a) g e c =
    elim (Contains-push_cases [] a g c) [ inl h ↦ absurd (none_held g h) | inr q ↦ subst (λ x. p x ≡ true) q e ]

pub operators_pass : (p : Operation → Bool) (s : Setting) (os : List Operator) (primes : ℕ) (g : Operation) →
    each_operator p s os ≡ true → Contains (operations_of s primes os) g → p g ≡ true
operators_pass p s [] primes g e c = absurd (none_held g c)
operators_pass p s (o ∷ os) primes g e c =
    let t : (_ ≡ true) × (_ ≡ true) × (_ ≡ true) =
    three_told (passes p (operation_of o.kind (turned_to s o.direction) false))
    (passes p (operation_of o.kind (turned_to s o.direction) true)) (each_operator p s os) e in
    elim (Contains-append_cases (listed (operation_of o.kind (turned_to s o.direction) (primes % 2 == 1)))
    (operations_of s (primes / 2) os) g c) [
      | inl h ↦ listed_pass p (operation_of o.kind (turned_to s o.direction) (primes % 2 == 1)) g
          (either_mark (passes p) o.kind (turned_to s o.direction) (primes % 2 == 1) t.0 t.1) h
      | inr h ↦ operators_pass p s os (primes / 2) g t.2 h
    ]

-- ---- the first operator, if its second or its fourth power is 3z
abbrev square : Operation → Operation
square g = operation_at (product_code (matrix_place g) (matrix_place g)) false

abbrev turn_test : Option Operation → Bool
turn_test None = false
turn_test (Some g) =
    either (product_test g g three_z) (also (product_test g g (square g)) (product_test (square g) (square g) three_z))

abbrev turns : Setting → List Operator → Bool
turns s [] = false
turns s (o ∷ os) =
    also (turn_test (operation_of o.kind (turned_to s o.direction) false))
    (turn_test (operation_of o.kind (turned_to s o.direction) true))

abbrev TurnIn : List Operation → Type 0
TurnIn gens = (g : Operation) × Contains gens g × (turn_test (Some g) ≡ true)

turn_listed : (o : Option Operation) (rest : List Operation) → turn_test o ≡ true → TurnIn (listed o ++ rest)
turn_listed None rest e = cc
turn_listed (Some g) rest e = (g, (0, omega arith, refl), e)

first_turn : (s : Setting) (os : List Operator) (primes : ℕ) → turns s os ≡ true → TurnIn (operations_of s primes os)
first_turn s [] primes e = cc
first_turn s (o ∷ os) primes e =
    let t : (_ ≡ true) × (_ ≡ true) =
    both (turn_test (operation_of o.kind (turned_to s o.direction) false))
    (turn_test (operation_of o.kind (turned_to s o.direction) true)) e in
    turn_listed (operation_of o.kind (turned_to s o.direction) (primes % 2 == 1)) (operations_of s (primes / 2) os)
    (either_mark turn_test o.kind (turned_to s o.direction) (primes % 2 == 1) t.0 t.1)

turn_spanned : (gens : List Operation) → HaveFrame gens → TurnIn gens → Spanned gens three_z
turn_spanned gens f (g, c, e) =
    elim (either_told (product_test g g three_z) (also (product_test g g (square g))
    (product_test (square g) (square g) three_z)) e) [
      | inl h ↦ spanned_times gens g g three_z c (span_member gens g f c) (product_tested g g three_z h)
      | inr h ↦ twice (both (product_test g g (square g)) (product_test (square g) (square g) three_z) h)
    ]
  where
    twice : (product_test g g (square g) ≡ true) × (product_test (square g) (square g) three_z ≡ true) →
        Spanned gens three_z
    twice (p, q) =
        let s : Spanned gens (square g) =
        spanned_times gens g g (square g) c (span_member gens g f c) (product_tested g g (square g) p) in
        let r : (k : Operation) × Spanned gens k × IsProduct (square g) (square g) k =
        span_product gens f s.0 (square g) (square g) s.1 s.2 s in
        subst (Spanned gens) (product_unique (square g) (square g) r.0 three_z r.2
        (product_tested (square g) (square g) three_z q)) r.1

-- ---- all parents in all their settings
abbrev framed_test : Setting → ℕ → Bool
framed_test s n =
    implies (takes_setting n s)
    (either (each_operator plain_test s (parent_operators n))
    (also (each_operator hex_test s (parent_operators n)) (turns s (parent_operators n))))

framed_all : (s : Setting) → all_below 43 (framed_test s) ≡ true
unfolding parent_operators operation_at matrix_place frame_code product_code xor
framed_all Default = refl
framed_all X = refl
framed_all Z = refl
framed_all XY = refl
framed_all D = refl
framed_all P = refl

-- ---- time reversal
abbrev pub grey_tail : Bool → List Operation
grey_tail b = if b then reversal ∷ [] else []

pub tail_is : (b : Bool) (g : Operation) → Contains (grey_tail b) g → reversal ≡ g
tail_is true g c = elim (Contains-push_cases [] reversal g c) [ inl h ↦ absurd (none_held g h) | inr q ↦ q ]
tail_is false g c = absurd (none_held g c)

pub reversal_plain : IsPlain reversal
reversal_plain = plain_told reversal refl

reversal_hexagonal : IsHexagonal reversal
unfolding operation_at matrix_place frame_code
reversal_hexagonal = hex_tested reversal refl

-- ---- the generators of a symbol
abbrev pub SymbolFrame : List Operation → Type 0
SymbolFrame gens = AllOf (In gens) IsPlain ⊎ (AllOf (In gens) IsHexagonal × Spanned gens three_z)

each_told : (s : Setting) (os : List Operator) (primes : ℕ) (b : Bool) (p : Operation → Bool) (F : Operation → Type 0) →
    ((g : Operation) → p g ≡ true → F g) → F reversal → each_operator p s os ≡ true →
    AllOf (In (operations_of s primes os ++ grey_tail b)) F
each_told s os primes b p F told r e g c =
    elim (Contains-append_cases (operations_of s primes os) (grey_tail b) g c) [
      | inl h ↦ told g (operators_pass p s os primes g e h)
      | inr h ↦ subst F (tail_is b g h) r
    ]

frame_by : (s : Setting) (os : List Operator) (primes : ℕ) (b : Bool) →
    either (each_operator plain_test s os) (also (each_operator hex_test s os) (turns s os)) ≡ true →
    SymbolFrame (operations_of s primes os ++ grey_tail b)
frame_by s os primes b e =
    elim (either_told (each_operator plain_test s os) (also (each_operator hex_test s os) (turns s os)) e) [
      | inl h ↦ inl (each_told s os primes b plain_test IsPlain plain_told reversal_plain h)
      | inr h ↦ hexagonal (both (each_operator hex_test s os) (turns s os) h)
    ]
  where
    gens : List Operation
    gens = operations_of s primes os ++ grey_tail b

    hexagonal : (each_operator hex_test s os ≡ true) × (turns s os ≡ true) →
        SymbolFrame (operations_of s primes os ++ grey_tail b)
    hexagonal (p, q) =
        let f : AllOf (In (operations_of s primes os ++ grey_tail b)) IsHexagonal =
        each_told s os primes b hex_test IsHexagonal hex_tested reversal_hexagonal p in
        let t : TurnIn (operations_of s primes os) = first_turn s os primes q in
        inr (
          f,
          turn_spanned (operations_of s primes os ++ grey_tail b) (inr f)
              (t.0, Contains-append_left (operations_of s primes os) (grey_tail b) t.0 t.1, t.2),
        )

pub symbol_frame : (t : GroupSymbol) → IsGroupSymbol t → SymbolFrame (generators t)
unfolding generators
symbol_frame t i =
    frame_by t.setting (parent_operators t.parent) t.primes t.grey
    (implied (takes_setting t.parent t.setting) _
    (below_told 43 (framed_test t.setting) (framed_all t.setting) t.parent (let h = i.last in omega arith)) i.setting)

pub generators_framed : (t : GroupSymbol) → IsGroupSymbol t → HaveFrame (generators t)
generators_framed t i = by (symbol_frame t i)
  where
    by : SymbolFrame (generators t) → HaveFrame (generators t)
    by (inl h) = inl h
    by (inr h) = inr h.0

-- the group of each symbol is framed
pub group_framed : (t : GroupSymbol) → IsGroupSymbol t → IsFramed (InGroup t)
group_framed t i = by (symbol_frame t i)
  where
    out : {a c : Operation} → Some a ≡ Some c → a ≡ c
    out e = cc

    by : SymbolFrame (generators t) → IsFramed (InGroup t)
    by (inl h) = inl (spanned_plain (generators t) h)
    by (inr h) = inr (spanned_hex (generators t) h.0, λ g e. subst (InGroup t) (out e) h.1)

-- ---- what the group built for a symbol is
pub built : (t : GroupSymbol) (gens xs : List Operation) → gens ≡ generators t →
    IsListing comes_before (Spanned gens) xs →
    IsListing comes_before (InGroup t) xs
built t gens xs e l = subst (λ y. IsListing comes_before (Spanned y) xs) e l

pub built_framed : (t : GroupSymbol) (xs : List Operation) → IsGroupSymbol t → IsListing comes_before (InGroup t) xs →
    IsFramed (In xs)
built_framed t xs i l = by (group_framed t i)
  where
    by : IsFramed (InGroup t) → IsFramed (In xs)
    by (inl h) = inl (λ g c. h g ((l.members g).0 c))
    by (inr h) = inr ((λ g c. h.0 g ((l.members g).0 c)), λ g e. (l.members g).1 (h.1 g e))

pub built_refused : (t : GroupSymbol) (xs : List Operation) (r : Operation) (grey b : Bool) →
    IsListing comes_before (InGroup t) xs → r ≡ reversal → grey ≡ t.grey → (IsTrue b ↔ Contains xs r) →
    grey ≡ false → b ≡ true → ¬ IsAccepted t
built_refused t xs r grey b l e f h p q (inl a) = false≢true (sym p ∙ f ∙ a)
built_refused t xs r grey b l e f h p q (inr a) = a ((l.members reversal).0 (subst (Contains xs) e (h.0 q)))

pub built_accepted : (t : GroupSymbol) (xs : List Operation) (r : Operation) (b : Bool) →
    IsListing comes_before (InGroup t) xs → r ≡ reversal → (IsTrue b ↔ Contains xs r) → b ≡ false → IsAccepted t
built_accepted t xs r b l e h q =
    inr (λ s. false≢true (sym q ∙ h.1 (subst (Contains xs) (sym e) ((l.members reversal).1 s))))
