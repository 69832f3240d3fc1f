-- What a test of one symbol tells.
use Rattle.list_laws.proofs.Kit.{◌≡◌, ℕ, ◌<◌, ◌≤◌, Bool, true, false, List, [], ◌∷◌, length, refl, ap, sym, ◌∙◌, arith, subst, inl, inr, false≢true}
use Rattle.list_laws.proofs.Kit.{Contains-append_right}
use Rattle.std.specs.Prelude.{Contains, ◌↔◌, IsTrue, slice_index_or, Some, None}
use mathlib.Core.Bool.{beq, not}
use Rattle.list_laws.proofs.Tests.{same_truth}
use Rattle.tensor_defs.specs.Prelude.{Operation, reversal, GroupSymbol, IsGroupSymbol, generators, operations_of, parent_operators, InGroup, IsAccepted}
use Rattle.tensor_defs.specs.Prelude.{IsBelow, IsNamed}
use Rattle.tensor_laws.proofs.Products.{generated_within}
use Rattle.op_matrix.specs.Table.{operation_at}
use Rattle.magnetic_groups.specs.Sets.{HasForm, In, IsGroup}
use Rattle.group_closing.proofs.Spans.{member_framed}
use Rattle.group_closing.proofs.Spans.{span_member}
use Rattle.magnetic_groups.proofs.SymbolFrames.{generators_framed, grey_tail}
use Rattle.group_names.specs.LookUps.{IsFirstNamed, HoldsAll, SameForms}
use Rattle.group_names.proofs.Matrices.{At, framed_at, both_marks, any_mark}

-- a group with the generators holds the symbol's group
pub below_told : (xs : List Operation) (t : GroupSymbol) → IsGroup xs → HoldsAll xs (generators t) → IsBelow (InGroup t) (In xs)
below_told xs t i h = generated_within (λ g. Contains (generators t) g) (In xs) i.one (λ s l p q. i.closed s l (h s p) q)

-- a named symbol's generators are elements
pub named_holds : (xs : List Operation) (t : GroupSymbol) → IsGroupSymbol t → IsNamed t (In xs) → HoldsAll xs (generators t)
named_holds xs t s n g c = (n.1 g).0 (span_member (generators t) g (generators_framed t s) c)

grey_held : (t : GroupSymbol) → t.grey ≡ true → Contains (generators t) reversal
unfolding generators
grey_held t e =
    Contains-append_right (operations_of t.setting t.primes (parent_operators t.parent)) (grey_tail t.grey) reversal
    (subst (λ x. Contains (grey_tail x) reversal) (sym e) (0, omega arith, refl))

-- the group of a grey symbol holds time reversal alone
grey_reversal : (t : GroupSymbol) → IsGroupSymbol t → t.grey ≡ true → InGroup t reversal
grey_reversal t i e = span_member (generators t) reversal (generators_framed t i) (grey_held t e)

-- a symbol is grey exactly where its group holds time reversal alone
pub grey_alike : (xs : List Operation) (t : GroupSymbol) → IsGroupSymbol t → IsNamed t (In xs) → (t.grey ≡ true) ↔ Contains xs reversal
grey_alike xs t i (a, s) = (λ e. (s reversal).0 (grey_reversal t i e), λ c. by a c)
  where
    by : IsAccepted t → Contains xs reversal → t.grey ≡ true
    by (inl e) c = e
    by (inr n) c = absurd (n ((s reversal).1 c))

-- where both hold the same matrices, a symbol whose generators are elements names the group
pub named_by : (xs : List Operation) (t : GroupSymbol) → IsGroup xs → IsGroupSymbol t → SameForms (InGroup t) (In xs) → ((t.grey ≡ true) ↔ Contains xs reversal) → HoldsAll xs (generators t) → IsNamed t (In xs)
named_by xs t g i w r h = (accepted t.grey refl, λ k. (below_told xs t g h k, above k))
  where
    accepted : (b : Bool) → t.grey ≡ b → IsAccepted t
    accepted true e = inl e
    accepted false e = inr (λ k. false≢true (sym e ∙ r.1 (below_told xs t g h reversal k)))

    -- the form of an element that the symbol's group holds is the element, or time reversal alone is there
    form : (c : ℕ) (p q b : Bool) → c < 64 → t.grey ≡ b → InGroup t (operation_at c p) → Contains xs (operation_at c q) → InGroup t (operation_at c q)
    form c p q true l e a x = any_mark t i c p q l (grey_reversal t i e) a
    form c true true false l e a x = a
    form c false false false l e a x = a
    form c true false false l e a x = absurd (false≢true (sym e ∙ r.1 (both_marks xs (operation_at c false) (operation_at c true) c g l x (below_told xs t g h (operation_at c true) a) refl refl)))
    form c false true false l e a x = absurd (false≢true (sym e ∙ r.1 (both_marks xs (operation_at c false) (operation_at c true) c g l (below_told xs t g h (operation_at c false) a) x refl refl)))

    above : (k : Operation) → Contains xs k → InGroup t k
    above k x =
        let a : At k = framed_at k (member_framed xs k g.frame x) in
        let y : Contains xs (operation_at a.0 k.primed) = subst (Contains xs) a.2 x in
        let f : HasForm (InGroup t) a.0 = (w a.0 a.1).1 (k.primed, y) in
        subst (InGroup t) (sym a.2) (form a.0 f.0 k.primed t.grey a.1 refl f.1 y)

-- of one symbol
pub one_named : (H : Operation → Type 0) (t u : GroupSymbol) (b : Bool) → u ≡ t → (IsTrue b ↔ IsNamed u H) → b ≡ true → IsFirstNamed H (t ∷ []) (Some u)
one_named H t u b e w h = ([], [], ap (λ x. x ∷ []) (sym e), w.0 h, tt)

pub none_named : (H : Operation → Type 0) (t u : GroupSymbol) (b : Bool) → u ≡ t → (IsTrue b ↔ IsNamed u H) → b ≡ false → IsFirstNamed H (t ∷ []) None
none_named H t u b e w h = (λ n. false≢true (sym h ∙ w.1 (subst (λ x. IsNamed x H) (sym e) n)), tt)

-- ---- the test of a list of operations
pub all_held : (xs gs : List Operation) (n : ℕ) → length gs ≤ n → ((q : ℕ) (d : Operation) → q < n → Contains xs (slice_index_or gs q d)) → HoldsAll xs gs
all_held xs gs n h i g c = let k = c.1 in subst (Contains xs) c.2 (i c.0 g (omega arith))

pub all_told : (xs gs : List Operation) → HoldsAll xs gs → IsTrue true ↔ HoldsAll xs gs
all_told xs gs h = (λ t. h, λ w. refl)

pub outside_told : (xs gs : List Operation) (n : ℕ) (g : Operation) (b : Bool) → n < length gs → g ≡ slice_index_or gs n g → (IsTrue b ↔ Contains xs g) → b ≡ false → IsTrue false ↔ HoldsAll xs gs
outside_told xs gs n g b h at w e = (
  λ t. absurd (false≢true t),
  λ i. absurd (false≢true (sym e ∙ w.1 (i g (n, h, sym at)))),
)

-- ---- the answers of the test
unlike : (a b : Bool) → not (beq a b) ≡ true → ¬ (a ≡ b)
unlike true true e s = cc
unlike true false e s = cc
unlike false true e s = cc
unlike false false e s = cc

alike : (a b : Bool) → not (beq a b) ≡ false → a ≡ b
alike true true e = refl
alike true false e = cc
alike false true e = cc
alike false false e = refl

pub unlike_told : (xs : List Operation) (t : GroupSymbol) (grey has : Bool) (r : Operation) → IsGroupSymbol t → grey ≡ t.grey → (IsTrue has ↔ Contains xs r) → r ≡ reversal → not (beq grey has) ≡ true → IsTrue false ↔ IsNamed t (In xs)
unlike_told xs t grey has r i e w q n = (
  λ x. absurd (false≢true x),
  λ m. let a = grey_alike xs t i m in
      absurd (unlike grey has n (same_truth grey has (λ x. w.1 (subst (Contains xs) (sym q) (a.0 (sym e ∙ x)))) (λ x. e ∙ a.1 (subst (Contains xs) q (w.0 x))))),
)

pub test_told : (xs gens : List Operation) (t : GroupSymbol) (grey has b : Bool) (r : Operation) → IsGroup xs → IsGroupSymbol t → SameForms (InGroup t) (In xs) → grey ≡ t.grey → (IsTrue has ↔ Contains xs r) → r ≡ reversal → not (beq grey has) ≡ false → gens ≡ generators t → (IsTrue b ↔ HoldsAll xs gens) → IsTrue b ↔ IsNamed t (In xs)
test_told xs gens t grey has b r g i s e w q n is held = (
  λ x. named_by xs t g i s (λ y. subst (Contains xs) q (w.0 (sym (alike grey has n) ∙ e ∙ y)), λ y. sym e ∙ alike grey has n ∙ w.1 (subst (Contains xs) (sym q) y)) (subst (HoldsAll xs) is (held.0 x)),
  λ m. held.1 (subst (HoldsAll xs) (sym is) (named_holds xs t i m)),
)

-- ---- the forms of a matrix
