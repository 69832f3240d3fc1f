-- The matrices of a symbol's group are those of its parent in its setting.
--   is_in, matrices_of    the matrices of a parent's group, by computing
--   Within, group_within    the matrices of a symbol's group are among them
--   both_marks    both forms of a matrix, and time reversal alone
--   any_mark      with time reversal alone a group holds both forms
--   same_matrices    all of them are matrices of the symbol's group
--   rows_fit, row_fits    the list of oriented parents, by computing
use Rattle.list_laws.proofs.Kit.{[], ◌≡◌, ℕ, zero, suc, ◌+◌, ◌*◌, ◌^◌, ◌<◌, ◌≤◌, Bool, true, false, cond, List, ◌∷◌, ◌++◌, refl, ap, sym, ◌∙◌, arith, subst}
use Rattle.list_laws.proofs.Kit.{lit<, inl, inr, nat_tests, Contains-append_cases, eqb-true, false≢true}
use Rattle.std.specs.Prelude.{Contains, ◌↔◌, nat_eq, nat_le, get_or, map}
use Rattle.list_laws.proofs.Prelude.{each_from, each_push, all_below, below_told, implied, both}
use mathlib.Core.Bool.{xor}
use Rattle.tensor_defs.specs.declared.Setting.{Setting}
use Rattle.tensor_defs.specs.declared.Setting.TheVariants.{Default, X, Z, XY, D, P}
use Rattle.tensor_defs.specs.Prelude.{Each, Operation, IsProduct, identity, reversal, HaveCommonFrame, GroupSymbol, IsGroupSymbol, parent_operators}
use Rattle.tensor_defs.specs.Prelude.{operations_of, takes_setting, generators, InGroup}
use Rattle.tensor_laws.proofs.Prelude.{generated_within, product_unique, product_assoc}
use Rattle.op_matrix.specs.Prelude.{HasFrame, place_at, marked, operation_at, matrix_place}
use Rattle.op_matrix.specs.declared.entry.Frame.{Frame}
use Rattle.op_matrix.specs.declared.entry.Frame.TheVariants.{Plain, Hexagonal, Both}
use Rattle.op_matrix.proofs.Frames.{also}
use Rattle.op_matrix.proofs.Hexagonal.{implies, identity_at, common_of}
use Rattle.op_matrix.proofs.Listed.{plain_listed, hex_listed, plain_one}
use Rattle.op_matrix.proofs.Products.{product_code, frame_code, common, product_at, product_code_below}
use Rattle.magnetic_groups.specs.Sets.{HasForm, In, IsGroup, InverseIn, HaveFrame}
use Rattle.magnetic_groups.proofs.Cosets.{group_inverse, group_product}
use Rattle.group_closing.proofs.Spans.{member_framed}
use Rattle.group_closing.proofs.Reaching.{spanned_one}
use Rattle.group_closing.proofs.Spans.{span_common, span_product, span_member}
use Rattle.magnetic_groups.proofs.SymbolFrames.{each_operator, operators_pass, grey_tail, tail_is, reversal_plain, generators_framed}
use Rattle.group_names.specs.LookUps.{row_of}
use Rattle.group_names.proofs.Forms.{partner, operators_part}

-- ---- the matrices of a parent's group, by computing
abbrev pub is_in : List ℕ → ℕ → Bool
is_in [] c = false
is_in (k ∷ ks) c = cond (nat_eq k c) true (is_in ks c)

abbrev grown : List ℕ → ℕ → List ℕ → List ℕ
grown [] l ls = ls
grown (s ∷ ss) l ls =
    let p : ℕ = product_code s l in
    grown ss l (cond (is_in ls p) ls (ls ++ p ∷ []))

abbrev closed : ℕ → ℕ → List ℕ → List ℕ → List ℕ
closed zero k ss ls = ls
closed (suc n) k ss ls = closed n (k + 1) ss (grown ss (get_or ls k 0) ls)

unfoldable pub matrices_of : ℕ → Setting → List ℕ
matrices_of n s = closed 48 0 (map matrix_place (operations_of s 0 (parent_operators n))) (0 ∷ [])

abbrev kept_at : List ℕ → ℕ → ℕ → Bool
kept_at ls c i = implies (is_in ls i) (also (common (frame_code c) (frame_code i)) (is_in ls (product_code c i)))

abbrev kept_by : List ℕ → Operation → Bool
kept_by ls g = all_below 64 (kept_at ls (matrix_place g))

abbrev test_fits : Setting → ℕ → List ℕ → Bool
test_fits s n ls =
    also (is_in ls 0) (also (kept_by ls reversal) (each_operator (kept_by ls) s (parent_operators n)))

abbrev matrices_test : Setting → ℕ → Bool
matrices_test s n = implies (takes_setting n s) (test_fits s n (matrices_of n s))

matrices_all : (s : Setting) → all_below 43 (matrices_test s) ≡ true
unfolding parent_operators operation_at matrix_place frame_code product_code matrices_of
matrices_all Default = refl
matrices_all X = refl
matrices_all Z = refl
matrices_all XY = refl
matrices_all D = refl
matrices_all P = refl

record Fits (s : Setting) (n : ℕ) (ls : List ℕ) : Type 0 where
  pub one : is_in ls 0 ≡ true
  pub reversed : kept_by ls reversal ≡ true
  pub operators : each_operator (kept_by ls) s (parent_operators n) ≡ true

fits_by : (s : Setting) (n : ℕ) (ls : List ℕ) → test_fits s n ls ≡ true → Fits s n ls
fits_by s n ls e =
    let a : (_ ≡ true) × (_ ≡ true) = both (is_in ls 0) _ e in
    let b : (_ ≡ true) × (_ ≡ true) = both (kept_by ls reversal) _ a.1 in
    record { one = a.0; reversed = b.0; operators = b.1 }

fits_at : (s : Setting) (n : ℕ) → n ≤ 42 → takes_setting n s ≡ true → Fits s n (matrices_of n s)
fits_at s n h t = fits_by s n (matrices_of n s) (implied (takes_setting n s) _ (below_told 43 (matrices_test s) (matrices_all s) n (omega arith)) t)

-- ---- the matrices of a symbol's group are among them
abbrev pub Within : List ℕ → Operation → Type 0
Within ls k = (c : ℕ) × (c < 64) × (is_in ls c ≡ true) × (k ≡ operation_at c k.primed)

abbrev pub At : Operation → Type 0
At g = (c : ℕ) × (c < 64) × (g ≡ operation_at c g.primed)

pub framed_at : (g : Operation) → HasFrame g → At g
framed_at g (inl f) = let a = plain_listed g f in (a.0, a.1, a.3)
framed_at g (inr f) = let a = hex_listed g f in (a.0, a.1, a.3)

matrix_at : (g : Operation) (a : At g) → matrix_place g ≡ a.0
matrix_at g a = ap matrix_place a.2 ∙ place_at a.0 g.primed a.1

mark_is : (c : ℕ) (q : Bool) → operation_at c q ≡ operation_at c (operation_at c q).primed
unfolding operation_at
mark_is c q = refl

kept_step : (ls : List ℕ) (s l : Operation) → At s → kept_by ls s ≡ true → Within ls l → (m : Operation) × Within ls m × IsProduct s l m
kept_step ls s l a e w =
    let t : kept_at ls a.0 w.0 ≡ true = subst (λ c. kept_at ls c w.0 ≡ true) (matrix_at s a) (below_told 64 (kept_at ls (matrix_place s)) e w.0 w.1) in
    let u : (common (frame_code a.0) (frame_code w.0) ≡ true) × (is_in ls (product_code a.0 w.0) ≡ true) = both (common (frame_code a.0) (frame_code w.0)) (is_in ls (product_code a.0 w.0)) (implied (is_in ls w.0) _ t w.2) in
    let m : Operation = operation_at (product_code a.0 w.0) (xor s.primed l.primed) in
    let p : IsProduct (operation_at a.0 s.primed) (operation_at w.0 l.primed) m = product_at a.0 w.0 s.primed l.primed (xor s.primed l.primed) a.1 w.1 u.0 refl in
    (m, (product_code a.0 w.0, product_code_below a.0 w.0 a.1 w.1, u.1, mark_is (product_code a.0 w.0) (xor s.primed l.primed)), subst (λ x. IsProduct x l m) (sym a.2) (subst (λ x. IsProduct (operation_at a.0 s.primed) x m) (sym w.3) p))

pub reversal_at : reversal ≡ operation_at 0 true
unfolding operation_at
reversal_at = refl

generator_kept : (t : GroupSymbol) (ls : List ℕ) → Fits t.setting t.parent ls → (g : Operation) → Contains (generators t) g → kept_by ls g ≡ true
unfolding generators
generator_kept t ls f g c =
    elim (Contains-append_cases (operations_of t.setting t.primes (parent_operators t.parent)) (grey_tail t.grey) g c) [
      | inl h ↦ operators_pass (kept_by ls) t.setting (parent_operators t.parent) t.primes g f.operators h
      | inr h ↦ subst (λ x. kept_by ls x ≡ true) (tail_is t.grey g h) f.reversed
    ]

pub group_within : (t : GroupSymbol) → IsGroupSymbol t → (k : Operation) → InGroup t k → Within (matrices_of t.parent t.setting) k
group_within t i =
    let f : Fits t.setting t.parent (matrices_of t.parent t.setting) = fits_at t.setting t.parent i.last i.setting in
    let ls : List ℕ = matrices_of t.parent t.setting in
    generated_within (λ g. Contains (generators t) g) (Within (matrices_of t.parent t.setting)) (0, lit< tt, f.one, identity_at)
    (λ s l c w. kept_step (matrices_of t.parent t.setting) s l (framed_at s (member_framed (generators t) s (generators_framed t i) c)) (generator_kept t (matrices_of t.parent t.setting) f s c) w)

-- ---- both forms of a matrix
times_one : all_below 64 (λ c. nat_eq (product_code c 0) c) ≡ true
unfolding product_code
times_one = refl

zero_common : (f : Frame) → common f (frame_code 0) ≡ true
unfolding frame_code
zero_common Plain = refl
zero_common Hexagonal = refl
zero_common Both = refl

mark : true ≡ xor false true
unfolding xor
mark = refl

no_mark : false ≡ xor true true
unfolding xor
no_mark = refl

pub both_marks : (xs : List Operation) (g h : Operation) (c : ℕ) → IsGroup xs → c < 64 → Contains xs g → Contains xs h → g ≡ operation_at c false → h ≡ operation_at c true → Contains xs reversal
both_marks xs g h c i l a b p q =
    let m : product_code c 0 ≡ c = eqb-true (product_code c 0) c (below_told 64 (λ c. nat_eq (product_code c 0) c) times_one c l) in
    let t : IsProduct (operation_at c false) (operation_at 0 true) (operation_at (product_code c 0) true) = product_at c 0 false true true l (lit< tt) (zero_common (frame_code c)) mark in
    let u : IsProduct g reversal h = subst (λ x. IsProduct x reversal h) (sym p) (subst (λ x. IsProduct (operation_at c false) x h) (sym reversal_at) (subst (IsProduct (operation_at c false) (operation_at 0 true)) (ap (λ x. operation_at x true) m ∙ sym q) t)) in
    let v : InverseIn (In xs) g = group_inverse xs i g a in
    group_product xs v.0 h reversal i v.1 b (product_assoc v.0 g reversal identity reversal h v.3 reversal_one u)
  where
    reversal_one : IsProduct identity reversal reversal
    reversal_one = (plain_one reversal reversal_plain).0

-- ---- the matrices are those of the symbol's group
module _ (t : GroupSymbol) (i : IsGroupSymbol t) where
  record IsHeld (c : ℕ) : Type 0 where
    pub below : c < 64
    pub mark : Bool
    pub held : InGroup t (operation_at c mark)

  times_held : (s l : ℕ) → IsHeld s → IsHeld l → IsHeld (product_code s l)
  times_held s l a b =
      let g : Operation = operation_at s a.mark in
      let h : Operation = operation_at l b.mark in
      let f : HaveFrame (generators t) = generators_framed t i in
      let c : HaveCommonFrame g h = span_common (generators t) g h f a.held b.held in
      let q : Bool = xor a.mark b.mark in
      let p : IsProduct g h (operation_at (product_code s l) q) =
      product_at s l a.mark b.mark (xor a.mark b.mark) a.below b.below (common_of s l a.mark b.mark a.below b.below c) refl in
      let r = span_product (generators t) f a.held.0 g h a.held.1 a.held.2 b.held in
      record {
        below = product_code_below s l a.below b.below;
        mark = q;
        held = subst (InGroup t) (product_unique g h r.0 (operation_at (product_code s l) q) r.2 p) r.1;
      }

  one_held : IsHeld 0
  one_held = record { below = lit< tt; mark = false; held = subst (InGroup t) identity_at (spanned_one (generators t)) }

  grown_held : (ss : List ℕ) (l : ℕ) (ls : List ℕ) → Each IsHeld ss → IsHeld l → Each IsHeld ls → Each IsHeld (grown ss l ls)
  grown_held [] l ls a o e = e
  grown_held (s ∷ ss) l ls a o e =
      grown_held ss l (cond (is_in ls (product_code s l)) ls (ls ++ product_code s l ∷ [])) a.1 o (by (is_in ls (product_code s l)))
    where
      by : (b : Bool) → Each IsHeld (cond b ls (ls ++ product_code s l ∷ []))
      by true = e
      by false = each_push IsHeld ls (product_code s l) e (times_held s l a.0 o)

  held_at : (ls : List ℕ) (k : ℕ) → Each IsHeld ls → IsHeld (get_or ls k 0)
  held_at [] k e = one_held
  held_at (l ∷ ls) zero e = e.0
  held_at (l ∷ ls) (suc k) e = held_at ls k e.1

  closed_held : (n k : ℕ) (ss ls : List ℕ) → Each IsHeld ss → Each IsHeld ls → Each IsHeld (closed n k ss ls)
  closed_held zero k ss ls a e = e
  closed_held (suc n) k ss ls a e = closed_held n (k + 1) ss (grown ss (get_or ls k 0) ls) a (grown_held ss (get_or ls k 0) ls a (held_at ls k e) e)

  matrix_same : (g : Operation) (b : Bool) → matrix_place (marked g b) ≡ matrix_place g
  unfolding matrix_place
  matrix_same g b = refl

  operator_held : (g : Operation) → Contains (operations_of t.setting 0 (parent_operators t.parent)) g → IsHeld (matrix_place g)
  operator_held g c =
      let r = partner t.setting (parent_operators t.parent) t.primes g c in
      let m : Contains (generators t) (marked g r.0) = operators_part t (marked g r.0) r.1 in
      let f : HaveFrame (generators t) = generators_framed t i in
      let a : At (marked g r.0) = framed_at (marked g r.0) (member_framed (generators t) (marked g r.0) f m) in
      let e : a.0 ≡ matrix_place g = sym (matrix_at (marked g r.0) a) ∙ matrix_same g r.0 in
      record {
        below = subst (λ x. x < 64) e a.1;
        mark = r.0;
        held = subst (λ x. InGroup t (operation_at x r.0)) e (subst (InGroup t) a.2 (span_member (generators t) (marked g r.0) f m));
      }

  each_matrix : (gs : List Operation) → Each (λ g. IsHeld (matrix_place g)) gs → Each IsHeld (map matrix_place gs)
  each_matrix [] e = tt
  each_matrix (g ∷ gs) e = (e.0, each_matrix gs e.1)

  all_held : Each IsHeld (matrices_of t.parent t.setting)
  unfolding matrices_of
  all_held =
      let os : List Operation = operations_of t.setting 0 (parent_operators t.parent) in
      closed_held 48 0 (map matrix_place os) (0 ∷ []) (each_matrix os (each_from (λ g. IsHeld (matrix_place g)) os operator_held)) (one_held, tt)

  in_held : (ls : List ℕ) (c : ℕ) → Each IsHeld ls → is_in ls c ≡ true → IsHeld c
  in_held [] c e h = absurd (false≢true h)
  in_held (l ∷ ls) c e h = by (nat_eq l c) refl h (in_held ls c e.1)
    where
      by : (b : Bool) → nat_eq l c ≡ b → cond b true (is_in ls c) ≡ true → (is_in ls c ≡ true → IsHeld c) → IsHeld c
      by true s h r = subst IsHeld (eqb-true l c s) e.0
      by false s h r = r h

  pub same_matrices : (c : ℕ) → c < 64 → (is_in (matrices_of t.parent t.setting) c ≡ true) ↔ HasForm (InGroup t) c
  same_matrices c l = (
    λ h. let o : IsHeld c = in_held (matrices_of t.parent t.setting) c all_held h in (o.mark, o.held),
    λ f. let w = group_within t i (operation_at c f.0) f.1 in
        let e : w.0 ≡ c = sym (matrix_at (operation_at c f.0) (w.0, w.1, w.3)) ∙ place_at c f.0 l in
        subst (λ x. is_in (matrices_of t.parent t.setting) x ≡ true) e w.2,
  )

  turned : (c : ℕ) (p q : Bool) → c < 64 → InGroup t reversal → InGroup t (operation_at c p) → q ≡ xor p true → InGroup t (operation_at c q)
  turned c p q l r h e =
      let m : product_code c 0 ≡ c = eqb-true (product_code c 0) c (below_told 64 (λ c. nat_eq (product_code c 0) c) times_one c l) in
      let a : IsProduct (operation_at c p) (operation_at 0 true) (operation_at (product_code c 0) q) = product_at c 0 p true q l (lit< tt) (zero_common (frame_code c)) e in
      let b : IsProduct (operation_at c p) reversal (operation_at c q) =
      subst (λ x. IsProduct (operation_at c p) x (operation_at c q)) (sym reversal_at) (subst (λ x. IsProduct (operation_at c p) (operation_at 0 true) (operation_at x q)) m a) in
      let s = span_product (generators t) (generators_framed t i) h.0 (operation_at c p) reversal h.1 h.2 r in
      subst (InGroup t) (product_unique (operation_at c p) reversal s.0 (operation_at c q) s.2 b) s.1

  -- with time reversal alone both forms of a matrix
  pub any_mark : (c : ℕ) (p q : Bool) → c < 64 → InGroup t reversal → InGroup t (operation_at c p) → InGroup t (operation_at c q)
  any_mark c true true l r h = h
  any_mark c false false l r h = h
  any_mark c false true l r h = turned c false true l r h mark
  any_mark c true false l r h = turned c true false l r h no_mark

-- ---- the list of oriented parents, by computing
abbrev pub digits_of : (ℕ → Bool) → ℕ → ℕ
digits_of p zero = 0
digits_of p (suc n) = cond (p n) 1 0 * 2 ^ n + digits_of p n

abbrev row_test : ℕ → Setting → ℕ → List ℕ → Bool
row_test n s m ls = also (nat_le 1 n) (also (nat_le n 42) (also (takes_setting n s) (nat_eq m (digits_of (is_in ls) 64))))

abbrev row_right : ℕ → Bool
row_right k = row_test (row_of k).parent (row_of k).setting (row_of k).matrices (matrices_of (row_of k).parent (row_of k).setting)

rows_right : all_below 61 row_right ≡ true
unfolding row_of parent_operators operation_at matrix_place frame_code product_code matrices_of
rows_right = refl

pub record IsRow (n : ℕ) (s : Setting) (m : ℕ) : Type 0 where
  pub first : 1 ≤ n
  pub last : n ≤ 42
  pub takes : takes_setting n s ≡ true
  pub digits : m ≡ digits_of (is_in (matrices_of n s)) 64

le_told : (x y : ℕ) → nat_le x y ≡ true → x ≤ y
le_told x y e = grind (arith, nat_tests)

row_by : (n : ℕ) (s : Setting) (m : ℕ) → row_test n s m (matrices_of n s) ≡ true → IsRow n s m
row_by n s m e =
    let a : (_ ≡ true) × (_ ≡ true) = both (nat_le 1 n) _ e in
    let b : (_ ≡ true) × (_ ≡ true) = both (nat_le n 42) _ a.1 in
    let c : (_ ≡ true) × (_ ≡ true) = both (takes_setting n s) _ b.1 in
    record { first = le_told 1 n a.0; last = le_told n 42 b.0; takes = c.0; digits = eqb-true _ _ c.1 }

pub row_at : (k : ℕ) → k < 61 → IsRow (row_of k).parent (row_of k).setting (row_of k).matrices
row_at k h = row_by (row_of k).parent (row_of k).setting (row_of k).matrices (below_told 61 row_right rows_right k h)
