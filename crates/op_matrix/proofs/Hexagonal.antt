-- The hexagonal matrices are those of the table's frame.
--   Listed    an operation of the table with a hexagonal matrix
--   zero_hex, identity_at, listed_product, listed_unique, identity_listed, turns_listed    powers of 6z
--   diagonal_listed    diagonal ones
--   place_same, hex_of    the place is told by the entries
--   hex_told    each hexagonal frame's matrix is a power of 6z times a diagonal one
--   plain_at_of, plain_at_told, diagonal_at_of, diagonal_at_told, common_of    plain and diagonal ones
use Rattle.list_laws.proofs.Kit.{[], ◌≡◌, ◌≢◌, ℕ, ◌<◌, Bool, true, false, List, ◌∷◌, refl, ap, sym, ◌∙◌, subst, lit<, cond, inl, inr, ltb-true, eqb-true}
use Rattle.std.specs.Prelude.{nat_eq, nat_lt, Some}
use mathlib.Core.Bool.{xor}
use Rattle.list_laws.proofs.Prelude.{all_below, below_told, either_told, both_of, same_bool, same_bool_true, implied, both}
use Rattle.tensor_defs.specs.Prelude.{Axis, x1, x2, x3, Entry, Operation, entry, IsProduct, identity, matrix, nought, operation_of, Generated, IsThe, IsUnit}
use Rattle.tensor_defs.specs.Prelude.{IsPlain, IsDiagonal, IsHexagonal, SameMatrix, HaveCommonFrame}
use Rattle.tensor_defs.specs.declared.OpKind.TheVariants.{Six}
use Rattle.tensor_defs.specs.declared.Direction.TheVariants.{Z}
use Rattle.tensor_laws.proofs.Products.{product_unique, generated_within, product_tested}
use Rattle.op_matrix.specs.Prelude.{operation_at, matrix_place, place_at, hex_frame, plain_frame, both_frame}
use Rattle.op_matrix.specs.declared.entry.Frame.{Frame}
use Rattle.op_matrix.specs.declared.entry.Frame.TheVariants.{Plain, Hexagonal, Both}
use Rattle.op_matrix.proofs.Frames.{x1_x2, x1_x3, x2_x3, also, either, plain_test, plain_of, plain_told}
use Rattle.op_matrix.proofs.Frames.{diagonal_test, diagonal_of, diagonal_told}
use Rattle.op_matrix.proofs.Products.{product_code, frame_code, common, product_at, product_code_below}

pub hex_common : (f f' : Frame) → hex_frame f ≡ true → hex_frame f' ≡ true → common f f' ≡ true
hex_common Both f' h k = refl
hex_common Plain f' h k = cc
hex_common Hexagonal Both h k = refl
hex_common Hexagonal Plain h k = cc
hex_common Hexagonal Hexagonal h k = refl

pub plain_common : (f f' : Frame) → plain_frame f ≡ true → plain_frame f' ≡ true → common f f' ≡ true
plain_common Both f' h k = refl
plain_common Hexagonal f' h k = cc
plain_common Plain Both h k = refl
plain_common Plain Hexagonal h k = cc
plain_common Plain Plain h k = refl

abbrev pub implies : Bool → Bool → Bool
implies a b = cond a b true

-- products keep the frame
kept : (Frame → Bool) → Bool
unfolding product_code frame_code
kept p = all_below 64 (λ n. all_below 64 (λ m. implies (also (p (frame_code n)) (p (frame_code m)))
    (p (frame_code (product_code n m)))))

hex_kept : kept hex_frame ≡ true
unfolding kept product_code frame_code
hex_kept = refl

plain_kept : kept plain_frame ≡ true
unfolding kept product_code frame_code
plain_kept = refl

kept_at : (p : Frame → Bool) → kept p ≡ true → (n m : ℕ) → n < 64 → m < 64 → p (frame_code n) ≡ true →
    p (frame_code m) ≡ true → p (frame_code (product_code n m)) ≡ true
unfolding kept
kept_at p e n m h k a b = implied (also (p (frame_code n)) (p (frame_code m))) (p (frame_code (product_code n m)))
    (below_told 64 (λ m. implies (also (p (frame_code n)) (p (frame_code m))) (p (frame_code (product_code n m))))
    (below_told 64 (λ n. all_below 64 (λ m. implies (also (p (frame_code n)) (p (frame_code m)))
    (p (frame_code (product_code n m))))) e n h) m k) (both_of _ _ a b)

pub hex_kept_at : (n m : ℕ) → n < 64 → m < 64 → hex_frame (frame_code n) ≡ true → hex_frame (frame_code m) ≡ true →
    hex_frame (frame_code (product_code n m)) ≡ true
hex_kept_at = kept_at hex_frame hex_kept

pub plain_kept_at : (n m : ℕ) → n < 64 → m < 64 → plain_frame (frame_code n) ≡ true →
    plain_frame (frame_code m) ≡ true → plain_frame (frame_code (product_code n m)) ≡ true
plain_kept_at = kept_at plain_frame plain_kept

-- an operation of the table with a hexagonal matrix
abbrev pub Listed : Operation → Type 0
Listed g = (n : ℕ) × (n < 64) × (hex_frame (frame_code n) ≡ true) × (g ≡ operation_at n g.primed)

-- ---- powers of 6z
six_is : (s : Operation) → IsThe (operation_of Six Z false) s → s ≡ operation_at 12 false
unfolding operation_at
six_is s e = sym (out e)
  where
    out : {a b : Operation} → Some a ≡ Some b → a ≡ b
    out e = cc

six_hex : hex_frame (frame_code 12) ≡ true
unfolding frame_code
six_hex = refl

pub zero_hex : hex_frame (frame_code 0) ≡ true
unfolding frame_code
zero_hex = refl

pub identity_at : identity ≡ operation_at 0 false
unfolding operation_at
identity_at = refl

primed_of : (g : Operation) (n : ℕ) (q : Bool) → g ≡ operation_at n q → g ≡ operation_at n g.primed
unfolding operation_at
primed_of g n q e = e ∙ ap (operation_at n) (sym (ap (λ x. x.primed) e))

-- a product of two listed ones is listed
pub listed_product : (g h : Operation) → Listed g → Listed h → (m : Operation) × Listed m × IsProduct g h m
unfolding operation_at
listed_product g h a b =
    let k : ℕ = product_code a.0 b.0 in
    let m : Operation = operation_at k (xor g.primed h.primed) in (
      m,
      (k, product_code_below a.0 b.0 a.1 b.1, hex_kept_at a.0 b.0 a.1 b.1 a.2 b.2, refl),
      subst (λ x. IsProduct x h m)
          (sym a.3) (subst (λ x. IsProduct (operation_at a.0 g.primed) x m) (sym b.3)
          (product_at a.0 b.0 g.primed h.primed (xor g.primed h.primed) a.1 b.1
          (hex_common (frame_code a.0) (frame_code b.0) a.2 b.2) refl)),
    )

pub listed_unique : (g h k : Operation) → Listed g → Listed h → IsProduct g h k → Listed k
listed_unique g h k a b p = let m : (m : Operation) × Listed m × IsProduct g h m =
    listed_product g h a b in subst Listed (product_unique g h m.0 k m.2 p) m.1

pub identity_listed : Listed identity
unfolding operation_at
identity_listed = (0, lit< tt, zero_hex, refl)

six_listed : (s : Operation) → IsThe (operation_of Six Z false) s → Listed s
six_listed s e = (12, lit< tt, six_hex, primed_of s 12 false (six_is s e))

pub turns_listed : (r : Operation) → Generated (IsThe (operation_of Six Z false)) r → Listed r
turns_listed = generated_within (IsThe (operation_of Six Z false)) Listed identity_listed
    (λ s l e a. listed_product s l (six_listed s e) a)

-- ---- diagonal ones
off : (d : Operation) → IsDiagonal d → (i j : Axis) → i ≢ j → entry d i j ≡ nought
off d h i j n = elim (h i j) [ inl p ↦ absurd (n p.0) | inr p ↦ p.1 ]

unit : (d : Operation) → IsDiagonal d → (i : Axis) → IsUnit (entry d i i)
unit d h i = elim (h i i) [ inl p ↦ p.1 | inr p ↦ absurd (p.0 refl) ]

abbrev signs : Entry → Entry → Entry → Bool → Operation
signs a b c p = matrix a nought nought nought b nought nought nought c p

shape : (d : Operation) → IsDiagonal d → d ≡ signs d.row_1.first d.row_2.second d.row_3.third d.primed
shape d h = λ i. record {
  row_1 = record { first = d.row_1.first; second = off d h x1 x2 x1_x2 i; third = off d h x1 x3 x1_x3 i };
  row_2 = record {
    first = off d h x2 x1 (λ e. x1_x2 (sym e)) i;
    second = d.row_2.second;
    third =
        off d h x2 x3 x2_x3 i;
  };
  row_3 = record {
    first = off d h x3 x1 (λ e. x1_x3 (sym e)) i;
    second = off d h x3 x2 (λ e. x2_x3 (sym e)) i;
    third =
        d.row_3.third;
  };
  primed = d.primed;
}

of_signs : (a b c : Entry) (p : Bool) → IsUnit a → IsUnit b → IsUnit c → Listed (signs a b c p)
unfolding operation_at frame_code
of_signs a b c p (inl e) (inl f) (inl g) = (0, lit< tt, refl, λ i. signs (e i) (f i) (g i) p)
of_signs a b c p (inl e) (inl f) (inr g) = (1, lit< tt, refl, λ i. signs (e i) (f i) (g i) p)
of_signs a b c p (inl e) (inr f) (inl g) = (6, lit< tt, refl, λ i. signs (e i) (f i) (g i) p)
of_signs a b c p (inl e) (inr f) (inr g) = (7, lit< tt, refl, λ i. signs (e i) (f i) (g i) p)
of_signs a b c p (inr e) (inl f) (inl g) = (56, lit< tt, refl, λ i. signs (e i) (f i) (g i) p)
of_signs a b c p (inr e) (inl f) (inr g) = (57, lit< tt, refl, λ i. signs (e i) (f i) (g i) p)
of_signs a b c p (inr e) (inr f) (inl g) = (62, lit< tt, refl, λ i. signs (e i) (f i) (g i) p)
of_signs a b c p (inr e) (inr f) (inr g) = (63, lit< tt, refl, λ i. signs (e i) (f i) (g i) p)

pub diagonal_listed : (d : Operation) → IsDiagonal d → Listed d
diagonal_listed d h = subst Listed (sym (shape d h)) (of_signs d.row_1.first d.row_2.second d.row_3.third d.primed
    (unit d h x1) (unit d h x2) (unit d h x3))

-- ---- the place is told by the entries
pub place_same : (g k : Operation) → SameMatrix g k → matrix_place g ≡ matrix_place k
unfolding matrix_place
place_same g k s = λ i. matrix_place (record {
  row_1 = record { first = s x1 x1 i; second = s x1 x2 i; third = s x1 x3 i };
  row_2 = record { first = s x2 x1 i; second = s x2 x2 i; third = s x2 x3 i };
  row_3 = record { first = s x3 x1 i; second = s x3 x2 i; third = s x3 x3 i };
  primed = false;
})

pub hex_of : (n : ℕ) (p : Bool) → n < 64 → IsHexagonal (operation_at n p) → hex_frame (frame_code n) ≡ true
hex_of n p h (r, d, k, g, e, q, s) =
    let l : Listed k = listed_unique r d k (turns_listed r g) (diagonal_listed d e) q in
    let at_l : matrix_place k ≡ l.0 = ap matrix_place l.3 ∙ place_at l.0 k.primed l.1 in
    subst (λ x. hex_frame (frame_code x) ≡ true) (sym at_l ∙ place_same k (operation_at n p) s ∙ place_at n p h) l.2

-- ---- each hexagonal frame's matrix is a power of 6z times a diagonal one
abbrev any : List ℕ → (ℕ → Bool) → Bool
any [] p = false
any (x ∷ xs) p = either (p x) (any xs p)

any_told : (xs : List ℕ) (p : ℕ → Bool) → any xs p ≡ true → (x : ℕ) × (p x ≡ true)
any_told [] p e = cc
any_told (x ∷ xs) p e = elim (either_told (p x) (any xs p) e) [ inl h ↦ (x, h) | inr h ↦ any_told xs p h ]

abbrev diagonals : List ℕ
diagonals = 0 ∷ 1 ∷ 6 ∷ 7 ∷ 56 ∷ 57 ∷ 62 ∷ 63 ∷ []

-- matrix b is diagonal, and t times b is n
abbrev part : ℕ → ℕ → ℕ → Bool
part t n b = also (nat_lt b 64) (also (diagonal_test (operation_at b false))
    (also (hex_frame (frame_code b)) (nat_eq (product_code t b) n)))

abbrev parted : ℕ → Bool
parted n = implies (hex_frame (frame_code n)) (either (any diagonals (part 0 n))
    (either (any diagonals (part 12 n)) (any diagonals (part 52 n))))

parted_all : all_below 64 parted ≡ true
unfolding product_code frame_code operation_at
parted_all = refl

same_at : (n m : ℕ) (p q : Bool) → n ≡ m → SameMatrix (operation_at n p) (operation_at m q)
unfolding operation_at
same_at n m p q e x1 j = ap (λ k. entry (operation_at k p) x1 j) e
same_at n m p q e x2 j = ap (λ k. entry (operation_at k p) x2 j) e
same_at n m p q e x3 j = ap (λ k. entry (operation_at k p) x3 j) e

-- a turn by t, a power of 6z
abbrev IsTurn : ℕ → Type 0
IsTurn t = (t < 64) × (hex_frame (frame_code t) ≡ true) × Generated (IsThe (operation_of Six Z false))
    (operation_at t false)

no_turn : IsTurn 0
unfolding operation_at frame_code
no_turn = (lit< tt, refl, ([], tt, refl))

one_turn : IsTurn 12
unfolding operation_at frame_code xor
one_turn = (
  lit< tt,
  refl,
  (
    operation_at 12 false ∷ [],
    (refl, tt),
    (identity, refl, product_tested (operation_at 12 false) identity (operation_at 12 false) refl),
  ),
)

two_turns : IsTurn 52
unfolding operation_at frame_code xor
two_turns = (
  lit< tt,
  refl,
  (
    operation_at 12 false ∷ operation_at 12 false ∷ [],
    (refl, (refl, tt)),
    (
      operation_at 12 false,
      (
        identity,
        refl,
        product_tested (operation_at 12 false) identity (operation_at 12 false)
            refl,
      ),
      product_tested (operation_at 12 false) (operation_at 12 false) (operation_at 52 false) refl,
    ),
  ),
)

hex_by : (t n : ℕ) (p : Bool) → IsTurn t → any diagonals (part t n) ≡ true → IsHexagonal (operation_at n p)
unfolding xor
hex_by t n p turn e =
    let b : (b : ℕ) × (part t n b ≡ true) = any_told diagonals (part t n) e in
    let u : (nat_lt b.0 64 ≡ true) × (also (diagonal_test (operation_at b.0 false))
    (also (hex_frame (frame_code b.0)) (nat_eq (product_code t b.0) n)) ≡ true) =
    both (nat_lt b.0 64) (also (diagonal_test (operation_at b.0 false))
    (also (hex_frame (frame_code b.0)) (nat_eq (product_code t b.0) n))) b.1 in
    let v : (diagonal_test (operation_at b.0 false) ≡ true) × (also (hex_frame (frame_code b.0))
    (nat_eq (product_code t b.0) n) ≡ true) = both (diagonal_test (operation_at b.0 false))
    (also (hex_frame (frame_code b.0)) (nat_eq (product_code t b.0) n)) u.1 in
    let w : (hex_frame (frame_code b.0) ≡ true) × (nat_eq (product_code t b.0) n ≡ true) =
    both (hex_frame (frame_code b.0)) (nat_eq (product_code t b.0) n) v.1 in (
      operation_at t false,
      operation_at b.0 false,
      operation_at (product_code t b.0) false,
      turn.2,
      diagonal_told
          (operation_at b.0 false) v.0,
      product_at t b.0 false false false turn.0 (ltb-true b.0 64 u.0)
          (hex_common (frame_code t) (frame_code b.0) turn.1 w.0) refl,
      same_at (product_code t b.0) n false p
          (eqb-true (product_code t b.0) n w.1),
    )

pub hex_told : (n : ℕ) (p : Bool) → n < 64 → hex_frame (frame_code n) ≡ true → IsHexagonal (operation_at n p)
hex_told n p h f =
    let e = implied (hex_frame (frame_code n)) _ (below_told 64 parted parted_all n h) f in
    elim (either_told (any diagonals (part 0 n)) (either (any diagonals (part 12 n)) (any diagonals (part 52 n))) e) [
      | inl a ↦ hex_by 0 n p no_turn a
      | inr b ↦ elim (either_told (any diagonals (part 12 n)) (any diagonals (part 52 n)) b)
          [ inl a ↦ hex_by 12 n p one_turn a | inr a ↦ hex_by 52 n p two_turns a ]
    ]

-- ---- plain and diagonal ones
abbrev plain_right : ℕ → Bool
plain_right n = same_bool (plain_test (operation_at n false)) (plain_frame (frame_code n))

plain_all : all_below 64 plain_right ≡ true
unfolding frame_code operation_at
plain_all = refl

plain_same : (n : ℕ) (p : Bool) → n < 64 → plain_test (operation_at n p) ≡ plain_frame (frame_code n)
unfolding operation_at
plain_same n p h = same_bool_true (plain_test (operation_at n false)) (plain_frame (frame_code n))
    (below_told 64 plain_right plain_all n h)

pub plain_at_of : (n : ℕ) (p : Bool) → n < 64 → IsPlain (operation_at n p) → plain_frame (frame_code n) ≡ true
plain_at_of n p h k = sym (plain_same n p h) ∙ plain_of (operation_at n p) k

pub plain_at_told : (n : ℕ) (p : Bool) → n < 64 → plain_frame (frame_code n) ≡ true → IsPlain (operation_at n p)
plain_at_told n p h k = plain_told (operation_at n p) (plain_same n p h ∙ k)

abbrev diagonal_right : ℕ → Bool
diagonal_right n = same_bool (diagonal_test (operation_at n false)) (both_frame (frame_code n))

diagonal_all : all_below 64 diagonal_right ≡ true
unfolding frame_code operation_at
diagonal_all = refl

diagonal_same : (n : ℕ) (p : Bool) → n < 64 → diagonal_test (operation_at n p) ≡ both_frame (frame_code n)
unfolding operation_at
diagonal_same n p h = same_bool_true (diagonal_test (operation_at n false)) (both_frame (frame_code n))
    (below_told 64 diagonal_right diagonal_all n h)

pub diagonal_at_of : (n : ℕ) (p : Bool) → n < 64 → IsDiagonal (operation_at n p) → both_frame (frame_code n) ≡ true
diagonal_at_of n p h k = sym (diagonal_same n p h) ∙ diagonal_of (operation_at n p) k

pub diagonal_at_told : (n : ℕ) (p : Bool) → n < 64 → both_frame (frame_code n) ≡ true → IsDiagonal (operation_at n p)
diagonal_at_told n p h k = diagonal_told (operation_at n p) (diagonal_same n p h ∙ k)

-- the two have a common frame
pub common_of : (n m : ℕ) (p q : Bool) → n < 64 → m < 64 → HaveCommonFrame (operation_at n p) (operation_at m q) →
    common (frame_code n) (frame_code m) ≡ true
common_of n m p q h k (inl e) = plain_common (frame_code n) (frame_code m) (plain_at_of n p h e.0)
    (plain_at_of m q k e.1)
common_of n m p q h k (inr e) = hex_common (frame_code n) (frame_code m) (hex_of n p h e.0) (hex_of m q k e.1)
