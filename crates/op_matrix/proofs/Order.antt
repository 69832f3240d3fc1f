-- The order of operations is that of their places, and frames are closed under products and inverses.
--   before_known, places_rise, rise_before, same_place, identity_framed, order_is_strict_lem    the order
--   nth_framed, are_listed_lem    the places
--   frames_are_closed_lem, plain_closed, hex_closed, inverse_plain, inverse_hex    products and inverses
use Rattle.list_laws.proofs.Kit.{◌≡◌, ◌≢◌, ℕ, ◌<◌, Bool, true, false, refl, ap, sym, ◌∙◌, arith, subst, lit<, inl, inr, ltb-true, lt-ltb, cases_order}
use Rattle.std.specs.Prelude.{nat_lt, IsTrue}
use Rattle.list_laws.proofs.Prelude.{all_below, below_told, either_told, implied, both}
use Rattle.tensor_defs.specs.Prelude.{Operation, IsProduct, identity, comes_before, IsPlain, IsHexagonal}
use Rattle.tensor_laws.proofs.Products.{product_unique}
use Rattle.op_matrix.specs.Prelude.{operation_at, nth_operation, place, matrix_place, hex_frame, plain_frame, HasFrame, OrderIsStrict, AreListed}
use Rattle.op_matrix.specs.Prelude.{FramesAreClosed}
use Rattle.op_matrix.proofs.Frames.{also, either}
use Rattle.op_matrix.proofs.Products.{frame_code}
use Rattle.op_matrix.proofs.Facts.{before_places, place_of_nth, inverse_code, inverse_below}
use Rattle.op_matrix.proofs.Hexagonal.{implies, plain_at_of, plain_at_told, hex_of, hex_told}
use Rattle.op_matrix.proofs.Listed.{Placed, plain_placed, hex_placed, plain_product, hex_product}

pub placed : (g : Operation) → HasFrame g → Placed g
placed g (inl h) = plain_placed g h
placed g (inr h) = hex_placed g h

-- ---- the order
pub before_known : (g h : Operation) → HasFrame g → HasFrame h → comes_before g h ≡ nat_lt (place g) (place h)
before_known g h a b =
    let p : Placed g = placed g a in
    let q : Placed h = placed h b in
    (λ i. comes_before (p.1 i) (q.1 i)) ∙ before_places (place g) (place h) p.0 q.0

pub places_rise : (g h : Operation) → HasFrame g → HasFrame h → IsTrue (comes_before g h) → place g < place h
places_rise g h a b e = ltb-true (place g) (place h) (sym (before_known g h a b) ∙ e)

pub rise_before : (g h : Operation) → HasFrame g → HasFrame h → place g < place h → IsTrue (comes_before g h)
rise_before g h a b e = before_known g h a b ∙ lt-ltb (place g) (place h) e

pub same_place : (g h : Operation) → HasFrame g → HasFrame h → place g ≡ place h → g ≡ h
same_place g h a b e = (placed g a).1 ∙ ap nth_operation e ∙ sym (placed h b).1

no_less : (a : ℕ) → a < a → ⊥
no_less a h = omega arith

pub identity_framed : HasFrame identity
unfolding operation_at frame_code
identity_framed = inl (plain_at_told 0 false (lit< tt) refl)

identity_place : place identity ≡ 0
unfolding matrix_place
identity_place = refl

pub order_is_strict_lem : OrderIsStrict
order_is_strict_lem = record {
  irreflexive = λ g a e. no_less (place g) (places_rise g g a a e);
  transitive = λ g h k a b c e f.
      let p : place g < place h = places_rise g h a b e in
      let q : place h < place k = places_rise h k b c f in
      rise_before g k a c (chain (place g) (place h) (place k) p q);
  total = λ g h a b. elim (cases_order (place g) (place h)) [
    | inl e ↦ inr (inl (same_place g h a b e))
    | inr r ↦ elim r [ inl l ↦ inl (rise_before g h a b l) | inr l ↦ inr (inr (rise_before h g b a l)) ]
  ];
  least = λ g a n. rise_before identity g identity_framed a (subst (λ x. x < place g) (sym identity_place)
      (above (place g) (λ e. n (same_place g identity a identity_framed (e ∙ sym identity_place)))));
}
  where
    chain : (a b c : ℕ) → a < b → b < c → a < c
    chain a b c p q = omega arith

    above : (a : ℕ) → (a ≢ 0) → 0 < a
    above a n = omega (arith, n)

-- ---- the places
any_frame : all_below 64 (λ n. either (plain_frame (frame_code n)) (hex_frame (frame_code n))) ≡ true
unfolding frame_code
any_frame = refl

framed_at : (n : ℕ) (p : Bool) → n < 64 → HasFrame (operation_at n p)
framed_at n p h =
    elim (either_told (plain_frame (frame_code n)) (hex_frame (frame_code n))
    (below_told 64 (λ n. either (plain_frame (frame_code n)) (hex_frame (frame_code n))) any_frame n h)) [
      | inl e ↦ inl (plain_at_told n p h e)
      | inr e ↦ inr (hex_told n p h e)
    ]

pub nth_framed : (k : ℕ) → k < 128 → HasFrame (nth_operation k)
unfolding nth_operation
nth_framed k h = framed_at _ _ (omega arith)

pub are_listed_lem : AreListed
are_listed_lem = record {
  below = λ g a. (placed g a).0;
  at = λ g a. (placed g a).1;
  framed = nth_framed;
  places = place_of_nth;
}

-- ---- products and inverses
pub frames_are_closed_lem : FramesAreClosed
frames_are_closed_lem = (plain_product, hex_product)

pub plain_closed : (g h k : Operation) → IsPlain g → IsPlain h → IsProduct g h k → IsPlain k
plain_closed g h k a b p = let m = plain_product g h a b in subst IsPlain (product_unique g h m.0 k m.2 p) m.1

pub hex_closed : (g h k : Operation) → IsHexagonal g → IsHexagonal h → IsProduct g h k → IsHexagonal k
hex_closed g h k a b p = let m = hex_product g h a b in subst IsHexagonal (product_unique g h m.0 k m.2 p) m.1

abbrev inverse_frames : ℕ → Bool
inverse_frames n =
    also (implies (plain_frame (frame_code n)) (plain_frame (frame_code (inverse_code n))))
    (implies (hex_frame (frame_code n)) (hex_frame (frame_code (inverse_code n))))

inverse_frames_all : all_below 64 inverse_frames ≡ true
unfolding frame_code inverse_code
inverse_frames_all = refl

inverse_kept : (n : ℕ) → n < 64 →
    (implies (plain_frame (frame_code n)) (plain_frame (frame_code (inverse_code n))) ≡ true)
    × (implies (hex_frame (frame_code n)) (hex_frame (frame_code (inverse_code n))) ≡ true)
inverse_kept n h =
    both (implies (plain_frame (frame_code n)) (plain_frame (frame_code (inverse_code n)))) _
    (below_told 64 inverse_frames inverse_frames_all n h)

pub inverse_plain : (n k : ℕ) (p : Bool) (g : Operation) → n < 64 → k ≡ inverse_code n → operation_at n p ≡ g →
    IsPlain g → IsPlain (operation_at k p)
inverse_plain n k p g h e f a =
    subst (λ x. IsPlain (operation_at x p)) (sym e) (plain_at_told (inverse_code n) p (inverse_below n h)
    (implied _ _ (inverse_kept n h).0 (plain_at_of n p h (subst IsPlain (sym f) a))))

pub inverse_hex : (n k : ℕ) (p : Bool) (g : Operation) → n < 64 → k ≡ inverse_code n → operation_at n p ≡ g →
    IsHexagonal g → IsHexagonal (operation_at k p)
inverse_hex n k p g h e f a =
    subst (λ x. IsHexagonal (operation_at x p)) (sym e) (hex_told (inverse_code n) p (inverse_below n h)
    (implied _ _ (inverse_kept n h).1 (hex_of n p h (subst IsHexagonal (sym f) a))))
