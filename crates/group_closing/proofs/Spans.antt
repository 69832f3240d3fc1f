-- The span of framed generators is a group.
--   common_product, span_common, span_one, span_product, span_member    products of two of its members
--   member_framed, no_frame, each_map    members of a list
--   contains_reached, place_is_zero, first_is, closed_kept    the marks of a closing that is done
use Rattle.list_laws.proofs.Kit.{◌≡◌, ℕ, ◌<◌, ◌≤◌, Bool, true, List, [], ◌∷◌, length, refl, ap, sym, ◌∙◌, arith, subst, lit<, inl, inr}
use Rattle.std.specs.Prelude.{Some, Contains, ◌↔◌}
use Rattle.list_laws.proofs.Lists.{none_held}
use Rattle.tensor_defs.specs.Prelude.{Operation, IsProduct, identity, Each, IsProductOf, HaveCommonFrame}
use Rattle.tensor_laws.proofs.Prelude.{product_unique, product_assoc}
use Rattle.op_matrix.specs.Prelude.{HasFrame, nth_operation, operation_at, place, matrix_place}
use Rattle.op_matrix.proofs.Facts.{place_of_nth}
use Rattle.op_matrix.proofs.Listed.{plain_product, hex_product, plain_one, hex_one, OneTimes}
use Rattle.group_closing.specs.Prelude.{mark_at, IsClosed, Reached, marked_below, HaveFrame, Spanned, IsKept}
use Rattle.group_closing.proofs.Inverses.{closed_inverse}
use Rattle.group_closing.proofs.Reaching.{spanned_times, spanned_one, spanned_framed, spanned_plain}
use Rattle.group_closing.proofs.Reaching.{spanned_hex, span_frame, reached_spanned, reached_all}
use Rattle.group_closing.proofs.Marked.{marked_first, contains_told, contains_of, marked_rising}

-- two operations of one frame have a product
pub common_product : (g h : Operation) → HaveCommonFrame g h → (k : Operation) × IsProduct g h k
common_product g h (inl e) = let r = plain_product g h e.0 e.1 in (r.0, r.2)
common_product g h (inr e) = let r = hex_product g h e.0 e.1 in (r.0, r.2)

pub span_common : (gens : List Operation) (g h : Operation) → HaveFrame gens → Spanned gens g → Spanned gens h →
    HaveCommonFrame g h
span_common gens g h (inl f) a b = inl (spanned_plain gens f g a, spanned_plain gens f h b)
span_common gens g h (inr f) a b = inr (spanned_hex gens f g a, spanned_hex gens f h b)

pub span_one : (gens : List Operation) (g : Operation) → HaveFrame gens → Spanned gens g → OneTimes g
span_one gens g (inl f) a = plain_one g (spanned_plain gens f g a)
span_one gens g (inr f) a = hex_one g (spanned_hex gens f g a)

pub span_product : (gens : List Operation) → HaveFrame gens → (gs : List Operation) (g h : Operation) →
    Each (λ s. Contains gens s) gs → IsProductOf gs g → Spanned gens h → (k : Operation) × Spanned gens k ×
    IsProduct g h k
span_product gens f [] g h e p b = (h, b, subst (λ x. IsProduct x h h) (sym p) (span_one gens h f b).0)
span_product gens f (s ∷ gs) g h e p b =
    let r : (k : Operation) × Spanned gens k × IsProduct p.0 h k = span_product gens f gs p.0 h e.1 p.1 b in
    let t : (k : Operation) × IsProduct s r.0 k = common_product s r.0 (spanned_framed gens s r.0 f e.0 r.1) in
    let a : Spanned gens g = (s ∷ gs, e, p) in
    let u : (k : Operation) × IsProduct g h k = common_product g h (span_common gens g h f a b) in
    let same : IsProduct s r.0 u.0 = product_assoc s p.0 h g u.0 r.0 p.2 u.1 r.2 in
    (t.0, spanned_times gens s r.0 t.0 e.0 r.1 t.1, subst (IsProduct g h) (product_unique s r.0 u.0 t.0 same t.1) u.1)

pub span_member : (gens : List Operation) (g : Operation) → HaveFrame gens → Contains gens g → Spanned gens g
span_member gens g (inl f) c = spanned_times gens g identity g c (spanned_one gens) (plain_one g (f g c)).1
span_member gens g (inr f) c = spanned_times gens g identity g c (spanned_one gens) (hex_one g (f g c)).1

pub contains_reached : (m : List Bool) (g : Operation) → length m ≡ 128 → Contains (marked_below 128 m) g ↔ Reached m g
contains_reached m g l = (
  contains_told 128 m g,
  λ r. subst (Contains (marked_below 128 m)) (sym r.3)
      (contains_of 128 r.0 m r.1 r.2),
)

pub place_is_zero : (k : ℕ) → k < 128 → identity ≡ nth_operation k → k ≡ 0
unfolding matrix_place
place_is_zero k h e = sym (place_of_nth k h) ∙ ap place (sym e)

pub first_is : nth_operation 0 ≡ identity
unfolding nth_operation operation_at
first_is = refl

pub closed_kept : (gens items f : List Operation) (n : ℕ) (m : List Bool) → HaveFrame gens → IsClosed gens n m f →
    length f ≤ n → items ≡ marked_below 128 m → IsKept gens items m
closed_kept gens items f n m fr c h e = subst (λ x. IsKept gens x m) (sym e) (record {
  marked = c.closing.sized;
  listed = refl;
  spanned = spans;
  inside = λ g a. (spans g).1 (span_member gens g fr a);
  group = record {
    rising = marked_rising 128 m (omega arith);
    first = marked_first 128 m (lit< tt) (subst (λ x. mark_at m x ≡ true) (place_is_zero c.one.0 c.one.1 c.one.3)
        c.one.2) ∙ ap Some first_is;
    one = one;
    closed = closed;
    inverses = closed_inverse (marked_below 128 m) one closed frame;
    frame = frame;
  };
})
  where
    spans : (k : Operation) → Contains (marked_below 128 m) k ↔ Spanned gens k
    spans k = (
      λ a. reached_spanned gens f m k c.closing ((contains_reached m k c.closing.sized).0 a),
      λ s.
          (contains_reached m k c.closing.sized).1 (reached_all gens n m f c h k s),
    )

    one : Contains (marked_below 128 m) identity
    one = (contains_reached m identity c.closing.sized).1 c.one

    closed : (g h : Operation) → Contains (marked_below 128 m) g → Contains (marked_below 128 m) h → (k : Operation) ×
        Contains (marked_below 128 m) k × IsProduct g h k
    closed g h a b = let s = (spans g).0 a in let r = span_product gens fr s.0 g h s.1 s.2 ((spans h).0 b) in
        (r.0, (spans r.0).1 r.1, r.2)

    frame : HaveFrame (marked_below 128 m)
    frame = span_frame gens (marked_below 128 m) fr (λ k a. (spans k).0 a)

pub member_framed : (items : List Operation) (g : Operation) → HaveFrame items → Contains items g → HasFrame g
member_framed items g (inl f) c = inl (f g c)
member_framed items g (inr f) c = inr (f g c)

pub no_frame : (gens : List Operation) → gens ≡ [] → HaveFrame gens
no_frame gens e = inl (λ g c. absurd (none_held g (subst (λ x. Contains x g) e c)))

pub each_map : (S T : Operation → Type 0) → ((s : Operation) → S s → T s) → (gs : List Operation) → Each S gs → Each T gs
each_map S T f [] e = tt
each_map S T f (g ∷ gs) e = (f g e.0, each_map S T f gs e.1)
