-- The members of a group that stay in it when an operation carries them.
--   inverse_common    the products that carry an element
--   pair_told    the test of one element
--   IsMeeting    the elements before place n that are met are marked
use Rattle.list_laws.proofs.Kit.{◌≡◌, ℕ, ◌+◌, ◌<◌, ◌≤◌, Bool, true, false, List, length, refl, ap, sym, ◌∙◌, arith, subst, ◌⊎◌, inl, inr, lit<, length-set}
use Rattle.list_laws.proofs.Kit.{cases_lt, false≢true}
use Rattle.std.specs.Prelude.{Contains, ◌↔◌, IsTrue, slice_index_or, set, replicate, Some}
use Rattle.tensor_defs.specs.Prelude.{Operation, IsProduct, identity, comes_before, IsListing, IsPlain, IsHexagonal, HaveCommonFrame, InPairGroup}
use Rattle.tensor_laws.proofs.Prelude.{product_unique, product_assoc, product_assoc_back}
use Rattle.op_matrix.specs.Table.{nth_operation, place}
use Rattle.op_matrix.proofs.Order.{placed}
use Rattle.op_matrix.proofs.Listed.{plain_one, hex_one, OneTimes}
use Rattle.magnetic_groups.specs.Prelude.{mark_at, marked_below, Reached, FitsFrame, HaveFrame, In, IsGroup}
use Rattle.group_closing.proofs.Inverses.{closed_inverse}
use Rattle.group_closing.proofs.Marked.{contains_told, contains_of, marked_rising, marked_first}
use Rattle.group_closing.proofs.Spans.{member_framed}
use Rattle.group_closing.proofs.Spans.{common_product, place_is_zero, first_is}
use Rattle.group_closing.proofs.Reaching.{set_told, set_kept, set_new, no_mark}
use Rattle.magnetic_groups.proofs.Cosets.{group_one}

fits_one : (xs : List Operation) (g : Operation) → FitsFrame xs g → OneTimes g
fits_one xs g (inl f) = plain_one g f.0
fits_one xs g (inr f) = hex_one g f.0

fits_common : (xs : List Operation) (g k : Operation) → FitsFrame xs g → Contains xs k → HaveCommonFrame k g
fits_common xs g k (inl f) c = inl (f.1 k c, f.0)
fits_common xs g k (inr f) c = inr (f.1 k c, f.0)

-- the products that carry an element
pub inverse_common : (xs : List Operation) (g k v : Operation) → FitsFrame xs g → (IsPlain g → IsPlain v) → (IsHexagonal g → IsHexagonal v) → Contains xs k → HaveCommonFrame v k
inverse_common xs g k v (inl f) p h c = inl (p f.0, f.1 k c)
inverse_common xs g k v (inr f) p h c = inr (h f.0, f.1 k c)

pub half_common : (xs : List Operation) (g k v x : Operation) → FitsFrame xs g → (IsPlain g → IsPlain v) → (IsHexagonal g → IsHexagonal v) → Contains xs k → (IsPlain v → IsPlain k → IsPlain x) → (IsHexagonal v → IsHexagonal k → IsHexagonal x) → HaveCommonFrame x g
half_common xs g k v x (inl f) p h c q r = inl (q (p f.0) (f.1 k c), f.0)
half_common xs g k v x (inr f) p h c q r = inr (r (h f.0) (f.1 k c), f.0)

module _ (xs : List Operation) (g : Operation) (i : IsGroup xs) (fits : FitsFrame xs g) where
  pair_one : InPairGroup (In xs) g identity
  pair_one = let o = fits_one xs g fits in (i.one, (identity, g, i.one, o.1, o.0))

  pair_product : (k l : Operation) → InPairGroup (In xs) g k → InPairGroup (In xs) g l → (n : Operation) × InPairGroup (In xs) g n × IsProduct k l n
  pair_product k l (ck, (f, m, cf, p, q)) (cl, (f', m', cf', p', q')) =
      let n : (n : Operation) × Contains xs n × IsProduct k l n = i.closed k l ck cl in
      let e : (e : Operation) × Contains xs e × IsProduct f f' e = i.closed f f' cf cf' in
      let w : (w : Operation) × IsProduct n.0 g w = common_product n.0 g (fits_common xs g n.0 fits n.1) in
      let a : IsProduct k m' w.0 = product_assoc k l g n.0 w.0 m' n.2 w.1 q' in
      let b : IsProduct m f' w.0 = product_assoc_back k g f' m w.0 m' q p' a in
      let c : IsProduct g e.0 w.0 = product_assoc g f f' m w.0 e.0 p b e.2 in
      (n.0, (n.1, (e.0, w.0, e.1, c, w.1)), n.2)

  -- the test of one element
  pub pair_told : (k v x y : Operation) (b : Bool) → Contains xs k → IsProduct g v identity → IsProduct v g identity → IsProduct v k x → IsProduct x g y → (IsTrue b ↔ Contains xs y) → IsTrue b ↔ InPairGroup (In xs) g k
  pair_told k v x y b c after ahead p q t = (λ h. forth (t.0 h), λ h. t.1 (back h))
    where
      forth : Contains xs y → InPairGroup (In xs) g k
      forth cy =
          let o : OneTimes k = group_one xs k i c in
          let a : IsProduct g x k = product_assoc g v k identity k x after o.0 p in
          let m : (m : Operation) × IsProduct k g m = common_product k g (fits_common xs g k fits c) in
          (c, (y, m.0, cy, product_assoc g x g k m.0 y a m.1 q, m.1))

      back : InPairGroup (In xs) g k → Contains xs y
      back (ck, (f, m, cf, r, s)) =
          let a : IsProduct v m y = product_assoc v k g x y m p q s in
          let d : IsProduct identity f y = product_assoc_back v g f identity y m ahead r a in
          subst (Contains xs) (product_unique identity f f y (group_one xs f i cf).0 d) cf

  -- the elements before place n that are met are marked
  pub record IsMeeting (n : ℕ) (m : List Bool) : Type 0 where
    pub sized : length m ≡ 128
    pub inside : (k : ℕ) → mark_at m k ≡ true → InPairGroup (In xs) g (nth_operation k)
    pub held : (q : ℕ) (d : Operation) → q < n → InPairGroup (In xs) g (slice_index_or xs q d) → mark_at m (place (slice_index_or xs q d)) ≡ true

  pub meeting_none : IsMeeting 0 (replicate 128 false)
  meeting_none = record {
    sized = refl;
    inside = λ k e. absurd (no_mark 128 k e);
    held = λ q d h. absurd (omega arith);
  }

  held_next : (m m' : List Bool) (n : ℕ) (k : Operation) → ((j : ℕ) → mark_at m j ≡ true → mark_at m' j ≡ true) → IsMeeting n m → ((d : Operation) → slice_index_or xs n d ≡ k) → (InPairGroup (In xs) g k → mark_at m' (place k) ≡ true) → (q : ℕ) (d : Operation) → q < n + 1 → InPairGroup (In xs) g (slice_index_or xs q d) → mark_at m' (place (slice_index_or xs q d)) ≡ true
  held_next m m' n k w i at t q d h p = by (cases_lt q n)
    where
      by : (q < n) ⊎ (n ≤ q) → mark_at m' (place (slice_index_or xs q d)) ≡ true
      by (inl a) = w (place (slice_index_or xs q d)) (i.held q d a p)
      by (inr a) =
          let s : q ≡ n = omega arith in
          let e : slice_index_or xs q d ≡ k = ap (λ z. slice_index_or xs z d) s ∙ at d in
          subst (λ x. mark_at m' (place x) ≡ true) (sym e) (t (subst (InPairGroup (In xs) g) e p))

  pub meeting_skip : (n : ℕ) (m : List Bool) (k : Operation) (b : Bool) → IsMeeting n m → ((d : Operation) → slice_index_or xs n d ≡ k) → (IsTrue b ↔ InPairGroup (In xs) g k) → b ≡ false → IsMeeting (n + 1) m
  meeting_skip n m k b i at t f = record {
    sized = i.sized;
    inside = i.inside;
    held = held_next m m n k (λ j e. e) i at (λ p. absurd (false≢true (sym f ∙ t.1 p)));
  }

  pub meeting_more : (n l : ℕ) (m : List Bool) (k : Operation) (b : Bool) → IsMeeting n m → ((d : Operation) → slice_index_or xs n d ≡ k) → (IsTrue b ↔ InPairGroup (In xs) g k) → b ≡ true → l ≡ place k → l < 128 → k ≡ nth_operation l → IsMeeting (n + 1) (set m l true)
  meeting_more n l m k b i at t f e h w = record {
    sized = length-set m l true ∙ i.sized;
    inside = λ j a. elim (set_told m l j a) [
      | inl o ↦ subst (InPairGroup (In xs) g) (w ∙ ap nth_operation (sym o)) (t.0 f)
      | inr o ↦ i.inside j o
    ];
    held = held_next m (set m l true) n k (set_kept m l) i at (λ p. subst (λ x. mark_at (set m l true) x ≡ true) e (set_new m l (rw i.sized h)));
  }

  module _ (m : List Bool) (n : ℕ) (met : IsMeeting n m) (all : length xs ≤ n) where
    pub met_members : (k : Operation) → Contains (marked_below 128 m) k ↔ InPairGroup (In xs) g k
    met_members k = (forth, back)
      where
        forth : Contains (marked_below 128 m) k → InPairGroup (In xs) g k
        forth c = let r : Reached m k = contains_told 128 m k c in subst (InPairGroup (In xs) g) (sym r.3) (met.inside r.0 r.2)

        back : InPairGroup (In xs) g k → Contains (marked_below 128 m) k
        back p =
            let c : Contains xs k = p.0 in
            let l = c.1 in
            let o = placed k (member_framed xs k i.frame c) in
            let e : mark_at m (place k) ≡ true = subst (λ x. mark_at m (place x) ≡ true) c.2 (met.held c.0 k (omega arith) (subst (InPairGroup (In xs) g) (sym c.2) p)) in
            subst (Contains (marked_below 128 m)) (sym o.1) (contains_of 128 (place k) m o.0 e)

    pub met_listing : IsListing comes_before (InPairGroup (In xs) g) (marked_below 128 m)
    met_listing = record { rising = marked_rising 128 m (omega arith); members = met_members }

    pub met_group : IsGroup (marked_below 128 m)
    met_group = record {
      rising = marked_rising 128 m (omega arith);
      first = let r : Reached m identity = contains_told 128 m identity one in marked_first 128 m (lit< tt) (subst (λ x. mark_at m x ≡ true) (place_is_zero r.0 r.1 r.3) r.2) ∙ ap Some first_is;
      one = one;
      closed = closed;
      inverses = closed_inverse (marked_below 128 m) one closed frame;
      frame = frame;
    }
      where
        one : Contains (marked_below 128 m) identity
        one = (met_members identity).1 pair_one

        closed : (k l : Operation) → Contains (marked_below 128 m) k → Contains (marked_below 128 m) l → (n : Operation) × Contains (marked_below 128 m) n × IsProduct k l n
        closed k l a b = let r = pair_product k l ((met_members k).0 a) ((met_members l).0 b) in (r.0, (met_members r.0).1 r.1, r.2)

        frame : HaveFrame (marked_below 128 m)
        frame = by i.frame
          where
            by : HaveFrame xs → HaveFrame (marked_below 128 m)
            by (inl f) = inl (λ k c. f k ((met_members k).0 c).0)
            by (inr f) = inr (λ k c. f k ((met_members k).0 c).0)
