-- The listing of left cosets, each once, by one pass over the whole group.
--   listing_none, listing_past, group_placed, listing_new, listed_states, listing_step ..    the loop over G
use Rattle.list_laws.proofs.Kit.{◌≡◌, ◌≢◌, ℕ, zero, suc, ◌+◌, ◌-◌, ◌<◌, ◌≤◌, Bool, true, false, List, [], ◌∷◌, ◌++◌, length, refl, ap, sym, ◌∙◌, arith, subst}
use Rattle.list_laws.proofs.Kit.{◌⊎◌, inl, inr, nat_tests, length-set, get_or-set_same, get_or-set_other, get_or_append_left, length_push, get_or_push}
use Rattle.list_laws.proofs.Kit.{get_or_default, Contains-push_cases, Contains-get_or, cases_lt}
use Rattle.std.specs.Prelude.{nat_eq, replicate, set, slice_index_or, Contains, IsTrue}
use Rattle.tensor_defs.specs.Prelude.{Operation, IsProduct, comes_before, AreStates}
use Rattle.tensor_laws.proofs.Products.{product_unique}
use Rattle.op_matrix.specs.Table.{nth_operation, place}
use Rattle.list_laws.proofs.Prelude.{rising_push, rising_at, each_push, each_from}
use Rattle.op_matrix.proofs.Listed.{plain_placed, hex_placed}
use Rattle.magnetic_groups.specs.Sets.{HaveFrame, In, IsGroup, IsWithin}
use Rattle.magnetic_groups.proofs.Cosets.{coset_self, coset_within, coset_sym, coset_trans}
use Rattle.coset_states.specs.Numbering.{state_at, InCoset, IsNumbered, IsCovering, IsKept}

pub numbered_none : (fs : List Operation) (r : Operation) (m : ℕ) (s : List ℕ) → length s ≡ 128 → IsNumbered fs r m 0 s s
numbered_none fs r m s l = record { sized = l; inside = λ q d k h. absurd (omega arith); others = λ p. inl refl }

same_by : (s : List ℕ) (p q m : ℕ) (b : Bool) → nat_eq q p ≡ b → p < length s → (state_at (set s p m) q ≡ m) ⊎ (state_at (set s p m) q ≡ state_at s q)
same_by s p q m true e h = let f : q ≡ p = grind (arith, nat_tests) in inl (ap (λ x. state_at (set s p m) x) f ∙ get_or-set_same s p m 0 h)
same_by s p q m false e h = let f : q ≢ p = grind (arith, nat_tests) in inr (get_or-set_other s p q m 0 f)

pub numbered_more : (fs : List Operation) (r : Operation) (m n : ℕ) (s s' : List ℕ) (f k : Operation) (p : ℕ) → IsNumbered fs r m n s s' → n < length fs → ((d : Operation) → slice_index_or fs n d ≡ f) → IsProduct r f k → p ≡ place k → p < 128 → k ≡ nth_operation p → IsNumbered fs r m (n + 1) s (set s' p m)
numbered_more fs r m n s s' f k p i h at pr e b kn = record {
  sized = length-set s' p m ∙ i.sized;
  inside = λ q d x l px. within q d x px (cases_lt q n) l;
  others = λ q. others_by q (nat_eq q p) refl;
}
  where
    kept : (q : ℕ) → state_at s' q ≡ m → (state_at (set s' p m) q ≡ m) ⊎ (state_at (set s' p m) q ≡ state_at s' q) → state_at (set s' p m) q ≡ m
    kept q g (inl a) = a
    kept q g (inr a) = a ∙ g

    within : (q : ℕ) (d x : Operation) → IsProduct r (slice_index_or fs q d) x → (q < n) ⊎ (n ≤ q) → q < n + 1 → state_at (set s' p m) (place x) ≡ m
    within q d x px (inl a) l = kept (place x) (i.inside q d x a px) (same_by s' p (place x) m (nat_eq (place x) p) refl (rw i.sized b))
    within q d x px (inr a) l =
        let qn : q ≡ n = omega arith in
        let same : x ≡ k = product_unique r f x k (subst (λ y. IsProduct r y x) (ap (λ z. slice_index_or fs z d) qn ∙ at d) px) pr in
        ap (λ y. state_at (set s' p m) y) (ap place same ∙ sym e) ∙ get_or-set_same s' p m 0 (rw i.sized b)

    old : (q : ℕ) → state_at (set s' p m) q ≡ state_at s' q → (state_at s' q ≡ state_at s q) ⊎ ((state_at s' q ≡ m) × (q < 128) × InCoset fs r (nth_operation q)) → (state_at (set s' p m) q ≡ state_at s q) ⊎ ((state_at (set s' p m) q ≡ m) × (q < 128) × InCoset fs r (nth_operation q))
    old q g (inl a) = inl (g ∙ a)
    old q g (inr a) = inr (g ∙ a.0, a.1, a.2)

    others_by : (q : ℕ) (t : Bool) → nat_eq q p ≡ t → (state_at (set s' p m) q ≡ state_at s q) ⊎ ((state_at (set s' p m) q ≡ m) × (q < 128) × InCoset fs r (nth_operation q))
    others_by q true g =
        let qp : q ≡ p = grind (arith, nat_tests) in
        inr (ap (λ x. state_at (set s' p m) x) qp ∙ get_or-set_same s' p m 0 (rw i.sized b), rw qp b, (f, (n, h, at f), subst (IsProduct r f) (kn ∙ ap nth_operation (sym qp)) pr))
    others_by q false g = let qp : q ≢ p = grind (arith, nat_tests) in old q (get_or-set_other s' p q m 0 qp) (i.others q)

-- ---- the loop over G
blank : (n p : ℕ) → state_at (replicate n 0) p ≡ 0
blank zero p = refl
blank (suc n) zero = refl
blank (suc n) (suc p) = blank n p

pub listing_none : (gs fs reps : List Operation) (s : List ℕ) → s ≡ replicate 128 0 → length s ≡ 128 → reps ≡ [] → IsCovering gs fs 0 reps s
listing_none gs fs reps s e l q = subst (λ x. IsCovering gs fs 0 x s) (sym q) (record {
  sized = l;
  sound = λ p d n. absurd (n (ap (λ x. state_at x p) e ∙ blank 128 p));
  complete = λ m d k h. absurd (omega arith);
  covered = λ j d h. absurd (omega arith);
  from = λ r c. let h = c.1 in absurd (omega arith);
  few = omega arith;
  rising = tt;
  least = tt;
})

pub listing_past : (gs fs : List Operation) (i : ℕ) (reps : List Operation) (s : List ℕ) (g : Operation) → IsCovering gs fs i reps s → ((d : Operation) → slice_index_or gs i d ≡ g) → state_at s (place g) ≢ 0 → IsCovering gs fs (i + 1) reps s
listing_past gs fs i reps s g l at n = record {
  sized = l.sized;
  sound = l.sound;
  complete = l.complete;
  covered = λ j d h. by j d h (cases_lt j i);
  from = λ r c. let t = l.from r c in let u = t.1 in (t.0, omega arith, t.2, t.3);
  few = let f = l.few in omega (arith, f);
  rising = l.rising;
  least = l.least;
}
  where
    by : (j : ℕ) (d : Operation) → j < i + 1 → (j < i) ⊎ (i ≤ j) → state_at s (place (slice_index_or gs j d)) ≢ 0
    by j d h (inl a) = l.covered j d a
    by j d h (inr a) = let e : j ≡ i = omega arith in subst (λ x. state_at s (place x) ≢ 0) (sym (ap (λ x. slice_index_or gs x d) e ∙ at d)) n

pub group_placed : (gs : List Operation) (k : Operation) → IsGroup gs → Contains gs k → k ≡ nth_operation (place k)
group_placed gs k i c = by i.frame
  where
    by : HaveFrame gs → k ≡ nth_operation (place k)
    by (inl f) = (plain_placed k (f k c)).1
    by (inr f) = (hex_placed k (f k c)).1

-- a new state
module _ (gs fs : List Operation) (i : ℕ) (reps : List Operation) (s s' : List ℕ) (g : Operation) (l : IsCovering gs fs i reps s) (at : (d : Operation) → slice_index_or gs i d ≡ g) (il : i < length gs)
    (free : state_at s (place g) ≡ 0) (ig : IsGroup gs) (jf : IsGroup fs) (w : IsWithin fs gs) (nu : IsNumbered fs g (length reps + 1) (length fs) s s') where
  in_g : Contains gs g
  in_g = (i, il, at g)

  inside_new : (k : Operation) → InCoset fs g k → state_at s' (place k) ≡ length reps + 1
  inside_new k (f, c, p) = nu.inside c.0 f k c.1 (subst (λ x. IsProduct g x k) (sym c.2) p)

  rep_in : (m : ℕ) (d : Operation) → m < length reps → Contains gs (slice_index_or reps m d)
  rep_in m d h = let t = l.from (slice_index_or reps m d) (m, h, get_or_default reps m (slice_index_or reps m d) d h) in (t.0, t.2, t.3 (slice_index_or reps m d))

  apart : (m : ℕ) → m + 1 ≡ 0 → ⊥
  apart m e = omega arith

  not_old : (m : ℕ) (d : Operation) → m < length reps → InCoset fs (slice_index_or reps m d) g → ⊥
  not_old m d h c = apart m (sym (l.complete m d g h c) ∙ free)

  -- an element of an old state isn't in the new one
  not_both : (m : ℕ) (d k : Operation) → m < length reps → InCoset fs (slice_index_or reps m d) k → InCoset fs g k → ⊥
  not_both m d k h c e = not_old m d h (coset_trans gs fs (slice_index_or reps m d) k g ig jf w (rep_in m d h) c (coset_sym gs fs g k ig jf w in_g e))

  old_rep : (m : ℕ) (d : Operation) → m < length reps → slice_index_or (reps ++ g ∷ []) m d ≡ slice_index_or reps m d
  old_rep m d h = get_or_append_left reps (g ∷ []) d m h

  new_rep : (m : ℕ) (d : Operation) → m ≡ length reps → slice_index_or (reps ++ g ∷ []) m d ≡ g
  new_rep m d e = get_or_push reps g d m (sym e)

  long : length (reps ++ g ∷ []) ≡ length reps + 1
  long = length_push reps g

  sound_new : (p : ℕ) (d : Operation) → state_at s' p ≢ 0 → (state_at s' p ≡ state_at s p) ⊎ ((state_at s' p ≡ length reps + 1) × (p < 128) × InCoset fs g (nth_operation p)) → (m : ℕ) × (state_at s' p ≡ m + 1) × (m < length (reps ++ g ∷ [])) × InCoset fs (slice_index_or (reps ++ g ∷ []) m d) (nth_operation p)
  sound_new p d n (inl e) =
      let t = l.sound p d (λ z. n (e ∙ z)) in
      let h = t.2 in let o = long in
      (t.0, e ∙ t.1, omega (arith, o, h), subst (λ x. InCoset fs x (nth_operation p)) (sym (old_rep t.0 d t.2)) t.3)
  sound_new p d n (inr e) = let o = long in (length reps, e.0, omega (arith, o), subst (λ x. InCoset fs x (nth_operation p)) (sym (new_rep (length reps) d refl)) e.2)

  complete_old : (m : ℕ) (d k : Operation) → m < length reps → InCoset fs (slice_index_or reps m d) k → (state_at s' (place k) ≡ state_at s (place k)) ⊎ ((state_at s' (place k) ≡ length reps + 1) × (place k < 128) × InCoset fs g (nth_operation (place k))) → state_at s' (place k) ≡ m + 1
  complete_old m d k h c (inl e) = e ∙ l.complete m d k h c
  complete_old m d k h c (inr e) = absurd (not_both m d k h c (subst (InCoset fs g) (sym (group_placed gs k ig (coset_within gs fs (slice_index_or reps m d) k ig w (rep_in m d h) c))) e.2))

  complete_new : (m : ℕ) (d k : Operation) → (m < length reps) ⊎ (length reps ≤ m) → m < length reps + 1 → InCoset fs (slice_index_or (reps ++ g ∷ []) m d) k → state_at s' (place k) ≡ m + 1
  complete_new m d k (inl a) h c = complete_old m d k a (subst (λ x. InCoset fs x k) (old_rep m d a) c) (nu.others (place k))
  complete_new m d k (inr a) h c = let e : m ≡ length reps = omega arith in inside_new k (subst (λ x. InCoset fs x k) (new_rep m d e) c) ∙ ap (λ x. x + 1) (sym e)

  covered_old : (p : ℕ) → state_at s p ≢ 0 → (state_at s' p ≡ state_at s p) ⊎ ((state_at s' p ≡ length reps + 1) × (p < 128) × InCoset fs g (nth_operation p)) → state_at s' p ≢ 0
  covered_old p n (inl e) z = n (sym e ∙ z)
  covered_old p n (inr e) z = apart (length reps) (sym e.0 ∙ z)

  covered_new : (j : ℕ) (d : Operation) → j < i + 1 → (j < i) ⊎ (i ≤ j) → state_at s' (place (slice_index_or gs j d)) ≢ 0
  covered_new j d h (inl a) = covered_old (place (slice_index_or gs j d)) (l.covered j d a) (nu.others (place (slice_index_or gs j d)))
  covered_new j d h (inr a) = λ z. let e : j ≡ i = omega arith in apart (length reps) (sym (inside_new g (coset_self gs fs g ig jf in_g)) ∙ ap (λ x. state_at s' (place x)) (sym (ap (λ x. slice_index_or gs x d) e ∙ at d)) ∙ z)

  abbrev FromHere : ℕ → Operation → Type 0
  FromHere n r = (j : ℕ) × (j < n) × (j < length gs) × ((d : Operation) → slice_index_or gs j d ≡ r)

  from_new : (r : Operation) → Contains reps r ⊎ (g ≡ r) → FromHere (i + 1) r
  from_new r (inl c) = let t = l.from r c in let u = t.1 in (t.0, omega arith, t.2, t.3)
  from_new r (inr e) = subst (FromHere (i + 1)) e (i, omega arith, il, at)

  rep_before : (r : Operation) → Contains reps r → IsTrue (comes_before r g)
  rep_before r c = let t = l.from r c in subst (λ x. IsTrue (comes_before x g)) (t.3 g) (subst (λ x. IsTrue (comes_before (slice_index_or gs t.0 g) x)) (at g) (rising_at comes_before gs ig.rising t.0 i g t.1 il))

  least_at : (k : Operation) (j : ℕ) → InCoset fs g k → k ≢ g → j < length gs → slice_index_or gs j k ≡ k → (j < i) ⊎ (i ≤ j) → IsTrue (comes_before g k)
  least_at k j c n h e (inl a) =
      let cov : state_at s (place k) ≢ 0 = subst (λ x. state_at s (place x) ≢ 0) e (l.covered j k a) in
      let t = l.sound (place k) g cov in
      let pk : k ≡ nth_operation (place k) = group_placed gs k ig (coset_within gs fs g k ig w in_g c) in
      absurd (not_both t.0 g k t.2 (subst (InCoset fs (slice_index_or reps t.0 g)) (sym pk) t.3) c)
  least_at k j c n h e (inr a) = later (cases_lt i j)
    where
      later : (i < j) ⊎ (j ≤ i) → IsTrue (comes_before g k)
      later (inl b) = subst (λ x. IsTrue (comes_before x k)) (at k) (subst (λ x. IsTrue (comes_before (slice_index_or gs i k) x)) e (rising_at comes_before gs ig.rising i j k b h))
      later (inr b) = let q : j ≡ i = omega arith in absurd (n (sym e ∙ ap (λ x. slice_index_or gs x k) q ∙ at k))

  least_new : (k : Operation) → InCoset fs g k → k ≢ g → IsTrue (comes_before g k)
  least_new k c n = let h : Contains gs k = coset_within gs fs g k ig w in_g c in least_at k h.0 c n h.1 h.2 (cases_lt h.0 i)

  pub listing_new : IsCovering gs fs (i + 1) (reps ++ g ∷ []) s'
  listing_new = record {
    sized = nu.sized;
    sound = λ p d n. sound_new p d n (nu.others p);
    complete = λ m d k h c. complete_new m d k (cases_lt m (length reps)) (subst (λ x. m < x) long h) c;
    covered = λ j d h. covered_new j d h (cases_lt j i);
    from = λ r c. from_new r (Contains-push_cases reps g r c);
    few = let f = l.few in let o = long in omega (arith, f, o);
    rising = rising_push comes_before reps g l.rising (each_from (λ x. IsTrue (comes_before x g)) reps rep_before);
    least = each_push (λ r. (k : Operation) → InCoset fs r k → k ≢ r → IsTrue (comes_before r k)) reps g l.least least_new;
  }

pub listed_states : (gs fs : List Operation) (i : ℕ) (reps : List Operation) (s : List ℕ) → IsGroup gs → IsCovering gs fs i reps s → length gs ≤ i → AreStates (λ x. Contains gs x) (λ x. Contains fs x) reps
listed_states gs fs i reps s ig l h = record {
  rising = l.rising;
  within = each_from (λ x. Contains gs x) reps (λ r c. let t = l.from r c in (t.0, t.2, t.3 r));
  least = l.least;
  whole = λ k c. whole k c;
}
  where
    whole : (k : Operation) → Contains gs k → (r : Operation) × Contains reps r × InCoset fs r k
    whole k c =
        let a = c.1 in
        let cov : state_at s (place k) ≢ 0 = subst (λ x. state_at s (place x) ≢ 0) c.2 (l.covered c.0 k (omega arith)) in
        let t = l.sound (place k) k cov in
        (slice_index_or reps t.0 k, Contains-get_or reps t.0 k t.2, subst (InCoset fs (slice_index_or reps t.0 k)) (sym (group_placed gs k ig c)) t.3)

pub listing_step : (gs fs : List Operation) (i n p : ℕ) (reps reps' : List Operation) (s s' s'' : List ℕ) (g : Operation) → IsCovering gs fs i reps s → ((d : Operation) → slice_index_or gs i d ≡ g) → i < length gs → p ≡ place g → state_at s p ≡ 0 → IsGroup gs → IsGroup fs → IsWithin fs gs → reps' ≡ reps ++ g ∷ [] → n ≡ length reps' → IsNumbered fs g n (length fs) s s' → s'' ≡ s' → IsCovering gs fs (i + 1) reps' s''
listing_step gs fs i n p reps reps' s s' s'' g l at il e f ig jf w q k nu t =
    let m : n ≡ length reps + 1 = k ∙ ap length q ∙ length_push reps g in
    subst (IsCovering gs fs (i + 1) reps') (sym t) (subst (λ x. IsCovering gs fs (i + 1) x s') (sym q) (listing_new gs fs i reps s s' g l at il (ap (λ x. state_at s x) (sym e) ∙ f) ig jf w (subst (λ x. IsNumbered fs g x (length fs) s s') m nu)))

pub listing_skip : (gs fs : List Operation) (i p : ℕ) (reps reps' : List Operation) (s s' : List ℕ) (g : Operation) → IsCovering gs fs i reps s → ((d : Operation) → slice_index_or gs i d ≡ g) → p ≡ place g → state_at s p ≢ 0 → reps' ≡ reps → s' ≡ s → IsCovering gs fs (i + 1) reps' s'
listing_skip gs fs i p reps reps' s s' g l at e n q t = subst (IsCovering gs fs (i + 1) reps') (sym t) (subst (λ x. IsCovering gs fs (i + 1) x s) (sym q) (listing_past gs fs i reps s g l at (λ z. n (ap (λ x. state_at s x) e ∙ z))))

pub all_listed : (gs fs : List Operation) (i : ℕ) (reps : List Operation) (s : List ℕ) → IsGroup gs → IsGroup fs → IsWithin fs gs → IsCovering gs fs i reps s → length gs ≤ i → i ≤ length gs → IsKept gs fs reps s
all_listed gs fs i reps s ig jf w l h k =
    let e : i ≡ length gs = omega arith in
    record { whole = ig; sub = jf; within = w; covering = subst (λ n. IsCovering gs fs n reps s) e l }

pub kept_states : (gs fs : List Operation) (reps : List Operation) (s : List ℕ) → IsKept gs fs reps s → AreStates (In gs) (In fs) reps
kept_states gs fs reps s i = listed_states gs fs (length gs) reps s i.whole i.covering (omega arith)
