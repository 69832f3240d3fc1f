-- Closing a list of operations under the products with generators.
--   mark_inside, set_told, set_kept, set_new, set_unmarked    marks
--   spanned_times, spanned_one, spanned_plain, spanned_hex, spanned_framed, span_frame    spans
--   reached_spanned, reached_more, times_more, grows_refl, grows_trans, added_grows ..    one more operation
--   IsReaching, reaching_none, reaching_more    the products of one element with all generators
--   no_mark, closed_none, closed_more, reached_all, held_at ..    the whole closing
use Rattle.list_laws.proofs.Kit.{◌≡◌, ℕ, zero, suc, ◌+◌, ◌<◌, ◌≤◌, ◌≢◌, Bool, true, false, List, [], ◌∷◌, ◌++◌, length, refl, ap, sym, ◌∙◌, arith}
use Rattle.list_laws.proofs.Kit.{subst, ◌⊎◌, inl, inr, length-set, get_or_append_left, get_or_push, Contains-append_left, Contains-push, Contains-get_or}
use Rattle.list_laws.proofs.Kit.{length_push, Contains-push_cases, cases_lt}
use Rattle.std.specs.Prelude.{replicate, set, slice_index_or, Contains}
use Rattle.tensor_defs.specs.Prelude.{Operation, IsProduct, identity, IsPlain, IsHexagonal, HaveCommonFrame}
use Rattle.tensor_laws.proofs.Products.{generated_within}
use Rattle.op_matrix.specs.Table.{nth_operation, place}
use Rattle.op_matrix.proofs.Facts.{place_of_nth}
use Rattle.op_matrix.proofs.Listed.{plain_product, hex_product, plain_identity, hex_identity}
use Rattle.group_closing.specs.Prelude.{mark_at, Reached, Added, unmarked, IsClosed, IsClosing, Grows, TimesReached, IsDone, HaveFrame, Spanned}

-- ---- marks
pub mark_inside : (m : List Bool) (k : ℕ) → mark_at m k ≡ true → k < length m
mark_inside [] k e = cc
mark_inside (b ∷ bs) zero e = omega arith
mark_inside (b ∷ bs) (suc k) e = let h : k < length bs = mark_inside bs k e in omega arith

pub set_told : (m : List Bool) (p k : ℕ) → mark_at (set m p true) k ≡ true → (k ≡ p) ⊎ (mark_at m k ≡ true)
set_told [] p k e = inr e
set_told (b ∷ bs) zero zero e = inl refl
set_told (b ∷ bs) zero (suc k) e = inr e
set_told (b ∷ bs) (suc p) zero e = inr e
set_told (b ∷ bs) (suc p) (suc k) e = elim (set_told bs p k e) [ inl h ↦ inl (ap suc h) | inr h ↦ inr h ]

pub set_kept : (m : List Bool) (p k : ℕ) → mark_at m k ≡ true → mark_at (set m p true) k ≡ true
set_kept [] p k e = e
set_kept (b ∷ bs) zero zero e = refl
set_kept (b ∷ bs) zero (suc k) e = e
set_kept (b ∷ bs) (suc p) zero e = e
set_kept (b ∷ bs) (suc p) (suc k) e = set_kept bs p k e

pub set_new : (m : List Bool) (p : ℕ) → p < length m → mark_at (set m p true) p ≡ true
set_new [] p h = absurd (omega arith)
set_new (b ∷ bs) zero h = refl
set_new (b ∷ bs) (suc p) h = set_new bs p (omega arith)

pub set_unmarked : (m : List Bool) (p : ℕ) → p < length m → mark_at m p ≡ false → 1 + unmarked (set m p true) ≡ unmarked m
set_unmarked [] p h e = absurd (omega arith)
set_unmarked (true ∷ bs) zero h e = cc
set_unmarked (false ∷ bs) zero h e = refl
set_unmarked (true ∷ bs) (suc p) h e = set_unmarked bs p (omega arith) e
set_unmarked (false ∷ bs) (suc p) h e = ap (λ n. 1 + n) (set_unmarked bs p (omega arith) e)

-- ---- spans
pub spanned_times : (gens : List Operation) (s g k : Operation) → Contains gens s → Spanned gens g → IsProduct s g k →
    Spanned gens k
spanned_times gens s g k c h p = (s ∷ h.0, (c, h.1), (g, h.2, p))

pub spanned_one : (gens : List Operation) → Spanned gens identity
spanned_one gens = ([], tt, refl)

pub spanned_plain : (gens : List Operation) → ((g : Operation) → Contains gens g → IsPlain g) → (k : Operation) →
    Spanned gens k → IsPlain k
spanned_plain gens h = generated_within (λ s. Contains gens s) IsPlain plain_identity
    (λ s l c p. plain_product s l (h s c) p)

pub spanned_hex : (gens : List Operation) → ((g : Operation) → Contains gens g → IsHexagonal g) → (k : Operation) →
    Spanned gens k → IsHexagonal k
spanned_hex gens h = generated_within (λ s. Contains gens s) IsHexagonal hex_identity
    (λ s l c p. hex_product s l (h s c) p)

pub spanned_framed : (gens : List Operation) (s g : Operation) → HaveFrame gens → Contains gens s → Spanned gens g →
    HaveCommonFrame s g
spanned_framed gens s g (inl h) c e = inl (h s c, spanned_plain gens h g e)
spanned_framed gens s g (inr h) c e = inr (h s c, spanned_hex gens h g e)

pub span_frame : (gens items : List Operation) → HaveFrame gens →
    ((k : Operation) → Contains items k → Spanned gens k) → HaveFrame items
span_frame gens items (inl h) e = inl (λ g c. spanned_plain gens h g (e g c))
span_frame gens items (inr h) e = inr (λ g c. spanned_hex gens h g (e g c))

-- ---- one more operation
pub reached_spanned : (gens f : List Operation) (m : List Bool) (g : Operation) → IsClosing gens m f → Reached m g →
    Spanned gens g
reached_spanned gens f m g c r = subst (Spanned gens) (sym r.3) (c.sound r.0 r.2)

pub reached_more : (m m' : List Bool) (g : Operation) → ((k : ℕ) → mark_at m k ≡ true → mark_at m' k ≡ true) →
    Reached m g → Reached m' g
reached_more m m' g h r = (r.0, r.1, h r.0 r.2, r.3)

pub times_more : (m m' : List Bool) (g s : Operation) → ((k : ℕ) → mark_at m k ≡ true → mark_at m' k ≡ true) →
    TimesReached m g s → TimesReached m' g s
times_more m m' g s h t = (t.0, reached_more m m' t.0 h t.1, t.2)

pub grows_refl : (m : List Bool) (f : List Operation) → Grows m f m f
grows_refl m f = record { marks = λ k e. e; longer = omega arith; same = λ j d h. refl; work = omega arith }

pub grows_trans : (m m' m'' : List Bool) (f f' f'' : List Operation) → Grows m f m' f' → Grows m' f' m'' f'' →
    Grows m f m'' f''
grows_trans m m' m'' f f' f'' a b = record {
  marks = λ k e. b.marks k (a.marks k e);
  longer = omega arith;
  same = λ j d h. b.same j d (omega arith) ∙ a.same j d h;
  work = omega arith;
}

pub added_grows : (g : Operation) (m m' : List Bool) (f f' : List Operation) → length m ≡ 128 → Added g m f m' f' →
    Grows m f m' f'
added_grows g m m' f f' l a = by a.either
  where
    by : ((mark_at m (place g) ≡ true) × (m' ≡ m) × (f' ≡ f)) ⊎
        ((mark_at m (place g) ≡ false) × (m' ≡ set m (place g) true) × (f' ≡ f ++ g ∷ [])) → Grows m f m' f'
    by (inl (e, p, q)) = subst (λ x. Grows m f x f') (sym p) (subst (λ x. Grows m f m x) (sym q) (grows_refl m f))
    by (inr (e, p, q)) = subst (λ x. Grows m f x f') (sym p) (subst (λ x. Grows m f (set m (place g) true) x) (sym q)
        (record {
          marks = λ k. set_kept m (place g) k;
          longer = let n = length_push f g in omega (arith, n);
          same = λ j d h. get_or_append_left f (g ∷ []) d j h;
          work = let n = length_push f g in let u = set_unmarked m (place g) (rw l a.below) e in omega (arith, n, u);
        }))

pub added_reached : (g : Operation) (m m' : List Bool) (f f' : List Operation) → length m ≡ 128 → Added g m f m' f' →
    Reached m' g
added_reached g m m' f f' l a = (place g, a.below, by a.either, a.at)
  where
    by : ((mark_at m (place g) ≡ true) × (m' ≡ m) × (f' ≡ f)) ⊎
        ((mark_at m (place g) ≡ false) × (m' ≡ set m (place g) true) × (f' ≡ f ++ g ∷ [])) → mark_at m' (place g) ≡ true
    by (inl (e, p, q)) = ap (λ x. mark_at x (place g)) p ∙ e
    by (inr (e, p, q)) = ap (λ x. mark_at x (place g)) p ∙ set_new m (place g) (rw l a.below)

pub unreached : (m : List Bool) (g : Operation) → mark_at m (place g) ≡ false → Reached m g → ⊥
unreached m g e r = true_false (sym r.2 ∙ ap (mark_at m) (sym (place_of_nth r.0 r.1) ∙ ap place (sym r.3)) ∙ e)
  where
    true_false : true ≡ false → ⊥
    true_false e = cc

apart_new : (f : List Operation) (g : Operation) (m : List Bool) → mark_at m (place g) ≡ false →
    ((j : ℕ) (d : Operation) → j < length f → Reached m (slice_index_or f j d)) →
    ((i j : ℕ) (d : Operation) → i < j → j < length f → slice_index_or f i d ≢ slice_index_or f j d) →
    (i j : ℕ) (d : Operation) → i < j → j < length (f ++ g ∷ []) →
    slice_index_or (f ++ g ∷ []) i d ≢ slice_index_or (f ++ g ∷ []) j d
apart_new f g m u held apart i j d h l = λ e. by e (cases_lt j (length f))
  where
    by : slice_index_or (f ++ g ∷ []) i d ≡ slice_index_or (f ++ g ∷ []) j d → (j < length f) ⊎ (length f ≤ j) → ⊥
    by e (inl a) =
        apart i j d h a (sym (get_or_append_left f (g ∷ []) d i (omega arith)) ∙ e ∙ get_or_append_left f (g ∷ []) d j a)
    by e (inr a) =
        let n = length_push f g in
        let s : length f ≡ j = omega (arith, n) in
        let b : i < length f = omega arith in
        unreached m g u
        (subst (Reached m) (sym (get_or_append_left f (g ∷ []) d i b) ∙ e ∙ get_or_push f g d j s) (held i d b))

added_new : (gens : List Operation) (g : Operation) (m : List Bool) (f : List Operation) → IsClosing gens m f →
    place g < 128 → g ≡ nth_operation (place g) → mark_at m (place g) ≡ false → Spanned gens g →
    IsClosing gens (set m (place g) true) (f ++ g ∷ [])
added_new gens g m f c below at u s = record {
  counted = let n = length_push f g in let k = c.counted in let w = set_unmarked m (place g) (rw c.sized below) u in
      omega (arith, n, k, w);
  apart = apart_new f g m u c.held c.apart;
  sized = length-set m (place g) true ∙ c.sized;
  sound = λ k e. elim (set_told m (place g) k e) [
    | inl h ↦ subst (Spanned gens) (at ∙ ap nth_operation (sym h)) s
    | inr
        h ↦ c.sound k h
  ];
  waiting = λ k e. elim (set_told m (place g) k e) [
    | inl h ↦ subst (Contains (f ++ g ∷ []))
        (at ∙ ap nth_operation (sym h)) (Contains-push f g)
    | inr h ↦
        Contains-append_left f (g ∷ []) (nth_operation k) (c.waiting k h)
  ];
  held = λ j d h. elim (Contains-push_cases f g (slice_index_or (f ++ g ∷ []) j d)
      (Contains-get_or (f ++ g ∷ []) j d h)) [
        | inl i ↦ reached_more m (set m (place g) true) (slice_index_or (f ++ g ∷ []) j d) (λ k. set_kept m (place g) k)
            (subst (Reached m) i.2 (c.held i.0 (slice_index_or (f ++ g ∷ []) j d) i.1))
        | inr e ↦ subst (Reached (set m (place g) true)) e (place g, below, set_new m (place g) (rw c.sized below), at)
      ];
}

pub added_closing : (gens : List Operation) (g : Operation) (m m' : List Bool) (f f' : List Operation) →
    IsClosing gens m f → Added g m f m' f' → Spanned gens g → IsClosing gens m' f'
added_closing gens g m m' f f' c a s = by a.either
  where
    by : ((mark_at m (place g) ≡ true) × (m' ≡ m) × (f' ≡ f)) ⊎
        ((mark_at m (place g) ≡ false) × (m' ≡ set m (place g) true) × (f' ≡ f ++ g ∷ [])) → IsClosing gens m' f'
    by (inl (e, p, q)) = subst (λ x. IsClosing gens x f') (sym p) (subst (IsClosing gens m) (sym q) c)
    by (inr (e, p, q)) = subst (λ x. IsClosing gens x f') (sym p)
        (subst (IsClosing gens (set m (place g) true)) (sym q) (added_new gens g m f c a.below a.at e s))

-- ---- the products of one element with all generators
pub record IsReaching (gens : List Operation) (g : Operation) (n : ℕ) (m : List Bool) (f : List Operation)
    (m' : List Bool) (f' : List Operation) : Type 0 where
  pub closing : IsClosing gens m' f'
  pub grows : Grows m f m' f'
  pub done : (q : ℕ) (d : Operation) → q < n → TimesReached m' g (slice_index_or gens q d)

pub reaching_none : (gens : List Operation) (g : Operation) (m : List Bool) (f : List Operation) → IsClosing gens m f →
    IsReaching gens g 0 m f m f
reaching_none gens g m f c = record { closing = c; grows = grows_refl m f; done = λ q d h. absurd (omega arith) }

pub reaching_more : (gens : List Operation) (g : Operation) (n : ℕ) (m m' m'' : List Bool) (f f' f'' : List Operation)
    (s k : Operation) → IsReaching gens g n m f m' f' → n < length gens →
    ((d : Operation) → slice_index_or gens n d ≡ s) → Reached m g → IsProduct s g k → Added k m' f' m'' f'' →
    IsReaching gens g (n + 1) m f m'' f''
reaching_more gens g n m m' m'' f f' f'' s k i h at r p a =
    let c : Contains gens s = (n, h, at s) in
    let sp : Spanned gens k = spanned_times gens s g k c (reached_spanned gens f' m' g i.closing
    (reached_more m m' g i.grows.marks r)) p in
    let gr : Grows m' f' m'' f'' = added_grows k m' m'' f' f'' i.closing.sized a in
    record {
      closing = added_closing gens k m' m'' f' f'' i.closing a sp;
      grows = grows_trans m m' m'' f f' f'' i.grows gr;
      done = λ q d b. last_or_before q d b gr (added_reached k m' m'' f' f'' i.closing.sized a) (cases_lt q n);
    }
  where
    last_or_before : (q : ℕ) (d : Operation) → q < n + 1 → Grows m' f' m'' f'' → Reached m'' k → (q < n) ⊎ (n ≤ q) →
        TimesReached m'' g (slice_index_or gens q d)
    last_or_before q d b gr rk (inl l) = times_more m' m'' g (slice_index_or gens q d) gr.marks (i.done q d l)
    last_or_before q d b gr rk (inr l) = let e : q ≡ n = omega arith in
        (k, rk, subst (λ x. IsProduct x g k) (sym (ap (λ x. slice_index_or gens x d) e ∙ at d)) p)

-- ---- the whole closing
blank : (n k : ℕ) → mark_at (replicate n false) k ≡ false
blank zero k = refl
blank (suc n) zero = refl
blank (suc n) (suc k) = blank n k

pub no_mark : (n k : ℕ) → mark_at (replicate n false) k ≡ true → ⊥
no_mark n k e = let h = blank n k in cc

pub closed_none : (gens : List Operation) (m m' : List Bool) (f f' : List Operation) → m ≡ replicate 128 false →
    length m ≡ 128 → f ≡ [] → Added identity m f m' f' → IsClosed gens 0 m' f'
closed_none gens m m' f f' e l q a = record {
  closing = added_closing gens identity m m' f f' start a (spanned_one gens);
  one = added_reached identity m m' f f' l a;
  done = λ j d h. absurd (omega arith);
  within = omega arith;
}
  where
    none : (k : ℕ) → mark_at m k ≡ true → ⊥
    none k h = no_mark 128 k (ap (λ x. mark_at x k) (sym e) ∙ h)

    start : IsClosing gens m f
    start = record {
      sized = l;
      sound = λ k h. absurd (none k h);
      waiting = λ k h. absurd (none k h);
      held = λ j d h. absurd (empty j (subst (λ x. j < length x) q h));
      counted = (λ i. length (q i) + unmarked (e i)) ∙ refl;
      apart = λ i j d h a. absurd (empty j (subst (λ x. j < length x) q a));
    }
      where
        empty : (j : ℕ) → j < 0 → ⊥
        empty j h = omega arith

pub closed_more : (gens : List Operation) (n : ℕ) (m m' : List Bool) (f f' : List Operation) (g : Operation) →
    IsClosed gens n m f → n < length f → ((d : Operation) → slice_index_or f n d ≡ g) → IsClosing gens m' f' →
    Grows m f m' f' → IsDone gens m' g → IsClosed gens (n + 1) m' f'
closed_more gens n m m' f f' g c h at cl gr dn = record {
  closing = cl;
  one = reached_more m m' identity gr.marks c.one;
  done = λ j d l. by j d l (cases_lt j n);
  within = let a = gr.longer in omega arith;
}
  where
    by : (j : ℕ) (d : Operation) → j < n + 1 → (j < n) ⊎ (n ≤ j) → IsDone gens m' (slice_index_or f' j d)
    by j d l (inl a) = subst (IsDone gens m') (sym (gr.same j d (before a)))
        (λ q e b. times_more m m' (slice_index_or f j d) (slice_index_or gens q e) gr.marks (c.done j d a q e b))
      where
        before : j < n → j < length f
        before a = omega arith
    by j d l (inr a) = let e : j ≡ n = omega arith in subst (IsDone gens m')
        (sym (gr.same j d (rw e h) ∙ ap (λ x. slice_index_or f x d) e ∙ at d)) dn

pub reached_all : (gens : List Operation) (n : ℕ) (m : List Bool) (f : List Operation) → IsClosed gens n m f →
    length f ≤ n → (k : Operation) → Spanned gens k → Reached m k
reached_all gens n m f c h = generated_within (λ s. Contains gens s) (Reached m) c.one step
  where
    step : (s l : Operation) → Contains gens s → Reached m l → (k : Operation) × Reached m k × IsProduct s l k
    step s l cs r =
        let w : Contains f l = subst (Contains f) (sym r.3) (c.closing.waiting r.0 r.2) in
        let a = w.1 in
        let t : TimesReached m (slice_index_or f w.0 l) (slice_index_or gens cs.0 s) =
        c.done w.0 l (omega arith) cs.0 s cs.1 in (
          t.0,
          t.1,
          subst (λ x. IsProduct x l t.0) cs.2 (subst (λ x. IsProduct (slice_index_or gens cs.0 s) x t.0) w.2
              t.2),
        )

-- an element of the list is reached
pub held_at : (gens f : List Operation) (m : List Bool) (n : ℕ) (g : Operation) → IsClosing gens m f → n < length f →
    ((d : Operation) → slice_index_or f n d ≡ g) → Reached m g
held_at gens f m n g c h e = subst (Reached m) (e g) (c.held n g h)

-- where a place isn't marked, not all are found
pub room : (m : List Bool) (n p : ℕ) → length m ≡ 128 → n + unmarked m ≡ 128 → p < 128 → mark_at m p ≡ false → n < 128
room m n p l c h e = let u = set_unmarked m p (rw l h) e in omega (arith, u)
