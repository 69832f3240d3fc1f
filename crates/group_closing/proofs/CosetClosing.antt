-- Closing a group by whole cosets.
--   added_told, added_counted    one operation more
--   adding_none, adding_more    the products with a new operation
--   front_reached, coset_spanned, coset_more    one coset more
--   IsReachingCosets, cosets_reaching, cosets_past, cosets_next    the products of one first element with all generators
--   cosets_none, cosets_closed    the whole closing
--   group_closed, kept_group    groups that are closed already
--   group_none, next_frame, next_group, front_kept    with one generator after another
use Rattle.list_laws.proofs.Kit.{◌≡◌, ℕ, ◌+◌, ◌<◌, ◌≤◌, Bool, true, false, List, [], ◌∷◌, ◌++◌, length, take, zero, suc, refl, ap, sym, ◌∙◌, arith, subst}
use Rattle.list_laws.proofs.Kit.{◌⊎◌, inl, inr, length-set, length_push, get_or_append_left, get_or_default, take_more, take_all, Contains-append_left}
use Rattle.list_laws.proofs.Kit.{Contains-push, Contains-push_cases, Contains-get_or, cases_lt}
use Rattle.std.specs.Prelude.{slice_index_or, set, Contains, ◌↔◌, IsTrue}
use Rattle.list_laws.proofs.Prelude.{held_cases, held_here, held_later, none_held, rising_apart}
use Rattle.tensor_defs.specs.Prelude.{Operation, IsProduct, identity, comes_before, places, HaveCommonFrame}
use Rattle.tensor_laws.proofs.BlockOrder.{lexicographic_irreflexive}
use Rattle.tensor_laws.proofs.Prelude.{product_unique, product_assoc}
use Rattle.op_matrix.specs.Table.{nth_operation, place}
use Rattle.group_closing.specs.Joining.{AreCosets, HoldsGroup, InCoset, InFront, IsAdding}
use Rattle.group_closing.specs.Marks.{mark_at, marked_below, Reached, Added, unmarked, IsClosing, IsClosed, Grows, TimesReached, IsDone}
use Rattle.group_closing.specs.Sets.{HaveFrame, Spanned, IsKept}
use Rattle.group_closing.proofs.Reaching.{spanned_framed, spanned_times, mark_inside, set_told, set_unmarked, reached_spanned, reached_more, times_more, grows_refl, grows_trans, added_grows, added_reached, added_closing, unreached}
use Rattle.group_closing.proofs.Marked.{contains_of}
use Rattle.group_closing.proofs.Marked.{marked_count}
use Rattle.group_closing.proofs.Doubling.{span_more}
use Rattle.group_closing.proofs.Spans.{common_product, span_common, span_one, span_product, closed_kept, contains_reached, no_frame}

-- ---- one operation more
added_told : (p g : Operation) (m m' : List Bool) (f f' : List Operation) → Added p m f m' f' → Reached m' g → Reached m g ⊎ (g ≡ p)
added_told p g m m' f f' a r = by a.either
  where
    by : ((mark_at m (place p) ≡ true) × (m' ≡ m) × (f' ≡ f)) ⊎ ((mark_at m (place p) ≡ false) × (m' ≡ set m (place p) true) × (f' ≡ f ++ p ∷ [])) → Reached m g ⊎ (g ≡ p)
    by (inl (e, q, x)) = inl (subst (λ y. Reached y g) q r)
    by (inr (e, q, x)) = elim (set_told m (place p) r.0 (subst (λ y. mark_at y r.0 ≡ true) q r.2)) [
      | inl h ↦ inr (r.3 ∙ ap nth_operation h ∙ sym a.at)
      | inr h ↦ inl (r.0, r.1, h, r.3)
    ]

added_counted : (p : Operation) (m m' : List Bool) (f f' : List Operation) → length m ≡ 128 → length f + unmarked m ≡ 128 → Added p m f m' f' → (length m' ≡ 128) × (length f' + unmarked m' ≡ 128)
added_counted p m m' f f' l c a = by a.either
  where
    by : ((mark_at m (place p) ≡ true) × (m' ≡ m) × (f' ≡ f)) ⊎ ((mark_at m (place p) ≡ false) × (m' ≡ set m (place p) true) × (f' ≡ f ++ p ∷ [])) → (length m' ≡ 128) × (length f' + unmarked m' ≡ 128)
    by (inl (e, q, x)) = (ap length q ∙ l, (λ i. length (x i) + unmarked (q i)) ∙ c)
    by (inr (e, q, x)) =
        let n = length_push f p in
        let u = set_unmarked m (place p) (rw l a.below) e in
        let s : length (f ++ p ∷ []) + unmarked (set m (place p) true) ≡ 128 = omega (arith, n, u, c) in
        (ap length q ∙ length-set m (place p) true ∙ l, (λ i. length (x i) + unmarked (q i)) ∙ s)

-- ---- the products with a new operation
pub adding_none : (r : Operation) (n : ℕ) (m : List Bool) (f : List Operation) → length m ≡ 128 → length f + unmarked m ≡ 128 → mark_at m (place r) ≡ false → IsAdding r n 0 m f m f
adding_none r n m f l c u = record {
  sized = l;
  counted = c;
  grows = grows_refl m f;
  more = λ s. absurd (unreached m r u s);
  held = λ i d k h. absurd (omega arith);
  only = λ g s. inl s;
  closing = λ gens k s. k;
}

pub adding_more : (r : Operation) (n q : ℕ) (m m' m'' : List Bool) (f f' f'' : List Operation) (s p : Operation) → IsAdding r n q m f m' f' → q < n → n ≤ length f → ((d : Operation) → slice_index_or f' q d ≡ s) → IsProduct r s p → Added p m' f' m'' f'' → IsAdding r n (q + 1) m f m'' f''
adding_more r n q m m' m'' f f' f'' s p i h w at t a =
    let c = added_counted p m' m'' f' f'' i.sized i.counted a in
    record {
      sized = c.0;
      counted = c.1;
      grows = grows_trans m m' m'' f f' f'' i.grows grew;
      more = λ b. more b a.either;
      held = λ j d k l b. held j d k l b (cases_lt j q);
      only = λ g x. elim (added_told p g m' m'' f' f'' a x) [ inl y ↦ i.only g y | inr e ↦ inr (subst (InCoset r n f) (sym e) new) ];
      closing = λ gens k y. added_closing gens p m' m'' f' f'' (i.closing gens k y) a (y p new);
    }
  where
    grew : Grows m' f' m'' f''
    grew = added_grows p m' m'' f' f'' i.sized a

    same : (d : Operation) → slice_index_or f q d ≡ s
    same d = sym (i.grows.same q d (omega arith)) ∙ at d

    new : InCoset r n f p
    new = (s, (q, h, same), t)

    more : Reached m'' r → ((mark_at m' (place p) ≡ true) × (m'' ≡ m') × (f'' ≡ f')) ⊎ ((mark_at m' (place p) ≡ false) × (m'' ≡ set m' (place p) true) × (f'' ≡ f' ++ p ∷ [])) → length f + 1 ≤ length f''
    more b (inl (e, u, x)) = let y = i.more (subst (λ y. Reached y r) u b) in let z = ap length x in omega (arith, y, z)
    more b (inr (e, u, x)) = let y = i.grows.longer in let z = ap length x ∙ length_push f' p in omega (arith, y, z)

    held : (j : ℕ) (d k : Operation) → j < q + 1 → IsProduct r (slice_index_or f j d) k → (j < q) ⊎ (q ≤ j) → Reached m'' k
    held j d k l b (inl x) = reached_more m' m'' k grew.marks (i.held j d k x b)
    held j d k l b (inr x) =
        let e : j ≡ q = omega arith in
        let y : IsProduct r s k = subst (λ z. IsProduct r z k) (ap (λ z. slice_index_or f z d) e ∙ same d) b in
        subst (Reached m'') (product_unique r s p k t y) (added_reached p m' m'' f' f'' i.sized a)

-- an element in front
pub in_front : (r : Operation) (n q place : ℕ) (m m' : List Bool) (f f' : List Operation) (s : Operation) → IsAdding r n q m f m' f' → place < n → n ≤ length f → ((d : Operation) → slice_index_or f' place d ≡ s) → InFront n f s
in_front r n q place m m' f f' s i h w at = (place, h, λ d. sym (i.grows.same place d (omega arith)) ∙ at d)

-- ---- one coset more
pub front_reached : (gens : List Operation) (n : ℕ) (firsts f : List Operation) (m : List Bool) (t : Operation) → AreCosets gens n firsts m f → InFront n f t → Reached m t
front_reached gens n firsts f m t a i = let w = a.within in let l = i.1 in subst (Reached m) (i.2 t) (a.closing.held i.0 t (omega (arith, w, l)))

pub front_spanned : (gens : List Operation) (n : ℕ) (firsts f : List Operation) (m : List Bool) (t : Operation) → AreCosets gens n firsts m f → InFront n f t → Spanned gens t
front_spanned gens n firsts f m t a i = reached_spanned gens f m t a.closing (front_reached gens n firsts f m t a i)

front_same : (n : ℕ) (m m' : List Bool) (f f' : List Operation) (t : Operation) → n ≤ length f → Grows m f m' f' → InFront n f' t ↔ InFront n f t
front_same n m m' f f' t w g = (
  λ i. let l = i.1 in (i.0, i.1, λ d. sym (g.same i.0 d (omega (arith, w, l))) ∙ i.2 d),
  λ i. let l = i.1 in (i.0, i.1, λ d. g.same i.0 d (omega (arith, w, l)) ∙ i.2 d),
)

-- the product of two products of generators
pub span_times : (gens : List Operation) (g h k : Operation) → HaveFrame gens → Spanned gens g → Spanned gens h → IsProduct g h k → Spanned gens k
span_times gens g h k fr a b p = let r = span_product gens fr a.0 g h a.1 a.2 b in subst (Spanned gens) (product_unique g h r.0 k r.2 p) r.1

coset_here : (gens : List Operation) (n : ℕ) (firsts f f' : List Operation) (m m' : List Bool) (p : Operation) → HaveFrame gens → AreCosets gens n firsts m f → Spanned gens p → IsAdding p n n m f m' f' → Reached m' p
coset_here gens n firsts f f' m m' p fr a s i = let o = a.one in i.held o.0 p p o.1 (subst (λ z. IsProduct p z p) (sym (o.2 p)) (span_one gens p fr s).1)

pub coset_more : (gens : List Operation) (n : ℕ) (firsts firsts' f f' : List Operation) (m m' : List Bool) (p : Operation) → HaveFrame gens → AreCosets gens n firsts m f → Spanned gens p → IsAdding p n n m f m' f' → firsts' ≡ firsts ++ p ∷ [] → AreCosets gens n firsts' m' f'
coset_more gens n firsts firsts' f f' m m' p fr a s i e = subst (λ xs. AreCosets gens n xs m' f') (sym e) (record {
  closing = i.closing gens a.closing spanned;
  within = let w = a.within in let l = i.grows.longer in omega (arith, w, l);
  one = (same identity).1 a.one;
  front = λ t u k x y q. (same k).1 (a.front t u k ((same t).0 x) ((same u).0 y) q);
  covered = covered;
  whole = λ g t k r x q. whole g t k ((same t).0 x) q (i.only g r);
  heads = λ r c. elim (Contains-push_cases firsts p r c) [ inl h ↦ reached_more m m' r i.grows.marks (a.heads r h) | inr q ↦ subst (Reached m') q here ];
  few = let x = a.few in let y = i.more here in let z = length_push firsts p in omega (arith, x, y, z);
})
  where
    here : Reached m' p
    here = coset_here gens n firsts f f' m m' p fr a s i

    same : (t : Operation) → InFront n f' t ↔ InFront n f t
    same t = front_same n m m' f f' t a.within i.grows

    spanned : (g : Operation) → InCoset p n f g → Spanned gens g
    spanned g c = span_times gens p c.0 g fr s (front_spanned gens n firsts f m c.0 a c.1) c.2

    covered : (g : Operation) → Reached m' g → (r : Operation) × Contains (firsts ++ p ∷ []) r × InCoset r n f' g
    covered g r = elim (i.only g r) [
      | inl h ↦ let c = a.covered g h in (c.0, Contains-append_left firsts (p ∷ []) c.0 c.1, (c.2.0, (same c.2.0).1 c.2.1, c.2.2))
      | inr c ↦ (p, Contains-push firsts p, (c.0, (same c.0).1 c.1, c.2))
    ]

    whole : (g t k : Operation) → InFront n f t → IsProduct g t k → Reached m g ⊎ InCoset p n f g → Reached m' k
    whole g t k x q (inl h) = reached_more m m' k i.grows.marks (a.whole g t k h x q)
    whole g t k x q (inr c) =
        let b = span_common gens c.0 t fr (front_spanned gens n firsts f m c.0 a c.1) (front_spanned gens n firsts f m t a x) in
        let u = common_product c.0 t b in
        let y : InFront n f u.0 = a.front c.0 t u.0 c.1 x u.1 in
        i.held y.0 u.0 k y.1 (subst (λ z. IsProduct p z k) (sym (y.2 u.0)) (product_assoc p c.0 t g k u.0 c.2 q u.1))

-- a generator and what is reached
pub coset_told : (gens : List Operation) (n : ℕ) (xs f : List Operation) (m : List Bool) (g s : Operation) (q : ℕ) → HaveFrame gens → AreCosets gens n xs m f → Reached m g → q < length gens → ((d : Operation) → slice_index_or gens q d ≡ s) → HaveCommonFrame s g × ((p : Operation) → IsProduct s g p → Spanned gens p)
coset_told gens n xs f m g s q fr a r h at =
    let c : Contains gens s = (q, h, at s) in
    let b = reached_spanned gens f m g a.closing r in
    (spanned_framed gens s g fr c b, λ p t. spanned_times gens s g p c b t)

-- ---- the products of one first element with all generators
pub record IsReachingCosets (gens : List Operation) (g : Operation) (n q : ℕ) (xs : List Operation) (m : List Bool) (f xs' : List Operation) (m' : List Bool) (f' : List Operation) : Type 0 where
  pub cosets : AreCosets gens n xs' m' f'
  pub firsts : Grows m xs m' xs'
  pub done : (i : ℕ) (d : Operation) → i < q → TimesReached m' g (slice_index_or gens i d)

pub cosets_reaching : (gens : List Operation) (g : Operation) (n : ℕ) (xs f : List Operation) (m : List Bool) → AreCosets gens n xs m f → IsReachingCosets gens g n 0 xs m f xs m f
cosets_reaching gens g n xs f m a = record { cosets = a; firsts = grows_refl m xs; done = λ i d h. absurd (omega arith) }

done_more : (gens : List Operation) (g s p : Operation) (q : ℕ) (m m' : List Bool) → ((k : ℕ) → mark_at m k ≡ true → mark_at m' k ≡ true) → ((i : ℕ) (d : Operation) → i < q → TimesReached m g (slice_index_or gens i d)) → ((d : Operation) → slice_index_or gens q d ≡ s) → IsProduct s g p → Reached m' p → (i : ℕ) (d : Operation) → i < q + 1 → TimesReached m' g (slice_index_or gens i d)
done_more gens g s p q m m' w b at t r i d h = by (cases_lt i q)
  where
    by : (i < q) ⊎ (q ≤ i) → TimesReached m' g (slice_index_or gens i d)
    by (inl x) = times_more m m' g (slice_index_or gens i d) w (b i d x)
    by (inr x) = let e : i ≡ q = omega arith in (p, r, subst (λ z. IsProduct z g p) (sym (ap (λ z. slice_index_or gens z d) e ∙ at d)) t)

-- the product is there already
pub cosets_past : (gens : List Operation) (g : Operation) (n q : ℕ) (xs xs' f f' : List Operation) (m m' : List Bool) (s p : Operation) → IsReachingCosets gens g n q xs m f xs' m' f' → ((d : Operation) → slice_index_or gens q d ≡ s) → IsProduct s g p → Reached m' p → IsReachingCosets gens g n (q + 1) xs m f xs' m' f'
cosets_past gens g n q xs xs' f f' m m' s p i at t r = record { cosets = i.cosets; firsts = i.firsts; done = done_more gens g s p q m' m' (λ k e. e) i.done at t r }

-- its coset is new
pub cosets_next : (gens : List Operation) (g : Operation) (n q : ℕ) (xs xs' xs'' f f' f'' : List Operation) (m m' m'' : List Bool) (s p : Operation) → HaveFrame gens → IsReachingCosets gens g n q xs m f xs' m' f' → ((d : Operation) → slice_index_or gens q d ≡ s) → IsProduct s g p → Spanned gens p → IsAdding p n n m' f' m'' f'' → xs'' ≡ xs' ++ p ∷ [] → IsReachingCosets gens g n (q + 1) xs m f xs'' m'' f''
cosets_next gens g n q xs xs' xs'' f f' f'' m m' m'' s p fr i at t sp a e = record {
  cosets = coset_more gens n xs' xs'' f' f'' m' m'' p fr i.cosets sp a e;
  firsts = grows_trans m m' m'' xs xs' xs'' i.firsts (subst (Grows m' xs' m'') (sym e) longer);
  done = done_more gens g s p q m' m'' a.grows.marks i.done at t reached;
}
  where
    reached : Reached m'' p
    reached = coset_here gens n xs' f' f'' m' m'' p fr i.cosets sp a

    longer : Grows m' xs' m'' (xs' ++ p ∷ [])
    longer = record {
      marks = a.grows.marks;
      longer = let z = length_push xs' p in omega (arith, z);
      same = λ j d h. get_or_append_left xs' (p ∷ []) d j h;
      work = let x = a.more reached in let y = a.counted in let c = i.cosets.closing.counted in let z = length_push xs' p in omega (arith, x, y, c, z);
    }

-- a first element more has room
pub firsts_room : (gens : List Operation) (n : ℕ) (xs f f' : List Operation) (m m' : List Bool) (p : Operation) → HaveFrame gens → AreCosets gens n xs m f → Spanned gens p → IsAdding p n n m f m' f' → length xs < 128
firsts_room gens n xs f f' m m' p fr a s i = let x = a.few in let y = i.more (coset_here gens n xs f f' m m' p fr a s i) in let z = i.counted in omega (arith, x, y, z)

-- ---- the whole closing
closing_more : (xs ys f : List Operation) (m : List Bool) → ((k : Operation) → Spanned xs k → Spanned ys k) → IsClosing xs m f → IsClosing ys m f
closing_more xs ys f m w c = record {
  sized = c.sized;
  sound = λ k e. w (nth_operation k) (c.sound k e);
  waiting = c.waiting;
  held = c.held;
  counted = c.counted;
  apart = c.apart;
}

pushed_more : (gens : List Operation) (h k : Operation) → Spanned gens k → Spanned (gens ++ h ∷ []) k
pushed_more gens h k s = span_more gens (gens ++ h ∷ []) k (λ g c. Contains-append_left gens (h ∷ []) g c) s

pub cosets_none : (gens xs f : List Operation) (m : List Bool) (more : Operation) (n : ℕ) → HaveFrame (gens ++ more ∷ []) → HoldsGroup gens m f → n ≡ length f → xs ≡ [] ++ identity ∷ [] → AreCosets (gens ++ more ∷ []) n xs m f
cosets_none gens xs f m h n fr i e x = subst (λ k. AreCosets (gens ++ h ∷ []) k xs m f) (sym e) (subst (λ ys. AreCosets (gens ++ h ∷ []) (length f) ys m f) (sym x) (record {
  closing = closing_more gens (gens ++ h ∷ []) f m (pushed_more gens h) i.closing;
  within = omega arith;
  one = there identity one;
  front = λ t u k a b p. there k (products t u k (back t a) (back u b) p);
  covered = λ g r. (identity, Contains-push [] identity, (g, there g r, (span_one (gens ++ h ∷ []) g fr (pushed_more gens h g (reached_spanned gens f m g i.closing r))).0));
  whole = λ g t k r j p. products g t k r (back t j) p;
  heads = λ r c. elim (Contains-push_cases [] identity r c) [ inl a ↦ absurd (none_held r a) | inr q ↦ subst (Reached m) q one ];
  few = let o = there identity one in let l = o.1 in omega (arith, l);
}))
  where
    told : (g : Operation) → Contains (marked_below 128 m) g ↔ Reached m g
    told g = contains_reached m g i.closing.sized

    one : Reached m identity
    one = (told identity).0 i.kept.group.one

    products : (t u k : Operation) → Reached m t → Reached m u → IsProduct t u k → Reached m k
    products t u k a b p =
        let r = i.kept.group.closed t u ((told t).1 a) ((told u).1 b) in
        (told k).0 (subst (Contains (marked_below 128 m)) (product_unique t u r.0 k r.2 p) r.1)

    there : (g : Operation) → Reached m g → InFront (length f) f g
    there g r = let w : Contains f g = subst (Contains f) (sym r.3) (i.closing.waiting r.0 r.2) in (w.0, w.1, λ d. get_or_default f w.0 d g w.1 ∙ w.2)

    back : (g : Operation) → InFront (length f) f g → Reached m g
    back g j = subst (Reached m) (j.2 g) (i.closing.held j.0 g j.1)

pub cosets_closed : (gens xs f : List Operation) (m : List Bool) (n q : ℕ) → HaveFrame gens → AreCosets gens n xs m f → length xs ≤ q → ((i : ℕ) (d : Operation) → i < q → IsDone gens m (slice_index_or xs i d)) → IsClosed gens (length f) m f
cosets_closed gens xs f m n q fr a l done = record {
  closing = a.closing;
  one = front_reached gens n xs f m identity a a.one;
  done = λ j d h. by (slice_index_or f j d) (a.closing.held j d h);
  within = omega arith;
}
  where
    by : (g : Operation) → Reached m g → IsDone gens m g
    by g r k d h =
        let c = a.covered g r in
        let w : Contains xs c.0 = c.1 in
        let wl = w.1 in
        let t : TimesReached m (slice_index_or xs w.0 c.0) (slice_index_or gens k d) = done w.0 c.0 (omega (arith, wl, l)) k d h in
        let p : IsProduct (slice_index_or gens k d) c.0 t.0 = subst (λ x. IsProduct (slice_index_or gens k d) x t.0) w.2 t.2 in
        let i = c.2.1 in
        let b = common_product t.0 c.2.0 (span_common gens t.0 c.2.0 fr (reached_spanned gens f m t.0 a.closing t.1) (front_spanned gens n xs f m c.2.0 a i)) in
        (b.0, a.whole t.0 c.2.0 b.0 t.1 i b.1, product_assoc (slice_index_or gens k d) c.0 c.2.0 t.0 b.0 g p b.1 c.2.2)

pub head_reached : (gens : List Operation) (n : ℕ) (xs f : List Operation) (m : List Bool) (q : ℕ) (g : Operation) → AreCosets gens n xs m f → q < length xs → ((d : Operation) → slice_index_or xs q d ≡ g) → Reached m g
head_reached gens n xs f m q g a h at = a.heads g (q, h, at g)

pub firsts_done : (gens : List Operation) (q : ℕ) (xs xs' : List Operation) (m m' : List Bool) (g : Operation) → Grows m xs m' xs' → q < length xs → ((d : Operation) → slice_index_or xs q d ≡ g) → ((i : ℕ) (d : Operation) → i < q → IsDone gens m (slice_index_or xs i d)) → IsDone gens m' g → (i : ℕ) (d : Operation) → i < q + 1 → IsDone gens m' (slice_index_or xs' i d)
firsts_done gens q xs xs' m m' g w h at b e i d l = by (cases_lt i q)
  where
    by : (i < q) ⊎ (q ≤ i) → IsDone gens m' (slice_index_or xs' i d)
    by (inl x) =
        subst (IsDone gens m') (sym (w.same i d (omega arith)))
        (λ k c y. times_more m m' (slice_index_or xs i d) (slice_index_or gens k c) w.marks (b i d x k c y))
    by (inr x) =
        let s : i ≡ q = omega arith in
        subst (IsDone gens m') (sym (ap (λ z. slice_index_or xs' z d) s ∙ w.same q d h ∙ at d)) e

-- ---- groups that are closed already
pub group_closed : (gens f : List Operation) (m : List Bool) → HaveFrame gens → IsClosed gens (length f) m f → HoldsGroup gens m f
group_closed gens f m fr c = record { closing = c.closing; kept = closed_kept gens (marked_below 128 m) f (length f) m fr c (omega arith) refl }

before_irreflexive : (g : Operation) → ¬ IsTrue (comes_before g g)
unfolding comes_before
before_irreflexive g h = lexicographic_irreflexive (places g) h

kept_closing : (gens items : List Operation) (m : List Bool) → IsKept gens items m → IsClosing gens m items
kept_closing gens items m i = record {
  sized = i.marked;
  sound = λ k e. (i.spanned (nth_operation k)).0 (there k e);
  waiting = there;
  held = λ j d h. (contains_reached m (slice_index_or items j d) i.marked).0 (subst (λ xs. Contains xs (slice_index_or items j d)) i.listed (Contains-get_or items j d h));
  counted = ap (λ xs. length xs + unmarked m) i.listed ∙ marked_count m i.marked;
  apart = λ j k d l h. rising_apart comes_before before_irreflexive items i.group.rising j k d (omega arith) h (λ e. apart j k l e);
}
  where
    there : (k : ℕ) → mark_at m k ≡ true → Contains items (nth_operation k)
    there k e = subst (λ xs. Contains xs (nth_operation k)) (sym i.listed) (contains_of 128 k m (subst (λ n. k < n) i.marked (mark_inside m k e)) e)

    apart : (j k : ℕ) → j < k → j ≡ k → ⊥
    apart j k l e = omega arith

pub kept_group : (gens items : List Operation) (m : List Bool) → IsKept gens items m → HoldsGroup gens m items
kept_group gens items m i = record { closing = kept_closing gens items m i; kept = subst (λ xs. IsKept gens xs m) i.listed i }

-- ---- some of the generators
within_front : (n : ℕ) (xs : List Operation) (g : Operation) → Contains (take n xs) g → Contains xs g
within_front zero xs g c = absurd (none_held g c)
within_front (suc n) [] g c = c
within_front (suc n) (x ∷ xs) g c = elim (held_cases g x (take n xs) c) [
  | inl e ↦ subst (Contains (x ∷ xs)) e (held_here x xs)
  | inr h ↦ held_later g x xs (within_front n xs g h)
]

front_frame : (n : ℕ) (gens : List Operation) → HaveFrame gens → HaveFrame (take n gens)
front_frame n gens (inl f) = inl (λ g c. f g (within_front n gens g c))
front_frame n gens (inr f) = inr (λ g c. f g (within_front n gens g c))

pub group_none : (gens f : List Operation) (m : List Bool) → gens ≡ [] → IsClosed gens 0 m f → HoldsGroup gens m f
group_none gens f m e c = group_closed gens f m (no_frame gens e) (record {
  closing = c.closing;
  one = c.one;
  done = λ j d h q x l. absurd (none q (subst (λ xs. q < length xs) e l));
  within = omega arith;
})
  where
    none : (q : ℕ) → q < 0 → ⊥
    none q h = omega arith

-- one generator more
front_next : (n : ℕ) (gens : List Operation) (g : Operation) → n < length gens → g ≡ slice_index_or gens n g → take n gens ++ g ∷ [] ≡ take (n + 1) gens
front_next n gens g h at = sym (take_more gens n g h ∙ ap (λ x. take n gens ++ x ∷ []) (sym at))

pub next_frame : (n : ℕ) (gens : List Operation) (g : Operation) → HaveFrame gens → n < length gens → g ≡ slice_index_or gens n g → HaveFrame (take n gens ++ g ∷ [])
next_frame n gens g fr h at = subst HaveFrame (sym (front_next n gens g h at)) (front_frame (n + 1) gens fr)

pub next_group : (n : ℕ) (gens f : List Operation) (m : List Bool) (g : Operation) → n < length gens → g ≡ slice_index_or gens n g → HoldsGroup (take n gens ++ g ∷ []) m f → HoldsGroup (take (n + 1) gens) m f
next_group n gens f m g h at i = subst (λ xs. HoldsGroup xs m f) (front_next n gens g h at) i

-- all generators
pub front_kept : (n : ℕ) (gens f : List Operation) (m : List Bool) → length gens ≤ n → HoldsGroup (take n gens) m f → IsKept gens (marked_below 128 m) m
front_kept n gens f m h i = subst (λ xs. IsKept xs (marked_below 128 m) m) (take_all n gens h) i.kept
