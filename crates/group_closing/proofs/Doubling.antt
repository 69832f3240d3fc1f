-- A group grows by the products of a new operation with its elements: as many again.
--   span_more    more generators span more
--   cancelled    what is multiplied by an operation can be told from the product
--   span_kept    a product with an operation outside is outside
--   doubled_none, doubled_more    the doubling
--   plain_marked, few, room_left    plain operations; at most 96 operations have one frame
--   doubled_closed, taken_span, span_none, doubled_common
--       after the doubling the first elements are done for the new operation too
use Rattle.list_laws.proofs.Kit.{[], ◌≡◌, ℕ, zero, suc, ◌+◌, ◌-◌, ◌*◌, ◌^◌, ◌/◌, ◌%◌, ◌<◌, ◌≤◌, Bool, true, false, List, ◌∷◌, ◌++◌, length, refl, ap, sym}
use Rattle.list_laws.proofs.Kit.{◌∙◌, arith, subst, lit<, lit≤, ◌⊎◌, inl, inr, cond, add-one, pow-le-pow_right, pow-succ', get_or_push, length_push}
use Rattle.list_laws.proofs.Kit.{get_or_append_left, Contains-append_left, Contains-push, cases_lt}
use Rattle.std.specs.Prelude.{slice_index_or, set, Contains, nat_eq, ◌↔◌}
use Rattle.list_laws.proofs.Prelude.{all_below, below_told, same_bool, same_bool_true}
use Rattle.tensor_defs.specs.Prelude.{Operation, IsProduct, identity, IsPlain, IsHexagonal, HaveCommonFrame}
use Rattle.tensor_laws.proofs.Prelude.{product_unique, product_assoc, product_assoc_back}
use Rattle.op_matrix.specs.Prelude.{nth_operation, operation_at, place, plain_frame, hex_frame}
use Rattle.op_matrix.proofs.Facts.{inverse_at, inverse_code, half_below}
use Rattle.op_matrix.proofs.Products.{frame_code}
use Rattle.op_matrix.proofs.Hexagonal.{plain_at_of, plain_at_told, hex_of}
use Rattle.op_matrix.proofs.Order.{inverse_plain, inverse_hex, plain_closed, hex_closed}
use Rattle.op_matrix.proofs.Listed.{plain_listed, hex_listed, plain_one, hex_one, OneTimes}
use Rattle.group_closing.specs.Marks.{marks_of}
use Rattle.group_closing.specs.Prelude.{mark_at, marked_below, Reached, Added, unmarked, IsClosing, IsClosed, Grows, TimesReached, IsDone, HaveFrame}
use Rattle.group_closing.specs.Prelude.{Spanned, IsKept, InverseIn, IsSpan, IsDoubled}
use Rattle.group_closing.proofs.Reaching.{spanned_times, spanned_framed, spanned_plain, spanned_hex, reached_spanned, reached_more, times_more}
use Rattle.group_closing.proofs.Reaching.{grows_refl, grows_trans, added_grows, added_closing, unreached, mark_inside}
use Rattle.group_closing.proofs.Spans.{common_product, closed_kept, contains_reached, each_map, no_frame}

-- more generators span more
pub span_more : (xs ys : List Operation) (k : Operation) → ((g : Operation) → Contains xs g → Contains ys g) → Spanned xs k → Spanned ys k
span_more xs ys k w s = (s.0, each_map (λ g. Contains xs g) (λ g. Contains ys g) w s.0 s.1, s.2)

-- ---- what is multiplied by an operation can be told from the product
plain_inverse : (g : Operation) → IsPlain g → (v : Operation) × IsPlain v × IsProduct v g identity
plain_inverse g f =
    let a = plain_listed g f in
    let r = inverse_at a.0 (inverse_code a.0) g.primed g a.1 refl (sym a.3) in
    (operation_at (inverse_code a.0) g.primed, inverse_plain a.0 (inverse_code a.0) g.primed g a.1 refl (sym a.3) f, r.1)

hex_inverse : (g : Operation) → IsHexagonal g → (v : Operation) × IsHexagonal v × IsProduct v g identity
hex_inverse g f =
    let a = hex_listed g f in
    let r = inverse_at a.0 (inverse_code a.0) g.primed g a.1 refl (sym a.3) in
    (operation_at (inverse_code a.0) g.primed, inverse_hex a.0 (inverse_code a.0) g.primed g a.1 refl (sym a.3) f, r.1)

cancelled_by : (h s t p v w : Operation) → IsProduct v h identity → IsProduct v p w → OneTimes s → OneTimes t → IsProduct h s p → IsProduct h t p → s ≡ t
cancelled_by h s t p v w i x a b q r =
    product_unique identity s s w a.0 (product_assoc_back v h s identity w p i q x)
    ∙ sym (product_unique identity t t w b.0 (product_assoc_back v h t identity w p i r x))

pub cancelled : (gens : List Operation) (h s t p : Operation) → HaveFrame (gens ++ h ∷ []) → Spanned gens s → Spanned gens t → IsProduct h s p → IsProduct h t p → s ≡ t
cancelled gens h s t p (inl f) a b q r =
    let hp : IsPlain h = f h (Contains-push gens h) in
    let fg = λ (g : Operation) (c : Contains gens g). f g (Contains-append_left gens (h ∷ []) g c) in
    let sp : IsPlain s = spanned_plain gens fg s a in
    let tp : IsPlain t = spanned_plain gens fg t b in
    let v = plain_inverse h hp in
    let w = common_product v.0 p (inl (v.1, plain_closed h s p hp sp q)) in
    cancelled_by h s t p v.0 w.0 v.2 w.1 (plain_one s sp) (plain_one t tp) q r
cancelled gens h s t p (inr f) a b q r =
    let hp : IsHexagonal h = f h (Contains-push gens h) in
    let fg = λ (g : Operation) (c : Contains gens g). f g (Contains-append_left gens (h ∷ []) g c) in
    let sp : IsHexagonal s = spanned_hex gens fg s a in
    let tp : IsHexagonal t = spanned_hex gens fg t b in
    let v = hex_inverse h hp in
    let w = common_product v.0 p (inr (v.1, hex_closed h s p hp sp q)) in
    cancelled_by h s t p v.0 w.0 v.2 w.1 (hex_one s sp) (hex_one t tp) q r

push_one : (gens : List Operation) (h : Operation) → HaveFrame (gens ++ h ∷ []) → OneTimes h
push_one gens h (inl f) = plain_one h (f h (Contains-push gens h))
push_one gens h (inr f) = hex_one h (f h (Contains-push gens h))

-- ---- a product with an operation outside is outside
pub span_kept : (gens f : List Operation) (m : List Bool) → IsSpan gens m f → IsKept gens (marked_below 128 m) m
span_kept gens f m i = closed_kept gens (marked_below 128 m) f (length f) m i.frame i.closed (omega arith) refl

outside : (gens f : List Operation) (m : List Bool) (h s p : Operation) → IsSpan gens m f → HaveFrame (gens ++ h ∷ []) → mark_at m (place h) ≡ false → Reached m s → IsProduct h s p → Reached m p → ⊥
outside gens f m h s p i fr u rs q rp =
    let k : IsKept gens (marked_below 128 m) m = span_kept gens f m i in
    let c = λ (g : Operation). contains_reached m g i.closed.closing.sized in
    let v : InverseIn (λ g. Contains (marked_below 128 m) g) s = k.group.inverses s ((c s).1 rs) in
    let w : (w : Operation) × Contains (marked_below 128 m) w × IsProduct p v.0 w = k.group.closed p v.0 ((c p).1 rp) v.1 in
    let a : IsProduct h identity w.0 = product_assoc h s v.0 p w.0 identity q w.2 v.2 in
    let e : h ≡ w.0 = product_unique h identity h w.0 (push_one gens h fr).1 a in
    unreached m h u (subst (Reached m) (sym e) ((c w.0).0 w.1))

-- ---- the doubling
pub doubled_none : (gens f : List Operation) (m : List Bool) (h : Operation) → IsSpan gens m f → IsDoubled gens h 0 m f m f
doubled_none gens f m h i = record {
  closing = more_closing gens f m h i.closed.closing;
  grows = grows_refl m f;
  size = omega arith;
  times = λ q d l. absurd (omega arith);
}
  where
    more_closing : (gens f : List Operation) (m : List Bool) (h : Operation) → IsClosing gens m f → IsClosing (gens ++ h ∷ []) m f
    more_closing gens f m h c = record {
      sized = c.sized;
      sound = λ k e. span_more gens (gens ++ h ∷ []) (nth_operation k) (λ g a. Contains-append_left gens (h ∷ []) g a) (c.sound k e);
      waiting = c.waiting;
      held = c.held;
      counted = c.counted;
      apart = c.apart;
    }

fresh : (gens f f' : List Operation) (m m' : List Bool) (n : ℕ) (h s p : Operation) → IsSpan gens m f → HaveFrame (gens ++ h ∷ []) → mark_at m (place h) ≡ false → IsDoubled gens h n m f m' f' → n < length f → ((d : Operation) → slice_index_or f' n d ≡ s) → IsProduct h s p → place p < 128 → p ≡ nth_operation (place p) → mark_at m' (place p) ≡ true → ⊥
fresh gens f f' m m' n h s p i fr u b l at q below is e = by (cases_lt c.0 (length f))
  where
    c : Contains f' p
    c = subst (Contains f') (sym is) (b.closing.waiting (place p) e)

    same : (d : Operation) → slice_index_or f n d ≡ s
    same d = sym (b.grows.same n d l) ∙ at d

    rs : Reached m s
    rs = subst (Reached m) (same s) (i.closed.closing.held n s l)

    by : (c.0 < length f) ⊎ (length f ≤ c.0) → ⊥
    by (inl a) = outside gens f m h s p i fr u rs q (subst (Reached m) (sym (b.grows.same c.0 p a) ∙ c.2) (i.closed.closing.held c.0 p a))
    by (inr a) =
        let r : ℕ = c.0 - length f in
        let k = c.1 in
        let z = b.size in
        let rn : r < n = omega arith in
        let t : IsProduct h (slice_index_or f r p) (slice_index_or f' (length f + r) p) = b.times r p rn in
        let j : length f + r ≡ c.0 = omega arith in
        let t' : IsProduct h (slice_index_or f r p) p = subst (IsProduct h (slice_index_or f r p)) (ap (λ x. slice_index_or f' x p) j ∙ c.2) t in
        let rl : r < length f = omega arith in
        let rr : Reached m (slice_index_or f r p) = i.closed.closing.held r p rl in
        let e2 : slice_index_or f r p ≡ s = cancelled gens h (slice_index_or f r p) s p fr (reached_spanned gens f m (slice_index_or f r p) i.closed.closing rr) (reached_spanned gens f m s i.closed.closing rs) t' q in
        i.closed.closing.apart r n p rn l (e2 ∙ sym (same p))

pub doubled_more : (gens f f' f'' : List Operation) (m m' m'' : List Bool) (n : ℕ) (h s p : Operation) → IsSpan gens m f → HaveFrame (gens ++ h ∷ []) → mark_at m (place h) ≡ false → IsDoubled gens h n m f m' f' → n < length f → ((d : Operation) → slice_index_or f' n d ≡ s) → IsProduct h s p → Added p m' f' m'' f'' → IsDoubled gens h (n + 1) m f m'' f''
doubled_more gens f f' f'' m m' m'' n h s p i fr u b l at q a = by a.either
  where
    same : (d : Operation) → slice_index_or f n d ≡ s
    same d = sym (b.grows.same n d l) ∙ at d

    spanned : Spanned (gens ++ h ∷ []) p
    spanned = spanned_times (gens ++ h ∷ []) h s p (Contains-push gens h) (span_more gens (gens ++ h ∷ []) s (λ g c. Contains-append_left gens (h ∷ []) g c) (reached_spanned gens f m s i.closed.closing (subst (Reached m) (same s) (i.closed.closing.held n s l)))) q

    grew : Grows m' f' m'' f''
    grew = added_grows p m' m'' f' f'' b.closing.sized a

    by : ((mark_at m' (place p) ≡ true) × (m'' ≡ m') × (f'' ≡ f')) ⊎ ((mark_at m' (place p) ≡ false) × (m'' ≡ set m' (place p) true) × (f'' ≡ f' ++ p ∷ [])) → IsDoubled gens h (n + 1) m f m'' f''
    by (inl (e, w, x)) = absurd (fresh gens f f' m m' n h s p i fr u b l at q a.below a.at e)
    by (inr (e, w, x)) = record {
      closing = added_closing (gens ++ h ∷ []) p m' m'' f' f'' b.closing a spanned;
      grows = grows_trans m m' m'' f f' f'' b.grows grew;
      size = ap length x ∙ longer;
      times = λ r d k. last r d k (cases_lt r n);
    }
      where
        longer : length (f' ++ p ∷ []) ≡ length f + (n + 1)
        longer = let z = b.size in let y = length_push f' p in omega (arith, z, y)

        last : (r : ℕ) (d : Operation) → r < n + 1 → (r < n) ⊎ (n ≤ r) → IsProduct h (slice_index_or f r d) (slice_index_or f'' (length f + r) d)
        last r d k (inl o) = let z = b.size in subst (IsProduct h (slice_index_or f r d)) (sym (grew.same (length f + r) d (omega arith))) (b.times r d o)
        last r d k (inr o) =
            let z = b.size in
            let j : length f' ≡ length f + r = omega arith in
            let rn : n ≡ r = omega arith in
            subst (λ y. IsProduct h y (slice_index_or f'' (length f + r) d)) (sym (same d) ∙ ap (λ y. slice_index_or f y d) rn)
            (subst (IsProduct h s) (sym (ap (λ y. slice_index_or y (length f + r) d) x ∙ get_or_push f' p d (length f + r) j)) q)

-- ---- at most 96 operations have one frame
abbrev tabulated : ℕ → ℕ → (ℕ → Bool) → List Bool
tabulated zero k p = []
tabulated (suc n) k p = p k ∷ tabulated n (k + 1) p

abbrev is_plain_at : ℕ → Bool
is_plain_at k = plain_frame (frame_code (k / 2))

abbrev is_hex_at : ℕ → Bool
is_hex_at k = hex_frame (frame_code (k / 2))

plain_marks : List Bool
plain_marks = tabulated 128 0 is_plain_at

hex_marks : List Bool
hex_marks = tabulated 128 0 is_hex_at

plain_left : (32 ≤ unmarked plain_marks) × (length plain_marks ≡ 128)
unfolding plain_marks frame_code
plain_left = (lit≤ tt, refl)

hex_left : (32 ≤ unmarked hex_marks) × (length hex_marks ≡ 128)
unfolding hex_marks frame_code
hex_left = (lit≤ tt, refl)

plain_at_all : all_below 128 (λ k. same_bool (mark_at plain_marks k) (is_plain_at k)) ≡ true
unfolding plain_marks frame_code
plain_at_all = refl

hex_at_all : all_below 128 (λ k. same_bool (mark_at hex_marks k) (is_hex_at k)) ≡ true
unfolding hex_marks frame_code
hex_at_all = refl

-- the marks of the plain operations by binary digits
plain_digits : marks_of 18374967954648269055 18374967954648269055 ≡ plain_marks
unfolding plain_marks frame_code marks_of
plain_digits = refl

pub plain_marked : (k : ℕ) → k < 128 → (mark_at (marks_of 18374967954648269055 18374967954648269055) k ≡ true) ↔ IsPlain (nth_operation k)
unfolding nth_operation
plain_marked k h = (
  λ e. plain_at_told (k / 2) (nat_eq (k % 2) 1) (half_below k h) (sym same ∙ e),
  λ p. same ∙ plain_at_of (k / 2) (nat_eq (k % 2) 1) (half_below k h) p,
)
  where
    same : mark_at (marks_of 18374967954648269055 18374967954648269055) k ≡ is_plain_at k
    same =
        ap (λ m. mark_at m k) plain_digits
        ∙ same_bool_true (mark_at plain_marks k) (is_plain_at k) (below_told 128 (λ k. same_bool (mark_at plain_marks k) (is_plain_at k)) plain_at_all k h)

fewer_at : (m p : List Bool) (b c : Bool) (n u : ℕ) → (b ≡ true → c ≡ true) → u ≤ n → cond c u (1 + u) ≤ cond b n (1 + n)
fewer_at m p true true n u h l = l
fewer_at m p true false n u h l = let e = h refl in cc
fewer_at m p false true n u h l = omega arith
fewer_at m p false false n u h l = omega arith

-- fewer marks leave more places
unmarked_more : (m p : List Bool) → length m ≡ length p → ((k : ℕ) → mark_at m k ≡ true → mark_at p k ≡ true) → unmarked p ≤ unmarked m
unmarked_more [] [] e h = omega arith
unmarked_more [] (c ∷ p) e h = absurd (omega arith)
unmarked_more (b ∷ m) [] e h = absurd (omega arith)
unmarked_more (b ∷ m) (c ∷ p) e h = fewer_at m p b c (unmarked m) (unmarked p) (h 0) (unmarked_more m p (omega arith) (λ k. h (suc k)))

pub few : (gens f : List Operation) (m : List Bool) → HaveFrame gens → IsClosing gens m f → length f ≤ 96
unfolding nth_operation
few gens f m (inl fr) c =
    let u : unmarked plain_marks ≤ unmarked m = unmarked_more m plain_marks (c.sized ∙ sym plain_left.1) marked in
    let l = plain_left.0 in
    let k = c.counted in
    omega (arith, u, l, k)
  where
    marked : (k : ℕ) → mark_at m k ≡ true → mark_at plain_marks k ≡ true
    marked k e =
        let h : k < 128 = subst (λ n. k < n) c.sized (mark_inside m k e) in
        same_bool_true (mark_at plain_marks k) (is_plain_at k) (below_told 128 (λ k. same_bool (mark_at plain_marks k) (is_plain_at k)) plain_at_all k h)
        ∙ plain_at_of (k / 2) (nat_eq (k % 2) 1) (half_below k h) (spanned_plain gens fr (nth_operation k) (c.sound k e))
few gens f m (inr fr) c =
    let u : unmarked hex_marks ≤ unmarked m = unmarked_more m hex_marks (c.sized ∙ sym hex_left.1) marked in
    let l = hex_left.0 in
    let k = c.counted in
    omega (arith, u, l, k)
  where
    marked : (k : ℕ) → mark_at m k ≡ true → mark_at hex_marks k ≡ true
    marked k e =
        let h : k < 128 = subst (λ n. k < n) c.sized (mark_inside m k e) in
        same_bool_true (mark_at hex_marks k) (is_hex_at k) (below_told 128 (λ k. same_bool (mark_at hex_marks k) (is_hex_at k)) hex_at_all k h)
        ∙ hex_of (k / 2) (nat_eq (k % 2) 1) (half_below k h) (spanned_hex gens fr (nth_operation k) (c.sound k e))

small_power : (k : ℕ) → 2 ^ k ≤ 48 → (k < 6) ⊎ (6 ≤ k) → k < 6
small_power k h (inl a) = a
small_power k h (inr a) = let p : 2 ^ 6 ≤ 2 ^ k = pow-le-pow_right {n = 2} (lit< tt) {i = 6} {j = k} a in absurd (omega (arith, p))

-- so at most six are taken
pub room_left : (gens f f' : List Operation) (m m' : List Bool) (h : Operation) → IsSpan gens m f → HaveFrame (gens ++ h ∷ []) → IsDoubled gens h (length f) m f m' f' → length gens < 6
room_left gens f f' m m' h i fr b =
    let n = few (gens ++ h ∷ []) f' m' fr b.closing in
    let s = b.size in
    let d = i.doubled in
    small_power (length gens) (omega arith) (cases_lt (length gens) 6)

-- ---- after the doubling the first elements are done for the new operation too
done_twice : (gens f f' : List Operation) (m m' : List Bool) (h : Operation) → IsSpan gens m f → IsDoubled gens h (length f) m f m' f' → (j : ℕ) (d : Operation) → j < length f → IsDone (gens ++ h ∷ []) m' (slice_index_or f' j d)
done_twice gens f f' m m' h i b j d l q e k = by (cases_lt q (length gens))
  where
    same : slice_index_or f' j d ≡ slice_index_or f j d
    same = b.grows.same j d l

    by : (q < length gens) ⊎ (length gens ≤ q) → TimesReached m' (slice_index_or f' j d) (slice_index_or (gens ++ h ∷ []) q e)
    by (inl a) =
        subst (λ x. TimesReached m' x (slice_index_or (gens ++ h ∷ []) q e)) (sym same)
        (subst (TimesReached m' (slice_index_or f j d)) (sym (get_or_append_left gens (h ∷ []) e q a))
        (times_more m m' (slice_index_or f j d) (slice_index_or gens q e) b.grows.marks (i.closed.done j d l q e a)))
    by (inr a) =
        let n = length_push gens h in
        let z = b.size in
        let s : length gens ≡ q = omega (arith, n) in
        subst (λ x. TimesReached m' x (slice_index_or (gens ++ h ∷ []) q e)) (sym same)
        (subst (TimesReached m' (slice_index_or f j d)) (sym (get_or_push gens h e q s))
        (slice_index_or f' (length f + j) d, b.closing.held (length f + j) d (omega arith), b.times j d l))

pub doubled_closed : (gens f f' : List Operation) (m m' : List Bool) (h : Operation) → IsSpan gens m f → IsDoubled gens h (length f) m f m' f' → IsClosed (gens ++ h ∷ []) (length f) m' f'
doubled_closed gens f f' m m' h i b = record {
  closing = b.closing;
  one = reached_more m m' identity b.grows.marks i.closed.one;
  done = done_twice gens f f' m m' h i b;
  within = b.grows.longer;
}

pub taken_span : (gens f f' f'' : List Operation) (m m' m'' : List Bool) (h : Operation) → IsSpan gens m f → HaveFrame (gens ++ h ∷ []) → IsDoubled gens h (length f) m f m' f' → IsClosed (gens ++ h ∷ []) (length f'') m'' f'' → Grows m' f' m'' f'' → IsSpan (gens ++ h ∷ []) m'' f''
taken_span gens f f' f'' m m' m'' h i fr b c g = record {
  frame = fr;
  closed = c;
  doubled =
      let n = length_push gens h in
      let e : 2 ^ length (gens ++ h ∷ []) ≡ 2 * 2 ^ length gens = ap (λ x. 2 ^ x) (n ∙ add-one (length gens)) ∙ pow-succ' 2 (length gens) in
      let z = b.size in
      let l = g.longer in
      let d = i.doubled in
      omega (arith, e);
}

-- no operations taken
pub span_none : (gens f : List Operation) (m : List Bool) → gens ≡ [] → IsClosed gens 0 m f → IsSpan gens m f
span_none gens f m e c = record {
  frame = no_frame gens e;
  closed = record {
    closing = c.closing;
    one = c.one;
    done = λ j d h q d' k. absurd (empty q (subst (λ x. q < length x) e k));
    within = omega arith;
  };
  doubled = let w : Contains f (nth_operation c.one.0) = c.closing.waiting c.one.0 c.one.2 in let l = w.1 in
      subst (λ x. 2 ^ length x ≤ length f) (sym e) (at_least l);
}
  where
    empty : (q : ℕ) → q < 0 → ⊥
    empty q h = omega arith

    at_least : {k n : ℕ} → k < n → 2 ^ 0 ≤ n
    at_least h = omega arith

-- the frame of the operation and an element
pub doubled_common : (gens f f' : List Operation) (m m' : List Bool) (n : ℕ) (h s : Operation) → IsSpan gens m f → HaveFrame (gens ++ h ∷ []) → IsDoubled gens h n m f m' f' → n < length f → ((d : Operation) → slice_index_or f' n d ≡ s) → HaveCommonFrame h s
doubled_common gens f f' m m' n h s i fr b l at =
    spanned_framed (gens ++ h ∷ []) h s fr (Contains-push gens h)
    (reached_spanned (gens ++ h ∷ []) f' m' s b.closing (subst (Reached m') (at s) (b.closing.held n s (omega (arith, b.size)))))
