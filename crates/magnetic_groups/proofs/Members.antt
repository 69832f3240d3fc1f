-- What is read off a group: places and frames.
--   kept_length, found_at, framed_told, all_plain, rest_hexagonal    lengths, places and frames
--   outside_at, inside_more, inside_all    the least place outside
use Rattle.list_laws.proofs.Kit.{◌≡◌, ℕ, ◌+◌, ◌<◌, ◌≤◌, ◌⊎◌, Bool, true, false, List, length, ap, sym, ◌∙◌, arith, subst, inl, inr, cases_lt, get_or_default, Contains-get_or, slice_get-get_or}
use Rattle.list_laws.proofs.Kit.{eqb-true, false≢true}
use Rattle.std.specs.Prelude.{slice_index_or, slice_get, Option, Some, Contains, ◌↔◌, IsTrue, nat_eq}
use Rattle.tensor_defs.specs.declared.OpKind.TheVariants.{Three}
use Rattle.tensor_defs.specs.declared.Direction.TheVariants.{Z}
use Rattle.tensor_defs.specs.Prelude.{operation_of, Operation, IsPlain, IsHexagonal, AllOf, IsThe, IsFramed}
use Rattle.op_matrix.specs.Prelude.{nth_operation, place}
use Rattle.op_matrix.proofs.Order.{same_place}
use Rattle.magnetic_groups.specs.Sets.{In, HaveFrame, IsKept, IsFirstOutside, IsWithin}
use Rattle.group_closing.proofs.Spans.{member_framed}
use Rattle.group_closing.specs.Marks.{AreWithin, mark_at}
use Rattle.group_closing.proofs.Marked.{Below, contains_of, contains_told, marked_length}

pub kept_length : (gens items : List Operation) (m : List Bool) → IsKept gens items m → length items ≤ 128
kept_length gens items m i = subst (λ xs. length xs ≤ 128) (sym i.listed) (marked_length 128 m)

-- the element at a place where the test of sameness passed
pub found_at : (gens items view : List Operation) (m : List Bool) (n : ℕ) (g op : Operation) → IsKept gens items m →
    items ≡ view → n < length items → g ≡ slice_index_or items n g → Contains view op →
    nat_eq (place g) (place op) ≡ true → slice_get view n ≡ Some op
found_at gens items view m n g op i e h at c t =
    subst (λ xs. slice_get xs n ≡ Some op) e (slice_get-get_or items n g h ∙ ap Some (sym at ∙ same))
  where
    inside : Contains items g
    inside = subst (Contains items) (sym at) (Contains-get_or items n g h)

    same : g ≡ op
    same =
        same_place g op (member_framed items g i.group.frame inside)
        (member_framed items op i.group.frame (subst (λ xs. Contains xs op) (sym e) c))
        (eqb-true (place g) (place op) t)

-- not all plain, so all hexagonal; then framed exactly where 3z is an element
pub framed_told : (xs : List Operation) (turn : Operation) (p b : Bool) (o : Option Operation) →
    (IsTrue p ↔ AllOf (In xs) IsPlain) →
    (p ≡ false → AllOf (In xs) IsHexagonal) → p ≡ false → o ≡ operation_of Three Z false → o ≡ Some turn →
    (IsTrue b ↔ Contains xs turn) → IsTrue b ↔ IsFramed (In xs)
framed_told xs turn p b o plain hex f e is has = (forth, back)
  where
    the : IsThe (operation_of Three Z false) turn
    the = sym e ∙ is

    out : {a c : Operation} → Some a ≡ Some c → a ≡ c
    out e = cc

    forth : IsTrue b → IsFramed (In xs)
    forth t = inr (hex f, λ g h. subst (Contains xs) (out (sym the ∙ h)) (has.0 t))

    back : IsFramed (In xs) → IsTrue b
    back (inl a) = absurd (false≢true (sym f ∙ plain.1 a))
    back (inr a) = has.1 (a.1 turn the)

-- by the marks of the plain operations
pub all_plain : (gens items view : List Operation) (m p : List Bool) (b : Bool) → IsKept gens items m → items ≡ view → (IsTrue b ↔ AreWithin m p) → ((k : ℕ) → k < 128 → (mark_at p k ≡ true) ↔ IsPlain (nth_operation k)) → IsTrue b ↔ AllOf (In view) IsPlain
all_plain gens items view m p b i e w plain = (
  λ t g c. let r : Below 128 m g = contains_told 128 m g (subst (λ xs. Contains xs g) (sym e ∙ i.listed) c) in
      subst IsPlain (sym r.3) ((plain r.0 r.1).0 (w.0 t r.0 r.1 r.2)),
  λ a. w.1 (λ k h t. (plain k h).1 (a (nth_operation k) (subst (λ xs. Contains xs (nth_operation k)) (sym i.listed ∙ e) (contains_of 128 k m h t)))),
)

pub rest_hexagonal : (gens items view : List Operation) (m : List Bool) (b : Bool) → IsKept gens items m → items ≡ view → (IsTrue b ↔ AllOf (In view) IsPlain) → b ≡ false → AllOf (In view) IsHexagonal
rest_hexagonal gens items view m b i e t q = by (subst HaveFrame e i.group.frame)
  where
    by : HaveFrame view → AllOf (In view) IsHexagonal
    by (inl p) = absurd (false≢true (sym q ∙ t.1 p))
    by (inr p) = p

-- ---- the least place outside
pub outside_at : (xs ys zs : List Operation) (n : ℕ) (g : Operation) (b : Bool) → xs ≡ zs → n < length xs →
    g ≡ slice_index_or xs n g → ((IsTrue b → Contains ys g) × (Contains ys g → IsTrue b)) → b ≡ false →
    ((j : ℕ) (d : Operation) → j < n → Contains ys (slice_index_or xs j d)) → IsFirstOutside zs ys n
outside_at xs ys zs n g b e h at t f m = subst (λ x. IsFirstOutside x ys n) e (record {
  below = h;
  outside = λ d c. false≢true (sym f ∙ t.1 (subst (Contains ys) (get_or_default xs n d g h ∙ sym at) c));
  earlier = m;
})

pub inside_more : (xs ys : List Operation) (n : ℕ) (g : Operation) → n < length xs → g ≡ slice_index_or xs n g →
    Contains ys g → ((j : ℕ) (d : Operation) → j < n → Contains ys (slice_index_or xs j d)) → (j : ℕ) (d : Operation) →
    j < n + 1 → Contains ys (slice_index_or xs j d)
inside_more xs ys n g h at c m j d l = by (cases_lt j n)
  where
    by : (j < n) ⊎ (n ≤ j) → Contains ys (slice_index_or xs j d)
    by (inl a) = m j d a
    by (inr a) = let e : j ≡ n = omega arith in subst (Contains ys)
        (at ∙ get_or_default xs n g d h ∙ ap (λ x. slice_index_or xs x d) (sym e)) c

pub inside_all : (xs ys zs : List Operation) (n : ℕ) → xs ≡ zs → length xs ≤ n →
    ((j : ℕ) (d : Operation) → j < n → Contains ys (slice_index_or xs j d)) → IsWithin zs ys
inside_all xs ys zs n e h m = subst (λ x. IsWithin x ys) e (λ g c. let l =
    c.1 in subst (Contains ys) c.2 (m c.0 g (omega arith)))
