-- The list of the operations at marked places.
--   Below    marked below n
--   marked_rising    it rises
--   marked_first    its first member
--   marked_length    and its length
--   marked_count    how many operations are marked
use Rattle.list_laws.proofs.Kit.{◌≡◌, ℕ, zero, suc, ◌+◌, ◌*◌, ◌<◌, ◌≤◌, ◌⊎◌, Bool, true, false, cond, List, [], ◌∷◌, ◌++◌, length, refl, ap, sym, ◌∙◌, arith, subst, take}
use Rattle.list_laws.proofs.Kit.{inl, inr, add-one, nat_tests, Contains-append_left, Contains-push, Contains-push_cases}
use Rattle.std.specs.Prelude.{nat_lt, Contains, IsTrue, slice_get, Some}
use Rattle.std.proofs.lemmas.List.{length-append, take_more, take_all}
use Rattle.list_laws.proofs.Prelude.{rising_push, each_from, none_held}
use Rattle.tensor_defs.specs.Prelude.{Operation, IsRising, comes_before}
use Rattle.op_matrix.specs.Table.{nth_operation}
use Rattle.op_matrix.proofs.Facts.{before_places}
use Rattle.group_closing.specs.Marks.{mark_at, marked_below, unmarked}

pub marked_next : (n : ℕ) (m : List Bool) → mark_at m n ≡ true →
    marked_below (n + 1) m ≡ marked_below n m ++ nth_operation n ∷ []
unfolding marked_below
marked_next n m e = rw (add-one, e) refl

pub marked_past : (n : ℕ) (m : List Bool) → mark_at m n ≡ false → marked_below (n + 1) m ≡ marked_below n m
unfolding marked_below
marked_past n m e = rw (add-one, e) refl

-- two places that aren't marked
pub marked_past_both : (n : ℕ) (m : List Bool) → ¬ ((mark_at m (2 * n) ≡ true) ⊎ (mark_at m (2 * n + 1) ≡ true)) →
    marked_below (2 * (n + 1)) m ≡ marked_below (2 * n) m
marked_past_both n m h =
    let e : 2 * (n + 1) ≡ 2 * n + 1 + 1 = omega arith in
    ap (λ k. marked_below k m) e
    ∙ marked_past (2 * n + 1) m (not_marked (mark_at m (2 * n + 1)) (λ t. h (inr t)))
    ∙ marked_past (2 * n) m (not_marked (mark_at m (2 * n)) (λ t. h (inl t)))
  where
    not_marked : (b : Bool) → (b ≡ true → ⊥) → b ≡ false
    not_marked true f = absurd (f refl)
    not_marked false f = refl

-- marked below n
abbrev pub Below : ℕ → List Bool → Operation → Type 0
Below n m g = (k : ℕ) × (k < n) × (mark_at m k ≡ true) × (g ≡ nth_operation k)

more : (n : ℕ) (m : List Bool) (g : Operation) → Below n m g → Below (n + 1) m g
more n m g b = let h = b.1 in (b.0, omega arith, b.2, b.3)

contains_step : (n : ℕ) (m : List Bool) (g : Operation) (b : Bool) → mark_at m n ≡ b →
    (Contains (marked_below n m) g → Below n m g) → Contains (marked_below (n + 1) m) g → Below (n + 1) m g
contains_step n m g true e h c = elim (Contains-push_cases (marked_below n m) (nth_operation n) g
    (subst (λ xs. Contains xs g) (marked_next n m e) c)) [
      | inl d ↦ more n m g (h d)
      | inr p ↦
          (n, omega arith, e, sym p)
    ]
contains_step n m g false e h c = more n m g (h (subst (λ xs. Contains xs g) (marked_past n m e) c))

pub contains_told : (n : ℕ) (m : List Bool) (g : Operation) → Contains (marked_below n m) g → Below n m g
unfolding marked_below
contains_told zero m g c = absurd (none_held g c)
contains_told (suc n) m g c = subst (λ x. Below x m g) (add-one n)
    (contains_step n m g (mark_at m n) refl (contains_told n m g)
    (subst (λ x. Contains (marked_below x m) g) (sym (add-one n)) c))

at_last : (n : ℕ) (m : List Bool) → mark_at m n ≡ true → Contains (marked_below (n + 1) m) (nth_operation n)
at_last n m e = subst (λ xs. Contains xs (nth_operation n)) (sym (marked_next n m e))
    (Contains-push (marked_below n m) (nth_operation n))

longer : (n : ℕ) (m : List Bool) (g : Operation) (b : Bool) → mark_at m n ≡ b → Contains (marked_below n m) g →
    Contains (marked_below (n + 1) m) g
longer n m g true e c = subst (λ xs. Contains xs g) (sym (marked_next n m e))
    (Contains-append_left (marked_below n m) (nth_operation n ∷ []) g c)
longer n m g false e c = subst (λ xs. Contains xs g) (sym (marked_past n m e)) c

contains_by : (n k : ℕ) (m : List Bool) (b : Bool) → nat_lt k n ≡ b → k < n + 1 → mark_at m k ≡ true →
    (k < n → Contains (marked_below n m) (nth_operation k)) → Contains (marked_below (n + 1) m) (nth_operation k)
contains_by n k m true q h e c = let l : k < n = grind (arith, nat_tests) in longer n m (nth_operation k) (mark_at m n)
    refl (c l)
contains_by n k m false q h e c = let l : n ≤ k = grind (arith, nat_tests) in let s : k ≡ n =
    omega arith in subst (λ x. Contains (marked_below (n + 1) m) (nth_operation x)) (sym s)
    (at_last n m (subst (λ x. mark_at m x ≡ true) s e))

pub contains_of : (n k : ℕ) (m : List Bool) → k < n → mark_at m k ≡ true → Contains (marked_below n m) (nth_operation k)
contains_of zero k m h e = absurd (omega arith)
contains_of (suc n) k m h e = subst (λ x. Contains (marked_below x m) (nth_operation k)) (add-one n)
    (contains_by n k m (nat_lt k n) refl (omega arith) e (λ l. contains_of n k m l e))

-- ---- it rises
is_before : (k n : ℕ) → k < n → n < 128 → IsTrue (comes_before (nth_operation k) (nth_operation n))
is_before k n h l = before_places k n (omega arith) l ∙ lt_true
  where
    lt_true : nat_lt k n ≡ true
    lt_true = grind (arith, nat_tests)

rising_step : (n : ℕ) (m : List Bool) (b : Bool) → mark_at m n ≡ b → n < 128 →
    IsRising comes_before (marked_below n m) → IsRising comes_before (marked_below (n + 1) m)
rising_step n m true e h r = subst (IsRising comes_before) (sym (marked_next n m e))
    (rising_push comes_before (marked_below n m) (nth_operation n) r (each_from (λ x. IsTrue (comes_before x (nth_operation n))) (marked_below n m) (λ x c. let b : Below n m x =
    contains_told n m x c in subst (λ y. IsTrue (comes_before y (nth_operation n))) (sym b.3) (is_before b.0 n b.1 h))))
rising_step n m false e h r = subst (IsRising comes_before) (sym (marked_past n m e)) r

pub marked_rising : (n : ℕ) (m : List Bool) → n ≤ 128 → IsRising comes_before (marked_below n m)
unfolding marked_below
marked_rising zero m h = tt
marked_rising (suc n) m h = subst (λ x. IsRising comes_before (marked_below x m)) (add-one n)
    (rising_step n m (mark_at m n) refl (omega arith) (marked_rising n m (omega arith)))

-- ---- its first member
first_kept : (xs ys : List Operation) (x : Operation) → slice_get xs 0 ≡ Some x → slice_get (xs ++ ys) 0 ≡ Some x
first_kept [] ys x e = cc
first_kept (a ∷ later) ys x e = e

first_more : (n : ℕ) (m : List Bool) (b : Bool) (x : Operation) → mark_at m n ≡ b →
    slice_get (marked_below n m) 0 ≡ Some x → slice_get (marked_below (n + 1) m) 0 ≡ Some x
first_more n m true x e h = subst (λ xs. slice_get xs 0 ≡ Some x) (sym (marked_next n m e))
    (first_kept (marked_below n m) (nth_operation n ∷ []) x h)
first_more n m false x e h = subst (λ xs. slice_get xs 0 ≡ Some x) (sym (marked_past n m e)) h

first_one : (m : List Bool) → mark_at m 0 ≡ true → slice_get (marked_below 1 m) 0 ≡ Some (nth_operation 0)
unfolding marked_below
first_one m e = subst (λ xs. slice_get xs 0 ≡ Some (nth_operation 0)) (sym (marked_next 0 m e)) refl

pub marked_first : (n : ℕ) (m : List Bool) → 0 < n → mark_at m 0 ≡ true →
    slice_get (marked_below n m) 0 ≡ Some (nth_operation 0)
marked_first zero m h e = absurd (omega arith)
marked_first (suc zero) m h e = first_one m e
marked_first (suc (suc n)) m h e = subst (λ x. slice_get (marked_below x m) 0 ≡ Some (nth_operation 0))
    (add-one (suc n)) (first_more (suc n) m (mark_at m (suc n)) (nth_operation 0) refl
    (marked_first (suc n) m (omega arith) e))

-- ---- and its length
length_step : (n : ℕ) (m : List Bool) (b : Bool) → mark_at m n ≡ b → length (marked_below n m) ≤ n →
    length (marked_below (n + 1) m) ≤ n + 1
length_step n m true e h = subst (λ xs. length xs ≤ n + 1) (sym (marked_next n m e))
    (let l = length-append (marked_below n m) (nth_operation n ∷ []) in omega (arith, l))
length_step n m false e h = subst (λ xs. length xs ≤ n + 1) (sym (marked_past n m e)) (omega arith)

pub marked_length : (n : ℕ) (m : List Bool) → length (marked_below n m) ≤ n
unfolding marked_below
marked_length zero m = omega arith
marked_length (suc n) m = subst (λ x. length (marked_below x m) ≤ x) (add-one n)
    (length_step n m (mark_at m n) refl (marked_length n m))

-- ---- how many operations are marked
unmarked_push : (m : List Bool) (b : Bool) → unmarked (m ++ b ∷ []) ≡ unmarked m + cond b 0 1
unmarked_push [] true = refl
unmarked_push [] false = refl
unmarked_push (true ∷ m) b = unmarked_push m b
unmarked_push (false ∷ m) b = let e = unmarked_push m b in omega (arith, e)

length_next : (n : ℕ) (m : List Bool) (b : Bool) → mark_at m n ≡ b →
    length (marked_below (n + 1) m) + cond b 0 1 ≡ length (marked_below n m) + 1
length_next n m true e =
    let f = ap length (marked_next n m e) in
    let l = length-append (marked_below n m) (nth_operation n ∷ []) in
    omega (arith, f, l)
length_next n m false e = let f = ap length (marked_past n m e) in omega (arith, f)

count_below : (n : ℕ) (m : List Bool) → n ≤ length m → length (marked_below n m) + unmarked (take n m) ≡ n
unfolding marked_below
count_below zero m h = refl
count_below (suc n) m h =
    let r = count_below n m (omega arith) in
    let t = ap unmarked (take_more m n false (omega arith)) ∙ unmarked_push (take n m) (mark_at m n) in
    let l = length_next n m (mark_at m n) refl in
    subst (λ k. length (marked_below k m) + unmarked (take k m) ≡ k) (add-one n) (omega (arith, r, t, l))

pub marked_count : (m : List Bool) → length m ≡ 128 → length (marked_below 128 m) + unmarked m ≡ 128
marked_count m e =
    subst (λ x. length (marked_below 128 m) + unmarked x ≡ 128) (take_all 128 m (omega arith)) (count_below 128 m (omega arith))
