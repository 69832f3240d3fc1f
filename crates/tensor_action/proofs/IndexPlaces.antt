-- The indices of a rank by their numbers, and sums over them.
use Rattle.list_laws.proofs.Kit.{◌≡◌, ℕ, zero, suc, ◌+◌, ◌-◌, ◌*◌, ◌<◌, ◌^◌, inl, inr, List, [], ◌∷◌, ◌++◌, length, map, get_or, take, refl, ap, sym, ◌∙◌}
use Rattle.list_laws.proofs.Kit.{subst, arith, get_or-append, pow-suc, cases_lt, get_or-append_right, get_or-map, length-map, take_more}
use Rattle.std.proofs.Common.{length-append}
use Rattle.tensor_laws.proofs.ComponentNumbers.{index_at}
use Rattle.tensor_defs.specs.Prelude.{Number, add, Axis, x1, x2, x3, sum_of, Index, Tensor, axis_at, index_of, indices, sum_indices}
use Rattle.number_laws.proofs.NumberLaws.{num_add-zero, num_zero-add, num_add_assoc}

-- ---- places
abbrev after : Axis → ℕ → List Index
after i r = map (λ js. i ∷ js) (indices r)

pub length-indices : (r : ℕ) → length (indices r) ≡ 3 ^ r
length-indices zero = refl
length-indices (suc r) =
    let n : length (indices r) ≡ 3 ^ r = length-indices r in
    let p : 3 ^ suc r ≡ 3 ^ r * 3 = pow-suc 3 r in
    omega (
      arith,
      length-append (after x1 r ++ after x2 r) (after x3 r),
      length-append (after x1 r) (after x2 r),
      length-map (indices r) (λ js. x1 ∷ js),
      length-map (indices r) (λ js. x2 ∷ js),
      length-map (indices r) (λ js. x3 ∷ js),
    )

length-after : (i : Axis) (r : ℕ) → length (after i r) ≡ 3 ^ r
length-after i r = length-map (indices r) (λ js. i ∷ js) ∙ length-indices r

one_third : (r a c n : ℕ) → get_or (indices r) c [] ≡ index_of r c → c < 3 ^ r → n ≡ a * 3 ^ r + c →
    get_or (after (axis_at a) r) c [] ≡ index_of (suc r) n
one_third r a c n at h e =
    get_or-map (λ js. axis_at a ∷ js) (indices r) c [] [] (subst (λ x. c < x) (sym (length-indices r)) h)
    ∙ ap (λ js. axis_at a ∷ js) at ∙ sym (index_at r a n c h e)

-- the index at a place
pub index_place : (r c : ℕ) → c < 3 ^ r → get_or (indices r) c [] ≡ index_of r c
index_place zero zero h = refl
index_place zero (suc c) h = absurd (omega arith)
index_place (suc r) c h =
    let N : ℕ = 3 ^ r in
    let p : 3 ^ suc r ≡ N * 3 = pow-suc 3 r in
    let a : length (after x1 r) ≡ N = length-after x1 r in
    let b : length (after x2 r) ≡ N = length-after x2 r in
    let ab : length (after x1 r ++ after x2 r) ≡ N + N = length-append (after x1 r) (after x2 r) ∙ (λ i. a i + b i) in
    elim (cases_lt c N) as (λ _. get_or (indices (suc r)) c [] ≡ index_of (suc r) c) [
      | inl l ↦
          get_or-append (after x1 r ++ after x2 r) (after x3 r) [] c (omega arith)
          ∙ get_or-append (after x1 r) (after x2 r) [] c (omega arith)
          ∙ one_third r 0 c c (index_place r c l) l (omega arith)
      | inr m ↦ elim (cases_lt c (N + N)) as (λ _. get_or (indices (suc r)) c [] ≡ index_of (suc r) c) [
        | inl l ↦
            get_or-append (after x1 r ++ after x2 r) (after x3 r) [] c (omega arith)
            ∙ get_or-append_right (after x1 r) (after x2 r) N c [] a m
            ∙ one_third r 1 (c - N) c (index_place r (c - N) (omega arith)) (omega arith) (omega arith)
        | inr k ↦
            get_or-append_right (after x1 r ++ after x2 r) (after x3 r) (N + N) c [] ab k
            ∙ one_third r 2 (c - (N + N)) c (index_place r (c - (N + N)) (omega arith)) (omega arith) (omega arith)
      ]
    ]

-- ---- sums
sum_of-append : (f : Index → Number) (xs ys : List Index) → sum_of f (xs ++ ys) ≡ add (sum_of f xs) (sum_of f ys)
sum_of-append f [] ys = sym (num_zero-add (sum_of f ys))
sum_of-append f (x ∷ xs) ys = ap (add (f x)) (sum_of-append f xs ys) ∙ sym (num_add_assoc (f x) (sum_of f xs) (sum_of f ys))

sum_of-map : (f : Index → Number) (i : Axis) (xs : List Index) → sum_of f (map (λ js. i ∷ js) xs) ≡ sum_of (λ js. f (i ∷ js)) xs
sum_of-map f i [] = refl
sum_of-map f i (x ∷ xs) = ap (add (f (i ∷ x))) (sum_of-map f i xs)

-- the sum over all indices in their order is that over each index digit
pub sum_of-indices : (r : ℕ) (f : Tensor) → sum_of f (indices r) ≡ sum_indices r f
sum_of-indices zero f = num_add-zero (f [])
sum_of-indices (suc r) f =
    let part : (i : Axis) → sum_of f (after i r) ≡ sum_indices r (λ js. f (i ∷ js)) =
    λ i. sum_of-map f i (indices r) ∙ sum_of-indices r (λ js. f (i ∷ js)) in
    sum_of-append f (after x1 r ++ after x2 r) (after x3 r)
    ∙ ap (λ x. add x (sum_of f (after x3 r))) (sum_of-append f (after x1 r) (after x2 r))
    ∙ num_add_assoc (sum_of f (after x1 r)) (sum_of f (after x2 r)) (sum_of f (after x3 r))
    ∙ (λ n. add (part x1 n) (add (part x2 n) (part x3 n)))

-- one index more
pub sum_more : (r n : ℕ) (f : Index → Number) → n < 3 ^ r →
    sum_of f (take (n + 1) (indices r)) ≡ add (sum_of f (take n (indices r))) (f (index_of r n))
sum_more r n f h =
    ap (sum_of f) (take_more (indices r) n [] (subst (λ x. n < x) (sym (length-indices r)) h))
    ∙ sum_of-append f (take n (indices r)) (get_or (indices r) n [] ∷ [])
    ∙ ap (add (sum_of f (take n (indices r)))) (num_add-zero (f (get_or (indices r) n [])) ∙ ap f (index_place r n h))
