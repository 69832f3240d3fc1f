-- A signed permutation matrix is undone by its inverse.
--   ops_reversible, images_small, signs_more, signs_of-same, permutation_told
--       six turns of a permutation of three columns lead back
use Rattle.std.proofs.Common.{◌≡◌, ℕ, ◌+◌, ◌<◌, ◌≤◌, ◌^◌, List, length, zero, suc, arith, ap, sym, ◌∙◌, refl, subst, lit<, ◌⊎◌, inl, inr, ◌≢◌}
use Rattle.tensor_rank.proofs.ExchangeLaws.{digit_below, power_small}
use Rattle.tensor_rank.specs.Prelude.{digit_of, number_of, number_of-same, number_of-below, number_of-digits, digit_of-number}
use Rattle.sign_moves.specs.Prelude.{IsReversible, Reaches, stay, move, times}
use Rattle.tensor_defs.specs.declared.Sign.TheVariants.{Plus}
use Rattle.tensor_defs.specs.declared.Sign.{Sign}
use Rattle.constraint_rows.specs.declared.ops.PlainOp.{PlainOp}
use Rattle.constraint_rows.specs.PlainOps.{image, entry_sign, signs_of, op_carried, op_sign, HasColumns, IsPermutation, ArePermutations, op_at, op_moves}

pub op_carried_within : (r : ℕ) (op : PlainOp) → HasColumns op → (c : ℕ) → op_carried r op c < 3 ^ r
unfolding op_carried
op_carried_within r op h c = number_of-below r (λ p. image op (digit_of r c p)) (λ p _. h.small (digit_of r c p) (digit_below r c p))

-- ---- six turns of a permutation of three columns lead back
cases_3 : (n : ℕ) → n < 3 → (n ≡ 0) ⊎ ((n ≡ 1) ⊎ (n ≡ 2))
cases_3 zero h = inl refl
cases_3 (suc zero) h = inr (inl refl)
cases_3 (suc (suc zero)) h = inr (inr refl)
cases_3 (suc (suc (suc n))) h = absurd (omega arith)

abbrev turns : (ℕ → ℕ) → ℕ → ℕ → ℕ
turns f zero d = d
turns f (suc n) d = turns f n (f d)

of_three : (f : ℕ → ℕ) → f (f (f (f (f (f 0))))) ≡ 0 → f (f (f (f (f (f 1))))) ≡ 1 → f (f (f (f (f (f 2))))) ≡ 2 → (d : ℕ) → d < 3 → turns f 6 d ≡ d
of_three f a b c zero h = a
of_three f a b c (suc zero) h = b
of_three f a b c (suc (suc zero)) h = c
of_three f a b c (suc (suc (suc n))) h = absurd (omega arith)

six_turns : (f : ℕ → ℕ) → ((d : ℕ) → d < 3 → f d < 3) → ((d e : ℕ) → d < 3 → e < 3 → f d ≡ f e → d ≡ e) → (d : ℕ) → d < 3 → turns f 6 d ≡ d
six_turns f small inj d h =
    let s0 = cases_3 (f 0) (small 0 (lit< tt)) in
    let s1 = cases_3 (f 1) (small 1 (lit< tt)) in
    let s2 = cases_3 (f 2) (small 2 (lit< tt)) in
    let n01 : f 0 ≢ f 1 = λ e. let n = inj 0 1 (lit< tt) (lit< tt) e in cc in
    let n02 : f 0 ≢ f 2 = λ e. let n = inj 0 2 (lit< tt) (lit< tt) e in cc in
    let n12 : f 1 ≢ f 2 = λ e. let n = inj 1 2 (lit< tt) (lit< tt) e in cc in
    of_three f (grind (arith, s0, s1, s2, n01, n02, n12)) (grind (arith, s0, s1, s2, n01, n02, n12)) (grind (arith, s0, s1, s2, n01, n02, n12)) d h

abbrev again : ℕ → PlainOp → ℕ → ℕ → ℕ
again r op zero c = c
again r op (suc n) c = again r op n (op_carried r op c)

again_below : (r : ℕ) (op : PlainOp) → HasColumns op → (n c : ℕ) → c < 3 ^ r → again r op n c < 3 ^ r
again_below r op h zero c l = l
again_below r op h (suc n) c l = again_below r op h n (op_carried r op c) (op_carried_within r op h c)

carried_digit : (r : ℕ) (op : PlainOp) → HasColumns op → (c p : ℕ) → p < r → digit_of r (op_carried r op c) p ≡ image op (digit_of r c p)
unfolding op_carried
carried_digit r op h c p l = digit_of-number r (λ q. image op (digit_of r c q)) (λ q _. h.small (digit_of r c q) (digit_below r c q)) p l

again_digit : (r : ℕ) (op : PlainOp) → HasColumns op → (n c p : ℕ) → p < r → digit_of r (again r op n c) p ≡ turns (image op) n (digit_of r c p)
again_digit r op h zero c p l = refl
again_digit r op h (suc n) c p l = again_digit r op h n (op_carried r op c) p l ∙ ap (turns (image op) n) (carried_digit r op h c p l)

again_home : (r : ℕ) (op : PlainOp) → IsPermutation op → (c : ℕ) → c < 3 ^ r → again r op 6 c ≡ c
again_home r op h c l =
    sym (number_of-digits r (again r op 6 c) (again_below r op h.columns 6 c l))
    ∙ number_of-same r (digit_of r (again r op 6 c)) (digit_of r c) (λ p m. again_digit r op h.columns 6 c p m ∙ six_turns (image op) h.columns.small h.injective (digit_of r c p) (digit_below r c p))
    ∙ number_of-digits r c l

again_reaches : (r : ℕ) (ops : List PlainOp) (k : ℕ) → k < length ops → (n c : ℕ) → (s : Sign) × Reaches (op_moves r ops) c (again r (op_at ops k) n c) s
again_reaches r ops k is zero c = (Plus, stay)
again_reaches r ops k is (suc n) c =
    let rest = again_reaches r ops k is n (op_carried r (op_at ops k) c) in
    (times (op_sign r (op_at ops k) c) rest.0, move k is rest.1 refl)

pub ops_reversible : (n r : ℕ) (ops : List PlainOp) → n ≡ 3 ^ r → ArePermutations ops → IsReversible n (op_moves r ops)
ops_reversible n r ops size h = record {
  stays = λ k c is below. rw size (op_carried_within r (op_at ops k) (h.each k is).columns c);
  back = λ k c is below.
      let path = again_reaches r ops k is 5 (op_carried r (op_at ops k) c) in
      (path.0, subst (λ d. Reaches (op_moves r ops) (op_carried r (op_at ops k) c) d path.0) (again_home r (op_at ops k) (h.each k is) c (rw size at below)) path.1);
}

pub images_small : (r k c : ℕ) (op : PlainOp) → HasColumns op → k ≤ 6 → number_of k (λ p. image op (digit_of r c p)) < 729
images_small r k c op h few =
    let below : number_of k (λ p. image op (digit_of r c p)) < 3 ^ k = number_of-below k (λ p. image op (digit_of r c p)) (λ p _. h.small (digit_of r c p) (digit_below r c p)) in
    let small : 3 ^ k ≤ 729 = power_small k few in
    omega arith

pub signs_of-same : (op : PlainOp) (f f' : ℕ → ℕ) (k : ℕ) → ((q : ℕ) → q < k → f q ≡ f' q) → signs_of op f k ≡ signs_of op f' k
signs_of-same op f f' zero e = refl
signs_of-same op f f' (suc k) e = λ i. times (signs_of-same op f f' k (λ q l. e q (omega arith)) i) (entry_sign op (e k (omega arith) i))

pub signs_more : (k : ℕ) (op : PlainOp) (digit : ℕ → ℕ) (s t : Sign) → s ≡ signs_of op digit k → t ≡ entry_sign op (digit k) → times s t ≡ signs_of op digit (k + 1)
signs_more k op digit s t e h =
    let P : ℕ → Type 0 = λ j. times s t ≡ signs_of op digit j in
    let next : suc k ≡ k + 1 = omega arith in
    subst P next (ap (λ x. times x t) e ∙ ap (times (signs_of op digit k)) h)

pub permutation_told : (op : PlainOp) → image op 0 < 3 → image op 1 < 3 → image op 2 < 3 → image op 0 ≢ image op 1 → image op 0 ≢ image op 2 → image op 1 ≢ image op 2 → IsPermutation op
permutation_told op a b c p q s = record {
  columns = record { small = small };
  injective = apart;
}
  where
    small : (d : ℕ) → d < 3 → image op d < 3
    small zero h = a
    small (suc zero) h = b
    small (suc (suc zero)) h = c
    small (suc (suc (suc d))) h = absurd (omega arith)

    apart : (d e : ℕ) → d < 3 → e < 3 → image op d ≡ image op e → d ≡ e
    apart zero zero h l x = refl
    apart zero (suc zero) h l x = absurd (p x)
    apart zero (suc (suc zero)) h l x = absurd (q x)
    apart zero (suc (suc (suc e))) h l x = absurd (omega arith)
    apart (suc zero) zero h l x = absurd (p (sym x))
    apart (suc zero) (suc zero) h l x = refl
    apart (suc zero) (suc (suc zero)) h l x = absurd (s x)
    apart (suc zero) (suc (suc (suc e))) h l x = absurd (omega arith)
    apart (suc (suc zero)) zero h l x = absurd (q (sym x))
    apart (suc (suc zero)) (suc zero) h l x = absurd (s (sym x))
    apart (suc (suc zero)) (suc (suc zero)) h l x = refl
    apart (suc (suc zero)) (suc (suc (suc e))) h l x = absurd (omega arith)
    apart (suc (suc (suc d))) e h l x = absurd (omega arith)
