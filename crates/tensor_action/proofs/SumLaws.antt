-- Sums of products, one product after the other, and where they grow.
--   root-value, held_calm    0 and numbers that are held
--   adds-sum        a sum with one more product
--   IsSummed, summed-start, summed-more, summed-grows, summed-end, summed-calm    the sum of the first n products
use Rattle.list_laws.proofs.Kit.{◌≡◌, ℕ, ◌+◌, ◌<◌, ◌≤◌, ◌^◌, ◌⊎◌, inl, inr, take, ap, sym, ◌∙◌, subst, arith, Result, Ok, Err, cases_lt, take_all}
use lib.IntN.{pos}
use Rattle.tensor_defs.specs.Prelude.{Number, Root3, add, mul, whole, num_zero, root_3, HasParts, PartReaches, ProductReaches, sum_of, Index}
use Rattle.tensor_defs.specs.Prelude.{Tensor, component_number, index_of, indices}
use Rattle.number_laws.proofs.NumberLaws.{num_add-zero, num_mul-zero, num_zero-mul}
use Rattle.tensor_laws.proofs.ComponentNumbers.{length-index_of}
use Rattle.exact_frac.proofs.Parts.{held-not_large}
use Rattle.root3_num.specs.Answers.{IsExactSum}
use Rattle.root3_num.specs.Roots.{value_of_root, IsHeldRoot}
use Rattle.root3_num.specs.declared.root.TooLarge.{TooLarge}
use Rattle.root3_num.proofs.RootParts.{one-parts}
use Rattle.root3_num.proofs.Steps.{AStepReaches, zero_has, zero_small}
use Rattle.tensor_rank.specs.IndexLaws.{component_below_at, index_number_at}
use Rattle.tensor_action.specs.Acting.{AddsPart, SumGrows}
use Rattle.tensor_action.proofs.IndexPlaces.{length-indices, sum_more}

-- ---- 0 and numbers that are held
pub root-value : (x : Number) (v : Root3) → IsHeldRoot x v → value_of_root v ≡ x
root-value x v h = sym (h.is_root.same ∙ (λ n. add (h.is_root.is_a.same n) (mul (h.is_root.is_b.same n) root_3)))

pub held_calm : (x : Number) (v : Root3) → IsHeldRoot x v → PartReaches x → ⊥
held_calm x v h p =
    let i = h.is_root in
    let own : HasParts x i.a i.b = record { fraction_a = v.a; fraction_b = v.b; is_a = i.is_a; is_b = i.is_b; same = i.same } in
    let e = one-parts x p.0 p.1 i.a i.b p.2 own in
    elim p.3 as (λ _. ⊥) [
      | inl l ↦ held-not_large p.0 v.a (record { same = e.0 ∙ i.is_a.same; held = h.held.held_a }) l
      | inr l ↦ held-not_large p.1 v.b (record { same = e.1 ∙ i.is_b.same; held = h.held.held_b }) l
    ]

pub zero_part_calm : (x : Number) → x ≡ num_zero → PartReaches x → ⊥
zero_part_calm x z p =
    let e = one-parts num_zero p.0 p.1 num_zero num_zero (subst (λ y. HasParts y p.0 p.1) z p.2) zero_has in
    elim p.3 as (λ _. ⊥) [ inl l ↦ zero_small p.0 e.0 l | inr l ↦ zero_small p.1 e.1 l ]

-- a product with 0 reaches the limit nowhere
steps_calm : (a b c d : Number) → mul a c ≡ num_zero → mul b d ≡ num_zero → mul a d ≡ num_zero → mul b c ≡ num_zero →
    AStepReaches a b c d → ⊥
steps_calm a b c d ac bd ad bc l =
    let three : mul (whole (pos 3)) (mul b d) ≡ num_zero = ap (mul (whole (pos 3))) bd ∙ num_mul-zero (whole (pos 3)) in
    elim l as (λ _. ⊥) [
      | inl k ↦ zero_small (mul a c) ac k
      | inr (inl k) ↦ zero_small (mul b d) bd k
      | inr (inr (inl k)) ↦ zero_small (mul (whole (pos 3)) (mul b d)) three k
      | inr (inr (inr (inl k))) ↦ zero_small _ ((λ n. add (ac n) (three n)) ∙ num_add-zero num_zero) k
      | inr (inr (inr (inr (inl k)))) ↦ zero_small (mul a d) ad k
      | inr (inr (inr (inr (inr (inl k))))) ↦ zero_small (mul b c) bc k
      | inr (inr (inr (inr (inr (inr k))))) ↦ zero_small _ ((λ n. add (ad n) (bc n)) ∙ num_add-zero num_zero) k
    ]

pub zero_product_calm : (x y : Number) → x ≡ num_zero → ProductReaches x y → ⊥
zero_product_calm x y z p =
    let e = one-parts num_zero p.0 p.1 num_zero num_zero (subst (λ w. HasParts w p.0 p.1) z p.4) zero_has in
    let none : (u w : Number) → u ≡ num_zero → mul u w ≡ num_zero = λ u w q. ap (λ n. mul n w) q ∙ num_zero-mul w in
    steps_calm p.0 p.1 p.2 p.3 (none p.0 p.2 e.0) (none p.1 p.3 e.1) (none p.0 p.3 e.0) (none p.1 p.2 e.1) p.6

pub product_zero_calm : (x y : Number) → y ≡ num_zero → ProductReaches x y → ⊥
product_zero_calm x y z p =
    let e = one-parts num_zero p.2 p.3 num_zero num_zero (subst (λ w. HasParts w p.2 p.3) z p.5) zero_has in
    let none : (u w : Number) → w ≡ num_zero → mul u w ≡ num_zero = λ u w q. ap (mul u) q ∙ num_mul-zero u in
    steps_calm p.0 p.1 p.2 p.3 (none p.0 p.2 e.0) (none p.1 p.3 e.1) (none p.0 p.3 e.1) (none p.1 p.2 e.0) p.6

-- ---- a sum with one more product
pub adds-sum : (s x y : Number) (part : Root3) (r : Result Root3 TooLarge) → IsHeldRoot (mul x y) part →
    (ProductReaches x y → ⊥) → IsExactSum (add s (value_of_root part)) r → AddsPart s x y r
adds-sum s x y part r h calm e =
    by_result r (subst (λ n. IsExactSum (add s n) r) (root-value (mul x y) part h) e)
  where
    by_result : (r : Result Root3 TooLarge) → IsExactSum (add s (mul x y)) r → AddsPart s x y r
    by_result (Ok v) e = (root-value _ v e.0, calm, e.1)
    by_result (Err f) e = inr e

-- ---- the sum of the first n products
pub record IsSummed (r : ℕ) (f : Index → Number) (t : Tensor) (n : ℕ) (x : Number) : Type 0 where
  pub sum : x ≡ sum_of (λ j. mul (f j) (t j)) (take n (indices r))
  pub products : (c : ℕ) → c < n → ProductReaches (f (index_of r c)) (t (index_of r c)) → ⊥
  pub sums : (k : ℕ) → k ≤ n → PartReaches (sum_of (λ j. mul (f j) (t j)) (take k (indices r))) → ⊥

module _ (r : ℕ) (f : Index → Number) (t : Tensor) where
  abbrev first : ℕ → Number
  first n = sum_of (λ j. mul (f j) (t j)) (take n (indices r))

  pub summed-start : (x : Number) → x ≡ num_zero → IsSummed r f t 0 x
  summed-start x e = record {
    sum = e;
    products = λ c h. absurd (omega arith);
    sums = λ k h p. let z : k ≡ 0 = omega arith in zero_part_calm (first k) (ap first z) p;
  }

  pub summed-more : (n : ℕ) (x : Number) (v : Root3) → n < 3 ^ r → IsSummed r f t n x →
      AddsPart x (f (index_of r n)) (t (index_of r n)) (Ok v) → IsSummed r f t (n + 1) (value_of_root v)
  summed-more n x v h s a =
      let next : add x (mul (f (index_of r n)) (t (index_of r n))) ≡ first (n + 1) =
      ap (λ y. add y (mul (f (index_of r n)) (t (index_of r n)))) s.sum ∙ sym (sum_more r n (λ j. mul (f j) (t j)) h) in
      record {
        sum = a.0 ∙ next;
        products = λ c l p. elim (cases_lt c n) as (λ _. ⊥) [
          | inl k ↦ s.products c k p
          | inr k ↦
              (let e : c ≡ n = omega arith in
              a.1 (subst (λ c. ProductReaches (f (index_of r c)) (t (index_of r c))) e p))
        ];
        sums = λ k l p. elim (cases_lt n k) as (λ _. ⊥) [
          | inl m ↦ (let e : k ≡ n + 1 = omega arith in a.2 (subst PartReaches (ap first e ∙ sym next) p))
          | inr m ↦ s.sums k m p
        ];
      }

  pub summed-grows : (n : ℕ) (x : Number) → n < 3 ^ r → IsSummed r f t n x →
      ProductReaches (f (index_of r n)) (t (index_of r n)) ⊎ PartReaches (add x (mul (f (index_of r n)) (t (index_of r n)))) →
      SumGrows r f t
  summed-grows n x h s (inl p) = inl (index_of r n, length-index_of r n, p)
  summed-grows n x h s (inr p) = inr (
    n + 1,
    subst PartReaches (ap (λ y. add y (mul (f (index_of r n)) (t (index_of r n)))) s.sum
        ∙ sym (sum_more r n (λ j. mul (f j) (t j)) h)) p,
  )

  whole_list : (n : ℕ) → 3 ^ r ≤ n → take n (indices r) ≡ indices r
  whole_list n h = take_all n (indices r) (subst (λ k. k ≤ n) (sym (length-indices r)) h)

  pub summed-end : (x : Number) → IsSummed r f t (3 ^ r) x → x ≡ sum_of (λ j. mul (f j) (t j)) (indices r)
  summed-end x s = s.sum ∙ ap (sum_of (λ j. mul (f j) (t j))) (whole_list (3 ^ r) (omega arith))

  pub summed-calm : (x : Number) → IsSummed r f t (3 ^ r) x → SumGrows r f t → ⊥
  summed-calm x s (inl p) =
      let j = p.0 in
      let e : index_of r (component_number j) ≡ j = index_number_at r j p.1 in
      s.products (component_number j) (component_below_at r j p.1)
      (subst (λ i. ProductReaches (f i) (t i)) (sym e) p.2)
  summed-calm x s (inr p) = elim (cases_lt p.0 (3 ^ r)) as (λ _. ⊥) [
    | inl l ↦ s.sums p.0 (omega arith) p.1
    | inr l ↦
        s.sums (3 ^ r) (omega arith)
        (subst PartReaches (ap (sum_of (λ j. mul (f j) (t j))) (whole_list p.0 l ∙ sym (whole_list (3 ^ r) (omega arith)))) p.1)
  ]
