-- Sums of which parts are left out, since their factor is 0, and walks along the parts of a component.
--   IsWalking, walk-start, walk-more, walk-grows, walk-end    sums for tensors of a family, after the first parts
--   part-factor     the factor of a part with a sign
--   read_at         the component of a number in a list
use Rattle.list_laws.proofs.Kit.{◌≡◌, ℕ, zero, suc, ◌+◌, ◌-◌, ◌<◌, ◌≤◌, ◌^◌, ◌⊎◌, inl, inr, List, [], ◌∷◌, length, take, drop, get_or, ap, sym, ◌∙◌, subst}
use Rattle.list_laws.proofs.Kit.{arith, Ok, cases_lt, drop_more, drop_all, get_or_read}
use Rattle.tensor_defs.specs.Prelude.{Each, Number, Root3, add, mul, num_one, num_zero, PartReaches, ProductReaches, Operation, sum_of, Index, Tensor, Marks}
use Rattle.tensor_defs.specs.Prelude.{coefficient, index_of, indices, sign}
use Rattle.tensor_defs.specs.declared.Sign.{Sign}
use Rattle.number_laws.proofs.NumberLaws.{num_add-zero, num_mul-zero, num_zero-mul}
use Rattle.tensor_laws.proofs.ComponentNumbers.{number-index_of}
use Rattle.root3_num.specs.Roots.{value_of_root}
use Rattle.sign_moves.specs.Signs.{signed}
use Rattle.tensor_action.specs.declared.parts.Part.{Part}
use Rattle.tensor_action.specs.Acting.{AddsPart, SumGrows, factor, tensor_of, zero_root}
use Rattle.tensor_action.specs.Factors.{product_number}
use Rattle.tensor_action.specs.Reaching.{AreParts, Covers, IsPart, none_part, numbers, part_at}
use Rattle.tensor_action.proofs.FactorLaws.{signed_factor}
use Rattle.tensor_action.proofs.IndexPlaces.{sum_more}
use Rattle.tensor_action.proofs.SumLaws.{IsSummed, summed-grows, summed-more, summed-start, zero_product_calm}

module _ (r : ℕ) (f : Index → Number) (t : Tensor) where
  abbrev part : Index → Number
  part j = mul (f j) (t j)

  skip_one : (n : ℕ) (x : Number) → n < 3 ^ r → f (index_of r n) ≡ num_zero → IsSummed r f t n x → IsSummed r f t (n + 1) x
  skip_one n x h z s =
      let j = index_of r n in
      let none : mul (f j) (t j) ≡ num_zero = ap (λ y. mul y (t j)) z ∙ num_zero-mul (t j) in
      let next : sum_of part (take (n + 1) (indices r)) ≡ sum_of part (take n (indices r)) =
      sum_more r n part h ∙ ap (add (sum_of part (take n (indices r)))) none ∙ num_add-zero _ in
      record {
        sum = s.sum ∙ sym next;
        products = λ c l p. elim (cases_lt c n) as (λ _. ⊥) [
          | inl k ↦ s.products c k p
          | inr k ↦
              (let e : c ≡ n = omega (arith, l, k) in
              zero_product_calm (f j) (t j) z (subst (λ c. ProductReaches (f (index_of r c)) (t (index_of r c))) e p))
        ];
        sums = λ k l p. elim (cases_lt n k) as (λ _. ⊥) [
          | inl m ↦
              (let e : k ≡ n + 1 = omega (arith, l, m) in
              let same : n ≤ n = omega arith in
              s.sums n same (subst PartReaches (ap (λ i. sum_of part (take i (indices r))) e ∙ next) p))
          | inr m ↦ s.sums k m p
        ];
      }

  skip_many : (d n : ℕ) (x : Number) → n + d ≤ 3 ^ r → ((c : ℕ) → n ≤ c → c < n + d → f (index_of r c) ≡ num_zero) →
      IsSummed r f t n x → IsSummed r f t (n + d) x
  skip_many zero n x h z s = let e : n ≡ n + 0 = omega arith in subst (λ k. IsSummed r f t k x) e s
  skip_many (suc d) n x h z s =
      let e : n + 1 + d ≡ n + suc d = omega arith in
      let one = skip_one n x (omega (arith, h)) (z n (omega arith) (omega arith)) s in
      subst (λ k. IsSummed r f t k x) e
      (skip_many d (n + 1) x (omega (arith, h)) (λ c p q. z c (omega (arith, p)) (omega (arith, q))) one)

  summed-skip : (n m : ℕ) (x : Number) → n ≤ m → m ≤ 3 ^ r →
      ((c : ℕ) → n ≤ c → c < m → f (index_of r c) ≡ num_zero) → IsSummed r f t n x → IsSummed r f t m x
  summed-skip n m x h l z s =
      let e : n + (m - n) ≡ m = omega (arith, h) in
      subst (λ k. IsSummed r f t k x) e
      (skip_many (m - n) n x (omega (arith, e, l)) (λ c p q. z c p (omega (arith, e, q))) s)

  summed-small : (n : ℕ) (x : Number) → IsSummed r f t n x → PartReaches x → ⊥
  summed-small n x s p = let same : n ≤ n = omega arith in s.sums n same (subst PartReaches s.sum p)

-- the sums for the first n tensors of a family, after the parts before the rest
pub record IsWalking (m : Marks) (g : Operation) (r : ℕ) (i : Index) (n : ℕ) (t : ℕ → Tensor) (rest : List Part) (sums : ℕ → Root3) : Type 0 where
  pub from : ℕ
  pub covers : Covers (λ c. coefficient g i (index_of r c) ≡ num_zero) from (numbers rest) (3 ^ r)
  pub parts : Each (IsPart g i) rest
  pub each : (k : ℕ) → k < n → IsSummed r (factor m g i) (t k) from (value_of_root (sums k))

module _ (m : Marks) (g : Operation) (r : ℕ) (i : Index) (rank : length i ≡ r) (n : ℕ) (t : ℕ → Tensor) where
  abbrev none : ℕ → Type 0
  none c = coefficient g i (index_of r c) ≡ num_zero

  no_factor : (c : ℕ) → none c → factor m g i (index_of r c) ≡ num_zero
  no_factor c z = ap (mul (sign m g)) z ∙ num_mul-zero (sign m g)

  -- the number of a part with the sign of the operation
  pub part-factor : (s : Sign) (p : Part) (x : Number) → sign m g ≡ signed s num_one → IsPart g i p →
      x ≡ signed s (product_number p.product) → x ≡ factor m g i (index_of r p.number)
  part-factor s p x e is_part v =
      v ∙ signed_factor s (coefficient g i (index_of (length i) p.number)) (product_number p.product) (sign m g) e is_part.value
      ∙ ap (λ k. factor m g i (index_of k p.number)) rank

  pub walk-start : (ps : List Part) (sums : ℕ → Root3) → AreParts g i ps →
      ((k : ℕ) → k < n → value_of_root (sums k) ≡ num_zero) → IsWalking m g r i n t (drop 0 ps) sums
  walk-start ps sums parts zeros = record {
    from = 0;
    covers = subst (λ k. Covers (λ c. coefficient g i (index_of k c) ≡ num_zero) 0 (numbers ps) (3 ^ k)) rank parts.covers;
    parts = parts.parts;
    each = λ k h. summed-start r (factor m g i) (t k) (value_of_root (sums k)) (zeros k h);
  }

  module _ (ps : List Part) (place : ℕ) (h : place < length ps) (sums : ℕ → Root3)
      (w : IsWalking m g r i n t (drop place ps) sums) where
    abbrev p : Part
    p = part_at ps place

    abbrev rest : List Part
    rest = p ∷ drop (place + 1) ps

    rest_is : drop place ps ≡ rest
    rest_is = drop_more ps place none_part h

    covered : Covers none w.from (numbers rest) (3 ^ r)
    covered = subst (λ l. Covers none w.from (numbers l) (3 ^ r)) rest_is w.covers

    parts : Each (IsPart g i) rest
    parts = subst (Each (IsPart g i)) rest_is w.parts

    pub part_here : IsPart g i p
    part_here = parts.0

    pub number_below : p.number < 3 ^ r
    number_below = covered.1

    skipped : (k : ℕ) → k < n → IsSummed r (factor m g i) (t k) p.number (value_of_root (sums k))
    skipped k l =
        let below = covered.1 in
        summed-skip r (factor m g i) (t k) w.from p.number (value_of_root (sums k)) covered.0 (omega (arith, below))
        (λ c u v. no_factor c (covered.2 c u v)) (w.each k l)

    module _ (x : Number) (factor_is : x ≡ factor m g i (index_of r p.number)) where
      pub walk-more : (news : ℕ → Root3) → ((k : ℕ) → k < n → (PartReaches (value_of_root (sums k)) → ⊥) →
          AddsPart (value_of_root (sums k)) x (t k (index_of r p.number)) (Ok (news k))) →
          IsWalking m g r i n t (drop (place + 1) ps) news
      walk-more news adds = record {
        from = p.number + 1;
        covers = covered.3;
        parts = parts.1;
        each = λ k l.
            let s = skipped k l in
            let old = value_of_root (sums k) in
            summed-more r (factor m g i) (t k) p.number old (news k) covered.1 s
            (subst (λ y. AddsPart old y (t k (index_of r p.number)) (Ok (news k))) factor_is
            (adds k l (summed-small r (factor m g i) (t k) p.number old s)));
      }

      pub walk-grows : (k : ℕ) → k < n → ProductReaches x (t k (index_of r p.number))
          ⊎ PartReaches (add (value_of_root (sums k)) (mul x (t k (index_of r p.number)))) → SumGrows r (factor m g i) (t k)
      walk-grows k l reaches =
          let j = index_of r p.number in
          summed-grows r (factor m g i) (t k) p.number (value_of_root (sums k)) covered.1 (skipped k l)
          (subst (λ y. ProductReaches y (t k j) ⊎ PartReaches (add (value_of_root (sums k)) (mul y (t k j)))) factor_is reaches)

  pub walk-end : (ps : List Part) (place : ℕ) (sums : ℕ → Root3) → length ps ≤ place →
      IsWalking m g r i n t (drop place ps) sums →
      (k : ℕ) → k < n → IsSummed r (factor m g i) (t k) (3 ^ r) (value_of_root (sums k))
  walk-end ps place sums h w k l =
      let covers : Covers none w.from [] (3 ^ r) =
      subst (λ qs. Covers none w.from (numbers qs) (3 ^ r)) (drop_all place ps h) w.covers in
      summed-skip r (factor m g i) (t k) w.from (3 ^ r) (value_of_root (sums k)) covers.0 (omega arith)
      (λ c u v. no_factor c (covers.1 c u v)) (w.each k l)

-- the component of a number in a list
pub read_at : (t : List Root3) (r n : ℕ) (x : Root3) → n < 3 ^ r → n < length t → x ≡ get_or t n x →
    value_of_root x ≡ tensor_of t (index_of r n)
read_at t r n x h l e =
    ap value_of_root (get_or_read t n x l e zero_root) ∙ ap (λ k. value_of_root (get_or t k zero_root)) (sym (number-index_of r n h))
