-- Which components a component takes from, index by index.
--   covers-skip, covers-push    coverings with a range or a number behind
--   index-behind, front-index, coefficient-behind    one index more behind, and all indices but the last
--   passed, taken    the parts at a column that isn't taken, and at one that is
--   IsExtending, extend-more, extend-end    the parts with an index more, behind, for the first parts
--   reach-more, reach-end    one index more, and the last one
--   numbers-small, numbers-few, bounded    how many parts there are, how large the numbers and the products are
use Rattle.list_laws.proofs.Kit.{◌≡◌, ℕ, zero, suc, ◌+◌, ◌-◌, ◌*◌, ◌/◌, ◌%◌, ◌<◌, ◌≤◌, ◌^◌, inl, inr, List, [], ◌∷◌, ◌++◌, length, drop, take, refl, ap, sym, ◌∙◌, subst, arith, lit<}
use Rattle.list_laws.proofs.Kit.{cases_lt, div-add-mod, drop_all, drop_more, length-take-le, length_push, map_push, pow-le-pow_right, pow-suc, take-append-le, take_all, take_more}
use native.Mathlib.Nat.{mod-lt}
use Rattle.tensor_defs.specs.Prelude.{Each, mul, num_one, num_zero, Axis, x1, Operation, value, Index, axis_at, axis_place, coefficient, component_number, digit, index_of}
use Rattle.number_laws.proofs.NumberLaws.{num_mul-zero, num_mul_assoc, num_mul_comm, num_zero-mul}
use Rattle.tensor_laws.proofs.ComponentNumbers.{index_of-number, length-index_of, number-index_of, place-axis_at}
use Rattle.op_matrix.specs.View.{axis}
use Rattle.tensor_rank.specs.IndexLaws.{nth}
use Rattle.tensor_action.proofs.FactorLaws.{axis-digit, within-weaker}
use Rattle.tensor_action.specs.Reaching.{AreParts, ArePartsBelow, Covers, Extends, IsNone, IsPart, none_part, numbers, part_at}
use Rattle.tensor_action.specs.Factors.{IsWithin, product_number}
use Rattle.tensor_action.specs.declared.parts.Part.{Part}
use Rattle.tensor_action.specs.declared.products.Product.{Product}
use Rattle.list_laws.proofs.Members.{each_map, each_push}

-- ---- coverings
covers-skip : (Z : ℕ → Type 0) (a b c : ℕ) (ns : List ℕ) → b ≤ c → ((k : ℕ) → b ≤ k → k < c → Z k) → Covers Z a ns b →
    Covers Z a ns c
covers-skip Z a b c [] l z h =
    let m = h.0 in
    (omega (arith, l, m), λ k p q. elim (cases_lt k b) as (λ _. Z k) [ inl r ↦ h.1 k p r | inr r ↦ z k r q ])
covers-skip Z a b c (n ∷ ns) l z h = let m = h.1 in (h.0, omega (arith, l, m), h.2, covers-skip Z (n + 1) b c ns l z h.3)

covers-push : (Z : ℕ → Type 0) (a b : ℕ) (ns : List ℕ) → Covers Z a ns b → Covers Z a (ns ++ b ∷ []) (b + 1)
covers-push Z a b [] h = (h.0, omega arith, h.1, (omega arith, λ k p q. absurd (omega (arith, p, q))))
covers-push Z a b (n ∷ ns) h = let m = h.1 in (h.0, omega (arith, m), h.2, covers-push Z (n + 1) b ns h.3)

numbers-small : (Z : ℕ → Type 0) (a b n : ℕ) (ps : List Part) → b ≤ n → Covers Z a (numbers ps) b → Each (λ p. p.number < n) ps
numbers-small Z a b n [] l h = tt
numbers-small Z a b n (p ∷ ps) l h = let m = h.1 in (omega (arith, l, m), numbers-small Z (p.number + 1) b n ps l h.3)

numbers-few : (Z : ℕ → Type 0) (a b : ℕ) (ps : List Part) → Covers Z a (numbers ps) b → length ps + a ≤ b
numbers-few Z a b [] h = let l = h.0 in omega (arith, l)
numbers-few Z a b (p ∷ ps) h = let l = h.0 in let few = numbers-few Z (p.number + 1) b ps h.3 in omega (arith, l, few)

-- ---- one index more behind
axis_same : (k : ℕ) → axis k ≡ axis_at k
axis_same zero = refl
axis_same (suc zero) = refl
axis_same (suc (suc k)) = refl

longer : (is : Index) (i : Axis) → length (is ++ i ∷ []) ≡ suc (length is)
longer is i = let e = length_push is i in omega (arith, e)

number-behind : (is : Index) (i : Axis) → component_number (is ++ i ∷ []) ≡ 3 * component_number is + axis_place i
number-behind [] i = omega arith
number-behind (j ∷ is) i =
    (λ n. axis_place j * (ap (λ k. 3 ^ k) (longer is i) ∙ pow-suc 3 (length is)) n + number-behind is i n) ∙ omega arith

index-behind : (r k d : ℕ) → k < 3 ^ r → d < 3 → index_of (suc r) (3 * k + d) ≡ index_of r k ++ axis d ∷ []
index-behind r k d h l =
    let is = index_of r k in
    let size : suc r ≡ length (is ++ axis d ∷ []) = sym (longer is (axis d) ∙ ap suc (length-index_of r k)) in
    let number : 3 * k + d ≡ component_number (is ++ axis d ∷ []) =
    sym (number-behind is (axis d)
    ∙ (λ n. 3 * number-index_of r k h n + (ap axis_place (axis_same d) ∙ place-axis_at d l) n)) in
    (λ n. index_of (size n) (number n)) ∙ index_of-number (is ++ axis d ∷ [])

-- all indices but the last
pub front-index : (r c : ℕ) → 0 < r → c < 3 ^ r → take (r - 1) (index_of r c) ≡ index_of (r - 1) (c / 3)
front-index zero c h l = absurd (omega (arith, h))
front-index (suc r) c h l =
    let k : ℕ = c / 3 in
    let split : 3 * k + c % 3 ≡ c = div-add-mod c 3 in
    let power : 3 ^ suc r ≡ 3 ^ r * 3 = pow-suc 3 r in
    let below : k < 3 ^ r = omega (arith, split, power, l) in
    let long = length-index_of r k in
    let less : suc r - 1 ≡ r = omega arith in
    subst (λ m. take m (index_of (suc r) c) ≡ index_of m k) (sym less)
    (ap (take r) (ap (index_of (suc r)) (sym split) ∙ index-behind r k (c % 3) below (mod-lt c (lit< tt)))
    ∙ take-append-le r (index_of r k) (axis (c % 3) ∷ []) (omega (arith, long)) ∙ take_all r (index_of r k) (omega (arith, long)))

pub coefficient-behind : (g : Operation) (is js : Index) (i j : Axis) → length is ≡ length js →
    coefficient g (is ++ i ∷ []) (js ++ j ∷ []) ≡ mul (coefficient g is js) (value g i j)
coefficient-behind g [] [] i j e = num_mul_comm (value g i j) num_one
coefficient-behind g [] (b ∷ js) i j e = absurd (omega (arith, e))
coefficient-behind g (a ∷ is) [] i j e = absurd (omega (arith, e))
coefficient-behind g (a ∷ is) (b ∷ js) i j e =
    ap (mul (value g a b)) (coefficient-behind g is js i j (omega (arith, e))) ∙ sym (num_mul_assoc (value g a b) (coefficient g is js) (value g i j))

-- the parts that are extended, and those with the index more for the numbers before them
pub record IsExtending (g : Operation) (i : Axis) (is : Index) (rest out : List Part) : Type 0 where
  pub from : ℕ
  pub covers : Covers (IsNone g is) from (numbers rest) (3 ^ length is)
  pub parts : Each (IsPart g is) rest
  pub below : ArePartsBelow g (is ++ i ∷ []) out (3 * from)

module _ (g : Operation) (i : Axis) (is : Index) where
  abbrev more : Index
  more = is ++ i ∷ []

  size : 3 * 3 ^ length is ≡ 3 ^ length more
  size = let e = pow-suc 3 (length is) in omega (arith, e) ∙ ap (λ k. 3 ^ k) (sym (longer is i))

  behind : (k d : ℕ) → k < 3 ^ length is → d < 3 →
      coefficient g more (index_of (length more) (3 * k + d)) ≡ mul (coefficient g is (index_of (length is) k)) (value g i (axis d))
  behind k d h l =
      ap (λ n. coefficient g more (index_of n (3 * k + d))) (longer is i)
      ∙ ap (coefficient g more) (index-behind (length is) k d h l)
      ∙ coefficient-behind g is (index_of (length is) k) i (axis d) (sym (length-index_of (length is) k))

  -- no part for the numbers of a range
  skipped : (a b : ℕ) (out : List Part) → a ≤ b → b ≤ 3 ^ length is → ((k : ℕ) → a ≤ k → k < b → IsNone g is k) →
      ArePartsBelow g more out (3 * a) → ArePartsBelow g more out (3 * b)
  skipped a b out h l z w = record {
    covers = covers-skip (IsNone g more) 0 (3 * a) (3 * b) (numbers out) (omega (arith, h)) none w.covers;
    parts = w.parts;
  }
    where
      none : (k : ℕ) → 3 * a ≤ k → k < 3 * b → IsNone g more k
      none k p q =
          let v = value g i (axis (k % 3)) in
          let split : 3 * (k / 3) + k % 3 ≡ k = div-add-mod k 3 in
          let small : k % 3 < 3 = mod-lt k (lit< tt) in
          let low : a ≤ k / 3 = omega (arith, split, small, p) in
          let high : k / 3 < b = omega (arith, split, q) in
          subst (IsNone g more) split
          (behind (k / 3) (k % 3) (omega (arith, high, l)) small ∙ ap (λ x. mul x v) (z (k / 3) low high) ∙ num_zero-mul v)

  pub passed : (n d : ℕ) (out : List Part) → n < 3 ^ length is → d < 3 → value g i (axis d) ≡ num_zero →
      ArePartsBelow g more out (3 * n + d) → ArePartsBelow g more out (3 * n + d + 1)
  passed n d out h l z w = record {
    covers = covers-skip (IsNone g more) 0 (3 * n + d) (3 * n + d + 1) (numbers out) (omega arith)
        (λ k p q. let e : 3 * n + d ≡ k = omega (arith, p, q) in
        subst (IsNone g more) e (behind n d h l ∙ ap (mul (coefficient g is (index_of (length is) n))) z ∙ num_mul-zero _)) w.covers;
    parts = w.parts;
  }

  pub taken : (p : Part) (d : ℕ) (q : Product) (out new : List Part) → p.number < 3 ^ length is → d < 3 → IsPart g is p →
      product_number q ≡ mul (product_number p.product) (value g i (axis d)) → IsWithin (3 * 3 ^ length is) q →
      new ≡ out ++ record { number = 3 * p.number + d; product = q } ∷ [] →
      ArePartsBelow g more out (3 * p.number + d) → ArePartsBelow g more new (3 * p.number + d + 1)
  taken p d q out new h l part v within e w =
      let at : ℕ = 3 * p.number + d in
      let one : Part = record { number = at; product = q } in
      record {
        covers = subst (λ ns. Covers (IsNone g more) 0 ns (at + 1)) (sym (ap numbers e ∙ map_push (λ (x : Part). x.number) out one))
            (covers-push (IsNone g more) 0 at (numbers out) w.covers);
        parts = subst (Each (IsPart g more)) (sym e) (each_push (IsPart g more) out one w.parts (record {
          value = v ∙ ap (λ x. mul x (value g i (axis d))) part.value ∙ sym (behind p.number d h l);
          within = subst (λ b. IsWithin b q) size within;
        }));
      }

  pub extend-more : (ps : List Part) (k : ℕ) (out one two three : List Part) → k < length ps →
      Extends g i 0 (part_at ps k) out one → Extends g i 1 (part_at ps k) one two → Extends g i 2 (part_at ps k) two three →
      IsExtending g i is (drop k ps) out → IsExtending g i is (drop (k + 1) ps) three
  extend-more ps k out one two three h a b c w =
      let p = part_at ps k in
      let n : ℕ = p.number in
      let here = subst (λ l. IsExtending g i is l out) (drop_more ps k none_part h) w in
      let part = here.parts.0 in
      let high = here.covers.1 in
      let start : 3 * n ≡ 3 * n + 0 = omega arith in
      let first : 3 * n + 0 + 1 ≡ 3 * n + 1 = omega arith in
      let second : 3 * n + 1 + 1 ≡ 3 * n + 2 = omega arith in
      let third : 3 * n + 2 + 1 ≡ 3 * (n + 1) = omega arith in
      let before = skipped here.from n out here.covers.0 (omega (arith, high)) here.covers.2 here.below in
      let after = subst (ArePartsBelow g more one) first (a is part high (subst (ArePartsBelow g more out) start before)) in
      record {
        from = n + 1;
        covers = here.covers.3;
        parts = here.parts.1;
        below = subst (ArePartsBelow g more three) third (c is part high
            (subst (ArePartsBelow g more two) second (b is part high after)));
      }

  pub extend-end : (ps : List Part) (k : ℕ) (out : List Part) → length ps ≤ k → IsExtending g i is (drop k ps) out → AreParts g more out
  extend-end ps k out h w =
      let here = subst (λ l. IsExtending g i is l out) (drop_all k ps h) w in
      subst (ArePartsBelow g more out) size
      (skipped here.from (3 ^ length is) out here.covers.0 (omega arith) here.covers.1 here.below)

-- ---- all indices, from the first to the last
pub reach-more : (g : Operation) (is : Index) (k d : ℕ) (ps : List Part) → k < length is → d ≡ digit (nth is k) →
    AreParts g (take k is ++ axis (d - 1) ∷ []) ps → AreParts g (take (k + 1) is) ps
reach-more g is k d ps h e =
    let last : axis (d - 1) ≡ nth is k = ap (λ x. axis (x - 1)) e ∙ axis-digit _ in
    subst (λ js. AreParts g js ps) ((λ n. take k is ++ last n ∷ []) ∙ sym (take_more is k x1 h))

pub reach-end : (g : Operation) (is : Index) (r d : ℕ) (ps : List Part) → length is ≡ r → 0 < r → d ≡ digit (nth is (r - 1)) →
    AreParts g (take (r - 1) is ++ axis (d - 1) ∷ []) ps → AreParts g is ps
reach-end g is r d ps long h e w =
    let last : r - 1 + 1 ≡ r = omega (arith, h) in
    subst (λ js. AreParts g js ps) (ap (λ k. take k is) last ∙ take_all r is (omega (arith, long)))
    (reach-more g is (r - 1) d ps (omega (arith, long, h)) e w)

-- ---- how many parts there are before the last of at most six indices, how large the numbers and the products are
pub bounded : (g : Operation) (is : Index) (r k : ℕ) (ps : List Part) → length is ≡ r → r ≤ 6 → k < r → AreParts g (take k is) ps →
    Each (λ p. p.number < 243) ps × Each (λ p. IsWithin 243 p.product) ps × (3 * length ps ≤ 3 ^ r)
bounded g is r k ps long small h w =
    let js = take k is in
    let size = length-take-le k is (omega (arith, long, h)) in
    let power : 3 ^ length js ≤ 243 = pow-le-pow_right {n = 3} (lit< tt) {i = length js} {j = 5} (omega (arith, size, h, small)) in
    let few = numbers-few (IsNone g js) 0 (3 ^ length js) ps w.covers in
    let next = pow-suc 3 (length js) in
    let whole = pow-le-pow_right {n = 3} (lit< tt) {i = suc (length js)} {j = r} (omega (arith, size, h)) in (
      numbers-small (IsNone g js) 0 (3 ^ length js) 243 ps power w.covers,
      each_map (IsPart g js) (λ p. IsWithin 243 p.product) (λ p q. within-weaker (3 ^ length js) 243 p.product power q.within) ps w.parts,
      omega (arith, few, next, whole),
    )
