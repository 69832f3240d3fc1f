-- Orders by the index digits and by blocks.
--   numbers_tell, index_order_at    index order is the order of component numbers
--   blocks_next, blocks_before    blocks from a place on
--   spell_next, spell_below, below_sixth, spelled_order    block order is the order of what block numbers spell
--   spelled_same, spelled_apart    where two spell the same; where they don't
--   front_one, front_two, pair_same, pair_other, by_index    the number of one block
use Rattle.list_laws.proofs.Kit.{◌≡◌, ◌≢◌, ℕ, zero, suc, ◌+◌, ◌-◌, ◌*◌, ◌^◌, ◌<◌, ◌≤◌, Bool, true, false, lit<, List, [], ◌∷◌, ◌++◌, length, get_or, drop}
use Rattle.list_laws.proofs.Kit.{drop-cons, add-one, map, refl, ap, sym, ◌∙◌, arith, subst, inl, inr, cases_lt, lt-ltb, le-ltb, nat_tests, drop_more}
use Rattle.list_laws.proofs.Kit.{drop-drop, pow-suc, pow-le-pow_right}
use Rattle.std.specs.Prelude.{nat_lt}
use Rattle.std.proofs.lemmas.List.{length-drop}
use Rattle.tensor_defs.specs.Prelude.{Each, lexicographic, x1, x2, x3, Axis, index_before, block_before, block_numbers, pair_number, Index, digit}
use Rattle.tensor_defs.specs.Prelude.{component_number, index_of}
use Rattle.tensor_laws.proofs.ComponentNumbers.{number_below, length-index_of, number-index_of}
use Rattle.tensor_rank.specs.Prelude.{Ordering, ByIndex, ByBlocks, IsBlock, AreBlocks, total, front_number, pair_of, is_by_index, spell, spelled_before, nth}

-- ---- index order is the order of component numbers
low_high : (a b p q m k : ℕ) → a < b → b < 3 → p ≡ q → m < p → nat_lt (a * p + m) (b * q + k) ≡ true
low_high zero (suc zero) p q m k h l e s = lt-ltb _ _ (omega (arith, e, s))
low_high zero (suc (suc zero)) p q m k h l e s = lt-ltb _ _ (omega (arith, e, s))
low_high (suc zero) (suc (suc zero)) p q m k h l e s = lt-ltb _ _ (omega (arith, e, s))
low_high a zero p q m k h l e s = absurd (omega arith)
low_high (suc a) (suc zero) p q m k h l e s = absurd (omega arith)
low_high (suc (suc a)) (suc (suc zero)) p q m k h l e s = absurd (omega arith)
low_high a (suc (suc (suc b))) p q m k h l e s = absurd (omega arith)

high_low : (a b p q m k : ℕ) → a < b → b < 3 → p ≡ q → k < p → nat_lt (b * q + m) (a * p + k) ≡ false
high_low zero (suc zero) p q m k h l e s = le-ltb _ _ (omega (arith, e, s))
high_low zero (suc (suc zero)) p q m k h l e s = le-ltb _ _ (omega (arith, e, s))
high_low (suc zero) (suc (suc zero)) p q m k h l e s = le-ltb _ _ (omega (arith, e, s))
high_low a zero p q m k h l e s = absurd (omega arith)
high_low (suc a) (suc zero) p q m k h l e s = absurd (omega arith)
high_low (suc (suc a)) (suc (suc zero)) p q m k h l e s = absurd (omega arith)
high_low a (suc (suc (suc b))) p q m k h l e s = absurd (omega arith)

lt_add : (x m k : ℕ) → nat_lt (x + m) (x + k) ≡ nat_lt m k
lt_add x m k = elim (cases_lt m k) as (λ _. nat_lt (x + m) (x + k) ≡ nat_lt m k) [
  | inl h ↦ lt-ltb _ _ (omega (arith, h)) ∙ sym (lt-ltb m k h)
  | inr h ↦ le-ltb _ _ (omega (arith, h)) ∙ sym (le-ltb m k h)
]

same_axis : (a p q m k : ℕ) → p ≡ q → nat_lt (a * p + m) (a * q + k) ≡ nat_lt m k
same_axis a p q m k e = ap (λ r. nat_lt (a * p + m) (a * r + k)) (sym e) ∙ lt_add (a * p) m k

pub numbers_tell : (is js : Index) → length is ≡ length js →
    index_before is js ≡ nat_lt (component_number is) (component_number js)
numbers_tell [] [] e = refl
numbers_tell [] (j ∷ js) e = absurd (omega arith)
numbers_tell (i ∷ is) [] e = absurd (omega arith)
numbers_tell (i ∷ is) (j ∷ js) e = both (numbers_tell is js (omega arith)) i j
  where
    short : length is ≡ length js
    short = omega arith

    p : 3 ^ length is ≡ 3 ^ length js
    p = ap (λ n. 3 ^ n) short

    k_below : component_number js < 3 ^ length is
    k_below = subst (λ x. component_number js < x) (sym p) (number_below js)

    both : index_before is js ≡ nat_lt (component_number is) (component_number js) → (i j : Axis) →
        index_before (i ∷ is) (j ∷ js) ≡ nat_lt (component_number (i ∷ is)) (component_number (j ∷ js))
    both h x1 x1 = h ∙ sym (same_axis 0 (3 ^ length is) (3 ^ length js) (component_number is) (component_number js) p)
    both h x2 x2 = h ∙ sym (same_axis 1 (3 ^ length is) (3 ^ length js) (component_number is) (component_number js) p)
    both h x3 x3 = h ∙ sym (same_axis 2 (3 ^ length is) (3 ^ length js) (component_number is) (component_number js) p)
    both h x1 x2 = sym (low_high 0 1 (3 ^ length is) (3 ^ length js) (component_number is) (component_number js) (omega arith) (omega arith) p (number_below is))
    both h x1 x3 = sym (low_high 0 2 (3 ^ length is) (3 ^ length js) (component_number is) (component_number js) (omega arith) (omega arith) p (number_below is))
    both h x2 x3 = sym (low_high 1 2 (3 ^ length is) (3 ^ length js) (component_number is) (component_number js) (omega arith) (omega arith) p (number_below is))
    both h x2 x1 = sym (high_low 0 1 (3 ^ length js) (3 ^ length is) (component_number is) (component_number js) (omega arith) (omega arith) (sym p) (number_below js))
    both h x3 x1 = sym (high_low 0 2 (3 ^ length js) (3 ^ length is) (component_number is) (component_number js) (omega arith) (omega arith) (sym p) (number_below js))
    both h x3 x2 = sym (high_low 1 2 (3 ^ length js) (3 ^ length is) (component_number is) (component_number js) (omega arith) (omega arith) (sym p) (number_below js))

pub index_order_at : (r a b : ℕ) → a < 3 ^ r → b < 3 ^ r → index_before (index_of r a) (index_of r b) ≡ nat_lt a b
index_order_at r a b h l =
    numbers_tell (index_of r a) (index_of r b) (length-index_of r a ∙ sym (length-index_of r b))
    ∙ (λ i. nat_lt (number-index_of r a h i) (number-index_of r b l i))

-- ---- block order, block by block
digits_tell : (is js : Index) → length is ≡ length js → lexicographic (map digit is) (map digit js) ≡ index_before is js
digits_tell [] [] e = refl
digits_tell [] (j ∷ js) e = absurd (omega arith)
digits_tell (i ∷ is) [] e = absurd (omega arith)
digits_tell (x1 ∷ is) (x1 ∷ js) e = digits_tell is js (omega arith)
digits_tell (x2 ∷ is) (x2 ∷ js) e = digits_tell is js (omega arith)
digits_tell (x3 ∷ is) (x3 ∷ js) e = digits_tell is js (omega arith)
digits_tell (x1 ∷ is) (x2 ∷ js) e = refl
digits_tell (x1 ∷ is) (x3 ∷ js) e = refl
digits_tell (x2 ∷ is) (x3 ∷ js) e = refl
digits_tell (x2 ∷ is) (x1 ∷ js) e = refl
digits_tell (x3 ∷ is) (x1 ∷ js) e = refl
digits_tell (x3 ∷ is) (x2 ∷ js) e = refl

block_front : (bs : List ℕ) (w : ℕ) (is : Index) → IsBlock w → w ≤ length is →
    block_numbers (w ∷ bs) is ≡ front_number w is ∷ block_numbers bs (drop w is)
block_front bs zero is h l = absurd (omega (arith, h.0))
block_front bs (suc zero) [] h l = absurd (omega arith)
block_front bs (suc zero) (i ∷ is) h l = refl
block_front bs (suc (suc zero)) [] h l = absurd (omega arith)
block_front bs (suc (suc zero)) (i ∷ []) h l = absurd (omega arith)
block_front bs (suc (suc zero)) (i ∷ (j ∷ is)) h l = refl
block_front bs (suc (suc (suc w))) is h l = absurd (omega (arith, h.1))

-- the blocks from the place i on
pub blocks_next : (r : ℕ) (ws : List ℕ) (i : ℕ) → i < length ws → AreBlocks r (drop i ws) →
    IsBlock (get_or ws i 0) × (get_or ws i 0 ≤ r) × AreBlocks (r - get_or ws i 0) (drop (i + 1) ws)
blocks_next r ws i h fit = first (get_or ws i 0) (drop (i + 1) ws) (rw add-one (rw (drop-cons ws i 0 h) at fit))
  where
    first : (w : ℕ) (rest : List ℕ) → AreBlocks r (w ∷ rest) → IsBlock w × (w ≤ r) × AreBlocks (r - w) rest
    first w rest f =
        let e : w + total rest ≡ r = f.1 in
        (f.0.0, omega (arith, e), (f.0.1, omega (arith, e)))

pub blocks_before : (r : ℕ) (ws : List ℕ) (i : ℕ) → i < length ws → IsBlock (get_or ws i 0) → get_or ws i 0 ≤ r →
    AreBlocks (r - get_or ws i 0) (drop (i + 1) ws) → AreBlocks r (drop i ws)
blocks_before r ws i h block room rest =
    rw (drop-cons ws i 0 h) (first (get_or ws i 0) (drop (suc i) ws) block room (rw add-one at rest))
  where
    first : (w : ℕ) (rest : List ℕ) → IsBlock w → w ≤ r → AreBlocks (r - w) rest → AreBlocks r (w ∷ rest)
    first w rest b l f = let e : total rest ≡ r - w = f.1 in ((b, f.0), omega (arith, e, l))

-- what the numbers of the blocks from the place i on spell
pub spell_next : (r : ℕ) (ws : List ℕ) (i s x : ℕ) (is : Index) → i < length ws → length is ≡ r → s ≤ r → AreBlocks (r - s) (drop i ws) →
    spell x (block_numbers (drop i ws) (drop s is)) ≡
    spell (7 * x + front_number (get_or ws i 0) (drop s is)) (block_numbers (drop (i + 1) ws) (drop (s + get_or ws i 0) is))
spell_next r ws i s x is h len below fit =
    let w = get_or ws i 0 in
    let n = blocks_next (r - s) ws i h fit in
    let room : w ≤ r - s = n.1 in
    let left = length-drop s is in
    let inside : w ≤ length (drop s is) = omega (arith, room, left, len) in
    ap (λ bs. spell x (block_numbers bs (drop s is))) (drop_more ws i 0 h)
    ∙ ap (spell x) (block_front (drop (i + 1) ws) w (drop s is) n.0 inside)
    ∙ (λ k. spell (7 * x + front_number w (drop s is)) (block_numbers (drop (i + 1) ws) (drop-drop w s is k)))

pub front_small : (w : ℕ) (is : Index) → front_number w is ≤ 6
front_small zero is = omega arith
front_small (suc zero) [] = omega arith
front_small (suc zero) (x1 ∷ is) = omega arith
front_small (suc zero) (x2 ∷ is) = omega arith
front_small (suc zero) (x3 ∷ is) = omega arith
front_small (suc (suc zero)) [] = omega arith
front_small (suc (suc zero)) (i ∷ []) = omega arith
front_small (suc (suc zero)) (x1 ∷ (x1 ∷ is)) = omega arith
front_small (suc (suc zero)) (x1 ∷ (x2 ∷ is)) = omega arith
front_small (suc (suc zero)) (x1 ∷ (x3 ∷ is)) = omega arith
front_small (suc (suc zero)) (x2 ∷ (x1 ∷ is)) = omega arith
front_small (suc (suc zero)) (x2 ∷ (x2 ∷ is)) = omega arith
front_small (suc (suc zero)) (x2 ∷ (x3 ∷ is)) = omega arith
front_small (suc (suc zero)) (x3 ∷ (x1 ∷ is)) = omega arith
front_small (suc (suc zero)) (x3 ∷ (x2 ∷ is)) = omega arith
front_small (suc (suc zero)) (x3 ∷ (x3 ∷ is)) = omega arith
front_small (suc (suc (suc w))) is = omega arith

-- one block more keeps below a power of 7
pub spell_below : (s w x d : ℕ) → IsBlock w → x < 7 ^ s → d ≤ 6 → 7 * x + d < 7 ^ (s + w)
spell_below s zero x d b h l = absurd (omega (arith, b.0))
spell_below s (suc zero) x d b h l =
    let e : 7 ^ (s + 1) ≡ 7 ^ s * 7 = ap (λ n. 7 ^ n) (omega arith) ∙ pow-suc 7 s in
    omega (arith, e, h, l)
spell_below s (suc (suc zero)) x d b h l =
    let e : 7 ^ (s + 2) ≡ 7 ^ s * 7 * 7 = ap (λ n. 7 ^ n) (omega arith) ∙ pow-suc 7 (suc s) ∙ ap (λ n. n * 7) (pow-suc 7 s) in
    omega (arith, e, h, l)
spell_below s (suc (suc (suc w))) x d b h l = absurd (omega (arith, b.1))

pub below_sixth : (s x : ℕ) → s ≤ 6 → x < 7 ^ s → x < 117649
below_sixth s x h l = let m : 7 ^ s ≤ 7 ^ 6 = pow-le-pow_right (lit< tt) h in omega (arith, m, l)

numbers_small : (bs : List ℕ) (is : Index) → Each (λ n. n ≤ 6) (block_numbers bs is)
numbers_small [] is = tt
numbers_small (zero ∷ bs) is = tt
numbers_small (suc zero ∷ bs) [] = tt
numbers_small (suc zero ∷ bs) (i ∷ is) = (front_small 1 (i ∷ is), numbers_small bs is)
numbers_small (suc (suc zero) ∷ bs) [] = tt
numbers_small (suc (suc zero) ∷ bs) (i ∷ []) = tt
numbers_small (suc (suc zero) ∷ bs) (i ∷ (j ∷ is)) = (front_small 2 (i ∷ (j ∷ is)), numbers_small bs is)
numbers_small (suc (suc (suc w)) ∷ bs) is = tt

numbers_count : (bs : List ℕ) (is : Index) → total bs ≤ length is → Each IsBlock bs → length (block_numbers bs is) ≡ length bs
numbers_count [] is l h = refl
numbers_count (zero ∷ bs) is l h = absurd (omega (arith, h.0.0))
numbers_count (suc zero ∷ bs) [] l h = absurd (omega arith)
numbers_count (suc zero ∷ bs) (i ∷ is) l h = ap suc (numbers_count bs is (omega arith) h.1)
numbers_count (suc (suc zero) ∷ bs) [] l h = absurd (omega arith)
numbers_count (suc (suc zero) ∷ bs) (i ∷ []) l h = absurd (omega arith)
numbers_count (suc (suc zero) ∷ bs) (i ∷ (j ∷ is)) l h = ap suc (numbers_count bs is (omega arith) h.1)
numbers_count (suc (suc (suc w)) ∷ bs) is l h = absurd (omega (arith, h.0.1))

-- what small digits spell is in their order
spell_less : (ps qs : List ℕ) (x y : ℕ) → length ps ≡ length qs → Each (λ n. n ≤ 6) ps → x < y → spell x ps < spell y qs
spell_less [] [] x y e small h = h
spell_less [] (q ∷ qs) x y e small h = absurd (omega arith)
spell_less (p ∷ ps) [] x y e small h = absurd (omega arith)
spell_less (p ∷ ps) (q ∷ qs) x y e small h =
    let le : p ≤ 6 = small.0 in
    spell_less ps qs (7 * x + p) (7 * y + q) (omega arith) small.1 (omega (arith, le, h))

spelled_less : (x y : ℕ) (rest : Bool) → x < y → spelled_before x y rest ≡ true
spelled_less x y rest h = grind (arith, nat_tests)

spelled_more : (x y : ℕ) (rest : Bool) → y < x → spelled_before x y rest ≡ false
spelled_more x y rest h = grind (arith, nat_tests)

pub spelled_same : (x y : ℕ) (rest : Bool) → x ≡ y → spelled_before x y rest ≡ rest
spelled_same x y rest h = grind (arith, nat_tests)

pub spelled_apart : (x y : ℕ) (rest : Bool) → x ≢ y → spelled_before x y rest ≡ nat_lt x y
spelled_apart x y rest h = grind (arith, nat_tests)

spell_tells : (ps qs : List ℕ) (x : ℕ) (a b : List ℕ) → length ps ≡ length qs → Each (λ n. n ≤ 6) ps → Each (λ n. n ≤ 6) qs →
    lexicographic (ps ++ a) (qs ++ b) ≡ spelled_before (spell x ps) (spell x qs) (lexicographic a b)
spell_tells [] [] x a b e small_p small_q = sym (spelled_same x x (lexicographic a b) refl)
spell_tells [] (q ∷ qs) x a b e small_p small_q = absurd (omega arith)
spell_tells (p ∷ ps) [] x a b e small_p small_q = absurd (omega arith)
spell_tells (p ∷ ps) (q ∷ qs) x a b e small_p small_q =
    let short : length ps ≡ length qs = omega arith in
    let P = spell (7 * x + p) ps in
    let Q = spell (7 * x + q) qs in
    let rest = lexicographic (ps ++ a) (qs ++ b) in
    elim (cases_lt p q) as (λ _. spelled_before p q rest ≡ spelled_before P Q (lexicographic a b)) [
      | inl h ↦ spelled_less p q rest h ∙ sym (spelled_less P Q (lexicographic a b) (spell_less ps qs (7 * x + p) (7 * x + q) short small_p.1 (omega (arith, h))))
      | inr h ↦ elim (cases_lt q p) as (λ _. spelled_before p q rest ≡ spelled_before P Q (lexicographic a b)) [
        | inl l ↦ spelled_more p q rest l ∙ sym (spelled_more P Q (lexicographic a b) (spell_less qs ps (7 * x + q) (7 * x + p) (sym short) small_q.1 (omega (arith, l))))
        | inr l ↦
            let same : q ≡ p = omega (arith, h, l) in
            spelled_same p q rest (sym same) ∙ spell_tells ps qs (7 * x + p) a b short small_p.1 small_q.1
            ∙ ap (λ d. spelled_before P (spell (7 * x + d) qs) (lexicographic a b)) (sym same)
      ]
    ]

pub spelled_order : (r : ℕ) (bs : List ℕ) (is js : Index) → AreBlocks r bs → length is ≡ r → length js ≡ r →
    block_before bs is js ≡ spelled_before (spell 0 (block_numbers bs is)) (spell 0 (block_numbers bs js)) (index_before is js)
spelled_order r bs is js fit li lj =
    let t : total bs ≡ r = fit.1 in
    spell_tells (block_numbers bs is) (block_numbers bs js) 0 (map digit is) (map digit js)
    (numbers_count bs is (omega (arith, t, li)) fit.0 ∙ sym (numbers_count bs js (omega (arith, t, lj)) fit.0))
    (numbers_small bs is) (numbers_small bs js)
    ∙ ap (spelled_before (spell 0 (block_numbers bs is)) (spell 0 (block_numbers bs js))) (digits_tell is js (li ∙ sym lj))

-- ---- the number of one block
pub front_one : (is : Index) (s : ℕ) → s < length is → front_number 1 (drop s is) ≡ digit (nth is s)
front_one is s h = rw (drop-cons is s x1 h) refl

pair_told : (i j : Axis) → pair_number i j ≡ pair_of (digit i) (digit j)
pair_told x1 x1 = refl
pair_told x1 x2 = refl
pair_told x1 x3 = refl
pair_told x2 x1 = refl
pair_told x2 x2 = refl
pair_told x2 x3 = refl
pair_told x3 x1 = refl
pair_told x3 x2 = refl
pair_told x3 x3 = refl

pub front_two : (is : Index) (s : ℕ) → s + 1 < length is →
    front_number 2 (drop s is) ≡ pair_of (digit (nth is s)) (digit (nth is (s + 1)))
front_two is s h =
    let one : s < length is = omega (arith, h) in
    let two : suc s < length is = omega (arith, h) in
    rw (add-one, drop-cons is s x1 one, drop-cons is (suc s) x1 two) (pair_told (nth is s) (nth is (suc s)))

pub pair_same : (d e : ℕ) → d ≡ e → pair_of d e ≡ d
pair_same d e h = grind (arith, nat_tests)

pub pair_other : (d e : ℕ) → d ≢ e → pair_of d e ≡ 9 - (d + e)
pair_other d e h = grind (arith, nat_tests)

pub by_index : (o : Ordering) → is_by_index o ≡ true → o ≡ ByIndex
by_index ByIndex h = refl
by_index (ByBlocks bs) h = cc
