-- The words by their numbers, and their rows as sums over the components that belong to them.
--   sum_terms    sums over the components that belong to a word
--   terms_within, terms_few    the terms of a word: where they are, and how many
--   row_sum_terms, length_letters, length_word, carried_row    what a component gives to a representative
--   words_listed    the words in their order
--   word_unused, word_used    the rows of one more word
--   letters_more, letter_one, letter_two, letter_three, letter_split, letter_split_back ..
--       the letters of a word from a place on
use Rattle.std.proofs.Common.{[], ◌≡◌, ◌≢◌, ℕ, zero, suc, ◌+◌, ◌-◌, ◌*◌, ◌/◌, ◌%◌, ◌^◌, ◌<◌, ◌≤◌, Bool, true, false, cond, List, ◌∷◌, ◌++◌, length, drop, get_or, map, take, refl, ap, sym, ◌∙◌, arith, subst, inl, inr, eq-eqb, append_assoc, append-nil, lit<}
use Rattle.std.specs.Prelude.{filter, nat_eq, Option, Some, None, unsigned_abs}
use Rattle.std.proofs.lemmas.Bool.{eqb-true, cases_Bool}
use Rattle.std.proofs.lemmas.List.{drop_all, map_push, length-append, length-drop, map-append}
use Rattle.std.proofs.Math.ListN.{set}
use Rattle.list_laws.proofs.Members.{each_append, each_map}
use Rattle.std.proofs.lemmas.List.Elements.{filter-append}
use Rattle.std.proofs.lemmas.Nat.{div-mul-add, mod-mul-add}
use Rattle.tensor_laws.proofs.Prelude.{same_own, same_told, sum_indices-agree, length-index_of, number-index_of}
use Rattle.tensor_rank.proofs.ExchangeLaws.{power_small}
use native.Mathlib.Nat.{pow-suc}
use lib.IntN.{negsuc}
use Rattle.number_laws.proofs.NumberLaws.{num_add-zero, num_zero-add, num_add_assoc, num_mul-zero, num_mul-one}
use Rattle.tensor_defs.specs.Prelude.{share, Each, Number, add, mul, neg, num_zero, num_one, whole, Axis, x1, x2, x3, Index, axis_at, component_number, digit}
use Rattle.tensor_defs.specs.Prelude.{index_of, same_index, sum_indices, level, plus, minus, Letter, Word, words, belongs, twos, minus_twos}
use Rattle.tensor_defs.specs.Prelude.{power_of_minus_one, even_row, odd_row}
use Rattle.tensor_defs.specs.declared.Sign.{Sign}
use Rattle.tensor_defs.specs.declared.Sign.TheVariants.{Plus, Minus}
use Rattle.sign_moves.specs.declared.classes.Entry.{Entry}
use Rattle.sign_moves.specs.Signs.{times, signed}
use Rattle.sign_moves.proofs.SignLaws.{signed-signed}
use Rattle.tensor_rank.specs.IndexLaws.{component_below_at, nth}
use Rattle.constraint_rows.specs.Gathering.{AreSmallTerms, raised}
use Rattle.constraint_rows.specs.Prelude.{class_at, AreRowsBelow, AreTermsBelow, letter_of, letters, word_at, words_below, terms_from, turn_sign, part_row}
use Rattle.constraint_rows.specs.Prelude.{part, unit, gathered, AreSound, AreWordRows, IsCarriedRow, carrier_of, carried_to}
use Rattle.constraint_rows.specs.declared.rows.Part.{Part}
use Rattle.constraint_rows.specs.declared.words.Term.{Term}
use Rattle.constraint_rows.proofs.OpIndex.{signed_mul}
use Rattle.constraint_rows.proofs.GatherLaws.{IsGathering, IsTotalBelow, class_part, gathering, part_is, row_at-gathered, term_part, terms_sum}

-- ---- sums over the components that belong to a word
zero_sum : (r : ℕ) → sum_indices r (λ is. num_zero) ≡ num_zero
zero_sum zero = refl
zero_sum (suc r) = (λ i. add (zero_sum r i) (add (zero_sum r i) (zero_sum r i))) ∙ num_zero-add (add num_zero num_zero) ∙ num_zero-add num_zero

terms_sum-append : (G : ℕ → ℕ → Number) (ts us : List Term) → terms_sum G (ts ++ us) ≡ add (terms_sum G ts) (terms_sum G us)
terms_sum-append G [] us = sym (num_zero-add (terms_sum G us))
terms_sum-append G (t ∷ ts) us =
    ap (add (G t.component t.quarters)) (terms_sum-append G ts us)
    ∙ sym (num_add_assoc (G t.component t.quarters) (terms_sum G ts) (terms_sum G us))

-- what a component with these indices gives after those of the number n
abbrev of_index : (ℕ → ℕ → Number) → ℕ → ℕ → Word → Index → Number
of_index G n q w is = cond (belongs w is) (G (n * 3 ^ length is + component_number is) (q + (twos is + 2 * minus_twos w is))) num_zero

shift : (n j q m : ℕ) → n * (q * 3) + (j * q + m) ≡ (3 * n + j) * q + m
shift n j q m = omega arith

shift_zero : (n q m : ℕ) → n * (q * 3) + (0 * q + m) ≡ (3 * n) * q + m
shift_zero n q m = omega arith

moved_on : (n j m : ℕ) (is : Index) → n * 3 ^ suc (length is) + (j * 3 ^ length is + m) ≡ (3 * n + j) * 3 ^ length is + m
moved_on n j m is = ap (λ p. n * p + (j * 3 ^ length is + m)) (pow-suc 3 (length is)) ∙ shift n j (3 ^ length is) m

moved_on_zero : (n m : ℕ) (is : Index) → n * 3 ^ suc (length is) + (0 * 3 ^ length is + m) ≡ (3 * n) * 3 ^ length is + m
moved_on_zero n m is = ap (λ p. n * p + (0 * 3 ^ length is + m)) (pow-suc 3 (length is)) ∙ shift_zero n (3 ^ length is) m

-- the rest of a word after an index that belongs to its first letter
part_sum : (G : ℕ → ℕ → Number) (w : Word) (a b : Index → ℕ) (n q : ℕ) →
    ((is : Index) → a is ≡ n * 3 ^ length is + component_number is) → ((is : Index) → b is ≡ q + (twos is + 2 * minus_twos w is)) →
    sum_indices (length w) (λ is. cond (belongs w is) (G (a is) (b is)) num_zero) ≡ sum_indices (length w) (of_index G n q w)
part_sum G w a b n q e f = λ i. sum_indices (length w) (λ is. cond (belongs w is) (G (e is i) (f is i)) num_zero)

-- after a letter other than z: an index 1, or an index 2 with a power of i
two_sums : (G : ℕ → ℕ → Number) (w : Word) → ((n q : ℕ) → sum_indices (length w) (of_index G n q w) ≡ terms_sum G (terms_from n q w)) →
    (n q p : ℕ) (b : Index → ℕ) → ((is : Index) → b is ≡ p + (twos is + 2 * minus_twos w is)) →
    add (sum_indices (length w) (λ is. cond (belongs w is) (G (n * 3 ^ suc (length is) + (0 * 3 ^ length is + component_number is)) (q + (twos is + 2 * minus_twos w is))) num_zero))
    (add (sum_indices (length w) (λ is. cond (belongs w is) (G (n * 3 ^ suc (length is) + (1 * 3 ^ length is + component_number is)) (b is)) num_zero)) (sum_indices (length w) (λ is. num_zero)))
    ≡ terms_sum G (terms_from (3 * n) q w ++ terms_from (3 * n + 1) p w)
two_sums G w told n q p b e =
    let first = part_sum G w (λ is. n * 3 ^ suc (length is) + (0 * 3 ^ length is + component_number is)) (λ is. q + (twos is + 2 * minus_twos w is))
    (3 * n) q (λ is. moved_on_zero n (component_number is) is) (λ is. refl) ∙ told (3 * n) q in
    let second = part_sum G w (λ is. n * 3 ^ suc (length is) + (1 * 3 ^ length is + component_number is)) b
    (3 * n + 1) p (λ is. moved_on n 1 (component_number is) is) e ∙ told (3 * n + 1) p in
    (λ i. add (first i) (add (second i) (zero_sum (length w) i))) ∙ ap (add (terms_sum G (terms_from (3 * n) q w))) (num_add-zero _)
    ∙ sym (terms_sum-append G (terms_from (3 * n) q w) (terms_from (3 * n + 1) p w))

pub sum_terms : (G : ℕ → ℕ → Number) (w : Word) (n q : ℕ) → sum_indices (length w) (of_index G n q w) ≡ terms_sum G (terms_from n q w)
sum_terms G [] n q =
    let e : n * 1 + 0 ≡ n = omega arith in
    let f : q + (0 + 2 * 0) ≡ q = omega arith in
    (λ i. G (e i) (f i)) ∙ sym (num_add-zero (G n q))
sum_terms G (level ∷ w) n q =
    let r : ℕ = length w in
    let third : sum_indices r (λ is. of_index G n q (level ∷ w) (x3 ∷ is)) ≡ terms_sum G (terms_from (3 * n + 2) q w) =
    part_sum G w (λ is. n * 3 ^ suc (length is) + (2 * 3 ^ length is + component_number is)) (λ is. q + (twos is + 2 * minus_twos w is))
    (3 * n + 2) q (λ is. moved_on n 2 (component_number is) is) (λ is. refl) ∙ sum_terms G w (3 * n + 2) q in
    (λ i. add (zero_sum r i) (add (zero_sum r i) (third i))) ∙ num_zero-add _ ∙ num_zero-add _
sum_terms G (plus ∷ w) n q = two_sums G w (sum_terms G w) n q (q + 1) (λ is. q + (1 + twos is + 2 * minus_twos w is)) (λ is. omega arith)
sum_terms G (minus ∷ w) n q = two_sums G w (sum_terms G w) n q (q + 3) (λ is. q + (1 + twos is + 2 * (1 + minus_twos w is))) (λ is. omega arith)

-- ---- the terms of a word: where they are, and how many
-- with their powers of i
pub terms_within : (w : Word) (n q k : ℕ) → n < 3 ^ k → (m : ℕ) → m ≡ k + length w → (b : ℕ) → q + 3 * length w ≤ b →
    Each (λ t. (t.component < 3 ^ m) × (t.quarters ≤ b)) (terms_from n q w)
terms_within [] n q k h m e b f = ((subst (λ j. n < 3 ^ j) (let s : k ≡ m = omega arith in s) h, omega (arith, f)), tt)
terms_within (level ∷ w) n q k h m e b f = terms_within w (3 * n + 2) q (suc k) (rw (pow-suc 3 k) (omega arith)) m (omega arith) b (omega (arith, f))
terms_within (plus ∷ w) n q k h m e b f =
    each_append _ (terms_from (3 * n) q w) (terms_from (3 * n + 1) (q + 1) w)
    (terms_within w (3 * n) q (suc k) (rw (pow-suc 3 k) (omega arith)) m (omega arith) b (omega (arith, f)))
    (terms_within w (3 * n + 1) (q + 1) (suc k) (rw (pow-suc 3 k) (omega arith)) m (omega arith) b (omega (arith, f)))
terms_within (minus ∷ w) n q k h m e b f =
    each_append _ (terms_from (3 * n) q w) (terms_from (3 * n + 1) (q + 3) w)
    (terms_within w (3 * n) q (suc k) (rw (pow-suc 3 k) (omega arith)) m (omega arith) b (omega (arith, f)))
    (terms_within w (3 * n + 1) (q + 3) (suc k) (rw (pow-suc 3 k) (omega arith)) m (omega arith) b (omega (arith, f)))

terms_below : (w : Word) (n r : ℕ) → n ≡ 3 ^ r → length w ≡ r → Each (λ t. t.component < n) (terms_from 0 0 w)
terms_below w n r size l =
    let one : 0 < 3 ^ 0 = lit< tt in
    each_map _ _ (λ t h. subst (λ m. t.component < m) (sym size) h.0) _ (terms_within w 0 0 0 one r (omega (arith, l)) (3 * length w) (omega arith))

few_joined : (w : Word) (ts us : List Term) → length ts ≤ 3 ^ length w → length us ≤ 3 ^ length w → length (ts ++ us) ≤ 3 ^ suc (length w)
few_joined w ts us h k = let c = length-append ts us in rw (pow-suc 3 (length w)) (omega (arith, c))

pub terms_few : (w : Word) (n q : ℕ) → length (terms_from n q w) ≤ 3 ^ length w
terms_few [] n q = omega arith
terms_few (level ∷ w) n q = few_joined w [] (terms_from (3 * n + 2) q w) (omega arith) (terms_few w (3 * n + 2) q)
terms_few (plus ∷ w) n q = few_joined w (terms_from (3 * n) q w) (terms_from (3 * n + 1) (q + 1) w) (terms_few w (3 * n) q) (terms_few w (3 * n + 1) (q + 1))
terms_few (minus ∷ w) n q = few_joined w (terms_from (3 * n) q w) (terms_from (3 * n + 1) (q + 3) w) (terms_few w (3 * n) q) (terms_few w (3 * n + 1) (q + 3))

-- ---- what a component gives to a representative
share_zero : (o : Option (Index × Number)) (u : Index) → share o num_zero u ≡ num_zero
share_zero None u = refl
share_zero (Some d) u = by (same_index d.0 u)
  where
    by : (b : Bool) → cond b (mul d.1 num_zero) num_zero ≡ num_zero
    by true = num_mul-zero d.1
    by false = refl

index_numbers : (r d u : ℕ) → d < 3 ^ r → u < 3 ^ r → same_index (index_of r d) (index_of r u) ≡ nat_eq u d
index_numbers r d u h l = elim (cases_Bool (nat_eq u d)) as (λ _. same_index (index_of r d) (index_of r u) ≡ nat_eq u d) [
  | inl e ↦ ap (λ x. same_index (index_of r x) (index_of r u)) (sym (eqb-true u d e)) ∙ same_own (index_of r u) ∙ sym e
  | inr e ↦ elim (cases_Bool (same_index (index_of r d) (index_of r u))) as (λ _. same_index (index_of r d) (index_of r u) ≡ nat_eq u d) [
    | inl s ↦
        let same : u ≡ d = sym (number-index_of r u l) ∙ ap component_number (sym (same_told (index_of r d) (index_of r u) s)) ∙ number-index_of r d h in
        let t : true ≡ false = sym (eq-eqb u d same) ∙ e in
        cc
    | inr s ↦ s ∙ sym e
  ]
]

sign_power : (m : ℕ) → power_of_minus_one m ≡ signed (cond (nat_eq (m % 2) 0) Plus Minus) num_one
sign_power m = by (nat_eq (m % 2) 0)
  where
    by : (b : Bool) → cond b num_one (neg num_one) ≡ signed (cond b Plus Minus) num_one
    by true = refl
    by false = refl

unit_number : (s : Sign) → whole (unit s) ≡ signed s num_one
unit_number Plus = refl
unit_number Minus = sym (num_mul-one (whole (negsuc 0)))

-- a row of the word, carried over to the representative with the number u
module _ (n r : ℕ) (size : n ≡ 3 ^ r) (before : ℕ → ℕ → Bool) (es : List Entry) (sound : AreSound n before es) (b : ℕ) (u : ℕ) (inside : u < 3 ^ r) where
  share_class : (c : ℕ) → c < n → (s : Sign) (o : Option (ℕ × Sign)) → class_at es c ≡ o →
      share (carried_to r o) (signed s num_one) (index_of r u) ≡ class_part o s u
  share_class c l s None e = refl
  share_class c l s (Some x) e =
      let below : x.0 < 3 ^ r = subst (λ m. x.0 < m) size (sound.below c x.0 x.1 l e) in
      (λ i. cond (index_numbers r x.0 u below inside i) (value i) num_zero) ∙ sym (part_is (part x.0 (unit (times x.1 s))) u)
    where
      value : mul (signed x.1 num_one) (signed s num_one) ≡ whole (unit (times x.1 s))
      value = signed_mul x.1 (signed s num_one) ∙ signed-signed x.1 s num_one ∙ sym (unit_number (times x.1 s))

  share_term : (c k q : ℕ) → c < n →
      share (carried_to r (class_at es c)) (cond (nat_eq (k % 2) b) (power_of_minus_one (k / 2 + q)) num_zero) (index_of r u)
      ≡ term_part es b u c (k + 2 * q)
  share_term c k q l =
      let even : k % 2 ≡ (k + 2 * q) % 2 = omega arith in
      let half : k / 2 + q ≡ (k + 2 * q) / 2 = omega arith in
      ap (λ m. share (carried_to r (class_at es c)) (cond (nat_eq (k % 2) b) m num_zero) (index_of r u))
      (sign_power (k / 2 + q) ∙ ap (λ m. signed (cond (nat_eq (m % 2) 0) Plus Minus) num_one) half)
      ∙ ap (λ m. share (carried_to r (class_at es c)) (cond (nat_eq m b) (signed (turn_sign (k + 2 * q)) num_one) num_zero) (index_of r u)) even
      ∙ by (nat_eq ((k + 2 * q) % 2) b)
    where
      by : (t : Bool) → share (carried_to r (class_at es c)) (cond t (signed (turn_sign (k + 2 * q)) num_one) num_zero) (index_of r u)
          ≡ cond t (class_part (class_at es c) (turn_sign (k + 2 * q)) u) num_zero
      by true = share_class c l (turn_sign (k + 2 * q)) (class_at es c) refl
      by false = share_zero (carried_to r (class_at es c)) (index_of r u)

  share_row : (w : Word) (is : Index) → length is ≡ r →
      share (carrier_of r es is) (part_row b w is) (index_of r u) ≡ of_index (term_part es b u) 0 0 w is
  share_row w is l =
      let c : ℕ = component_number is in
      let k : ℕ = twos is in
      let q : ℕ = minus_twos w is in
      let below : c < n = subst (λ m. c < m) (sym size) (component_below_at r is l) in
      let here : 0 * 3 ^ length is + c ≡ c = omega arith in
      let turns : 0 + (k + 2 * q) ≡ k + 2 * q = omega arith in
      by (belongs w is) below ∙ sym (λ i. cond (belongs w is) (term_part es b u (here i) (turns i)) num_zero)
    where
      by : (t : Bool) → component_number is < n →
          share (carried_to r (class_at es (component_number is)))
          (cond t (cond (nat_eq (twos is % 2) b) (power_of_minus_one (twos is / 2 + minus_twos w is)) num_zero) num_zero) (index_of r u)
          ≡ cond t (term_part es b u (component_number is) (twos is + 2 * minus_twos w is)) num_zero
      by true m = share_term (component_number is) (twos is) (minus_twos w is) m
      by false m = share_zero (carried_to r (class_at es (component_number is))) (index_of r u)

  pub row_sum_terms : (w : Word) → length w ≡ r →
      sum_indices r (λ c. share (carrier_of r es c) (part_row b w c) (index_of r u)) ≡ terms_sum (term_part es b u) (terms_from 0 0 w)
  row_sum_terms w l =
      sum_indices-agree r (λ c. share (carrier_of r es c) (part_row b w c) (index_of r u)) (of_index (term_part es b u) 0 0 w) (share_row w)
      ∙ ap (λ m. sum_indices m (of_index (term_part es b u) 0 0 w)) (sym l) ∙ sum_terms (term_part es b u) w 0 0

pub length_letters : (is : Index) → length (letters is) ≡ length is
length_letters [] = refl
length_letters (i ∷ is) = ap suc (length_letters is)

pub length_word : (r c : ℕ) → length (word_at r c) ≡ r
length_word r c = length_letters (index_of r c) ∙ length-index_of r c

-- the row that is gathered from the terms of a word
pub carried_row : (n r : ℕ) → n ≡ 3 ^ r → n ≤ 729 → (before : ℕ → ℕ → Bool) → IsTotalBelow n before → (es : List Entry) →
    AreSound n before es → (b : ℕ) (w : Word) → length w ≡ r →
    IsCarriedRow r before es (part_row b w) (gathered before es b (terms_from 0 0 w) [])
carried_row n r size fits before order es sound b w l =
    let where_they_are = terms_below w n r size l in
    let few : length (terms_from 0 0 w) ≤ 3 ^ r = subst (λ m. length (terms_from 0 0 w) ≤ 3 ^ m) l (terms_few w 0 0) in
    let g : IsGathering n before es (0 + length (terms_from 0 0 w)) (gathered before es b (terms_from 0 0 w) []) =
    gathering n before order es sound b (terms_from 0 0 w) where_they_are 0 [] (record { parts = tt; rising = tt; own = tt; small = tt }) in
    record {
      rising = g.rising;
      own = g.own;
      few = bounded (gathered before es b (terms_from 0 0 w) []) (0 + length (terms_from 0 0 w)) (omega arith) g.small;
      carried = λ u h.
          row_at-gathered before es b u (terms_from 0 0 w) [] ∙ num_add-zero _ ∙ sym (row_sum_terms n r size before es sound b u h w l);
    }
  where
    bounded : (ps : List Part) (k : ℕ) → k ≤ 729 → Each (λ p. unsigned_abs p.number ≤ k) ps → Each (λ p. unsigned_abs p.number ≤ 729) ps
    bounded [] k h e = tt
    bounded (p ∷ ps) k h e = (let a = e.0 in omega (arith, a), bounded ps k h e.1)

-- ---- the words in their order
word_block : (r j m : ℕ) → m < 3 ^ r → word_at (suc r) (j * 3 ^ r + m) ≡ letter_of (axis_at j) ∷ word_at r m
word_block r j m h =
    let d = div-mul-add j (3 ^ r) m h in
    let e = mod-mul-add j (3 ^ r) m h in
    λ i. letter_of (axis_at (d i)) ∷ letters (index_of r (e i))

block : (r j m : ℕ) → m ≤ 3 ^ r →
    words_below (suc r) (j * 3 ^ r + m) ≡ words_below (suc r) (j * 3 ^ r) ++ map (λ w. letter_of (axis_at j) ∷ w) (words_below r m)
block r j zero h =
    let e : j * 3 ^ r + 0 ≡ j * 3 ^ r = omega arith in
    ap (words_below (suc r)) e ∙ sym (append-nil (words_below (suc r) (j * 3 ^ r)))
block r j (suc m) h =
    let l : Letter = letter_of (axis_at j) in
    let next : j * 3 ^ r + suc m ≡ suc (j * 3 ^ r + m) = omega arith in
    ap (words_below (suc r)) next
    ∙ (λ i. block r j m (omega arith) i ++ word_block r j m (omega arith) i ∷ [])
    ∙ append_assoc (words_below (suc r) (j * 3 ^ r)) (map (λ w. l ∷ w) (words_below r m)) ((l ∷ word_at r m) ∷ [])
    ∙ ap (λ ws. words_below (suc r) (j * 3 ^ r) ++ ws) (sym (map_push (λ w. l ∷ w) (words_below r m) (word_at r m)))

pub words_listed : (r : ℕ) → words_below r (3 ^ r) ≡ words r
words_listed zero = refl
words_listed (suc r) =
    let p : ℕ = 3 ^ r in
    let all : 3 ^ suc r ≡ 2 * p + p = pow-suc 3 r ∙ omega arith in
    let two : 2 * p ≡ 1 * p + p = omega arith in
    let one : 1 * p ≡ 0 * p + p = omega arith in
    let none : 0 * p ≡ 0 = omega arith in
    let e : words_below r p ≡ words r = words_listed r in
    let first : words_below (suc r) (1 * p) ≡ map (λ w. level ∷ w) (words r) =
    ap (words_below (suc r)) one ∙ block r 0 p (omega arith) ∙ (λ i. words_below (suc r) (none i) ++ map (λ w. level ∷ w) (e i)) in
    let second : words_below (suc r) (2 * p) ≡ map (λ w. level ∷ w) (words r) ++ map (λ w. plus ∷ w) (words r) =
    ap (words_below (suc r)) two ∙ block r 1 p (omega arith) ∙ (λ i. first i ++ map (λ w. plus ∷ w) (e i)) in
    ap (words_below (suc r)) all ∙ block r 2 p (omega arith) ∙ (λ i. second i ++ map (λ w. minus ∷ w) (e i))

-- ---- the rows of one more word
module _ (r : ℕ) (before : ℕ → ℕ → Bool) (es : List Entry) (chosen : Word → Bool) where
  rows_more : (ws : List Word) (rows : List (List Part)) (w : Word) (a b : List Part) → AreWordRows r before es ws rows →
      IsCarriedRow r before es (even_row w) a → IsCarriedRow r before es (odd_row w) b →
      AreWordRows r before es (ws ++ w ∷ []) (rows ++ a ∷ b ∷ [])
  rows_more [] [] w a b h p q = (p, q, tt)
  rows_more [] (x ∷ rows) w a b h p q = absurd h
  rows_more (v ∷ ws) [] w a b h p q = absurd h
  rows_more (v ∷ ws) (x ∷ []) w a b h p q = absurd h
  rows_more (v ∷ ws) (x ∷ (y ∷ rows)) w a b h p q = (h.0, h.1, rows_more ws rows w a b h.2 p q)

  one_chosen : (w : Word) (u : Bool) → chosen w ≡ u → filter chosen (w ∷ []) ≡ cond u (w ∷ []) []
  one_chosen w u e = ap (λ t. cond t (w ∷ []) []) e

  chosen_more : (n : ℕ) (u : Bool) → chosen (word_at r n) ≡ u →
      filter chosen (words_below r (n + 1)) ≡ filter chosen (words_below r n) ++ cond u (word_at r n ∷ []) []
  chosen_more n u e =
      let next : n + 1 ≡ suc n = omega arith in
      ap (λ m. filter chosen (words_below r m)) next
      ∙ filter-append chosen (words_below r n) (word_at r n ∷ []) ∙ ap (λ ws. filter chosen (words_below r n) ++ ws) (one_chosen (word_at r n) u e)

  pub word_taken : (n : ℕ) (rows : List (List Part)) (a b : List Part) → chosen (word_at r n) ≡ true → AreRowsBelow r before es chosen n rows →
      IsCarriedRow r before es (even_row (word_at r n)) a → IsCarriedRow r before es (odd_row (word_at r n)) b →
      AreRowsBelow r before es chosen (n + 1) (rows ++ a ∷ b ∷ [])
  word_taken n rows a b e h p q = record {
    gone = subst (λ ws. AreWordRows r before es ws (rows ++ a ∷ b ∷ [])) (sym (chosen_more n true e))
        (rows_more (filter chosen (words_below r n)) rows (word_at r n) a b h.gone p q);
  }

-- ---- the letters of a word from a place on
pub letters_more : (is : Index) (p : ℕ) → p < length is → drop p (letters is) ≡ letter_of (nth is p) ∷ drop (suc p) (letters is)
letters_more [] p h = absurd (omega arith)
letters_more (i ∷ is) zero h = refl
letters_more (i ∷ is) (suc p) h = letters_more is p (omega arith)

pub letter_one : (i : Axis) → digit i ≡ 1 → letter_of i ≡ level
letter_one x1 h = refl
letter_one x2 h = cc
letter_one x3 h = cc

pub letter_two : (i : Axis) → digit i ≡ 2 → letter_of i ≡ plus
letter_two x1 h = cc
letter_two x2 h = refl
letter_two x3 h = cc

pub letter_three : (i : Axis) → digit i ≢ 1 → digit i ≢ 2 → letter_of i ≡ minus
letter_three x1 a b = absurd (a refl)
letter_three x2 a b = absurd (b refl)
letter_three x3 a b = refl

pub letter_split : (r n p : ℕ) → p < r → drop p (word_at r n) ≡ letter_of (nth (index_of r n) p) ∷ drop (p + 1) (word_at r n)
letter_split r n p h =
    let inside : p < length (index_of r n) = subst (λ k. p < k) (sym (length-index_of r n)) h in
    let next : suc p ≡ p + 1 = omega arith in
    letters_more (index_of r n) p inside ∙ ap (λ k. letter_of (nth (index_of r n) p) ∷ drop k (word_at r n)) next

pub letter_split_back : (r n p : ℕ) (l : Letter) → 0 < p → p ≤ r → letter_of (nth (index_of r n) (p - 1)) ≡ l →
    drop (p - 1) (word_at r n) ≡ l ∷ drop p (word_at r n)
letter_split_back r n p l h k e =
    let next : p - 1 + 1 ≡ p = omega arith in
    letter_split r n (p - 1) (omega arith) ∙ (λ i. e i ∷ drop (next i) (word_at r n))

pub no_letter : (r n p : ℕ) → r ≤ p → drop p (word_at r n) ≡ []
no_letter r n p h = let l = length_word r n in drop_all p (word_at r n) (omega (arith, l))

-- the terms of a whole word
pub word_terms_below : (n r c : ℕ) → n ≡ 3 ^ r → AreTermsBelow n (terms_from 0 0 (word_at r c))
word_terms_below n r c size = record { each = terms_below (word_at r c) n r size (length_word r c) }

pub word_terms_few : (n r c : ℕ) → n ≡ 3 ^ r → n ≤ 729 → length (terms_from 0 0 (word_at r c)) ≤ 729
word_terms_few n r c size fits =
    let few : length (terms_from 0 0 (word_at r c)) ≤ 3 ^ r = subst (λ m. length (terms_from 0 0 (word_at r c)) ≤ 3 ^ m) (length_word r c) (terms_few (word_at r c) 0 0) in
    omega (arith, few, size)

-- ---- a letter in front
pub small_weight : (k : ℕ) → k ≤ 5 → 3 ^ k ≤ 243
small_weight k h = let p : 3 ^ suc k ≤ 729 = power_small (suc k) (omega arith) in let e = pow-suc 3 k in omega (arith, p, e)

-- a list of terms, raised as far as a place
pub raised_read : (f : Term → Term) (ts : List Term) (i : ℕ) (t : Term) → i < length ts → get_or (map f (take i ts) ++ drop i ts) i t ≡ get_or ts i t
raised_read f [] i t h = absurd (omega arith)
raised_read f (u ∷ ts) zero t h = refl
raised_read f (u ∷ ts) (suc i) t h = raised_read f ts i t (omega arith)

pub raised_more : (f : Term → Term) (ts : List Term) (i : ℕ) (t : Term) → i < length ts → t ≡ get_or ts i t →
    set (map f (take i ts) ++ drop i ts) i (f t) ≡ map f (take (suc i) ts) ++ drop (suc i) ts
raised_more f [] i t h e = absurd (omega arith)
raised_more f (u ∷ ts) zero t h e = ap (λ x. f x ∷ ts) e
raised_more f (u ∷ ts) (suc i) t h e = ap (λ us. f u ∷ us) (raised_more f ts i t (omega arith) e)

raised_twice : (a b c d : ℕ) (ts : List Term) → map (raised a b) (map (raised c d) ts) ≡ map (raised (c + a) (d + b)) ts
raised_twice a b c d [] = refl
raised_twice a b c d (t ∷ ts) =
    λ i. record { component = assoc t.component c a i; quarters = assoc t.quarters d b i } ∷ raised_twice a b c d ts i
  where
    assoc : (x y z : ℕ) → x + y + z ≡ x + (y + z)
    assoc x y z = omega arith

raised_on : (w : Word) → ((n q : ℕ) → terms_from n q w ≡ map (raised (n * 3 ^ length w) q) (terms_from 0 0 w)) →
    (n q j t m p : ℕ) → m ≡ 3 * n + j → p ≡ q + t → terms_from m p w ≡ map (raised (n * 3 ^ suc (length w)) q) (terms_from j t w)
raised_on w is n q j t m p e f =
    let k : ℕ = 3 ^ length w in
    let one : m * k ≡ j * k + n * 3 ^ suc (length w) =
    ap (λ x. x * k) e ∙ spread n j k ∙ ap (λ x. j * k + n * x) (sym (pow-suc 3 (length w))) in
    let two : p ≡ t + q = omega (arith, f) in
    is m p ∙ (λ i. map (raised (one i) (two i)) (terms_from 0 0 w))
    ∙ sym (raised_twice (n * 3 ^ suc (length w)) q (j * k) t (terms_from 0 0 w))
    ∙ ap (map (raised (n * 3 ^ suc (length w)) q)) (sym (is j t))
  where
    spread : (n j k : ℕ) → (3 * n + j) * k ≡ j * k + n * (k * 3)
    spread n j k = omega arith

-- the terms after those of the number n and the power q are those of the word itself, raised
terms_raised : (w : Word) (n q : ℕ) → terms_from n q w ≡ map (raised (n * 3 ^ length w) q) (terms_from 0 0 w)
terms_raised [] n q =
    let one : n ≡ 0 + n * 1 = omega arith in
    let two : q ≡ 0 + q = omega arith in
    λ i. record { component = one i; quarters = two i } ∷ []
terms_raised (level ∷ w) n q = raised_on w (terms_raised w) n q 2 0 (3 * n + 2) q refl (omega arith)
terms_raised (plus ∷ w) n q =
    (λ i. raised_on w (terms_raised w) n q 0 0 (3 * n) q (omega arith) (omega arith) i ++ raised_on w (terms_raised w) n q 1 1 (3 * n + 1) (q + 1) refl refl i)
    ∙ sym (map-append (raised (n * 3 ^ suc (length w)) q) (terms_from 0 0 w) (terms_from 1 1 w))
terms_raised (minus ∷ w) n q =
    (λ i. raised_on w (terms_raised w) n q 0 0 (3 * n) q (omega arith) (omega arith) i ++ raised_on w (terms_raised w) n q 1 3 (3 * n + 1) (q + 3) refl refl i)
    ∙ sym (map-append (raised (n * 3 ^ suc (length w)) q) (terms_from 0 0 w) (terms_from 1 3 w))

pub front_level : (w : Word) (k : ℕ) → k ≡ 3 ^ length w → map (raised (2 * k) 0) (terms_from 0 0 w) ≡ terms_from 0 0 (level ∷ w)
front_level w k e = ap (λ x. map (raised (2 * x) 0) (terms_from 0 0 w)) e ∙ sym (terms_raised w 2 0)

pub front_other : (i : Axis) (w : Word) (k t : ℕ) → k ≡ 3 ^ length w → digit i ≢ 1 → t ≡ cond (nat_eq (digit i) 2) 1 3 →
    terms_from 0 0 w ++ map (raised k t) (terms_from 0 0 w) ≡ terms_from 0 0 (letter_of i ∷ w)
front_other x1 w k t e other turn = absurd (other refl)
front_other x2 w k t e other turn =
    let one : k ≡ 1 * 3 ^ length w = omega (arith, e) in
    ap (λ us. terms_from 0 0 w ++ us) ((λ i. map (raised (one i) (turn i)) (terms_from 0 0 w)) ∙ sym (terms_raised w 1 1))
front_other x3 w k t e other turn =
    let one : k ≡ 1 * 3 ^ length w = omega (arith, e) in
    ap (λ us. terms_from 0 0 w ++ us) ((λ i. map (raised (one i) (turn i)) (terms_from 0 0 w)) ∙ sym (terms_raised w 1 3))

pub length_rest : (r c p : ℕ) → length (drop p (word_at r c)) ≡ r - p
length_rest r c p = length-drop p (word_at r c) ∙ ap (λ k. k - p) (length_word r c)

pub small_terms : (r c p : ℕ) → 0 < p → p ≤ r → r ≤ 6 → AreSmallTerms (terms_from 0 0 (drop p (word_at r c)))
small_terms r c p h l f = record {
  each =
      let w : Word = drop p (word_at r c) in
      let len = length_rest r c p in
      let small : 3 ^ length w ≤ 243 = small_weight (length w) (omega (arith, len)) in
      let one : 0 < 3 ^ 0 = lit< tt in
      each_map _ _ (λ t h. (omega (arith, h.0, small), h.1)) _ (terms_within w 0 0 0 one (length w) (omega arith) 15 (omega (arith, len)));
}

-- the rows of one more word, gathered from its terms
pub word_made : (n r : ℕ) → n ≡ 3 ^ r → n ≤ 729 → (before : ℕ → ℕ → Bool) → IsTotalBelow n before → (es : List Entry) → AreSound n before es → (chosen : Word → Bool) →
    (w : ℕ) (rows mid new : List (List Part)) (a b : List Part) (ts us : List Term) → chosen (word_at r w) ≡ true →
    AreRowsBelow r before es chosen w rows → ts ≡ terms_from 0 0 (word_at r w) → a ≡ gathered before es 0 ts [] →
    us ≡ terms_from 0 0 (word_at r w) → b ≡ gathered before es 1 us [] → mid ≡ rows ++ a ∷ [] → new ≡ mid ++ b ∷ [] →
    AreRowsBelow r before es chosen (w + 1) new
word_made n r size fits before order es sound chosen w rows mid new a b ts us taken h t_is a_is u_is b_is mid_is new_is =
    let word : Word = word_at r w in
    let carried : (k : ℕ) → IsCarriedRow r before es (part_row k word) (gathered before es k (terms_from 0 0 word) []) =
    λ k. carried_row n r size fits before order es sound k word (length_word r w) in
    let even : IsCarriedRow r before es (even_row word) a =
    subst (IsCarriedRow r before es (even_row word)) (sym (a_is ∙ ap (λ xs. gathered before es 0 xs []) t_is)) (carried 0) in
    let odd : IsCarriedRow r before es (odd_row word) b =
    subst (IsCarriedRow r before es (odd_row word)) (sym (b_is ∙ ap (λ xs. gathered before es 1 xs []) u_is)) (carried 1) in
    let all : rows ++ a ∷ b ∷ [] ≡ new = sym (append_assoc rows (a ∷ []) (b ∷ [])) ∙ ap (λ xs. xs ++ b ∷ []) (sym mid_is) ∙ sym new_is in
    subst (AreRowsBelow r before es chosen (w + 1)) all (word_taken r before es chosen w rows a b taken h even odd)
