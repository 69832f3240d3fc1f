-- The index digits of a component, three at a time.
--   index_split    the index of a number is those of its front and of its last digits
--   triple_at      the digits of a component of rank 3, looked up
--   six_text       those of a component of rank 6, by two that are looked up
--   last_digit     a component of a lower rank has the last of these
--   line_last      its name behind what its rank leaves over, and before more bytes
--   eight_told     the first of eight bytes
use Rattle.list_laws.proofs.Kit.{◌≡◌, ℕ, zero, suc, ◌+◌, ◌-◌, ◌*◌, ◌/◌, ◌%◌, ◌^◌, ◌<◌, ◌≤◌, List, [], ◌∷◌, ◌++◌, map, length, get_or, refl, ap, sym, ◌∙◌, arith}
use Rattle.list_laws.proofs.Kit.{range_with_len, get_or-map-range_with_len, div-add-mod, add-mul, mul_assoc, mul_comm}
use Rattle.list_laws.proofs.Kit.{lit<}
use Rattle.std.specs.Prelude.{drop, slice_index_or, slice_range, slice_set, take}
use Rattle.std.proofs.lemmas.List.{append_assoc, drop-set, drop_all, drop_more, get_or-append-add}
use Rattle.std.proofs.Math.Seq.{drop-append_seam, take-append-add}
use Rattle.std.proofs.lemmas.Nat.{mul-add-lt, pow-add}
use Rattle.std.proofs.Math.Nat.{mod-lt, one-le-pow}
use Rattle.tensor_defs.specs.Prelude.{x1, Index, axis_at, digit, index_of}
use Rattle.tensor_laws.proofs.Prelude.{index_at}
use Rattle.tensor_laws.proofs.ComponentNumbers.{length-index_of}
use Rattle.text_defs.specs.AnswerTexts.{component_name, digits_text}
use Rattle.form_lines.specs.declared.writing.TheConstants.{TRIPLES}

index_split : (a b k q c : ℕ) → k ≡ a + b → q < 3 ^ a → c < 3 ^ b → index_of k (q * 3 ^ b + c) ≡ index_of a q ++ index_of b c
index_split zero b k q c e h l =
    let none : q ≡ 0 = omega arith in
    let same : k ≡ b = omega arith in
    let last : q * 3 ^ b + c ≡ c = rw none (omega arith) in
    λ i. index_of (same i) (last i)
index_split (suc a) b zero q c e h l = absurd (omega arith)
index_split (suc a) b (suc k) q c e h l =
    let p : ℕ = 3 ^ a in
    let w : ℕ = 3 ^ b in
    let d : ℕ = q / p in
    let r : ℕ = q % p in
    let fewer : k ≡ a + b = omega arith in
    let below : r < p = mod-lt q (one-le-pow a 3 (lit< tt)) in
    let power : 3 ^ k ≡ p * w = ap (λ x. 3 ^ x) fewer ∙ pow-add 3 a b in
    let small : r * w + c < 3 ^ k = rw (power, mul_comm p w) (mul-add-lt r w c p below l) in
    let parts : q * w + c ≡ d * (p * w) + (r * w + c) =
    ap (λ x. x * w + c) (sym (div-add-mod q p))
    ∙ rw (add-mul (p * d) r w, mul_comm p d, mul_assoc d p w) (omega arith) in
    index_at k d (q * w + c) (r * w + c) small (parts ∙ ap (λ x. d * x + (r * w + c)) (sym power))
    ∙ ap (λ xs. axis_at d ∷ xs) (index_split a b k r c fewer below l)

abbrev text_of : ℕ → List ℕ
text_of n = digits_text (map digit (index_of 3 n))

listed : map text_of (range_with_len 0 27) ≡ TRIPLES
listed = refl

triple_at : (n : ℕ) → n < 27 → slice_index_or TRIPLES n [] ≡ text_of n
triple_at n h = get_or-map-range_with_len text_of 0 27 n n [] h (omega arith)

abbrev of_two : List ℕ → List ℕ → List ℕ
of_two f b = slice_index_or f 0 0 ∷ slice_index_or f 1 0 ∷ slice_index_or f 2 0 ∷ slice_index_or b 0 0 ∷ slice_index_or b 1 0 ∷ slice_index_or b 2 0 ∷ []

pub six_text : (n : ℕ) → n < 729 → of_two (slice_index_or TRIPLES (n / 27) []) (slice_index_or TRIPLES (n % 27) []) ≡ digits_text (map digit (index_of 6 n))
six_text n h =
    let front : n / 27 < 27 = omega arith in
    let back : n % 27 < 27 = omega arith in
    let whole : (n / 27) * 27 + n % 27 ≡ n = omega arith in
    (λ i. of_two (triple_at (n / 27) front i) (triple_at (n % 27) back i))
    ∙ ap (λ is. digits_text (map digit is)) (sym (index_split 3 3 6 (n / 27) (n % 27) refl front back))
    ∙ ap (λ m. digits_text (map digit (index_of 6 m))) whole

text_digit : (is : Index) (p : ℕ) → p < length is → slice_index_or (digits_text (map digit is)) p 0 ≡ 48 + digit (get_or is p x1)
text_digit [] p h = absurd (omega arith)
text_digit (i ∷ is) zero h = refl
text_digit (i ∷ is) (suc p) h = text_digit is p (omega arith)

pub last_digit : (r c p : ℕ) → r ≤ 6 → c < 3 ^ r → p < r → slice_index_or (digits_text (map digit (index_of 6 c))) (6 - r + p) 0 ≡ 48 + digit (get_or (index_of r c) p x1)
last_digit r c p few h below =
    let split : index_of 6 c ≡ index_of (6 - r) 0 ++ index_of r c =
    ap (index_of 6) (omega arith) ∙ index_split (6 - r) r 6 0 c (omega arith) (one-le-pow (6 - r) 3 (lit< tt)) h in
    let long : length (index_of (6 - r) 0) ≡ 6 - r = length-index_of (6 - r) 0 in
    let inside : 6 - r + p < length (index_of 6 c) = rw (length-index_of 6 c) (omega arith) in
    text_digit (index_of 6 c) (6 - r + p) inside
    ∙ (λ i. 48 + digit (get_or (split i) (sym long i + p) x1))
    ∙ ap (λ j. 48 + digit j) (get_or-append-add (index_of (6 - r) 0) (index_of r c) p x1)

digits_joined : (is js : Index) → digits_text (map digit (is ++ js)) ≡ digits_text (map digit is) ++ digits_text (map digit js)
digits_joined [] js = refl
digits_joined (i ∷ is) js = ap (λ x. (48 + digit i) ∷ x) (digits_joined is js)

digits_long : (is : Index) → length (digits_text (map digit is)) ≡ length is
digits_long [] = refl
digits_long (i ∷ is) = ap suc (digits_long is)

-- a name behind what the rank leaves over, and before more bytes
named_last : (r c e end : ℕ) (tail : List ℕ) → r ≤ 6 → c < 3 ^ r → end ≡ 7 + e →
    slice_range (slice_set (84 ∷ (digits_text (map digit (index_of 6 c)) ++ tail)) (6 - r) 84) (6 - r) end ≡ component_name (index_of r c) ++ take e tail
named_last r c e end tail few h is =
    let n : ℕ = 6 - r in
    let six : List ℕ = digits_text (map digit (index_of 6 c)) in
    let front : List ℕ = digits_text (map digit (index_of n 0)) in
    let own : List ℕ = digits_text (map digit (index_of r c)) in
    let split : six ≡ front ++ own =
    ap (λ js. digits_text (map digit js)) (ap (index_of 6) (omega arith) ∙ index_split n r 6 0 c (omega arith) (one-le-pow n 3 (lit< tt)) h)
    ∙ digits_joined (index_of n 0) (index_of r c) in
    let long : length front ≡ n = digits_long (index_of n 0) ∙ length-index_of n 0 in
    let own_long : length own ≡ r = digits_long (index_of r c) ∙ length-index_of r c in
    let room : n < length (84 ∷ (six ++ tail)) = omega arith in
    let next : n + 1 ≡ suc n = omega arith in
    let rest : drop n (six ++ tail) ≡ own ++ tail =
    ap (λ x. drop n (x ++ tail)) split ∙ ap (drop n) (append_assoc front own tail)
    ∙ (λ i. drop (sym long i) (front ++ (own ++ tail))) ∙ drop-append_seam front (own ++ tail) in
    let count : end - n ≡ length (84 ∷ own) + e = omega arith in
    ap (take (end - n)) (drop-set (84 ∷ (six ++ tail)) n 84 room ∙ ap (λ k. 84 ∷ drop k (84 ∷ (six ++ tail))) next ∙ ap (λ x. 84 ∷ x) rest)
    ∙ ap (λ k. take k ((84 ∷ own) ++ tail)) count ∙ take-append-add (84 ∷ own) tail e

abbrev spelled : List ℕ → List ℕ → List ℕ
spelled ds tail = 84 ∷ get_or ds 0 0 ∷ get_or ds 1 0 ∷ get_or ds 2 0 ∷ get_or ds 3 0 ∷ get_or ds 4 0 ∷ get_or ds 5 0 ∷ tail

pub line_last : {ds : List ℕ} {n len k r c end : ℕ} (tail : List ℕ) (e : ℕ) → ds ≡ digits_text (map digit (index_of 6 n)) → n ≡ c → n < len →
    len ≡ 3 ^ r → k ≡ r → r ≤ 6 → end ≡ 7 + e →
    slice_range (slice_set (spelled ds tail) (6 - k) 84) (6 - r) end ≡ component_name (index_of r c) ++ take e tail
line_last {r = r} {c} {end} tail e digits same inside power rank few is =
    let below : c < 3 ^ r = rw (sym same, sym power) inside in
    (λ i. slice_range (slice_set (spelled (digits i) tail) (6 - rank i) 84) (6 - r) end)
    ∙ ap (λ m. slice_range (slice_set (84 ∷ (digits_text (map digit (index_of 6 m)) ++ tail)) (6 - r) 84) (6 - r) end) same
    ∙ named_last r c e end tail few below is

listed_from : (n i : ℕ) (xs : List ℕ) → length xs ≡ i + n → map (λ k. get_or xs k 0) (range_with_len i n) ≡ drop i xs
listed_from zero i xs h = sym (drop_all i xs (omega arith))
listed_from (suc n) i xs h =
    ap (λ x. get_or xs i 0 ∷ x) (listed_from n (i + 1) xs (omega arith)) ∙ sym (drop_more xs i 0 (omega arith))

-- the first of eight bytes
pub eight_told : (xs ys : List ℕ) (n : ℕ) → length xs ≡ 8 → take n xs ≡ ys →
    take n (get_or xs 0 0 ∷ get_or xs 1 0 ∷ get_or xs 2 0 ∷ get_or xs 3 0 ∷ get_or xs 4 0 ∷ get_or xs 5 0 ∷ get_or xs 6 0 ∷ get_or xs 7 0 ∷ []) ≡ ys
eight_told xs ys n long is = ap (take n) (listed_from 8 0 xs long) ∙ is
