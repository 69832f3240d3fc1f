-- The rows of the words that are chosen, each beginning with +, vanish exactly where those of all words of a kind vanish.
--   Tells           which kind of words a test chooses, among those whose first letter other than z is +
--   chosen_of, chosen_told    from all words of the kind to those chosen, and back
--   used_of, used_told        the same for the words in use, whose count isn't divisible by 3
use Rattle.list_laws.proofs.Kit.{◌≡◌, ℕ, zero, suc, ◌+◌, ◌*◌, ◌%◌, ◌<◌, Bool, true, false, cond, List, [], ◌∷◌, ◌++◌, length, refl, ap, sym, ◌∙◌, arith, inl}
use Rattle.list_laws.proofs.Kit.{inr, subst, map, cases_Bool, nat_tests}
use Rattle.std.specs.Prelude.{filter, nat_eq}
use Rattle.list_laws.proofs.Members.{each_append, each_split}
use Rattle.number_laws.proofs.NumberLaws.{num_neg-neg, num_mul-zero}
use Rattle.tensor_defs.specs.Prelude.{Each, neg, num_zero, Tensor, Letter, level, plus, minus, Word, words, is_used, begins_plus, plus_count, minus_count}
use Rattle.tensor_defs.specs.Prelude.{even_row, odd_row}
use Rattle.tensor_laws.proofs.Prelude.{row_sums, exchanged, exchanged_sum}
use Rattle.tensor_laws.specs.Laws.{row_sum}
use Rattle.tensor_laws.specs.WordSums.{word_sum}

-- ---- each word of a length
each_mapped : (P : Word → Type 0) (l : Letter) (ws : List Word) → Each (λ w. P (l ∷ w)) ws →
    Each P (map (λ w. l ∷ w) ws)
each_mapped P l [] e = tt
each_mapped P l (w ∷ ws) e = (e.0, each_mapped P l ws e.1)

each_unmapped : (P : Word → Type 0) (l : Letter) (ws : List Word) → Each P (map (λ w. l ∷ w) ws) →
    Each (λ w. P (l ∷ w)) ws
each_unmapped P l [] e = tt
each_unmapped P l (w ∷ ws) e = (e.0, each_unmapped P l ws e.1)

each_longer : (P : Word → Type 0) (ws : List Word) → ((l : Letter) → Each (λ w. P (l ∷ w)) ws) →
    Each P (map (λ w. level ∷ w) ws ++ map (λ w. plus ∷ w) ws ++ map (λ w. minus ∷ w) ws)
each_longer P ws e =
    each_append P (map (λ w. level ∷ w) ws ++ map (λ w. plus ∷ w) ws) (map (λ w. minus ∷ w) ws)
    (each_append P (map (λ w. level ∷ w) ws) (map (λ w. plus ∷ w) ws) (each_mapped P level ws (e level))
    (each_mapped P plus ws (e plus))) (each_mapped P minus ws (e minus))

each_shorter : (P : Word → Type 0) (ws : List Word) →
    Each P (map (λ w. level ∷ w) ws ++ map (λ w. plus ∷ w) ws ++ map (λ w. minus ∷ w) ws) →
    (l : Letter) → Each (λ w. P (l ∷ w)) ws
each_shorter P ws e l =
    let a = each_split P (map (λ w. level ∷ w) ws ++ map (λ w. plus ∷ w) ws) (map (λ w. minus ∷ w) ws) e in
    let b = each_split P (map (λ w. level ∷ w) ws) (map (λ w. plus ∷ w) ws) a.0 in
    pick b.0 b.1 a.1 l
  where
    pick : Each P (map (λ w. level ∷ w) ws) → Each P (map (λ w. plus ∷ w) ws) → Each P (map (λ w. minus ∷ w) ws) →
        (l : Letter) → Each (λ w. P (l ∷ w)) ws
    pick a b c level = each_unmapped P level ws a
    pick a b c plus = each_unmapped P plus ws b
    pick a b c minus = each_unmapped P minus ws c

each_word : (r : ℕ) (P : Word → Type 0) → ((w : Word) → length w ≡ r → P w) → Each P (words r)
each_word zero P f = (f [] refl, tt)
each_word (suc r) P f =
    each_longer P (words r) (λ l. each_word r (λ w. P (l ∷ w)) (λ w n. f (l ∷ w) (ap suc n)))

at_word : (r : ℕ) (P : Word → Type 0) → Each P (words r) → (w : Word) → length w ≡ r → P w
at_word zero P e [] n = e.0
at_word zero P e (l ∷ w) n = absurd (omega (arith, n))
at_word (suc r) P e [] n = absurd (omega (arith, n))
at_word (suc r) P e (l ∷ w) n = at_word r (λ w. P (l ∷ w)) (each_shorter P (words r) e l) w (omega (arith, n))

filter_from : (p : Word → Bool) (P : Word → Type 0) (ws : List Word) → Each (λ w. p w ≡ true → P w) ws →
    Each P (filter p ws)
filter_from p P [] e = tt
filter_from p P (w ∷ ws) e = elim (cases_Bool (p w)) as (λ _. Each P (filter p (w ∷ ws))) [
  | inl h ↦ subst (λ b. Each P (cond b (w ∷ filter p ws) (filter p ws))) (sym h) (e.0 h, filter_from p P ws e.1)
  | inr h ↦ subst (λ b. Each P (cond b (w ∷ filter p ws) (filter p ws))) (sym h) (filter_from p P ws e.1)
]

filter_to : (p : Word → Bool) (P : Word → Type 0) (ws : List Word) → Each P (filter p ws) →
    Each (λ w. p w ≡ true → P w) ws
filter_to p P [] e = tt
filter_to p P (w ∷ ws) e = by (p w) (filter_to p P ws) e
  where
    by : (b : Bool) → (Each P (filter p ws) → Each (λ w. p w ≡ true → P w) ws) → Each P (cond b (w ∷ filter p ws) (filter p ws)) →
        (b ≡ true → P w) × Each (λ w. p w ≡ true → P w) ws
    by true later f = (λ _. f.0, later f.1)
    by false later f = (λ g. cc, later f)

-- ---- a word with + and - exchanged
pub exchanged_plus : (w : Word) → plus_count (exchanged w) ≡ minus_count w
exchanged_plus [] = refl
exchanged_plus (level ∷ w) = exchanged_plus w
exchanged_plus (plus ∷ w) = exchanged_plus w
exchanged_plus (minus ∷ w) = ap (λ n. 1 + n) (exchanged_plus w)

pub exchanged_minus : (w : Word) → minus_count (exchanged w) ≡ plus_count w
exchanged_minus [] = refl
exchanged_minus (level ∷ w) = exchanged_minus w
exchanged_minus (plus ∷ w) = ap (λ n. 1 + n) (exchanged_minus w)
exchanged_minus (minus ∷ w) = exchanged_minus w

length-exchanged : (w : Word) → length (exchanged w) ≡ length w
length-exchanged [] = refl
length-exchanged (level ∷ w) = ap suc (length-exchanged w)
length-exchanged (plus ∷ w) = ap suc (length-exchanged w)
length-exchanged (minus ∷ w) = ap suc (length-exchanged w)

-- one of the two begins with +, where there is a letter other than z
exchanged_begins : (w : Word) → begins_plus w ≡ false → 0 < plus_count w + minus_count w →
    begins_plus (exchanged w) ≡ true
exchanged_begins [] e h = absurd (omega (arith, h))
exchanged_begins (level ∷ w) e h = exchanged_begins w e h
exchanged_begins (plus ∷ w) e h = cc
exchanged_begins (minus ∷ w) e h = refl

abbrev pub BothVanish : Tensor → Word → Type 0
BothVanish t w = (row_sum even_row w t ≡ num_zero) × (row_sum odd_row w t ≡ num_zero)

vanish_exchanged : (t : Tensor) (w : Word) → BothVanish t (exchanged w) → BothVanish t w
vanish_exchanged t w v =
    let a = row_sums w t in
    let b = row_sums (exchanged w) t in
    let c = exchanged_sum w t in
    let im : neg (word_sum w t).im ≡ num_zero = sym (ap (λ z. z.im) c) ∙ sym b.1 ∙ v.1 in
    (a.0 ∙ sym (ap (λ z. z.re) c) ∙ sym b.0 ∙ v.0, a.1 ∙ sym (num_neg-neg _) ∙ ap neg im ∙ num_mul-zero _)

-- ---- words of a kind
pub record Tells (chosen : Word → Bool) (Kind : Word → Type 0) : Type 0 where
  pub is : (w : Word) → chosen w ≡ true → Kind w
  pub has : (w : Word) → Kind w → begins_plus w ≡ true → chosen w ≡ true
  pub swaps : (w : Word) → Kind w → Kind (exchanged w)
  pub some : (w : Word) → Kind w → 0 < plus_count w + minus_count w

pub chosen_length : (chosen : Word → Bool) (r : ℕ) → Each (λ w. length w ≡ r) (filter chosen (words r))
chosen_length chosen r =
    filter_from chosen (λ w. length w ≡ r) (words r) (each_word r (λ w. chosen w ≡ true → length w ≡ r) (λ w n u. n))

module _ (chosen : Word → Bool) (Kind : Word → Type 0) (tells : Tells chosen Kind) (r : ℕ) (t : Tensor) where
  pub chosen_of : ((w : Word) → length w ≡ r → Kind w → BothVanish t w) →
      Each (λ w. (length w ≡ r) × BothVanish t w) (filter chosen (words r))
  chosen_of f =
      filter_from chosen (λ w. (length w ≡ r) × BothVanish t w) (words r)
      (each_word r (λ w. chosen w ≡ true → (length w ≡ r) × BothVanish t w) (λ w n u. (n, f w n (tells.is w u))))

  pub chosen_told : Each (BothVanish t) (filter chosen (words r)) → (w : Word) → length w ≡ r → Kind w → BothVanish t w
  chosen_told e w n h = elim (cases_Bool (begins_plus w)) [
    | inl b ↦ at w n (tells.has w h b)
    | inr b ↦ vanish_exchanged t w (at (exchanged w) (length-exchanged w ∙ n)
        (tells.has (exchanged w) (tells.swaps w h) (exchanged_begins w b (tells.some w h))))
  ]
    where
      at : (w : Word) → length w ≡ r → chosen w ≡ true → BothVanish t w
      at w n u = at_word r (λ w. chosen w ≡ true → BothVanish t w) (filter_to chosen (BothVanish t) (words r) e) w n u

-- ---- words in use
used_counts : (w : Word) → is_used w ≡ true → 0 < (plus_count w + 2 * minus_count w) % 3
used_counts w e = counts (plus_count w + 2 * minus_count w) (begins_plus w) e
  where
    counts : (n : ℕ) (b : Bool) → cond (nat_eq (n % 3) 0) false b ≡ true → 0 < n % 3
    counts n b e = grind (arith, nat_tests)

counts_used : (w : Word) → 0 < (plus_count w + 2 * minus_count w) % 3 → begins_plus w ≡ true → is_used w ≡ true
counts_used w h e = used (plus_count w + 2 * minus_count w) (begins_plus w) h e
  where
    used : (n : ℕ) (b : Bool) → 0 < n % 3 → b ≡ true → cond (nat_eq (n % 3) 0) false b ≡ true
    used n b h e = grind (arith, nat_tests)

abbrev Used : Word → Type 0
Used w = 0 < (plus_count w + 2 * minus_count w) % 3

used_tells : Tells is_used Used
used_tells = record {
  is = used_counts;
  has = counts_used;
  swaps = λ w h. omega (arith, exchanged_plus w, exchanged_minus w, h);
  some = λ w h. omega (arith, h);
}

pub used_of : (r : ℕ) (t : Tensor) →
    ((w : Word) → length w ≡ r → 0 < (plus_count w + 2 * minus_count w) % 3 → BothVanish t w) →
    Each (λ w. (length w ≡ r) × BothVanish t w) (filter is_used (words r))
used_of = chosen_of is_used Used used_tells

pub used_length : (r : ℕ) → Each (λ w. length w ≡ r) (filter is_used (words r))
used_length = chosen_length is_used

pub used_told : (r : ℕ) (t : Tensor) → Each (BothVanish t) (filter is_used (words r)) →
    (w : Word) → length w ≡ r → 0 < (plus_count w + 2 * minus_count w) % 3 → BothVanish t w
used_told = chosen_told is_used Used used_tells
