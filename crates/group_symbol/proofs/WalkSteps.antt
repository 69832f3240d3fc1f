-- A walk over the signs of a parent, sign by sign.
--   Stands    where the loop over the signs stands
use Rattle.list_laws.proofs.Kit.{◌≡◌, ◌≢◌, ℕ, suc, ◌+◌, ◌*◌, ◌<◌, ◌≤◌, ◌^◌, Bool, true, false, cond, List, [], ◌∷◌, length, get_or, drop, Result, Ok, Err}
use Rattle.list_laws.proofs.Kit.{refl, sym, ap, ◌∙◌, arith, inl, inr, drop_more, ne_eqb, cases_lt, drop_of_length-le, pow-suc}
use Rattle.std.proofs.Common.{eq-eqb}
use Rattle.text_defs.specs.GroupTexts.{ends_operator, operators_in}
use Rattle.list_laws.proofs.Tests.{power_four}
use Rattle.group_symbol.specs.Walks.{lift, after_sign, walk}

pub lift_none : (r : Result (ℕ × ℕ) ℕ) → lift 0 1 0 r ≡ r
unfolding lift
lift_none (Ok (p, n)) = ap (λ (q : ℕ). Ok (q, 0 + n)) (omega arith) ∙ ap (λ (q : ℕ). Ok (p, q)) (omega arith)
lift_none (Err n) = ap (λ (q : ℕ). Err q) (omega arith)

pub lift_lift : (b f k b' f' k' : ℕ) (r : Result (ℕ × ℕ) ℕ) → lift b f k (lift b' f' k' r) ≡ lift (b + f * b') (f * f') (k + k') r
unfolding lift
lift_lift b f k b' f' k' (Ok (p, n)) = ap (λ (q : ℕ). Ok (q, k + (k' + n))) (omega arith) ∙ ap (λ (q : ℕ). Ok (b + f * b' + f * f' * p, q)) (omega arith)
lift_lift b f k b' f' k' (Err n) = ap (λ (q : ℕ). Err q) (omega arith)

-- one step over lists that are taken apart
walk_wrong : (v s : ℕ) (ss : List ℕ) (b : ℕ) (bs : List ℕ) → b ≢ s → walk v (s ∷ ss) (b ∷ bs) ≡ Err 0
unfolding walk
walk_wrong v s ss b bs ne = rw (ne_eqb b s ne) refl

walk_right : (v s : ℕ) (ss bs : List ℕ) → walk v (s ∷ ss) (s ∷ bs) ≡ after_sign (ends_operator v s) (walk s ss) bs
unfolding walk
walk_right v s ss bs = rw (eq-eqb s s refl) refl

-- where the loop over the signs stands
pub record Stands (signs word : List ℕ) (i at primes bit previous : ℕ) : Type 0 where
  pub within : at ≤ length word
  pub below : primes < bit
  pub room : bit * 2 ^ operators_in previous (drop i signs) ≤ 16
  pub rest : walk 0 signs word ≡ lift primes bit at (walk previous (drop i signs) (drop at word))

pub Stands-start : (signs word : List ℕ) → operators_in 0 signs ≤ 4 → Stands signs word 0 0 0 1 0
Stands-start signs word few = record {
  within = omega arith;
  below = omega arith;
  room =
      omega (arith, power_four (operators_in 0 signs) few);
  rest = sym (lift_none _);
}

module _ (signs word : List ℕ) (i at primes bit v : ℕ) (h : Stands signs word i at primes bit v) where
  pub Stands-end : length signs ≤ i → walk 0 signs word ≡ Ok (primes, at)
  unfolding walk lift
  Stands-end past = h.rest ∙ ap (λ (l : List ℕ). lift primes bit at (walk v l (drop at word)))
      (drop_of_length-le signs past) ∙ ap (λ (q : ℕ). Ok (q, at + 0)) (omega arith) ∙ ap (λ (q : ℕ). Ok (primes, q)) (omega arith)

  pub Stands-short : i < length signs → length word ≤ at → walk 0 signs word ≡ Err at
  unfolding walk lift
  Stands-short more past = h.rest
      ∙ ap (λ (l : List ℕ). lift primes bit at (walk v l (drop at word))) (drop_more signs i 0 more)
      ∙ ap (λ (l : List ℕ). lift primes bit at (walk v (get_or signs i 0 ∷ drop (i + 1) signs) l))
      (drop_of_length-le word past) ∙ ap (λ (q : ℕ). Err q) (omega arith)

  pub Stands-wrong : i < length signs → at < length word → get_or word at 0 ≢ get_or signs i 0 → walk 0 signs word ≡ Err at
  unfolding lift
  Stands-wrong more some ne = h.rest
      ∙ ap (λ (l : List ℕ). lift primes bit at (walk v l (drop at word))) (drop_more signs i 0 more)
      ∙ ap (λ (l : List ℕ). lift primes bit at (walk v (get_or signs i 0 ∷ drop (i + 1) signs) l))
      (drop_more word at 0 some) ∙ ap (lift primes bit at)
      (walk_wrong v (get_or signs i 0) (drop (i + 1) signs) (get_or word at 0) (drop (at + 1) word) ne)
      ∙ ap (λ (q : ℕ). Err q) (omega arith)

  at_signs : i < length signs → at < length word → get_or word at 0 ≡ get_or signs i 0 →
      walk 0 signs word ≡ lift primes bit at
      (after_sign (ends_operator v (get_or signs i 0)) (walk (get_or signs i 0) (drop (i + 1) signs)) (drop (at + 1) word))
  at_signs more some same = h.rest
      ∙ ap (λ (l : List ℕ). lift primes bit at (walk v l (drop at word))) (drop_more signs i 0 more)
      ∙ ap (λ (l : List ℕ). lift primes bit at (walk v (get_or signs i 0 ∷ drop (i + 1) signs) l))
      (drop_more word at 0 some ∙ ap (λ (b : ℕ). b ∷ drop (at + 1) word) same)
      ∙ ap (lift primes bit at) (walk_right v (get_or signs i 0) (drop (i + 1) signs) (drop (at + 1) word))

  counted : i < length signs → (e : Bool) → ends_operator v (get_or signs i 0) ≡ e →
      operators_in v (drop i signs) ≡ cond e 1 0 + operators_in (get_or signs i 0) (drop (i + 1) signs)
  unfolding operators_in
  counted more e is = ap (operators_in v) (drop_more signs i 0 more) ∙ ap (λ (b : Bool). cond b 1 0 + operators_in (get_or signs i 0) (drop (i + 1) signs)) is

  double_room : (k n : ℕ) → k ≡ 1 + n → bit * 2 ^ k ≤ 16 → bit * 2 * 2 ^ n ≤ 16
  double_room k n e le = omega (arith, ap (λ (j : ℕ). bit * 2 ^ j) e, ap (λ (j : ℕ). bit * j) (pow-suc 2 n), ap (λ (j : ℕ). bit * 2 ^ j) (one_more n), le)
    where
      one_more : (n : ℕ) → 1 + n ≡ suc n
      one_more n = omega arith

  pub Stands-plain : (s : ℕ) → s ≡ get_or signs i 0 → i < length signs → at < length word → get_or word at 0 ≡ s →
      ends_operator v s ≡ false → Stands signs word (i + 1) (at + 1) primes bit s
  Stands-plain s is more some same plain =
      let plain' : ends_operator v (get_or signs i 0) ≡ false = ap (ends_operator v) (sym is) ∙ plain in
      let e = at_signs more some (same ∙ is)
      ∙ ap (λ (x : Bool). lift primes bit at
      (after_sign x (walk (get_or signs i 0) (drop (i + 1) signs)) (drop (at + 1) word))) plain'
      ∙ lift_lift primes bit at 0 1 1 (walk (get_or signs i 0) (drop (i + 1) signs) (drop (at + 1) word)) in
      let tidy : lift (primes + bit * 0) (bit * 1) (at + 1)
      (walk (get_or signs i 0) (drop (i + 1) signs) (drop (at + 1) word))
      ≡ lift primes bit (at + 1) (walk s (drop (i + 1) signs) (drop (at + 1) word)) =
      ap (λ (q : ℕ). lift q (bit * 1) (at + 1) (walk (get_or signs i 0) (drop (i + 1) signs) (drop (at + 1) word)))
      (omega arith) ∙ ap (λ (q : ℕ). lift primes q (at + 1)
      (walk (get_or signs i 0) (drop (i + 1) signs) (drop (at + 1) word))) (omega arith)
      ∙ ap (λ (q : ℕ). lift primes bit (at + 1) (walk q (drop (i + 1) signs) (drop (at + 1) word))) (sym is) in
      record {
        within = omega arith;
        below = h.below;
        room =
            omega (
              arith,
              h.room,
              ap (λ (k : ℕ). bit * 2 ^ k) (counted more false plain'
                  ∙ ap (λ (q : ℕ). 0 + operators_in q (drop (i + 1) signs)) (sym is)),
              ap (λ (k : ℕ). bit * 2 ^ k) (zero_add (operators_in s (drop (i + 1) signs))),
            );
        rest = e ∙ tidy;
      }
    where
      zero_add : (n : ℕ) → 0 + n ≡ n
      zero_add n = omega arith

  operator_room : (s : ℕ) → s ≡ get_or signs i 0 → i < length signs → ends_operator v (get_or signs i 0) ≡ true →
      bit * 2 * 2 ^ operators_in s (drop (i + 1) signs) ≤ 16
  operator_room s is more op = double_room (operators_in v (drop i signs)) (operators_in s (drop (i + 1) signs))
      (counted more true op ∙ ap (λ (q : ℕ). 1 + operators_in q (drop (i + 1) signs)) (sym is)) h.room

  pub Stands-unprimed : (s : ℕ) → s ≡ get_or signs i 0 → i < length signs → at < length word → get_or word at 0 ≡ s →
      ends_operator v s ≡ true → (at + 1 < length word → get_or word (at + 1) 0 ≢ 39) →
      Stands signs word (i + 1) (at + 1) primes (bit * 2) s
  Stands-unprimed s is more some same operator not_primed =
      let operator' : ends_operator v (get_or signs i 0) ≡ true = ap (ends_operator v) (sym is) ∙ operator in
      let e = at_signs more some (same ∙ is)
      ∙ ap (λ (x : Bool). lift primes bit at
      (after_sign x (walk (get_or signs i 0) (drop (i + 1) signs)) (drop (at + 1) word))) operator'
      ∙ ap (lift primes bit at) (no_prime_then (drop (at + 1) word) (walk (get_or signs i 0) (drop (i + 1) signs))
      (head_of (at + 1) not_primed))
      ∙ lift_lift primes bit at 0 2 1 (walk (get_or signs i 0) (drop (i + 1) signs) (drop (at + 1) word)) in
      let tidy : lift (primes + bit * 0) (bit * 2) (at + 1)
      (walk (get_or signs i 0) (drop (i + 1) signs) (drop (at + 1) word))
      ≡ lift primes (bit * 2) (at + 1) (walk s (drop (i + 1) signs) (drop (at + 1) word)) =
      ap (λ (q : ℕ). lift q (bit * 2) (at + 1) (walk (get_or signs i 0) (drop (i + 1) signs) (drop (at + 1) word)))
      (omega arith) ∙ ap (λ (q : ℕ). lift primes (bit * 2) (at + 1) (walk q (drop (i + 1) signs) (drop (at + 1) word))) (sym is) in
      record { within = omega arith; below = omega (arith, h.below); room = operator_room s is more operator'; rest = e ∙ tidy }
    where
      no_prime_then : (l : List ℕ) (f : List ℕ → Result (ℕ × ℕ) ℕ) → ((x : ℕ) (xs : List ℕ) → l ≡ x ∷ xs → x ≢ 39) → after_sign true f l ≡ lift 0 2 1 (f l)
      no_prime_then [] f ne = refl
      no_prime_then (x ∷ xs) f ne = rw (ne_eqb x 39 (ne x xs refl)) refl

      heads_same : (x : ℕ) (xs : List ℕ) (y : ℕ) (ys : List ℕ) → x ∷ xs ≡ y ∷ ys → x ≡ y
      heads_same x xs y ys e = cc

      head_of : (j : ℕ) → (j < length word → get_or word j 0 ≢ 39) → (x : ℕ) (xs : List ℕ) → drop j word ≡ x ∷ xs → x ≢ 39
      head_of j ne x xs e same39 =
          elim (cases_lt j (length word)) [
            | inl lt ↦ ne lt (heads_same (get_or word j 0) (drop (j + 1) word) x xs (sym (drop_more word j 0 lt) ∙ e) ∙ same39)
            | inr le ↦ (let gone : [] ≡ x ∷ xs = sym (drop_of_length-le word le) ∙ e in cc)
          ]

  pub Stands-primed : (s : ℕ) → s ≡ get_or signs i 0 → i < length signs → at < length word → get_or word at 0 ≡ s →
      ends_operator v s ≡ true → at + 1 < length word → get_or word (at + 1) 0 ≡ 39 →
      Stands signs word (i + 1) (at + 1 + 1) (primes + bit) (bit * 2) s
  Stands-primed s is more some same operator again primed =
      let operator' : ends_operator v (get_or signs i 0) ≡ true = ap (ends_operator v) (sym is) ∙ operator in
      let e = at_signs more some (same ∙ is)
      ∙ ap (λ (x : Bool). lift primes bit at
      (after_sign x (walk (get_or signs i 0) (drop (i + 1) signs)) (drop (at + 1) word))) operator'
      ∙ ap (λ (l : List ℕ). lift primes bit at (after_sign true (walk (get_or signs i 0) (drop (i + 1) signs)) l))
      (drop_more word (at + 1) 0 again ∙ ap (λ (b : ℕ). b ∷ drop (at + 1 + 1) word) primed)
      ∙ lift_lift primes bit at 1 2 2 (walk (get_or signs i 0) (drop (i + 1) signs) (drop (at + 1 + 1) word)) in
      let tidy : lift (primes + bit * 1) (bit * 2) (at + 2)
      (walk (get_or signs i 0) (drop (i + 1) signs) (drop (at + 1 + 1) word))
      ≡ lift (primes + bit) (bit * 2) (at + 1 + 1) (walk s (drop (i + 1) signs) (drop (at + 1 + 1) word)) =
      ap (λ (q : ℕ). lift q (bit * 2) (at + 2)
      (walk (get_or signs i 0) (drop (i + 1) signs) (drop (at + 1 + 1) word))) (omega arith)
      ∙ ap (λ (q : ℕ). lift (primes + bit) (bit * 2) q
      (walk (get_or signs i 0) (drop (i + 1) signs) (drop (at + 1 + 1) word))) (omega arith)
      ∙ ap (λ (q : ℕ). lift (primes + bit) (bit * 2) (at + 1 + 1) (walk q (drop (i + 1) signs) (drop (at + 1 + 1) word))) (sym is) in
      record { within = omega arith; below = omega (arith, h.below); room = operator_room s is more operator'; rest = e ∙ tidy }
