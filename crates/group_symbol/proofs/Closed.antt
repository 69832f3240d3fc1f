-- The texts of signs with primes and a tail, taken apart into their primes and their tail.
--   Spelled    some primes below the limit, and a tail that they allow, make the word
--   Taken, walk_taken    what a walk has read
use Rattle.std.proofs.Common.{◌≡◌, ◌==◌, ℕ, ◌+◌, ◌*◌, ◌/◌, ◌%◌, ◌<◌, ◌^◌, Bool, true, false, cond, List, [], ◌∷◌, ◌++◌}
use Rattle.std.proofs.Common.{drop, Result, Ok, Err, refl, sym, ap, subst, ◌∙◌, arith, inl, inr, eq-eqb, lit<}
use Rattle.std.proofs.lemmas.Bool.Decides.{eqb_tells}
use Rattle.list_laws.proofs.Tests.{next_number, double_power, same_power}
use Rattle.text_defs.specs.GroupTexts.{ends_operator, operators_in, with_primes}
use Rattle.text_laws.proofs.GroupUnique.{spell}
use Rattle.group_symbol.specs.Walks.{lift, after_sign, walk}
use Rattle.group_symbol.proofs.Bodies.{Tails, SignText, Body, two_more}

-- Some primes below the limit, and a tail that they allow, make the word.
abbrev pub Spelled : (ℕ → List ℕ) → ℕ → Tails → List ℕ → Type 0
Spelled f limit Tail w = (p : ℕ) × (p < limit) × (r : List ℕ) × (w ≡ f p ++ r) × Tail p r

odd_rest : (p : ℕ) → (1 + 2 * p) % 2 ≡ 1
odd_rest p = omega arith

even_rest : (p : ℕ) → (2 * p) % 2 ≡ 0
even_rest p = omega arith

spell_odd : (s : ℕ) (f : ℕ → List ℕ) (p : ℕ) → spell true s f (1 + 2 * p) ≡ s ∷ 39 ∷ f p
spell_odd s f p = ap (λ (b : Bool). cond b (s ∷ 39 ∷ f ((1 + 2 * p) / 2)) (s ∷ f ((1 + 2 * p) / 2)))
    (eq-eqb ((1 + 2 * p) % 2) 1 (odd_rest p)) ∙ ap (λ (q : ℕ). s ∷ 39 ∷ f q) (omega arith)

spell_even : (s : ℕ) (f : ℕ → List ℕ) (p : ℕ) → spell true s f (2 * p) ≡ s ∷ f p
spell_even s f p = ap (λ (r : ℕ). cond (r == 1) (s ∷ 39 ∷ f ((2 * p) / 2)) (s ∷ f ((2 * p) / 2))) (even_rest p) ∙ ap (λ (q : ℕ). s ∷ f q) (omega arith)

module _ (Others : Tails → List ℕ → Type 0) (f : ℕ → List ℕ) (n : ℕ) where
  sign_spelled : (open_all : (T : Tails) (w : List ℕ) → Others T w →
      Spelled f (2 ^ n) T w) (e : Bool) (s : ℕ) (Tail : Tails) (w : List ℕ) → SignText e Others s Tail w →
      Spelled (spell e s f) (2 ^ (cond e 1 0 + n)) Tail w
  sign_spelled open_all e s Tail [] b = absurd b
  sign_spelled open_all false s Tail (b ∷ bs) (is, rest) =
      let found = open_all Tail bs rest in
      (found.0, omega (arith, found.1, same_power n), found.2, ap (λ (q : ℕ). q ∷ bs) is ∙ ap (λ (l : List ℕ). s ∷ l) found.3, found.4)
  sign_spelled open_all true s Tail (b ∷ bs) (is, inl rest) =
      let found = open_all (λ p. Tail (2 * p)) bs rest in (
        2 * found.0,
        omega (arith, found.1, double_power n),
        found.2,
        ap (λ (q : ℕ). q ∷ bs) is
            ∙ ap (λ (l : List ℕ). s ∷ l) found.3 ∙ ap (λ (l : List ℕ). l ++ found.2) (sym (spell_even s f found.0)),
        found.4,
      )
  sign_spelled open_all true s Tail (b ∷ []) (is, inr rest) = absurd rest
  sign_spelled open_all true s Tail (b ∷ c ∷ cs) (is, inr rest) =
      let found = open_all (λ p. Tail (1 + 2 * p)) cs rest.1 in (
        1 + 2 * found.0,
        omega (arith, found.1, double_power n),
        found.2,
        ap (λ (q : ℕ). q ∷ c ∷ cs) is
            ∙ ap (λ (q : ℕ). s ∷ q ∷ cs) rest.0 ∙ ap (λ (l : List ℕ). s ∷ 39 ∷ l) found.3
            ∙ ap (λ (l : List ℕ). l ++ found.2) (sym (spell_odd s f found.0)),
        found.4,
      )

  sign_body : (close_all : (T : Tails) (p : ℕ) (r : List ℕ) → p < 2 ^ n → T p r →
      Others T (f p ++ r)) (e : Bool) (s : ℕ) (Tail : Tails) (p : ℕ) (r : List ℕ) → p < 2 ^ (cond e 1 0 + n) →
      Tail p r → SignText e Others s Tail (spell e s f p ++ r)
  sign_body close_all false s Tail p r few t = (refl, close_all Tail p r (omega (arith, few, same_power n)) t)
  sign_body close_all true s Tail p r few t =
      elim (eqb_tells (p % 2) 1) [
        | inl odd ↦
            let half : 1 + 2 * (p / 2) ≡ p = omega (arith, odd.1) in
            let T = λ (q : ℕ). Tail q r in
            rw odd.0 (refl, inr (refl, close_all (λ q. Tail (1 + 2 * q)) (p / 2) r (omega (arith, few, double_power n, odd.1)) (subst T (sym half) t)))
        | inr even ↦
            let half : 2 * (p / 2) ≡ p = omega (arith, even.1) in
            let T = λ (q : ℕ). Tail q r in
            rw even.0 (refl, inl (close_all (λ q. Tail (2 * q)) (p / 2) r (omega (arith, few, double_power n)) (subst T (sym half) t)))
      ]

pub body_spelled : (v : ℕ) (ss : List ℕ) (Tail : Tails) (w : List ℕ) → Body v ss Tail w → Spelled (with_primes v ss) (2 ^ operators_in v ss) Tail w
unfolding with_primes operators_in
body_spelled v [] Tail w b = (0, lit< tt, w, refl, b)
body_spelled v (s ∷ ss) Tail w b = sign_spelled (Body s ss) (with_primes s ss) (operators_in s ss) (body_spelled s ss) (ends_operator v s) s Tail w b

pub spelled_body : (v : ℕ) (ss : List ℕ) (Tail : Tails) (p : ℕ) (r : List ℕ) → p < 2 ^ operators_in v ss → Tail p r → Body v ss Tail (with_primes v ss p ++ r)
unfolding with_primes operators_in
spelled_body v [] Tail p r few t =
    let none : p ≡ 0 = below_one p few in
    let T = λ (q : ℕ). Tail q r in
    subst T none t
  where
    below_one : (p : ℕ) → p < 1 → p ≡ 0
    below_one p h = omega arith
spelled_body v (s ∷ ss) Tail p r few t = sign_body (Body s ss) (with_primes s ss) (operators_in s ss) (spelled_body s ss) (ends_operator v s) s Tail p r few t

-- ---- what a walk has read

-- A walk that ends well has read the signs with primes below the limit.
abbrev pub Taken : (ℕ → List ℕ) → ℕ → List ℕ → Result (ℕ × ℕ) ℕ → Type 0
Taken f limit w (Ok x) = (x.0 < limit) × (w ≡ f x.0 ++ drop x.1 w)
Taken f limit w (Err n) = Unit {0}

same_number : (p : ℕ) → p ≡ 0 + 1 * p
same_number p = omega arith

even_number : (p : ℕ) → 2 * p ≡ 0 + 2 * p
even_number p = omega arith

taken_plain : (f : ℕ → List ℕ) (n s : ℕ) (bs : List ℕ) (r : Result (ℕ × ℕ) ℕ) → Taken f (2 ^ n) bs r →
    Taken (spell false s f) (2 ^ (0 + n)) (s ∷ bs) (lift 0 1 1 r)
unfolding lift
taken_plain f n s bs (Ok x) h = (
  omega (arith, h.0, same_power n),
  ap (λ (l : List ℕ). s ∷ l) h.1
      ∙ ap (λ (p : ℕ). s ∷ (f p ++ drop x.1 bs)) (same_number x.0)
      ∙ ap (λ (k : ℕ). s ∷ (f (0 + 1 * x.0) ++ drop k (s ∷ bs))) (next_number x.1),
)
taken_plain f n s bs (Err m) h = tt

taken_unprimed : (f : ℕ → List ℕ) (n s : ℕ) (bs : List ℕ) (r : Result (ℕ × ℕ) ℕ) → Taken f (2 ^ n) bs r →
    Taken (spell true s f) (2 ^ (1 + n)) (s ∷ bs) (lift 0 2 1 r)
unfolding lift
taken_unprimed f n s bs (Ok x) h = (
  omega (arith, h.0, double_power n),
  ap (λ (l : List ℕ). s ∷ l) h.1
      ∙ ap (λ (l : List ℕ). l ++ drop x.1 bs) (sym (spell_even s f x.0))
      ∙ ap (λ (p : ℕ). spell true s f p ++ drop x.1 bs) (even_number x.0)
      ∙ ap (λ (k : ℕ). spell true s f (0 + 2 * x.0) ++ drop k (s ∷ bs)) (next_number x.1),
)
taken_unprimed f n s bs (Err m) h = tt

taken_primed : (f : ℕ → List ℕ) (n s : ℕ) (cs : List ℕ) (r : Result (ℕ × ℕ) ℕ) → Taken f (2 ^ n) cs r →
    Taken (spell true s f) (2 ^ (1 + n)) (s ∷ 39 ∷ cs) (lift 1 2 2 r)
unfolding lift
taken_primed f n s cs (Ok x) h = (
  omega (arith, h.0, double_power n),
  ap (λ (l : List ℕ). s ∷ 39 ∷ l) h.1
      ∙ ap (λ (l : List ℕ). l ++ drop x.1 cs) (sym (spell_odd s f x.0))
      ∙ ap (λ (k : ℕ). spell true s f (1 + 2 * x.0) ++ drop k (s ∷ 39 ∷ cs)) (two_more x.1),
)
taken_primed f n s cs (Err m) h = tt

taken_sign : (f : ℕ → List ℕ) (n : ℕ) (others : List ℕ → Result (ℕ × ℕ) ℕ) →
    ((w : List ℕ) → Taken f (2 ^ n) w (others w)) → (e : Bool) (s : ℕ) (bs : List ℕ) →
    Taken (spell e s f) (2 ^ (cond e 1 0 + n)) (s ∷ bs) (after_sign e others bs)
taken_sign f n others all false s bs = taken_plain f n s bs (others bs) (all bs)
taken_sign f n others all true s [] = taken_unprimed f n s [] (others []) (all [])
taken_sign f n others all true s (c ∷ cs) =
    elim (eqb_tells c 39) [
      | inl is ↦ rw (is.0, is.1) (taken_primed f n s cs (others cs) (all cs))
      | inr isnt ↦ rw isnt.0 (taken_unprimed f n s (c ∷ cs) (others (c ∷ cs)) (all (c ∷ cs)))
    ]

pub walk_taken : (v : ℕ) (ss w : List ℕ) → Taken (with_primes v ss) (2 ^ operators_in v ss) w (walk v ss w)
unfolding walk with_primes operators_in
walk_taken v [] w = (lit< tt, refl)
walk_taken v (s ∷ ss) [] = tt
walk_taken v (s ∷ ss) (b ∷ bs) =
    elim (eqb_tells b s) [
      | inl is ↦ rw (is.0, is.1) (taken_sign (with_primes s ss) (operators_in s ss) (walk s ss) (walk_taken s ss) (ends_operator v s) s bs)
      | inr isnt ↦ rw isnt.0 tt
    ]
