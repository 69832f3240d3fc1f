-- What the signs of a parent with their primes, and then a text that the primes allow, spell.
--   Tails    what may stand behind the signs, by their primes
--   IsOpen    each number of primes allows some tail, and no tail begins with a prime
--   Outcome, two_more, walk_outcome    one byte ahead of a text of B is a text of A
use Rattle.std.proofs.Common.{◌≡◌, ◌≢◌, ◌⊎◌, ℕ, suc, ◌+◌, ◌*◌, Bool, true, false, List, [], ◌∷◌, Result, Ok, Err, refl, sym, subst, ◌∙◌, arith, inl, inr}
use Rattle.std.proofs.lemmas.Bool.Decides.{eqb_tells}
use Rattle.list_laws.proofs.Tests.{next_number}
use Rattle.fault_places.proofs.Places.{StopsAt, same_stop, same_stop_near, Through}
use Rattle.text_defs.specs.GroupTexts.{ends_operator}
use Rattle.group_symbol.specs.Walks.{lift, after_sign, walk}

-- what may stand behind the signs, by their primes
abbrev pub Tails : Type 1
Tails = ℕ → List ℕ → Type 0

abbrev pub Primed : (List ℕ → Type 0) → List ℕ → Type 0
Primed Text [] = ⊥
Primed Text (c ∷ cs) = (c ≡ 39) × Text cs

abbrev pub AfterSign : Bool → (Tails → List ℕ → Type 0) → Tails → List ℕ → Type 0
AfterSign false Others Tail bs = Others Tail bs
AfterSign true Others Tail bs = Others (λ p. Tail (2 * p)) bs ⊎ Primed (Others (λ p. Tail (1 + 2 * p))) bs

abbrev pub SignText : Bool → (Tails → List ℕ → Type 0) → ℕ → Tails → List ℕ → Type 0
SignText e Others s Tail [] = ⊥
SignText e Others s Tail (b ∷ bs) = (b ≡ s) × AfterSign e Others Tail bs

abbrev pub Body : ℕ → List ℕ → Tails → List ℕ → Type 0
Body v [] Tail w = Tail 0 w
Body v (s ∷ ss) Tail w = SignText (ends_operator v s) (Body s ss) s Tail w

abbrev pub NoPrimes : List ℕ → Type 0
NoPrimes [] = Unit {0}
NoPrimes (s ∷ ss) = (s ≢ 39) × NoPrimes ss

-- Each number of primes allows some tail, and no tail begins with a prime.
pub record IsOpen (Tail : Tails) : Type 0 where
  pub live : (p : ℕ) → (z : List ℕ) × Tail p z
  pub clean : (p : ℕ) (z : List ℕ) → Tail p (39 ∷ z) → ⊥

IsOpen-with : (Tail : Tails) (f : ℕ → ℕ) → IsOpen Tail → IsOpen (λ p. Tail (f p))
IsOpen-with Tail f h = record { live = λ p. h.live (f p); clean = λ p. h.clean (f p) }

after_live : (e : Bool) (Others : Tails → List ℕ → Type 0) (Tail : Tails) → IsOpen Tail → ((T : Tails) → IsOpen T → (z : List ℕ) × Others T z) → (z : List ℕ) × AfterSign e Others Tail z
after_live false Others Tail h live = live Tail h
after_live true Others Tail h live =
    let found = live (λ p. Tail (2 * p)) (IsOpen-with Tail (λ p. 2 * p) h) in
    (found.0, inl found.1)

Body-live : (v : ℕ) (ss : List ℕ) (Tail : Tails) → IsOpen Tail → (z : List ℕ) × Body v ss Tail z
Body-live v [] Tail h = h.live 0
Body-live v (s ∷ ss) Tail h =
    let found = after_live (ends_operator v s) (Body s ss) Tail h (Body-live s ss) in
    (s ∷ found.0, (refl, found.1))

Body-clean : (v : ℕ) (ss : List ℕ) (Tail : Tails) → IsOpen Tail → NoPrimes ss → (z : List ℕ) → Body v ss Tail (39 ∷ z) → ⊥
Body-clean v [] Tail h unprimed z b = h.clean 0 z b
Body-clean v (s ∷ ss) Tail h unprimed z b = unprimed.0 (sym b.0)

-- ---- one byte ahead of a text of B is a text of A

module _ (A B : List ℕ → Type 0) (b : ℕ) (bs : List ℕ) (to : (z : List ℕ) → B z → A (b ∷ z)) (near : (c : ℕ) (cs z : List ℕ) → bs ≡ c ∷ cs → A (b ∷ c ∷ z) → B (c ∷ z)) (back : A (b ∷ bs) → B bs) where
  stop_ahead : (n : ℕ) → StopsAt B bs n → StopsAt A (b ∷ bs) (suc n)
  stop_ahead n h = same_stop_near B (λ z. A (b ∷ z)) to bs near n h

  through_ahead : (Rest : List ℕ → Type 0) (n : ℕ) → Through B Rest bs n → Through A Rest (b ∷ bs) (suc n)
  through_ahead Rest n t = record { within = omega (arith, t.within); some = λ r. to bs (t.some r); only = λ a. t.only (back a); stop = λ m h. subst (StopsAt A (b ∷ bs)) (suc_out n m) (stop_ahead (n + m) (t.stop m h)) }
    where
      suc_out : (n m : ℕ) → suc (n + m) ≡ suc n + m
      suc_out n m = omega arith

-- the outcome of a walk: the signs stand at the front, and the rest is owed to a tail, or the word goes wrong
abbrev pub Outcome : (List ℕ → Type 0) → Tails → List ℕ → Result (ℕ × ℕ) ℕ → Type 0
Outcome Text Tail w (Ok x) = Through Text (Tail x.0) w x.1
Outcome Text Tail w (Err n) = (Text w → ⊥) × StopsAt Text w n

pub two_more : (n : ℕ) → suc (suc n) ≡ 2 + n
two_more n = omega arith

one_ahead : (A B : List ℕ → Type 0) (b : ℕ) (bs : List ℕ) → ((z : List ℕ) → B z → A (b ∷ z)) → ((c : ℕ) (cs z : List ℕ) → bs ≡ c ∷ cs → A (b ∷ c ∷ z) → B (c ∷ z)) → (A (b ∷ bs) → B bs) → (Tail : Tails) (base factor : ℕ) (r : Result (ℕ × ℕ) ℕ) → Outcome B (λ p. Tail (base + factor * p)) bs r → Outcome A Tail (b ∷ bs) (lift base factor 1 r)
unfolding lift
one_ahead A B b bs to near back Tail base factor (Ok x) t = subst (Through A (Tail (base + factor * x.0)) (b ∷ bs)) (next_number x.1) (through_ahead A B b bs to near back (Tail (base + factor * x.0)) x.1 t)
one_ahead A B b bs to near back Tail base factor (Err n) h = (λ a. h.0 (back a), subst (StopsAt A (b ∷ bs)) (next_number n) (stop_ahead A B b bs to near back n h.1))

two_ahead : (A B : List ℕ → Type 0) (b c : ℕ) (cs : List ℕ) → ((z : List ℕ) → B z → A (b ∷ c ∷ z)) → ((z : List ℕ) → A (b ∷ c ∷ z) → B z) → (Tail : Tails) (base factor : ℕ) (r : Result (ℕ × ℕ) ℕ) → Outcome B (λ p. Tail (base + factor * p)) cs r → Outcome A Tail (b ∷ c ∷ cs) (lift base factor 2 r)
unfolding lift
two_ahead A B b c cs to back Tail base factor (Ok x) t =
    let one = through_ahead (λ z. A (b ∷ z)) B c cs to (λ d ds z _ a. back (d ∷ z) a) (back cs) (Tail (base + factor * x.0)) x.1 t in
    subst (Through A (Tail (base + factor * x.0)) (b ∷ c ∷ cs)) (two_more x.1) (through_ahead A (λ z. A (b ∷ z)) b (c ∷ cs) (λ z a. a) (λ d ds z _ a. a) (λ a. a) (Tail (base + factor * x.0)) (suc x.1) one)
two_ahead A B b c cs to back Tail base factor (Err n) h = (λ a. h.0 (back cs a), subst (StopsAt A (b ∷ c ∷ cs)) (two_more n) (same_stop B (λ z. A (b ∷ c ∷ z)) to back cs n h.1))

retail : (A : List ℕ → Type 0) (Tail : Tails) (f g : ℕ → ℕ) → ((p : ℕ) → f p ≡ g p) → (w : List ℕ) (r : Result (ℕ × ℕ) ℕ) → Outcome A (λ p. Tail (f p)) w r → Outcome A (λ p. Tail (g p)) w r
retail A Tail f g e w (Ok x) t = let P : ℕ → Type 0 = λ (q : ℕ). Through A (Tail q) w x.1 in subst P (e x.0) t
retail A Tail f g e w (Err n) h = h

module _ (Others : Tails → List ℕ → Type 0) (f : List ℕ → Result (ℕ × ℕ) ℕ) (clean : (T : Tails) → IsOpen T → (z : List ℕ) → Others T (39 ∷ z) → ⊥) (outcome : (T : Tails) → IsOpen T → (w : List ℕ) → Outcome (Others T) T w (f w)) where
  sign_outcome : (e : Bool) (s : ℕ) (Tail : Tails) → IsOpen Tail → (bs : List ℕ) → Outcome (SignText e Others s Tail) Tail (s ∷ bs) (after_sign e f bs)
  sign_outcome false s Tail h bs = one_ahead (SignText false Others s Tail) (Others Tail) s bs (λ z a. (refl, a)) (λ c cs z _ a. a.1) (λ a. a.1) Tail 0 1 (f bs) (retail (Others Tail) Tail (λ p. p) (λ p. 0 + 1 * p) (λ p. omega arith) bs (f bs) (outcome Tail h bs))
  sign_outcome true s Tail h [] = one_ahead (SignText true Others s Tail) (Others (λ p. Tail (2 * p))) s [] (λ z a. (refl, inl a)) (λ c cs z e a. absurd cc) (λ a. elim a.1 [ inl b ↦ b | inr b ↦ absurd b ]) Tail 0 2 (f []) (retail (Others (λ p. Tail (2 * p))) Tail (λ p. 2 * p) (λ p. 0 + 2 * p) (λ p. omega arith) [] (f []) (outcome (λ p. Tail (2 * p)) (IsOpen-with Tail (λ p. 2 * p) h) []))
  sign_outcome true s Tail h (c ∷ cs) =
      elim (eqb_tells c 39) [
        | inl is ↦
            rw (is.0, is.1) (two_ahead (SignText true Others s Tail) (Others (λ p. Tail (1 + 2 * p))) s 39 cs (λ z a. (refl, inr (refl, a))) (λ z a. elim a.1 [ inl b ↦ absurd (clean (λ p. Tail (2 * p)) (IsOpen-with Tail (λ p. 2 * p) h) z b) | inr b ↦ b.1 ]) Tail 1 2 (f cs) (outcome (λ p. Tail (1 + 2 * p)) (IsOpen-with Tail (λ p. 1 + 2 * p) h) cs))
        | inr isnt ↦
            rw isnt.0 (one_ahead (SignText true Others s Tail) (Others (λ p. Tail (2 * p))) s (c ∷ cs) (λ z a. (refl, inl a)) (λ d ds z e a. elim a.1 [ inl b ↦ b | inr b ↦ absurd (isnt.1 (firsts c cs d ds e ∙ b.0)) ]) (λ a. elim a.1 [ inl b ↦ b | inr b ↦ absurd (isnt.1 b.0) ]) Tail 0 2 (f (c ∷ cs)) (retail (Others (λ p. Tail (2 * p))) Tail (λ p. 2 * p) (λ p. 0 + 2 * p) (λ p. omega arith) (c ∷ cs) (f (c ∷ cs)) (outcome (λ p. Tail (2 * p)) (IsOpen-with Tail (λ p. 2 * p) h) (c ∷ cs))))
      ]
    where
      firsts : (c : ℕ) (cs : List ℕ) (d : ℕ) (ds : List ℕ) → c ∷ cs ≡ d ∷ ds → c ≡ d
      firsts c cs d ds e = cc

pub walk_outcome : (v : ℕ) (ss : List ℕ) (Tail : Tails) → IsOpen Tail → NoPrimes ss → (w : List ℕ) → Outcome (Body v ss Tail) Tail w (walk v ss w)
unfolding walk
walk_outcome v [] Tail h unprimed w = record { within = omega arith; some = λ a. a; only = λ a. a; stop = λ m a. subst (StopsAt (Tail 0) w) (none_more m) a }
  where
    none_more : (m : ℕ) → m ≡ 0 + m
    none_more m = omega arith
walk_outcome v (s ∷ ss) Tail h unprimed [] = (λ a. a, (refl, Body-live v (s ∷ ss) Tail h))
walk_outcome v (s ∷ ss) Tail h unprimed (b ∷ bs) =
    elim (eqb_tells b s) [
      | inl is ↦ rw (is.0, is.1) (sign_outcome (Body s ss) (walk s ss) (λ T o. Body-clean s ss T o unprimed.1) (λ T o. walk_outcome s ss T o unprimed.1) (ends_operator v s) s Tail h bs)
      | inr isnt ↦ rw isnt.0 (λ a. isnt.1 a.0, (Body-live v (s ∷ ss) Tail h, λ z a. isnt.1 a.0))
    ]
