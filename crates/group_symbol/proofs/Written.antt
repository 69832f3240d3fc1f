-- Writing signs with their primes, sign by sign.
use Rattle.list_laws.proofs.Kit.{◌≡◌, ◌≢◌, ◌==◌, ◌%◌, ◌/◌, ◌+◌, ◌*◌, ◌<◌, ◌≤◌, ℕ, Bool, true, false, cond, List, [], ◌∷◌, ◌++◌, get_or, length, drop, refl}
use Rattle.list_laws.proofs.Kit.{sym, ap, ◌∙◌, arith, ne_eqb, drop_more, drop_of_length-le}
use Rattle.std.proofs.Common.{append_assoc, append-nil, eq-eqb, length-append}
use Rattle.text_defs.specs.GroupTexts.{ends_operator, with_primes}

-- what is written by the first i signs, and what is still to come
pub record IsWritten (old signs : List ℕ) (primes : ℕ) (text : List ℕ) (i previous left : ℕ) : Type 0 where
  pub value : text ++ with_primes previous (drop i signs) left ≡ old ++ with_primes 0 signs primes
  pub short : length text ≤ length old + 2 * i

-- the texts of one sign
plain : (e b : Bool) (x y z : List ℕ) → e ≡ false → cond e (cond b x y) z ≡ z
plain true b x y z is = absurd cc
plain false b x y z is = refl

primed : (e b : Bool) (x y z : List ℕ) → e ≡ true → b ≡ true → cond e (cond b x y) z ≡ x
primed true true x y z is odd = refl
primed true false x y z is odd = absurd cc
primed false b x y z is odd = absurd cc

unprimed : (e b : Bool) (x y z : List ℕ) → e ≡ true → b ≡ false → cond e (cond b x y) z ≡ y
unprimed true true x y z is even = absurd cc
unprimed true false x y z is even = refl
unprimed false b x y z is even = absurd cc

module _ (old signs : List ℕ) (primes : ℕ) (text : List ℕ) (i previous left : ℕ) (h : IsWritten old signs primes text i previous left) (more : i < length signs) where
  at_sign : with_primes previous (drop i signs) left ≡ with_primes previous (get_or signs i 0 ∷ drop (i + 1) signs) left
  at_sign = ap (λ (l : List ℕ). with_primes previous l left) (drop_more signs i 0 more)

  pub written_plain : ends_operator previous (get_or signs i 0) ≡ false →
      IsWritten old signs primes (text ++ get_or signs i 0 ∷ []) (i + 1) (get_or signs i 0) left
  unfolding with_primes
  written_plain is = record {
    value = append_assoc text (get_or signs i 0 ∷ []) (with_primes (get_or signs i 0) (drop (i + 1) signs) left)
        ∙ ap (λ (l : List ℕ). text ++ l) (sym (at_sign ∙ plain _ (left % 2 == 1) _ _ _ is)) ∙ h.value;
    short = omega (arith, h.short, length-append text (get_or signs i 0 ∷ []));
  }

  pub written_unprimed : ends_operator previous (get_or signs i 0) ≡ true → left % 2 ≢ 1 →
      IsWritten old signs primes (text ++ get_or signs i 0 ∷ []) (i + 1) (get_or signs i 0) (left / 2)
  unfolding with_primes
  written_unprimed is even = record {
    value = append_assoc text (get_or signs i 0 ∷ []) (with_primes (get_or signs i 0) (drop (i + 1) signs) (left / 2))
        ∙ ap (λ (l : List ℕ). text ++ l) (sym (at_sign ∙ unprimed _ (left % 2 == 1) _ _ _ is (ne_eqb _ _ even))) ∙ h.value;
    short = omega (arith, h.short, length-append text (get_or signs i 0 ∷ []));
  }

  pub written_primed : ends_operator previous (get_or signs i 0) ≡ true → left % 2 ≡ 1 →
      IsWritten old signs primes ((text ++ get_or signs i 0 ∷ []) ++ 39 ∷ []) (i + 1) (get_or signs i 0) (left / 2)
  unfolding with_primes
  written_primed is odd = record {
    value = ap (λ (l : List ℕ). l ++ with_primes (get_or signs i 0) (drop (i + 1) signs) (left / 2)) (append_assoc text (get_or signs i 0 ∷ []) (39 ∷ []))
        ∙ append_assoc text (get_or signs i 0 ∷ 39 ∷ []) (with_primes (get_or signs i 0) (drop (i + 1) signs) (left / 2))
        ∙ ap (λ (l : List ℕ). text ++ l) (sym (at_sign ∙ primed _ (left % 2 == 1) _ _ _ is (eq-eqb _ _ odd))) ∙ h.value;
    short = omega (arith, h.short, length-append (text ++ get_or signs i 0 ∷ []) (39 ∷ []), length-append text (get_or signs i 0 ∷ []));
  }

pub all_written : (old signs : List ℕ) (primes : ℕ) (text : List ℕ) (i previous left : ℕ) → IsWritten old signs primes text i previous left → length signs ≤ i → text ≡ old ++ with_primes 0 signs primes
unfolding with_primes
all_written old signs primes text i previous left h le =
    sym (append-nil text) ∙ ap (λ (l : List ℕ). text ++ with_primes previous l left) (sym (drop_of_length-le signs le)) ∙ h.value
