-- Numbers that don't differ are the same.
use Rattle.list_laws.proofs.Kit.{◌≡◌, ◌≢◌, ℕ, ap, inl, inr, eqb_tells}
use lib.IntN.{ℤ, pos, negsuc}
use mathlib.Core.Quot.{ind}
use Rattle.tensor_defs.specs.Number.{Number, Number_set, Same, Triple, number_of, same_numbers}
use Rattle.number_laws.proofs.Sameness.{numbers_are_same_lem}

nat_same : (a b : ℕ) → ¬ (a ≢ b) → a ≡ b
nat_same a b h = elim (eqb_tells a b) [ inl is ↦ is.1 | inr isnt ↦ absurd (h isnt.1) ]

int_same : (a b : ℤ) → ¬ (a ≢ b) → a ≡ b
int_same (pos a) (pos b) h = ap pos (nat_same a b (λ n. h (λ e. n (let f : a ≡ b = cc in f))))
int_same (pos a) (negsuc b) h = absurd (h (λ e. cc))
int_same (negsuc a) (pos b) h = absurd (h (λ e. cc))
int_same (negsuc a) (negsuc b) h = ap negsuc (nat_same a b (λ n. h (λ e. n (let f : a ≡ b = cc in f))))

triples_same : (a b : Triple) → ¬ (number_of a ≢ number_of b) → number_of a ≡ number_of b
triples_same a b h = same_numbers a b (record {
  same_p = int_same _ _ (λ n. h (λ e. n ((numbers_are_same_lem a b).0 e).same_p));
  same_q = int_same _ _ (λ n. h (λ e. n ((numbers_are_same_lem a b).0 e).same_q));
})

pub numbers_same : (x y : Number) → ¬ (x ≢ y) → x ≡ y
numbers_same x y =
    ind {r = Same} {β = λ z. ¬ (z ≢ y) → z ≡ y} (λ z. hlevel Number_set)
    (λ a. ind {r = Same} {β = λ z. ¬ (number_of a ≢ z) → number_of a ≡ z} (λ z. hlevel Number_set) (λ b. triples_same a b) y) x
