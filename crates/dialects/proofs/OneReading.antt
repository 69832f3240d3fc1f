-- At most one answer to a word is right.
use Rattle.list_laws.proofs.Kit.{◌≡◌, ℕ, List, Ok, Err, refl, ap, subst, arith, inl, inr, cases_lt}
use Rattle.tensor_defs.specs.Prelude.{GroupSymbol, IsAccepted}
use Rattle.text_defs.specs.Languages.{IsFaulty}
use Rattle.dialects.specs.declared.fault.DialectFault.TheVariants.{Syntax, Primes, NoMemory}
use Rattle.dialects.specs.Naming.{Names, IsDialectText}
use Rattle.dialects.specs.Answers.{IsUnaccepted}
use Rattle.dialects.specs.Laws.{OneReading}
use Rattle.dialects.proofs.OneSymbol.{no_two}

one_place : (word : List ℕ) (p q : ℕ) → IsFaulty IsDialectText word p → IsFaulty IsDialectText word q → p ≡ q
one_place word p q f g = elim (cases_lt p q) [
  | inl less ↦ absurd (f.place_is.longest q g.place_is.within less g.place_is.begins)
  | inr le ↦ elim (cases_lt q p) [
    | inl less ↦ absurd (g.place_is.longest p f.place_is.within less f.place_is.begins)
    | inr ge ↦ omega arith
  ]
]

named_faulty : (word : List ℕ) (t : GroupSymbol) (p : ℕ) → Names word t → IsFaulty IsDialectText word p → ⊥
named_faulty word t p n f = f.none (t, n)

named_unaccepted : (word : List ℕ) (t : GroupSymbol) → Names word t → IsAccepted t → IsUnaccepted word → ⊥
named_unaccepted word t n a (u, s, out) = out (subst IsAccepted (no_two word t u n (inl s)) a)

pub one_answer : OneReading
one_answer word (Ok t) (Ok u) a b h k = ap Ok (no_two word t u a.0 b.0)
one_answer word (Ok t) (Err (Syntax p)) a b h k = absurd (named_faulty word t p a.0 b)
one_answer word (Ok t) (Err Primes) a b h k = absurd (named_unaccepted word t a.0 a.1 b)
one_answer word (Ok t) (Err NoMemory) a b h k = absurd (k refl)
one_answer word (Err (Syntax p)) (Ok u) a b h k = absurd (named_faulty word u p b.0 a)
one_answer word (Err (Syntax p)) (Err (Syntax q)) a b h k = ap (λ (n : ℕ). Err (Syntax n)) (one_place word p q a b)
one_answer word (Err (Syntax p)) (Err Primes) a b h k = absurd (named_faulty word b.0 p (inl b.1) a)
one_answer word (Err (Syntax p)) (Err NoMemory) a b h k = absurd (k refl)
one_answer word (Err Primes) (Ok u) a b h k = absurd (named_unaccepted word u b.0 b.1 a)
one_answer word (Err Primes) (Err (Syntax q)) a b h k = absurd (named_faulty word a.0 q (inl a.1) b)
one_answer word (Err Primes) (Err Primes) a b h k = refl
one_answer word (Err Primes) (Err NoMemory) a b h k = absurd (k refl)
one_answer word (Err NoMemory) s a b h k = absurd (h refl)
