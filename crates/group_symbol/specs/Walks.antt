-- Reading the signs of a parent with their primes from the front of a word.
--   lift    the outcome of a walk, after k bytes whose primes make the number base and whose next bit is worth factor
--   after_sign    a sign is taken, and the primes after it, if it ends an operator
--   walk    the primes and the number of bytes that the signs take, or the place of the first byte that is wrong
use Rattle.std.specs.Prelude.{◌≡◌, ℕ, ◌+◌, ◌*◌, ◌==◌, Bool, true, false, List, [], ◌∷◌, Result, Ok, Err, if◌then◌else◌}
use Rattle.text_defs.specs.declared.Fault.{Fault}
use Rattle.text_defs.specs.GroupTexts.{ends_operator}

-- the outcome of a walk, after k bytes whose primes make the number base and whose next bit is worth factor
unfoldable pub lift : ℕ → ℕ → ℕ → Result (ℕ × ℕ) ℕ → Result (ℕ × ℕ) ℕ
lift base factor k (Ok x) = Ok (base + factor * x.0, k + x.1)
lift base factor k (Err n) = Err (k + n)

-- a sign is taken, and the primes after it, if it ends an operator
abbrev pub after_sign : Bool → (List ℕ → Result (ℕ × ℕ) ℕ) → List ℕ → Result (ℕ × ℕ) ℕ
after_sign false others bs = lift 0 1 1 (others bs)
after_sign true others [] = lift 0 2 1 (others [])
after_sign true others (c ∷ cs) = if c == 39 then lift 1 2 2 (others cs) else lift 0 2 1 (others (c ∷ cs))

-- the primes and the number of bytes that the signs take, or the place of the first byte that is wrong
unfoldable pub walk : ℕ → List ℕ → List ℕ → Result (ℕ × ℕ) ℕ
walk previous [] word = Ok (0, 0)
walk previous (s ∷ ss) [] = Err 0
walk previous (s ∷ ss) (b ∷ bs) = if b == s then after_sign (ends_operator previous s) (walk s ss) bs else Err 0

abbrev pub Walked : Result (ℕ × ℕ) Fault → Result (ℕ × ℕ) ℕ → Type 0
Walked (Ok x) read = read ≡ Ok x
Walked (Err f) read = read ≡ Err f.place
