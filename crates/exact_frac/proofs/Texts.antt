-- The parts of a fraction that is held have at most 20 and 19 digits with the sign.
use Rattle.std.proofs.Common.{◌≡◌, ℕ, ◌<◌, ◌≤◌, ◌^◌, List, [], ◌∷◌, ◌++◌, ap, arith, length, length-append, lit<}
use Rattle.std.specs.Prelude.{unsigned_abs}
use Rattle.std.specs.Fmt.{decimal, signed_decimal}
use Rattle.std.proofs.lemmas.Fmt.{length-decimal-le, length_signed_le}
use lib.IntN.{ℤ, pos, negsuc}

pub length-den : (n : ℕ) → n < 2 ^ 62 → length (decimal n) ≤ 19
length-den n h = length-decimal-le 19 n (lit< tt) (omega arith) (omega arith)

pub length-num : (z : ℤ) → unsigned_abs z < 2 ^ 62 → length (signed_decimal z) ≤ 20
length-num (pos n) h = length_signed_le 19 (pos n) (omega arith) (omega arith)
length-num (negsuc n) h = length_signed_le 19 (negsuc n) (omega arith) (omega arith)

pub length-joined : (start out1 out2 out a b : List ℕ) → start ≡ [] → out1 ≡ start ++ a → out2 ≡ out1 ++ 47 ∷ [] → out ≡ out2 ++ b →
    length a ≤ 20 → length b ≤ 19 → length out ≤ 40
length-joined start out1 out2 out a b e f g h s t =
    omega (arith, ap length e, ap length f, ap length g, ap length h, length-append start a, length-append out1 (47 ∷ []), length-append out2 b)
