-- In format 1 no line that isn't empty is passed.
use Rattle.std.proofs.Common.{ℕ, List, ◌∷◌, inl, inr}
use Rattle.text_defs.specs.declared.Format.TheVariants.{One}
use Rattle.text_defs.specs.Refusals.{IsPassed}

pub not_passed : (number b : ℕ) (bs : List ℕ) → IsPassed One number (b ∷ bs) → ⊥
not_passed number b bs (inl e) = cc
not_passed number b bs (inr (inl h)) = absurd h
not_passed number b bs (inr (inr c)) = absurd c.1
