-- What moves do to the component lists that they keep.
use Rattle.std.proofs.Common.{◌≡◌, ◌≢◌, ℕ, ◌<◌, ap, sym, ◌∙◌, refl, subst}
use Rattle.tensor_defs.specs.Number.{Number, num_zero}
use Rattle.tensor_defs.specs.declared.Sign.{Sign}
use Rattle.tensor_defs.specs.declared.Sign.TheVariants.{Plus, Minus}
use Rattle.sign_moves.specs.Prelude.{times, times-times, signed, Moves, IsReversible, IsKept, Reaches, stay, move}
use Rattle.sign_moves.proofs.SignLaws.{signed-signed, opposite}

-- a component that is reached is one, and a kept list has the same there, up to the sign
pub reached_below : {n : ℕ} {m : Moves} {c d : ℕ} {s : Sign} → IsReversible n m → Reaches m c d s → c < n → d < n
reached_below r stay h = h
reached_below {n} {m} {c} r (move k below path e) h = reached_below r path (r.stays k c below h)

pub reached_same : {n : ℕ} {m : Moves} {c d : ℕ} {s : Sign} (t : ℕ → Number) → IsReversible n m → IsKept n m t → Reaches m c d s → c < n → t c ≡ signed s (t d)
reached_same {n} {m} {c} t r kept stay h = refl
reached_same {n} {m} {c} {d} {s = u} t r kept (move {s = s} k below path e) h =
    kept.same k c below h
    ∙ ap (signed (m.sign k c)) (reached_same t r kept path (r.stays k c below h))
    ∙ signed-signed (m.sign k c) s (t d)
    ∙ ap (λ x. signed x (t d)) (sym e)

-- one path after another
pub reaches_join : {m : Moves} {c d e : ℕ} {s t : Sign} → Reaches m c d s → Reaches m d e t → Reaches m c e (times s t)
reaches_join stay second = second
reaches_join {m} {c} {d} {e} {s = u} {t = t} (move {s = s} k below path is) second =
    move k below (reaches_join path second) (ap (λ w. times w t) is ∙ times-times (m.sign k c) s t)

-- a path leads back
pub reaches_back : {n : ℕ} {m : Moves} {c d : ℕ} {s : Sign} → IsReversible n m → Reaches m c d s → c < n → (t : Sign) × Reaches m d c t
reaches_back r stay h = (Plus, stay)
reaches_back {n} {m} {c} {d} r (move k below path is) h =
    let rest = reaches_back r path (r.stays k c below h) in
    let home = r.back k c below h in
    (times rest.0 home.0, reaches_join rest.1 home.1)

-- reached with two signs: every kept list is zero there
pub zero_of_both : {n : ℕ} {m : Moves} {c d : ℕ} {s u : Sign} (t : ℕ → Number) → IsReversible n m → IsKept n m t → c < n → Reaches m c d s → Reaches m c d u → s ≢ u → t d ≡ num_zero
zero_of_both {n} {m} {c} {d} {s} {u} t r kept h one other differ =
    opposite s u (t d) (sym (reached_same t r kept one h) ∙ reached_same t r kept other h) differ

-- a path leads back with its own sign: out and back again, any other sign is taken twice
pub reaches_home : {n : ℕ} {m : Moves} {c d : ℕ} {s : Sign} → IsReversible n m → Reaches m c d s → c < n → Reaches m d c s
reaches_home {n} {m} {c} {d} {s} back path below =
    let home = reaches_back back path below in
    let whole : Reaches m d c (times home.0 (times s home.0)) = reaches_join home.1 (reaches_join path home.1) in
    let P : Sign → Type 0 = λ u. Reaches m d c u in
    subst P (taken_twice home.0 s) whole
  where
    taken_twice : (t u : Sign) → times t (times u t) ≡ u
    taken_twice Plus Plus = refl
    taken_twice Plus Minus = refl
    taken_twice Minus Plus = refl
    taken_twice Minus Minus = refl
