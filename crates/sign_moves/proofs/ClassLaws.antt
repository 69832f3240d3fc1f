-- What a table of classes says of the component lists that moves keep.
use Rattle.std.proofs.Common.{◌≡◌, ℕ, ◌<◌, ◌≤◌, true, List, arith, ap, sym, ◌∙◌, refl, subst}
use Rattle.tensor_defs.specs.Number.{Number, num_zero}
use Rattle.sign_moves.specs.declared.classes.Entry.{Entry}
use Rattle.tensor_defs.specs.declared.Sign.{Sign}
use Rattle.sign_moves.specs.Prelude.{times, times_self, signed, Moves, IsReversible, IsKept, Reaches, stay, move, first_at, sign_at, vanishes_at, IsFixed}
use Rattle.sign_moves.specs.Prelude.{Clashes, IsClassTable}
use Rattle.sign_moves.proofs.SignLaws.{signed-signed, signed_zero}
use Rattle.sign_moves.proofs.MoveLaws.{reached_same, reaches_join, reaches_back, zero_of_both}

-- along a path the first component does not fall
first_rises : {n : ℕ} {m : Moves} {c d : ℕ} {s : Sign} (es : List Entry) → IsReversible n m → IsFixed n m es → Reaches m c d s → c < n → first_at es c ≤ first_at es d
first_rises es r f stay below = omega arith
first_rises {n} {m} {c} {d} es r f (move k is_move path e) below =
    let one : first_at es c ≤ first_at es (m.carried k c) = f.fixed k c is_move below in
    let rest : first_at es (m.carried k c) ≤ first_at es d = first_rises es r f path (r.stays k c is_move below) in
    omega arith

pub same_first : {n : ℕ} {m : Moves} (es : List Entry) → IsReversible n m → IsFixed n m es → (k c : ℕ) → k < m.count → c < n → first_at es c ≡ first_at es (m.carried k c)
same_first {n} {m} es r f k c is_move below =
    let up : first_at es c ≤ first_at es (m.carried k c) = f.fixed k c is_move below in
    let down : first_at es (m.carried k c) ≤ first_at es c = first_rises es r f (r.back k c is_move below).1 (r.stays k c is_move below) in
    omega arith

pub reached_first : {n : ℕ} {m : Moves} {c d : ℕ} {s : Sign} (es : List Entry) → IsReversible n m → IsFixed n m es → Reaches m c d s → c < n → first_at es c ≡ first_at es d
reached_first es r f stay below = refl
reached_first {n} {m} {c} es r f (move k is_move path e) below =
    same_first es r f k c is_move below ∙ reached_first es r f path (r.stays k c is_move below)

-- a class with a clash: every kept list is zero there
pub zero_of_vanishing : {n : ℕ} {m : Moves} (es : List Entry) (t : ℕ → Number) → IsReversible n m → IsClassTable n m es → IsKept n m t → (c : ℕ) → c < n → vanishes_at es (first_at es c) ≡ true → t c ≡ num_zero
zero_of_vanishing {n} {m} es t r table kept c below v =
    let root : first_at es c < n = table.sound.below c below in
    let clash : Clashes n m es (first_at es c) = table.clashing (first_at es c) root v in
    let k = clash.move in
    let d = clash.component in
    let next : m.carried k d < n = r.stays k d clash.is_move clash.is_component in
    let one : Reaches m d (first_at es d) (sign_at es d) = table.sound.reached d clash.is_component in
    let step : Reaches m (m.carried k d) (first_at es (m.carried k d)) (sign_at es (m.carried k d)) = table.sound.reached (m.carried k d) next in
    let joined : Reaches m d (first_at es (m.carried k d)) (times (m.sign k d) (sign_at es (m.carried k d))) = move k clash.is_move step refl in
    let P : ℕ → Type 0 = λ x. Reaches m d x (times (m.sign k d) (sign_at es (m.carried k d))) in
    let other : Reaches m d (first_at es d) (times (m.sign k d) (sign_at es (m.carried k d))) = subst P (sym (same_first es r table.fixed k d clash.is_move clash.is_component)) joined in
    let there : t (first_at es d) ≡ num_zero = zero_of_both t r kept clash.is_component one other clash.differs in
    let at_root : t (first_at es c) ≡ num_zero = ap t (sym clash.first) ∙ there in
    reached_same t r kept (table.sound.reached c below) below ∙ ap (signed (sign_at es c)) at_root ∙ signed_zero (sign_at es c)

-- two components of one class
pub class_reaches : {n : ℕ} {m : Moves} (es : List Entry) → IsReversible n m → IsClassTable n m es → (c d : ℕ) → c < n → d < n → first_at es d ≡ first_at es c → (u : Sign) × Reaches m c d u
class_reaches {n} {m} es back table c d below there same =
    let P : ℕ → Type 0 = λ x. Reaches m x d (reaches_back back (table.sound.reached d there) there).0 in
    let home : Reaches m (first_at es c) d (reaches_back back (table.sound.reached d there) there).0 = subst P same (reaches_back back (table.sound.reached d there) there).1 in
    (times (sign_at es c) (reaches_back back (table.sound.reached d there) there).0, reaches_join (table.sound.reached c below) home)

pub class_same : {n : ℕ} {m : Moves} (es : List Entry) (t : ℕ → Number) → IsReversible n m → IsClassTable n m es → IsKept n m t → (c d : ℕ) → c < n → d < n → first_at es d ≡ first_at es c
    → t c ≡ signed (times (sign_at es c) (sign_at es d)) (t d)
class_same {n} {m} es t back table kept c d below there same =
    let at_c : t c ≡ signed (sign_at es c) (t (first_at es c)) = reached_same t back kept (table.sound.reached c below) below in
    let at_d : t d ≡ signed (sign_at es d) (t (first_at es d)) = reached_same t back kept (table.sound.reached d there) there in
    let back_d : signed (sign_at es d) (t d) ≡ t (first_at es d) = ap (signed (sign_at es d)) at_d ∙ signed-signed (sign_at es d) (sign_at es d) (t (first_at es d)) ∙ ap (λ s. signed s (t (first_at es d))) (times_self (sign_at es d)) in
    at_c ∙ ap (λ x. signed (sign_at es c) (t x)) (sym same) ∙ ap (signed (sign_at es c)) (sym back_d) ∙ signed-signed (sign_at es c) (sign_at es d) (t d)
