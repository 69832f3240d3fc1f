-- Rows of steps by index digits.
--   step_small    the numbers stay small
--   spread_more    the steps of one component more
use Rattle.list_laws.proofs.Kit.{◌≡◌, ℕ, ◌+◌, ◌*◌, ◌/◌, ◌%◌, ◌^◌, ◌<◌, ◌≤◌, List, [], ◌∷◌, ◌++◌, zero, suc, add-one, length, get_or, arith, ap, sym, ◌∙◌}
use Rattle.list_laws.proofs.Kit.{refl, inl, inr, lit<, pow-le-pow_right, pow-succ', cases_lt, get_or_append_left}
use Rattle.std.proofs.Common.{append_assoc, length-append}
use Rattle.std.proofs.lemmas.List.{get_or-append-add}
use Rattle.tensor_defs.specs.declared.Sign.{Sign}
use Rattle.tensor_defs.specs.declared.Sign.TheVariants.{Plus}
use Rattle.sign_moves.specs.declared.tabled.Step.{Step}
use Rattle.sign_moves.specs.Prelude.{step_at, part_at, AreParts, joined_step, digit_step, longer_step, IsDigitRow, IsSpread}

pub row_begins : (parts : List (List Step)) (whole : Sign) → IsDigitRow parts whole 0 (record { to = 0; sign = whole } ∷ [])
unfolding digit_step
row_begins parts whole = record {
  len = refl;
  each = λ c h. let first : c ≡ 0 = omega arith in rw first refl;
}

-- the numbers stay small
pub step_small : {parts : List (List Step)} (whole : Sign) → AreParts parts → (k c : ℕ) → k ≤ length parts → (digit_step parts whole k c).to ≤ 1000 * k
unfolding digit_step
step_small whole small zero c h = omega arith
step_small {parts} whole small (suc k) c h =
    let before : (digit_step parts whole k (c / 3)).to ≤ 1000 * k = step_small whole small k (c / 3) (omega arith) in
    let here : (part_at parts k (c % 3)).to ≤ 1000 = small.small k (c % 3) (omega arith) (omega arith) in
    omega arith

step_more : (parts : List (List Step)) (whole : Sign) (k c : ℕ) → digit_step parts whole (k + 1) c ≡ joined_step (digit_step parts whole k (c / 3)) (part_at parts k (c % 3))
unfolding digit_step
step_more parts whole k c = rw add-one refl

pub row_goes_on : (k : ℕ) {parts : List (List Step)} {whole : Sign} {count : ℕ} {steps : ℕ → Step} {longer : List Step} → ((c : ℕ) → c < 3 ^ k → steps c ≡ digit_step parts whole k c) →
    count ≡ 3 ^ k → IsSpread steps count (get_or parts k []) longer → IsDigitRow parts whole (k + 1) longer
row_goes_on k {parts} {whole} {count} {steps} {longer} h is s =
    let power : 3 ^ (k + 1) ≡ 3 * 3 ^ k = rw add-one (pow-succ' 3 k) in
    record {
      len = s.len ∙ ap (λ x. 3 * x) is ∙ sym power;
      each = λ c below.
          let front : c / 3 < 3 ^ k = omega arith in
          let last : c % 3 < 3 = omega arith in
          let whole_is : 3 * (c / 3) + c % 3 ≡ c = omega arith in
          let inside : c / 3 < count = omega (arith, is) in
          ap (step_at longer) (sym whole_is)
          ∙ s.each (c / 3) (c % 3) inside last
          ∙ ap (λ x. joined_step x (part_at parts k (c % 3))) (h (c / 3) front)
          ∙ sym (step_more parts whole k c);
    }

-- two digits at once
pub row_goes_on_twice : (k : ℕ) {parts : List (List Step)} {whole : Sign} {row longer : List Step} → IsDigitRow parts whole k row →
    IsSpread (longer_step row (get_or parts k [])) (3 * length row) (get_or parts (k + 1) []) longer → IsDigitRow parts whole (k + 1 + 1) longer
row_goes_on_twice k {parts} {whole} {row} {longer} h s =
    let power : 3 ^ (k + 1) ≡ 3 * 3 ^ k = rw add-one (pow-succ' 3 k) in
    row_goes_on (k + 1) (λ c below.
    let front : c / 3 < 3 ^ k = omega (arith, power) in
    ap (λ x. joined_step x (part_at parts k (c % 3))) (h.each (c / 3) front) ∙ sym (step_more parts whole k c))
    (omega (arith, h.len, power)) s

pub longer_at : (row part : List Step) (j d i : ℕ) → d < 3 → i ≡ 3 * j + d → longer_step row part i ≡ joined_step (step_at row j) (step_at part d)
longer_at row part j d i h e =
    let front : i / 3 ≡ j = omega arith in
    let last : i % 3 ≡ d = omega arith in
    λ k. joined_step (step_at row (front k)) (step_at part (last k))

pub row_room : {parts : List (List Step)} {whole : Sign} {k : ℕ} {row : List Step} → IsDigitRow parts whole k row → k < length parts →
    3 * length row ≤ 3 ^ length parts
row_room {parts} {whole} {k} {row} h below =
    let more : 3 ^ (k + 1) ≡ 3 * 3 ^ k = rw add-one (pow-succ' 3 k) in
    let rises : 3 ^ (k + 1) ≤ 3 ^ length parts = pow-le-pow_right (lit< tt) (omega arith) in
    omega (arith, h.len, more, rises)

pub row_room_twice : {parts : List (List Step)} {whole : Sign} {k : ℕ} {row : List Step} → IsDigitRow parts whole k row → k + 1 < length parts →
    9 * length row ≤ 3 ^ length parts
row_room_twice {parts} {whole} {k} {row} h below =
    let more : 3 ^ (k + 1) ≡ 3 * 3 ^ k = rw add-one (pow-succ' 3 k) in
    let again : 3 ^ (k + 1 + 1) ≡ 3 * 3 ^ (k + 1) = rw add-one (pow-succ' 3 (k + 1)) in
    let rises : 3 ^ (k + 1 + 1) ≤ 3 ^ length parts = pow-le-pow_right (lit< tt) (omega arith) in
    omega (arith, h.len, more, again, rises)

pub row_small_twice : {parts : List (List Step)} {whole : Sign} {k : ℕ} {row : List Step} → IsDigitRow parts whole k row → AreParts parts → k + 1 < length parts → length parts ≤ 6 →
    (j d e : ℕ) → j < length row → d < 3 → e < 3 → (step_at row j).to + (part_at parts k d).to + (part_at parts (k + 1) e).to < 65536
row_small_twice {parts} {whole} {k} {row} h small below few j d e inside digit last =
    let at : (step_at row j).to ≡ (digit_step parts whole k j).to = ap (λ x. x.to) (h.each j (omega (arith, h.len))) in
    let before : (digit_step parts whole k j).to ≤ 1000 * k = step_small whole small k j (omega arith) in
    let here : (part_at parts k d).to ≤ 1000 = small.small k d (omega arith) digit in
    let next : (part_at parts (k + 1) e).to ≤ 1000 = small.small (k + 1) e below last in
    omega arith

pub row_small : {parts : List (List Step)} {whole : Sign} {k : ℕ} {row : List Step} → IsDigitRow parts whole k row → AreParts parts → k < length parts → length parts ≤ 6 →
    (j d : ℕ) → j < length row → d < 3 → (step_at row j).to + (part_at parts k d).to < 65536
row_small {parts} {whole} {k} {row} h small below few j d inside digit =
    let at : (step_at row j).to ≡ (digit_step parts whole k j).to = ap (λ x. x.to) (h.each j (omega (arith, h.len))) in
    let before : (digit_step parts whole k j).to ≤ 1000 * k = step_small whole small k j (omega arith) in
    let here : (part_at parts k d).to ≤ 1000 = small.small k d below digit in
    omega arith

-- three steps more
module _ (old : List Step) (x y z : Step) where
  three_are : ((old ++ x ∷ []) ++ y ∷ []) ++ z ∷ [] ≡ old ++ x ∷ y ∷ z ∷ []
  three_are = ap (λ us. us ++ z ∷ []) (append_assoc old (x ∷ []) (y ∷ [])) ∙ append_assoc old (x ∷ y ∷ []) (z ∷ [])

  three_before : (i : ℕ) → i < length old → step_at (((old ++ x ∷ []) ++ y ∷ []) ++ z ∷ []) i ≡ step_at old i
  three_before i h =
      ap (λ us. step_at us i) three_are ∙ get_or_append_left old (x ∷ y ∷ z ∷ []) (record { to = 0; sign = Plus }) i h

  three_at : (d i : ℕ) → i ≡ length old + d → step_at (((old ++ x ∷ []) ++ y ∷ []) ++ z ∷ []) i ≡ step_at (x ∷ y ∷ z ∷ []) d
  three_at d i h =
      (λ k. step_at (three_are k) (h k)) ∙ get_or-append-add old (x ∷ y ∷ z ∷ []) d (record { to = 0; sign = Plus })

  pub three_length : length (((old ++ x ∷ []) ++ y ∷ []) ++ z ∷ []) ≡ length old + 3
  three_length = ap length three_are ∙ length-append old (x ∷ y ∷ z ∷ [])

pub spread_none : (steps : ℕ → Step) (part : List Step) → IsSpread steps 0 part []
spread_none steps part = record { len = refl; each = λ i d h. absurd (omega arith) }

-- the steps of one component more
pub spread_more : {steps : ℕ → Step} {count : ℕ} {part old : List Step} {s x y z : Step} → IsSpread steps count part old → steps count ≡ s →
    x ≡ joined_step s (step_at part 0) → y ≡ joined_step s (step_at part 1) → z ≡ joined_step s (step_at part 2) →
    IsSpread steps (count + 1) part (((old ++ x ∷ []) ++ y ∷ []) ++ z ∷ [])
spread_more {steps} {count} {part} {old} {s} {x} {y} {z} h is e f g = record {
  len = three_length old x y z ∙ omega (arith, h.len);
  each = λ i d below digit. elim (cases_lt i count) as (λ _. step_at (((old ++ x ∷ []) ++ y ∷ []) ++ z ∷ []) (3 * i + d) ≡ joined_step (steps i) (step_at part d)) [
    | inl p ↦ three_before old x y z (3 * i + d) (omega (arith, h.len)) ∙ h.each i d p digit
    | inr p ↦
        let same : i ≡ count = omega arith in
        last d digit (3 * i + d) (omega (arith, h.len)) ∙ ap (λ t. joined_step t (step_at part d)) (sym is ∙ ap steps (sym same))
  ];
}
  where
    last : (d : ℕ) → d < 3 → (at : ℕ) → at ≡ length old + d → step_at (((old ++ x ∷ []) ++ y ∷ []) ++ z ∷ []) at ≡ joined_step s (step_at part d)
    last zero h at is = three_at old x y z 0 at is ∙ e
    last (suc zero) h at is = three_at old x y z 1 at is ∙ f
    last (suc (suc zero)) h at is = three_at old x y z 2 at is ∙ g
    last (suc (suc (suc d))) h at is = absurd (omega arith)
