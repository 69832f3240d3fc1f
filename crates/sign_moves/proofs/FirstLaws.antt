-- What tables of classes and of first components say of the component lists that moves keep.
--   CanSpread
--       what can be spread from the components f over all others: moves keep v and f, and where v is false change s
--       by their signs
--   spread    the list that is 0 where v is true, and elsewhere the number at f with the sign s
--   spread_kept    what is spread is kept
--   not_forced    some kept list is not zero where v is false
--   class_zero, first_of_class, tables_tell    tables of classes
--   first_can, path_first, path_sign, path_vanishes, first_same, firsts_settled, firsts_tell
--       tables of first components
use Rattle.list_laws.proofs.Kit.{◌≡◌, ℕ, ◌<◌, Bool, true, false, List, ap, sym, ◌∙◌, refl, inl, inr, cases_Bool}
use Rattle.tensor_defs.specs.Number.{Number, num_zero, num_one}
use Rattle.sign_moves.specs.declared.classes.Entry.{Entry}
use Rattle.tensor_defs.specs.declared.Sign.{Sign}
use Rattle.sign_moves.specs.Prelude.{times, times-times, times_plus, signed, Moves, IsReversible, IsKept, Reaches, stay, move, IsForced, IsFirst, first_at}
use Rattle.sign_moves.specs.Prelude.{sign_at, vanishes_at, IsClassTable, IsFirstOfClass, IsFirstTable, AreSettled, TablesTell, FirstsTell}
use Rattle.sign_moves.proofs.SignLaws.{signed-signed, signed_zero, sign_not_zero}
use Rattle.sign_moves.proofs.MoveLaws.{reached_below, reached_same}
use Rattle.sign_moves.proofs.ClassLaws.{same_first, reached_first, zero_of_vanishing, class_reaches, class_same}

-- what can be spread from the components f over all others: moves keep v and f, and where v is false change s by their signs
pub record CanSpread (n : ℕ) (m : Moves) (v : ℕ → Bool) (s : ℕ → Sign) (f : ℕ → ℕ) : Type 0 where
  pub follows : (k c : ℕ) → k < m.count → c < n → v (m.carried k c) ≡ v c
  pub joins : (k c : ℕ) → k < m.count → c < n → f (m.carried k c) ≡ f c
  pub clean : (k c : ℕ) → k < m.count → c < n → v c ≡ false → s c ≡ times (m.sign k c) (s (m.carried k c))

pub spread_to : Bool → Sign → Number → Number
spread_to true s x = num_zero
spread_to false s x = signed s x

-- the list that is 0 where v is true, and elsewhere the number at f with the sign s
abbrev pub spread : (ℕ → Bool) → (ℕ → Sign) → (ℕ → ℕ) → (ℕ → Number) → ℕ → Number
spread v s f x c = spread_to (v c) (s c) (x (f c))

spread_true : (s : Sign) (x : Number) → spread_to true s x ≡ num_zero
unfolding spread_to
spread_true s x = refl

spread_false : (s : Sign) (x : Number) → spread_to false s x ≡ signed s x
unfolding spread_to
spread_false s x = refl

pub spread_vanishing : (v : ℕ → Bool) (s : ℕ → Sign) (f : ℕ → ℕ) (x : ℕ → Number) (c : ℕ) → v c ≡ true →
    spread v s f x c ≡ num_zero
spread_vanishing v s f x c h = ap (λ b. spread_to b (s c) (x (f c))) h ∙ spread_true (s c) (x (f c))

pub spread_open : (v : ℕ → Bool) (s : ℕ → Sign) (f : ℕ → ℕ) (x : ℕ → Number) (c : ℕ) → v c ≡ false →
    spread v s f x c ≡ signed (s c) (x (f c))
spread_open v s f x c h = ap (λ b. spread_to b (s c) (x (f c))) h ∙ spread_false (s c) (x (f c))

module _ {n : ℕ} {m : Moves} {v : ℕ → Bool} {s : ℕ → Sign} {f : ℕ → ℕ} (can : CanSpread n m v s f) where
  -- what is spread is kept
  pub spread_kept : (x : ℕ → Number) → IsKept n m (spread v s f x)
  spread_kept x = record {
    same = λ k c is below. elim (cases_Bool (v c)) as (λ _. spread v s f x c ≡ signed (m.sign k c) (spread v s f x (m.carried k c))) [
      | inl h ↦ spread_vanishing v s f x c h ∙ sym (ap (signed (m.sign k c)) (spread_vanishing v s f x (m.carried k c) (can.follows k c is below ∙ h)) ∙ signed_zero (m.sign k c))
      | inr h ↦
          spread_open v s f x c h
          ∙ (λ i. signed (can.clean k c is below h i) (x (sym (can.joins k c is below) i)))
          ∙ sym (signed-signed (m.sign k c) (s (m.carried k c)) (x (f (m.carried k c))))
          ∙ ap (signed (m.sign k c)) (sym (spread_open v s f x (m.carried k c) (can.follows k c is below ∙ h)))
    ];
  }

  -- some kept list is not zero where v is false
  pub not_forced : (c : ℕ) → v c ≡ false → IsForced n m c → ⊥
  not_forced c h all = sign_not_zero (s c) (sym (spread_open v s f (λ d. num_one) c h) ∙ all.zero (spread v s f (λ d. num_one)) (spread_kept (λ d. num_one)))

-- ---- tables of classes
module _ (n : ℕ) (m : Moves) (es : List Entry) (back : IsReversible n m) (table : IsClassTable n m es) where
  class_can : CanSpread n m (λ c. vanishes_at es (first_at es c)) (sign_at es) (first_at es)
  class_can = record {
    follows = λ k c is h. ap (vanishes_at es) (sym (same_first es back table.fixed k c is h));
    joins = λ k c is h. sym (same_first es back table.fixed k c is h);
    clean = table.clean;
  }

  pub class_zero : (c : ℕ) → c < n → IsForced n m c → vanishes_at es (first_at es c) ≡ true
  class_zero c h z = elim (cases_Bool (vanishes_at es (first_at es c))) as (λ _. vanishes_at es (first_at es c) ≡ true) [
    | inl p ↦ p
    | inr p ↦ absurd (not_forced class_can c p z)
  ]

  pub first_of_class : (before : ℕ → ℕ → Bool) (c d : ℕ) (s : Sign) → c < n → IsFirstOfClass n es before c d s → IsFirst n m before c d s
  first_of_class before c d s below h = record {
    below = h.below;
    reached = class_reaches es back table c d below h.below h.same_class;
    first = λ e u path. h.first e (reached_below back path below) (sym (reached_first es back table.fixed path below));
    same = λ t kept. class_same es t back table kept c d below h.below h.same_class ∙ ap (λ u. signed u (t d)) (sym h.sign);
  }

pub tables_tell : TablesTell
tables_tell n m es back table = record {
  zero = λ c h. (λ v. record { zero = λ t kept. zero_of_vanishing es t back table kept c h v }, class_zero n m es back table c h);
  first = first_of_class n m es back table;
}

-- ---- tables of first components
module _ (n : ℕ) (m : Moves) (before : ℕ → ℕ → Bool) (es : List Entry) (back : IsReversible n m) (table : IsFirstTable n m before es) where
  pub first_can : CanSpread n m (vanishes_at es) (sign_at es) (first_at es)
  first_can = record { follows = table.follows; joins = table.joins; clean = table.clean }

  pub path_first : {c d : ℕ} {u : Sign} → Reaches m c d u → c < n → first_at es d ≡ first_at es c
  path_first stay below = refl
  path_first {c} {d} (move k is path e) below = path_first path (back.stays k c is below) ∙ table.joins k c is below

  pub path_sign : {c d : ℕ} {u : Sign} → Reaches m c d u → c < n → vanishes_at es c ≡ false → sign_at es c ≡ times u (sign_at es d)
  path_sign stay below v = refl
  path_sign {c} {d} {u} (move {s = s} k is path e) below v =
      table.clean k c is below v
      ∙ ap (times (m.sign k c)) (path_sign path (back.stays k c is below) (table.follows k c is below ∙ v))
      ∙ sym (times-times (m.sign k c) s (sign_at es d)) ∙ ap (λ w. times w (sign_at es d)) (sym e)

  pub path_vanishes : {c d : ℕ} {u : Sign} → Reaches m c d u → c < n → vanishes_at es d ≡ vanishes_at es c
  path_vanishes stay below = refl
  path_vanishes {c} {d} (move k is path e) below = path_vanishes path (back.stays k c is below) ∙ table.follows k c is below

  -- a kept list at a component and at the first one of its class
  pub first_same : (t : ℕ → Number) → IsKept n m t → (c : ℕ) → c < n → vanishes_at es c ≡ false → t c ≡ signed (sign_at es c) (t (first_at es c))
  first_same t kept c below v =
      let path = table.reached c below in
      let sign : sign_at es c ≡ path.0 = path_sign path.1 below v ∙ ap (times path.0) (table.own_sign c below) ∙ times_plus path.0 in
      reached_same t back kept path.1 below ∙ ap (λ s. signed s (t (first_at es c))) (sym sign)

  pub firsts_settled : AreSettled n es
  firsts_settled = record {
    len = table.len;
    below = table.below;
    own = table.own_first;
    together = λ c below. path_vanishes (table.reached c below).1 below;
  }

  first_zero : (c : ℕ) → c < n → IsForced n m c → vanishes_at es c ≡ true
  first_zero c h z = elim (cases_Bool (vanishes_at es c)) as (λ _. vanishes_at es c ≡ true) [
    | inl p ↦ p
    | inr p ↦ absurd (not_forced first_can c p z)
  ]

  is_first : (c : ℕ) → c < n → vanishes_at es c ≡ false → IsFirst n m before c (first_at es c) (sign_at es c)
  is_first c h v = record {
    below = table.below c h;
    reached = table.reached c h;
    first = λ e u path. table.least c e h (reached_below back path h) (path_first path h);
    same = λ t kept. first_same t kept c h v;
  }

pub firsts_tell : FirstsTell
firsts_tell n m before es back table = record {
  zero = λ c h. (λ v. record { zero = table.forced c h v }, first_zero n m before es back table c h);
  settled = firsts_settled n m before es back table;
  first = is_first n m before es back table;
}
