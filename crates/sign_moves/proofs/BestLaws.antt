-- How a table of first components is made from a table of classes.
--   best_taken    c is taken
use Rattle.list_laws.proofs.Kit.{◌≡◌, ◌≢◌, ℕ, ◌+◌, ◌<◌, Bool, true, false, List, length, arith, ap, sym, ◌∙◌, subst, inl, inr, length-set}
use Rattle.list_laws.proofs.Kit.{get_or-set_other, get_or-set_at, eqb_tells, cases_lt, cases_Bool}
use Rattle.std.proofs.Common.{set}
use Rattle.std.specs.Prelude.{slice_set}
use Rattle.sign_moves.specs.declared.classes.Entry.{Entry}
use Rattle.sign_moves.specs.Prelude.{times, times-times, times_self, Moves, IsReversible, first_at, sign_at, vanishes_at, IsClassTable, best_at, IsBestUpTo}
use Rattle.sign_moves.specs.Prelude.{AreLinks, IsStrict, IsFirstTable}
use Rattle.sign_moves.proofs.ClassLaws.{same_first, reached_first, zero_of_vanishing, class_reaches}

set_told : (P : ℕ → Type 0) (best : List ℕ) (i x r : ℕ) → i < length best → (r ≡ i → P x) → (r ≢ i → P (best_at best r)) → P (best_at (set best i x) r)
set_told P best i x r inside here there = elim (eqb_tells r i) as (λ _. P (best_at (set best i x) r)) [
  | inl p ↦ subst P (sym (get_or-set_at best i r x 0 p.1 inside)) (here p.1)
  | inr p ↦ subst P (sym (get_or-set_other best i r x 0 p.1)) (there p.1)
]

-- c is taken
pub best_taken : {n : ℕ} {before : ℕ → ℕ → Bool} {classes : List Entry} {best : List ℕ} {c : ℕ} → IsStrict before →
    IsBestUpTo n before classes best c → c < n → before c (best_at best (first_at classes c)) ≡ true →
    (i x : ℕ) → i ≡ first_at classes c → i < n → x ≡ c → IsBestUpTo n before classes (slice_set best i x) (c + 1)
best_taken {n} {before} {classes} {best} {c} strict h below better i x root inside is =
    let within : i < length best = rw h.len inside in
    record {
      len = length-set best i x ∙ h.len;
      below = λ r l. set_told (λ y. y < n) best i x r within (λ e. rw is below) (λ e. h.below r l);
      same =
          λ r l s. set_told (λ y. first_at classes y ≡ r) best i x r within
          (λ e. ap (first_at classes) is ∙ sym root ∙ sym e) (λ e. h.same r l s);
      least =
          λ r e l s m k t. set_told (λ y. before e y ≡ false) best i x r within
          (λ p. elim (cases_lt e c) as (λ _. before e x ≡ false) [
            | inl q ↦
                let old : before e (best_at best r) ≡ false = h.least r e l s m q t in
                let here : best_at best (first_at classes c) ≡ best_at best r = ap (best_at best) (sym root ∙ sym p) in
                ap (before e) is ∙ not_before e (best_at best r) old (ap (before c) (sym here) ∙ better)
            | inr q ↦
                let same : e ≡ c = omega arith in
                (λ i. before (same i) (is i)) ∙ strict.irreflexive c
          ])
          (λ p. elim (cases_lt e c) as (λ _. before e (best_at best r) ≡ false) [
            | inl q ↦ h.least r e l s m q t
            | inr q ↦
                let same : e ≡ c = omega arith in
                absurd (p (sym t ∙ ap (first_at classes) same ∙ sym root))
          ]);
    }
  where
    not_before : (e b : ℕ) → before e b ≡ false → before c b ≡ true → before e c ≡ false
    not_before e b old new = elim (cases_Bool (before e c)) as (λ _. before e c ≡ false) [
      | inl p ↦ let clash : before e b ≡ true = strict.transitive e c b p new in absurd (cc)
      | inr p ↦ p
    ]

module _ (n : ℕ) (m : Moves) (before : ℕ → ℕ → Bool) (classes links : List Entry) (back : IsReversible n m) (table : IsClassTable n m classes) (l : AreLinks n before classes links) where
  root : ℕ → ℕ
  root c = first_at classes c

  root_root : (c : ℕ) → c < n → first_at classes (first_at classes c) ≡ first_at classes c
  root_root c h = sym (reached_first classes back table.fixed (table.sound.reached c h) h)

  chosen_below : (c : ℕ) → c < n → best_at l.best (first_at classes c) < n
  chosen_below c h = l.is_best.below (first_at classes c) (table.sound.below c h)

  chosen_same : (c : ℕ) → c < n → first_at classes (best_at l.best (first_at classes c)) ≡ first_at classes c
  chosen_same c h = l.is_best.same (first_at classes c) (table.sound.below c h) (root_root c h)

  first_is : (c : ℕ) → c < n → first_at links c ≡ best_at l.best (first_at classes c)
  first_is c h = ap (λ e. e.first) (l.each c h)

  sign_is : (c : ℕ) → c < n → sign_at links c ≡ times (sign_at classes c) (sign_at classes (best_at l.best (first_at classes c)))
  sign_is c h = ap (λ e. e.sign) (l.each c h)

  vanishes_is : (c : ℕ) → c < n → vanishes_at links c ≡ vanishes_at classes (first_at classes c)
  vanishes_is c h = ap (λ e. e.vanishes) (l.each c h)

  first_below : (c : ℕ) → c < n → first_at links c < n
  first_below c h = subst (λ x. x < n) (sym (first_is c h)) (chosen_below c h)

  first_first : (c : ℕ) → c < n → first_at links (first_at links c) ≡ first_at links c
  first_first c h =
      first_is (first_at links c) (first_below c h)
      ∙ ap (best_at l.best) (ap (first_at classes) (first_is c h) ∙ chosen_same c h)
      ∙ sym (first_is c h)

  pub first_table : IsFirstTable n m before links
  first_table = record {
    len = l.len;
    below = first_below;
    forced = λ c h v t kept. zero_of_vanishing classes t back table kept c h (sym (vanishes_is c h) ∙ v);
    follows = λ k c is h.
        vanishes_is (m.carried k c) (back.stays k c is h) ∙ ap (vanishes_at classes) (sym (same_first classes back table.fixed k c is h)) ∙ sym (vanishes_is c h);
    joins = λ k c is h.
        first_is (m.carried k c) (back.stays k c is h) ∙ ap (best_at l.best) (sym (same_first classes back table.fixed k c is h)) ∙ sym (first_is c h);
    clean = λ k c is h v.
        let there = back.stays k c is h in
        sign_is c h
        ∙ ap (λ s. times s (sign_at classes (best_at l.best (first_at classes c)))) (table.clean k c is h (sym (vanishes_is c h) ∙ v))
        ∙ times-times (m.sign k c) (sign_at classes (m.carried k c)) (sign_at classes (best_at l.best (first_at classes c)))
        ∙ ap (λ x. times (m.sign k c) (times (sign_at classes (m.carried k c)) (sign_at classes (best_at l.best x)))) (same_first classes back table.fixed k c is h)
        ∙ ap (times (m.sign k c)) (sym (sign_is (m.carried k c) there));
    reached = λ c h. class_reaches classes back table c (first_at links c) h (first_below c h) (ap (first_at classes) (first_is c h) ∙ chosen_same c h);
    least = λ c e h i s.
        let roots : first_at classes e ≡ first_at classes c = sym (chosen_same e i) ∙ ap (first_at classes) (sym (first_is e i) ∙ s ∙ first_is c h) ∙ chosen_same c h in
        ap (before e) (first_is c h) ∙ l.is_best.least (first_at classes c) e (table.sound.below c h) (root_root c h) i i roots;
    own_first = first_first;
    own_sign = λ c h.
        sign_is (first_at links c) (first_below c h)
        ∙ ap (λ x. times (sign_at classes (first_at links c)) (sign_at classes x)) (sym (first_is (first_at links c) (first_below c h)) ∙ first_first c h)
        ∙ times_self (sign_at classes (first_at links c));
  }
