-- The first component of a class, found among those below an end.
use Rattle.std.proofs.Common.{◌≡◌, ℕ, ◌+◌, ◌^◌, ◌<◌, ◌≤◌, Bool, true, false, List, refl, ap, sym, ◌∙◌, arith, subst, inl, inr}
use Rattle.std.specs.Prelude.{nat_lt}
use Rattle.std.proofs.lemmas.Bool.{cases_lt, le-ltb, cases_Bool}
use Rattle.sign_moves.specs.Prelude.{first_at, IsStrict}
use Rattle.sign_moves.specs.declared.classes.Entry.{Entry}
use Rattle.tensor_rank.specs.Prelude.{Ordering, before_at, is_by_index, IsFirstBelow}
use Rattle.tensor_rank.proofs.OrderLaws.{index_order_at, by_index}

module _ {n : ℕ} {es : List Entry} {before : ℕ → ℕ → Bool} where
  pub first_start : (root : ℕ) → root < n → first_at es root ≡ root → IsFirstBelow n es before root root 0
  first_start root below own = record { below = below; same_class = own; first = λ e h s. absurd (omega arith) }

  pub first_own : {root best end : ℕ} → IsFirstBelow n es before root best end → IsFirstBelow n es before (first_at es best) best end
  first_own h = record { below = h.below; same_class = refl; first = λ e l s. h.first e l (s ∙ h.same_class) }

  pub first_root : {x root best end : ℕ} → IsFirstBelow n es before x best end → x ≡ root → IsFirstBelow n es before root best end
  first_root {x} {root} {best} {end} h e = subst (λ (y : ℕ). IsFirstBelow n es before y best end) e h

  pub first_end : {root best end : ℕ} → IsFirstBelow n es before root best end → end ≡ n → IsFirstBelow n es before root best n
  first_end {root} {best} {end} h e = subst (λ (y : ℕ). IsFirstBelow n es before root best y) e h

  pub first_taken : {root best end : ℕ} → IsStrict before → IsFirstBelow n es before root best end → end < n →
      first_at es end ≡ root → before end best ≡ true → (d : ℕ) → d ≡ end → IsFirstBelow n es before root d (end + 1)
  first_taken {root} {best} {end} strict h below own better d is = subst (λ (y : ℕ). IsFirstBelow n es before root y (end + 1)) (sym is) (record {
    below = below;
    same_class = own;
    first = λ e l s. elim (cases_lt e end) as (λ _. before e end ≡ false) [
      | inl q ↦ not_before e (h.first e q s)
      | inr q ↦
          let same : e ≡ end = omega arith in
          ap (λ x. before x end) same ∙ strict.irreflexive end
    ];
  })
    where
      not_before : (e : ℕ) → before e best ≡ false → before e end ≡ false
      not_before e old = elim (cases_Bool (before e end)) as (λ _. before e end ≡ false) [
        | inl p ↦ let clash : before e best ≡ true = strict.transitive e end best p better in absurd (cc)
        | inr p ↦ p
      ]

-- in index order the lowest component of a class is its first one
pub first_lowest : (n r : ℕ) (es : List Entry) (o : Ordering) (root : ℕ) → n ≡ 3 ^ r → is_by_index o ≡ true → root < n →
    first_at es root ≡ root → ((e : ℕ) → e < n → first_at es e ≤ e) → IsFirstBelow n es (before_at r o) root root n
first_lowest n r es o root size is below own lower = record {
  below = below;
  same_class = own;
  first = λ e l s.
      let low : first_at es e ≤ e = lower e l in
      let not_less : nat_lt e root ≡ false = le-ltb e root (omega (arith, low, s)) in
      ap (λ x. before_at r x e root) (by_index o is)
      ∙ index_order_at r e root (subst (λ (x : ℕ). e < x) size l) (subst (λ (x : ℕ). root < x) size below) ∙ not_less;
}
