-- The kind of a species by its leaders.
--   leader_here     the first of some states that isn't told apart from a state
--   kind_told       what the leaders tell of the kind
use Rattle.list_laws.proofs.Kit.{◌≡◌, ◌≢◌, ℕ, ◌+◌, ◌-◌, ◌<◌, ◌≤◌, true, false, List, length, get_or, ap, sym, ◌∙◌, inl, inr, subst, arith, cases_order}
use Rattle.list_laws.proofs.Kit.{slice_get-get_or, slice_get_within}
use Rattle.tensor_defs.specs.Prelude.{JahnSymbol, Operation, identity, IsState}
use Rattle.species.specs.declared.kinds.Kind.{Kind}
use Rattle.species.specs.declared.kinds.Kind.TheVariants.{Full, Partial, Non}
use Rattle.species.specs.Species.{AllApart, AreLeaders, AreToldApart, IsKind, IsLeader, IsNumber, NoneApart}
use Rattle.species.specs.Told.{TellsKind, TellsOnes, TellsOwn}
use Rattle.species.proofs.ToldApart.{apart_back, joined}

module _ (j : JahnSymbol) (F : Operation → Type 0) (reps : List Operation) (one : F identity) (ls : List ℕ)
    (are : AreLeaders j F reps ls) where
  leader_at : (k : ℕ) → IsNumber reps k → IsLeader j F reps k (get_or ls (k - 1) 0)
  leader_at k h =
      let low = h.0 in
      let high = h.1 in
      let len = are.len in
      let next : k - 1 + 1 ≡ k = omega (arith, low) in
      subst (λ n. IsLeader j F reps n (get_or ls (k - 1) 0)) next
      (are.each (k - 1) (get_or ls (k - 1) 0) (slice_get-get_or ls (k - 1) 0 (omega (arith, low, high, len))))

  number_of : (k l : ℕ) → AreToldApart j F reps k l → IsNumber reps k × IsNumber reps l
  number_of k l a = (number k a.in_k.0 a.in_k.1, number l a.in_l.0 a.in_l.1)
    where
      number : (n : ℕ) (r : Operation) → IsState reps n r → IsNumber reps n
      number n r (low, is) = let below = slice_get_within reps (n - 1) r is in (low, omega (arith, low, below))

  none_apart : TellsOnes ls true → NoneApart j F reps
  none_apart ones k l a =
      let n = number_of k l a in
      let low = n.0.0 in
      let high = n.0.1 in
      let first : IsNumber reps 1 = (omega arith, omega (arith, low, high)) in
      joined j F reps one k 1 l first (not_first k n.0) (λ b. not_first l n.1 (apart_back j F reps 1 l b)) a
    where
      not_first : (n : ℕ) → IsNumber reps n → ¬ AreToldApart j F reps n 1
      not_first n h =
          let low = h.0 in
          let high = h.1 in
          let len = are.len in
          subst (λ m. ¬ AreToldApart j F reps n m) (ones (n - 1) (omega (arith, low, high, len))) (leader_at n h).same

  all_apart : TellsOnes ls false → TellsOwn ls true → AllApart j F reps
  all_apart (p, less, other) own = (two, each)
    where
      two : 2 ≤ length reps
      two =
          let is : get_or ls p 0 ≡ p + 1 = own p less in
          let len = are.len in
          let later : p ≢ 0 = λ e. other (is ∙ ap (λ n. n + 1) e) in
          omega (arith, later, less, len)

      before : (k l : ℕ) → IsNumber reps k → IsNumber reps l → l < k → AreToldApart j F reps k l
      before k l h i less =
          let low = h.0 in
          let high = h.1 in
          let len = are.len in
          let is : get_or ls (k - 1) 0 ≡ k - 1 + 1 = own (k - 1) (omega (arith, low, high, len)) in
          (leader_at k h).least l i.0 (omega (arith, low, is, less))

      each : (k l : ℕ) → IsNumber reps k → IsNumber reps l → k ≢ l → AreToldApart j F reps k l
      each k l h i n = elim (cases_order k l) as (λ _. AreToldApart j F reps k l) [
        | inl e ↦ absurd (n e)
        | inr (inl less) ↦ apart_back j F reps l k (before l k i h less)
        | inr (inr more) ↦ before k l h i more
      ]

  not_all : TellsOwn ls false → ¬ AllApart j F reps
  not_all (p, less, other) all =
      let len = are.len in
      let leader = are.each p (get_or ls p 0) (slice_get-get_or ls p 0 less) in
      leader.same (all.1 (p + 1) (get_or ls p 0) (omega arith, omega (arith, less, len)) leader.number (λ e. other (sym e)))

  not_none : TellsOnes ls false → ¬ NoneApart j F reps
  not_none (p, less, other) none =
      let leader = are.each p (get_or ls p 0) (slice_get-get_or ls p 0 less) in
      let low = leader.number.0 in
      none (p + 1) 1 (leader.least 1 (omega arith) (omega (arith, low, other)))

  pub kind_told : (kind : Kind) → TellsKind ls kind → IsKind j F reps kind
  kind_told Full told = all_apart told.0 told.1
  kind_told Partial told = (not_all told.1, not_none told.0)
  kind_told Non told = none_apart told
