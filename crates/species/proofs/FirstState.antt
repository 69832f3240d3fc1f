-- The first state is the subgroup.
--   first_is_one    its representative is the identity
use Rattle.list_laws.proofs.Kit.{◌≡◌, ◌≢◌, List, [], ◌∷◌, sym, ◌∙◌, inl, inr, subst, same_Some, none-some}
use Rattle.std.specs.Prelude.{Contains, IsTrue, Some, slice_get}
use Rattle.list_laws.proofs.Prelude.{found_held, held_cases, each_held}
use Rattle.tensor_defs.specs.Prelude.{IsRising, Operation, identity, comes_before, AreStates, IsState, Times}
use Rattle.answer_laws.proofs.DomainStates.{same_operation}
use Rattle.answer_laws.proofs.Listings.{before_irreflexive, before_transitive}
use Rattle.magnetic_groups.specs.Sets.{In, IsGroup}

-- nothing comes before the first of a rising list
first_of : (xs : List Operation) (x y : Operation) → IsRising comes_before xs → slice_get xs 0 ≡ Some x → Contains xs y →
    ¬ IsTrue (comes_before y x)
first_of [] x y rises first c = absurd (none-some x first)
first_of (z ∷ zs) x y rises first c = λ before.
    let e : z ≡ x = same_Some z x first in
    elim (held_cases y z zs c) as (λ _. ⊥) [
      | inl p ↦ before_irreflexive y (subst (λ u. IsTrue (comes_before y u)) (sym e ∙ p) before)
      | inr p ↦ before_irreflexive y (before_transitive y x y before
          (subst (λ u. IsTrue (comes_before u y)) e (each_held (λ b. IsTrue (comes_before z b)) zs rises.0 y p)))
    ]

module _ (gs fs reps : List Operation) (group : IsGroup gs) (a : AreStates (In gs) (In fs) reps) where
  not_before : (g : Operation) → Contains gs g → ¬ IsTrue (comes_before g identity)
  not_before g c = first_of gs identity g group.rising group.first c

  rep_within : (r : Operation) → Contains reps r → Contains gs r
  rep_within r c = each_held (In gs) reps a.within r c

  -- the identity is a representative
  one_listed : Contains reps identity
  one_listed =
      let s = a.whole identity group.one in
      elim (same_operation identity s.0) as (λ _. Contains reps identity) [
        | inl e ↦ subst (λ x. Contains reps x) (sym e) s.1
        | inr n ↦ absurd (not_before s.0 (rep_within s.0 s.1)
            (each_held (λ r. (k : Operation) → Times r (In fs) k → k ≢ r → IsTrue (comes_before r k)) reps a.least s.0 s.1
            identity s.2 n))
      ]

  pub first_is_one : (r : Operation) → IsState reps 1 r → r ≡ identity
  first_is_one r is =
      let first : slice_get reps 0 ≡ Some r = is.1 in
      by reps a.rising first one_listed (not_before r (rep_within r (found_held r reps 0 first)))
    where
      by : (xs : List Operation) → IsRising comes_before xs → slice_get xs 0 ≡ Some r → Contains xs identity →
          ¬ IsTrue (comes_before r identity) → r ≡ identity
      by [] rises is c none = absurd (none-some r is)
      by (x ∷ xs) rises is c none =
          let e : x ≡ r = same_Some x r is in
          elim (held_cases identity x xs c) as (λ _. r ≡ identity) [
            | inl p ↦ sym e ∙ p
            | inr p ↦ absurd (none (subst (λ u. IsTrue (comes_before u identity)) e
                (each_held (λ b. IsTrue (comes_before x b)) xs rises.0 identity p)))
          ]
