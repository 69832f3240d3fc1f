-- The different members of a list, in their order.
--   IsCounting      those that are at most a number
--   counting_none, counting_more, counting_done
use Rattle.list_laws.proofs.Kit.{◌≡◌, ℕ, ◌+◌, ◌≤◌, true, List, [], ◌∷◌, ◌++◌, length, refl, ap, sym, ◌∙◌, inl, inr, subst, arith, cases_lt, nat_tests}
use Rattle.list_laws.proofs.Kit.{length_push, Contains-append_left, Contains-push, Contains-push_cases}
use Rattle.std.specs.Prelude.{Contains, IsTrue, ◌↔◌, nat_lt}
use Rattle.list_laws.proofs.Prelude.{none_held, each_from, each_held, rising_push}
use Rattle.tensor_defs.specs.Lists.{IsRising}
use Rattle.species.specs.Told.{AreWithin, HasDifferent}

pub record IsCounting (ls : List ℕ) (n count : ℕ) : Type 0 where
  pub members : List ℕ
  pub rising : IsRising nat_lt members
  pub are : (m : ℕ) → Contains members m ↔ (Contains ls m × (1 ≤ m) × (m ≤ n))
  pub count_is : count ≡ length members
  pub few : count ≤ n

pub counting_none : (ls : List ℕ) → IsCounting ls 0 0
counting_none ls = record {
  members = [];
  rising = tt;
  are = λ m. (λ c. absurd (none_held m c), λ h. let low = h.1 in let high = h.2 in absurd (omega (arith, low, high)));
  count_is = refl;
  few = omega arith;
}

module _ (ls : List ℕ) (n count : ℕ) (is : IsCounting ls n count) where
  pub counting_on : ¬ Contains ls (n + 1) → IsCounting ls (n + 1) count
  counting_on none = record {
    members = is.members;
    rising = is.rising;
    are = λ m. (
      λ c. let h = (is.are m).0 c in let high = h.2 in (h.0, h.1, omega (arith, high)),
      λ h. elim (cases_lt n m) as (λ _. Contains is.members m) [
        | inl more ↦
            (let high = h.2 in
            let e : m ≡ n + 1 = omega (arith, more, high) in
            absurd (none (subst (λ x. Contains ls x) e h.0)))
        | inr less ↦ (is.are m).1 (h.0, h.1, less)
      ],
    );
    count_is = is.count_is;
    few = let few = is.few in omega (arith, few);
  }

  pub counting_one : Contains ls (n + 1) → IsCounting ls (n + 1) (count + 1)
  counting_one c = record {
    members = is.members ++ (n + 1) ∷ [];
    rising = rising_push nat_lt is.members (n + 1) is.rising
        (each_from (λ m. IsTrue (nat_lt m (n + 1))) is.members (λ m d. before m ((is.are m).0 d).2));
    are = λ m. (λ d. forth m d, λ h. back m h);
    count_is = ap (λ k. k + 1) is.count_is ∙ sym (length_push is.members (n + 1));
    few = let few = is.few in omega (arith, few);
  }
    where
      before : (m : ℕ) → m ≤ n → nat_lt m (n + 1) ≡ true
      before m h = grind (arith, nat_tests)

      forth : (m : ℕ) → Contains (is.members ++ (n + 1) ∷ []) m → Contains ls m × (1 ≤ m) × (m ≤ n + 1)
      forth m d = elim (Contains-push_cases is.members (n + 1) m d) as (λ _. Contains ls m × (1 ≤ m) × (m ≤ n + 1)) [
        | inl old ↦ (let h = (is.are m).0 old in let high = h.2 in (h.0, h.1, omega (arith, high)))
        | inr e ↦ (subst (λ x. Contains ls x) e c, omega (arith, e), omega (arith, e))
      ]

      back : (m : ℕ) → Contains ls m × (1 ≤ m) × (m ≤ n + 1) → Contains (is.members ++ (n + 1) ∷ []) m
      back m h = elim (cases_lt n m) as (λ _. Contains (is.members ++ (n + 1) ∷ []) m) [
        | inl more ↦
            (let high = h.2 in
            let e : n + 1 ≡ m = omega (arith, more, high) in
            subst (λ x. Contains (is.members ++ (n + 1) ∷ []) x) e (Contains-push is.members (n + 1)))
        | inr less ↦ Contains-append_left is.members ((n + 1) ∷ []) m ((is.are m).1 (h.0, h.1, less))
      ]

pub counting_done : (ls : List ℕ) (n count : ℕ) → IsCounting ls n count → AreWithin ls → length ls ≤ n → HasDifferent ls count
counting_done ls n count is within all = (
  is.members,
  record {
    rising = is.rising;
    members = λ m. (
      λ c. ((is.are m).0 c).0,
      λ c.
          let h = each_held (λ l. (1 ≤ l) × (l ≤ length ls)) ls within m c in
          let high = h.1 in
          (is.are m).1 (c, h.0, omega (arith, high, all)),
    );
  },
  is.count_is,
)
