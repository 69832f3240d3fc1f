-- The states of a class in their order.
--   state_within, state_below    states
--   IsListed    the members up to n
use Rattle.list_laws.proofs.Kit.{◌≡◌, ℕ, zero, suc, ◌+◌, ◌-◌, ◌⊎◌, inl, inr, ◌<◌, ◌≤◌, min, Bool, true, false, List, [], ◌∷◌, ◌++◌, length, refl, ap, sym}
use Rattle.list_laws.proofs.Kit.{◌∙◌, arith, subst, nat_tests, slice_get_within, Contains-append_left, Contains-push, Contains-push_cases, cases_lt}
use Rattle.list_laws.proofs.Kit.{false≢true}
use Rattle.std.specs.Prelude.{Contains, ◌↔◌, IsTrue, Some, nat_lt}
use Rattle.list_laws.proofs.Prelude.{rising_push, each_push, each_held, each_map, each_found}
use Rattle.tensor_defs.specs.Prelude.{Each, IsRising, Operation, InDouble, IsState, AreStates}
use Rattle.magnetic_groups.specs.Prelude.{mark_at, In, IsGroup, IsWithin}
use Rattle.magnetic_groups.proofs.Cosets.{coset_self}
use Rattle.coset_states.specs.Numbering.{Cosets, TellsState}
use Rattle.tensor_laws.proofs.States.{one_state}
use Rattle.twin_pairs.specs.Classes.{HasNoEarlier, AreMarked, AreMembers, IsLast}
use Rattle.twin_pairs.proofs.DoubleCosets.{double_self}

-- ---- states

pub state_within : (gs fs reps : List Operation) → AreStates (In gs) (In fs) reps → (k : ℕ) (s : Operation) → IsState reps k s → Contains gs s
state_within gs fs reps a k s is = each_found (In gs) reps a.within (k - 1) s is.1

pub state_below : (reps : List Operation) (k : ℕ) (s : Operation) → IsState reps k s → k ≤ length reps
state_below reps k s is = let h = slice_get_within reps (k - 1) s is.1 in let o = is.0 in omega (arith, h, o)

-- ---- the test at a state's own representative
module _ (c : Cosets) (g : Operation) (ig : IsGroup c.whole) (jf : IsGroup c.sub) (w : IsWithin c.sub c.whole) (a : AreStates (In c.whole) (In c.sub) c.reps) where
  abbrev Tells : ℕ → Bool → Type 0
  Tells k b = (x : Operation) → TellsState c x (Some k) → IsTrue b ↔ InDouble (In c.sub) g x

  at_state : (k : ℕ) (b : Bool) → Tells k b → (s : Operation) → IsState c.reps k s → IsTrue b ↔ InDouble (In c.sub) g s
  at_state k b t s is = t s (s, is, coset_self c.whole c.sub s ig jf (state_within c.whole c.sub c.reps a k s is))

  -- ---- the members up to n
  pub record IsListed (k n : ℕ) (ms : List ℕ) : Type 0 where
    pub others : List ℕ
    pub begins : ms ≡ k ∷ others
    pub rising : IsRising nat_lt ms
    pub within : Each (λ l. (1 ≤ l) × (l ≤ length c.reps)) ms
    pub below : Each (λ l. l ≤ n) ms
    pub members : (l : ℕ) (s : Operation) → l ≤ n → IsState c.reps l s → Contains ms l ↔ InDouble (In c.sub) g s

  only : (k l : ℕ) → Contains (k ∷ []) l → k ≡ l
  only k l (zero, h, e) = e
  only k l (suc q, h, e) = absurd (omega arith)

  pub listed_one : (k : ℕ) (ms : List ℕ) → ms ≡ k ∷ [] → IsState c.reps k g → Contains c.whole g → HasNoEarlier c g k → IsListed k k ms
  listed_one k ms e is cg first = subst (IsListed k k) (sym e) (record {
    others = [];
    begins = refl;
    rising = (tt, tt);
    within = ((is.0, state_below c.reps k g is), tt);
    below = (omega arith, tt);
    members = λ l s h at. by l s at h (cases_lt l k);
  })
    where
      by : (l : ℕ) (s : Operation) → IsState c.reps l s → l ≤ k → (l < k) ⊎ (k ≤ l) → Contains (k ∷ []) l ↔ InDouble (In c.sub) g s
      by l s at h (inl b) = (λ x. let o : k ≡ l = only k l x in absurd (omega arith), λ d. absurd (first l s at b d))
      by l s at h (inr b) =
          let q : l ≡ k = omega arith in
          let same : g ≡ s = one_state c.reps k g s is (subst (λ m. IsState c.reps m s) q at) in
          (λ x. subst (InDouble (In c.sub) g) same (double_self c.whole c.sub ig jf w g cg), λ d. (0, omega arith, sym q))

  pub listed_push : (k n : ℕ) (ms ms' : List ℕ) (b : Bool) → IsListed k n ms → n < length c.reps → ms' ≡ ms ++ (n + 1) ∷ [] → Tells (n + 1) b → b ≡ true → IsListed k (n + 1) ms'
  listed_push k n ms ms' b i h e t f = subst (IsListed k (n + 1)) (sym e) (record {
    others = i.others ++ (n + 1) ∷ [];
    begins = ap (λ xs. xs ++ (n + 1) ∷ []) i.begins;
    rising = rising_push nat_lt ms (n + 1) i.rising (each_map (λ l. l ≤ n) (λ l. IsTrue (nat_lt l (n + 1))) less ms i.below);
    within = each_push (λ l. (1 ≤ l) × (l ≤ length c.reps)) ms (n + 1) i.within (omega arith, omega arith);
    below = each_push (λ l. l ≤ n + 1) ms (n + 1) (each_map (λ l. l ≤ n) (λ l. l ≤ n + 1) (λ l p. omega arith) ms i.below) (omega arith);
    members = λ l s p at. by l s at p (cases_lt l (n + 1));
  })
    where
      less : (l : ℕ) → l ≤ n → nat_lt l (n + 1) ≡ true
      less l p = let q : l < n + 1 = omega arith in grind (arith, nat_tests)

      old : (l : ℕ) (s : Operation) → IsState c.reps l s → l ≤ n → Contains ms l ⊎ ((n + 1) ≡ l) → InDouble (In c.sub) g s
      old l s at p (inl x) = (i.members l s p at).0 x
      old l s at p (inr x) = absurd (omega arith)

      by : (l : ℕ) (s : Operation) → IsState c.reps l s → l ≤ n + 1 → (l < n + 1) ⊎ (n + 1 ≤ l) → Contains (ms ++ (n + 1) ∷ []) l ↔ InDouble (In c.sub) g s
      by l s at p (inl q) =
          let r : l ≤ n = omega arith in
          (λ x. old l s at r (Contains-push_cases ms (n + 1) l x), λ d. Contains-append_left ms ((n + 1) ∷ []) l ((i.members l s r at).1 d))
      by l s at p (inr q) =
          let r : l ≡ n + 1 = omega arith in
          (λ x. (at_state (n + 1) b t s (subst (λ m. IsState c.reps m s) r at)).0 f, λ d. subst (Contains (ms ++ (n + 1) ∷ [])) (sym r) (Contains-push ms (n + 1)))

  pub listed_skip : (k n : ℕ) (ms ms' : List ℕ) (b : Bool) → IsListed k n ms → ms' ≡ ms → Tells (n + 1) b → b ≡ false → IsListed k (n + 1) ms'
  listed_skip k n ms ms' b i e t f = subst (IsListed k (n + 1)) (sym e) (record {
    others = i.others;
    begins = i.begins;
    rising = i.rising;
    within = i.within;
    below = each_map (λ l. l ≤ n) (λ l. l ≤ n + 1) (λ l p. omega arith) ms i.below;
    members = λ l s p at. by l s at p (cases_lt l (n + 1));
  })
    where
      by : (l : ℕ) (s : Operation) → IsState c.reps l s → l ≤ n + 1 → (l < n + 1) ⊎ (n + 1 ≤ l) → Contains ms l ↔ InDouble (In c.sub) g s
      by l s at p (inl q) = i.members l s (omega arith) at
      by l s at p (inr q) =
          let r : l ≡ n + 1 = omega arith in (
            λ x. let o : l ≤ n = each_held (λ l. l ≤ n) ms i.below l x in absurd (omega arith),
            λ d. absurd (false≢true (sym f ∙ (at_state (n + 1) b t s (subst (λ m. IsState c.reps m s) r at)).1 d)),
          )

  -- past the last number that is marked there are no members
  pub listed_done : (k n last : ℕ) (ms : List ℕ) (m : List Bool) → IsListed k n ms → AreMarked c g m → IsLast m last → min last (length c.reps) ≤ n → AreMembers c g k ms
  listed_done k n last ms m i marked most h = record {
    others = i.others;
    begins = i.begins;
    rising = i.rising;
    within = i.within;
    members = λ l s at. by l s at (cases_lt n l);
  }
    where
      by : (l : ℕ) (s : Operation) → IsState c.reps l s → (n < l) ⊎ (l ≤ n) → Contains ms l ↔ InDouble (In c.sub) g s
      by l s at (inr p) = i.members l s p at
      by l s at (inl p) = (
        λ x. let o : l ≤ n = each_held (λ l. l ≤ n) ms i.below l x in absurd (omega arith),
        λ d.
            let o = most l ((at_state l (mark_at m l) (marked.tells l) s at).1 d) in
            let q = state_below c.reps l s at in
            absurd (omega (arith, o, q)),
      )
