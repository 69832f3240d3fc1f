-- What is read off the numbers of states.
use Rattle.list_laws.proofs.Kit.{◌≡◌, ◌≢◌, ℕ, ◌+◌, ◌-◌, ◌<◌, ◌≤◌, Bool, true, List, length, refl, ap, sym, ◌∙◌, arith, subst, nat_tests, slice_get-get_or}
use Rattle.list_laws.proofs.Kit.{same_Some, slice_get_within}
use Rattle.std.specs.Prelude.{slice_index_or, slice_get, Contains, ◌↔◌, IsTrue, Some, None, nat_eq}
use Rattle.tensor_defs.specs.Prelude.{Operation, Times, IsState, AreStates}
use Rattle.op_matrix.specs.Table.{nth_operation, place}
use Rattle.magnetic_groups.specs.Sets.{In, IsWithin}
use Rattle.coset_states.specs.Numbering.{Cosets, state_at, InCoset, IsKept}
use Rattle.coset_states.proofs.Listing.{kept_states}

-- the representative at a place read with a default is that of the state
state_rep : (reps : List Operation) (k : ℕ) (r d : Operation) → IsState reps k r → k ≤ length reps → slice_index_or reps (k - 1) d ≡ r
state_rep reps k r d is h = let l = is.0 in same_Some _ _ (sym (slice_get-get_or reps (k - 1) d (omega arith)) ∙ is.1)

-- an operation numbered k is in state k, and the other way round
pub numbered : (gs fs reps : List Operation) (s : List ℕ) (k p : ℕ) (g r : Operation) → IsKept gs fs reps s → 1 ≤ k → k ≤ length reps → p ≡ place g → g ≡ nth_operation p → IsState reps k r → (state_at s p ≡ k) ↔ Times r (In fs) g
numbered gs fs reps s k p g r i lo hi e at is = (forth, back)
  where
    forth : state_at s p ≡ k → Times r (In fs) g
    forth t =
        let full : state_at s p ≢ 0 = λ z. absurd (omega arith) in
        let u = i.covering.sound p r full in
        let h = u.1 in
        let same : u.0 ≡ k - 1 = omega (arith, h, t) in
        subst (InCoset fs r) (sym at) (subst (λ x. InCoset fs x (nth_operation p)) (ap (λ m. slice_index_or reps m r) same ∙ state_rep reps k r r is hi) u.3)

    back : Times r (In fs) g → state_at s p ≡ k
    back t =
        let below : k - 1 < length reps = omega arith in
        let u = i.covering.complete (k - 1) r g below (subst (λ x. InCoset fs x g) (sym (state_rep reps k r r is hi)) t) in
        let v : state_at s p ≡ (k - 1) + 1 = ap (λ q. state_at s q) e ∙ u in
        omega (arith, v)

pub has_told : (gs fs reps : List Operation) (s : List ℕ) (k p n : ℕ) (b : Bool) (g r : Operation) → IsKept gs fs reps s → 1 ≤ k → k ≤ length reps → p ≡ place g → g ≡ nth_operation p → n ≡ state_at s p → b ≡ nat_eq n k → IsState reps k r → IsTrue b ↔ Times r (In fs) g
has_told gs fs reps s k p n b g r i lo hi e at en eb is = (λ t. (numbered gs fs reps s k p g r i lo hi e at is).0 (told b t eb), λ t. (tell b ((numbered gs fs reps s k p g r i lo hi e at is).1 t) eb))
  where
    told : (b : Bool) → IsTrue b → b ≡ nat_eq n k → state_at s p ≡ k
    told b t q = let u : nat_eq n k ≡ true = sym q ∙ t in let m : n ≡ k = grind (arith, nat_tests) in sym en ∙ m

    tell : (b : Bool) → state_at s p ≡ k → b ≡ nat_eq n k → IsTrue b
    tell b t q = let m : n ≡ k = en ∙ t in let u : nat_eq n k ≡ true = grind (arith, nat_tests) in q ∙ u

-- an operation with the number 0 is outside
pub none_told : (gs fs reps : List Operation) (s : List ℕ) (p : ℕ) (g : Operation) → IsKept gs fs reps s → p ≡ place g → state_at s p ≡ 0 → ¬ Contains gs g
none_told gs fs reps s p g i e z c =
    let h = c.1 in
    i.covering.covered c.0 g h (ap (λ x. state_at s (place x)) c.2 ∙ ap (λ q. state_at s q) (sym e) ∙ z)

pub some_told : (gs fs reps : List Operation) (s : List ℕ) (p k : ℕ) (g : Operation) → IsKept gs fs reps s → p ≡ place g → g ≡ nth_operation p → state_at s p ≡ k → k ≢ 0 → (r : Operation) × IsState reps k r × Times r (In fs) g
some_told gs fs reps s p k g i e at n z =
    let u = i.covering.sound p g (λ x. z (sym n ∙ x)) in
    let h = u.1 in
    let below = u.2 in
    let one : 1 ≤ k = omega (arith, h, n) in
    let same : k - 1 ≡ u.0 = omega (arith, h, n) in (
      slice_index_or reps u.0 g,
      (one, subst (λ m. slice_get reps m ≡ Some (slice_index_or reps u.0 g)) (sym same) (slice_get-get_or reps u.0 g below)),
      subst (InCoset fs (slice_index_or reps u.0 g)) (sym at) u.3,
    )

-- ---- of a list of states as it is seen
abbrev seen : List Operation → List Operation → List Operation → Cosets
seen gs fs reps = record { whole = gs; sub = fs; reps = reps }

pub seen_states : (gs fs reps : List Operation) (s : List ℕ) (v : Cosets) → IsKept gs fs reps s → seen gs fs reps ≡ v → AreStates (In v.whole) (In v.sub) v.reps
seen_states gs fs reps s v i e = subst (λ w. AreStates (In w.whole) (In w.sub) w.reps) e (kept_states gs fs reps s i)

pub seen_within : (gs fs reps : List Operation) (s : List ℕ) (v : Cosets) → IsKept gs fs reps s → seen gs fs reps ≡ v → IsWithin v.sub v.whole
seen_within gs fs reps s v i e = subst (λ w. IsWithin w.sub w.whole) e i.within

pub seen_has : (gs fs reps : List Operation) (s : List ℕ) (v : Cosets) (k p : ℕ) (b : Bool) (g : Operation) → IsKept gs fs reps s → seen gs fs reps ≡ v → 1 ≤ k → k ≤ length v.reps → p ≡ place g → g ≡ nth_operation p → b ≡ nat_eq (state_at s p) k → (r : Operation) → IsState v.reps k r → IsTrue b ↔ Times r (In v.sub) g
seen_has gs fs reps s v k p b g i e lo hi at is t r st =
    subst (λ w. IsTrue b ↔ Times r (In w.sub) g) e
    (has_told gs fs reps s k p (state_at s p) b g r i lo (subst (λ w. k ≤ length w.reps) (sym e) hi) at is refl t (subst (λ w. IsState w.reps k r) (sym e) st))

pub seen_none : (gs fs reps : List Operation) (s : List ℕ) (v : Cosets) (p : ℕ) (g : Operation) → IsKept gs fs reps s → seen gs fs reps ≡ v → p ≡ place g → state_at s p ≡ 0 → ¬ Contains v.whole g
seen_none gs fs reps s v p g i e at z = subst (λ w. ¬ Contains w.whole g) e (none_told gs fs reps s p g i at z)

pub seen_some : (gs fs reps : List Operation) (s : List ℕ) (v : Cosets) (p k : ℕ) (g : Operation) → IsKept gs fs reps s → seen gs fs reps ≡ v → p ≡ place g → g ≡ nth_operation p → state_at s p ≡ k → k ≢ 0 → (r : Operation) × IsState v.reps k r × Times r (In v.sub) g
seen_some gs fs reps s v p k g i e at is t n = subst (λ w. (r : Operation) × IsState w.reps k r × Times r (In w.sub) g) e (some_told gs fs reps s p k g i at is t n)

-- no more states than elements
pub seen_few : (gs fs reps : List Operation) (s : List ℕ) (v : Cosets) (n : ℕ) → IsKept gs fs reps s → seen gs fs reps ≡ v → n ≡ length gs → n ≤ 128 → length reps ≤ 128
seen_few gs fs reps s v n i e q h = let f = i.covering.few in omega (arith, f, q)

-- the number of the state that an operation is in
pub seen_number : (gs fs reps : List Operation) (s : List ℕ) (v : Cosets) (k p : ℕ) (g r : Operation) → IsKept gs fs reps s → seen gs fs reps ≡ v → p ≡ place g → g ≡ nth_operation p → IsState v.reps k r → Times r (In v.sub) g → state_at s p ≡ k
seen_number gs fs reps s v k p g r i e at is st t =
    let q : IsState reps k r = subst (λ w. IsState w.reps k r) (sym e) st in
    let h = slice_get_within reps (k - 1) r q.1 in
    let l = q.0 in
    (numbered gs fs reps s k p g r i l (omega (arith, h, l)) at is q).1 (subst (λ w. Times r (In w.sub) g) (sym e) t)

pub seen_zero : (gs fs reps : List Operation) (s : List ℕ) (v : Cosets) (k p : ℕ) (g r : Operation) → IsKept gs fs reps s → seen gs fs reps ≡ v → p ≡ place g → g ≡ nth_operation p → state_at s p ≡ 0 → IsState v.reps k r → Times r (In v.sub) g → None ≡ Some k
seen_zero gs fs reps s v k p g r i e at is z st t = let q = seen_number gs fs reps s v k p g r i e at is st t in let l = st.0 in absurd (omega (arith, q, z, l))
