-- The elements that leave a tensor the same.
--   KeptSo          a group of such elements, with all those among the first of the whole group
--   kept_start, fits, kept_listing, kept_calm    the group while it is made, and when it is whole
--   changed_not     an operation that changes a component doesn't leave the tensor the same
--   kept_step       one more operation
--   stabiliser_told, whole_calm, whole_grows    the elements of a whole group
--   grown_not, grown_told    a group with one more element
use Rattle.list_laws.proofs.Kit.{◌≡◌, ℕ, ◌+◌, ◌<◌, List, [], ◌∷◌, length, refl, ap, sym, ◌∙◌, arith, subst, inl, inr, ◌⊎◌, cases_lt}
use Rattle.std.specs.Prelude.{Contains, Result, Ok, Err, IfOk, IfErr}
use Rattle.list_laws.proofs.Lists.{held_place}
use Rattle.tensor_defs.specs.Prelude.{IsPlain, IsHexagonal, Generated, InGroup, IsListing, Operation, IsProduct, identity, comes_before, InTwinningGroup}
use Rattle.tensor_defs.specs.Prelude.{Tensor, Marks, act, index_of}
use Rattle.tensor_laws.proofs.Prelude.{acts_in_turn, identity_acts_lem, act-agree, length-index_of, generated_within}
use Rattle.op_matrix.proofs.Listed.{OneTimes, plain_one, hex_one}
use Rattle.magnetic_groups.specs.Sets.{In, IsGroup, FitsFrame}
use Rattle.tensor_action.specs.Acting.{ActGrows}
use Rattle.given_tensors.specs.Grown.{IsGrown, IsStep, SomeGrows, StaysSame}
use Rattle.tensor_action.specs.declared.faults.ActFault.{ActFault}
use Rattle.given_tensors.specs.Stabilisers.{Stabilises, StabiliserGrows}
use Rattle.given_tensors.specs.Verdicts.{IsFirstChanged, IsLeftSame, element}
use Rattle.given_tensors.specs.Wholes.{whole_symbol}
use Rattle.given_tensors.specs.declared.wholes.Whole.{Whole}

pub record KeptSo (m : Marks) (r : ℕ) (t : Tensor) (all kept : List Operation) (place : ℕ) : Type 0 where
  pub inside : (k : Operation) → Contains kept k → StaysSame m r t all k
  pub covers : (i : ℕ) → i < place → IsLeftSame m r t (element all i) → Contains kept (element all i)
  pub calm : (i : ℕ) → i < place → ActGrows m (element all i) r t → ⊥

module _ (m : Marks) (r : ℕ) (t : Tensor) (all : List Operation) (group : IsGroup all) where
  same_identity : IsLeftSame m r t identity
  same_identity is l = identity_acts_lem m t is

  same_product : (g h k : Operation) → IsProduct g h k → IsLeftSame m r t g → IsLeftSame m r t h → IsLeftSame m r t k
  same_product g h k p e f is l = acts_in_turn m g h k p t is ∙ act-agree m g r (act m h t) t f is l ∙ e is l

  -- products of elements that leave it the same do
  products_stay : (S : Operation → Type 0) → ((s : Operation) → S s → StaysSame m r t all s) → (k : Operation) → Generated S k →
      StaysSame m r t all k
  products_stay S each k =
      generated_within S (StaysSame m r t all) (group.one, same_identity)
      (λ s l a b.
      let x = each s a in
      let y = group.closed s l x.0 b.0 in
      (y.0, (y.1, same_product s l y.0 y.2 x.1 b.1), y.2)) k

  pub kept_start : (kept : List Operation) → IsListing comes_before (λ k. k ≡ identity) kept → KeptSo m r t all kept 0
  kept_start kept one = record {
    inside = λ k c. subst (StaysSame m r t all) (sym ((one.members k).0 c)) (group.one, same_identity);
    covers = λ i h. absurd (omega arith);
    calm = λ i h. absurd (omega arith);
  }

  module _ (kept : List Operation) (place : ℕ) (so : KeptSo m r t all kept place) where
    pub fits : (g : Operation) → Contains all g → FitsFrame kept g
    fits g c = elim group.frame [
      | inl plain ↦ inl (plain g c, λ k h. plain k (so.inside k h).0)
      | inr hexagonal ↦ inr (hexagonal g c, λ k h. hexagonal k (so.inside k h).0)
    ]

    kept_more : (now : List Operation) (g : Operation) → element all place ≡ g → Contains all g → IsLeftSame m r t g →
        (ActGrows m g r t → ⊥) → IsGrown kept g now → KeptSo m r t all now (place + 1)
    kept_more now g at c same calm grown = record {
      inside = λ k h. products_stay (λ s. Contains kept s ⊎ (s ≡ g)) member k (grown.only k h);
      covers = λ i h e. elim (cases_lt i place) [
        | inl before ↦ grown.keeps (element all i) (so.covers i before e)
        | inr after ↦ (let is : place ≡ i = omega arith in
            subst (Contains now) (sym at ∙ ap (element all) is) grown.holds)
      ];
      calm = λ i h. elim (cases_lt i place) [
        | inl before ↦ so.calm i before
        | inr after ↦ (let is : place ≡ i = omega arith in
            subst (λ x. ActGrows m x r t → ⊥) (sym at ∙ ap (element all) is) calm)
      ];
    }
      where
        member : (s : Operation) → Contains kept s ⊎ (s ≡ g) → StaysSame m r t all s
        member s (inl h) = so.inside s h
        member s (inr e) = subst (StaysSame m r t all) (sym e) (c, same)

    kept_still : (g : Operation) → element all place ≡ g → (IsLeftSame m r t g → ⊥) → (ActGrows m g r t → ⊥) →
        KeptSo m r t all kept (place + 1)
    kept_still g at changed calm = record {
      inside = so.inside;
      covers = λ i h e. elim (cases_lt i place) [
        | inl before ↦ so.covers i before e
        | inr after ↦ (let is : i ≡ place = omega arith in
            absurd (changed (subst (IsLeftSame m r t) (ap (element all) is ∙ at) e)))
      ];
      calm = λ i h. elim (cases_lt i place) [
        | inl before ↦ so.calm i before
        | inr after ↦ (let is : place ≡ i = omega arith in
            subst (λ x. ActGrows m x r t → ⊥) (sym at ∙ ap (element all) is) calm)
      ];
    }

    kept_found : length all ≡ place → (k : Operation) → StaysSame m r t all k → Contains kept k
    kept_found whole k h =
        let p = held_place k identity all h.0 in
        subst (Contains kept) p.2 (so.covers p.0 (subst (λ n. p.0 < n) whole p.1) (subst (IsLeftSame m r t) (sym p.2) h.1))

    pub kept_calm : length all ≡ place → SomeGrows m r t all → ⊥
    kept_calm whole x =
        let p = held_place x.operation identity all x.element in
        so.calm p.0 (subst (λ n. p.0 < n) whole p.1) (subst (λ y. ActGrows m y r t) (sym p.2) x.grows)

    pub kept_listing : length all ≡ place → IsGroup kept → IsListing comes_before (StaysSame m r t all) kept
    kept_listing whole own = record { rising = own.rising; members = λ k. (so.inside k, kept_found whole k) }

pub changed_not : (m : Marks) (r n : ℕ) (t : Tensor) (g : Operation) (c : ℕ) → IsFirstChanged m r n t g c → IsLeftSame m r t g → ⊥
changed_not m r n t g c changed same = changed.changed (same (index_of r c) (length-index_of r c))

-- one more operation
module _ (m : Marks) (r : ℕ) (t : Tensor) (all kept : List Operation) (group : IsGroup all) (place : ℕ) (so : KeptSo m r t all kept place) where
  pub kept_step : (now : List Operation) (g : Operation) → element all place ≡ g → Contains all g → (ActGrows m g r t → ⊥) →
      IsStep m r t kept g now → KeptSo m r t all now (place + 1)
  kept_step now g at c calm (inl (same, grown)) = kept_more m r t all group kept place so now g at c same calm grown
  kept_step now g at c calm (inr (changed, is)) =
      subst (λ k. KeptSo m r t all k (place + 1)) (sym is) (kept_still m r t all group kept place so g at changed calm)

-- ---- the elements of a whole group
module _ (whole : Whole) (m : Marks) (r : ℕ) (t : Tensor) (all : List Operation)
    (list : IsListing comes_before (InGroup (whole_symbol whole)) all) where
  pub stabiliser_told : {E : Type 0} (o : Result (List Operation) E) → IfOk o (IsListing comes_before (StaysSame m r t all)) →
      IfOk o (IsListing comes_before (Stabilises whole m r t))
  stabiliser_told (Ok now) kept = record {
    rising = kept.rising;
    members = λ k. (
      λ c. let h = (kept.members k).0 c in record { element = (list.members k).0 h.0; same = h.1 },
      λ h. (kept.members k).1 ((list.members k).1 h.element, h.same),
    );
  }
  stabiliser_told (Err e) h = h

  pub whole_calm : {E : Type 0} (o : Result (List Operation) E) → IfOk o (λ x. SomeGrows m r t all → ⊥) →
      IfOk o (λ x. StabiliserGrows whole m r t → ⊥)
  whole_calm (Ok now) calm = λ x. calm (record { operation = x.operation; element = (list.members x.operation).1 x.element; grows = x.grows })
  whole_calm (Err e) h = h

  pub whole_grows : {G : Type 0} (o : Result G ActFault) (w : ActFault) → IfErr o (λ e. e ≡ w → SomeGrows m r t all) →
      IfErr o (λ e. e ≡ w → StabiliserGrows whole m r t)
  whole_grows (Ok now) w h = h
  whole_grows (Err e) w grows = λ is. let x = grows is in record { operation = x.operation; element = (list.members x.operation).0 x.element; grows = x.grows }

-- ---- one more element
alone : (S : Operation → Type 0) (k : Operation) → S k → OneTimes k → Generated S k
alone S k h one = ((k ∷ []), (h, tt), (identity, refl, one.1))

member_one : (xs : List Operation) (g k : Operation) → FitsFrame xs g → Contains xs k ⊎ (k ≡ g) → OneTimes k
member_one xs g k (inl f) (inl c) = plain_one k (f.1 k c)
member_one xs g k (inr f) (inl c) = hex_one k (f.1 k c)
member_one xs g k (inl f) (inr e) = plain_one k (subst IsPlain (sym e) f.0)
member_one xs g k (inr f) (inr e) = hex_one k (subst IsHexagonal (sym e) f.0)

module _ (was : List Operation) (g : Operation) (frame : FitsFrame was g) where
  either : (k : Operation) → Contains was k ⊎ (k ≡ g) → Generated (λ s. Contains was s ⊎ (s ≡ g)) k
  either k h = alone (λ s. Contains was s ⊎ (s ≡ g)) k h (member_one was g k frame h)

  pub grown_not : Contains was g → IsGrown was g was
  grown_not h = record { keeps = λ k c. c; holds = h; only = λ k c. either k (inl c) }

  grown_joined : (now : List Operation) → IsListing comes_before (InTwinningGroup (In was) g) now → IsGrown was g now
  grown_joined now list = record {
    keeps = λ k c. (list.members k).1 (either k (inl c));
    holds = (list.members g).1 (either g (inr refl));
    only = λ k c. (list.members k).0 c;
  }

  pub grown_told : {E : Type 0} (o : Result (List Operation) E) → IfOk o (IsListing comes_before (InTwinningGroup (In was) g)) →
      IfOk o (IsGrown was g)
  grown_told (Ok now) list = grown_joined now list
  grown_told (Err e) h = h
