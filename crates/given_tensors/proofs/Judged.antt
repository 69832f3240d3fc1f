-- What the first fact that refutes a tensor tells.
--   not_broken      a tensor with a broken component doesn't have the symmetry
--   act_told        what the comparison with the carried list tells of an operation
--   refutes, checked_grows, invariant_end    the verdict after the first elements, or after all
--   refuted_not, refuted_calm, all_calm      no other verdict, and no refusal, is there
use Rattle.list_laws.proofs.Kit.{◌≡◌, ℕ, ◌+◌, ◌-◌, ◌<◌, ◌≤◌, ◌^◌, List, length, get_or, ap, sym, ◌∙◌, arith, subst, inl, inr, cases_lt}
use Rattle.std.specs.Prelude.{Contains, Option, Some, None, MatchOption}
use Rattle.list_laws.proofs.Lists.{held_place}
use Rattle.tensor_defs.specs.Prelude.{JahnSymbol, rank, HasSymmetry, IsInvariant, Number, Root3, num_one, Operation, identity, Tensor, Marks, act}
use Rattle.tensor_defs.specs.Prelude.{component_number, index_of, sign}
use Rattle.tensor_defs.specs.declared.Sign.{Sign}
use Rattle.tensor_laws.proofs.ComponentNumbers.{length-index_of}
use Rattle.root3_num.specs.Roots.{value_of_root}
use Rattle.sign_moves.specs.Signs.{signed, times, times_self}
use Rattle.sign_moves.proofs.SignLaws.{signed-signed}
use Rattle.tensor_rank.specs.IndexLaws.{index_number_at, component_below_at}
use Rattle.magnetic_groups.specs.Sets.{In}
use Rattle.tensor_action.specs.Acting.{ActGrows, IsCarriedList, tensor_of, zero_root}
use Rattle.given_tensors.specs.Lists.{AreSame, IsFirstApart}
use Rattle.given_tensors.specs.Verdicts.{CheckGrows, IsFirstBroken, IsFirstChanged, IsLeftSame, IsRefuting, element}
use Rattle.given_tensors.proofs.Signed.{act_marks}
use Rattle.given_tensors.proofs.Symmetric.{symmetric_follows}

pub not_broken : (j : JahnSymbol) (r n : ℕ) (t : Tensor) (c : ℕ) → IsFirstBroken j r n t c → HasSymmetry j t → ⊥
not_broken j r n t c b h = b.broken.broken (symmetric_follows j r t h c b.broken.class b.broken.told)

-- ---- from lists to components
module _ (m p : Marks) (g : Operation) (a b : Sign) (e : sign m g ≡ signed a num_one) (f : sign p g ≡ signed b num_one)
    (r n : ℕ) (rs vs : List Root3) (size : n ≡ 3 ^ r) (carried : IsCarriedList p g r n rs vs)
    (number : (c : ℕ) → c < n → component_number (index_of r c) ≡ c) (s : Sign) (sign_is : s ≡ times b a) where
  given_at : (c : ℕ) → c < n → value_of_root (get_or rs c zero_root) ≡ tensor_of rs (index_of r c)
  given_at c h = ap (λ k. value_of_root (get_or rs k zero_root)) (sym (number c h))

  back : (x : Number) → signed s (signed s x) ≡ x
  back x = signed-signed s s x ∙ ap (λ u. signed u x) (times_self s)

  own_at : (c : ℕ) → c < n → act m g (tensor_of rs) (index_of r c) ≡ signed s (value_of_root (get_or vs c zero_root))
  own_at c h =
      act_marks m p g a b e f (tensor_of rs) (index_of r c)
      ∙ (λ i. signed (sym sign_is i) (sym (carried.each c h) i))

  same_at : (c : ℕ) → c < n → value_of_root (get_or vs c zero_root) ≡ signed s (value_of_root (get_or rs c zero_root)) →
      act m g (tensor_of rs) (index_of r c) ≡ tensor_of rs (index_of r c)
  same_at c h same = own_at c h ∙ ap (signed s) same ∙ back (value_of_root (get_or rs c zero_root)) ∙ given_at c h

  same_told : AreSame n s vs rs → IsLeftSame m r (tensor_of rs) g
  same_told same is l =
      let c : ℕ = component_number is in
      let below : c < n = subst (λ k. c < k) (sym size) (component_below_at r is l) in
      subst (λ i. act m g (tensor_of rs) i ≡ tensor_of rs i) (index_number_at r is l) (same_at c below (same c below))

  apart_told : (c : ℕ) → IsFirstApart n s vs rs c → IsFirstChanged m r n (tensor_of rs) g c
  apart_told c x = record {
    below = x.below;
    changed = λ is. x.differ
        (sym (back (value_of_root (get_or vs c zero_root)))
        ∙ ap (signed s) (sym (own_at c x.below) ∙ is ∙ sym (given_at c x.below)));
    earlier = λ d h.
        let below : d < n = let b = x.below in omega arith in
        same_at d below (x.earlier d h);
  }

  pub act_told : (o : Option ℕ) → MatchOption o (AreSame n s vs rs) (IsFirstApart n s vs rs) →
      MatchOption o (IsLeftSame m r (tensor_of rs) g) (IsFirstChanged m r n (tensor_of rs) g)
  act_told None h = same_told h
  act_told (Some c) h = apart_told c h

-- ---- after the first elements
pub record IsCheckedTo (m : Marks) (r : ℕ) (t : Tensor) (hs : List Operation) (place : ℕ) : Type 0 where
  pub same : (k : ℕ) → k < place → IsLeftSame m r t (element hs k)
  pub calm : (k : ℕ) → k < place → ActGrows m (element hs k) r t → ⊥

pub checked_none : (m : Marks) (r : ℕ) (t : Tensor) (hs : List Operation) → IsCheckedTo m r t hs 0
checked_none m r t hs = record { same = λ k h. absurd (omega arith); calm = λ k h. absurd (omega arith) }

module _ (m : Marks) (r : ℕ) (t : Tensor) (hs : List Operation) (place : ℕ) (so : IsCheckedTo m r t hs place) where
  pub checked_more : (g : Operation) → element hs place ≡ g → IsLeftSame m r t g → (ActGrows m g r t → ⊥) →
      IsCheckedTo m r t hs (place + 1)
  checked_more g at same calm = record {
    same = λ k h. elim (cases_lt k place) [
      | inl before ↦ so.same k before
      | inr after ↦ (let is : place ≡ k = omega arith in subst (IsLeftSame m r t) (sym at ∙ ap (element hs) is) same)
    ];
    calm = λ k h. elim (cases_lt k place) [
      | inl before ↦ so.calm k before
      | inr after ↦ (let is : place ≡ k = omega arith in
          subst (λ x. ActGrows m x r t → ⊥) (sym at ∙ ap (element hs) is) calm)
    ];
  }

  module _ (j : JahnSymbol) (marks : m ≡ j.marks) where
    so_same : (k : ℕ) → k < place → IsLeftSame j.marks r t (element hs k)
    so_same k h = subst (λ x. IsLeftSame x r t (element hs k)) marks (so.same k h)

    pub checked_grows : HasSymmetry j t → place < length hs → (g : Operation) → element hs place ≡ g → ActGrows m g r t →
        CheckGrows j hs r t
    checked_grows sy h g at grows = record {
      symmetric = sy;
      place = place;
      within = h;
      earlier = so_same;
      grows = subst (λ x. ActGrows x (element hs place) r t) marks (subst (λ x. ActGrows m x r t) (sym at) grows);
    }

    pub refutes : HasSymmetry j t → place < length hs → (g : Operation) → element hs place ≡ g → (n c : ℕ) →
        IsFirstChanged m r n t g c → IsRefuting j hs r n t (place + 1) c
    refutes sy h g at n c changed =
        let back : place ≡ place + 1 - 1 = omega arith in
        record {
          symmetric = sy;
          first = omega arith;
          within = omega arith;
          earlier = λ k less. so_same k (omega arith);
          component = subst (λ x. IsFirstChanged x r n t (element hs (place + 1 - 1)) c) marks
              (subst (λ x. IsFirstChanged m r n t x c) (sym at ∙ ap (element hs) back) changed);
        }

    pub refuted_not : (rank_is : rank j ≡ r) (g : Operation) → Contains hs g → (n c : ℕ) → IsFirstChanged m r n t g c →
        IsInvariant j (In hs) t → ⊥
    refuted_not rank_is g listed n c changed inv =
        changed.changed (subst (λ x. act x g t (index_of r c) ≡ t (index_of r c)) (sym marks)
        (inv.unchanged g listed (index_of r c) (length-index_of r c ∙ sym rank_is)))

    pub refuted_calm : (g : Operation) → element hs place ≡ g → (n c : ℕ) → IsFirstChanged m r n t g c →
        (ActGrows m g r t → ⊥) → CheckGrows j hs r t → ⊥
    refuted_calm g at n c changed calm x = elim (cases_lt x.place place) [
      | inl before ↦ so.calm x.place before (subst (λ y. ActGrows y (element hs x.place) r t) (sym marks) x.grows)
      | inr after ↦ elim (cases_lt place x.place) [
        | inl more ↦ changed.changed (subst (λ y. act y g t (index_of r c) ≡ t (index_of r c)) (sym marks)
            (subst (λ y. act j.marks y t (index_of r c) ≡ t (index_of r c)) at
            (x.earlier place more (index_of r c) (length-index_of r c))))
        | inr less ↦ (let is : x.place ≡ place = omega arith in
            calm (subst (λ y. ActGrows y g r t) (sym marks)
            (subst (λ y. ActGrows j.marks y r t) (ap (element hs) is ∙ at) x.grows)))
      ]
    ]

    module _ (whole : length hs ≤ place) where
      pub all_calm : CheckGrows j hs r t → ⊥
      all_calm x =
          let below : x.place < place = let w = x.within in omega arith in
          so.calm x.place below (subst (λ y. ActGrows y (element hs x.place) r t) (sym marks) x.grows)

      pub invariant_end : HasSymmetry j t → rank j ≡ r → IsInvariant j (In hs) t
      invariant_end sy rank_is = record {
        symmetric = sy;
        unchanged = λ g h is l.
            let p = held_place g identity hs h in
            let below : p.0 < place = let w = p.1 in omega arith in
            subst (λ x. act j.marks x t is ≡ t is) p.2 (so_same p.0 below is (l ∙ rank_is));
      }
