-- The classes with what is told of each.
--   class_assembled    the same set has the same name
--   IsClassing, no_earlier, classing_none, classing_skip, classing_push, classing_done    the classes of the states up to n
--   IsSeen, seen_none, seen_push, seen_kept    the states that are in a class
--   added_none, added_more    the marking of members
use Rattle.list_laws.proofs.Kit.{◌≡◌, ℕ, ◌+◌, ◌⊎◌, inl, inr, ◌<◌, ◌≤◌, Bool, true, false, List, [], ◌∷◌, ◌++◌, length, refl, ap, sym, ◌∙◌, arith, subst}
use Rattle.list_laws.proofs.Kit.{nat_tests, Contains-append_left, Contains-push, Contains-push_cases, get_or_from_slice_get, cases_lt, false≢true}
use Rattle.std.specs.Prelude.{Contains, ◌↔◌, IsTrue, Option, Some, nat_lt, get_or, replicate, set, slice_get, slice_index_or}
use Rattle.tensor_laws.proofs.Sets.{name_same}
use Rattle.list_laws.proofs.Prelude.{rising_push, each_push, each_held, each_map}
use Rattle.tensor_defs.specs.Prelude.{Each, IsRising, IsListing, Operation, comes_before, GroupSymbol, IsNameOf, InDouble, IsState, IsSwappable, AreStates}
use Rattle.tensor_defs.specs.Prelude.{InPairGroup, InTwinningGroup, PairClass, IsPairClass, ArePairClasses, least_before}
use Rattle.magnetic_groups.specs.Prelude.{mark_at, In, IsGroup, IsWithin, HaveFrame, FitsFrame}
use Rattle.group_closing.proofs.Reaching.{no_mark, set_kept, set_new, set_told}
use Rattle.coset_states.specs.Numbering.{Cosets}
use Rattle.twin_pairs.specs.Classes.{AreAdded, HasNoEarlier, AreMembers, IsClassFrom}
use Rattle.twin_pairs.proofs.DoubleCosets.{double_sym, double_trans}
use Rattle.twin_pairs.proofs.Listings.{state_within}

pub fits_of : (gs fs : List Operation) (g : Operation) → HaveFrame gs → IsWithin fs gs → Contains gs g → FitsFrame fs g
fits_of gs fs g (inl f) w c = inl (f g c, λ k h. f k (w k h))
fits_of gs fs g (inr f) w c = inr (f g c, λ k h. f k (w k h))

-- ---- the same set has the same name
pub class_assembled : (c : Cosets) (g : Operation) (k : ℕ) (ms : List ℕ) (b : Bool) (ps ts : List Operation) (pn tn : Option GroupSymbol) → IsState c.reps k g → AreMembers c g k ms → (IsTrue b ↔ IsSwappable (In c.whole) (In c.sub) g) → IsListing comes_before (InPairGroup (In c.sub) g) ps → IsNameOf pn (In ps) → IsListing comes_before (InTwinningGroup (In c.sub) g) ts → IsNameOf tn (In ts) → IsClassFrom c g k (record { members = ms; swappable = b; pair_group = ps; pair_name = pn; twin_group = ts; twin_name = tn })
class_assembled c g k ms b ps ts pn tn is a s p pi t ti = (
  record {
    least = k;
    others = a.others;
    begins = a.begins;
    rep = g;
    rep_is = is;
    rising = a.rising;
    within = a.within;
    members = a.members;
    swaps = s;
    pair = p;
    pair_named = name_same (In ps) (InPairGroup (In c.sub) g) pn p.members pi;
    twin = t;
    twin_named = name_same (In ts) (InTwinningGroup (In c.sub) g) tn t.members ti;
  },
  a,
)

-- ---- the classes of the states up to n
pub record IsClassing (c : Cosets) (n : ℕ) (ds : List PairClass) : Type 0 where
  pub each : Each (IsPairClass (In c.whole) (In c.sub) c.reps) ds
  pub rising : IsRising least_before ds
  pub below : Each (λ d. get_or d.members 0 0 ≤ n) ds
  pub whole : (k : ℕ) → 1 ≤ k → k ≤ n → (d : PairClass) × Contains ds d × Contains d.members k

-- ---- the states that are in a class
pub record IsSeen (ds : List PairClass) (m : List Bool) : Type 0 where
  pub sized : length m ≡ 129
  pub seen : (k : ℕ) → (mark_at m k ≡ true) ↔ ((d : PairClass) × Contains ds d × Contains d.members k)

pub seen_none : (ds : List PairClass) (m : List Bool) → ds ≡ [] → m ≡ replicate 129 false → IsSeen ds m
seen_none ds m e f = record {
  sized = ap length f;
  seen = λ k. (
    λ t. absurd (no_mark 129 k (subst (λ x. mark_at x k ≡ true) f t)),
    λ h. let b = h.1.1 in let n : length ds ≡ 0 = ap length e in absurd (omega (arith, b, n)),
  );
}

pub seen_push : (ds ds' : List PairClass) (x : PairClass) (m m' : List Bool) → IsSeen ds m → ds' ≡ ds ++ x ∷ [] → length m' ≡ 129 → AreAdded x.members (length x.members) m m' → IsSeen ds' m'
seen_push ds ds' x m m' s e l a = subst (λ y. IsSeen y m') (sym e) (record {
  sized = l;
  seen = λ k. (λ t. forth k (a.only k t), λ h. back k h.0 h.2 (Contains-push_cases ds x h.0 h.1));
})
  where
    forth : (k : ℕ) → (mark_at m k ≡ true) ⊎ Contains x.members k → (d : PairClass) × Contains (ds ++ x ∷ []) d × Contains d.members k
    forth k (inl t) = let h = (s.seen k).0 t in (h.0, Contains-append_left ds (x ∷ []) h.0 h.1, h.2)
    forth k (inr h) = (x, Contains-push ds x, h)

    back : (k : ℕ) (d : PairClass) → Contains d.members k → Contains ds d ⊎ (x ≡ d) → mark_at m' k ≡ true
    back k d h (inl c) = a.kept k ((s.seen k).1 (d, c, h))
    back k d h (inr q) =
        let h' : Contains x.members k = subst (λ y. Contains y.members k) (sym q) h in
        subst (λ y. mark_at m' y ≡ true) h'.2 (a.added h'.0 k h'.1)

pub seen_kept : (ds ds' : List PairClass) (m : List Bool) → IsSeen ds m → ds' ≡ ds → IsSeen ds' m
seen_kept ds ds' m s e = subst (λ y. IsSeen y m) (sym e) s

-- ---- the marking of members
pub added_none : (ks : List ℕ) (m : List Bool) → AreAdded ks 0 m m
added_none ks m = record { kept = λ k t. t; added = λ q d h. absurd (omega arith); only = λ k t. inl t }

pub added_more : (ks : List ℕ) (n k : ℕ) (m m' : List Bool) → AreAdded ks n m m' → n < length ks → slice_get ks n ≡ Some k → k < length m' → AreAdded ks (n + 1) m (set m' k true)
added_more ks n k m m' a h at b = record {
  kept = λ j t. set_kept m' k j (a.kept j t);
  added = λ q d l. by q d (cases_lt q n) l;
  only = λ j t. told j (set_told m' k j t);
}
  where
    by : (q d : ℕ) → (q < n) ⊎ (n ≤ q) → q < n + 1 → mark_at (set m' k true) (slice_index_or ks q d) ≡ true
    by q d (inl p) l = set_kept m' k (slice_index_or ks q d) (a.added q d p)
    by q d (inr p) l =
        let e : q ≡ n = omega arith in
        let r : slice_index_or ks q d ≡ k = ap (λ x. slice_index_or ks x d) e ∙ get_or_from_slice_get ks n k d at in
        subst (λ x. mark_at (set m' k true) x ≡ true) (sym r) (set_new m' k b)

    told : (j : ℕ) → (j ≡ k) ⊎ (mark_at m' j ≡ true) → (mark_at m j ≡ true) ⊎ Contains ks j
    told j (inl e) = inr (n, h, get_or_from_slice_get ks n k j at ∙ sym e)
    told j (inr t) = a.only j t

module _ (c : Cosets) (ig : IsGroup c.whole) (jf : IsGroup c.sub) (w : IsWithin c.sub c.whole) (a : AreStates (In c.whole) (In c.sub) c.reps) where
  pub classing_none : (ds : List PairClass) → ds ≡ [] → IsClassing c 0 ds
  classing_none ds e = subst (IsClassing c 0) (sym e) (record { each = tt; rising = tt; below = tt; whole = λ k lo hi. absurd (omega arith) })

  more_below : (n : ℕ) (ds : List PairClass) → Each (λ d. get_or d.members 0 0 ≤ n) ds → Each (λ d. get_or d.members 0 0 ≤ n + 1) ds
  more_below n ds e = each_map (λ d. get_or d.members 0 0 ≤ n) (λ d. get_or d.members 0 0 ≤ n + 1) (λ d p. omega arith) ds e

  -- a state with an earlier one in its class
  joins : (n l : ℕ) (g s : Operation) (ds : List PairClass) → Each (IsPairClass (In c.whole) (In c.sub) c.reps) ds → IsState c.reps (n + 1) g → IsState c.reps l s → InDouble (In c.sub) g s → (d : PairClass) × Contains ds d × Contains d.members l → (d : PairClass) × Contains ds d × Contains d.members (n + 1)
  joins n l g s ds e ig' is d (x, cx, cl) =
      let p : IsPairClass (In c.whole) (In c.sub) c.reps x = each_held (IsPairClass (In c.whole) (In c.sub) c.reps) ds e x cx in
      let cg : Contains c.whole g = state_within c.whole c.sub c.reps a (n + 1) g ig' in
      let cs : Contains c.whole s = state_within c.whole c.sub c.reps a l s is in
      let cr : Contains c.whole p.rep = state_within c.whole c.sub c.reps a p.least p.rep p.rep_is in
      (x, cx, (p.members (n + 1) g ig').1 (double_trans c.whole c.sub ig jf w p.rep s g cr ((p.members l s is).0 cl) (double_sym c.whole c.sub ig jf w g s cg cs d)))

  -- a state that is in none of the classes is the least of its class
  pub no_earlier : (n : ℕ) (g : Operation) (ds : List PairClass) (m : List Bool) → IsClassing c n ds → IsSeen ds m → IsState c.reps (n + 1) g → mark_at m (n + 1) ≡ false → HasNoEarlier c g (n + 1)
  no_earlier n g ds m i s is e l r at h d =
      let o : 1 ≤ l = at.0 in
      false≢true (sym e ∙ (s.seen (n + 1)).1 (joins n l g r ds i.each is at d (i.whole l o (omega arith))))

  pub classing_skip : (n : ℕ) (ds ds' : List PairClass) (m : List Bool) → IsClassing c n ds → IsSeen ds m → ds' ≡ ds → mark_at m (n + 1) ≡ true → IsClassing c (n + 1) ds'
  classing_skip n ds ds' m i s e t = subst (IsClassing c (n + 1)) (sym e) (record {
    each = i.each;
    rising = i.rising;
    below = more_below n ds i.below;
    whole = λ k lo hi. by k lo hi (cases_lt k (n + 1));
  })
    where
      by : (k : ℕ) → 1 ≤ k → k ≤ n + 1 → (k < n + 1) ⊎ (n + 1 ≤ k) → (x : PairClass) × Contains ds x × Contains x.members k
      by k lo hi (inl p) = i.whole k lo (omega arith)
      by k lo hi (inr p) =
          let q : n + 1 ≡ k = omega arith in
          subst (λ m. (x : PairClass) × Contains ds x × Contains x.members m) q ((s.seen (n + 1)).0 t)

  pub classing_push : (n : ℕ) (g : Operation) (ds ds' : List PairClass) (x : PairClass) → IsClassing c n ds → ds' ≡ ds ++ x ∷ [] → IsClassFrom c g (n + 1) x → IsClassing c (n + 1) ds'
  classing_push n g ds ds' x i e f = subst (IsClassing c (n + 1)) (sym e) (record {
    each = each_push (IsPairClass (In c.whole) (In c.sub) c.reps) ds x i.each f.0;
    rising = rising_push least_before ds x i.rising (each_map (λ d. get_or d.members 0 0 ≤ n) (λ d. IsTrue (least_before d x)) before ds i.below);
    below = each_push (λ d. get_or d.members 0 0 ≤ n + 1) ds x (more_below n ds i.below) (let q : get_or x.members 0 0 ≡ n + 1 = first in omega (arith, q));
    whole = λ k lo hi. by k lo hi (cases_lt k (n + 1));
  })
    where
      first : get_or x.members 0 0 ≡ n + 1
      first = ap (λ ms. get_or ms 0 0) f.1.begins

      before : (d : PairClass) → get_or d.members 0 0 ≤ n → nat_lt (get_or d.members 0 0) (get_or x.members 0 0) ≡ true
      before d p = let q : get_or d.members 0 0 < get_or x.members 0 0 = omega (arith, first, p) in grind (arith, nat_tests)

      own : Contains x.members (n + 1)
      own = subst (λ ms. Contains ms (n + 1)) (sym f.1.begins) (0, omega arith, refl)

      by : (k : ℕ) → 1 ≤ k → k ≤ n + 1 → (k < n + 1) ⊎ (n + 1 ≤ k) → (d : PairClass) × Contains (ds ++ x ∷ []) d × Contains d.members k
      by k lo hi (inl p) = let o = i.whole k lo (omega arith) in (o.0, Contains-append_left ds (x ∷ []) o.0 o.1, o.2)
      by k lo hi (inr p) =
          let q : n + 1 ≡ k = omega arith in
          (x, Contains-push ds x, subst (Contains x.members) q own)

  pub classing_done : (n : ℕ) (ds : List PairClass) → IsClassing c n ds → length c.reps ≤ n → ArePairClasses (In c.whole) (In c.sub) c.reps ds
  classing_done n ds i h = record {
    each = i.each;
    rising = i.rising;
    whole = λ k lo hi. i.whole k lo (omega arith);
  }
