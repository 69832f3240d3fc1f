-- States and pair classes under sets with the same members.
use Rattle.std.proofs.Common.{◌≡◌, ◌≢◌, List, ◌⊎◌, inl, inr}
use Rattle.std.specs.Prelude.{IsTrue}
use Rattle.tensor_laws.proofs.Sets.{same_back, same_joined, name_same}
use Rattle.list_laws.proofs.Members.{each_map}
use Rattle.tensor_defs.specs.Prelude.{IsListing, Operation, comes_before, SameSet, AreStates, InDouble, InPairGroup, InTwinningGroup, IsSwappable, Times}
use Rattle.tensor_defs.specs.Prelude.{PairClass, IsPairClass, ArePairClasses}

-- ---- cosets and the groups of a pair
module _ (F F' : Operation → Type 0) (e : SameSet F F') where
  times_same : (g : Operation) → SameSet (Times g F) (Times g F')
  times_same g k = (λ t. (t.0, (e t.0).0 t.1, t.2), λ t. (t.0, (e t.0).1 t.1, t.2))

  double_same : (g : Operation) → SameSet (InDouble F g) (InDouble F' g)
  double_same g k = (
    λ t. (t.0, t.1, (e t.0).0 t.2, (times_same g t.1).0 t.3, t.4),
    λ t. (t.0, t.1, (e t.0).1 t.2, (times_same g t.1).1 t.3, t.4),
  )

  pair_same : (g : Operation) → SameSet (InPairGroup F g) (InPairGroup F' g)
  pair_same g k = (
    λ t. let u = t.1 in ((e k).0 t.0, (u.0, u.1, (e u.0).0 u.2, u.3, u.4)),
    λ t. let u = t.1 in ((e k).1 t.0, (u.0, u.1, (e u.0).1 u.2, u.3, u.4)),
  )

  forth : (g s : Operation) → F s ⊎ (s ≡ g) → F' s ⊎ (s ≡ g)
  forth g s (inl h) = inl ((e s).0 h)
  forth g s (inr h) = inr h

  back : (g s : Operation) → F' s ⊎ (s ≡ g) → F s ⊎ (s ≡ g)
  back g s (inl h) = inl ((e s).1 h)
  back g s (inr h) = inr h

  twin_same : (g : Operation) → SameSet (InTwinningGroup F g) (InTwinningGroup F' g)
  twin_same g k = (
    λ t. (t.0, each_map (λ s. F s ⊎ (s ≡ g)) (λ s. F' s ⊎ (s ≡ g)) (forth g) t.0 t.1, t.2),
    λ t. (t.0, each_map (λ s. F' s ⊎ (s ≡ g)) (λ s. F s ⊎ (s ≡ g)) (back g) t.0 t.1, t.2),
  )

-- ---- listings and names
listing_same : (S T : Operation → Type 0) (xs : List Operation) → SameSet S T → IsListing comes_before S xs → IsListing comes_before T xs
listing_same S T xs e l = record {
  rising = l.rising;
  members = λ x. (λ c. (e x).0 ((l.members x).0 c), λ h. (l.members x).1 ((e x).1 h));
}

-- ---- states and classes
module _ (G G' F F' : Operation → Type 0) (eg : SameSet G G') (ef : SameSet F F') where
  swappable_same : (r : Operation) → IsSwappable G F r → IsSwappable G' F' r
  swappable_same r t = (
    t.0,
    (eg t.0).0 t.1,
    same_joined (Times t.0 F') (Times t.0 F) (Times r F') (same_back (Times t.0 F) (Times t.0 F') (times_same F F' ef t.0)) (same_joined (Times t.0 F) (Times r F) (Times r F') t.2 (times_same F F' ef r)),
    same_joined (Times t.0 (Times r F')) (Times t.0 (Times r F)) F'
        (same_back (Times t.0 (Times r F)) (Times t.0 (Times r F')) (times_same (Times r F) (Times r F') (times_same F F' ef r) t.0))
        (same_joined (Times t.0 (Times r F)) F F' t.3 ef),
  )

  pub states_same : (reps : List Operation) → AreStates G F reps → AreStates G' F' reps
  states_same reps a = record {
    rising = a.rising;
    within = each_map G G' (λ r. (eg r).0) reps a.within;
    least = each_map (λ r. (k : Operation) → Times r F k → k ≢ r → IsTrue (comes_before r k)) (λ r. (k : Operation) → Times r F' k → k ≢ r → IsTrue (comes_before r k)) (λ r h k t. h k ((times_same F F' ef r k).1 t)) reps a.least;
    whole = λ k g. let t = a.whole k ((eg k).1 g) in (t.0, t.1, (times_same F F' ef t.0 k).0 t.2);
  }

module _ (G G' F F' : Operation → Type 0) (eg : SameSet G G') (ef : SameSet F F') where
  class_same : (reps : List Operation) (c : PairClass) → IsPairClass G F reps c → IsPairClass G' F' reps c
  class_same reps c i = record {
    least = i.least;
    others = i.others;
    begins = i.begins;
    rep = i.rep;
    rep_is = i.rep_is;
    rising = i.rising;
    within = i.within;
    members = λ k s h. let d = double_same F F' ef i.rep s in let m = i.members k s h in (λ x. d.0 (m.0 x), λ x. m.1 (d.1 x));
    swaps = (
      λ x. swappable_same G G' F F' eg ef i.rep (i.swaps.0 x),
      λ x. i.swaps.1 (swappable_same G' G F' F (same_back G G' eg) (same_back F F' ef) i.rep x),
    );
    pair = listing_same (InPairGroup F i.rep) (InPairGroup F' i.rep) c.pair_group (pair_same F F' ef i.rep) i.pair;
    pair_named = name_same (InPairGroup F i.rep) (InPairGroup F' i.rep) c.pair_name (pair_same F F' ef i.rep) i.pair_named;
    twin = listing_same (InTwinningGroup F i.rep) (InTwinningGroup F' i.rep) c.twin_group (twin_same F F' ef i.rep) i.twin;
    twin_named = name_same (InTwinningGroup F i.rep) (InTwinningGroup F' i.rep) c.twin_name (twin_same F F' ef i.rep) i.twin_named;
  }

  pub classes_same : (reps : List Operation) (cs : List PairClass) → ArePairClasses G F reps cs → ArePairClasses G' F' reps cs
  classes_same reps cs a = record {
    each = each_map (IsPairClass G F reps) (IsPairClass G' F' reps) (class_same reps) cs a.each;
    rising = a.rising;
    whole = a.whole;
  }
