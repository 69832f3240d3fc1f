-- A request for pair classes has one answer.
--   one_name            a group has one name, or none
--   double_sym          double cosets are symmetric
--   same_class          a class is told by its least state
--   one_class_list      the classes are told by the two groups and the states
--   one_pairs_lem       a request for pair classes has one answer, where the second group is below the first
use Rattle.list_laws.proofs.Kit.{◌≡◌, ℕ, ◌-◌, ◌<◌, ◌≤◌, true, List, [], ◌∷◌, ◌++◌, length, refl, ap, sym, ◌∙◌, arith, inl, inr, subst, nat_tests}
use Rattle.std.specs.Prelude.{Option, Some, None, Contains, IsTrue, nat_lt, get_or, ◌↔◌}
use Rattle.list_laws.proofs.Prelude.{held_here, held_cases, heads, tails, each_held, each_found, rising_same, same_truth}
use Rattle.tensor_defs.specs.Prelude.{InGroup, IsBelow, Each, IsRising, IsListing, IsNamed, IsNameOf, Operation, IsProduct, identity, comes_before, PairClass}
use Rattle.tensor_defs.specs.Prelude.{IsPairClass, least_before, ArePairClasses, InDouble, IsState, IsSwappable, InPairGroup, InTwinningGroup, GroupSymbol}
use Rattle.tensor_laws.proofs.Prelude.{product_assoc, product_assoc_back, one_state, state_at, IsGroup, one_times, times_one}
use Rattle.text_defs.specs.AnswerTexts.{pairs_text}
use Rattle.answer_laws.proofs.DomainStates.{one_state_list}
use Rattle.answer_laws.proofs.Groups.{symbol_group}
use Rattle.answer_laws.proofs.Listings.{operations_listed}
use Rattle.answer_laws.specs.Laws.{OnePairs}

-- ---- names

-- the first of a list with a property is one
first_named : (P : GroupSymbol → Type 0) (xs ys us vs : List GroupSymbol) (x y : GroupSymbol) → Each (λ u. ¬ P u) xs →
    Each (λ u. ¬ P u) ys → P x → P y → xs ++ x ∷ us ≡ ys ++ y ∷ vs → x ≡ y
first_named P [] [] us vs x y p q m n e = heads e
first_named P [] (b ∷ ys) us vs x y p q m n e = absurd (q.0 (subst P (heads e) m))
first_named P (a ∷ xs) [] us vs x y p q m n e = absurd (p.0 (subst P (sym (heads e)) n))
first_named P (a ∷ xs) (b ∷ ys) us vs x y p q m n e = first_named P xs ys us vs x y p.1 q.1 m n (tails e)

not_among : (P : GroupSymbol → Type 0) (xs us : List GroupSymbol) (x : GroupSymbol) → Each (λ u. ¬ P u) (xs ++ x ∷ us) →
    P x → ⊥
not_among P [] us x p m = p.0 m
not_among P (a ∷ xs) us x p m = not_among P xs us x p.1 m

pub one_name : (H : Operation → Type 0) (o p : Option GroupSymbol) → IsNameOf o H → IsNameOf p H → o ≡ p
one_name H None None a b = refl
one_name H None (Some t) a b =
    absurd (not_among (λ u. IsNamed u H) b.0 b.1 t (subst (λ xs. Each (λ u. ¬ IsNamed u H) xs) b.2 a) b.3)
one_name H (Some t) None a b =
    absurd (not_among (λ u. IsNamed u H) a.0 a.1 t (subst (λ xs. Each (λ u. ¬ IsNamed u H) xs) a.2 b) a.3)
one_name H (Some t) (Some u) a b =
    ap Some (first_named (λ u. IsNamed u H) a.0 b.0 a.1 b.1 t u a.4 b.4 a.3 b.3 (sym a.2 ∙ b.2))

-- ---- places of states

-- ---- numbers in order
less_irreflexive : (n : ℕ) → ¬ IsTrue (nat_lt n n)
less_irreflexive n h = grind (arith, nat_tests)

less_transitive : (a b c : ℕ) → IsTrue (nat_lt a b) → IsTrue (nat_lt b c) → IsTrue (nat_lt a c)
less_transitive a b c h k = grind (arith, nat_tests)

less_means : (a b : ℕ) → nat_lt a b ≡ true → a < b
less_means a b h = grind (arith, nat_tests)

least_first : (l k : ℕ) (others members : List ℕ) → members ≡ l ∷ others → IsRising nat_lt members →
    Contains members k → l ≤ k
least_first l k others members e r c =
    let rising : IsRising nat_lt (l ∷ others) = subst (IsRising nat_lt) e r in
    elim (held_cases k l others (subst (λ ms. Contains ms k) e c)) [
      | inl is ↦ omega arith
      | inr d ↦
          let lt : l < k = less_means l k (each_held (λ n. IsTrue (nat_lt l n)) others rising.0 k d) in omega arith
    ]

-- ---- classes
module _ (G F : Operation → Type 0) (whole : IsGroup G) (group : IsGroup F) (below : IsBelow F G)
    (reps : List Operation) (within : Each G reps) where
  -- double cosets are symmetric
  pub double_sym : (g k : Operation) → G k → InDouble F g k → InDouble F k g
  double_sym g k in_whole h =
      let f = group.inverse h.0 h.2 in
      let s = group.inverse h.3.0 h.3.1 in
      let n = whole.product k s.0 in_whole (below s.0 s.1) in
      let ahead : IsProduct f.0 k h.1 = product_assoc f.0 h.0 h.1 identity h.1 k f.3 (one_times h.1) h.4 in
      let back : IsProduct h.1 s.0 g = product_assoc_back g h.3.0 s.0 h.1 g identity h.3.2 s.2 (times_one g) in
      (f.0, n.0, f.1, (s.0, s.1, n.2), product_assoc f.0 k s.0 h.1 g n.0 ahead back n.2)

  state_in : (k : ℕ) (g : Operation) → IsState reps k g → G g
  state_in k g h = each_found G reps within (k - 1) g h.1

  -- the members of a class are members of the other, where both have one representative
  members_within : (c d : PairClass) (p : IsPairClass G F reps c) (q : IsPairClass G F reps d) → p.rep ≡ q.rep →
      (k : ℕ) → Contains c.members k → Contains d.members k
  members_within c d p q e k h =
      let range = each_held (λ k. (1 ≤ k) × (k ≤ length reps)) c.members p.within k h in
      let s = state_at reps k range.0 range.1 in
      (q.members k s.0 s.1).1 (subst (λ r. InDouble F r s.0) e ((p.members k s.0 s.1).0 h))

  -- a class is told by its least state
  same_class : (c d : PairClass) (p : IsPairClass G F reps c) (q : IsPairClass G F reps d) → p.least ≡ q.least → c ≡ d
  same_class c d p q e =
      let rep : p.rep ≡ q.rep = one_state reps q.least p.rep q.rep (subst (λ k. IsState reps k p.rep) e p.rep_is)
      q.rep_is in
      let members : c.members ≡ d.members = rising_same nat_lt less_irreflexive less_transitive c.members d.members
      p.rising q.rising (members_within c d p q rep) (members_within d c q p (sym rep)) in
      let swaps : (c.swappable ≡ true) ↔ IsSwappable G F q.rep = subst (λ r. (c.swappable ≡ true) ↔ IsSwappable G F r) rep
      p.swaps in
      let swappable : c.swappable ≡ d.swappable = same_truth c.swappable d.swappable (λ t. q.swaps.1 (swaps.0 t))
      (λ t. swaps.1 (q.swaps.0 t)) in
      let pair : c.pair_group ≡ d.pair_group = operations_listed (InPairGroup F q.rep) c.pair_group d.pair_group
      (subst (λ r. IsListing comes_before (InPairGroup F r) c.pair_group) rep p.pair) q.pair in
      let pair_name : c.pair_name ≡ d.pair_name = one_name (InPairGroup F q.rep) c.pair_name d.pair_name
      (subst (λ r. IsNameOf c.pair_name (InPairGroup F r)) rep p.pair_named) q.pair_named in
      let twin : c.twin_group ≡ d.twin_group = operations_listed (InTwinningGroup F q.rep) c.twin_group d.twin_group
      (subst (λ r. IsListing comes_before (InTwinningGroup F r) c.twin_group) rep p.twin) q.twin in
      let twin_name : c.twin_name ≡ d.twin_name = one_name (InTwinningGroup F q.rep) c.twin_name d.twin_name
      (subst (λ r. IsNameOf c.twin_name (InTwinningGroup F r)) rep p.twin_named) q.twin_named in
      λ i. record {
        members = members i;
        swappable = swappable i;
        pair_group = pair i;
        pair_name = pair_name i;
        twin_group = twin i;
        twin_name = twin_name i;
      }

  least_held : (c : PairClass) (p : IsPairClass G F reps c) → Contains c.members p.least
  least_held c p = subst (λ ms. Contains ms p.least) (sym p.begins) (held_here p.least p.others)

  -- a class has the least state of another whose least state is its own member
  least_within : (c d : PairClass) (p : IsPairClass G F reps c) (q : IsPairClass G F reps d) →
      Contains d.members p.least → Contains c.members q.least
  least_within c d p q h =
      (p.members q.least q.rep q.rep_is).1
      (double_sym q.rep p.rep (state_in p.least p.rep p.rep_is) ((q.members p.least p.rep p.rep_is).0 h))

  classes_within : (cs ds : List PairClass) → ArePairClasses G F reps cs → ArePairClasses G F reps ds →
      (c : PairClass) → Contains cs c → Contains ds c
  classes_within cs ds p q c h =
      let own : IsPairClass G F reps c = each_held (IsPairClass G F reps) cs p.each c h in
      let range = each_held (λ k. (1 ≤ k) × (k ≤ length reps)) c.members own.within own.least (least_held c own) in
      let found = q.whole own.least range.0 range.1 in
      let other : IsPairClass G F reps found.0 = each_held (IsPairClass G F reps) ds q.each found.0 found.1 in
      let back : Contains c.members other.least = least_within c found.0 own other found.2 in
      let up : own.least ≤ other.least = least_first own.least other.least own.others c.members own.begins own.rising back in
      let down : other.least ≤ own.least = least_first other.least own.least other.others found.0.members other.begins
      other.rising found.2 in
      let same : own.least ≡ other.least = omega arith in
      subst (λ d. Contains ds d) (sym (same_class c found.0 own other same)) found.1

  pub one_class_list : (cs ds : List PairClass) → ArePairClasses G F reps cs → ArePairClasses G F reps ds → cs ≡ ds
  one_class_list cs ds p q =
      rising_same least_before (λ c h. less_irreflexive (get_or c.members 0 0) h)
      (λ c d e h k. less_transitive (get_or c.members 0 0) (get_or d.members 0 0) (get_or e.members 0 0) h k) cs ds
      p.rising q.rising (classes_within cs ds p q) (classes_within ds cs q p)

pub one_pairs_lem : OnePairs
one_pairs_lem g f hg hf below a b p q =
    let G = InGroup g.symbol in
    let F = InGroup f.symbol in
    let group : IsGroup F = symbol_group f.symbol hf in
    let reps : p.0 ≡ q.0 = one_state_list G F group p.0 q.0 p.1 q.1 in
    let classes : p.2 ≡ q.2 = one_class_list G F (symbol_group g.symbol hg) group below q.0 q.1.within p.2 q.2
    (subst (λ rs. ArePairClasses G F rs p.2) reps p.3) q.3 in
    p.4 ∙ (λ i. pairs_text g.symbol f.symbol (length (reps i)) (classes i)) ∙ sym q.4
