-- Double cosets of a group in a group, and the pairs of states that an element exchanges.
--   double_told    f·r in the state of g puts g in FrF
--   double_from    where g is in FrF, some f·r is in its state
--   swaps_told, swaps_from, swaps_more, swaps_found, swaps_none    exchanged states
use Rattle.std.proofs.Common.{◌≡◌, ℕ, ◌+◌, ◌⊎◌, inl, inr, ◌<◌, ◌≤◌, Bool, true, false, List, length, refl, ap, sym, ◌∙◌, arith, subst}
use Rattle.std.specs.Prelude.{Contains, ◌↔◌, IsTrue, slice_index_or}
use Rattle.std.proofs.lemmas.Bool.{cases_lt, false≢true}
use Rattle.tensor_defs.specs.Prelude.{Operation, IsProduct, identity, Times, InDouble, IsSwappable}
use Rattle.tensor_laws.proofs.Prelude.{product_unique, product_assoc, product_assoc_back}
use Rattle.magnetic_groups.specs.Sets.{In, IsGroup, IsWithin, InverseIn}
use Rattle.magnetic_groups.proofs.Cosets.{group_one, group_product, coset_self, coset_within, coset_sym, coset_trans, coset_moved}

module _ (gs fs : List Operation) (ig : IsGroup gs) (jf : IsGroup fs) (w : IsWithin fs gs) where
  -- f·r in the state of g puts g in FrF
  pub double_told : (r s g f x : Operation) → Contains gs r → Contains gs s → Contains fs f → IsProduct f r x → Times s (In fs) x → Times s (In fs) g → InDouble (In fs) r g
  double_told r s g f x cr cs cf p a b =
      let cx : Contains gs x = group_product gs f r x ig (w f cf) cr p in
      let t : Times x (In fs) g = coset_trans gs fs x s g ig jf w cx (coset_sym gs fs s x ig jf w cs a) b in
      let m : (m : Operation) × Contains gs m × IsProduct r t.0 m = ig.closed r t.0 cr (w t.0 t.1) in
      (f, m.0, cf, (t.0, t.1, m.2), product_assoc f r t.0 x g m.0 p t.2 m.2)

  -- where g is in FrF, some f·r is in its state
  pub double_from : (r s g : Operation) → Contains gs r → Contains gs s → InDouble (In fs) r g → Times s (In fs) g → (f x : Operation) × Contains fs f × IsProduct f r x × Times s (In fs) x
  double_from r s g cr cs (f, m, cf, t, p) b =
      let x : (x : Operation) × Contains gs x × IsProduct f r x = ig.closed f r (w f cf) cr in
      let back : Times x.0 (In fs) g = (t.0, t.1, product_assoc_back f r t.0 x.0 g m x.2 t.2 p) in
      (f, x.0, cf, x.2, coset_trans gs fs s g x.0 ig jf w cs b (coset_sym gs fs x.0 g ig jf w x.1 back))

  pub double_self : (g : Operation) → Contains gs g → InDouble (In fs) g g
  double_self g c = (identity, g, jf.one, coset_self gs fs g ig jf c, (group_one gs g ig c).0)

  pub double_sym : (g k : Operation) → Contains gs g → Contains gs k → InDouble (In fs) g k → InDouble (In fs) k g
  double_sym g k cg ck (f, m, cf, s, p) =
      let f' : InverseIn (In fs) f = jf.inverses f cf in
      let s' : InverseIn (In fs) s.0 = jf.inverses s.0 s.1 in
      let n : (n : Operation) × Contains gs n × IsProduct k s'.0 n = ig.closed k s'.0 ck (w s'.0 s'.1) in
      let cm : Contains gs m = coset_within gs fs g m ig w cg s in
      let a : IsProduct f'.0 k m = product_assoc f'.0 f m identity m k f'.3 (group_one gs m ig cm).0 p in
      let b : IsProduct m s'.0 g = product_assoc_back g s.0 s'.0 m g identity s.2 s'.2 (group_one gs g ig cg).1 in
      (f'.0, n.0, f'.1, (s'.0, s'.1, n.2), product_assoc f'.0 k s'.0 m g n.0 a b n.2)

  pub double_trans : (g k l : Operation) → Contains gs g → InDouble (In fs) g k → InDouble (In fs) k l → InDouble (In fs) g l
  double_trans g k l cg (f, m, cf, s, p) (f', m', cf', s', p') =
      let a : (a : Operation) × Contains fs a × IsProduct f' f a = jf.closed f' f cf' cf in
      let b : (b : Operation) × Contains fs b × IsProduct s.0 s'.0 b = jf.closed s.0 s'.0 s.1 s'.1 in
      let n : (n : Operation) × Contains gs n × IsProduct g b.0 n = ig.closed g b.0 cg (w b.0 b.1) in
      let c : IsProduct m s'.0 n.0 = product_assoc_back g s.0 s'.0 m n.0 b.0 s.2 b.2 n.2 in
      let d : IsProduct f n.0 m' = product_assoc f m s'.0 k m' n.0 p s'.2 c in
      (a.0, n.0, a.1, (b.0, b.1, n.2), product_assoc_back f' f n.0 a.0 l m' a.2 d p')

  -- ---- exchanged states
  -- the coset of a member is the group
  member_coset : (x k : Operation) → Contains fs x → Times x (In fs) k ↔ Contains fs k
  member_coset x k c = (λ t. group_product fs x t.0 k jf c t.1 t.2, back)
    where
      back : Contains fs k → Times x (In fs) k
      back ck =
          let v : InverseIn (In fs) x = jf.inverses x c in
          let f : (f : Operation) × Contains fs f × IsProduct v.0 k f = jf.closed v.0 k v.1 ck in
          (f.0, f.1, product_assoc x v.0 k identity k f.0 v.2 (group_one fs k jf ck).0 f.2)

  pub swaps_told : (r f h x : Operation) → Contains gs r → Contains fs f → IsProduct r f h → IsProduct h r x → Contains fs x → IsSwappable (In gs) (In fs) r
  swaps_told r f h x cr cf p q cx =
      let ch : Contains gs h = group_product gs r f h ig cr (w f cf) p in
      let a : Times r (In fs) h = (f, cf, p) in
      let b : Times h (In fs) r = coset_sym gs fs r h ig jf w cr a in (
        h,
        ch,
        λ k. (coset_trans gs fs r h k ig jf w cr a, coset_trans gs fs h r k ig jf w ch b),
        λ k. (λ t. (member_coset x k cx).0 ((coset_moved gs fs h r x k ig w ch cr q).0 t), λ c. (coset_moved gs fs h r x k ig w ch cr q).1 ((member_coset x k cx).1 c)),
      )

  pub swaps_from : (r : Operation) → Contains gs r → IsSwappable (In gs) (In fs) r → (f h x : Operation) × Contains fs f × IsProduct r f h × IsProduct h r x × Contains fs x
  swaps_from r cr (h, ch, same, back) =
      let t : Times r (In fs) h = (same h).0 (coset_self gs fs h ig jf ch) in
      let x : (x : Operation) × Contains gs x × IsProduct h r x = ig.closed h r ch cr in
      (t.0, h, x.0, t.1, t.2, x.2, (back x.0).0 (r, coset_self gs fs r ig jf cr, x.2))

  pub swaps_more : (r : Operation) (n : ℕ) (f h x : Operation) (b : Bool) → ((q : ℕ) (d y z : Operation) → q < n → IsProduct r (slice_index_or fs q d) y → IsProduct y r z → ¬ Contains fs z) → ((d : Operation) → slice_index_or fs n d ≡ f) → IsProduct r f h → IsProduct h r x → (IsTrue b ↔ Contains fs x) → b ≡ false → (q : ℕ) (d y z : Operation) → q < n + 1 → IsProduct r (slice_index_or fs q d) y → IsProduct y r z → ¬ Contains fs z
  swaps_more r n f h x b i at p u t e q d y z l a c = by (cases_lt q n)
    where
      by : (q < n) ⊎ (n ≤ q) → ¬ Contains fs z
      by (inl m) = i q d y z m a c
      by (inr m) = λ k.
          let s : q ≡ n = omega arith in
          let same : y ≡ h = product_unique r f y h (subst (λ g. IsProduct r g y) (ap (λ j. slice_index_or fs j d) s ∙ at d) a) p in
          let twice : z ≡ x = product_unique h r z x (subst (λ g. IsProduct g r z) same c) u in
          false≢true (sym e ∙ t.1 (subst (Contains fs) twice k))

  pub swaps_found : (r f h x : Operation) → Contains gs r → Contains fs f → IsProduct r f h → IsProduct h r x → Contains fs x → IsTrue true ↔ IsSwappable (In gs) (In fs) r
  swaps_found r f h x cr cf p q cx = (λ t. swaps_told r f h x cr cf p q cx, λ t. refl)

  pub swaps_none : (r : Operation) (n : ℕ) → Contains gs r → length fs ≤ n → ((q : ℕ) (d y z : Operation) → q < n → IsProduct r (slice_index_or fs q d) y → IsProduct y r z → ¬ Contains fs z) → IsTrue false ↔ IsSwappable (In gs) (In fs) r
  swaps_none r n cr l i = (λ h. absurd (false≢true h), λ t. absurd (none (swaps_from r cr t)))
    where
      none : (f h x : Operation) × Contains fs f × IsProduct r f h × IsProduct h r x × Contains fs x → ⊥
      none (f, h, x, cf, p, q, cx) = let b = cf.1 in i cf.0 f h x (omega arith) (subst (λ y. IsProduct r y h) (sym cf.2) p) q cx
