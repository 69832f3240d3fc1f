-- The states that lie in a double coset FgF, marked by the products f·g.
--   IsMarking, marking_none, marking_more    those of the first n products
--   last_none, last_more    the greatest of their numbers
--   marking_done    all of them
use Rattle.list_laws.proofs.Kit.{◌≡◌, ℕ, ◌+◌, ◌⊎◌, inl, inr, ◌<◌, ◌≤◌, Bool, true, false, List, length, ap, sym, ◌∙◌, arith, subst, nat_tests, cases_lt}
use Rattle.list_laws.proofs.Kit.{length-set}
use Rattle.std.specs.Prelude.{Contains, replicate, set, slice_index_or, Some}
use Rattle.std.specs.Ordering.{ord_max}
use Rattle.std.proofs.Common.{nat_cmp}
use Rattle.tensor_defs.specs.Prelude.{Operation, IsProduct, AreStates, InDouble, IsState, Times}
use Rattle.tensor_laws.proofs.Prelude.{one_state}
use Rattle.magnetic_groups.specs.Prelude.{mark_at, In, IsGroup, IsWithin}
use Rattle.group_closing.proofs.Reaching.{no_mark, set_kept, set_new, set_told}
use Rattle.coset_states.specs.Numbering.{Cosets, TellsState}
use Rattle.twin_pairs.specs.Classes.{AreMarked, IsLast}
use Rattle.twin_pairs.proofs.DoubleCosets.{double_from, double_told}
use Rattle.twin_pairs.proofs.Listings.{state_within}

-- f·r lies in state k, and in no other
pub record IsCarried (c : Cosets) (f r : Operation) (k : ℕ) : Type 0 where
  pub state : (x : Operation) → IsProduct f r x → TellsState c x (Some k)
  pub only : (x s : Operation) (l : ℕ) → IsProduct f r x → IsState c.reps l s → Times s (In c.sub) x → l ≡ k

pub record IsMarking (c : Cosets) (r : Operation) (n : ℕ) (m : List Bool) : Type 0 where
  pub sized : length m ≡ 129
  pub sound : (k : ℕ) → mark_at m k ≡ true →
      (f x s : Operation) × Contains c.sub f × IsProduct f r x × IsState c.reps k s × Times s (In c.sub) x
  pub complete : (q : ℕ) (d x s : Operation) (k : ℕ) → q < n → IsProduct (slice_index_or c.sub q d) r x →
      IsState c.reps k s → Times s (In c.sub) x → mark_at m k ≡ true

pub marking_none : (c : Cosets) (r : Operation) (m : List Bool) → m ≡ replicate 129 false → IsMarking c r 0 m
marking_none c r m e = record {
  sized = ap length e;
  sound = λ k t. absurd (no_mark 129 k (subst (λ x. mark_at x k ≡ true) e t));
  complete = λ q d x s k h. absurd (omega arith);
}

pub last_none : (m : List Bool) → m ≡ replicate 129 false → IsLast m 0
last_none m e k t = absurd (no_mark 129 k (subst (λ x. mark_at x k ≡ true) e t))

max_above : (a b : ℕ) → (a ≤ ord_max nat_cmp a b) × (b ≤ ord_max nat_cmp a b)
max_above a b = (first_of (grind (arith, nat_tests), omega arith), first_of (grind (arith, nat_tests), omega arith))

pub last_more : (m : List Bool) (k last : ℕ) → IsLast m last → IsLast (set m k true) (ord_max nat_cmp last k)
last_more m k last i j t = let u = max_above last k in let a = u.0 in let b = u.1 in elim (set_told m k j t) [ inl e ↦ omega (arith, b, e) | inr h ↦ let o = i j h in omega (arith, o, a) ]

module _ (c : Cosets) (r : Operation) (ig : IsGroup c.whole) (jf : IsGroup c.sub) (w : IsWithin c.sub c.whole) (a : AreStates (In c.whole) (In c.sub) c.reps) (cr : Contains c.whole r) where
  pub marking_more : (n k : ℕ) (f : Operation) (m : List Bool) → IsMarking c r n m → Contains c.sub f → ((d : Operation) → slice_index_or c.sub n d ≡ f) → IsCarried c f r k → k ≤ 128 → IsMarking c r (n + 1) (set m k true)
  marking_more n k f m i cf at u h = record {
    sized = length-set m k true ∙ i.sized;
    sound = λ j t. told j (set_told m k j t);
    complete = λ q d x s j l p is t. by q d x s j (cases_lt q n) l p is t;
  }
    where
      told : (j : ℕ) → (j ≡ k) ⊎ (mark_at m j ≡ true) → (f x s : Operation) × Contains c.sub f × IsProduct f r x × IsState c.reps j s × Times s (In c.sub) x
      told j (inl e) =
          let p : (x : Operation) × Contains c.whole x × IsProduct f r x = ig.closed f r (w f cf) cr in
          let v : TellsState c p.0 (Some k) = u.state p.0 p.2 in
          (f, p.0, v.0, cf, p.2, subst (λ l. IsState c.reps l v.0) (sym e) v.1, v.2)
      told j (inr t) = i.sound j t

      by : (q : ℕ) (d x s : Operation) (j : ℕ) → (q < n) ⊎ (n ≤ q) → q < n + 1 → IsProduct (slice_index_or c.sub q d) r x → IsState c.reps j s → Times s (In c.sub) x → mark_at (set m k true) j ≡ true
      by q d x s j (inl l) b p is t = set_kept m k j (i.complete q d x s j l p is t)
      by q d x s j (inr l) b p is t =
          let e : q ≡ n = omega arith in
          let v : IsProduct f r x = subst (λ g. IsProduct g r x) (ap (λ z. slice_index_or c.sub z d) e ∙ at d) p in
          let y : j ≡ k = u.only x s j v is t in
          let z = i.sized in
          subst (λ l. mark_at (set m k true) l ≡ true) (sym y) (set_new m k (omega (arith, z)))

  pub marking_done : (n : ℕ) (m : List Bool) → IsMarking c r n m → length c.sub ≤ n → AreMarked c r m
  marking_done n m i h = record {
    sized = i.sized;
    tells = λ k x v. (λ t. forth k x v (i.sound k t), λ d. back k x v (double_from c.whole c.sub ig jf w r v.0 x cr (within k v.0 v.1) d v.2));
  }
    where
      within : (k : ℕ) (s : Operation) → IsState c.reps k s → Contains c.whole s
      within k s is = state_within c.whole c.sub c.reps a k s is

      forth : (k : ℕ) (x : Operation) → TellsState c x (Some k) → (f y s : Operation) × Contains c.sub f × IsProduct f r y × IsState c.reps k s × Times s (In c.sub) y → InDouble (In c.sub) r x
      forth k x v (f, y, s, cf, p, is, t) =
          let e : s ≡ v.0 = one_state c.reps k s v.0 is v.1 in
          double_told c.whole c.sub ig jf w r s x f y cr (within k s is) cf p t (subst (λ g. Times g (In c.sub) x) (sym e) v.2)

      back : (k : ℕ) (x : Operation) (v : TellsState c x (Some k)) → (f y : Operation) × Contains c.sub f × IsProduct f r y × Times v.0 (In c.sub) y → mark_at m k ≡ true
      back k x v (f, y, cf, p, t) = let b = cf.1 in i.complete cf.0 f y v.0 k (omega arith) (subst (λ g. IsProduct g r y) (sym cf.2) p) v.1 t
