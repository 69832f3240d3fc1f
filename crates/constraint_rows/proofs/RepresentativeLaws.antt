-- A table of first components under a symbol's exchanges, marked by diagonal elements, tells the representatives.
--   marked_settled, marked_sound    a marked table is sound
--   marked_representatives    and tells the representatives
--   IsAxisTable, axis_made, axis_settled, axis_sound, axis_representatives    for the numbers of a typed rank
use Rattle.list_laws.proofs.Kit.{[], ◌≡◌, ℕ, ◌^◌, ◌<◌, Bool, true, false, cond, List, refl, ap, sym, ◌∙◌, arith, subst, ◌⊎◌, inl, inr, cases_Bool, both_ways}
use Rattle.std.specs.Prelude.{Option, Some, None}
use Rattle.tensor_rank.specs.Prelude.{exchange_moves, component_below_at, index_number_at, Ordering, before_at, before_of, ShapeValue, IsShapeOf}
use Rattle.tensor_rank.specs.Prelude.{exchanges_of, AllWithin}
use Rattle.list_laws.proofs.Tests.{same_truth}
use Rattle.tensor_defs.specs.Prelude.{AreRepresentatives, IsDropped, IsRepresentative, IsSign, AllOf, IsPlain, JahnSymbol, rank, body_brackets, HasSymmetry}
use Rattle.tensor_defs.specs.Prelude.{IsInvariant, Number, mul, num_one, Operation, Index, Marks, Tensor, coefficient, component_number, index_of}
use Rattle.tensor_defs.specs.declared.Sign.{Sign}
use Rattle.tensor_defs.specs.declared.Sign.TheVariants.{Plus, Minus}
use Rattle.tensor_laws.proofs.ComponentNumbers.{length-index_of}
use Rattle.magnetic_groups.specs.Sets.{In}
use Rattle.sign_moves.specs.declared.classes.Entry.{Entry}
use Rattle.sign_moves.specs.Prelude.{entry_at, first_at, sign_at, vanishes_at, AreSettled, IsFirstTable, IsReversible, signed}
use Rattle.sign_moves.proofs.FirstLaws.{first_same, firsts_tell}
use Rattle.sign_moves.proofs.JoinedLaws.{joined_reversible, first_joined}
use Rattle.tensor_rank.specs.declared.exchanges.Exchange.{Exchange}
use Rattle.tensor_rank.proofs.ExchangeIndex.{numbered}
use Rattle.tensor_rank.proofs.ExchangeLaws.{exchanges_reversible}
use Rattle.constraint_rows.specs.Prelude.{IsGeneratedBy, class_at, moves_of, AreMarked, IsMarked, StandForAll, op_moves, AreSound, IsKilled, IsOwn}
use Rattle.constraint_rows.specs.Prelude.{carried_to, carrier_of}
use Rattle.constraint_rows.proofs.ClassLaws.{not_zero_by_table, path_carried, turned_class, zero_by_table}
use Rattle.constraint_rows.proofs.DiagonalLaws.{killed_along, own_carried}
use Rattle.constraint_rows.proofs.InvariantLaws.{all_moves, invariant_kept}
use Rattle.constraint_rows.proofs.OpIndex.{signed_mul}
use Rattle.constraint_rows.proofs.OpLaws.{ops_reversible}

-- ---- what an entry tells
class_told : (b : Bool) (x : ℕ × Sign) (d : ℕ) (s : Sign) → cond b None (Some x) ≡ Some (d, s) → (b ≡ false) × (x.0 ≡ d) × (x.1 ≡ s)
class_told true x d s e = cc
class_told false x d s e = let same : x ≡ (d, s) = cc in (refl, ap (λ y. y.0) same, ap (λ y. y.1) same)

class_none : (b : Bool) (x : ℕ × Sign) → cond b None (Some x) ≡ None → b ≡ true
class_none true x e = refl
class_none false x e = cc

-- ---- a marked table is sound
module _ (n r : ℕ) (size : n ≡ 3 ^ r) (m : Marks) (hs : List Operation) (xs : List Exchange) (within : AllWithin r xs) (o : Ordering)
    (es new : List Entry) (table : IsFirstTable n (moves_of r xs []) (before_at r o) es) (marked : AreMarked r m hs es new) where
  can_go_back : IsReversible n (moves_of r xs [])
  can_go_back = joined_reversible (exchanges_reversible n r xs size within) (ops_reversible n r [] size (record { each = λ k h. absurd (omega arith) }))

  settled : AreSettled n es
  settled = (firsts_tell n (moves_of r xs []) (before_at r o) es can_go_back table).settled

  at : (c : ℕ) → c < n → IsMarked r m hs (entry_at es c) (entry_at new c)
  at c h = marked.each c (subst (λ k. c < k) (sym table.len) h)

  first_is : (c : ℕ) → c < n → first_at new c ≡ first_at es c
  first_is c h = (at c h).same_first

  -- first components vanish with those that lead to them
  vanish_together : (c : ℕ) → c < n → vanishes_at new (first_at es c) ≡ vanishes_at new c
  vanish_together c h =
      let f : ℕ = first_at es c in
      let l : f < n = settled.below c h in
      let own : first_at es f ≡ f = settled.own c h in
      let same : vanishes_at es f ≡ vanishes_at es c = settled.together c h in
      same_truth (vanishes_at new f) (vanishes_at new c)
      (λ v. (at c h).vanishes.1 (elim ((at f l).vanishes.0 v) as (λ _. (vanishes_at es c ≡ true) ⊎ IsKilled m (In hs) (index_of r f)) [
        | inl p ↦ inl (sym same ∙ p)
        | inr p ↦ inr (subst (λ k. IsKilled m (In hs) (index_of r k)) own p)
      ]))
      (λ v. (at f l).vanishes.1 (elim ((at c h).vanishes.0 v) as (λ _. (vanishes_at es f ≡ true) ⊎ IsKilled m (In hs) (index_of r (first_at es f))) [
        | inl p ↦ inl (same ∙ p)
        | inr p ↦ inr (subst (λ k. IsKilled m (In hs) (index_of r k)) (sym own) p)
      ]))

  pub marked_settled : AreSettled n new
  marked_settled = record {
    len = marked.len ∙ table.len;
    below = λ c h. subst (λ k. k < n) (sym (first_is c h)) (settled.below c h);
    own = λ c h. ap (first_at new) (first_is c h) ∙ first_is (first_at es c) (settled.below c h) ∙ settled.own c h ∙ sym (first_is c h);
    together = λ c h. ap (vanishes_at new) (first_is c h) ∙ vanish_together c h;
  }

  told : (c d : ℕ) (s : Sign) → c < n → class_at new c ≡ Some (d, s) → (vanishes_at new c ≡ false) × (first_at es c ≡ d)
  told c d s h e =
      let t = class_told (vanishes_at new c) (first_at new c, sign_at new c) d s e in
      (t.0, sym (first_is c h) ∙ t.1)

  first_own : (c : ℕ) → c < n → vanishes_at new c ≡ false → IsOwn new (first_at es c)
  first_own c h v =
      let f : ℕ = first_at es c in
      let l : f < n = settled.below c h in
      let open_there : vanishes_at new f ≡ false = vanish_together c h ∙ v in
      let first_there : first_at new f ≡ f = first_is f l ∙ settled.own c h in
      let plus : sign_at new f ≡ Plus = (at f l).same_sign ∙ table.own_sign c h in
      λ i. cond (open_there i) None (Some (first_there i, plus i))

  pub marked_sound : AreSound n (before_at r o) new
  marked_sound = record {
    own = λ c d s h e. let t = told c d s h e in subst (IsOwn new) t.1 (first_own c h t.0);
    below = λ c d s h e. subst (λ k. k < n) (told c d s h e).1 (settled.below c h);
    first = λ c d s h e. subst (λ k. before_at r o c k ≡ false) (told c d s h e).1 (table.least c c h h refl);
  }

-- ---- and tells the representatives
carried_told : (r : ℕ) (o : Option (ℕ × Sign)) (d : Index) (s : Number) → carried_to r o ≡ Some (d, s) →
    (x : ℕ × Sign) × (o ≡ Some x) × (index_of r x.0 ≡ d) × (signed x.1 num_one ≡ s)
carried_told r None d s e = cc
carried_told r (Some x) d s e =
    let here : Index × Number = (index_of r x.0, signed x.1 num_one) in
    let there : Index × Number = (d, s) in
    let same : here ≡ there = cc in
    (x, refl, ap (λ y. y.0) same, ap (λ y. y.1) same)

carried_none : (r : ℕ) (o : Option (ℕ × Sign)) → carried_to r o ≡ None → o ≡ None
carried_none r None e = refl
carried_none r (Some x) e = cc

sign_of : (u : Number) → IsSign u → (s : Sign) × (u ≡ signed s num_one)
sign_of u (inl e) = (Plus, e)
sign_of u (inr e) = (Minus, e)

is_sign : (s : Sign) → IsSign (signed s num_one)
is_sign Plus = inl refl
is_sign Minus = inr refl

-- no operation is in the empty list
none_stand : (m : Marks) → StandForAll m [] []
none_stand m = record { len = refl; each = λ k h. absurd (omega arith) }

none_generated : IsGeneratedBy [] []
none_generated = record { generated = λ h is. absurd (omega (arith, is.1)); within = λ g is. is }

none_plain : AllOf (In []) IsPlain
none_plain g is = absurd (omega (arith, is.1))

symmetric_invariant : (j : JahnSymbol) (t : Tensor) → HasSymmetry j t → IsInvariant j (In []) t
symmetric_invariant j t h = record { symmetric = h; unchanged = λ g is. absurd (omega (arith, is.1)) }

module _ (j : JahnSymbol) (hs : List Operation) (o : Ordering) (es new : List Entry)
    (inside : AllWithin (rank j) (exchanges_of (body_brackets j.factors 0)))
    (back : IsReversible (3 ^ rank j) (all_moves j []))
    (table : IsFirstTable (3 ^ rank j) (all_moves j []) (before_at (rank j) o) es)
    (marked : AreMarked (rank j) j.marks hs es new) where
  entry_marked : (k : ℕ) → k < 3 ^ rank j → IsMarked (rank j) j.marks hs (entry_at es k) (entry_at new k)
  entry_marked k h = marked.each k (subst (λ i. k < i) (sym table.len) h)

  -- a component and its first component have the same coefficient under a diagonal operation
  same_coefficient : (k : ℕ) → k < 3 ^ rank j → (g : Operation) →
      coefficient g (index_of (rank j) k) (index_of (rank j) k) ≡ coefficient g (index_of (rank j) (first_at es k)) (index_of (rank j) (first_at es k))
  same_coefficient k h g =
      own_carried j g (path_carried j [] [] [] (none_stand j.marks) inside none_generated none_plain o es back table (table.reached k h).1 h)

  dropped : (k : ℕ) → k < 3 ^ rank j → vanishes_at new k ≡ true → IsDropped j (In hs) (index_of (rank j) k)
  dropped k h v = elim ((entry_marked k h).vanishes.0 v) as (λ _. IsDropped j (In hs) (index_of (rank j) k)) [
    | inl p ↦
        let z = zero_by_table j [] [] [] (none_stand j.marks) inside none_generated none_plain o es back table k h p in
        inl (λ t s. z.zero t (symmetric_invariant j t s))
    | inr p ↦
        let here : IsKilled j.marks (In hs) (index_of (rank j) k) = killed_along (λ g. sym (same_coefficient k h g)) p in
        inr (here.element, here.inside, here.diagonal, here.turns)
  ]

  is_dropped : (k : ℕ) → k < 3 ^ rank j → IsDropped j (In hs) (index_of (rank j) k) → vanishes_at new k ≡ true
  is_dropped k h (inl z) = elim (cases_Bool (vanishes_at es k)) as (λ _. vanishes_at new k ≡ true) [
    | inl v ↦ (entry_marked k h).vanishes.1 (inl v)
    | inr v ↦ absurd (not_zero_by_table j [] [] [] (none_stand j.marks) inside none_generated none_plain o es back table k h v
        (record { zero = λ t inv. z t inv.symmetric }))
  ]
  is_dropped k h (inr d) =
      let here : IsKilled j.marks (In hs) (index_of (rank j) k) = record { element = d.0; inside = d.1; diagonal = d.2; turns = d.3 } in
      (entry_marked k h).vanishes.1 (inr (killed_along (same_coefficient k h) here))

  not_vanishing : (k : ℕ) → k < 3 ^ rank j → vanishes_at new k ≡ false → vanishes_at es k ≡ false
  not_vanishing k h v = elim (cases_Bool (vanishes_at es k)) as (λ _. vanishes_at es k ≡ false) [
    | inl t ↦ absurd (both_ways (vanishes_at new k) v ((entry_marked k h).vanishes.1 (inl t)))
    | inr f ↦ f
  ]

  first_representative : (k : ℕ) → k < 3 ^ rank j → vanishes_at es k ≡ false →
      IsRepresentative j (before_of o) (index_of (rank j) k) (index_of (rank j) (first_at es k)) (signed (sign_at es k) num_one)
  first_representative k h v = record {
    of_rank = length-index_of (rank j) (first_at es k);
    is_sign = is_sign (sign_at es k);
    tied = λ t s.
        first_same (3 ^ rank j) (all_moves j []) (before_at (rank j) o) es back table (numbered (rank j) t)
        (invariant_kept j [] [] (none_stand j.marks) inside t (symmetric_invariant j t s)) k h v
        ∙ sym (signed_mul (sign_at es k) (t (index_of (rank j) (first_at es k))));
    first = λ e u l is tied less.
        let s = sign_of u is in
        let n : ℕ = component_number e in
        let below : n < 3 ^ rank j = component_below_at (rank j) e l in
        let there : index_of (rank j) n ≡ e = index_number_at (rank j) e l in
        let class = turned_class j [] [] [] (none_stand j.marks) inside none_generated none_plain o es back table k h v n below s.0 (λ t inv.
        tied t inv.symmetric ∙ ap (λ x. mul x (t e)) s.1 ∙ signed_mul s.0 (t e) ∙ ap (λ y. signed s.0 (t y)) (sym there)) in
        let not_less : before_of o (index_of (rank j) n) (index_of (rank j) (first_at es k)) ≡ false = table.least k n h below class.0 in
        both_ways (before_of o e (index_of (rank j) (first_at es k)))
        (ap (λ y. before_of o y (index_of (rank j) (first_at es k))) (sym there) ∙ not_less) less;
  }

  pub marked_representatives : AreRepresentatives j (In hs) (before_of o) (carrier_of (rank j) new)
  marked_representatives = record {
    none = λ c l. (
      λ e. subst (IsDropped j (In hs)) (index_number_at (rank j) c l)
          (dropped (component_number c) (component_below_at (rank j) c l)
          (class_none (vanishes_at new (component_number c)) (first_at new (component_number c), sign_at new (component_number c)) (carried_none (rank j) (class_at new (component_number c)) e))),
      λ d.
          let v = is_dropped (component_number c) (component_below_at (rank j) c l) (subst (IsDropped j (In hs)) (sym (index_number_at (rank j) c l)) d) in
          ap (λ b. carried_to (rank j) (cond b None (Some (first_at new (component_number c), sign_at new (component_number c))))) v,
    );
    some = λ c d s l e.
        let k : ℕ = component_number c in
        let h : k < 3 ^ rank j = component_below_at (rank j) c l in
        let x = carried_told (rank j) (class_at new k) d s e in
        let t = class_told (vanishes_at new k) (first_at new k, sign_at new k) x.0.0 x.0.1 x.1 in
        let first_is : first_at es k ≡ x.0.0 = sym (entry_marked k h).same_first ∙ t.1 in
        let sign_is : sign_at es k ≡ x.0.1 = sym (entry_marked k h).same_sign ∙ t.2 in
        let base = first_representative k h (not_vanishing k h t.0) in
        let goes : index_of (rank j) (first_at es k) ≡ d = ap (index_of (rank j)) first_is ∙ x.2 in
        let turns : signed (sign_at es k) num_one ≡ s = ap (λ y. signed y num_one) sign_is ∙ x.3 in
        subst (λ y. IsRepresentative j (before_of o) c d y) turns
        (subst (λ y. IsRepresentative j (before_of o) c y (signed (sign_at es k) num_one)) goes
        (subst (λ y. IsRepresentative j (before_of o) y (index_of (rank j) (first_at es k)) (signed (sign_at es k) num_one)) (index_number_at (rank j) c l) base));
  }

-- ---- for the numbers of a typed rank
pub record IsAxisTable (n r : ℕ) (hs : List Operation) (s : ShapeValue) (o : Ordering) (new : List Entry) : Type 0 where
  pub table : List Entry
  pub within : AllWithin r s.exchanges
  pub firsts : IsFirstTable n (moves_of r s.exchanges []) (before_at r o) table
  pub marked : AreMarked r s.marks hs table new

pub axis_made : {n r : ℕ} {hs : List Operation} {s : ShapeValue} {o : Ordering} {m : Marks} {es ds new : List Entry} →
    AllWithin r s.exchanges → IsFirstTable n (exchange_moves r s.exchanges) (before_at r o) es → m ≡ s.marks → ds ≡ es →
    AreMarked r m hs ds new → IsAxisTable n r hs s o new
axis_made {n} {r} {hs} {s} {o} {m} {es} {ds} {new} within firsts marks same marked = record {
  table = es;
  within = within;
  firsts = first_joined n (exchange_moves r s.exchanges) (op_moves r []) (before_at r o) es refl firsts;
  marked = subst (λ (x : Marks). AreMarked r x hs es new) marks (subst (λ (ys : List Entry). AreMarked r m hs ys new) same marked);
}

pub axis_settled : {n r : ℕ} {hs : List Operation} {s : ShapeValue} {o : Ordering} {new : List Entry} → n ≡ 3 ^ r →
    IsAxisTable n r hs s o new → AreSettled n new
axis_settled {n} {r} {hs} {s} {o} {new} size t = marked_settled n r size s.marks hs s.exchanges t.within o t.table new t.firsts t.marked

pub axis_sound : {n r : ℕ} {hs : List Operation} {s : ShapeValue} {o : Ordering} {new : List Entry} → n ≡ 3 ^ r →
    IsAxisTable n r hs s o new → AreSound n (before_at r o) new
axis_sound {n} {r} {hs} {s} {o} {new} size t = marked_sound n r size s.marks hs s.exchanges t.within o t.table new t.firsts t.marked

pub axis_representatives : {n r : ℕ} {hs : List Operation} {s : ShapeValue} {o : Ordering} {new : List Entry} → n ≡ 3 ^ r →
    IsAxisTable n r hs s o new → (j : JahnSymbol) → IsShapeOf j r s → AreRepresentatives j (In hs) (before_of o) (carrier_of r new)
axis_representatives {n} {r} {hs} {s} {o} {new} size t j shape =
    let own = exchanges_of (body_brackets j.factors 0) in
    let C : ℕ → ℕ → List Exchange → Marks → Type 0 = λ n r xs m. AllWithin r xs → IsReversible n (moves_of r xs []) →
    IsFirstTable n (moves_of r xs []) (before_at r o) t.table → AreMarked r m hs t.table new →
    AreRepresentatives j (In hs) (before_of o) (carrier_of r new) in
    let base : C (3 ^ rank j) (rank j) own j.marks = λ w b f k. marked_representatives j hs o t.table new w b f k in
    let one : C (3 ^ r) r own j.marks = subst (λ (x : ℕ). C (3 ^ x) x own j.marks) shape.rank_is base in
    let two : C n r own j.marks = subst (λ (x : ℕ). C x r own j.marks) (sym size) one in
    let three : C n r s.exchanges j.marks = subst (λ (x : List Exchange). C n r x j.marks) (sym shape.exchanges_are) two in
    let four : C n r s.exchanges s.marks = subst (λ (x : Marks). C n r s.exchanges x) (sym shape.marks_are) three in
    four t.within (can_go_back n r size s.marks hs s.exchanges t.within o t.table new t.firsts t.marked) t.firsts t.marked
