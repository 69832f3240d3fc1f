-- A table of first components tells the classes over the invariant tensors.
--   classes_told    the same for the numbers of a typed rank
use Rattle.list_laws.proofs.Kit.{[], ◌≡◌, ◌≢◌, ℕ, zero, suc, ◌-◌, ◌^◌, ◌<◌, Bool, true, false, cond, List, ◌∷◌, length, get_or, refl, ap, sym, ◌∙◌, arith}
use Rattle.list_laws.proofs.Kit.{subst, inl, inr, eqb-true, cases_lt, cases_Bool, both_ways, eqb_tells, get_or_default}
use Rattle.std.specs.Prelude.{Contains, eqb, Some, None}
use Rattle.std.proofs.lemmas.Bool.{eq-eqb}
use Rattle.tensor_laws.proofs.Prelude.{index_cases, length-index_of, number-index_of}
use Rattle.tensor_defs.specs.Prelude.{AllOf, IsPlain, JahnSymbol, Bracket, rank, body_brackets, IsInvariant, Respects, Each, Number, neg, num_zero, num_one}
use Rattle.tensor_defs.specs.Prelude.{Operation, identity, Index, Tensor, coefficient, component_number, index_of}
use Rattle.tensor_defs.specs.declared.Sign.{Sign}
use Rattle.tensor_defs.specs.declared.Sign.TheVariants.{Plus, Minus}
use Rattle.number_laws.proofs.NumberLaws.{num_neg-neg}
use Rattle.magnetic_groups.specs.Sets.{In}
use Rattle.sign_moves.specs.declared.classes.Entry.{Entry}
use Rattle.sign_moves.specs.Prelude.{first_at, sign_at, vanishes_at, IsFirstTable, IsReversible, IsKept, Reaches, stay, move, signed}
use Rattle.sign_moves.proofs.FirstLaws.{spread, spread_kept, spread_open, spread_vanishing, first_can, first_same}
use Rattle.sign_moves.proofs.JoinedLaws.{at_first, at_second, kept_again}
use Rattle.sign_moves.proofs.SignLaws.{signed_zero, sign_not_zero}
use Rattle.tensor_rank.specs.declared.exchanges.Exchange.{Exchange}
use Rattle.tensor_rank.specs.Prelude.{Carried, rests, steps, Exchanges, IsZeroAt, IsFirstCarried, TellsClass, exchange_moves, exchanged, index_number_at}
use Rattle.tensor_rank.specs.Prelude.{component_below_at, Ordering, before_of, before_at, ShapeValue, IsShapeOf, exchanges_of, AllWithin, IsWithin}
use Rattle.tensor_rank.proofs.ExchangeIndex.{numbered, length_exchanged, can_exchange, exchange_lands, all_from, each_exchange}
use Rattle.tensor_rank.proofs.ShapeLaws.{carried_join}
use Rattle.constraint_rows.specs.declared.ops.PlainOp.{PlainOp}
use Rattle.constraint_rows.specs.Classes.{GroupStep, exchange, turn, class_at, IsGeneratedBy, IsPlainTable, moves_of}
use Rattle.constraint_rows.specs.PlainOps.{op_carried, op_sign, op_at, op_moves, StandsFor, StandForAll}
use Rattle.constraint_rows.proofs.InvariantLaws.{all_moves, invariant_kept, kept_invariant, generators_suffice, fewer_suffice}
use Rattle.constraint_rows.proofs.OpIndex.{moved, list_signs, moved_number, act_number, coefficient_other, coefficient_own}
use Rattle.constraint_rows.proofs.StandLaws.{plain_stands}

-- 1 where it is told, else 0
one_where : Bool → Number
one_where true = num_one
one_where false = num_zero

-- 1 at one first component and 0 at all others
abbrev unit : ℕ → ℕ → Number
unit r d = one_where (eqb d r)

module _
    (j : JahnSymbol) (hs gs : List Operation) (ps : List PlainOp) (all : StandForAll j.marks gs ps)
    (inside : AllWithin (rank j) (exchanges_of (body_brackets j.factors 0))) (gen : IsGeneratedBy hs gs)
    (plain : AllOf (In hs) IsPlain) (o : Ordering) (es : List Entry)
    (back : IsReversible (3 ^ rank j) (all_moves j ps))
    (table : IsFirstTable (3 ^ rank j) (all_moves j ps) (before_at (rank j) o) es) where
  group_kept : (t : Tensor) → IsInvariant j (In hs) t → IsKept (3 ^ rank j) (all_moves j ps) (numbered (rank j) t)
  group_kept t inv = invariant_kept j gs ps all inside t (fewer_suffice j (In gs) (In hs) t gen.within inv)

  abbrev spread_at : (ℕ → Number) → ℕ → Number
  spread_at x c = spread (vanishes_at es) (sign_at es) (first_at es) x c

  -- numbers at the first components, as a tensor
  abbrev spread_tensor : (ℕ → Number) → Tensor
  spread_tensor x is = spread_at x (component_number is)

  spread_is : (x : ℕ → Number) (c : ℕ) → c < 3 ^ rank j → numbered (rank j) (spread_tensor x) c ≡ spread_at x c
  spread_is x c h = ap (spread_at x) (number-index_of (rank j) c h)

  spread_invariant : (x : ℕ → Number) → IsInvariant j (In hs) (spread_tensor x)
  spread_invariant x =
      generators_suffice j (In gs) (In hs) (spread_tensor x) gen.generated
      (kept_invariant j gs ps all inside (spread_tensor x)
      (kept_again (spread_at x) (numbered (rank j) (spread_tensor x)) back (spread_is x)
      (spread_kept (first_can (3 ^ rank j) (all_moves j ps) (before_at (rank j) o) es back table) x)))

  -- a tensor that is 1 or -1 at c, and 0 outside the class of c
  unit_here : (c : ℕ) → c < 3 ^ rank j → vanishes_at es c ≡ false →
      numbered (rank j) (spread_tensor (unit (first_at es c))) c ≡ signed (sign_at es c) num_one
  unfolding one_where
  unit_here c h v =
      spread_is (unit (first_at es c)) c h
      ∙ spread_open (vanishes_at es) (sign_at es) (first_at es) (unit (first_at es c)) c v
      ∙ ap (λ b. signed (sign_at es c) (one_where b)) (eq-eqb (first_at es c) (first_at es c) refl)

  unit_away : (r d : ℕ) → d < 3 ^ rank j → (first_at es d ≢ r) → numbered (rank j) (spread_tensor (unit r)) d ≡ num_zero
  unfolding one_where
  unit_away r d h n = elim (cases_Bool (vanishes_at es d)) as (λ _. numbered (rank j) (spread_tensor (unit r)) d ≡ num_zero) [
    | inl v ↦ spread_is (unit r) d h ∙ spread_vanishing (vanishes_at es) (sign_at es) (first_at es) (unit r) d v
    | inr v ↦
        let off : eqb (first_at es d) r ≡ false = elim (cases_Bool (eqb (first_at es d) r)) as (λ _. eqb (first_at es d) r ≡ false) [
          | inl e ↦ absurd (n (eqb-true (first_at es d) r e))
          | inr e ↦ e
        ] in
        spread_is (unit r) d h ∙ spread_open (vanishes_at es) (sign_at es) (first_at es) (unit r) d v
        ∙ ap (λ b. signed (sign_at es d) (one_where b)) off ∙ signed_zero (sign_at es d)
  ]

  unit_vanishing : (r d : ℕ) → d < 3 ^ rank j → vanishes_at es d ≡ true → numbered (rank j) (spread_tensor (unit r)) d ≡ num_zero
  unit_vanishing r d h v =
      spread_is (unit r) d h ∙ spread_vanishing (vanishes_at es) (sign_at es) (first_at es) (unit r) d v

  pub zero_by_table : (c : ℕ) → c < 3 ^ rank j → vanishes_at es c ≡ true → IsZeroAt (IsInvariant j (In hs)) (index_of (rank j) c)
  zero_by_table c h v = record { zero = λ t inv. table.forced c h v (numbered (rank j) t) (group_kept t inv) }

  pub not_zero_by_table : (c : ℕ) → c < 3 ^ rank j → vanishes_at es c ≡ false →
      IsZeroAt (IsInvariant j (In hs)) (index_of (rank j) c) → ⊥
  not_zero_by_table c h v z =
      sign_not_zero (sign_at es c)
      (sym (unit_here c h v) ∙ z.zero (spread_tensor (unit (first_at es c))) (spread_invariant (unit (first_at es c))))

  -- a component and where a tensor that isn't zero there is carried
  record InClass (c : ℕ) (d : Index) : Type 0 where
    of_rank : length d ≡ rank j
    same : first_at es (component_number d) ≡ first_at es c
    opened : vanishes_at es (component_number d) ≡ false

  pub turned_class : (c : ℕ) → c < 3 ^ rank j → vanishes_at es c ≡ false → (d : ℕ) → d < 3 ^ rank j → (s : Sign) →
      ((t : Tensor) → IsInvariant j (In hs) t → numbered (rank j) t c ≡ signed s (numbered (rank j) t d)) →
      (first_at es d ≡ first_at es c) × (vanishes_at es d ≡ false)
  turned_class c h v d l s told =
      let t = spread_tensor (unit (first_at es c)) in
      let here : signed (sign_at es c) num_one ≡ signed s (numbered (rank j) t d) = sym (unit_here c h v) ∙ told t (spread_invariant (unit (first_at es c))) in
      let not_zero : numbered (rank j) t d ≡ num_zero → ⊥ = λ z. sign_not_zero (sign_at es c) (here ∙ ap (signed s) z ∙ signed_zero s) in (
        elim (eqb_tells (first_at es d) (first_at es c)) as (λ _. first_at es d ≡ first_at es c) [
          | inl p ↦ p.1
          | inr p ↦ absurd (not_zero (unit_away (first_at es c) d l p.1))
        ],
        elim (cases_Bool (vanishes_at es d)) as (λ _. vanishes_at es d ≡ false) [
          | inl p ↦ absurd (not_zero (unit_vanishing (first_at es c) d l p))
          | inr p ↦ p
        ],
      )

  -- each invariant tensor is told at the component to which an exchange carries
  exchange_told : (c d : Index) → (x : Exchanges j c d) → (t : Tensor) → IsInvariant j (In hs) t →
      t c ≡ signed (cond x.bracket.negates Minus Plus) (t d)
  exchange_told c d x t inv =
      sign_back x.bracket.negates (t c) (t d) (each_contains (body_brackets j.factors 0) inv.symmetric x.listed c d x.exchange)
    where
      sign_back : (n : Bool) (x y : Number) → y ≡ cond n (neg x) x → x ≡ signed (cond n Minus Plus) y
      sign_back true x y e = sym (num_neg-neg x) ∙ ap neg (sym e)
      sign_back false x y e = sym e

      each_contains : (bs : List Bracket) → Each (λ b. Respects (rank j) t b) bs → Contains bs x.bracket → Respects (rank j) t x.bracket
      each_contains [] e m = absurd (omega (arith, m.1))
      each_contains (y ∷ bs) e (zero, l, s) = subst (Respects (rank j) t) s e.0
      each_contains (y ∷ bs) e (suc k, l, s) = each_contains bs e.1 (k, omega arith, s)

  only_one : {g : Operation} {p : PlainOp} → StandsFor j.marks g p → (b m : Index) → coefficient g b m ≢ num_zero → m ≡ moved p b
  only_one {g} {p} h b m away = elim (index_cases m (moved p b)) as (λ _. m ≡ moved p b) [
    | inl e ↦ e
    | inr e ↦ absurd (away (coefficient_other h b m e))
  ]

  step_class : (c : ℕ) (b m : Index) → InClass c b → GroupStep j (In hs) b m → InClass c m
  step_class c b m k (exchange x) =
      let n : length m ≡ rank j = length_exchanged x.exchange in
      let told = turned_class (component_number b) (component_below_at (rank j) b k.of_rank) k.opened (component_number m)
      (component_below_at (rank j) m n) (cond x.bracket.negates Minus Plus) (λ t inv.
      ap t (index_number_at (rank j) b k.of_rank) ∙ exchange_told b m x t inv
      ∙ ap (λ y. signed (cond x.bracket.negates Minus Plus) (t y)) (sym (index_number_at (rank j) m n))) in
      record { of_rank = n; same = told.0 ∙ k.same; opened = told.1 }
  step_class c b m k (turn g is n away) =
      let p = plain_stands j.marks g (plain g is) in
      let c0 = component_number b in
      let below : c0 < 3 ^ rank j = component_below_at (rank j) b k.of_rank in
      let goes : index_of (rank j) (op_carried (rank j) p.0 c0) ≡ m =
      moved_number p.1 (rank j) c0 below ∙ ap (moved p.0) (index_number_at (rank j) b k.of_rank) ∙ sym (only_one p.1 b m away) in
      let told = turned_class c0 below k.opened (component_number m) (component_below_at (rank j) m n) (op_sign (rank j) p.0 c0) (λ t inv.
      sym (inv.unchanged g is (index_of (rank j) c0) (length-index_of (rank j) c0)) ∙ act_number p.1 (rank j) c0 t below
      ∙ ap (λ y. signed (op_sign (rank j) p.0 c0) (t y)) (goes ∙ sym (index_number_at (rank j) m n))) in
      record { of_rank = n; same = told.0 ∙ k.same; opened = told.1 }

  carried_class : (c : ℕ) → {b d : Index} → InClass c b → Carried (GroupStep j (In hs)) b d → InClass c d
  carried_class c k rests = k
  carried_class c {b} {d} k (steps {d = m} s rest) = carried_class c (step_class c b m k s) rest

  -- a path of moves is one of exchanges and elements
  record Lands (e : Exchange) : Type 0 where
    lands : IsWithin (rank j) e → (c : ℕ) → c < 3 ^ rank j →
        Carried (GroupStep j (In hs)) (index_of (rank j) c) (index_of (rank j) (exchanged (rank j) e c))

  each_lands : Each Lands (exchanges_of (body_brackets j.factors 0))
  each_lands = all_from (body_brackets j.factors 0) Lands (λ b is i k l m. record {
    lands = λ w c h.
        let can = can_exchange (rank j) b i k (index_of (rank j) c) l m w (length-index_of (rank j) c) in
        subst (λ x. Carried (GroupStep j (In hs)) (index_of (rank j) c) x) (sym (exchange_lands (rank j) b i k c h can))
        (steps (exchange (record { bracket = b; listed = is; exchange = can.is_exchange })) rests);
  })

  step : (k c : ℕ) → k < (all_moves j ps).count → c < 3 ^ rank j →
      Carried (GroupStep j (In hs)) (index_of (rank j) c) (index_of (rank j) ((all_moves j ps).carried k c))
  step k c is h =
      let own = exchanges_of (body_brackets j.factors 0) in
      elim (cases_lt k (length own)) as (λ _. Carried (GroupStep j (In hs)) (index_of (rank j) c) (index_of (rank j) ((all_moves j ps).carried k c))) [
        | inl p ↦
            let landed = (each_exchange Lands own each_lands k p).lands (inside.each k p) c h in
            subst (λ x. Carried (GroupStep j (In hs)) (index_of (rank j) c) (index_of (rank j) x)) (sym (at_first (exchange_moves (rank j) own) (op_moves (rank j) ps) k c p)) landed
        | inr p ↦
            let i = k - length own in
            let short : i < length ps = omega (arith, is, p) in
            let place : i < length gs = subst (λ n. i < n) all.len short in
            let stands = all.each i place in
            let g = get_or gs i identity in
            let in_group : In hs g = gen.within g (i, place, get_or_default gs i g identity place) in
            let d = op_carried (rank j) (op_at ps i) c in
            let goes : index_of (rank j) d ≡ moved (op_at ps i) (index_of (rank j) c) = moved_number stands (rank j) c h in
            let away : coefficient g (index_of (rank j) c) (index_of (rank j) d) ≢ num_zero = λ z. sign_not_zero (list_signs (op_at ps i) (index_of (rank j) c)) (sym (coefficient_own stands (index_of (rank j) c)) ∙ ap (coefficient g (index_of (rank j) c)) (sym goes) ∙ z) in
            let turned : Carried (GroupStep j (In hs)) (index_of (rank j) c) (index_of (rank j) d) = steps (turn g in_group (length-index_of (rank j) d) away) rests in
            subst (λ x. Carried (GroupStep j (In hs)) (index_of (rank j) c) (index_of (rank j) x)) (sym (at_second (exchange_moves (rank j) own) (op_moves (rank j) ps) k c p)) turned
      ]

  pub path_carried : {c d : ℕ} {u : Sign} → Reaches (all_moves j ps) c d u → c < 3 ^ rank j →
      Carried (GroupStep j (In hs)) (index_of (rank j) c) (index_of (rank j) d)
  path_carried stay h = rests
  path_carried {c} {d} (move k is path e) h = carried_join (step k c is h) (path_carried path (back.stays k c is h))

  first_carried : (c : ℕ) (h : c < 3 ^ rank j) (v : vanishes_at es c ≡ false) →
      IsFirstCarried (GroupStep j (In hs)) (IsInvariant j (In hs)) (before_of o) (index_of (rank j) c) (index_of (rank j) (first_at es c)) (sign_at es c)
  first_carried c h v = record {
    reached = path_carried (table.reached c h).1 h;
    first = λ e path less.
        let number : component_number (index_of (rank j) c) ≡ c = number-index_of (rank j) c h in
        let start : InClass c (index_of (rank j) c) = record { of_rank = length-index_of (rank j) c; same = ap (first_at es) number; opened = ap (vanishes_at es) number ∙ v } in
        let there = carried_class c start path in
        let no : before_of o (index_of (rank j) (component_number e)) (index_of (rank j) (first_at es c)) ≡ false =
        table.least c (component_number e) h (component_below_at (rank j) e there.of_rank) there.same in
        let here : before_of o e (index_of (rank j) (first_at es c)) ≡ false =
        ap (λ x. before_of o x (index_of (rank j) (first_at es c))) (sym (index_number_at (rank j) e there.of_rank)) ∙ no in
        both_ways (before_of o e (index_of (rank j) (first_at es c))) here less;
    same = λ t inv. first_same (3 ^ rank j) (all_moves j ps) (before_at (rank j) o) es back table (numbered (rank j) t) (group_kept t inv) c h v;
  }

  tells : (c : ℕ) → c < 3 ^ rank j →
      TellsClass (GroupStep j (In hs)) (IsInvariant j (In hs)) (before_of o) (rank j) c (class_at es c)
  tells c h = elim (cases_Bool (vanishes_at es c)) as (λ _. TellsClass (GroupStep j (In hs)) (IsInvariant j (In hs)) (before_of o) (rank j) c (class_at es c)) [
    | inl v ↦
        let told : class_at es c ≡ None = ap (λ b. cond b None (Some (first_at es c, sign_at es c))) v in
        subst (TellsClass (GroupStep j (In hs)) (IsInvariant j (In hs)) (before_of o) (rank j) c) (sym told) (record {
          none = (λ i. zero_by_table c h v, λ z. refl);
          some = tt;
        })
    | inr v ↦
        let told : class_at es c ≡ Some (first_at es c, sign_at es c) = ap (λ b. cond b None (Some (first_at es c, sign_at es c))) v in
        subst (TellsClass (GroupStep j (In hs)) (IsInvariant j (In hs)) (before_of o) (rank j) c) (sym told) (record {
          none = (λ i. absurd (cc), λ z. absurd (not_zero_by_table c h v z));
          some = first_carried c h v;
        })
  ]

-- the same for the numbers of a typed rank
pub classes_told : (n r : ℕ) (hs : List Operation) (s : ShapeValue) (o : Ordering) (es : List Entry) → n ≡ 3 ^ r →
    AllOf (In hs) IsPlain → IsPlainTable n r hs s o es → (j : JahnSymbol) → IsShapeOf j r s → (c : ℕ) → c < n →
    TellsClass (GroupStep j (In hs)) (IsInvariant j (In hs)) (before_of o) r c (class_at es c)
classes_told n r hs s o es size plain t j shape c h =
    let own = exchanges_of (body_brackets j.factors 0) in
    let stand : StandForAll j.marks t.generators t.ops = subst (λ m. StandForAll m t.generators t.ops) shape.marks_are t.stand in
    let C : ℕ → ℕ → List Exchange → Type 0 = λ n r xs. AllWithin r xs → IsReversible n (moves_of r xs t.ops) →
    IsFirstTable n (moves_of r xs t.ops) (before_at r o) es → c < n →
    TellsClass (GroupStep j (In hs)) (IsInvariant j (In hs)) (before_of o) r c (class_at es c) in
    let base : C (3 ^ rank j) (rank j) own = λ w b l m. tells j hs t.generators t.ops stand w t.generated plain o es b l c m in
    let one : C (3 ^ r) r own = subst (λ (x : ℕ). C (3 ^ x) x own) shape.rank_is base in
    let two : C n r own = subst (λ (x : ℕ). C x r own) (sym size) one in
    let three : C n r s.exchanges = subst (λ (x : List Exchange). C n r x) (sym shape.exchanges_are) two in
    three t.within t.reversible t.firsts h
