-- The table that classes give fits.
--   get_told    lists
--   unit_value, unit_proper, plain_fits, solve_fits, form_whole, rows_same, terms_same
--       terms that are 1 or -1 times a free component
use Rattle.list_laws.proofs.Kit.{[], ◌≡◌, ℕ, ◌^◌, ◌<◌, ◌≤◌, Bool, true, false, List, ◌∷◌, length, get_or, map, refl, ap, sym, ◌∙◌, arith, subst, inl, inr}
use Rattle.list_laws.proofs.Kit.{lit<, cases_lt, cases_Bool, get_or-map, ext_get_or, length-map, slice_get_within, get_or_from_slice_get}
use Rattle.std.specs.Prelude.{Some, slice_get, IsTrue}
use Rattle.std.proofs.lemmas.Nat.Gcd.{dvd_refl}
use Rattle.number_laws.proofs.Fractions.{over-whole}
use Rattle.list_laws.proofs.Prelude.{rising_get, each_get}
use lib.IntN.{pos, negsuc}
use Rattle.tensor_defs.specs.Prelude.{JahnSymbol, rank, body_brackets, Each, Number, mul, num_zero, Operation, Table, Fits, IsProper, AreTerms, value_at}
use Rattle.tensor_defs.specs.Prelude.{chosen, sum_terms, Index, Tensor, component_number, index_of}
use Rattle.tensor_defs.specs.Table as defs
use Rattle.tensor_defs.specs.declared.Sign.{Sign}
use Rattle.tensor_defs.specs.declared.Sign.TheVariants.{Plus, Minus}
use Rattle.number_laws.proofs.NumberLaws.{num_add-zero, num_one-mul}
use Rattle.tensor_laws.proofs.ComponentNumbers.{length-index_of, number-index_of}
use Rattle.magnetic_groups.specs.Sets.{In}
use Rattle.sign_moves.specs.declared.classes.Entry.{Entry}
use Rattle.sign_moves.specs.Prelude.{first_at, sign_at, vanishes_at, IsFirstTable, IsReversible, IsKept, signed}
use Rattle.sign_moves.proofs.FirstLaws.{spread, spread_kept, spread_open, spread_vanishing, first_can, first_same}
use Rattle.tensor_rank.specs.declared.exchanges.Exchange.{Exchange}
use Rattle.tensor_rank.specs.Prelude.{index_number_at, component_below_at, Ordering, before_at, before_of, ShapeValue, IsShapeOf, orders_are_orders}
use Rattle.tensor_rank.specs.Prelude.{exchanges_of, AllWithin}
use Rattle.tensor_rank.proofs.ExchangeIndex.{numbered}
use Rattle.constraint_rows.specs.declared.ops.PlainOp.{PlainOp}
use Rattle.constraint_rows.specs.Prelude.{IsGeneratedBy, IsPlainTable, moves_of, StandForAll}
use Rattle.constraint_rows.proofs.InvariantLaws.{all_moves, invariant_kept, kept_invariant, generators_suffice, fewer_suffice}
use Rattle.reduced_form.specs.declared.forms.Term.{Term}
use Rattle.reduced_form.specs.Forms.{HasUnits, unit_fraction, term_of, FormValue, row_at, form_table, unit_term, free_at, HasUnitRows, IsForm, IsFormOf, IsUnitRow, IsWellFormed}

-- each row of the table that classes give is empty or one free component with the factor 1 or -1
pub form_units : (n : ℕ) (before : ℕ → ℕ → Bool) (es : List Entry) (f : FormValue) → IsFormOf n before es f → HasUnitRows n f
form_units n before es f h c l = by_case (vanishes_at es c) refl
  where
    by_case : (b : Bool) → vanishes_at es c ≡ b → IsUnitRow (row_at f.rows c)
    by_case true e = subst IsUnitRow (sym (h.none c l e)) tt
    by_case false e = let one = h.one c l e in subst IsUnitRow (sym one.3) (refl, sign_at es c, refl)

-- ---- lists
pub get_told : {X : Type 0} (d x : X) (xs : List X) (k : ℕ) → slice_get xs k ≡ Some x → (k < length xs) × (get_or xs k d ≡ x)
get_told d x xs k e = (slice_get_within xs k x e, get_or_from_slice_get xs k x d e)

-- ---- terms that are 1 or -1 times a free component
pub unit_value : (k : ℕ) (s : Sign) (v : ℕ → Number) → sum_terms (term_of (unit_term k s) ∷ []) v ≡ signed s (v k)
unit_value k Plus v = num_add-zero _ ∙ ap (λ x. mul x (v k)) (over-whole (pos 1)) ∙ num_one-mul (v k)
unit_value k Minus v = num_add-zero _ ∙ ap (λ x. mul x (v k)) (over-whole (negsuc 0))

pub unit_proper : (k : ℕ) (s : Sign) → IsProper (term_of (unit_term k s))
unit_proper k Plus = record { terms = record { positive = lit< tt; lowest = (dvd_refl 1, dvd_refl 1, λ d p q. p) }; not_zero = λ e. cc }
unit_proper k Minus = record { terms = record { positive = lit< tt; lowest = (dvd_refl 1, dvd_refl 1, λ d p q. p) }; not_zero = λ e. cc }

module _ (j : JahnSymbol) (gs : List Operation) (ps : List PlainOp) (all : StandForAll j.marks gs ps) (inside : AllWithin (rank j) (exchanges_of (body_brackets j.factors 0)))
    (ord : Ordering) (es : List Entry) (back : IsReversible (3 ^ rank j) (all_moves j ps))
    (links : IsFirstTable (3 ^ rank j) (all_moves j ps) (before_at (rank j) ord) es)
    (f : FormValue) (form : IsFormOf (3 ^ rank j) (before_at (rank j) ord) es f) where
  abbrev r : ℕ
  r = rank j

  abbrev n : ℕ
  n = 3 ^ rank j

  abbrev the_table : Table
  the_table = form_table (rank j) f

  apart : (c : ℕ) → before_at (rank j) ord c c ≡ true → ⊥
  apart c = (orders_are_orders (rank j) ord).irreflexive (index_of (rank j) c)

  -- a place is told by its component
  one_place : (i k : ℕ) → i < length f.free → k < length f.free → free_at f.free i ≡ free_at f.free k → i ≡ k
  one_place i k l m e = elim (cases_lt i k) as (λ _. i ≡ k) [
    | inl h ↦ absurd (apart (free_at f.free k) (subst (λ x. before_at (rank j) ord x (free_at f.free k) ≡ true) e (form.rising i k h m)))
    | inr h ↦ elim (cases_lt k i) as (λ _. i ≡ k) [
      | inl g ↦ absurd (apart (free_at f.free k) (subst (λ x. before_at (rank j) ord (free_at f.free k) x ≡ true) e (form.rising k i g l)))
      | inr g ↦ omega arith
    ]
  ]

  free_index : (k : ℕ) → k < length f.free → get_or the_table.free k [] ≡ index_of (rank j) (free_at f.free k)
  free_index k l = get_or-map (index_of (rank j)) f.free k 0 [] l

  -- the row of a component that doesn't vanish
  value_open : (v : List Number) (c : ℕ) (h : c < 3 ^ rank j) (o : vanishes_at es c ≡ false) → numbered (rank j) (value_at the_table v) c ≡ signed (sign_at es c) (chosen v (form.one c h o).0)
  value_open v c h o =
      let p = form.one c h o in
      ap (λ d. sum_terms (map term_of (row_at f.rows d)) (chosen v)) (number-index_of (rank j) c h)
      ∙ ap (λ ts. sum_terms (map term_of ts) (chosen v)) p.3
      ∙ unit_value p.0 (sign_at es c) (chosen v)

  value_vanishing : (v : List Number) (c : ℕ) → c < 3 ^ rank j → vanishes_at es c ≡ true → numbered (rank j) (value_at the_table v) c ≡ num_zero
  value_vanishing v c h o =
      ap (λ d. sum_terms (map term_of (row_at f.rows d)) (chosen v)) (number-index_of (rank j) c h)
      ∙ ap (λ ts. sum_terms (map term_of ts) (chosen v)) (form.none c h o)

  -- the value at a free component
  value_free : (v : List Number) (k : ℕ) → k < length f.free → numbered (rank j) (value_at the_table v) (free_at f.free k) ≡ chosen v k
  value_free v k l =
      let c = free_at f.free k in
      let h : c < 3 ^ rank j = form.only_below k l in
      let o : vanishes_at es c ≡ false = form.only_open k l in
      let p = form.one c h o in
      let same : p.0 ≡ k = one_place p.0 k p.1 l (p.2 ∙ form.only_first k l) in
      let sign : sign_at es c ≡ Plus = ap (sign_at es) (sym (form.only_first k l)) ∙ links.own_sign c h in
      value_open v c h o ∙ (λ i. signed (sign i) (chosen v (same i)))

  value_first : (v : List Number) (c : ℕ) (h : c < 3 ^ rank j) (o : vanishes_at es c ≡ false) → chosen v (form.one c h o).0 ≡ numbered (rank j) (value_at the_table v) (first_at es c)
  value_first v c h o =
      let p = form.one c h o in
      sym (value_free v p.0 p.1) ∙ ap (numbered (rank j) (value_at the_table v)) p.2

  value_spread : (v : List Number) (c : ℕ) → c < 3 ^ rank j → numbered (rank j) (value_at the_table v) c ≡ spread (vanishes_at es) (sign_at es) (first_at es) (numbered (rank j) (value_at the_table v)) c
  value_spread v c h = elim (cases_Bool (vanishes_at es c)) [
    | inl o ↦ value_vanishing v c h o ∙ sym (spread_vanishing (vanishes_at es) (sign_at es) (first_at es) (numbered (rank j) (value_at the_table v)) c o)
    | inr o ↦
        value_open v c h o ∙ ap (signed (sign_at es c)) (value_first v c h o)
        ∙ sym (spread_open (vanishes_at es) (sign_at es) (first_at es) (numbered (rank j) (value_at the_table v)) c o)
  ]

  value_kept : (v : List Number) → IsKept (3 ^ rank j) (all_moves j ps) (numbered (rank j) (value_at the_table v))
  value_kept v = record {
    same = λ k c is below.
        value_spread v c below
        ∙ (spread_kept (first_can (3 ^ rank j) (all_moves j ps) (before_at (rank j) ord) es back links) (numbered (rank j) (value_at the_table v))).same k c is below
        ∙ ap (signed ((all_moves j ps).sign k c)) (sym (value_spread v ((all_moves j ps).carried k c) (back.stays k c is below)));
  }

  -- the choice that an invariant tensor comes from
  abbrev choice : Tensor → List Number
  choice t = map (numbered (rank j) t) f.free

  choice_at : (t : Tensor) (k : ℕ) → k < length f.free → chosen (choice t) k ≡ numbered (rank j) t (free_at f.free k)
  choice_at t k l = get_or-map (numbered (rank j) t) f.free k 0 num_zero l

  value_choice : (t : Tensor) → IsKept (3 ^ rank j) (all_moves j ps) (numbered (rank j) t) → (c : ℕ) → c < 3 ^ rank j → numbered (rank j) (value_at the_table (choice t)) c ≡ numbered (rank j) t c
  value_choice t kept c h = elim (cases_Bool (vanishes_at es c)) [
    | inl o ↦ value_vanishing (choice t) c h o ∙ sym (links.forced c h o (numbered (rank j) t) kept)
    | inr o ↦
        let p = form.one c h o in
        value_open (choice t) c h o
        ∙ ap (signed (sign_at es c)) (choice_at t p.0 p.1 ∙ ap (numbered (rank j) t) p.2)
        ∙ sym (first_same (3 ^ rank j) (all_moves j ps) (before_at (rank j) ord) es back links (numbered (rank j) t) kept c h o)
  ]

  -- what holds by number holds of each index
  by_number : (P : Index → Type 0) → ((c : ℕ) → c < 3 ^ rank j → P (index_of (rank j) c)) → (is : Index) → length is ≡ rank j → P is
  by_number P h is l = subst P (index_number_at (rank j) is l) (h (component_number is) (component_below_at (rank j) is l))

  terms_at : (c : ℕ) → c < 3 ^ rank j → (ts : List Term) → row_at f.rows c ≡ ts → the_table.terms (index_of (rank j) c) ≡ map term_of ts
  terms_at c h ts e = ap (λ d. map term_of (row_at f.rows d)) (number-index_of (rank j) c h) ∙ ap (map term_of) e

  long : length the_table.free ≡ length f.free
  long = length-map f.free (index_of (rank j))

  within : (k : ℕ) → k < length the_table.free → k < length f.free
  within k h = subst (λ m. k < m) long h

  pub plain_fits : Fits j (In gs) (before_of ord) the_table
  plain_fits = record {
    rising = rising_get (before_of ord) [] the_table.free (λ i k l m.
        let n1 : k < length f.free = within k m in
        let n0 : i < length f.free = omega arith in
        (λ q. before_of ord (free_index i n0 q) (free_index k n1 q)) ∙ form.rising i k l n1);
    of_rank = each_get (λ c. length c ≡ rank j) [] the_table.free (λ k l. ap length (free_index k (within k l)) ∙ length-index_of (rank j) (free_at f.free k));
    well_formed = by_number (λ is. AreTerms (the_table.terms is) × Each (λ t. t.place < length the_table.free) (the_table.terms is)) (λ c h.
        let Q : List defs.Term → Type 0 = λ ts. AreTerms ts × Each (λ t. t.place < length the_table.free) ts in
        elim (cases_Bool (vanishes_at es c)) [
          | inl o ↦ subst Q (sym (terms_at c h [] (form.none c h o))) ((tt, tt), tt)
          | inr o ↦
              let p = form.one c h o in
              let place : p.0 < length the_table.free = subst (λ m. p.0 < m) (sym long) p.1 in
              subst Q (sym (terms_at c h (unit_term p.0 (sign_at es c) ∷ []) p.3)) (((tt, tt), (unit_proper p.0 (sign_at es c), tt)), (place, tt))
        ]);
    gives = λ v is. kept_invariant j gs ps all inside (value_at the_table v) (value_kept v);
    reaches = λ t inv. (
      choice t,
      length-map f.free (numbered (rank j) t) ∙ sym long,
      by_number (λ is. value_at the_table (choice t) is ≡ t is) (value_choice t (invariant_kept j gs ps all inside t inv)),
    );
    once = λ v w p q e. ext_get_or num_zero v w (p ∙ sym q) (λ k l.
        let m : k < length f.free = within k (subst (λ x. k < x) p l) in
        sym (value_free v k m) ∙ e (index_of (rank j) (free_at f.free k)) (length-index_of (rank j) (free_at f.free k)) ∙ value_free w k m);
    own = λ k c e.
        let told = get_told [] c the_table.free k e in
        let l : k < length f.free = within k told.0 in
        let d = free_at f.free k in
        let h : d < 3 ^ rank j = form.only_below k l in
        let p = form.one d h (form.only_open k l) in
        let same : p.0 ≡ k = one_place p.0 k p.1 l (p.2 ∙ form.only_first k l) in
        let sign : sign_at es d ≡ Plus = ap (sign_at es) (sym (form.only_first k l)) ∙ links.own_sign d h in
        ap the_table.terms (sym told.1 ∙ free_index k l)
        ∙ terms_at d h (unit_term p.0 (sign_at es d) ∷ []) p.3
        ∙ (λ i. term_of (unit_term (same i) (sign i)) ∷ []);
    earlier = λ is d l. by_number (λ x. Each (λ t. slice_get the_table.free t.place ≡ Some d → ¬ IsTrue (before_of ord x d)) (the_table.terms x)) (λ c h.
        let Q : List defs.Term → Type 0 = λ ts. Each (λ t. slice_get the_table.free t.place ≡ Some d → ¬ IsTrue (before_of ord (index_of (rank j) c) d)) ts in
        elim (cases_Bool (vanishes_at es c)) as (λ _. Q (the_table.terms (index_of (rank j) c))) [
          | inl v ↦ subst Q (sym (terms_at c h [] (form.none c h v))) tt
          | inr v ↦
              let p = form.one c h v in
              subst Q (sym (terms_at c h (unit_term p.0 (sign_at es c) ∷ []) p.3)) (
                (λ e b.
                    let told = get_told [] d the_table.free p.0 e in
                    let there : d ≡ index_of (rank j) (first_at es c) = sym told.1 ∙ free_index p.0 p.1 ∙ ap (index_of (rank j)) p.2 in
                    let not_less : before_at (rank j) ord c (first_at es c) ≡ false = links.least c c h h refl in
                    let clash : false ≡ true = sym not_less ∙ ap (before_of ord (index_of (rank j) c)) (sym there) ∙ b in
                    cc),
                tt,
              )
        ]) is l;
  }

fits_generated : (j : JahnSymbol) (hs gs : List Operation) (before : Index → Index → Bool) (a : Table) → IsGeneratedBy hs gs → Fits j (In gs) before a → Fits j (In hs) before a
fits_generated j hs gs before a gen f = record {
  rising = f.rising;
  of_rank = f.of_rank;
  well_formed = f.well_formed;
  gives = λ v is. generators_suffice j (In gs) (In hs) (value_at a v) gen.generated (f.gives v is);
  reaches = λ t inv. f.reaches t (fewer_suffice j (In gs) (In hs) t gen.within inv);
  once = f.once;
  own = f.own;
  earlier = f.earlier;
}

-- the table that classes give fits the symbol and the group
pub solve_fits : (n r : ℕ) (hs : List Operation) (s : ShapeValue) (ord : Ordering) (es : List Entry) → n ≡ 3 ^ r →
    IsPlainTable n r hs s ord es → (f : FormValue) → IsFormOf n (before_at r ord) es f → (j : JahnSymbol) → IsShapeOf j r s →
    Fits j (In hs) (before_of ord) (form_table r f)
solve_fits n r hs s ord es size t f form j shape =
    let own = exchanges_of (body_brackets j.factors 0) in
    let stand : StandForAll j.marks t.generators t.ops = subst (λ m. StandForAll m t.generators t.ops) shape.marks_are t.stand in
    let C : ℕ → ℕ → List Exchange → Type 0 = λ n r xs. AllWithin r xs → IsReversible n (moves_of r xs t.ops) →
    IsFirstTable n (moves_of r xs t.ops) (before_at r ord) es → IsFormOf n (before_at r ord) es f →
    Fits j (In hs) (before_of ord) (form_table r f) in
    let base : C (3 ^ rank j) (rank j) own = λ w b l m. fits_generated j hs t.generators (before_of ord) (form_table (rank j) f) t.generated (plain_fits j t.generators t.ops stand w ord es b l f m) in
    let one : C (3 ^ r) r own = subst (λ (x : ℕ). C (3 ^ x) x own) shape.rank_is base in
    let two : C n r own = subst (λ (x : ℕ). C x r own) (sym size) one in
    let three : C n r s.exchanges = subst (λ (x : List Exchange). C n r x) (sym shape.exchanges_are) two in
    three t.within t.reversible t.firsts form

-- such a table has a row for each component, and its terms name free components
pub form_whole : {n : ℕ} {before : ℕ → ℕ → Bool} {es : List Entry} {f : FormValue} → IsFormOf n before es f → length f.rows ≡ n →
    length f.free ≤ n → IsForm n f
form_whole {n} {before} {es} {f} form len few = record {
  len = len;
  below = form.only_below;
  few = few;
  named = λ c h. elim (cases_Bool (vanishes_at es c)) as (λ _. Each (λ t. t.free < length f.free) (row_at f.rows c)) [
    | inl v ↦ subst (λ ts. Each (λ t. t.free < length f.free) ts) (sym (form.none c h v)) tt
    | inr v ↦
        let p = form.one c h v in
        subst (λ ts. Each (λ t. t.free < length f.free) ts) (sym p.3) (p.1, tt)
  ];
}

-- its factors are 1 or -1
pub form_factors : {n : ℕ} {before : ℕ → ℕ → Bool} {es : List Entry} {f : FormValue} → IsFormOf n before es f → HasUnits n f
form_factors {n} {before} {es} {f} form c h =
    let Q : List Term → Type 0 = λ ts. Each (λ t. (s : Sign) × (t.factor ≡ unit_fraction s)) ts in
    elim (cases_Bool (vanishes_at es c)) as (λ _. Q (row_at f.rows c)) [
      | inl v ↦ subst Q (sym (form.none c h v)) tt
      | inr v ↦ subst Q (sym (form.one c h v).3) ((sign_at es c, refl), tt)
    ]

-- rows that agree at each place are the same
pub rows_same : (xs ys : List (List Term)) → length xs ≡ length ys → ((k : ℕ) → k < length xs → row_at xs k ≡ row_at ys k) → xs ≡ ys
rows_same xs ys len each = ext_get_or [] xs ys len each

pub terms_same : (xs ys : List Term) → length xs ≡ length ys → ((k : ℕ) (d : Term) → k < length xs → get_or xs k d ≡ get_or ys k d) → xs ≡ ys
terms_same xs ys len each =
    let none : Term = record { free = 0; factor = record { num = pos 0; den = 1 } } in
    ext_get_or none xs ys len (λ k l. each k none l)

-- the terms of such a table are well formed
pub form_formed : (n r : ℕ) (before : ℕ → ℕ → Bool) (es : List Entry) (f : FormValue) → n ≡ 3 ^ r → IsFormOf n before es f →
    IsWellFormed r (form_table r f)
form_formed n r before es f size h c l = by_case (vanishes_at es number) refl
  where
    number : ℕ
    number = component_number c

    below : number < n
    below = subst (λ x. number < x) (sym size) (component_below_at r c l)

    Row : List Term → Type 0
    Row ts = AreTerms (map term_of ts) × Each (λ t. t.place < length (form_table r f).free) (map term_of ts)

    by_case : (b : Bool) → vanishes_at es number ≡ b → Row (row_at f.rows number)
    by_case true e = subst Row (sym (h.none number below e)) ((tt, tt), tt)
    by_case false e =
        let one = h.one number below e in
        let place : one.0 < length (form_table r f).free = subst (λ x. one.0 < x) (sym (length-map f.free (index_of r))) one.1 in
        subst Row (sym one.3) (((tt, tt), (unit_proper one.0 (sign_at es number), tt)), (place, tt))
