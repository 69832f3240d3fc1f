-- What is told of all states.
--   state_tells     the marks and the rows of a state
--   rows_calm       no row of a later state grows
--   states_tell     where no row grows: the marks and the rows of each later state, and that no row grows
--   a_row_grows     a row of a later state that grows
--   grown_told, fault_told, some_state    refusals, of a row and of a table; there is a state
--   form_has_units  each row of the form of a plain group is empty or one free component with the factor 1 or -1
use Rattle.list_laws.proofs.Kit.{◌≡◌, ℕ, zero, suc, ◌+◌, ◌-◌, ◌<◌, ◌≤◌, ◌^◌, inl, inr, Bool, true, false, cond, List, [], ◌∷◌, length, map, drop, get_or}
use Rattle.list_laws.proofs.Kit.{refl, ap, sym, ◌∙◌, subst, arith, Result, Ok, Err, IfErr, IsErrAnd, none-some, slice_get_within}
use Rattle.std.specs.Prelude.{Contains, nat_eq, slice_get, Some}
use lib.IntN.{negsuc}
use Rattle.number_laws.proofs.Fractions.{over-whole}
use Rattle.list_laws.proofs.Lists.{found_held}
use Rattle.tensor_defs.specs.Prelude.{Grows, JahnSymbol, rank, num_zero, value_of, Operation, identity, index_before, RowsGrow, factor_at, AreStates, IsState}
use Rattle.tensor_defs.specs.Prelude.{Fits, Table, Marks, component_number}
use Rattle.tensor_defs.specs.declared.Sign.{Sign}
use Rattle.tensor_defs.specs.declared.Sign.TheVariants.{Plus, Minus}
use Rattle.tensor_laws.proofs.Groups as laws
use Rattle.tensor_laws.proofs.Prelude.{index_order, same_free, same_terms, fraction_one}
use Rattle.answer_laws.proofs.DomainStates.{one_state_list}
use Rattle.magnetic_groups.specs.Sets.{In, IsGroup}
use Rattle.tensor_rank.proofs.DeterminantLaws.{one_down}
use Rattle.tensor_rank.specs.IndexLaws.{component_below_at}
use Rattle.reduced_form.specs.declared.forms.Term.{Term}
use Rattle.reduced_form.specs.Forms.{FormValue, HasUnitRows, IsUnitRow, form_table, row_at, term_of, unit_fraction}
use Rattle.reduced_form.specs.declared.memory.SolveFault.{SolveFault}
use Rattle.reduced_form.specs.declared.memory.SolveFault.TheVariants as solve
use Rattle.state_marks.specs.declared.faults.DifferFault.{DifferFault}
use Rattle.state_marks.specs.declared.faults.DifferFault.TheVariants.{TooLarge}
use Rattle.state_marks.specs.Told.{AreStateRows, AreTold, SomeRowGrows, SomeStateGrows, StateValue, TellsMarks, TellsState, fault_of, is_marked, none}
use Rattle.state_marks.proofs.Bounds.{HasUnits, IsUnitNumber}
use Rattle.state_marks.proofs.Distinct.{row_tells}
use Rattle.state_marks.proofs.StateLaws.{grows_same, later-calm}

group_of : (fs : List Operation) → IsGroup fs → laws.IsGroup (In fs)
group_of fs g = record { one = g.one; product = g.closed; inverse = g.inverses }

-- the marks and the rows of a state
own_state : (j : JahnSymbol) (F : Operation → Type 0) (a : Table) → Fits j F index_before a → (g : Operation) (s : StateValue) →
    AreStateRows j.marks g (rank j) a s → TellsState j F (rank j) a g s
own_state j F a fits g s told = λ i l. (
  row_tells j F index_before a fits g i l (is_marked s i) (told.marks i l),
  told.rows i l,
)

pub state_tells : (j : JahnSymbol) (F : Operation → Type 0) (r : ℕ) (m : Marks) (a : Table) → rank j ≡ r → m ≡ j.marks →
    Fits j F index_before a → (g : Operation) (s : StateValue) → AreStateRows m g r a s → TellsState j F r a g s
state_tells j F r m a e marks fits g s told =
    subst (λ n. TellsState j F n a g s) e (own_state j F a fits g s
    (subst (λ n. AreStateRows j.marks g n a s) (sym e) (subst (λ k. AreStateRows k g r a s) marks told)))

-- no row of a later state grows
pub rows_calm : (j : JahnSymbol) (G : Operation → Type 0) (fs : List Operation) (r : ℕ) (m : Marks) (reps : List Operation)
    (a : Table) (values : List StateValue) → IsGroup fs → AreStates G (In fs) reps → rank j ≡ r → m ≡ j.marks →
    Fits j (In fs) index_before a → AreTold m r a reps (length reps) values → RowsGrow j G (In fs) → ⊥
rows_calm j G fs r m reps a values group states e marks fits told (b, other, ss, listed, g, c, i, l, grows) =
    let order = index_order (rank j) in
    let free = same_free j (In fs) index_before order b a other fits in
    let terms = same_terms j (In fs) index_before order b a other fits in
    let same = one_state_list G (In fs) (group_of fs group) ss reps listed states in
    let own : AreTold j.marks (rank j) a reps (length reps) values =
    subst (λ n. AreTold j.marks n a reps (length reps) values) (sym e)
    (subst (λ k. AreTold k r a reps (length reps) values) marks told) in
    later-calm j.marks (rank j) a reps values own g (subst (λ rs. Contains (drop 1 rs) g) same c) i l
    (grows_same j.marks g b a (rank j) i free terms grows)

-- where no row grows
pub states_tell : (j : JahnSymbol) (G : Operation → Type 0) (fs : List Operation) (r : ℕ) (m : Marks) (reps : List Operation)
    (f : FormValue) (values : List StateValue) → IsGroup fs → AreStates G (In fs) reps → rank j ≡ r → m ≡ j.marks →
    Fits j (In fs) index_before (form_table r f) → (Grows j (In fs) index_before → ⊥) →
    AreTold m r (form_table r f) reps (length reps) values →
    TellsMarks j G (In fs) r reps (record { form = f; states = values })
states_tell j G fs r m reps f values group states e marks fits quiet told = record {
  fits = fits;
  each = each;
  no_elimination = quiet;
  no_row = rows_calm j G fs r m reps (form_table r f) values group states e marks fits told;
}
  where
    each : (k : ℕ) (g : Operation) → 2 ≤ k → IsState reps k g → TellsState j (In fs) r (form_table r f) g (get_or values (k - 2) none)
    each k g two is =
        let next : k - 2 + 1 ≡ k - 1 = omega (arith, two) in
        let place : slice_get reps (k - 2 + 1) ≡ Some g = ap (slice_get reps) next ∙ is.1 in
        state_tells j (In fs) r m (form_table r f) e marks fits g (get_or values (k - 2) none)
        (told.each (k - 2) g (slice_get_within reps (k - 2 + 1) g place) place)

-- a later state
pub later : (reps : List Operation) (n : ℕ) (g : Operation) → 1 ≤ n → slice_get reps n ≡ Some g → Contains (drop 1 reps) g
later [] n g h e = absurd (none-some g e)
later (x ∷ reps) zero g h e = absurd (omega (arith, h))
later (x ∷ reps) (suc n) g h e = found_held g reps n e

pub a_row_grows : (j : JahnSymbol) (G F : Operation → Type 0) (r : ℕ) (m : Marks) (reps : List Operation) (a : Table) →
    AreStates G F reps → rank j ≡ r → m ≡ j.marks → Fits j F index_before a → SomeStateGrows m r a reps → RowsGrow j G F
a_row_grows j G F r m reps a states e marks fits s =
    let own : SomeRowGrows j.marks s.rep (rank j) a =
    subst (λ k. SomeRowGrows j.marks s.rep k a) (sym e) (subst (λ k. SomeRowGrows k s.rep r a) marks s.grows) in
    (a, fits, reps, states, s.rep, later reps s.place s.rep s.later s.at, own.0, own.1, own.2)

-- ---- forms of plain groups
unit_value : (s : Sign) → IsUnitNumber (value_of (unit_fraction s))
unit_value Plus = inr (inl fraction_one)
unit_value Minus = inr (inr (over-whole (negsuc 0) ∙ one_down))

unit_row : (ts : List Term) → IsUnitRow ts → (k : ℕ) → IsUnitNumber (factor_at (map term_of ts) k)
unit_row [] u k = inl refl
unit_row (t ∷ ts) u k =
    subst (λ us. IsUnitNumber (factor_at (map term_of (t ∷ us)) k)) (sym u.0) (alone (nat_eq t.free k))
  where
    alone : (b : Bool) → IsUnitNumber (cond b (value_of t.factor) num_zero)
    alone true = subst (λ f. IsUnitNumber (value_of f)) (sym u.2) (unit_value u.1)
    alone false = inl refl

pub form_has_units : (r n : ℕ) (f : FormValue) → n ≡ 3 ^ r → HasUnitRows n f → HasUnits r (form_table r f)
form_has_units r n f e units c l k =
    unit_row (row_at f.rows (component_number c))
    (units (component_number c) (subst (λ x. component_number c < x) (sym e) (component_below_at r c l))) k

-- ---- faults
pub fault_back : (e : SolveFault) → fault_of e ≡ TooLarge → e ≡ solve.TooLarge
fault_back solve.TooLarge is = refl
fault_back solve.NoMemory is = cc

pub grown_told : {X : Type 0} (r : Result X DifferFault) (P : Type 0) → P → IfErr r (λ f. f ≡ TooLarge → P)
grown_told (Ok x) P p = tt
grown_told (Err f) P p = λ _. p

pub fault_told : {X : Type 0} (r : Result X DifferFault) (e : SolveFault) (P : Type 0) → IsErrAnd r (λ f. f ≡ fault_of e) →
    (e ≡ solve.TooLarge → P) → IfErr r (λ f. f ≡ TooLarge → P)
fault_told (Ok x) e P is p = tt
fault_told (Err f) e P is p = λ large. p (fault_back e (sym is ∙ large))

-- some state: that of the identity
pub some_state : (G F : Operation → Type 0) (reps : List Operation) → AreStates G F reps → G identity → 0 < length reps
some_state G F [] states one = let w = states.whole identity one in let l = w.1.1 in absurd (omega (arith, l))
some_state G F (r ∷ reps) states one = omega arith
