-- Which states are carried, by their marks.
--   mark_tells      a state of which some component is marked, or none
--   carried_told    the marks of all states
--   seen_apart, seen_none    the state of the second as seen from the first
use Rattle.list_laws.proofs.Kit.{◌≡◌, ℕ, ◌+◌, ◌-◌, ◌<◌, ◌≤◌, ◌^◌, Bool, true, false, List, [], ◌∷◌, ◌++◌, length, get_or, refl, ap, sym, ◌∙◌, inl, inr, subst}
use Rattle.list_laws.proofs.Kit.{arith, cases_lt, false≢true, get_or_push, length_push, get_or_from_slice_get, slice_get_within, get_or-append}
use Rattle.std.specs.Prelude.{Contains, IsTrue, ◌↔◌, Some}
use Rattle.tensor_defs.specs.Prelude.{JahnSymbol, rank, IsProduct, Operation, identity, AreStates, IsState, Table, component_number, index_of}
use Rattle.tensor_laws.proofs.Prelude.{length-index_of, number-index_of, product_assoc, product_unique, one_times, times_one}
use Rattle.magnetic_groups.specs.Sets.{In, IsGroup}
use Rattle.list_laws.proofs.Members.{each_found}
use Rattle.tensor_rank.specs.IndexLaws.{component_below_at}
use Rattle.coset_states.specs.Numbering.{Cosets, TellsState}
use Rattle.reduced_form.specs.Forms.{form_table}
use Rattle.state_marks.specs.Told.{MarksValue, StateValue, TellsMarks, TellsState as TellsRows, mark_at, state_at}
use Rattle.species.specs.Species.{AreLeaders, AreToldApart, IsLeader}
use Rattle.species.specs.Told.{AreCarried, AreMarked, Carries, HasMark}
use Rattle.species.proofs.Stable.{numbers_same}
use Rattle.species.proofs.ToldApart.{apart_carries, carries_apart, carries_state, none_carried, state_carries}
use Rattle.species.proofs.FirstState.{first_is_one}

by_test : (b : Bool) (P : Type 0) → (b ≡ true → P) → (b ≡ false → P → ⊥) → IsTrue b ↔ P
by_test true P some none = (some, λ p. refl)
by_test false P some none = (λ e. absurd (false≢true e), λ p. absurd (none refl p))

pub mark_tells : (j : JahnSymbol) (F : Operation → Type 0) (r n : ℕ) (a : Table) (g : Operation) (s : StateValue) (b : Bool) →
    rank j ≡ r → n ≡ 3 ^ r → TellsRows j F r a g s → IsTrue b ↔ HasMark n s → IsTrue b ↔ Carries j F g
mark_tells j F r n a g s b e size told test = by_test b (Carries j F g) (λ is. some (test.0 is)) none
  where
    some : HasMark n s → Carries j F g
    some (c, less, mark) =
        let below : c < 3 ^ r = subst (λ x. c < x) size less in
        let i = index_of r c in
        let l = length-index_of r c in
        let d = (told i l).0.0 (ap (mark_at s) (number-index_of r c below) ∙ mark) in
        (d.0, d.1, λ same. d.2 (same i (l ∙ sym e)))

    none : b ≡ false → Carries j F g → ⊥
    none is (t, inv, other) =
        other (λ i l. let own : length i ≡ r = l ∙ e in
        numbers_same _ _ (λ differ. false≢true (sym is ∙ test.1 (
          component_number i,
          subst (λ x. component_number i < x) (sym size) (component_below_at r i own),
          (told i own).0.1 (t, inv, differ),
        ))))

pub carried_told : (j : JahnSymbol) (gs fs reps : List Operation) (r n : ℕ) (m : MarksValue) (flags : List Bool) → IsGroup gs →
    IsGroup fs → AreStates (In gs) (In fs) reps → rank j ≡ r → n ≡ 3 ^ r → TellsMarks j (In gs) (In fs) r reps m →
    AreMarked n m (length reps) flags → AreCarried j (In fs) reps flags
carried_told j gs fs reps r n m flags ig jf states e size told marked = record { len = marked.len; each = each }
  where
    first : (q : Operation) → IsState reps 1 q → IsTrue (get_or flags 0 false) ↔ Carries j (In fs) q
    first q is =
        let own : Contains fs q = subst (λ x. Contains fs x) (sym (first_is_one gs fs reps ig states q is)) jf.one in (
          λ t. absurd (false≢true (sym marked.first ∙ t)),
          λ c. absurd (none_carried j (In fs) reps q own c),
        )

    later : (k : ℕ) (q : Operation) → 2 ≤ k → IsState reps k q → IsTrue (get_or flags (k - 1) false) ↔ Carries j (In fs) q
    later k q two is =
        let low : 1 ≤ k - 1 = omega (arith, two) in
        let next : k - 1 + 1 ≡ k = omega (arith, two) in
        let below : k - 1 < length reps = slice_get_within reps (k - 1) q is.1 in
        mark_tells j (In fs) r n (form_table r m.form) q (state_at m k) (get_or flags (k - 1) false) e size (told.each k q two is)
        (subst (λ x. IsTrue (get_or flags (k - 1) false) ↔ HasMark n (state_at m x)) next (marked.later (k - 1) low below))

    each : (k : ℕ) (q : Operation) → IsState reps k q → IsTrue (get_or flags (k - 1) false) ↔ Carries j (In fs) q
    each k q is = elim (cases_lt 1 k) as (λ _. IsTrue (get_or flags (k - 1) false) ↔ Carries j (In fs) q) [
      | inl more ↦ later k q (omega (arith, more)) is
      | inr less ↦
          (let low = is.0 in
          let one : 1 ≡ k = omega (arith, low, less) in
          subst (λ x. IsTrue (get_or flags (x - 1) false) ↔ Carries j (In fs) q) one
          (first q (subst (λ x. IsState reps x q) (sym one) is)))
    ]

-- ---- one state seen from another
module _ (j : JahnSymbol) (c : Cosets) (flags : List Bool) (k l : ℕ) (r s back d : Operation) (ig : IsGroup c.whole)
    (jf : IsGroup c.sub) (is_r : IsState c.reps k r) (is_s : IsState c.reps l s) (after : IsProduct r back identity)
    (ahead : IsProduct back r identity) (between : IsProduct back s d) (told : AreCarried j (In c.sub) c.reps flags) where
  pub seen_apart : (m : ℕ) → TellsState c d (Some m) →
      IsTrue (get_or flags (m - 1) false) ↔ AreToldApart j (In c.sub) c.reps k l
  seen_apart m (q, is_q, in_q) =
      let test = told.each m q is_q in (
        λ t. carries_apart j (In c.sub) c.reps jf.one k l r s back d is_r is_s after ahead between
            (state_carries j (In c.sub) c.reps q d in_q (test.0 t)),
        λ a. test.1 (carries_state j (In c.sub) c.reps q d in_q
            (apart_carries j (In c.sub) c.reps jf.one k l r s back d is_r is_s after ahead between a)),
      )

-- ---- elements of the whole group
pub rep_within : (gs fs reps : List Operation) → AreStates (In gs) (In fs) reps → (k : ℕ) (r : Operation) → IsState reps k r →
    Contains gs r
rep_within gs fs reps states k r is = each_found (In gs) reps states.within (k - 1) r is.1

pub inverse_within : (gs : List Operation) → IsGroup gs → (r back : Operation) → Contains gs r → IsProduct r back identity →
    Contains gs back
inverse_within gs ig r back c after =
    let v = ig.inverses r c in
    let same : v.0 ≡ back = one_inverse r v.0 back v.3 after in
    subst (λ x. Contains gs x) same v.1
  where
    -- v·(r·b) is (v·r)·b
    one_inverse : (r v b : Operation) → IsProduct v r identity → IsProduct r b identity → v ≡ b
    one_inverse r v b left right =
        product_unique v identity v b (times_one v) (product_assoc v r b identity b identity left (one_times b) right)

-- ---- states one after another
pub apart_more : (j : JahnSymbol) (F : Operation → Type 0) (reps : List Operation) (k l : ℕ) →
    ((m : ℕ) → 1 ≤ m → m < l → AreToldApart j F reps k m) → AreToldApart j F reps k l → (m : ℕ) → 1 ≤ m → m < l + 1 →
    AreToldApart j F reps k m
apart_more j F reps k l before here m one less = elim (cases_lt m l) as (λ _. AreToldApart j F reps k m) [
  | inl h ↦ before m one h
  | inr h ↦ (let e : l ≡ m = omega (arith, h, less) in subst (λ x. AreToldApart j F reps k x) e here)
]

-- the flag of one more state
pub marked_more : (components : ℕ) (m : MarksValue) (n : ℕ) (flags flags' : List Bool) (b : Bool) →
    AreMarked components m n flags → 1 ≤ n → flags' ≡ flags ++ b ∷ [] → IsTrue b ↔ HasMark components (state_at m (n + 1)) →
    AreMarked components m (n + 1) flags'
marked_more components m n flags flags' b are low e test =
    let len = are.len in
    record {
      len = ap length e ∙ length_push flags b ∙ ap (λ k. k + 1) are.len;
      first = ap (λ fs. get_or fs 0 false) e ∙ get_or-append flags (b ∷ []) false 0 (omega (arith, low, len)) ∙ are.first;
      later = λ k one less. subst (λ fs. IsTrue (get_or fs k false) ↔ HasMark components (state_at m (k + 1))) (sym e)
          (elim (cases_lt k n) as (λ _. IsTrue (get_or (flags ++ b ∷ []) k false) ↔ HasMark components (state_at m (k + 1))) [
            | inl h ↦ subst (λ x. IsTrue x ↔ HasMark components (state_at m (k + 1)))
                (sym (get_or-append flags (b ∷ []) false k (omega (arith, h, len)))) (are.later k one h)
            | inr h ↦
                (let here : n ≡ k = omega (arith, h, less) in
                let last : get_or (flags ++ b ∷ []) k false ≡ b = get_or_push flags b false k (are.len ∙ here) in
                subst (λ x. IsTrue x ↔ HasMark components (state_at m (k + 1))) (sym last)
                (subst (λ x. IsTrue b ↔ HasMark components (state_at m (x + 1))) here test))
          ]);
    }

-- the leader of one more state
pub leaders_more : (j : JahnSymbol) (F : Operation → Type 0) (reps : List Operation) (n : ℕ) (ls ls' : List ℕ) (l : ℕ) →
    length ls ≡ n → ((k : ℕ) → k < n → IsLeader j F reps (k + 1) (get_or ls k 0)) → ls' ≡ ls ++ l ∷ [] →
    IsLeader j F reps (n + 1) l → (k : ℕ) → k < n + 1 → IsLeader j F reps (k + 1) (get_or ls' k 0)
leaders_more j F reps n ls ls' l len before e here k less =
    subst (λ xs. IsLeader j F reps (k + 1) (get_or xs k 0)) (sym e)
    (elim (cases_lt k n) as (λ _. IsLeader j F reps (k + 1) (get_or (ls ++ l ∷ []) k 0)) [
      | inl h ↦ subst (λ x. IsLeader j F reps (k + 1) x) (sym (get_or-append ls (l ∷ []) 0 k (omega (arith, h, len)))) (before k h)
      | inr h ↦
          (let own : n ≡ k = omega (arith, h, less) in
          subst (λ x. IsLeader j F reps (k + 1) x) (sym (get_or_push ls l 0 k (len ∙ own)))
          (subst (λ x. IsLeader j F reps (x + 1) l) own here))
    ])

pub leaders_done : (j : JahnSymbol) (F : Operation → Type 0) (reps : List Operation) (n : ℕ) (ls : List ℕ) → length ls ≡ n →
    n ≡ length reps → ((k : ℕ) → k < n → IsLeader j F reps (k + 1) (get_or ls k 0)) → AreLeaders j F reps ls
leaders_done j F reps n ls len all each = record {
  len = len ∙ all;
  each = λ place l is.
      let below = slice_get_within ls place l is in
      subst (λ x. IsLeader j F reps (place + 1) x) (get_or_from_slice_get ls place l 0 is) (each place (omega (arith, below, len)));
}
