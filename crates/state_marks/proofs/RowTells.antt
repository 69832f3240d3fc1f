-- Whether a row in a state is another than in the table.
--   root3-value     the number of the parts of a number
--   factors_tell, both_tell    where some factor isn't the sum; where none is, but some sum that isn't 0 is another
--   row_is          the terms of the sums are the row of a component in a state
use Rattle.list_laws.proofs.Kit.{◌≡◌, ◌≢◌, ℕ, ◌<◌, ◌^◌, inl, inr, Bool, true, false, List, [], ◌∷◌, length, map, get_or, ap, sym, ◌∙◌, subst, get_or-map}
use Rattle.list_laws.proofs.Kit.{length-map, Contains-get_or}
use Rattle.std.specs.Prelude.{Contains}
use Rattle.tensor_defs.specs.Prelude.{Each, IsRising, Number, Root3, IsRoot3, add, mul, num_zero, root_3, Operation, IsStateRow, factor_at, state_row, Table}
use Rattle.tensor_defs.specs.Prelude.{places_rise, Index, Marks, index_of}
use Rattle.tensor_defs.specs.StateRows as defs
use Rattle.tensor_defs.specs.Table as table
use Rattle.exact_frac.specs.Held.{zero_over_one}
use Rattle.tensor_laws.proofs.ComponentNumbers.{length-index_of, number-index_of}
use Rattle.root3_num.specs.Roots.{value_of_root}
use Rattle.tensor_action.specs.Acting.{zero_root}
use Rattle.reduced_form.specs.declared.forms.Term.{Term}
use Rattle.reduced_form.specs.Forms.{FormValue, IsWellFormed, form_table, row_at, term_of}
use Rattle.state_marks.specs.declared.rows.RootTerm.{RootTerm}
use Rattle.state_marks.specs.Adding.{AreSummed, IsRow}
use Rattle.state_marks.specs.Sums.{ListsSums, TellsBoth, TellsFactors, TellsSums, factor_in, form_term_at, root_term_of, sum_at, term_at}
use Rattle.state_marks.specs.Told.{TellsRow}
use Rattle.state_marks.proofs.Factors.{factor-at, factor-told}
use Rattle.list_laws.proofs.Members.{each_at}

-- ---- rows of a form
each_unmap : (P : table.Term → Type 0) (ts : List Term) → Each P (map term_of ts) → Each (λ t. P (term_of t)) ts
each_unmap P [] e = tt
each_unmap P (t ∷ ts) e = (e.0, each_unmap P ts e.1)

each_map_to : (P : defs.RootTerm → Type 0) (ts : List RootTerm) → Each (λ t. P (root_term_of t)) ts → Each P (map root_term_of ts)
each_map_to P [] e = tt
each_map_to P (t ∷ ts) e = (e.0, each_map_to P ts e.1)

pub free_length : (r : ℕ) (f : FormValue) → length (form_table r f).free ≡ length f.free
free_length r f = length-map f.free (index_of r)

module _ (r : ℕ) (f : FormValue) (formed : IsWellFormed r (form_table r f)) (n : ℕ) (h : n < 3 ^ r) where
  same_row : (form_table r f).terms (index_of r n) ≡ map term_of (row_at f.rows n)
  same_row = ap (λ c. map term_of (row_at f.rows c)) (number-index_of r n h)

  pub row_within : Each (λ t. t.free < length f.free) (row_at f.rows n)
  row_within =
      subst (λ k. Each (λ t. t.free < k) (row_at f.rows n)) (free_length r f)
      (each_unmap (λ t. t.place < length (form_table r f).free) (row_at f.rows n)
      (subst (λ ts. Each (λ t. t.place < length (form_table r f).free) ts) same_row (formed (index_of r n) (length-index_of r n)).1))

  pub row_rising : IsRising places_rise (map term_of (row_at f.rows n))
  row_rising = subst (IsRising places_rise) same_row (formed (index_of r n) (length-index_of r n)).0.0

-- ---- tests
pub root3-value : (x : Number) (v : Root3) → IsRoot3 x v → value_of_root v ≡ x
root3-value x v h = sym (h.same ∙ (λ n. add (h.is_a.same n) (mul (h.is_b.same n) root_3)))

module _ (rs : List Root3) (ts : List Term) (rises : IsRising places_rise (map term_of ts)) where
  pub factors_tell : Each (λ t. t.free < length rs) ts → TellsFactors rs ts true → TellsBoth rs ts true
  factors_tell within d =
      let k = d.0 in
      let below = each_at (λ (t : Term). t.free < length rs) ts within k (record { free = 0; factor = zero_over_one }) d.1 in
      ((form_term_at ts k).free, below, λ e. d.2 (e ∙ factor-at ts rises k d.1))

  module _ (row : List RootTerm) (l : ListsSums rs (length rs) row) where
    own : (q : ℕ) → q < length row → ((term_at row q).free < length rs) × (value_of_root (term_at row q).factor ≡ sum_at rs (term_at row q).free)
    own q h =
        let t = each_at (λ t. (t.free < length rs) × (sum_at rs t.free ≢ num_zero) × IsRoot3 (sum_at rs t.free) t.factor) row
        l.terms q (record { free = 0; factor = zero_root }) h in
        (t.0, root3-value (sum_at rs (term_at row q).free) (term_at row q).factor t.2)

    pub both_tell : (b : Bool) → TellsFactors rs ts false → TellsSums row ts b → TellsBoth rs ts b
    both_tell true factors d =
        let t = own d.0 d.1 in
        ((term_at row d.0).free, t.0, λ e. d.2 (t.1 ∙ e))
    both_tell false factors sums = λ k h. elim (l.whole k h) as (λ _. sum_at rs k ≡ factor_in ts k) [
      | inl z ↦ elim (factor-told k ts) as (λ _. sum_at rs k ≡ factor_in ts k) [
        | inl y ↦ z ∙ sym y
        | inr q ↦
            subst (λ p. sum_at rs p ≡ factor_in ts p) q.2 (factors q.0 q.1 ∙ sym (factor-at ts rises q.0 q.1))
      ]
      | inr q ↦ subst (λ p. sum_at rs p ≡ factor_in ts p) q.2 (sym (own q.0 q.1).1 ∙ sums q.0 q.1)
    ]

-- ---- the row of a component in a state
module _ (m : Marks) (g : Operation) (r : ℕ) (f : FormValue) (n : ℕ) (below : n < 3 ^ r) (rs : List Root3) (row : List RootTerm)
    (s : AreSummed m g r (form_table r f) (index_of r n) rs) (l : ListsSums rs (length rs) row) where
  abbrev a : Table
  a = form_table r f

  abbrev i : Index
  i = index_of r n

  is_row : IsStateRow m g a r i (map root_term_of row)
  is_row = record {
    rising = l.rising;
    terms = each_map_to (λ t. (t.place < length a.free) × (state_row m g a r i t.place ≢ num_zero)
        × IsRoot3 (state_row m g a r i t.place) t.factor) row (each_told row l.terms);
    whole = λ k h z. elim (l.whole k (subst (λ b. k < b) (sym s.len) h)) as
        (λ _. (t : defs.RootTerm) × Contains (map root_term_of row) t × (t.place ≡ k)) [
          | inl y ↦ absurd (z (sym (s.each k h) ∙ y))
          | inr q ↦
              (let d : RootTerm = record { free = 0; factor = zero_root } in
              let t = root_term_of (term_at row q.0) in
              let inside : q.0 < length (map root_term_of row) = subst (λ b. q.0 < b) (sym (length-map row root_term_of)) q.1 in
              let at : get_or (map root_term_of row) q.0 (root_term_of d) ≡ t = get_or-map root_term_of row q.0 d (root_term_of d) q.1 in
              (t, subst (λ u. Contains (map root_term_of row) u) at (Contains-get_or (map root_term_of row) q.0 (root_term_of d) inside), q.2))
        ];
  }
    where
      each_told : (ts : List RootTerm) → Each (λ t. (t.free < length rs) × (sum_at rs t.free ≢ num_zero) × IsRoot3 (sum_at rs t.free) t.factor) ts →
          Each (λ t. (t.free < length a.free) × (state_row m g a r i t.free ≢ num_zero) × IsRoot3 (state_row m g a r i t.free) t.factor) ts
      each_told [] e = tt
      each_told (t ∷ ts) e =
          let h : t.free < length a.free = subst (λ b. t.free < b) s.len e.0.0 in
          ((h, (λ z. e.0.1 (s.each t.free h ∙ z)), subst (λ x. IsRoot3 x t.factor) (s.each t.free h) e.0.2), each_told ts e.1)

  same_factor : (k : ℕ) → factor_in (row_at f.rows n) k ≡ factor_at (a.terms i) k
  same_factor k = ap (λ c. factor_at (map term_of (row_at f.rows c)) k) (sym (number-index_of r n below))

  tells : (b : Bool) → TellsBoth rs (row_at f.rows n) b → TellsRow m g a r i b
  tells true d =
      let h : d.0 < length a.free = subst (λ b. d.0 < b) s.len d.1 in
      (d.0, h, λ e. d.2 (s.each d.0 h ∙ e ∙ sym (same_factor d.0)))
  tells false d = λ k h. sym (s.each k h) ∙ d k (subst (λ b. k < b) (sym s.len) h) ∙ same_factor k

  pub row_is : (b : Bool) → TellsBoth rs (row_at f.rows n) b → IsRow m g r a i row b
  row_is b d = record { row = is_row; calm = s.calm; marks = tells b d }

-- ---- all rows
pub record AreRows (m : Marks) (g : Operation) (r : ℕ) (a : Table) (n : ℕ) (rows : List (List RootTerm)) (marks : List Bool) : Type 0 where
  pub len_rows : length rows ≡ n
  pub len_marks : length marks ≡ n
  pub each : (c : ℕ) → c < n → IsRow m g r a (index_of r c) (get_or rows c []) (get_or marks c false)
