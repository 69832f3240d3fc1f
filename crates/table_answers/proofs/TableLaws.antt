-- Two tables in index order are the same exactly where their groups leave the same tensors unchanged.
use Rattle.std.proofs.Common.{◌≡◌, ◌↔◌, ℕ, suc, ◌^◌, ◌<◌, Bool, cond, List, [], ◌∷◌, map, length, get_or, refl, ap, sym, ◌∙◌, subst, arith}
use Rattle.list_laws.proofs.Members.{each_map}
use Rattle.tensor_defs.specs.Prelude.{AdmitSame, Bracket, IsInvariant, JahnSymbol, Respects, body_brackets, rank, Number, neg, Operation, index_before, Fits}
use Rattle.tensor_defs.specs.Prelude.{Table, value_at, Agree, Index, Tensor, component_number, index_of}
use Rattle.tensor_defs.specs.Table as defs
use Rattle.tensor_laws.proofs.Prelude.{act-agree, length-index_of, number-index_of, index_order, one_table}
use Rattle.magnetic_groups.specs.Sets.{In}
use Rattle.tensor_rank.proofs.ExchangeIndex.{length_exchanged}
use Rattle.reduced_form.specs.declared.forms.Term.{Term}
use Rattle.reduced_form.specs.Forms.{FormValue, IsForm, form_table, row_at, term_of}
use Rattle.reduced_form.proofs.FormLaws.{rows_same}
use Rattle.reduced_form.proofs.SetLaws.{fits_admitted}

-- ---- component lists that agree are invariant together
respects_agreed : (r : ℕ) (t u : Tensor) (b : Bracket) → Agree r t u → Respects r t b → Respects r u b
respects_agreed r t u b e h is js x =
    sym (e js (length_exchanged x)) ∙ h is js x ∙ ap (λ (n : Number). cond b.negates (neg n) n) (e is x.of_rank)

invariant_agreed : (j : JahnSymbol) (G : Operation → Type 0) (t u : Tensor) → Agree (rank j) t u → IsInvariant j G t →
    IsInvariant j G u
invariant_agreed j G t u e inv = record {
  symmetric =
      each_map (λ b. Respects (rank j) t b) (λ b. Respects (rank j) u b)
      (λ b. respects_agreed (rank j) t u b e) (body_brackets j.factors 0) inv.symmetric;
  unchanged = λ g h is n. sym (act-agree j.marks g (rank j) t u e is n) ∙ inv.unchanged g h is n ∙ e is n;
}

-- sets that one table fits leave the same tensors unchanged
admitted_by_table : (j : JahnSymbol) (G H : Operation → Type 0) (before : Index → Index → Bool) (a : Table) →
    Fits j G before a → Fits j H before a → AdmitSame j G H
admitted_by_table j G H before a p q t = (
  (λ i.
      let r = p.reaches t i in
      invariant_agreed j H (value_at a r.0) t r.2 (q.gives r.0 r.1)),
  (λ i.
      let r = q.reaches t i in
      invariant_agreed j G (value_at a r.0) t r.2 (p.gives r.0 r.1)),
)

-- ---- tables as they are kept
numbers_back : (r : ℕ) (xs : List ℕ) → ((k : ℕ) → k < length xs → get_or xs k 0 < 3 ^ r) →
    map component_number (map (index_of r) xs) ≡ xs
numbers_back r [] h = refl
numbers_back r (x ∷ xs) h =
    let here : component_number (index_of r x) ≡ x = number-index_of r x (h 0 (omega arith)) in
    let rest = numbers_back r xs (λ k l. h (suc k) (omega arith)) in
    λ i. here i ∷ rest i

abbrev term_back : defs.Term → Term
term_back t = record { free = t.place; factor = t.factor }

terms_back : (ts : List Term) → map term_back (map term_of ts) ≡ ts
terms_back [] = refl
terms_back (t ∷ ts) = ap (λ us. t ∷ us) (terms_back ts)

row_told : (r c : ℕ) (f h : FormValue) → c < 3 ^ r →
    (form_table r f).terms (index_of r c) ≡ (form_table r h).terms (index_of r c) → row_at f.rows c ≡ row_at h.rows c
row_told r c f h below e =
    let number : component_number (index_of r c) ≡ c = number-index_of r c below in
    let terms : map term_of (row_at f.rows c) ≡ map term_of (row_at h.rows c) =
    ap (λ d. map term_of (row_at f.rows d)) (sym number) ∙ e ∙ ap (λ d. map term_of (row_at h.rows d)) number in
    sym (terms_back (row_at f.rows c)) ∙ ap (map term_back) terms ∙ terms_back (row_at h.rows c)

forms_same : (r n : ℕ) (f h : FormValue) → n ≡ 3 ^ r → IsForm n f → IsForm n h →
    (form_table r f).free ≡ (form_table r h).free →
    ((c : Index) → length c ≡ r → (form_table r f).terms c ≡ (form_table r h).terms c) → f ≡ h
forms_same r n f h size p q free terms =
    let below_f : (k : ℕ) → k < length f.free → get_or f.free k 0 < 3 ^ r =
    λ k l. subst (λ (m : ℕ). get_or f.free k 0 < m) size (p.below k l) in
    let below_h : (k : ℕ) → k < length h.free → get_or h.free k 0 < 3 ^ r =
    λ k l. subst (λ (m : ℕ). get_or h.free k 0 < m) size (q.below k l) in
    let one : f.free ≡ h.free =
    sym (numbers_back r f.free below_f) ∙ ap (map component_number) free ∙ numbers_back r h.free below_h in
    let len : length f.rows ≡ 3 ^ r = p.len ∙ size in
    let two : f.rows ≡ h.rows = rows_same f.rows h.rows (p.len ∙ sym q.len) (λ k l.
    row_told r k f h (subst (λ (m : ℕ). k < m) len l) (terms (index_of r k) (length-index_of r k))) in
    λ i. record { free = one i; rows = two i }

pub same_where_admitted : (j : JahnSymbol) (r n : ℕ) (one other : List Operation) (f h : FormValue) → rank j ≡ r →
    n ≡ 3 ^ r → IsForm n f → IsForm n h → Fits j (In one) index_before (form_table r f) →
    Fits j (In other) index_before (form_table r h) → (f ≡ h) ↔ AdmitSame j (In one) (In other)
same_where_admitted j r n one other f h rank_is size whole_f whole_h p q = (
  (λ e.
      admitted_by_table j (In one) (In other) index_before (form_table r h)
      (subst (λ (x : FormValue). Fits j (In one) index_before (form_table r x)) e p) q),
  (λ a.
      let s = one_table j other index_before (index_order (rank j)) (form_table r f) (form_table r h)
      (fits_admitted j (In one) (In other) index_before (form_table r f) a p) q in
      forms_same r n f h size whole_f whole_h s.same_free (λ c l. s.same_terms c (l ∙ sym rank_is))),
)
