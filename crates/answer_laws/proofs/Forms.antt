-- A request for forms has one answer.
--   flat_map_same       texts joined from texts that are the same
--   indices_of_rank     the indices of a rank have that many digits
--   component_line_same, form_text_same    tables with the same parts have the same lines
--   joined_same         answers joined from answers that are each told by the symbol
--   one_form_lem        a request for forms has one answer
use Rattle.list_laws.proofs.Kit.{◌≡◌, ℕ, zero, suc, List, [], ◌∷◌, ◌++◌, length, refl, ap, sym, ◌∙◌, flat_map, decimal}
use Rattle.std.specs.Prelude.{map, codes, ◌^◌}
use Rattle.list_laws.proofs.Members.{each_map, each_append}
use Rattle.tensor_defs.specs.Prelude.{InGroup, JahnSymbol, rank, Each, Axis, x1, x2, x3, index_before, GroupSymbol, Table, Index, indices}
use Rattle.tensor_laws.proofs.Prelude.{index_order, same_free, same_terms}
use Rattle.text_defs.specs.Prelude.{line_of, row_text, has_index, component_name, named, component_line, table_text, form_text, IsFormText, AreJoined}
use Rattle.text_defs.specs.Prelude.{group_text, jahn_text, JahnAt}
use Rattle.answer_laws.specs.Laws.{OneForm}

pub flat_map_same : {X : Type 0} (f g : X → List ℕ) (xs : List X) → Each (λ x. f x ≡ g x) xs →
    flat_map f xs ≡ flat_map g xs
flat_map_same f g [] e = refl
flat_map_same f g (x ∷ xs) e = λ i. e.0 i ++ flat_map_same f g xs e.1 i

-- ---- indices
put_before : (r : ℕ) (a : Axis) (cs : List Index) → Each (λ c. length c ≡ r) cs →
    Each (λ c. length c ≡ suc r) (map (λ js. a ∷ js) cs)
put_before r a [] e = tt
put_before r a (c ∷ cs) e = (ap suc e.0, put_before r a cs e.1)

pub indices_of_rank : (r : ℕ) → Each (λ c. length c ≡ r) (indices r)
indices_of_rank zero = (refl, tt)
indices_of_rank (suc r) =
    let e : Each (λ c. length c ≡ r) (indices r) = indices_of_rank r in
    each_append (λ c. length c ≡ suc r) (map (λ js. x1 ∷ js) (indices r) ++ map (λ js. x2 ∷ js) (indices r)) _
    (each_append (λ c. length c ≡ suc r) (map (λ js. x1 ∷ js) (indices r)) _ (put_before r x1 (indices r) e)
    (put_before r x2 (indices r) e)) (put_before r x3 (indices r) e)

-- ---- texts
pub component_line_same : (a b : Table) (c : Index) → a.free ≡ b.free → a.terms c ≡ b.terms c →
    component_line a c ≡ component_line b c
component_line_same a b c f t =
    λ i. row_text (has_index (f i) c) (component_name c) (named (map component_name (f i)) (t i))

pub table_text_same : (r : ℕ) (a b : Table) → a.free ≡ b.free →
    ((c : Index) → length c ≡ r → a.terms c ≡ b.terms c) → table_text r a ≡ table_text r b
table_text_same r a b f t =
    flat_map_same (component_line a) (component_line b) (indices r)
    (each_map (λ c. length c ≡ r) (λ c. component_line a c ≡ component_line b c)
    (λ c n. component_line_same a b c f (t c n)) (indices r) (indices_of_rank r))

pub form_text_same : (g : GroupSymbol) (j : JahnSymbol) (a b : Table) → a.free ≡ b.free →
    ((c : Index) → length c ≡ rank j → a.terms c ≡ b.terms c) → form_text g j a ≡ form_text g j b
form_text_same g j a b f t =
    λ i. line_of (codes "form" ∷ group_text g ∷ jahn_text j ∷ codes "free" ∷ decimal (length (f i)) ∷ codes "of"
    ∷ decimal (3 ^ rank j) ∷ []) ++ table_text_same (rank j) a b f t i

pub joined_same : (Answer : JahnSymbol → List ℕ → Type 0) → ((j : JahnSymbol) (a b : List ℕ) → Answer j a → Answer j b →
    a ≡ b) → (js : List JahnAt) (a b : List ℕ) → AreJoined Answer js a → AreJoined Answer js b → a ≡ b
joined_same Answer one [] a b p q = p ∙ sym q
joined_same Answer one (j ∷ js) a b p q =
    p.4 ∙ (λ i. one j.jahn p.0 q.0 p.2 q.2 i ++ joined_same Answer one js p.1 q.1 p.3 q.3 i) ∙ sym q.4

one_form_text : (g : GroupSymbol) (j : JahnSymbol) (a b : List ℕ) → IsFormText g j a → IsFormText g j b → a ≡ b
one_form_text g j a b p q =
    let H = InGroup g in
    let order = index_order (rank j) in
    p.2 ∙ form_text_same g j p.0 q.0 (same_free j H index_before order p.0 q.0 p.1 q.1)
    (same_terms j H index_before order p.0 q.0 p.1 q.1) ∙ sym q.2

pub one_form_lem : OneForm
one_form_lem g js a b p q = joined_same (IsFormText g.symbol) (one_form_text g.symbol) js a b p q
