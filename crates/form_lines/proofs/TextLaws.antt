-- The lines of all components, by their numbers.
--   lines_add, lines_same, all_lines    lines of components by their numbers
--   has_found, has_absent    whether a component is among the free ones
--   IsMarkedUpTo, marks_start, marks_more, marks_done    marks of the free components
--   sum_whole, named_term, sum_grown, sum_done, unit_text, minus_first    sums
--   name_grown, name_done    names
--   terms_named, free_line, sum_line    lines
--   grown_twice, lines_start, lines_grown    lists that have grown
use Rattle.list_laws.proofs.Kit.{◌≡◌, ℕ, zero, suc, ◌+◌, ◌*◌, ◌^◌, ◌<◌, ◌≤◌, Bool, true, false, List, [], ◌∷◌, ◌++◌, map, length, get_or, inl, inr, refl, ap}
use Rattle.list_laws.proofs.Kit.{sym, ◌∙◌, arith, subst, flat_map, pow-suc, flat_map-append, get_or-set_at, length-map, length-set, get_or-set_other}
use Rattle.list_laws.proofs.Kit.{take_all, cases_Bool, cases_eq, cases_lt, false_from_ne_true}
use Rattle.std.specs.Prelude.{codes, slice_set, take}
use Rattle.std.proofs.lemmas.List.{append_assoc, append-nil}
use Rattle.tensor_defs.specs.declared.Sign.{Sign}
use Rattle.tensor_defs.specs.declared.Sign.TheVariants.{Plus, Minus}
use Rattle.list_laws.proofs.Tests.{either_left, either_right, either_none}
use Rattle.tensor_laws.proofs.Prelude.{same_own, same_told, number-index_of, index_at}
use Rattle.tensor_defs.specs.Prelude.{Each, Axis, x1, x2, x3, Index, axis_at, component_number, digit, index_of, indices, same_index}
use Rattle.text_defs.specs.AnswerTexts.{component_line, component_name, digits_text, equation, free_names, has_index, named, rational, row_text}
use Rattle.text_defs.specs.NumberTexts.{NamedTerm, joined, later_terms, sum_text, term_text}
use Rattle.reduced_form.specs.declared.forms.Term.{Term}
use Rattle.reduced_form.specs.Forms.{FormValue, form_table, free_at, row_at, term_of, unit_fraction}
use Rattle.form_lines.specs.Texts.{AreFreeMarks, IsLonger, lines_upto, named_terms, placed, sum_from, text_at}

-- ---- lines of components by their numbers
pub lines_add : (f : ℕ → List ℕ) (m n : ℕ) → lines_upto f (m + n) ≡ lines_upto f m ++ lines_upto (λ c. f (m + c)) n
unfolding lines_upto
lines_add f m zero =
    let same : m + zero ≡ m = omega arith in
    ap (lines_upto f) same ∙ sym (append-nil (lines_upto f m))
lines_add f m (suc n) =
    let next : m + suc n ≡ suc (m + n) = omega arith in
    ap (lines_upto f) next ∙ ap (λ x. x ++ f (m + n)) (lines_add f m n)
    ∙ append_assoc (lines_upto f m) (lines_upto (λ c. f (m + c)) n) (f (m + n))

pub lines_same : (f g : ℕ → List ℕ) (n : ℕ) → ((c : ℕ) → c < n → f c ≡ g c) → lines_upto f n ≡ lines_upto g n
unfolding lines_upto
lines_same f g zero h = refl
lines_same f g (suc n) h = λ i. lines_same f g n (λ c l. h c (omega arith)) i ++ h n (omega arith) i

flat_mapped : (f : Index → List ℕ) (i : Axis) (xs : List Index) → flat_map f (map (λ js. i ∷ js) xs) ≡ flat_map (λ js. f (i ∷ js)) xs
flat_mapped f i [] = refl
flat_mapped f i (x ∷ xs) = ap (λ y. f (i ∷ x) ++ y) (flat_mapped f i xs)

third : (r : ℕ) (f : Index → List ℕ) (a : ℕ) (at : ℕ → ℕ) → ((c : ℕ) → at c ≡ a * 3 ^ r + c) →
    lines_upto (λ c. f (index_of (suc r) (at c))) (3 ^ r) ≡ lines_upto (λ c. f (axis_at a ∷ index_of r c)) (3 ^ r)
third r f a at e = lines_same _ _ (3 ^ r) (λ c h. ap f (index_at r a (at c) c h (e c)))

lines_one : (f : ℕ → List ℕ) → lines_upto f 1 ≡ f 0
unfolding lines_upto
lines_one f = refl

pub all_lines : (r : ℕ) (f : Index → List ℕ) → lines_upto (λ c. f (index_of r c)) (3 ^ r) ≡ flat_map f (indices r)
all_lines zero f = lines_one (λ c. f (index_of 0 c)) ∙ sym (append-nil (f []))
all_lines (suc r) f =
    let N = 3 ^ r in
    let g : ℕ → List ℕ = λ c. f (index_of (suc r) c) in
    let size : 3 ^ suc r ≡ N + (N + N) = omega (arith, pow-suc 3 r) in
    let one : lines_upto g N ≡ flat_map (λ js. f (x1 ∷ js)) (indices r) = third r f 0 (λ c. c) (λ c. omega arith) ∙ all_lines r (λ js. f (x1 ∷ js)) in
    let two : lines_upto (λ c. g (N + c)) N ≡ flat_map (λ js. f (x2 ∷ js)) (indices r) = third r f 1 (λ c. N + c) (λ c. omega arith) ∙ all_lines r (λ js. f (x2 ∷ js)) in
    let three : lines_upto (λ c. g (N + (N + c))) N ≡ flat_map (λ js. f (x3 ∷ js)) (indices r) = third r f 2 (λ c. N + (N + c)) (λ c. omega arith) ∙ all_lines r (λ js. f (x3 ∷ js)) in
    let a = map (λ js. x1 ∷ js) (indices r) in
    let b = map (λ js. x2 ∷ js) (indices r) in
    let c = map (λ js. x3 ∷ js) (indices r) in
    ap (lines_upto g) size ∙ lines_add g N (N + N)
    ∙ ap (λ x. lines_upto g N ++ x) (lines_add (λ c. g (N + c)) N N)
    ∙ (λ i. one i ++ (two i ++ three i))
    ∙ sym (flat_map-append f (a ++ b) c ∙ ap (λ x. x ++ flat_map f c) (flat_map-append f a b)
    ∙ append_assoc (flat_map f a) (flat_map f b) (flat_map f c)
    ∙ (λ i. flat_mapped f x1 (indices r) i ++ (flat_mapped f x2 (indices r) i ++ flat_mapped f x3 (indices r) i)))

-- ---- whether a component is among the free ones
pub has_found : (r c : ℕ) (free : List ℕ) (k : ℕ) → k < length free → free_at free k ≡ c → has_index (map (index_of r) free) (index_of r c) ≡ true
has_found r c [] k l e = absurd (omega arith)
has_found r c (x ∷ free) zero l e =
    either_left (same_index (index_of r x) (index_of r c)) (has_index (map (index_of r) free) (index_of r c))
    (ap (λ y. same_index (index_of r y) (index_of r c)) e ∙ same_own (index_of r c))
has_found r c (x ∷ free) (suc k) l e =
    either_right (same_index (index_of r x) (index_of r c)) (has_index (map (index_of r) free) (index_of r c))
    (has_found r c free k (omega arith) e)

pub has_absent : (r c : ℕ) (free : List ℕ) → c < 3 ^ r → ((k : ℕ) → k < length free → free_at free k < 3 ^ r) →
    ((k : ℕ) → k < length free → free_at free k ≡ c → ⊥) → has_index (map (index_of r) free) (index_of r c) ≡ false
has_absent r c [] h below away = refl
has_absent r c (x ∷ free) h below away =
    either_none (same_index (index_of r x) (index_of r c)) (has_index (map (index_of r) free) (index_of r c))
    (false_from_ne_true (same_index (index_of r x) (index_of r c)) (λ e. away 0 (omega arith)
    (sym (number-index_of r x (below 0 (omega arith))) ∙ ap component_number (same_told (index_of r x) (index_of r c) e) ∙ number-index_of r c h)))
    (has_absent r c free h (λ k l. below (suc k) (omega arith)) (λ k l. away (suc k) (omega arith)))

-- the first free components are marked, and nothing else
pub record IsMarkedUpTo (n : ℕ) (free : List ℕ) (place : ℕ) (marks : List Bool) : Type 0 where
  pub len : length marks ≡ n
  pub own : (k : ℕ) → k < place → get_or marks (free_at free k) false ≡ true
  pub other : (c : ℕ) → ((k : ℕ) → k < place → free_at free k ≡ c → ⊥) → get_or marks c false ≡ false

pub marks_start : (n : ℕ) (free : List ℕ) (marks : List Bool) → length marks ≡ n → ((c : ℕ) → get_or marks c false ≡ false) → IsMarkedUpTo n free 0 marks
marks_start n free marks len none = record { len = len; own = λ k l. absurd (omega arith); other = λ c away. none c }

pub none_more : (marks : List Bool) → ((c : ℕ) → get_or marks c false ≡ false) → (c : ℕ) → get_or (marks ++ false ∷ []) c false ≡ false
none_more [] h zero = refl
none_more [] h (suc c) = refl
none_more (b ∷ marks) h zero = h 0
none_more (b ∷ marks) h (suc c) = none_more marks (λ k. h (suc k)) c

pub marks_more : (n : ℕ) (free : List ℕ) (place i : ℕ) (marks : List Bool) → IsMarkedUpTo n free place marks → i ≡ free_at free place → i < n → IsMarkedUpTo n free (place + 1) (slice_set marks i true)
marks_more n free place i marks m at inside =
    let within : i < length marks = rw m.len inside in
    record {
      len = length-set marks i true ∙ m.len;
      own = λ k l. elim (cases_eq (free_at free k) i) as (λ _. get_or (slice_set marks i true) (free_at free k) false ≡ true) [
        | inl e ↦ get_or-set_at marks i (free_at free k) true false e within
        | inr e ↦
            let before : k < place = elim (cases_lt k place) as (λ _. k < place) [
              | inl p ↦ p
              | inr p ↦ let same : k ≡ place = omega arith in absurd (e (ap (free_at free) same ∙ sym at))
            ] in
            get_or-set_other marks i (free_at free k) true false e ∙ m.own k before
      ];
      other = λ c away.
          get_or-set_other marks i c true false (λ e. away place (omega arith) (sym at ∙ sym e)) ∙ m.other c (λ k l. away k (omega arith));
    }

pub marks_done : (n r : ℕ) (free : List ℕ) (marks : List Bool) → n ≡ 3 ^ r → ((k : ℕ) → k < length free → free_at free k < n) → IsMarkedUpTo n free (length free) marks → AreFreeMarks n r free marks
marks_done n r free marks power below m = record {
  len = m.len;
  is = λ c l. elim (cases_Bool (has_index (map (index_of r) free) (index_of r c))) as (λ _. get_or marks c false ≡ has_index (map (index_of r) free) (index_of r c)) [
    | inl has ↦ elim (cases_Bool (get_or marks c false)) as (λ _. get_or marks c false ≡ has_index (map (index_of r) free) (index_of r c)) [
      | inl marked ↦ marked ∙ sym has
      | inr bare ↦
          let absent : has_index (map (index_of r) free) (index_of r c) ≡ false =
          has_absent r c free (subst (λ (x : ℕ). c < x) power l) (λ k h. subst (λ (x : ℕ). free_at free k < x) power (below k h))
          (λ k h e. true_is_false (sym (m.own k h) ∙ ap (λ d. get_or marks d false) e ∙ bare)) in
          bare ∙ sym absent
    ]
    | inr none ↦ m.other c (λ k h e. true_is_false (sym (has_found r c free k h e) ∙ none)) ∙ sym none
  ];
}
  where
    true_is_false : true ≡ false → ⊥
    true_is_false e = cc

-- ---- sums
later_on : (n : ℕ) (ts : List NamedTerm) → later_terms ts ≡ sum_from (suc n) ts
later_on n [] = refl
later_on n (t ∷ ts) = ap (λ x. joined (term_text t.factor t.name) ++ x) (later_on (suc n) ts)

pub sum_whole : (ts : List NamedTerm) → 0 < length ts → sum_from 0 ts ≡ sum_text ts
sum_whole [] h = absurd (omega arith)
sum_whole (t ∷ ts) h = ap (λ x. term_text t.factor t.name ++ x) (sym (later_on 0 ts))

-- the name with its factor
abbrev pub named_term : ℕ → FormValue → Term → NamedTerm
named_term r f t = record { factor = rational t.factor; name = component_name (index_of r (free_at f.free t.free)) }

sum_more : (r : ℕ) (f : FormValue) (n : ℕ) (row : List Term) (p : ℕ) (t : Term) → p < length row → t ≡ get_or row p t →
    sum_from n (named_terms r f (take (suc p) row)) ≡ sum_from n (named_terms r f (take p row)) ++ placed (n + p) (text_at r f t)
sum_more r f n [] p t l e = absurd (omega arith)
sum_more r f n (x ∷ row) zero t l e =
    let same : n ≡ n + zero = omega arith in
    append-nil (placed n (text_at r f x)) ∙ (λ i. placed (same i) (text_at r f (sym e i)))
sum_more r f n (x ∷ row) (suc p) t l e =
    let place : suc n + p ≡ n + suc p = omega arith in
    ap (λ y. placed n (text_at r f x) ++ y) (sum_more r f (suc n) row p t (omega arith) e)
    ∙ ap (λ k. placed n (text_at r f x) ++ (sum_from (suc n) (named_terms r f (take p row)) ++ placed k (text_at r f t))) place
    ∙ sym (append_assoc (placed n (text_at r f x)) (sum_from (suc n) (named_terms r f (take p row))) (placed (n + suc p) (text_at r f t)))

-- one more term of a row
pub sum_grown : (r : ℕ) (f : FormValue) (row : List Term) (p : ℕ) (t : Term) (old text out new : List ℕ) → p < length row →
    t ≡ get_or row p t → text ≡ text_at r f t → out ≡ old ++ sum_from 0 (named_terms r f (take p row)) → new ≡ out ++ placed p text →
    new ≡ old ++ sum_from 0 (named_terms r f (take (p + 1) row))
sum_grown r f row p t old text out new l e is was grown =
    let next : suc p ≡ p + 1 = omega arith in
    let start : 0 + p ≡ p = omega arith in
    grown ∙ (λ i. was i ++ placed p (is i))
    ∙ append_assoc old (sum_from 0 (named_terms r f (take p row))) (placed p (text_at r f t))
    ∙ ap (λ k. old ++ (sum_from 0 (named_terms r f (take p row)) ++ placed k (text_at r f t))) (sym start)
    ∙ ap (λ x. old ++ x) (sym (sum_more r f 0 row p t l e))
    ∙ ap (λ k. old ++ sum_from 0 (named_terms r f (take k row))) next

pub sum_done : (r : ℕ) (f : FormValue) (row : List Term) (p : ℕ) → 0 < length row → length row ≤ p →
    sum_from 0 (named_terms r f (take p row)) ≡ sum_text (named_terms r f row)
sum_done r f row p some end =
    ap (λ xs. sum_from 0 (named_terms r f xs)) (take_all p row end)
    ∙ sum_whole (named_terms r f row) (subst (λ n. 0 < n) (sym (length-map row (named_term r f))) some)

abbrev pub signed_name : Sign → List ℕ → List ℕ
signed_name Plus name = name
signed_name Minus name = 45 ∷ name

-- a term with the factor 1 or -1
pub unit_text : (r : ℕ) (f : FormValue) (t : Term) (s : Sign) → t.factor ≡ unit_fraction s → text_at r f t ≡ signed_name s (component_name (index_of r (free_at f.free t.free)))
unit_text r f t Plus e = ap (λ x. term_text (rational x) (component_name (index_of r (free_at f.free t.free)))) e
unit_text r f t Minus e = ap (λ x. term_text (rational x) (component_name (index_of r (free_at f.free t.free)))) e

pub minus_first : (n : ℕ) (text : List ℕ) → placed n (45 ∷ text) ≡ 45 ∷ text
minus_first zero text = refl
minus_first (suc n) text = refl

-- ---- names
digits_more : (is : Index) (p : ℕ) → p < length is →
    digits_text (map digit (take (suc p) is)) ≡ digits_text (map digit (take p is)) ++ (48 + digit (get_or is p x1)) ∷ []
digits_more [] p l = absurd (omega arith)
digits_more (i ∷ is) zero l = refl
digits_more (i ∷ is) (suc p) l = ap (λ x. (48 + digit i) ∷ x) (digits_more is p (omega arith))

pub name_grown : (is : Index) (p d : ℕ) (old new : List ℕ) → p < length is → d ≡ digit (get_or is p x1) →
    old ≡ 84 ∷ digits_text (map digit (take p is)) → new ≡ old ++ (48 + d) ∷ [] → new ≡ 84 ∷ digits_text (map digit (take (p + 1) is))
name_grown is p d old new l e was grown =
    let next : suc p ≡ p + 1 = omega arith in
    grown ∙ (λ i. was i ++ (48 + e i) ∷ []) ∙ ap (λ x. 84 ∷ x) (sym (digits_more is p l))
    ∙ ap (λ k. 84 ∷ digits_text (map digit (take k is))) next

pub name_done : (is : Index) (p : ℕ) → length is ≤ p → 84 ∷ digits_text (map digit (take p is)) ≡ component_name is
name_done is p end = ap (λ xs. 84 ∷ digits_text (map digit xs)) (take_all p is end)

-- ---- lines
pub name_read : (r : ℕ) (free : List ℕ) (k : ℕ) → k < length free →
    get_or (map component_name (map (index_of r) free)) k [] ≡ component_name (index_of r (free_at free k))
name_read r [] k l = absurd (omega arith)
name_read r (x ∷ free) zero l = refl
name_read r (x ∷ free) (suc k) l = name_read r free k (omega arith)

row_named : (r : ℕ) (f : FormValue) (row : List Term) → Each (λ t. t.free < length f.free) row →
    named (free_names (form_table r f)) (map term_of row) ≡ named_terms r f row
row_named r f [] e = refl
row_named r f (t ∷ row) e =
    λ i. record { factor = rational t.factor; name = name_read r f.free t.free e.0 i } ∷ row_named r f row e.1 i

pub terms_named : (r c : ℕ) (f : FormValue) → c < 3 ^ r → Each (λ t. t.free < length f.free) (row_at f.rows c) →
    named (free_names (form_table r f)) ((form_table r f).terms (index_of r c)) ≡ named_terms r f (row_at f.rows c)
terms_named r c f h e =
    ap (λ d. named (free_names (form_table r f)) (map term_of (row_at f.rows d))) (number-index_of r c h)
    ∙ row_named r f (row_at f.rows c) e

pub free_line : (r c : ℕ) (f : FormValue) (old new line : List ℕ) → has_index (map (index_of r) f.free) (index_of r c) ≡ true →
    line ≡ component_name (index_of r c) ++ (32 ∷ (codes "free" ++ 10 ∷ [])) → new ≡ old ++ line → new ≡ old ++ component_line (form_table r f) (index_of r c)
free_line r c f old new line free is grown =
    let name : List ℕ = component_name (index_of r c) in
    grown ∙ ap (λ x. old ++ x) (is ∙ sym (append_assoc name (32 ∷ codes "free") (10 ∷ [])))
    ∙ ap (λ t. old ++ row_text t name (named (free_names (form_table r f)) ((form_table r f).terms (index_of r c)))) (sym free)

pub sum_line : (r c : ℕ) (f : FormValue) (old new : List ℕ) → has_index (map (index_of r) f.free) (index_of r c) ≡ false →
    c < 3 ^ r → Each (λ t. t.free < length f.free) (row_at f.rows c) →
    new ≡ old ++ equation (component_name (index_of r c)) (named_terms r f (row_at f.rows c)) → new ≡ old ++ component_line (form_table r f) (index_of r c)
sum_line r c f old new free below each grown =
    let name : List ℕ = component_name (index_of r c) in
    grown ∙ ap (λ ts. old ++ equation name ts) (sym (terms_named r c f below each))
    ∙ ap (λ t. old ++ row_text t name (named (free_names (form_table r f)) ((form_table r f).terms (index_of r c)))) (sym free)

-- ---- lists that have grown
pub grown_twice : {a b c : List ℕ} → IsLonger a b → IsLonger b c → IsLonger a c
grown_twice {a} h k = record {
  more = h.more ++ k.more;
  grown = k.grown ∙ ap (λ x. x ++ k.more) h.grown ∙ append_assoc a h.more k.more;
}

pub lines_start : (f : ℕ → List ℕ) (old : List ℕ) → old ≡ old ++ lines_upto f 0
unfolding lines_upto
lines_start f old = sym (append-nil old)

pub lines_grown : (f : ℕ → List ℕ) (n : ℕ) (old out new : List ℕ) → out ≡ old ++ lines_upto f n → new ≡ out ++ f n → new ≡ old ++ lines_upto f (n + 1)
unfolding lines_upto
lines_grown f n old out new was grown =
    let next : suc n ≡ n + 1 = omega arith in
    grown ∙ ap (λ x. x ++ f n) was ∙ append_assoc old (lines_upto f n) (f n) ∙ ap (λ k. old ++ lines_upto f k) next
