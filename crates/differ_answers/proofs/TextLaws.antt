-- The texts of states, piece by piece.
--   sum_grown, sum_done    one more term of a sum, and all of them
--   names_grown, names_done    one more name of a list, and all of them
--   marked_lines    the equations of the components that differ
use Rattle.list_laws.proofs.Kit.{◌≡◌, ℕ, zero, suc, ◌+◌, ◌<◌, ◌≤◌, ◌^◌, Bool, true, false, cond, List, [], ◌∷◌, ◌++◌, map, length, get_or, refl, ap, sym, ◌∙◌}
use Rattle.list_laws.proofs.Kit.{arith, subst, flat_map, decimal, flat_map-append, get_or-map, length-map, take_all}
use Rattle.std.proofs.Common.{append_assoc}
use Rattle.std.specs.Prelude.{codes, take}
use Rattle.std.proofs.lemmas.List.{append-nil}
use Rattle.tensor_defs.specs.Prelude.{Each, Index, index_of}
use Rattle.tensor_laws.proofs.ComponentNumbers.{number-index_of}
use Rattle.text_defs.specs.Prelude.{component_name, equation, free_names, line_of, named_roots, or_none, state_text, NamedTerm, spaced, sum_text, term_text}
use Rattle.reduced_form.specs.Prelude.{FormValue, form_table, free_at}
use Rattle.form_lines.specs.Texts.{lines_upto, placed, sum_from}
use Rattle.form_lines.proofs.TextLaws.{sum_whole, name_read}
use Rattle.state_marks.specs.declared.rows.RootTerm.{RootTerm}
use Rattle.state_marks.specs.Sums.{root_term_of}
use Rattle.state_marks.specs.Told.{StateValue, mark_at, row_at, row_of}
use Rattle.text_laws.proofs.Joins.{equation_joined, spaced_joined}
use Rattle.differ_answers.specs.Texts.{AreNamed, gap, marked_below, marked_indices, marked_text, named_terms}

-- ---- sums
abbrev text_at : NamedTerm → List ℕ
text_at t = term_text t.factor t.name

sum_more : (n : ℕ) (ts : List NamedTerm) (p : ℕ) (d : NamedTerm) → p < length ts →
    sum_from n (take (suc p) ts) ≡ sum_from n (take p ts) ++ placed (n + p) (text_at (get_or ts p d))
sum_more n [] p d l = absurd (omega (arith, l))
sum_more n (x ∷ ts) zero d l =
    let same : n ≡ n + zero = omega arith in
    append-nil (placed n (text_at x)) ∙ ap (λ k. placed k (text_at x)) same
sum_more n (x ∷ ts) (suc p) d l =
    let place : suc n + p ≡ n + suc p = omega arith in
    ap (λ y. placed n (text_at x) ++ y) (sum_more (suc n) ts p d (omega (arith, l)))
    ∙ ap (λ k. placed n (text_at x) ++ (sum_from (suc n) (take p ts) ++ placed k (text_at (get_or ts p d)))) place
    ∙ sym (append_assoc (placed n (text_at x)) (sum_from (suc n) (take p ts)) (placed (n + suc p) (text_at (get_or ts p d))))

module _ (r : ℕ) (f : FormValue) (row : List RootTerm) where
  abbrev named : RootTerm → NamedTerm
  named t = record { factor = t.factor; name = component_name (index_of r (free_at f.free t.free)) }

  -- one more term of a row
  pub sum_grown : (p : ℕ) (t : RootTerm) (old text out new : List ℕ) → p < length row → t ≡ get_or row p t →
      text ≡ text_at (named t) → out ≡ old ++ sum_from 0 (take p (named_terms r f row)) → new ≡ out ++ placed p text →
      new ≡ old ++ sum_from 0 (take (p + 1) (named_terms r f row))
  sum_grown p t old text out new l e is was grown =
      let next : suc p ≡ p + 1 = omega arith in
      let start : 0 + p ≡ p = omega arith in
      let long : p < length (named_terms r f row) = subst (λ n. p < n) (sym (length-map row named)) l in
      let at : get_or (named_terms r f row) p (named t) ≡ named t = get_or-map named row p t (named t) l ∙ ap named (sym e) in
      grown ∙ (λ i. was i ++ placed p (is i))
      ∙ append_assoc old (sum_from 0 (take p (named_terms r f row))) (placed p (text_at (named t)))
      ∙ ap (λ u. old ++ (sum_from 0 (take p (named_terms r f row)) ++ placed p (text_at u))) (sym at)
      ∙ ap (λ k. old ++ (sum_from 0 (take p (named_terms r f row)) ++ placed k (text_at (get_or (named_terms r f row) p (named t))))) (sym start)
      ∙ ap (λ x. old ++ x) (sym (sum_more 0 (named_terms r f row) p (named t) long))
      ∙ ap (λ k. old ++ sum_from 0 (take k (named_terms r f row))) next

  pub sum_done : (p : ℕ) → 0 < length row → length row ≤ p → sum_from 0 (take p (named_terms r f row)) ≡ sum_text (named_terms r f row)
  sum_done p some end =
      let long : length (named_terms r f row) ≤ p = subst (λ n. n ≤ p) (sym (length-map row named)) end in
      ap (sum_from 0) (take_all p (named_terms r f row) long)
      ∙ sum_whole (named_terms r f row) (subst (λ n. 0 < n) (sym (length-map row named)) some)

-- the pieces of an equation

pub equation_written : (name : List ℕ) (ts : List NamedTerm) (old one two three new : List ℕ) → one ≡ old ++ name →
    two ≡ one ++ (32 ∷ 61 ∷ 32 ∷ []) → three ≡ two ++ sum_text ts → new ≡ three ++ 10 ∷ [] → new ≡ old ++ equation name ts
equation_written name ts old one two three new a b d e =
    e ∙ ap (λ x. x ++ 10 ∷ []) (d ∙ ap (λ x. x ++ sum_text ts) (b ∙ ap (λ x. x ++ (32 ∷ 61 ∷ 32 ∷ [])) a))
    ∙ equation_joined old name (sum_text ts)

-- ---- names
spaced_more : (ws : List (List ℕ)) (k : ℕ) → k < length ws →
    spaced (take (suc k) ws) ≡ spaced (take k ws) ++ (gap k ++ get_or ws k [])
spaced_more [] k h = absurd (omega (arith, h))
spaced_more (w ∷ ws) zero h = refl
spaced_more (w ∷ []) (suc k) h = absurd (omega (arith, h))
spaced_more (w ∷ v ∷ ws) (suc zero) h = refl
spaced_more (w ∷ v ∷ ws) (suc (suc k)) h =
    ap (λ t. w ++ 32 ∷ t) (spaced_more (v ∷ ws) (suc k) (omega (arith, h)))
    ∙ sym (append_assoc w (32 ∷ spaced (take (suc k) (v ∷ ws))) (32 ∷ get_or ws k []))

names_length : (r : ℕ) (free : List ℕ) → length (map component_name (map (index_of r) free)) ≡ length free
names_length r free = length-map (map (index_of r) free) component_name ∙ length-map free (index_of r)

module _ (r : ℕ) (f : FormValue) where
  abbrev names : List (List ℕ)
  names = free_names (form_table r f)

  pub names_grown : (k : ℕ) (old out one new : List ℕ) → k < length f.free → out ≡ old ++ spaced (take k names) →
      one ≡ out ++ gap k → new ≡ one ++ component_name (index_of r (free_at f.free k)) →
      new ≡ old ++ spaced (take (k + 1) names)
  names_grown k old out one new h was a b =
      let next : suc k ≡ k + 1 = omega arith in
      let name = component_name (index_of r (free_at f.free k)) in
      let long : k < length names = subst (λ n. k < n) (sym (names_length r f.free)) h in
      b ∙ ap (λ l. l ++ name) a ∙ append_assoc out (gap k) name ∙ ap (λ l. l ++ (gap k ++ name)) was
      ∙ append_assoc old (spaced (take k names)) (gap k ++ name)
      ∙ ap (λ w. old ++ (spaced (take k names) ++ (gap k ++ w))) (sym (name_read r f.free k h))
      ∙ ap (λ l. old ++ l) (sym (spaced_more names k long))
      ∙ ap (λ n. old ++ spaced (take n names)) next

  some_names : (ws : List (List ℕ)) → 0 < length ws → spaced ws ≡ or_none ws
  some_names [] h = absurd (omega (arith, h))
  some_names (w ∷ ws) h = refl

  pub names_done : (k : ℕ) → 0 < length f.free → length f.free ≤ k → spaced (take k names) ≡ or_none names
  names_done k some end =
      let e = names_length r f.free in
      ap spaced (take_all k names (subst (λ n. n ≤ k) (sym e) end)) ∙ some_names names (subst (λ n. 0 < n) (sym e) some)

  pub no_names : length f.free ≡ 0 → or_none names ≡ codes "none"
  no_names e = none_of names (names_length r f.free ∙ e)
    where
      none_of : (ws : List (List ℕ)) → length ws ≡ 0 → or_none ws ≡ codes "none"
      none_of [] e = refl
      none_of (w ∷ ws) e = absurd (omega (arith, e))

-- ---- the components that differ
named_row : (r : ℕ) (f : FormValue) (row : List RootTerm) → Each (λ t. t.free < length f.free) row →
    named_roots (free_names (form_table r f)) (map root_term_of row) ≡ named_terms r f row
named_row r f [] e = refl
named_row r f (t ∷ row) e =
    λ i. record { factor = t.factor; name = name_read r f.free t.free e.0 i } ∷ named_row r f row e.1 i

abbrev line : ℕ → FormValue → StateValue → Index → List ℕ
line r f s i = equation (component_name i) (named_roots (free_names (form_table r f)) (row_of s i))

marked_line : (r : ℕ) (f : FormValue) (s : StateValue) (n : ℕ) → n < 3 ^ r → Each (λ t. t.free < length f.free) (row_at s n) →
    (b : Bool) → cond b (equation (component_name (index_of r n)) (named_terms r f (row_at s n))) []
    ≡ flat_map (line r f s) (cond b (index_of r n ∷ []) [])
marked_line r f s n h e true =
    let own : named_roots (free_names (form_table r f)) (row_of s (index_of r n)) ≡ named_terms r f (row_at s n) =
    ap (λ c. named_roots (free_names (form_table r f)) (map root_term_of (row_at s c))) (number-index_of r n h) ∙ named_row r f (row_at s n) e in
    ap (equation (component_name (index_of r n))) (sym own) ∙ sym (append-nil (line r f s (index_of r n)))
marked_line r f s n h e false = refl

pub marked_lines : (r : ℕ) (f : FormValue) (s : StateValue) (n : ℕ) → n ≤ 3 ^ r → AreNamed n (length f.free) s →
    lines_upto (marked_text r f s) n ≡ flat_map (line r f s) (marked_below r s n)
unfolding lines_upto
marked_lines r f s zero h e = refl
marked_lines r f s (suc n) h e =
    let before = marked_lines r f s n (omega (arith, h)) (λ c l. e c (omega (arith, l))) in
    let here = marked_line r f s n (omega (arith, h)) (e n (omega arith)) (mark_at s n) in
    (λ i. before i ++ here i)
    ∙ sym (flat_map-append (line r f s) (marked_below r s n) (cond (mark_at s n) (index_of r n ∷ []) []))

pub state_written : (k r n : ℕ) (f : FormValue) (s : StateValue) → n ≡ 3 ^ r → AreNamed n (length f.free) s →
    (old front new : List ℕ) → front ≡ old ++ line_of (codes "state" ∷ decimal k ∷ codes "differs" ∷ decimal (length (marked_below r s n)) ∷ codes "of" ∷ decimal n ∷ []) →
    new ≡ front ++ lines_upto (marked_text r f s) n →
    new ≡ old ++ state_text k r (form_table r f) (marked_indices r s) (row_of s)
state_written k r n f s e named old front new a b =
    let text : ℕ → ℕ → List ℕ = λ x y. line_of (codes "state" ∷ decimal k ∷ codes "differs" ∷ decimal x ∷ codes "of" ∷ decimal y ∷ []) in
    let small : n ≤ 3 ^ r = omega (arith, e) in
    b ∙ (λ i. a i ++ marked_lines r f s n small named i)
    ∙ append_assoc old (text (length (marked_below r s n)) n) (flat_map (line r f s) (marked_below r s n))
    ∙ (λ i. old ++ (text (length (marked_below r s (e i))) (e i) ++ flat_map (line r f s) (marked_below r s (e i))))

pub count_more : (r n count : ℕ) (s : StateValue) (one : ℕ) → count ≡ length (marked_below r s n) → one ≡ cond (mark_at s n) 1 0 →
    count + one ≡ length (marked_below r s (n + 1))
count_more r n count s one e f =
    let next : suc n ≡ n + 1 = omega arith in
    (λ i. e i + f i) ∙ grown (marked_below r s n) (mark_at s n) ∙ ap (λ k. length (marked_below r s k)) next
  where
    grown : (xs : List Index) (b : Bool) → length xs + cond b 1 0 ≡ length (xs ++ cond b (index_of r n ∷ []) [])
    grown [] true = refl
    grown [] false = refl
    grown (x ∷ xs) b = let h = grown xs b in omega (arith, h)

pub one_few : (b : Bool) (one : ℕ) → one ≡ cond b 1 0 → one ≤ 1
one_few true one e = omega (arith, e)
one_few false one e = omega (arith, e)

-- ---- first lines
symbols_joined : (old w g f j : List ℕ) →
    old ++ (w ++ 32 ∷ []) ++ g ++ 32 ∷ [] ++ f ++ 32 ∷ [] ++ j ≡ old ++ (w ++ 32 ∷ (g ++ 32 ∷ (f ++ 32 ∷ j)))
symbols_joined old w g f j = simp append_assoc

pub symbols_written : (w g f j old l1 l2 l3 l4 l5 new : List ℕ) → l1 ≡ old ++ (w ++ 32 ∷ []) → l2 ≡ l1 ++ g → l3 ≡ l2 ++ 32 ∷ [] →
    l4 ≡ l3 ++ f → l5 ≡ l4 ++ 32 ∷ [] → new ≡ l5 ++ j → new ≡ old ++ spaced (w ∷ g ∷ f ∷ j ∷ [])
symbols_written w g f j old l1 l2 l3 l4 l5 new a b c d e h =
    h ∙ ap (λ l. l ++ j) (e ∙ ap (λ l. l ++ 32 ∷ []) (d ∙ ap (λ l. l ++ f) (c ∙ ap (λ l. l ++ 32 ∷ []) (b ∙ ap (λ l. l ++ g) a))))
    ∙ symbols_joined old w g f j

-- the words of two lists, with a space between the lists

counts_joined : (old s k o ws : List ℕ) →
    old ++ (32 ∷ (s ++ 32 ∷ [])) ++ k ++ (32 ∷ (o ++ 32 ∷ [])) ++ ws ++ 10 ∷ []
    ≡ old ++ ((32 ∷ (s ++ 32 ∷ (k ++ 32 ∷ (o ++ 32 ∷ ws)))) ++ 10 ∷ [])
counts_joined old s k o ws = simp append_assoc

regrouped : (old a b d : List ℕ) → (old ++ a) ++ (b ++ d) ≡ old ++ ((a ++ b) ++ d)
regrouped old a b d = append_assoc old a (b ++ d) ∙ ap (λ l. old ++ l) (sym (append_assoc a b d))

pub header_written : (w g f j s k o ws old l1 l2 l3 l4 l5 new : List ℕ) → l1 ≡ old ++ spaced (w ∷ g ∷ f ∷ j ∷ []) →
    l2 ≡ l1 ++ (32 ∷ (s ++ 32 ∷ [])) → l3 ≡ l2 ++ k → l4 ≡ l3 ++ (32 ∷ (o ++ 32 ∷ [])) → l5 ≡ l4 ++ ws → new ≡ l5 ++ 10 ∷ [] →
    new ≡ old ++ line_of (w ∷ g ∷ f ∷ j ∷ s ∷ k ∷ o ∷ ws ∷ [])
header_written w g f j s k o ws old l1 l2 l3 l4 l5 new a b c d e h =
    h ∙ ap (λ l. l ++ 10 ∷ []) (e ∙ ap (λ l. l ++ ws) (d ∙ ap (λ l. l ++ (32 ∷ (o ++ 32 ∷ []))) (c ∙ ap (λ l. l ++ k)
    (b ∙ ap (λ l. l ++ (32 ∷ (s ++ 32 ∷ []))) a))))
    ∙ counts_joined (old ++ spaced (w ∷ g ∷ f ∷ j ∷ [])) s k o ws
    ∙ regrouped old (spaced (w ∷ g ∷ f ∷ j ∷ [])) (32 ∷ spaced (s ∷ k ∷ o ∷ ws ∷ [])) (10 ∷ [])
    ∙ ap (λ l. old ++ (l ++ 10 ∷ [])) (sym (spaced_joined w (g ∷ f ∷ j ∷ []) s (k ∷ o ∷ ws ∷ [])))

front_joined : (old w k d n o a : List ℕ) →
    old ++ (w ++ 32 ∷ []) ++ k ++ (32 ∷ (d ++ 32 ∷ [])) ++ n ++ (32 ∷ (o ++ 32 ∷ [])) ++ a ++ 10 ∷ []
    ≡ old ++ ((w ++ 32 ∷ (k ++ 32 ∷ (d ++ 32 ∷ (n ++ 32 ∷ (o ++ 32 ∷ a))))) ++ 10 ∷ [])
front_joined old w k d n o a = simp append_assoc

pub front_written : (w k d n o a old l1 l2 l3 l4 l5 l6 new : List ℕ) → l1 ≡ old ++ (w ++ 32 ∷ []) → l2 ≡ l1 ++ k →
    l3 ≡ l2 ++ (32 ∷ (d ++ 32 ∷ [])) → l4 ≡ l3 ++ n → l5 ≡ l4 ++ (32 ∷ (o ++ 32 ∷ [])) → l6 ≡ l5 ++ a → new ≡ l6 ++ 10 ∷ [] →
    new ≡ old ++ line_of (w ∷ k ∷ d ∷ n ∷ o ∷ a ∷ [])
front_written w k d n o a old l1 l2 l3 l4 l5 l6 new e1 e2 e3 e4 e5 e6 e7 =
    e7 ∙ ap (λ l. l ++ 10 ∷ []) (e6 ∙ ap (λ l. l ++ a) (e5 ∙ ap (λ l. l ++ (32 ∷ (o ++ 32 ∷ []))) (e4 ∙ ap (λ l. l ++ n)
    (e3 ∙ ap (λ l. l ++ (32 ∷ (d ++ 32 ∷ []))) (e2 ∙ ap (λ l. l ++ k) e1)))))
    ∙ front_joined old w k d n o a
