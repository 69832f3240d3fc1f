-- The texts of entries.
--   lines_listed    the lines of all entries, by their numbers
--   entry_found, entry_absent    whether an entry is among the free ones
--   marks_done      the marks of all free entries
--   sum_grown, sum_done    a sum, term by term
--   unit_text       a term with the factor 1 or -1
--   free_line, sum_line, zero_line    the line of an entry
--   free_line_whole, zero_line_whole  the same where it is appended at once
use Rattle.list_laws.proofs.Kit.{◌≡◌, ℕ, zero, suc, ◌+◌, ◌<◌, ◌≤◌, Bool, true, false, List, [], ◌∷◌, ◌++◌, map, length, get_or, inl, inr, refl, ap, sym, ◌∙◌}
use Rattle.list_laws.proofs.Kit.{subst, arith, flat_map, cases_Bool, flat_map-append, length-map, take_all}
use Rattle.std.specs.Prelude.{if◌then◌else◌, codes, take}
use Rattle.std.proofs.lemmas.List.{append_assoc, append-nil}
use Rattle.tensor_defs.specs.declared.Sign.{Sign}
use Rattle.tensor_defs.specs.declared.Sign.TheVariants.{Plus, Minus}
use Rattle.tensor_defs.specs.Prelude.{Each, same_numbers_in, Fraction, VoigtEntry, entries}
use Rattle.text_defs.specs.Prelude.{entry_line, entry_name, has_entry, named, rational, row_text, NamedTerm, sum_text, term_text}
use Rattle.reduced_form.specs.declared.forms.Term.{Term}
use Rattle.reduced_form.specs.Prelude.{row_at, term_of, unit_fraction}
use Rattle.form_lines.specs.Texts.{lines_upto, placed, sum_from}
use Rattle.form_lines.proofs.TextLaws.{IsMarkedUpTo, signed_name, sum_whole}
use Rattle.list_laws.proofs.Tests.{same_numbers_own, same_numbers_told}
use Rattle.text_laws.proofs.Joins.{equation_joined, free_joined}
use Rattle.voigt_table.specs.declared.entries.Blocks.{Blocks}
use Rattle.voigt_table.specs.Blocks.{entry_at, entry_count, entry_number, sizes_of}
use Rattle.voigt_table.specs.Tables.{IsVoigtValue, VoigtValue, voigt_of}
use Rattle.voigt_table.specs.Texts.{AreFreeMarks, named_entries}
use Rattle.voigt_table.proofs.EntryLaws.{entries_listed, firsts, number_told}

-- ---- lines of entries by their numbers
lines_first : (g : VoigtEntry → List ℕ) (h : ℕ → VoigtEntry) (n : ℕ) → lines_upto (λ k. g (h k)) n ≡ flat_map g (firsts h n)
unfolding lines_upto
lines_first g h zero = refl
lines_first g h (suc n) =
    ap (λ x. x ++ g (h n)) (lines_first g h n)
    ∙ ap (λ x. flat_map g (firsts h n) ++ x) (sym (append-nil (g (h n))))
    ∙ sym (flat_map-append g (firsts h n) (h n ∷ []))

pub lines_listed : (b : Blocks) (g : VoigtEntry → List ℕ) →
    lines_upto (λ k. g (entry_at (sizes_of b) k)) (entry_count (sizes_of b)) ≡ flat_map g (entries (sizes_of b))
lines_listed b g =
    lines_first g (entry_at (sizes_of b)) (entry_count (sizes_of b)) ∙ ap (flat_map g) (sym (entries_listed b))

-- ---- whether an entry is free

-- a test, or what is found later
either : Bool → Bool → Bool
either b y = if b then true else y

either_here : (b y : Bool) → b ≡ true → either b y ≡ true
unfolding either
either_here true y e = refl
either_here false y e = cc

either_later : (b y : Bool) → y ≡ true → either b y ≡ true
unfolding either
either_later true y e = refl
either_later false y e = e

either_none : (b y : Bool) → b ≡ false → y ≡ false → either b y ≡ false
unfolding either
either_none true y e f = cc
either_none false y e f = f

not_true : (b : Bool) → (b ≡ true → ⊥) → b ≡ false
not_true true h = absurd (h refl)
not_true false h = refl

pub entry_found : (h : ℕ → VoigtEntry) (free : List ℕ) (n k : ℕ) → k < length free → get_or free k 0 ≡ n →
    has_entry (map h free) (h n) ≡ true
unfolding either
entry_found h [] n k l e = absurd (omega arith)
entry_found h (x ∷ free) n zero l e =
    either_here (same_numbers_in (h x) (h n)) (has_entry (map h free) (h n))
    (ap (λ y. same_numbers_in (h y) (h n)) e ∙ same_numbers_own (h n))
entry_found h (x ∷ free) n (suc k) l e =
    either_later (same_numbers_in (h x) (h n)) (has_entry (map h free) (h n)) (entry_found h free n k (omega arith) e)

absent : (h : ℕ → VoigtEntry) (back : VoigtEntry → ℕ) (end : ℕ) → ((k : ℕ) → k < end → back (h k) ≡ k) → (free : List ℕ) (n : ℕ) →
    n < end → ((k : ℕ) → k < length free → get_or free k 0 < end) → ((k : ℕ) → k < length free → get_or free k 0 ≡ n → ⊥) →
    has_entry (map h free) (h n) ≡ false
unfolding either
absent h back end told [] n l below away = refl
absent h back end told (x ∷ free) n l below away =
    either_none (same_numbers_in (h x) (h n)) (has_entry (map h free) (h n))
    (not_true (same_numbers_in (h x) (h n)) (λ e. away 0 (omega arith)
    (sym (told x (below 0 (omega arith))) ∙ ap back (same_numbers_told (h x) (h n) e) ∙ told n l)))
    (absent h back end told free n l (λ k m. below (suc k) (omega arith)) (λ k m. away (suc k) (omega arith)))

pub entry_absent : (b : Blocks) (free : List ℕ) (n : ℕ) → n < entry_count (sizes_of b) →
    ((k : ℕ) → k < length free → get_or free k 0 < entry_count (sizes_of b)) →
    ((k : ℕ) → k < length free → get_or free k 0 ≡ n → ⊥) →
    has_entry (map (entry_at (sizes_of b)) free) (entry_at (sizes_of b) n) ≡ false
entry_absent b free n l below away =
    absent (entry_at (sizes_of b)) (entry_number (sizes_of b)) (entry_count (sizes_of b)) (number_told b) free n l below away

-- ---- marks
pub marks_done : (b : Blocks) (v : VoigtValue) (marks : List Bool) → v.sizes ≡ sizes_of b →
    ((k : ℕ) → k < length v.free → get_or v.free k 0 < entry_count v.sizes) → IsMarkedUpTo 36 v.free (length v.free) marks → AreFreeMarks v marks
marks_done b v marks sizes below m = record {
  len = m.len;
  is = λ n l. elim (cases_Bool (has_entry (map (entry_at v.sizes) v.free) (entry_at v.sizes n))) as (λ _. get_or marks n false ≡ has_entry (map (entry_at v.sizes) v.free) (entry_at v.sizes n)) [
    | inl has ↦ elim (cases_Bool (get_or marks n false)) as (λ _. get_or marks n false ≡ has_entry (map (entry_at v.sizes) v.free) (entry_at v.sizes n)) [
      | inl marked ↦ marked ∙ sym has
      | inr bare ↦ bare ∙ sym (absent_in n l (λ k h e. true_is_false (sym (m.own k h) ∙ ap (λ d. get_or marks d false) e ∙ bare)))
    ]
    | inr none ↦ m.other n (λ k h e. true_is_false (sym (entry_found (entry_at v.sizes) v.free n k h e) ∙ none)) ∙ sym none
  ];
}
  where
    true_is_false : true ≡ false → ⊥
    true_is_false e = cc

    absent_in : (n : ℕ) → n < entry_count v.sizes → ((k : ℕ) → k < length v.free → get_or v.free k 0 ≡ n → ⊥) →
        has_entry (map (entry_at v.sizes) v.free) (entry_at v.sizes n) ≡ false
    absent_in n l away =
        subst (λ (ss : List ℕ). n < entry_count ss → ((k : ℕ) → k < length v.free → get_or v.free k 0 < entry_count ss) →
        has_entry (map (entry_at ss) v.free) (entry_at ss n) ≡ false) (sym sizes)
        (λ inside under. entry_absent b v.free n inside under away) l below

-- ---- sums
abbrev text_of : NamedTerm → List ℕ
text_of t = term_text t.factor t.name

sum_more : (f : Term → NamedTerm) (n : ℕ) (row : List Term) (p : ℕ) (t : Term) → p < length row → t ≡ get_or row p t →
    sum_from n (map f (take (suc p) row)) ≡ sum_from n (map f (take p row)) ++ placed (n + p) (text_of (f t))
sum_more f n [] p t l e = absurd (omega arith)
sum_more f n (x ∷ row) zero t l e =
    let same : n ≡ n + zero = omega arith in
    append-nil (placed n (text_of (f x))) ∙ (λ i. placed (same i) (text_of (f (sym e i))))
sum_more f n (x ∷ row) (suc p) t l e =
    let place : suc n + p ≡ n + suc p = omega arith in
    ap (λ y. placed n (text_of (f x)) ++ y) (sum_more f (suc n) row p t (omega arith) e)
    ∙ ap (λ k. placed n (text_of (f x)) ++ (sum_from (suc n) (map f (take p row)) ++ placed k (text_of (f t)))) place
    ∙ sym (append_assoc (placed n (text_of (f x))) (sum_from (suc n) (map f (take p row))) (placed (n + suc p) (text_of (f t))))

-- one more term of a row
pub sum_grown : (f : Term → NamedTerm) (row : List Term) (p : ℕ) (t : Term) (old text out new : List ℕ) → p < length row →
    t ≡ get_or row p t → text ≡ text_of (f t) → out ≡ old ++ sum_from 0 (map f (take p row)) → new ≡ out ++ placed p text →
    new ≡ old ++ sum_from 0 (map f (take (p + 1) row))
sum_grown f row p t old text out new l e is was grown =
    let next : suc p ≡ p + 1 = omega arith in
    let start : 0 + p ≡ p = omega arith in
    grown ∙ (λ i. was i ++ placed p (is i))
    ∙ append_assoc old (sum_from 0 (map f (take p row))) (placed p (text_of (f t)))
    ∙ ap (λ k. old ++ (sum_from 0 (map f (take p row)) ++ placed k (text_of (f t)))) (sym start)
    ∙ ap (λ x. old ++ x) (sym (sum_more f 0 row p t l e))
    ∙ ap (λ k. old ++ sum_from 0 (map f (take k row))) next

pub sum_done : (f : Term → NamedTerm) (row : List Term) (p : ℕ) → 0 < length row → length row ≤ p →
    sum_from 0 (map f (take p row)) ≡ sum_text (map f row)
sum_done f row p some end =
    ap (λ xs. sum_from 0 (map f xs)) (take_all p row end)
    ∙ sum_whole (map f row) (subst (λ n. 0 < n) (sym (length-map row f)) some)

-- a term with the factor 1 or -1
pub unit_text : (x : Fraction) (s : Sign) (name : List ℕ) → x ≡ unit_fraction s → term_text (rational x) name ≡ signed_name s name
unit_text x Plus name e = ap (λ y. term_text (rational y) name) e
unit_text x Minus name e = ap (λ y. term_text (rational y) name) e

-- ---- lines
name_read : (h : ℕ → List ℕ) (g : VoigtEntry → List ℕ) (at : ℕ → VoigtEntry) (free : List ℕ) → ((n : ℕ) → g (at n) ≡ h n) → (k : ℕ) →
    k < length free → get_or (map g (map at free)) k [] ≡ h (get_or free k 0)
name_read h g at [] s k l = absurd (omega arith)
name_read h g at (x ∷ free) s zero l = s x
name_read h g at (x ∷ free) s (suc k) l = name_read h g at free s k (omega arith)

row_named : (v : VoigtValue) (row : List Term) → Each (λ t. t.free < length v.free) row →
    named (map (entry_name v.weights) (voigt_of v).free) (map term_of row) ≡ named_entries v row
row_named v [] e = refl
row_named v (t ∷ row) e =
    λ i. record {
      factor = rational t.factor;
      name = name_read (λ n. entry_name v.weights (entry_at v.sizes n)) (entry_name v.weights) (entry_at v.sizes) v.free (λ n. refl) t.free e.0 i;
    } ∷ row_named v row e.1 i

-- the terms of the entry of a number, named
terms_named : (b : Blocks) (v : VoigtValue) (n : ℕ) → v.sizes ≡ sizes_of b → n < entry_count v.sizes →
    Each (λ t. t.free < length v.free) (row_at v.rows n) →
    named (map (entry_name v.weights) (voigt_of v).free) ((voigt_of v).terms (entry_at v.sizes n)) ≡ named_entries v (row_at v.rows n)
terms_named b v n is l e =
    let number : entry_number v.sizes (entry_at v.sizes n) ≡ n =
    subst (λ (bs : List ℕ). n < entry_count bs → entry_number bs (entry_at bs n) ≡ n) (sym is) (number_told b n) l in
    ap (λ k. named (map (entry_name v.weights) (voigt_of v).free) (map term_of (row_at v.rows k))) number
    ∙ row_named v (row_at v.rows n) e

pub free_line : (v : VoigtValue) (e : VoigtEntry) (old one new name : List ℕ) → has_entry (voigt_of v).free e ≡ true →
    name ≡ entry_name v.weights e → one ≡ old ++ name → new ≡ one ++ (32 ∷ (codes "free" ++ 10 ∷ [])) →
    new ≡ old ++ entry_line v.weights (voigt_of v) e
free_line v e old one new name free is a b =
    b ∙ ap (λ x. x ++ (32 ∷ (codes "free" ++ 10 ∷ []))) (a ∙ ap (λ x. old ++ x) is) ∙ free_joined old (entry_name v.weights e)
    ∙ ap (λ t. old ++ row_text t (entry_name v.weights e) (named (map (entry_name v.weights) (voigt_of v).free) ((voigt_of v).terms e))) (sym free)

pub sum_line : (b : Blocks) (v : VoigtValue) (n : ℕ) (old one two three new name : List ℕ) → v.sizes ≡ sizes_of b → n < entry_count v.sizes →
    IsVoigtValue v → has_entry (voigt_of v).free (entry_at v.sizes n) ≡ false →
    name ≡ entry_name v.weights (entry_at v.sizes n) → one ≡ old ++ name → two ≡ one ++ (32 ∷ 61 ∷ 32 ∷ []) →
    three ≡ two ++ sum_text (named_entries v (row_at v.rows n)) → new ≡ three ++ 10 ∷ [] →
    new ≡ old ++ entry_line v.weights (voigt_of v) (entry_at v.sizes n)
sum_line b v n old one two three new name sizes below whole free is a p d e =
    let the_name = entry_name v.weights (entry_at v.sizes n) in
    e ∙ ap (λ x. x ++ 10 ∷ []) (d ∙ ap (λ x. x ++ sum_text (named_entries v (row_at v.rows n))) (p ∙ ap (λ x. x ++ (32 ∷ 61 ∷ 32 ∷ [])) (a ∙ ap (λ x. old ++ x) is)))
    ∙ equation_joined old the_name (sum_text (named_entries v (row_at v.rows n)))
    ∙ ap (λ ts. old ++ row_text false the_name ts) (sym (terms_named b v n sizes below (whole.named n below)))
    ∙ ap (λ t. old ++ row_text t the_name (named (map (entry_name v.weights) (voigt_of v).free) ((voigt_of v).terms (entry_at v.sizes n)))) (sym free)

pub zero_line : (b : Blocks) (v : VoigtValue) (n : ℕ) (old one new : List ℕ) → v.sizes ≡ sizes_of b → n < entry_count v.sizes →
    IsVoigtValue v → has_entry (voigt_of v).free (entry_at v.sizes n) ≡ false → row_at v.rows n ≡ [] →
    one ≡ old ++ entry_name v.weights (entry_at v.sizes n) → new ≡ one ++ (32 ∷ 61 ∷ 32 ∷ 48 ∷ 10 ∷ []) →
    new ≡ old ++ entry_line v.weights (voigt_of v) (entry_at v.sizes n)
zero_line b v n old one new sizes below whole free none is a =
    let two : List ℕ = one ++ (32 ∷ 61 ∷ 32 ∷ []) in
    let pieces : one ++ (32 ∷ 61 ∷ 32 ∷ 48 ∷ 10 ∷ []) ≡ (two ++ 48 ∷ []) ++ 10 ∷ [] =
    sym (append_assoc two (48 ∷ []) (10 ∷ []) ∙ append_assoc one (32 ∷ 61 ∷ 32 ∷ []) (48 ∷ 10 ∷ [])) in
    sum_line b v n old one two (two ++ 48 ∷ []) new (entry_name v.weights (entry_at v.sizes n)) sizes below whole free refl is refl
    (ap (λ (ts : List Term). two ++ sum_text (named_entries v ts)) (sym none)) (a ∙ pieces)

-- the line at once
pub free_line_whole : (v : VoigtValue) (e : VoigtEntry) (old new line : List ℕ) → has_entry (voigt_of v).free e ≡ true →
    line ≡ entry_name v.weights e ++ (32 ∷ (codes "free" ++ 10 ∷ [])) → new ≡ old ++ line →
    new ≡ old ++ entry_line v.weights (voigt_of v) e
free_line_whole v e old new line free is a =
    let name : List ℕ = entry_name v.weights e in
    free_line v e old (old ++ name) new name free refl refl
    (a ∙ ap (λ x. old ++ x) is ∙ sym (append_assoc old name (32 ∷ (codes "free" ++ 10 ∷ []))))

pub zero_line_whole : (b : Blocks) (v : VoigtValue) (n : ℕ) (old new line : List ℕ) → v.sizes ≡ sizes_of b → n < entry_count v.sizes →
    IsVoigtValue v → has_entry (voigt_of v).free (entry_at v.sizes n) ≡ false → row_at v.rows n ≡ [] →
    line ≡ entry_name v.weights (entry_at v.sizes n) ++ (32 ∷ 61 ∷ 32 ∷ 48 ∷ 10 ∷ []) → new ≡ old ++ line →
    new ≡ old ++ entry_line v.weights (voigt_of v) (entry_at v.sizes n)
zero_line_whole b v n old new line sizes below whole free none is a =
    let name : List ℕ = entry_name v.weights (entry_at v.sizes n) in
    zero_line b v n old (old ++ name) new sizes below whole free none refl
    (a ∙ ap (λ x. old ++ x) is ∙ sym (append_assoc old name (32 ∷ 61 ∷ 32 ∷ 48 ∷ 10 ∷ [])))
