-- Equations that stand in an answer already.
--   lines_longer, known_longer    they stand in a longer one too
--   lines_within    where they stand is within it
--   lines_here      those behind the first line of a state
--   again_written   the text of a state with equations that stood before
--   serves_alike    those of an operation that acts alike serve
use Rattle.std.proofs.Common.{◌≡◌, ℕ, ◌+◌, ◌-◌, ◌^◌, ◌≤◌, List, [], ◌∷◌, ◌++◌, length, drop, take, slice_range, refl, ap, sym, ◌∙◌, arith, append_assoc, length-append}
use Rattle.std.specs.List.{flat_map}
use Rattle.std.specs.Prelude.{codes}
use Rattle.std.specs.Fmt.{decimal}
use Rattle.std.proofs.lemmas.List.{append-nil, drop_at, take_at}
use Rattle.list_laws.proofs.Members.{each_map}
use Rattle.tensor_defs.specs.Prelude.{Each, Operation, Table, Marks}
use Rattle.text_defs.specs.AnswerTexts.{component_name, equation, free_names, line_of, named_roots, state_text}
use Rattle.reduced_form.specs.Prelude.{FormValue, form_table}
use Rattle.form_lines.specs.Texts.{lines_upto}
use Rattle.answer_writers.specs.Rows.{IsLonger}
use Rattle.state_marks.specs.Alike.{AreAlike}
use Rattle.state_marks.specs.Told.{StateValue, row_of}
use Rattle.state_marks.proofs.AlikeLaws.{rows_alike}
use Rattle.differ_answers.specs.declared.known.Known.{Known}
use Rattle.differ_answers.specs.declared.states.Lines.{Lines}
use Rattle.differ_answers.specs.Standing.{AreLines, IsKnown, Serves, lines_text}
use Rattle.differ_answers.specs.Texts.{AreNamed, marked_below, marked_indices, marked_text}
use Rattle.differ_answers.proofs.TextLaws.{marked_lines}

module _ (r : ℕ) (a : Table) (s : StateValue) where
  abbrev lines : List ℕ
  lines = lines_text r a s

  pub lines_longer : (out new : List ℕ) (l : Lines) → IsLonger out new → AreLines r a s out l → AreLines r a s new l
  lines_longer out new l longer k = record {
    before = k.before;
    after = k.after ++ longer.more;
    text = longer.grown ∙ ap (λ x. x ++ longer.more) k.text ∙ append_assoc k.before (lines ++ k.after) longer.more
        ∙ ap (λ x. k.before ++ x) (append_assoc lines k.after longer.more);
    count = k.count;
    start = k.start;
    end = k.end;
  }

  pub lines_within : (out : List ℕ) (l : Lines) → AreLines r a s out l → (l.start ≤ l.end) × (l.end ≤ length out)
  lines_within out l k =
      let start = k.start in
      let end = k.end in
      let long : length out ≡ length k.before + (length lines + length k.after) =
      ap length k.text ∙ length-append k.before (lines ++ k.after) ∙ ap (λ n. length k.before + n) (length-append lines k.after) in
      (omega (arith, start, end), omega (arith, long, end))

  lines_cut : (out : List ℕ) (l : Lines) → AreLines r a s out l → slice_range out l.start l.end ≡ lines
  lines_cut out l k =
      let start = k.start in
      let end = k.end in
      let size : l.end - l.start ≡ length lines = omega (arith, start, end) in
      ap (λ n. take n (drop l.start out)) size ∙ ap (λ xs. take (length lines) (drop l.start xs)) k.text
      ∙ ap (take (length lines)) (drop_at k.before (lines ++ k.after) l.start (sym start)) ∙ take_at lines k.after (length lines) refl

  pub again_written : (number n : ℕ) (l : Lines) (old front cut new : List ℕ) → n ≡ 3 ^ r → AreLines r a s old l →
      front ≡ old ++ line_of (codes "state" ∷ decimal number ∷ codes "differs" ∷ decimal l.count ∷ codes "of" ∷ decimal n ∷ []) →
      cut ≡ slice_range old l.start l.end → new ≡ front ++ cut →
      new ≡ old ++ state_text number r a (marked_indices r s) (row_of s)
  again_written number n l old front cut new e k f c g =
      let text : ℕ → ℕ → List ℕ = λ x y. line_of (codes "state" ∷ decimal number ∷ codes "differs" ∷ decimal x ∷ codes "of" ∷ decimal y ∷ []) in
      g ∙ (λ i. f i ++ (c ∙ lines_cut old l k) i) ∙ append_assoc old (text l.count n) lines
      ∙ (λ i. old ++ (text (k.count i) (e i) ++ lines))

abbrev lines_of : ℕ → FormValue → StateValue → ℕ → List ℕ
lines_of r f s k = flat_map (λ i. equation (component_name i) (named_roots (free_names (form_table r f)) (row_of s i))) (marked_below r s k)

-- those behind the first line of a state
pub lines_here : (r n : ℕ) (f : FormValue) (s : StateValue) → n ≡ 3 ^ r → AreNamed n (length f.free) s →
    (front new : List ℕ) → new ≡ front ++ lines_upto (marked_text r f s) n → (l : Lines) → l.count ≡ length (marked_below r s n) →
    l.start ≡ length front → l.end ≡ length new → AreLines r (form_table r f) s new l
lines_here r n f s e named front new is l count start end =
    let a = form_table r f in
    let small : n ≤ 3 ^ r = omega (arith, e) in
    let all : new ≡ front ++ lines_text r a s = is ∙ ap (λ x. front ++ x) (marked_lines r f s n small named)
    ∙ ap (λ k. front ++ lines_of r f s k) e in
    record {
      before = front;
      after = [];
      text = all ∙ ap (λ x. front ++ x) (sym (append-nil (lines_text r a s)));
      count = count ∙ ap (λ k. length (marked_below r s k)) e;
      start = start;
      end = end ∙ ap length all ∙ length-append front (lines_text r a s);
    }

module _ (m : Marks) (r : ℕ) (a : Table) where
  pub known_longer : (out new : List ℕ) (ks : List Known) → IsLonger out new → Each (IsKnown m r a out) ks → Each (IsKnown m r a new) ks
  known_longer out new ks longer each =
      each_map (IsKnown m r a out) (IsKnown m r a new)
      (λ k is. record { state = is.state; rows = is.rows; lines = lines_longer r a is.state out new k.lines longer is.lines }) ks each

  pub serves_alike : (g : Operation) (out : List ℕ) (k : Known) → AreAlike m r k.op g → IsKnown m r a out k → Serves m r a g out k.lines
  serves_alike g out k alike is = record { state = is.state; rows = rows_alike m r a k.op g alike is.state is.rows; lines = is.lines }
