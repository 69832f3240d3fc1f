-- The texts of the states from the second on, one after the other, and what is told of sets with the same members.
--   IsWriting       the texts of the states before a place
--   written         all of them, where no row grows
--   text_told, grows_told    the text of an answer, and what grows, over sets with the same members
use Rattle.std.proofs.Common.{◌≢◌, ◌^◌, map, ◌≡◌, ℕ, suc, ◌+◌, ◌-◌, ◌<◌, ◌≤◌, inl, inr, List, [], ◌∷◌, ◌++◌, length, drop, take, get_or, refl, ap, sym, ◌∙◌, arith, subst, append_assoc}
use Rattle.std.specs.Prelude.{slice_get, Some}
use Rattle.std.proofs.lemmas.Option.{none-some, get_or_from_slice_get, slice_get_within}
use Rattle.std.proofs.lemmas.List.{append-nil, take_more, take_all, length-drop, length-take-le}
use Rattle.tensor_defs.specs.Prelude.{InGroup, SameSet, JahnSymbol, rank, Operation, index_before, RowsGrow, state_row, AreStates, GroupSymbol, Fits, Table}
use Rattle.tensor_defs.specs.Prelude.{Each, IsRoot3, num_zero, Marks, component_number, index_of}
use Rattle.tensor_defs.specs.StateRows as defs
use Rattle.tensor_laws.proofs.Prelude.{length-index_of, number-index_of, same_back}
use Rattle.reduced_form.specs.Forms.{FormValue, form_table}
use Rattle.text_defs.specs.Prelude.{AreStateTexts, IsDifferText, differ_header, state_text}
use Rattle.magnetic_groups.specs.Sets.{In, IsGroup}
use Rattle.state_answers.proofs.SameSets.{states_same}
use Rattle.reduced_form.proofs.SetLaws.{fits_admitted, grows_same, same_admitted}
use Rattle.state_marks.specs.Told.{AreStateRows, AreTold, MarksGrow, StateValue, row_at, row_of}
use Rattle.state_marks.proofs.MarkLaws.{rows_calm, state_tells}
use Rattle.state_marks.specs.declared.rows.RootTerm.{RootTerm}
use Rattle.state_marks.specs.Sums.{root_term_of}
use Rattle.state_marks.proofs.RowTells.{free_length}
use Rattle.state_marks.proofs.StateLaws.{told-more, told-start}
use Rattle.differ_answers.specs.Told.{AreWritten, IsDifferOver}
use Rattle.differ_answers.specs.Texts.{AreNamed, marked_indices}
use Rattle.differ_answers.proofs.Listing.{state_told, texts_more, texts_same}

-- ---- one state after the other
pub record IsWriting (m : Marks) (r : ℕ) (F : Operation → Type 0) (a : Table) (reps : List Operation) (n : ℕ) (old out : List ℕ) : Type 0 where
  pub values : List StateValue
  pub told : AreTold m r a reps n values
  pub texts : List ℕ
  pub text : out ≡ old ++ texts
  pub are_texts : (j : JahnSymbol) → rank j ≡ r → m ≡ j.marks → Fits j F index_before a →
      AreStateTexts j F a 2 (take (n - 1) (drop 1 reps)) texts

take_none : (xs : List Operation) → take 0 xs ≡ []
take_none [] = refl
take_none (x ∷ xs) = refl

module _ (m : Marks) (r : ℕ) (F : Operation → Type 0) (a : Table) (reps : List Operation) where
  pub writing-start : (old : List ℕ) → IsWriting m r F a reps 1 old old
  writing-start old = record {
    values = [];
    told = told-start m r a reps [] refl;
    texts = [];
    text = sym (append-nil old);
    are_texts = λ j e marks fits. subst (λ gs. AreStateTexts j F a 2 gs []) (sym (take_none (drop 1 reps))) refl;
  }

  later_at : (xs : List Operation) (n : ℕ) (g : Operation) → slice_get xs (suc n) ≡ Some g →
      (n < length (drop 1 xs)) × (get_or (drop 1 xs) n g ≡ g)
  later_at [] n g e = absurd (none-some g e)
  later_at (x ∷ xs) n g e = (slice_get_within xs n g e, get_or_from_slice_get xs n g g e)

  pub writing-more : (n : ℕ) (g : Operation) (s : StateValue) (old out new : List ℕ) → 1 ≤ n → slice_get reps n ≡ Some g →
      AreStateRows m g r a s → IsWriting m r F a reps n old out →
      new ≡ out ++ state_text (n + 1) r a (marked_indices r s) (row_of s) → IsWriting m r F a reps (n + 1) old new
  writing-more n g s old out new one at rows w e =
      let bytes = state_text (n + 1) r a (marked_indices r s) (row_of s) in
      let place : suc (n - 1) ≡ n = omega (arith, one) in
      let later = later_at reps (n - 1) g (ap (slice_get reps) place ∙ at) in
      let short = later.0 in
      let next : take (n + 1 - 1) (drop 1 reps) ≡ take (n - 1) (drop 1 reps) ++ g ∷ [] =
      (let k : n + 1 - 1 ≡ n - 1 + 1 = omega (arith, one) in
      ap (λ i. take i (drop 1 reps)) k ∙ take_more (drop 1 reps) (n - 1) g later.0
      ∙ ap (λ x. take (n - 1) (drop 1 reps) ++ x ∷ []) later.1) in
      let count : length (take (n - 1) (drop 1 reps)) ≡ n - 1 = length-take-le (n - 1) (drop 1 reps) (omega (arith, short)) in
      let number : n + 1 ≡ 2 + length (take (n - 1) (drop 1 reps)) = omega (arith, count, one) in
      record {
        values = w.values ++ s ∷ [];
        told = told-more m r a reps n w.values (w.values ++ s ∷ []) g s w.told at rows refl;
        texts = w.texts ++ bytes;
        text = e ∙ ap (λ l. l ++ bytes) w.text ∙ append_assoc old w.texts bytes;
        are_texts = λ j same marks fits.
            subst (λ gs. AreStateTexts j F a 2 gs (w.texts ++ bytes)) (sym next)
            (texts_more j F a (take (n - 1) (drop 1 reps)) 2 (n + 1) g w.texts bytes (w.are_texts j same marks fits) number
            (state_told j F r a g s (n + 1) bytes same (state_tells j F r m a same marks fits g s rows) refl));
      }

-- the terms of rows in a state name free components
unmapped : (k : ℕ) (P : defs.RootTerm → Type 0) → ((t : defs.RootTerm) → P t → t.place < k) → (ts : List RootTerm) →
    Each P (map root_term_of ts) → Each (λ t. t.free < k) ts
unmapped k P f [] e = tt
unmapped k P f (t ∷ ts) e = (f (root_term_of t) e.0, unmapped k P f ts e.1)

pub rows_named : (m : Marks) (g : Operation) (r n : ℕ) (f : FormValue) (s : StateValue) → n ≡ 3 ^ r →
    AreStateRows m g r (form_table r f) s → AreNamed n (length f.free) s
rows_named m g r n f s e told c h =
    let a = form_table r f in
    let i = index_of r c in
    let below : c < 3 ^ r = subst (λ x. c < x) e h in
    let row = told.rows i (length-index_of r c) in
    let P : defs.RootTerm → Type 0 = λ t. (t.place < length a.free) × (state_row m g a r i t.place ≢ num_zero)
    × IsRoot3 (state_row m g a r i t.place) t.factor in
    subst (λ x. Each (λ t. t.free < length f.free) (row_at s x)) (number-index_of r c below)
    (unmapped (length f.free) P (λ t p. subst (λ x. t.place < x) (free_length r f) p.0) (row_at s (component_number i)) row.terms)

-- all of them
pub written : (j : JahnSymbol) (G : Operation → Type 0) (fs : List Operation) (r : ℕ) (m : Marks) (a : Table) (reps : List Operation)
    (n : ℕ) (old out : List ℕ) → IsGroup fs → AreStates G (In fs) reps → rank j ≡ r → m ≡ j.marks → Fits j (In fs) index_before a →
    n ≡ length reps → IsWriting m r (In fs) a reps n old out → AreWritten j G (In fs) a reps old out
written j G fs r m a reps n old out group states e marks fits count w =
    let long = length-drop 1 reps in
    let whole : take (n - 1) (drop 1 reps) ≡ drop 1 reps = take_all (n - 1) (drop 1 reps) (omega (arith, long, count)) in
    record {
      texts = w.texts;
      are_texts = subst (λ gs. AreStateTexts j (In fs) a 2 gs w.texts) whole (w.are_texts j e marks fits);
      text = w.text;
      calm = rows_calm j G fs r m reps a w.values group states e marks fits (subst (λ k. AreTold m r a reps k w.values) count w.told);
    }

-- ---- sets with the same members
module _ (g f : GroupSymbol) (j : JahnSymbol) (gs fs : List Operation) (sg : SameSet (In gs) (InGroup g)) (sf : SameSet (In fs) (InGroup f)) where
  pub text_told : (reps : List Operation) → AreStates (In gs) (In fs) reps → (old new : List ℕ) →
      IsDifferOver g f j (In gs) (In fs) reps old new → (bytes : List ℕ) × IsDifferText g f j bytes × (new ≡ old ++ bytes)
  text_told reps states old new d =
      let header = differ_header g f j (length reps) d.table in (
        header ++ d.written.texts,
        record {
          table = d.table;
          fits = fits_admitted j (In fs) (InGroup f) index_before d.table (same_admitted j (In fs) (InGroup f) sf) d.fits;
          reps = reps;
          states = states_same (In gs) (InGroup g) (In fs) (InGroup f) sg sf reps states;
          texts = d.written.texts;
          are_texts = texts_same j (In fs) (InGroup f) sf d.table 2 (drop 1 reps) d.written.texts d.written.are_texts;
          text = refl;
        },
        d.written.text ∙ append_assoc old header d.written.texts,
      )

  rows_grow : (G G' F F' : Operation → Type 0) → SameSet G G' → SameSet F F' → RowsGrow j G F → RowsGrow j G' F'
  rows_grow G G' F F' s t w =
      (w.0, fits_admitted j F F' index_before w.0 (same_admitted j F F' t) w.1, w.2, states_same G G' F F' s t w.2 w.3, w.4, w.5, w.6, w.7, w.8)

  pub grows_told : MarksGrow j (In gs) (In fs) → MarksGrow j (InGroup g) (InGroup f)
  grows_told (inl w) = inl (grows_same j (In fs) (InGroup f) index_before sf w)
  grows_told (inr w) = inr (rows_grow (In gs) (InGroup g) (In fs) (InGroup f) sg sf w)

  pub grows_back : MarksGrow j (InGroup g) (InGroup f) → MarksGrow j (In gs) (In fs)
  grows_back (inl w) = inl (grows_same j (InGroup f) (In fs) index_before (same_back (In fs) (InGroup f) sf) w)
  grows_back (inr w) =
      inr (rows_grow (InGroup g) (In gs) (InGroup f) (In fs) (same_back (In gs) (InGroup g) sg) (same_back (In fs) (InGroup f) sf) w)
