-- The texts of matrices, and the lines of operations.
--   texts_are       the table has the texts of the matrices, by computing
--   row_text, text_at    the text of a table at a place, and that of an operation
--   line_joined     the pieces of a line, appended one after another
--   line_more, longer_more, longer_last    what is written and what is still to come, after one line more
use Rattle.std.proofs.Common.{◌≡◌, ℕ, zero, suc, refl, ◌+◌, ◌/◌, ◌%◌, ◌<◌, Bool, true, false, List, [], ◌∷◌, ◌++◌, length, drop, get_or, append_assoc, sym, subst, ◌∙◌, ap, arith}
use Rattle.std.specs.Prelude.{codes, map, Result, Ok, Err, OnOk, OnErr}
use Rattle.std.specs.Borrow.{Bor}
use Rattle.std.specs.Fmt.{digits, decimal}
use Rattle.std.proofs.lemmas.List.{drop_more}
use Rattle.tensor_defs.specs.Operation.{Operation}
use Rattle.op_matrix.specs.Table.{matrices, nth, nth_operation, operation_at}
use Rattle.text_defs.specs.Prelude.{line_of, numbered, operation_text, spaced}
use Rattle.answer_writers.specs.Rows.{ending_of, matrix_text, IsLonger}
use Rattle.answer_writers.specs.declared.texts.TheConstants.{TEXTS}

pub texts_are : map (λ r. r.now) TEXTS ≡ map matrix_text matrices
unfolding digits
texts_are = refl

pub row_text : (rows : List (Bor (List ℕ))) (k : ℕ) (d : Bor (List ℕ)) → k < length rows →
    (get_or rows k d).now ≡ get_or (map (λ r. r.now) rows) k []
row_text [] k d h = absurd (omega arith)
row_text (r ∷ rs) zero d h = refl
row_text (r ∷ rs) (suc k) d h = row_text rs k d (omega arith)

matrix_at : (gs : List Operation) (k : ℕ) → k < length gs → get_or (map matrix_text gs) k [] ≡ matrix_text (nth gs k)
matrix_at [] k h = absurd (omega arith)
matrix_at (g ∷ gs) zero h = refl
matrix_at (g ∷ gs) (suc k) h = matrix_at gs k (omega arith)

pub text_at : (texts : List (List ℕ)) (g : Operation) (k : ℕ) → texts ≡ map matrix_text matrices → k < 128 →
    g ≡ nth_operation k → get_or texts (k / 2) [] ≡ matrix_text g
unfolding nth_operation operation_at
text_at texts g k all h is =
    ap (λ l. get_or l (k / 2) []) all ∙ matrix_at matrices (k / 2) (omega arith) ∙ sym (ap matrix_text is)

ended : (g : Operation) (p : Bool) → g.primed ≡ p → operation_text g ++ 10 ∷ [] ≡ matrix_text g ++ ending_of p
ended g true e = rw e (simp append_assoc)
ended g false e = rw e refl

-- the pieces of a line, appended one after another
pub line_joined : (word : List ℕ) (k : ℕ) (g : Operation) (old one two three : List ℕ) →
    one ≡ old ++ spaced (word ∷ decimal k ∷ [] ∷ []) → two ≡ one ++ matrix_text g →
    three ≡ two ++ ending_of g.primed → three ≡ old ++ line_of (word ∷ decimal k ∷ operation_text g ∷ [])
line_joined word k g old one two three a b e =
    e ∙ ap (λ l. l ++ ending_of g.primed) (b ∙ ap (λ l. l ++ matrix_text g) a)
    ∙ regrouped old word (decimal k) (matrix_text g) (ending_of g.primed)
    ∙ ap (λ l. old ++ (word ++ 32 ∷ (decimal k ++ 32 ∷ l))) (sym (ended g g.primed refl))
    ∙ joined old word (decimal k) (operation_text g)
  where
    regrouped : (old w n m l : List ℕ) → ((old ++ (w ++ 32 ∷ (n ++ 32 ∷ []))) ++ m) ++ l ≡ old ++ (w ++ 32 ∷ (n ++ 32 ∷ (m ++ l)))
    regrouped old w n m l = simp append_assoc

    joined : (old w n m : List ℕ) → old ++ (w ++ 32 ∷ (n ++ 32 ∷ (m ++ 10 ∷ []))) ≡ old ++ ((w ++ 32 ∷ (n ++ 32 ∷ m)) ++ 10 ∷ [])
    joined old w n m = simp append_assoc

-- the line of the next operation, and those of the others
numbered_more : (word : List ℕ) (k i : ℕ) (xs : List Operation) (d : Operation) → i < length xs →
    numbered word k (drop i xs)
    ≡ line_of (word ∷ decimal k ∷ operation_text (get_or xs i d) ∷ []) ++ numbered word (k + 1) (drop (i + 1) xs)
numbered_more word k i xs d h =
    ap (numbered word k) (drop_more xs i d h)
    ∙ ap (λ n. line_of (word ∷ decimal k ∷ operation_text (get_or xs i d) ∷ []) ++ numbered word n (drop (i + 1) xs)) (one_more k)
  where
    one_more : (k : ℕ) → suc k ≡ k + 1
    one_more k = omega arith

-- what is written and what is still to come, after one line more
pub line_more : (word : List ℕ) (i : ℕ) (xs : List Operation) (g : Operation) (out out' whole : List ℕ) → i < length xs →
    get_or xs i g ≡ g → out' ≡ out ++ line_of (word ∷ decimal (i + 1) ∷ operation_text g ∷ []) →
    out ++ numbered word (i + 1) (drop i xs) ≡ whole → out' ++ numbered word (i + 1 + 1) (drop (i + 1) xs) ≡ whole
line_more word i xs g out out' whole h is next e =
    ap (λ l. l ++ numbered word (i + 1 + 1) (drop (i + 1) xs)) next
    ∙ append_assoc out (line_of (word ∷ decimal (i + 1) ∷ operation_text g ∷ [])) (numbered word (i + 1 + 1) (drop (i + 1) xs))
    ∙ ap (λ l. out ++ l) (sym (numbered_more word (i + 1) i xs g h ∙ ap (λ k. line_of (word ∷ decimal (i + 1) ∷ operation_text k ∷ []) ++ numbered word (i + 1 + 1) (drop (i + 1) xs)) is))
    ∙ e

pub longer_more : (old new new' more : List ℕ) → IsLonger old new → new' ≡ new ++ more → IsLonger old new'
longer_more old new new' more l e = record {
  more = l.more ++ more;
  grown = e ∙ ap (λ x. x ++ more) l.grown ∙ append_assoc old l.more more;
}

-- after a last piece, which was appended or refused
pub longer_last : {A E : Type 0} (r : Result A E) (old new new' more : List ℕ) → IsLonger old new →
    OnOk r (new' ≡ new ++ more) → OnErr r (new' ≡ new) → IsLonger old new'
longer_last (Ok a) old new new' more l ok err = longer_more old new new' more l ok
longer_last (Err e) old new new' more l ok err = subst (IsLonger old) (sym err) l
