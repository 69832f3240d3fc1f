-- At most one outcome of a line.
--   forms_free      the component tables for some Jahn words name one number of free components
--   one_free        the answers to a request name one number of free components
--   one_outcome_lem, one_outcomes    a line has one outcome, and lines have one list of outcomes
use Rattle.std.proofs.Common.{◌≡◌, ℕ, ◌+◌, List, [], ◌∷◌, length, refl, sym, ap, subst, ◌∙◌}
use Rattle.std.proofs.lemmas.List.{length-map}
use Rattle.std.proofs.lemmas.Option.{same_Some}
use Rattle.tensor_defs.specs.Prelude.{InGroup, rank, index_before, block_before, GroupSymbol, Fits}
use Rattle.tensor_laws.proofs.Prelude.{block_order, index_order, same_free}
use Rattle.text_defs.specs.declared.Format.TheVariants.{One}
use Rattle.text_defs.specs.Requests.{JahnAt, Request}
use Rattle.text_laws.proofs.RequestUnique.{one_request_spelled}
use Rattle.answer_laws.proofs.RefusalUnique.{one_refusal_lem}
use Rattle.answer_laws.proofs.Voigts.{one_blocks}
use Rattle.generated_runs.specs.Outcomes.{AreOutcomes}
use Rattle.generated_runs.specs.Told.{AnswersFree, AreFormsFree, Becomes, kind_of, refusal_of}
use Rattle.generated_runs.specs.declared.counts.LineOutcome.{LineOutcome}
use Rattle.generated_runs.specs.declared.counts.LineOutcome.TheVariants.{Answered, Refused}
use Rattle.generated_runs.proofs.Passed.{not_passed}
use Rattle.outcome_laws.specs.Laws.{OneOutcome}

forms_free : (g : GroupSymbol) (js : List JahnAt) (a b : List ℕ) (m n : ℕ) → AreFormsFree g js a m → AreFormsFree g js b n →
    m ≡ n
forms_free g [] a b m n p r = p.1 ∙ sym r.1
forms_free g (j ∷ js) a b m n p r =
    let first : length p.0.free ≡ length r.0.free =
    ap length (same_free j.jahn (InGroup g) index_before (index_order (rank j.jahn)) p.0 r.0 p.1 r.1) in
    let others : p.3 ≡ r.3 = forms_free g js p.2 r.2 p.3 r.3 p.4 r.4 in
    p.6 ∙ (λ i. first i + others i) ∙ sym r.6

one_free : (q : Request) (a b : List ℕ) (m n : ℕ) → AnswersFree q a m → AnswersFree q b n → m ≡ n
one_free (Request.Form g js) a b m n p r = forms_free g.symbol js a b m n p r
one_free (Request.Voigt g j w) a b m n p r =
    let blocks : p.0 ≡ r.0 = one_blocks j.jahn.factors p.0 r.0 p.1 r.1 in
    let fits : Fits j.jahn (InGroup g.symbol) (block_before r.0) p.3.table =
    subst (λ bs. Fits j.jahn (InGroup g.symbol) (block_before bs) p.3.table) blocks p.3.fits in
    let first : length p.2.free ≡ length p.3.table.free = simp length-map at (ap length p.3.free) in
    let second : length r.2.free ≡ length r.3.table.free = simp length-map at (ap length r.3.free) in
    p.5 ∙ first
    ∙ ap length (same_free j.jahn (InGroup g.symbol) (block_before r.0) (block_order (rank j.jahn) r.0) p.3.table r.3.table
    fits r.3.fits)
    ∙ sym second ∙ sym r.5
one_free (Request.Group g) a b m n p r = p.1 ∙ sym r.1
one_free (Request.States g f) a b m n p r = p.1 ∙ sym r.1
one_free (Request.Pairs g f) a b m n p r = p.1 ∙ sym r.1
one_free (Request.Differ g f js) a b m n p r = p.1 ∙ sym r.1
one_free (Request.Same g h j) a b m n p r = p.1 ∙ sym r.1
one_free Request.Comment a b m n p r = p.1 ∙ sym r.1

pub one_outcome_lem : OneOutcome
one_outcome_lem number [] o p a b = absurd a
one_outcome_lem number (x ∷ xs) (Answered k m) (Answered l n) a b =
    let same : a.1.1 ≡ b.1.1 = one_request_spelled One (x ∷ xs) a.1.1 b.1.1 a.1.2 b.1.2 in
    let kinds : k ≡ l = same_Some k l (sym a.1.3 ∙ ap kind_of same ∙ b.1.3) in
    let frees : m ≡ n = one_free b.1.1 a.0 b.0 m n (subst (λ q. AnswersFree q a.0 m) same a.1.4) b.1.4 in
    λ i. Answered (kinds i) (frees i)
one_outcome_lem number (x ∷ xs) (Answered k m) (Refused w) a b = absurd (a.1.0 (not_passed number x xs, b.0, b.1, b.2))
one_outcome_lem number (x ∷ xs) (Refused v) (Answered l n) a b = absurd (b.1.0 (not_passed number x xs, a.0, a.1, a.2))
one_outcome_lem number (x ∷ xs) (Refused v) (Refused w) a b =
    let same = one_refusal_lem One (x ∷ xs) a.0 b.0 a.1 b.1 a.2 b.2 in
    ap Refused (sym a.3 ∙ ap refusal_of same.0 ∙ b.3)

pub one_outcomes : (number : ℕ) (ls : List (List ℕ)) (os ps : List LineOutcome) → AreOutcomes Becomes number ls os →
    AreOutcomes Becomes number ls ps → os ≡ ps
one_outcomes number [] [] [] a b = refl
one_outcomes number [] [] (p ∷ ps) a b = absurd b
one_outcomes number [] (o ∷ os) ps a b = absurd a
one_outcomes number (l ∷ ls) [] ps a b = absurd a
one_outcomes number (l ∷ ls) (o ∷ os) [] a b = absurd b
one_outcomes number (l ∷ ls) (o ∷ os) (p ∷ ps) a b =
    let first : o ≡ p = one_outcome_lem number l o p a.0 b.0 in
    let rest : os ≡ ps = one_outcomes (number + 1) ls os ps a.1 b.1 in
    λ i. first i ∷ rest i
