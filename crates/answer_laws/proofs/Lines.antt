-- Answers of lines.
--   one_answer_by       a line has one answer where its request has one
--   below_unrefused     the second group of a request for classes that isn't refused is below the first
--   one_answer_lem      a line of a format and a number has one answer
use Rattle.list_laws.proofs.Kit.{◌≡◌, ℕ, ◌+◌, ◌≤◌, List, [], ◌∷◌, length, refl, sym, ◌∙◌, ◌⊎◌, inl, inr, subst, cases_lt}
use Rattle.tensor_defs.specs.Prelude.{InGroup, IsAccepted, IsBelow, Each, IsGroupSymbol}
use Rattle.text_defs.specs.Prelude.{AnswersRequest, IsAnswer, RefusalWord, FirstRefused, Refuses, refusal_text, GroupAt, Request, SpellsRequest, longest_line}
use Rattle.text_defs.specs.Prelude.{Form, Group, Voigt, States, Pairs, Differ, Same, Comment}
use Rattle.text_defs.specs.Refusals.{Long, Primes, NotSub}
use Rattle.text_defs.specs.declared.Format.{Format}
use Rattle.text_laws.proofs.RequestUnique.{one_request_spelled}
use Rattle.answer_laws.proofs.Classes.{one_pairs_lem}
use Rattle.answer_laws.proofs.Classical.{NotFalse, either, text_stable, outside_or_below}
use Rattle.answer_laws.proofs.Differences.{one_differ_lem}
use Rattle.answer_laws.proofs.DomainStates.{one_states_lem}
use Rattle.answer_laws.proofs.Elements.{one_group_lem}
use Rattle.answer_laws.proofs.Forms.{one_form_lem}
use Rattle.answer_laws.proofs.Groups.{spelled_symbol}
use Rattle.answer_laws.proofs.RefusalUnique.{one_refusal_lem}
use Rattle.answer_laws.proofs.SameTensors.{one_same_lem}
use Rattle.answer_laws.proofs.Voigts.{one_voigt_lem}
use Rattle.answer_laws.specs.Laws.{HasOneAnswer, OneAnswer}

abbrev IsFree : Format → List ℕ → Type 0
IsFree format line = (word : RefusalWord) (column : ℕ) → Refuses format line word column → ⊥

-- where each request that a line spells and that isn't refused has one answer, the line has one
one_answer_by : (format : Format) (line : List ℕ) →
    ((q : Request) → SpellsRequest format line q → IsFree format line → HasOneAnswer q) → (number : ℕ) (a b : List ℕ) →
    IsAnswer format number line a → IsAnswer format number line b → a ≡ b
one_answer_by format line one number a b (inl p) (inl q) = p.1 ∙ sym q.1
one_answer_by format line one number a b (inl p) (inr q) = absurd (q.0 p.0)
one_answer_by format line one number a b (inr p) (inl q) = absurd (p.0 q.0)
one_answer_by format line one number a b (inr (passed, inl p)) (inr (other, inl q)) =
    let same = one_refusal_lem format line p.0 q.0 p.1 q.1 p.2 q.2 in
    p.3 ∙ (λ i. refusal_text number (same.1 i) (same.0 i)) ∙ sym q.3
one_answer_by format line one number a b (inr (passed, inl p)) (inr (other, inr q)) =
    absurd (q.0 (other, p.0, p.1, p.2))
one_answer_by format line one number a b (inr (passed, inr p)) (inr (other, inl q)) =
    absurd (p.0 (passed, q.0, q.1, q.2))
one_answer_by format line one number a b (inr (passed, inr p)) (inr (other, inr q)) =
    one q.1 q.2 (λ w c r. q.0 (other, w, c, r)) a b
    (subst (λ r. AnswersRequest r a) (one_request_spelled format line p.1 q.1 p.2 q.2) p.3) q.3

-- ---- what isn't refused
accepted_or : (gs : List GroupAt) →
    NotFalse (Each (λ g. IsAccepted g.symbol) gs ⊎ ((c : ℕ) × FirstRefused gs c))
accepted_or [] fails = fails (inl tt)
accepted_or (g ∷ gs) fails =
    either (IsAccepted g.symbol) (λ t. elim t [
      | inl s ↦ accepted_or gs (λ u. elim u [
        | inl e ↦ fails (inl (s, e))
        | inr r ↦ fails (inr (r.0, inr (s, r.1)))
      ])
      | inr n ↦ fails (inr (g.column, inl (n, refl)))
    ])

short : (format : Format) (line : List ℕ) → IsFree format line → length line ≤ longest_line format
short format line free = elim (cases_lt (longest_line format) (length line)) [
  | inl lt ↦ absurd (free Long (longest_line format + 1) (lt, refl))
  | inr le ↦ le
]

-- the second group of a request for classes that isn't refused is below the first
pub below_unrefused : (format : Format) (line : List ℕ) (g f : GroupAt) → SpellsRequest format line (Pairs g f) →
    IsFree format line → IsGroupSymbol f.symbol → NotFalse (IsBelow (InGroup f.symbol) (InGroup g.symbol))
below_unrefused format line g f s free h fails =
    accepted_or (g ∷ f ∷ []) (λ t. elim t [
      | inl e ↦ outside_or_below g.symbol f.symbol h (λ u. elim u [
        | inl b ↦ fails b
        | inr o ↦ free (NotSub o.0) f.column (short format line free, Pairs g f, s, (e, tt, tt, (o.1, refl)))
      ])
      | inr r ↦ free Primes r.0 (short format line free, Pairs g f, s, r.1)
    ])

one_of : (format : Format) (line : List ℕ) (q : Request) → SpellsRequest format line q → IsFree format line → HasOneAnswer q
one_of format line (Form g js) s free = one_form_lem g js
one_of format line (Group g) s free = one_group_lem g
one_of format line (Voigt g j w) s free = one_voigt_lem g j w
one_of format line (States g f) s free =
    one_states_lem g f (spelled_symbol s.second.word f.symbol s.second.spells)
one_of format line (Pairs g f) s free = λ a b p q.
    let second : IsGroupSymbol f.symbol = spelled_symbol s.second.word f.symbol s.second.spells in
    text_stable a b (λ n. below_unrefused format line g f s free second
    (λ below. n (one_pairs_lem g f (spelled_symbol s.first g.symbol s.spells_first) second below a b p q)))
one_of format line (Differ g f js) s free =
    one_differ_lem g f js (spelled_symbol s.groups.second.word f.symbol s.groups.second.spells)
one_of format line (Same g h j) s free = one_same_lem g h j
one_of format line Comment s free = λ a b p q. p ∙ sym q

pub one_answer_lem : OneAnswer
one_answer_lem format number line a b p q = one_answer_by format line (one_of format line) number a b p q
