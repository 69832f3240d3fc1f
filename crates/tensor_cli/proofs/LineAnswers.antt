-- How the answer of a line ends, by the request that it spells.
--   none_refused, not_refused    no refusal applies to an open request
--   refuses         a refusal of the request that a line spells is one of the line
--   slow            a line that spells a request may take memory
--   stop_of         the refusal that a stop is
--   passed_ends, long_ends, syntax_ends, refusal_ends, grown_ends    how the answer of a line ends
use Rattle.std.proofs.Common.{◌≡◌, inl, inr, ℕ, ◌+◌, ◌<◌, ◌≤◌, List, [], ◌∷◌, ◌++◌, length, refl, sym, ◌∙◌, subst, arith}
use Rattle.std.proofs.lemmas.List.{append-nil}
use Rattle.tensor_defs.specs.Prelude.{IsAccepted, rank, Each}
use Rattle.text_defs.specs.declared.Format.{Format}
use Rattle.text_defs.specs.Prelude.{IsAnswer, FirstRefused, FirstAt, HasOtherShape, HasShape, IsHeading, IsPassed, IsRefused, RefusalWord, Refuses}
use Rattle.text_defs.specs.Prelude.{RefusesRequest, groups_of, jahns_of, refusal_text, GroupAt, JahnAt, Request, SpellsRequest, IsNoRequest, longest_line}
use Rattle.text_defs.specs.Prelude.{Form, Group, Voigt, States, Pairs, Differ, Same, Comment}
use Rattle.text_defs.specs.Refusals.RefusalWord.{Long, Syntax, Primes, Rank, Shape, NotSub, TooLarge}
use Rattle.text_laws.proofs.RequestUnique.{one_request_spelled}
use Rattle.line_runs.specs.Answering.{Ends, IsQuick}
use Rattle.line_runs.proofs.LongLines.{long_refused}
use Rattle.line_runs.specs.declared.lines.LineEnd.TheVariants as line_end
use Rattle.line_runs.specs.Words.{word_of}
use Rattle.line_runs.specs.declared.refusals.Refusal.{Refusal}
use Rattle.tensor_cli.specs.declared.stops.NoAnswer.{NoAnswer}
use Rattle.tensor_cli.specs.declared.stops.NoAnswer.TheVariants.{Refused}
use Rattle.tensor_cli.specs.Kinds.{IsGrownBy, IsOpen, IsStop}

none_refused : (gs : List GroupAt) (c : ℕ) → Each (λ g. IsAccepted g.symbol) gs → FirstRefused gs c → ⊥
none_refused [] c e f = f
none_refused (g ∷ gs) c e (inl f) = f.0 e.0
none_refused (g ∷ gs) c e (inr f) = none_refused gs c e.1 f.1

none_over : (js : List JahnAt) (c : ℕ) → Each (λ j. rank j.jahn ≤ 6) js → FirstAt (λ j. 6 < rank j.jahn) js c → ⊥
none_over [] c e f = f
none_over (j ∷ js) c e (inl f) = omega (arith, e.0, f.0)
none_over (j ∷ js) c e (inr f) = none_over js c e.1 f.1

no_other_shape : (q : Request) (c : ℕ) → HasShape q → HasOtherShape q c → ⊥
no_other_shape (Form g js) c s h = h
no_other_shape (Group g) c s h = h
no_other_shape (Voigt g j w) c s h = h.0 s
no_other_shape (States g f) c s h = h
no_other_shape (Pairs g f) c s h = h
no_other_shape (Differ g f js) c s h = h
no_other_shape (Same g h' j) c s h = h
no_other_shape Comment c s h = h

none_applies : (q : Request) → IsOpen q → (word : RefusalWord) (c : ℕ) → RefusesRequest q word c → ⊥
none_applies q o Long c r = r
none_applies q o Syntax c r = r
none_applies q o Primes c r = none_refused (groups_of q) c o.accepted r
none_applies q o Rank c r = none_over (jahns_of q) c o.in_rank r.1
none_applies q o Shape c r = no_other_shape q c o.has_shape r.2
none_applies q o (NotSub k) c r = o.within k c r.3
none_applies q o TooLarge c r = o.calm c r.4

module _ (format : Format) (line : List ℕ) (q : Request) (short : length line ≤ longest_line format) (s : SpellsRequest format line q) where
  this : (p : Request) (word : RefusalWord) (c : ℕ) → SpellsRequest format line p → RefusesRequest p word c → RefusesRequest q word c
  this p word c s' r = subst (λ x. RefusesRequest x word c) (one_request_spelled format line p q s' s) r

  pub not_refused : IsOpen q → (word : RefusalWord) (c : ℕ) → Refuses format line word c → ⊥
  not_refused o Long c r = omega (arith, short, r.0)
  not_refused o Syntax c r = r.2.none (q, s)
  not_refused o Primes c r = none_applies q o Primes c (this r.1 Primes c r.2 r.3)
  not_refused o Rank c r = none_applies q o Rank c (this r.1 Rank c r.2 r.3)
  not_refused o Shape c r = none_applies q o Shape c (this r.1 Shape c r.2 r.3)
  not_refused o (NotSub k) c r = none_applies q o (NotSub k) c (this r.1 (NotSub k) c r.2 r.3)
  not_refused o TooLarge c r = none_applies q o TooLarge c (this r.1 TooLarge c r.2 r.3)

  pub refuses : (word : RefusalWord) (c : ℕ) → RefusesRequest q word c → Refuses format line word c
  refuses Long c r = absurd r
  refuses Syntax c r = absurd r
  refuses Primes c r = (short, q, s, r)
  refuses Rank c r = (short, q, s, r)
  refuses Shape c r = (short, q, s, r)
  refuses (NotSub k) c r = (short, q, s, r)
  refuses TooLarge c r = (short, q, s, r)

  not_passed : (number : ℕ) → (line ≡ [] → ⊥) → (IsHeading format number line → ⊥) → (q ≡ Comment → ⊥) → IsPassed format number line → ⊥
  not_passed number some other ask (inl none) = some none
  not_passed number some other ask (inr (inl first)) = other first
  not_passed number some other ask (inr (inr comment)) = ask (one_request_spelled format line q Comment s comment.1)

empty_refused : line_end.Refused ≡ line_end.Empty → ⊥
empty_refused e = cc

empty_answered : line_end.Answered ≡ line_end.Empty → ⊥
empty_answered e = cc

answered_refused : line_end.Answered ≡ line_end.Refused → ⊥
answered_refused e = cc

refused_empty : line_end.Empty ≡ line_end.Refused → ⊥
refused_empty e = cc

pub passed_ends : (format : Format) (number : ℕ) (line old new : List ℕ) → IsPassed format number line → new ≡ old
    → Ends format number line old new line_end.Empty
passed_ends format number line old new passed same = record {
  answer = [];
  is_answer = inl (passed, refl);
  grown = same ∙ sym (append-nil old);
  refused = (λ e. absurd (refused_empty e), λ r. absurd (r.0 passed));
  passed = (λ e. passed, λ p. refl);
}

refused_ends : (format : Format) (number : ℕ) (line old new : List ℕ) (word : RefusalWord) (column : ℕ) → (IsPassed format number line → ⊥)
    → Refuses format line word column → new ≡ old ++ refusal_text number column word → Ends format number line old new line_end.Refused
refused_ends format number line old new word column other r grown = record {
  answer = refusal_text number column word;
  is_answer = inr (other, inl (word, column, r, refl));
  grown = grown;
  refused = (λ e. (other, word, column, r), λ x. refl);
  passed = (λ e. absurd (empty_refused e), λ p. absurd (other p));
}

pub syntax_ends : (format : Format) (number : ℕ) (line old new : List ℕ) (place : ℕ) → length line ≤ longest_line format
    → (line ≡ [] → ⊥) → (IsHeading format number line → ⊥) → IsNoRequest format line place
    → new ≡ old ++ refusal_text number (place + 1) Syntax → Ends format number line old new line_end.Refused
syntax_ends format number line old new place short some other none grown =
    refused_ends format number line old new Syntax (place + 1) not_so (short, place, none, omega arith) grown
  where
    not_so : IsPassed format number line → ⊥
    not_so (inl empty) = some empty
    not_so (inr (inl first)) = other first
    not_so (inr (inr comment)) = none.none (Comment, comment.1)

pub refusal_ends : (format : Format) (number : ℕ) (line old new : List ℕ) (q : Request) (word : RefusalWord) (column : ℕ)
    → length line ≤ longest_line format → SpellsRequest format line q → (line ≡ [] → ⊥) → (IsHeading format number line → ⊥)
    → (q ≡ Comment → ⊥) → RefusesRequest q word column → new ≡ old ++ refusal_text number column word
    → Ends format number line old new line_end.Refused
refusal_ends format number line old new q word column short s some other ask r grown =
    refused_ends format number line old new word column (not_passed format line q short s number some other ask)
    (refuses format line q short s word column r) grown

pub grown_ends : (format : Format) (number : ℕ) (line old new : List ℕ) (q : Request) → length line ≤ longest_line format
    → SpellsRequest format line q → (line ≡ [] → ⊥) → (IsHeading format number line → ⊥) → (q ≡ Comment → ⊥)
    → IsGrownBy q old new → Ends format number line old new line_end.Answered
grown_ends format number line old new q short s some other ask g =
    let passes = not_passed format line q short s number some other ask in
    let none : IsRefused format number line → ⊥ = λ r. not_refused format line q short s g.is_open r.1 r.2 r.3 in
    record {
      answer = g.answer;
      is_answer = inr (passes, inr (none, q, s, g.answers));
      grown = g.grown;
      refused = (λ e. absurd (answered_refused e), λ r. absurd (none r));
      passed = (λ e. absurd (empty_answered e), λ p. absurd (passes p));
    }

pub slow : (format : Format) (number : ℕ) (line : List ℕ) (q : Request) → length line ≤ longest_line format → SpellsRequest format line q
    → (line ≡ [] → ⊥) → (IsHeading format number line → ⊥) → (q ≡ Comment → ⊥) → IsQuick format number line → ⊥
slow format number line q short s some other ask (inl passed) = not_passed format line q short s number some other ask passed
slow format number line q short s some other ask (inr (column, inl long)) = omega (arith, short, long.0)
slow format number line q short s some other ask (inr (column, inr syntax)) = syntax.2.none (q, s)

pub stop_of : (q : Request) (e : NoAnswer) (r : Refusal) → e ≡ Refused r → IsStop q e → RefusesRequest q (word_of r.word) r.column
stop_of q e r is h = subst (λ (x : NoAnswer). IsStop q x) is h

pub long_ends : (format : Format) (number : ℕ) (line old new answer : List ℕ) → longest_line format < length line
    → IsAnswer format number line answer → new ≡ old ++ answer → Ends format number line old new line_end.Refused
long_ends format number line old new answer more is grown =
    let refused = long_refused format number line more in
    record {
      answer = answer;
      is_answer = is;
      grown = grown;
      refused = (λ e. refused, λ x. refl);
      passed = (λ e. absurd (empty_refused e), λ p. absurd (refused.0 p));
    }
