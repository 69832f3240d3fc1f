-- Lines that are made.
--   line_short      a line is short
--   outcomes_push   the outcome of one line more
--   SoFar           what stands after some of the lines
--   made_none, made_more, made_all    before the first line, after one more, and at the end
use Rattle.std.proofs.Common.{◌≡◌, ℕ, zero, suc, ◌+◌, ◌-◌, ◌*◌, ◌%◌, ◌^◌, ◌<◌, ◌≤◌, Bool, true, List, [], ◌∷◌, ◌++◌, length}
use Rattle.std.proofs.Common.{get_or, refl, sym, ap, subst, ◌∙◌, arith, append_assoc, length-append}
use Rattle.std.specs.Prelude.{nat_le}
use Rattle.std.specs.List.{list_all}
use Rattle.std.proofs.lemmas.Bool.Decides.{nat_tests}
use Rattle.std.proofs.lemmas.List.{append-nil, length_push}
use Rattle.tensor_vectors.specs.Types.{type_symbols, crystal_classes, jahn_symbols}
use Rattle.generated_runs.specs.Requests.{name_of, words_of, texts_of, size_of, next, kind_at, text_at, words_from, line_from, state_after, lines_made}
use Rattle.generated_runs.specs.Outcomes.{AreOutcomes}
use Rattle.generated_runs.specs.Summary.{AreCounts}
use Rattle.generated_runs.specs.Runs.{AreMade}
use Rattle.generated_runs.specs.declared.draws.Kind.{Kind}
use Rattle.generated_runs.specs.declared.draws.Kind.TheVariants.{Form, Group, Voigt, States, Pairs, Differ, Same}
use Rattle.generated_runs.specs.declared.draws.Choice.{Choice}
use Rattle.generated_runs.specs.declared.draws.Choice.TheVariants.{Symbol, Tensor, Weights}
use Rattle.generated_runs.specs.declared.counts.LineOutcome.{LineOutcome}
use Rattle.generated_runs.specs.declared.counts.Counts.{Counts}

-- ---- how long a line is
abbrev AreShort : List (List ℕ) → Bool
AreShort ts = list_all (λ t. nat_le (length t) 9) ts

short_at : (ts : List (List ℕ)) (i : ℕ) → AreShort ts ≡ true → length (get_or ts i []) ≤ 9
short_at [] i all = omega arith
short_at (t ∷ ts) zero all = grind (arith, nat_tests)
short_at (t ∷ ts) (suc i) all = short_at ts i (grind (arith, nat_tests))

texts_short : (c : Choice) → AreShort (texts_of c) ≡ true
unfolding type_symbols crystal_classes jahn_symbols
texts_short Symbol = refl
texts_short Tensor = refl
texts_short Weights = refl

text_short : (c : Choice) (x : ℕ) → length (text_at c x) ≤ 9
text_short c x = short_at (texts_of c) (x % size_of c) (texts_short c)

words_short : (cs : List Choice) (x : ℕ) → length (words_from cs x) ≤ 10 * length cs
words_short [] x = omega arith
words_short (c ∷ cs) x =
    omega (arith, length-append (text_at c (next x)) (words_from cs (next x)), text_short c (next x), words_short cs (next x))

few_words : (k : Kind) → length (name_of k) + 10 * length (words_of k) ≤ 40
few_words Form = omega arith
few_words Group = omega arith
few_words Voigt = omega arith
few_words States = omega arith
few_words Pairs = omega arith
few_words Differ = omega arith
few_words Same = omega arith

pub line_short : (x : ℕ) → length (line_from x) ≤ 40
line_short x =
    let k = kind_at (next x) in
    omega (arith, length-append (name_of k) (words_from (words_of k) (next x)), words_short (words_of k) (next x), few_words k)

-- ---- outcomes
pub outcomes_push : (Becomes : ℕ → List ℕ → LineOutcome → Type 0) (number m : ℕ) (ls : List (List ℕ)) (os : List LineOutcome)
    (l : List ℕ) (o : LineOutcome) → m ≡ number + length ls → AreOutcomes Becomes number ls os → Becomes m l o →
    AreOutcomes Becomes number (ls ++ l ∷ []) (os ++ o ∷ [])
outcomes_push Becomes number m [] [] l o at are becomes =
    let here : m ≡ number = omega arith in
    (subst (λ (n : ℕ). Becomes n l o) here becomes, tt)
outcomes_push Becomes number m [] (p ∷ os) l o at are becomes = absurd are
outcomes_push Becomes number m (k ∷ ls) [] l o at are becomes = absurd are
outcomes_push Becomes number m (k ∷ ls) (p ∷ os) l o at are becomes =
    (are.0, outcomes_push Becomes (number + 1) m ls os l o (omega arith) are.1 becomes)

-- ---- after some of the lines
pub record SoFar (Becomes : ℕ → List ℕ → LineOutcome → Type 0) (count seed made state : ℕ) (counts : Counts) : Type 0 where
  pub lines : List (List ℕ)
  pub os : List LineOutcome
  pub split : lines_made count seed ≡ lines ++ lines_made (count - made) state
  pub many : length lines ≡ made
  pub told : length os ≡ made
  pub becomes : AreOutcomes Becomes 1 lines os
  pub counts_are : AreCounts os counts
  pub free_few : counts.free ≤ 18446744073709551616 * made

pub made_none : (Becomes : ℕ → List ℕ → LineOutcome → Type 0) (count seed : ℕ) (counts : Counts) → AreCounts [] counts →
    SoFar Becomes count seed 0 seed counts
made_none Becomes count seed counts are = record {
  lines = [];
  os = [];
  split = let all : count ≡ count - 0 = omega arith in ap (λ (n : ℕ). lines_made n seed) all;
  many = refl;
  told = refl;
  becomes = tt;
  counts_are = are;
  free_few = omega (arith, are.free_is);
}

one_line : (left less state : ℕ) → left ≡ suc less → lines_made left state ≡ line_from state ∷ lines_made less (state_after state)
one_line left less state is = ap (λ (n : ℕ). lines_made n state) is

pub made_more : (Becomes : ℕ → List ℕ → LineOutcome → Type 0) (count seed made state after : ℕ) (counts counts' : Counts)
    (line : List ℕ) (o : LineOutcome) → made < count → line ≡ line_from state → after ≡ state_after state →
    Becomes (made + 1) line o → ((os : List LineOutcome) → AreCounts os counts → AreCounts (os ++ o ∷ []) counts') →
    counts'.free < counts.free + 2 ^ 64 → SoFar Becomes count seed made state counts →
    SoFar Becomes count seed (made + 1) after counts'
made_more Becomes count seed made state after counts counts' line o more line_is after_is becomes counted few s = record {
  lines = s.lines ++ line_from state ∷ [];
  os = s.os ++ o ∷ [];
  split =
      s.split
      ∙ ap (λ (l : List (List ℕ)). s.lines ++ l) (one_line (count - made) (count - (made + 1)) state (omega arith))
      ∙ sym (append_assoc s.lines (line_from state ∷ []) (lines_made (count - (made + 1)) (state_after state)))
      ∙ ap (λ (x : ℕ). (s.lines ++ line_from state ∷ []) ++ lines_made (count - (made + 1)) x) (sym after_is);
  many = length_push s.lines (line_from state) ∙ ap (λ (n : ℕ). n + 1) s.many;
  told = length_push s.os o ∙ ap (λ (n : ℕ). n + 1) s.told;
  becomes =
      outcomes_push Becomes 1 (made + 1) s.lines s.os (line_from state) o (omega (arith, s.many)) s.becomes
      (subst (λ (l : List ℕ). Becomes (made + 1) l o) line_is becomes);
  counts_are = counted s.os s.counts_are;
  free_few = omega (arith, few, s.free_few);
}

pub made_all : (Becomes : ℕ → List ℕ → LineOutcome → Type 0) (count seed made state : ℕ) (counts : Counts) → made ≡ count →
    SoFar Becomes count seed made state counts →
    (os : List LineOutcome) × AreMade Becomes count seed os × AreCounts os counts
made_all Becomes count seed made state counts all s =
    let none : count - made ≡ 0 = omega arith in
    let whole : lines_made count seed ≡ s.lines =
    s.split ∙ ap (λ (n : ℕ). s.lines ++ lines_made n state) none ∙ append-nil s.lines in
    (s.os, subst (λ (ls : List (List ℕ)). AreOutcomes Becomes 1 ls s.os) (sym whole) s.becomes, s.counts_are)
