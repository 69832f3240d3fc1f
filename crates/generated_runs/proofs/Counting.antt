-- Counts of outcomes, one outcome after another.
--   count_push      how many pass a test, one more
--   bumped          a number of seven is raised by one
--   count_answered, count_refused    the counts after one line more
--   summary_is      the summary, piece by piece
use Rattle.std.proofs.Common.{◌≡◌, ℕ, zero, suc, ◌+◌, ◌<◌, Bool, true, false, cond, ◌==◌, ◌||◌, List, [], ◌∷◌, ◌++◌}
use Rattle.std.proofs.Common.{get_or, map, codes, refl, sym, ap, ap₂, subst, ◌∙◌, arith, add-zero, append_assoc}
use Rattle.std.specs.Prelude.{count_by}
use Rattle.std.proofs.Math.ListN.{set}
use Rattle.std.proofs.lemmas.List.Sums.{sum_by_push}
use Rattle.std.proofs.lemmas.List.Folds.{list_any-append}
use Rattle.generated_runs.specs.Requests.{kinds, name_of}
use Rattle.generated_runs.specs.Outcomes.{answered, refused, free_total, has_refused, is_answered, is_refused, is_refused_so}
use Rattle.generated_runs.specs.Outcomes.{free_in, place_of, place_among, refusals}
use Rattle.generated_runs.specs.Summary.{AreCounts, entry, entries, word_of, summary_text}
use Rattle.generated_runs.specs.declared.draws.Kind.{Kind}
use Rattle.generated_runs.specs.declared.draws.Kind.TheVariants.{Form, Group, Voigt, States, Pairs, Differ, Same}
use Rattle.generated_runs.specs.declared.counts.Refusal.{Refusal}
use Rattle.generated_runs.specs.declared.counts.Refusal.TheVariants.{Long, Syntax, Primes, Rank, Shape, NotSub, TooLarge}
use Rattle.generated_runs.specs.declared.counts.LineOutcome.{LineOutcome}
use Rattle.generated_runs.specs.declared.counts.LineOutcome.TheVariants.{Answered, Refused}
use Rattle.generated_runs.specs.declared.counts.Counts.{Counts}

pub count_push : {X : Type 0} (p : X → Bool) (xs : List X) (y : X) →
    count_by p (xs ++ y ∷ []) ≡ count_by p xs + cond (p y) 1 0
count_push p xs y = sum_by_push (λ x. cond (p x) 1 0) xs y

-- ---- seven numbers
same_seven : (a b c d e f g a' b' c' d' e' f' g' : ℕ) →
    a ≡ a' → b ≡ b' → c ≡ c' → d ≡ d' → e ≡ e' → f ≡ f' → g ≡ g' →
    a ∷ b ∷ c ∷ d ∷ e ∷ f ∷ g ∷ [] ≡ a' ∷ b' ∷ c' ∷ d' ∷ e' ∷ f' ∷ g' ∷ []
same_seven a b c d e f g a' b' c' d' e' f' g' p q r s t u v = cc

bumped : (a b c d e f g p : ℕ) → p < 7 →
    (a + cond (0 == p) 1 0) ∷ (b + cond (1 == p) 1 0) ∷ (c + cond (2 == p) 1 0) ∷ (d + cond (3 == p) 1 0)
    ∷ (e + cond (4 == p) 1 0) ∷ (f + cond (5 == p) 1 0) ∷ (g + cond (6 == p) 1 0) ∷ []
    ≡ set (a ∷ b ∷ c ∷ d ∷ e ∷ f ∷ g ∷ []) p (get_or (a ∷ b ∷ c ∷ d ∷ e ∷ f ∷ g ∷ []) p 0 + 1)
bumped a b c d e f g zero lt = simp add-zero
bumped a b c d e f g (suc zero) lt = simp add-zero
bumped a b c d e f g (suc (suc zero)) lt = simp add-zero
bumped a b c d e f g (suc (suc (suc zero))) lt = simp add-zero
bumped a b c d e f g (suc (suc (suc (suc zero)))) lt = simp add-zero
bumped a b c d e f g (suc (suc (suc (suc (suc zero))))) lt = simp add-zero
bumped a b c d e f g (suc (suc (suc (suc (suc (suc zero)))))) lt = simp add-zero
bumped a b c d e f g (suc (suc (suc (suc (suc (suc (suc p))))))) lt = absurd (omega arith)

-- ---- the counts of kinds
answered_more : (os : List LineOutcome) (k j : Kind) (free : ℕ) →
    answered j (os ++ Answered k free ∷ []) ≡ answered j os + cond (place_of j == place_of k) 1 0
answered_more os k j free = count_push (λ o. is_answered j o) os (Answered k free)

answered_same : (os : List LineOutcome) (w : Refusal) (j : Kind) → answered j (os ++ Refused w ∷ []) ≡ answered j os
answered_same os w j = count_push (λ o. is_answered j o) os (Refused w) ∙ add-zero (answered j os)

kind_placed : (k : Kind) → place_of k < 7
kind_placed Form = omega arith
kind_placed Group = omega arith
kind_placed Voigt = omega arith
kind_placed States = omega arith
kind_placed Pairs = omega arith
kind_placed Differ = omega arith
kind_placed Same = omega arith

answered_bumped : (os : List LineOutcome) (k : Kind) (free : ℕ) →
    map (λ j. answered j (os ++ Answered k free ∷ [])) kinds
    ≡ set (map (λ j. answered j os) kinds) (place_of k) (get_or (map (λ j. answered j os) kinds) (place_of k) 0 + 1)
answered_bumped os k free =
    same_seven _ _ _ _ _ _ _ _ _ _ _ _ _ _
    (answered_more os k Form free) (answered_more os k Group free) (answered_more os k Voigt free)
    (answered_more os k States free) (answered_more os k Pairs free) (answered_more os k Differ free)
    (answered_more os k Same free)
    ∙ bumped (answered Form os) (answered Group os) (answered Voigt os) (answered States os) (answered Pairs os)
    (answered Differ os) (answered Same os) (place_of k) (kind_placed k)

answered_kept : (os : List LineOutcome) (w : Refusal) →
    map (λ j. answered j (os ++ Refused w ∷ [])) kinds ≡ map (λ j. answered j os) kinds
answered_kept os w =
    same_seven _ _ _ _ _ _ _ _ _ _ _ _ _ _
    (answered_same os w Form) (answered_same os w Group) (answered_same os w Voigt) (answered_same os w States)
    (answered_same os w Pairs) (answered_same os w Differ) (answered_same os w Same)

-- ---- the counts of refusals
refused_more : (os : List LineOutcome) (w v : Refusal) →
    refused v (os ++ Refused w ∷ []) ≡ refused v os + cond (place_among v == place_among w) 1 0
refused_more os w v = count_push (λ o. is_refused_so v o) os (Refused w)

refused_same : (os : List LineOutcome) (k : Kind) (free : ℕ) (v : Refusal) →
    refused v (os ++ Answered k free ∷ []) ≡ refused v os
refused_same os k free v = count_push (λ o. is_refused_so v o) os (Answered k free) ∙ add-zero (refused v os)

word_placed : (w : Refusal) → place_among w < 7
word_placed Long = omega arith
word_placed Syntax = omega arith
word_placed Primes = omega arith
word_placed Rank = omega arith
word_placed Shape = omega arith
word_placed NotSub = omega arith
word_placed TooLarge = omega arith

refused_bumped : (os : List LineOutcome) (w : Refusal) →
    map (λ v. refused v (os ++ Refused w ∷ [])) refusals
    ≡ set (map (λ v. refused v os) refusals) (place_among w) (get_or (map (λ v. refused v os) refusals) (place_among w) 0 + 1)
refused_bumped os w =
    same_seven _ _ _ _ _ _ _ _ _ _ _ _ _ _
    (refused_more os w Long) (refused_more os w Syntax) (refused_more os w Primes) (refused_more os w Rank)
    (refused_more os w Shape) (refused_more os w NotSub) (refused_more os w TooLarge)
    ∙ bumped (refused Long os) (refused Syntax os) (refused Primes os) (refused Rank os) (refused Shape os)
    (refused NotSub os) (refused TooLarge os) (place_among w) (word_placed w)

refused_kept : (os : List LineOutcome) (k : Kind) (free : ℕ) →
    map (λ v. refused v (os ++ Answered k free ∷ [])) refusals ≡ map (λ v. refused v os) refusals
refused_kept os k free =
    same_seven _ _ _ _ _ _ _ _ _ _ _ _ _ _
    (refused_same os k free Long) (refused_same os k free Syntax) (refused_same os k free Primes)
    (refused_same os k free Rank) (refused_same os k free Shape) (refused_same os k free NotSub)
    (refused_same os k free TooLarge)

-- ---- whether a line is refused
or_false : (b : Bool) → (b || false) ≡ b
or_false true = refl
or_false false = refl

or_true : (b : Bool) → (b || true) ≡ true
or_true true = refl
or_true false = refl

-- ---- all counts
pub count_answered : (os : List LineOutcome) (o : LineOutcome) (k : Kind) (free p : ℕ) (c : Counts) → o ≡ Answered k free →
    p ≡ place_of k → AreCounts os c →
    AreCounts (os ++ o ∷ []) (record c { answered = set c.answered p (get_or c.answered p 0 + 1); free = c.free + free })
count_answered os o k free p c is at are =
    let one : AreCounts (os ++ Answered k free ∷ [])
    (record c { answered = set c.answered p (get_or c.answered p 0 + 1); free = c.free + free }) = record {
      answered_are =
          ap₂ (λ l n. set l n (get_or l n 0 + 1)) are.answered_are at ∙ sym (answered_bumped os k free);
      refused_are = are.refused_are ∙ sym (refused_kept os k free);
      free_is = ap (λ n. n + free) are.free_is ∙ sym (sum_by_push (λ o. free_in o) os (Answered k free));
      any_is =
          are.any_is ∙ sym (or_false (has_refused os))
          ∙ sym (list_any-append (λ o. is_refused o) os (Answered k free ∷ []));
    } in
    subst (λ (x : LineOutcome). AreCounts (os ++ x ∷ [])
    (record c { answered = set c.answered p (get_or c.answered p 0 + 1); free = c.free + free })) (sym is) one

pub count_refused : (os : List LineOutcome) (o : LineOutcome) (w : Refusal) (p : ℕ) (c : Counts) → o ≡ Refused w →
    p ≡ place_among w → AreCounts os c →
    AreCounts (os ++ o ∷ []) (record c { refused = set c.refused p (get_or c.refused p 0 + 1); any_refused = true })
count_refused os o w p c is at are =
    let one : AreCounts (os ++ Refused w ∷ [])
    (record c { refused = set c.refused p (get_or c.refused p 0 + 1); any_refused = true }) = record {
      answered_are = are.answered_are ∙ sym (answered_kept os w);
      refused_are = ap₂ (λ l n. set l n (get_or l n 0 + 1)) are.refused_are at ∙ sym (refused_bumped os w);
      free_is =
          are.free_is ∙ sym (add-zero (free_total os)) ∙ sym (sum_by_push (λ o. free_in o) os (Refused w));
      any_is = sym (or_true (has_refused os)) ∙ sym (list_any-append (λ o. is_refused o) os (Refused w ∷ []));
    } in
    subst (λ (x : LineOutcome). AreCounts (os ++ x ∷ [])
    (record c { refused = set c.refused p (get_or c.refused p 0 + 1); any_refused = true })) (sym is) one

-- ---- the summary
-- five pieces, one after another
pieces : (t u v w x y a b c d e : List ℕ) → t ≡ [] → u ≡ t ++ a → v ≡ u ++ b → w ≡ v ++ c → x ≡ w ++ d → y ≡ x ++ e →
    y ≡ a ++ (b ++ (c ++ (d ++ e)))
pieces t u v w x y a b c d e none first second third fourth fifth =
    let u_is : u ≡ a = first ∙ ap (λ l. l ++ a) none in
    let v_is : v ≡ a ++ b = second ∙ ap (λ l. l ++ b) u_is in
    let w_is : w ≡ (a ++ b) ++ c = third ∙ ap (λ l. l ++ c) v_is in
    let x_is : x ≡ ((a ++ b) ++ c) ++ d = fourth ∙ ap (λ l. l ++ d) w_is in
    fifth ∙ ap (λ l. l ++ e) x_is ∙ regrouped
  where
    regrouped : (((a ++ b) ++ c) ++ d) ++ e ≡ a ++ (b ++ (c ++ (d ++ e)))
    regrouped = simp append_assoc

pub summary_is : (lines : ℕ) (os : List LineOutcome) (counts : Counts) (t u v w x y : List ℕ) → AreCounts os counts →
    t ≡ [] → u ≡ t ++ entry (codes "lines") lines → v ≡ u ++ entries (map name_of kinds) counts.answered →
    w ≡ v ++ entries (map word_of refusals) counts.refused → x ≡ w ++ entry (codes "free") counts.free →
    y ≡ x ++ entry (codes "end") lines → y ≡ summary_text lines os
summary_is lines os counts t u v w x y are none first second third fourth fifth =
    pieces t u v w x y (entry (codes "lines") lines) (entries (map name_of kinds) (map (λ k. answered k os) kinds))
    (entries (map word_of refusals) (map (λ w. refused w os) refusals)) (entry (codes "free") (free_total os))
    (entry (codes "end") lines)
    none first
    (second ∙ ap (λ l. u ++ entries (map name_of kinds) l) are.answered_are)
    (third ∙ ap (λ l. v ++ entries (map word_of refusals) l) are.refused_are)
    (fourth ∙ ap (λ n. w ++ entry (codes "free") n) are.free_is)
    fifth
