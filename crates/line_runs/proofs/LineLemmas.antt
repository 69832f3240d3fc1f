-- The lines of an input that is cut behind a line.
use Rattle.list_laws.proofs.Kit.{◌≡◌, ℕ, ◌≤◌, List, [], ◌∷◌, ◌++◌, length, refl, sym, ◌∙◌, ap, arith, nat_tests, AllByRecursion}
use Rattle.std.proofs.Common.{append_assoc, length-append}
use Rattle.text_defs.specs.Lines.{onto_first, lines_of, onto_whole, whole_lines, ended}
use Rattle.line_runs.specs.Reads.{HasNoBreak}

pub no_break_append : (xs ys : List ℕ) → HasNoBreak xs → HasNoBreak ys → HasNoBreak (xs ++ ys)
no_break_append [] ys first second = second
no_break_append (x ∷ xs) ys first second = (first.0, no_break_append xs ys first.1 second)

-- a whole line comes first
pub lines-whole : (line rest : List ℕ) → HasNoBreak line → lines_of (line ++ 10 ∷ rest) ≡ line ∷ lines_of rest
lines-whole [] rest none = refl
lines-whole (b ∷ line) rest none =
    let step : lines_of (b ∷ (line ++ 10 ∷ rest)) ≡ onto_first b (lines_of (line ++ 10 ∷ rest)) = grind (arith, nat_tests, none.0) in
    step ∙ ap (λ (ls : List (List ℕ)). onto_first b ls) (lines-whole line rest none.1)

pub lines-last : (b : ℕ) (line : List ℕ) → HasNoBreak (b ∷ line) → lines_of (b ∷ line) ≡ (b ∷ line) ∷ []
lines-last b [] none = grind (arith, nat_tests, none.0)
lines-last b (c ∷ line) none =
    let step : lines_of (b ∷ c ∷ line) ≡ onto_first b (lines_of (c ∷ line)) = grind (arith, nat_tests, none.0) in
    step ∙ ap (λ (ls : List (List ℕ)). onto_first b ls) (lines-last c line none.1)

pub whole-whole : (line rest : List ℕ) → HasNoBreak line → whole_lines (line ++ 10 ∷ rest) ≡ line ∷ whole_lines rest
whole-whole [] rest none = refl
whole-whole (b ∷ line) rest none =
    let step : whole_lines (b ∷ (line ++ 10 ∷ rest)) ≡ onto_whole b (whole_lines (line ++ 10 ∷ rest)) = grind (arith, nat_tests, none.0) in
    step ∙ ap (λ (ls : List (List ℕ)). onto_whole b ls) (whole-whole line rest none.1)

pub whole-none : (line : List ℕ) → HasNoBreak line → whole_lines line ≡ []
whole-none [] none = refl
whole-none (b ∷ line) none =
    let step : whole_lines (b ∷ line) ≡ onto_whole b (whole_lines line) = grind (arith, nat_tests, none.0) in
    step ∙ ap (λ (ls : List (List ℕ)). onto_whole b ls) (whole-none line none.1)

-- whole lines, and then a tail
pub ended-cons : (line : List ℕ) (ls : List (List ℕ)) (tail : List ℕ) → ended (line ∷ ls) ++ tail ≡ line ++ 10 ∷ (ended ls ++ tail)
ended-cons line ls tail = append_assoc (line ++ 10 ∷ []) (ended ls) tail ∙ append_assoc line (10 ∷ []) (ended ls ++ tail)

pub ended-push : (ls : List (List ℕ)) (line tail : List ℕ) → ended (ls ++ line ∷ []) ++ tail ≡ ended ls ++ (line ++ 10 ∷ tail)
ended-push [] line tail = ended-cons line [] tail
ended-push (l ∷ ls) line tail =
    ended-cons l (ls ++ line ∷ []) tail ∙ ap (λ (t : List ℕ). l ++ 10 ∷ t) (ended-push ls line tail) ∙ sym (ended-cons l ls (line ++ 10 ∷ tail))

pub lines-ended : (ls : List (List ℕ)) (tail : List ℕ) → AllByRecursion HasNoBreak ls → lines_of (ended ls ++ tail) ≡ ls ++ lines_of tail
lines-ended [] tail none = refl
lines-ended (l ∷ ls) tail none =
    ap lines_of (ended-cons l ls tail) ∙ lines-whole l (ended ls ++ tail) none.0 ∙ ap (λ (t : List (List ℕ)). l ∷ t) (lines-ended ls tail none.1)

pub whole-ended : (ls : List (List ℕ)) (tail : List ℕ) → AllByRecursion HasNoBreak ls → HasNoBreak tail → whole_lines (ended ls ++ tail) ≡ ls
whole-ended [] tail none last = whole-none tail last
whole-ended (l ∷ ls) tail none last =
    ap whole_lines (ended-cons l ls tail) ∙ whole-whole l (ended ls ++ tail) none.0 ∙ ap (λ (t : List (List ℕ)). l ∷ t) (whole-ended ls tail none.1 last)

-- there are no more lines than bytes
pub length-ended : (ls : List (List ℕ)) → length ls ≤ length (ended ls)
length-ended [] = omega arith
length-ended (l ∷ ls) = omega (arith, length-ended ls, length-append (l ++ 10 ∷ []) (ended ls), length-append l (10 ∷ []))
