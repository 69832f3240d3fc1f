-- The texts of class lines, piece by piece.
use Rattle.list_laws.proofs.Kit.{◌≡◌, ℕ, zero, suc, ◌+◌, ◌<◌, ap, sym, ◌∙◌, arith, List, [], ◌∷◌, ◌++◌, length, get_or, take, drop, decimal, drop_more}
use Rattle.std.proofs.Common.{append_assoc}
use Rattle.std.specs.Prelude.{map, slice_get, Some, codes}
use Rattle.tensor_defs.specs.PairClasses as defs
use Rattle.text_defs.specs.Prelude.{class_line, class_lines, name_text, yes_no, spaced}
use Rattle.twin_pairs.specs.declared.PairClass.{PairClass}
use Rattle.twin_pairs.specs.Classes.{class_of}
use Rattle.text_laws.proofs.Joins.{spaced_joined}
use Rattle.state_answers.specs.Gaps.{gap}

same : (m n : ℕ) → Some m ≡ Some n → m ≡ n
same m n e = cc

-- a number more, behind a space but for the first
spaced_more : (ms : List ℕ) (k m : ℕ) → slice_get ms k ≡ Some m → spaced (map decimal (take (suc k) ms)) ≡ spaced (map decimal (take k ms)) ++ (gap k ++ decimal m)
spaced_more [] k m e = absurd cc
spaced_more (n ∷ ns) zero m e = ap decimal (same n m e)
spaced_more (n ∷ []) (suc k) m e = absurd cc
spaced_more (n ∷ p ∷ ps) (suc zero) m e = ap (λ q. decimal n ++ 32 ∷ decimal q) (same p m e)
spaced_more (n ∷ p ∷ ps) (suc (suc k)) m e =
    ap (λ t. decimal n ++ 32 ∷ t) (spaced_more (p ∷ ps) (suc k) m e)
    ∙ sym (append_assoc (decimal n) (32 ∷ spaced (map decimal (take (suc k) (p ∷ ps)))) (32 ∷ decimal m))

pub members_more : (ms : List ℕ) (k m : ℕ) (old out one two : List ℕ) → slice_get ms k ≡ Some m →
    out ≡ old ++ spaced (map decimal (take k ms)) → one ≡ out ++ gap k → two ≡ one ++ decimal m →
    two ≡ old ++ spaced (map decimal (take (k + 1) ms))
members_more ms k m old out one two at was a b =
    let next : suc k ≡ k + 1 = omega arith in
    b ∙ ap (λ l. l ++ decimal m) a ∙ append_assoc out (gap k) (decimal m)
    ∙ ap (λ l. l ++ (gap k ++ decimal m)) was
    ∙ append_assoc old (spaced (map decimal (take k ms))) (gap k ++ decimal m)
    ∙ ap (λ l. old ++ l) (sym (spaced_more ms k m at))
    ∙ ap (λ n. old ++ spaced (map decimal (take n ms))) next

-- the line of the next class, and those of the others
lines_more : (k i : ℕ) (xs : List PairClass) (d : PairClass) → i < length xs →
    class_lines k (map class_of (drop i xs))
    ≡ class_line k (class_of (get_or xs i d)) ++ class_lines (k + 1) (map class_of (drop (i + 1) xs))
lines_more k i xs d h =
    let next : suc k ≡ k + 1 = omega arith in
    ap (λ l. class_lines k (map class_of l)) (drop_more xs i d h)
    ∙ ap (λ n. class_line k (class_of (get_or xs i d)) ++ class_lines n (map class_of (drop (i + 1) xs))) next

-- what is written and what is still to come, after one line more
pub class_more : (i : ℕ) (xs : List PairClass) (x : PairClass) (out out' whole : List ℕ) → i < length xs →
    x ≡ get_or xs i x → out' ≡ out ++ class_line (i + 1) (class_of x) →
    out ++ class_lines (i + 1) (map class_of (drop i xs)) ≡ whole →
    out' ++ class_lines (i + 1 + 1) (map class_of (drop (i + 1) xs)) ≡ whole
class_more i xs x out out' whole h is next e =
    ap (λ l. l ++ class_lines (i + 1 + 1) (map class_of (drop (i + 1) xs))) next
    ∙ append_assoc out (class_line (i + 1) (class_of x)) (class_lines (i + 1 + 1) (map class_of (drop (i + 1) xs)))
    ∙ ap (λ l. out ++ l) (sym (lines_more (i + 1) i xs x h ∙ ap (λ y. class_line (i + 1) (class_of y) ++ class_lines (i + 1 + 1) (map class_of (drop (i + 1) xs))) (sym is)))
    ∙ e

-- ---- the line of a class
-- the words of two lists, with a space between the lists

regrouped : (old a b d e : List ℕ) → (((old ++ a) ++ b) ++ d) ++ e ≡ old ++ ((a ++ (b ++ d)) ++ e)
regrouped old a b d e = simp append_assoc

abbrev numbers : ℕ → List ℕ → List (List ℕ)
numbers k ms = decimal k ∷ codes "states" ∷ spaced (map decimal ms) ∷ []

abbrev groups : defs.PairClass → List (List ℕ)
groups c =
    name_text c.pair_name ∷ codes "order" ∷ decimal (length c.pair_group) ∷ codes "twin" ∷ name_text c.twin_name
    ∷ codes "order" ∷ decimal (length c.twin_group) ∷ []

-- the pieces of a line, appended one after another
pub class_joined : (k : ℕ) (c : defs.PairClass) (old one two three four : List ℕ) →
    one ≡ old ++ spaced (codes "class" ∷ numbers k c.members) →
    two ≡ one ++ (codes " swappable " ++ yes_no c.swappable) →
    three ≡ two ++ 32 ∷ spaced (codes "group" ∷ groups c) →
    four ≡ three ++ 10 ∷ [] → four ≡ old ++ class_line k c
class_joined k c old one two three four a b d e =
    let front : List ℕ = spaced (codes "class" ∷ numbers k c.members) in
    let middle : List ℕ = spaced (codes "swappable" ∷ yes_no c.swappable ∷ []) in
    let last : List ℕ = spaced (codes "group" ∷ groups c) in
    e ∙ ap (λ l. l ++ 10 ∷ []) (d ∙ ap (λ l. l ++ 32 ∷ last) (b ∙ ap (λ l. l ++ 32 ∷ middle) a))
    ∙ regrouped old front (32 ∷ middle) (32 ∷ last) (10 ∷ [])
    ∙ ap (λ l. old ++ ((front ++ 32 ∷ l) ++ 10 ∷ [])) (sym (spaced_joined (codes "swappable") (yes_no c.swappable ∷ []) (codes "group") (groups c)))
    ∙ ap (λ l. old ++ (l ++ 10 ∷ [])) (sym (spaced_joined (codes "class") (numbers k c.members) (codes "swappable") (yes_no c.swappable ∷ codes "group" ∷ groups c)))
