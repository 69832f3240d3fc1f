-- Where the held bytes are cut.
use Rattle.std.proofs.Common.{◌≡◌, ◌≢◌, ℕ, ◌+◌, ◌-◌, ◌<◌, ◌≤◌, List, [], ◌∷◌, ◌++◌, length, take, drop, get_or, sym, ◌∙◌, ap, subst, arith, take-append-drop, length-drop, length-append, append_assoc}
use Rattle.std.proofs.lemmas.List.{take_more, drop_more, take_at, drop-append-le, take-take, drop-take, length-take-le, append-nil, drop_at, take-append-le}
use Rattle.std.proofs.lemmas.Slice.{between_is}
use Rattle.std.specs.List.{copy_within}
use borrow.Rule.Slice.PartMut.{put_mid, post_of}
use Rattle.line_runs.specs.Reads.{HasNoBreak}
use Rattle.line_runs.proofs.LineLemmas.{no_break_append}

pub no_break_more : (xs : List ℕ) (i : ℕ) → i < length xs → get_or xs i 0 ≢ 10 → HasNoBreak (take i xs) → HasNoBreak (take (i + 1) xs)
no_break_more xs i in_range other so_far = subst HasNoBreak (sym (take_more xs i 0 in_range)) (no_break_append (take i xs) (get_or xs i 0 ∷ []) so_far (other, tt))

pub cut_at : (xs : List ℕ) (i : ℕ) → i < length xs → get_or xs i 0 ≡ 10 → xs ≡ take i xs ++ 10 ∷ drop (i + 1) xs
cut_at xs i in_range is =
    sym (take-append-drop i xs) ∙ ap (λ (l : List ℕ). take i xs ++ l) (drop_more xs i 0 in_range ∙ ap (λ (b : ℕ). b ∷ drop (i + 1) xs) is)

-- what was read stands behind what was held
pub behind : (front read rest : List ℕ) (start count end room : ℕ) → length front ≡ end → start ≤ end → count ≤ room → room ≡ length read
    → drop start (take (end + count) (front ++ (read ++ rest))) ≡ drop start front ++ take count read
behind front read rest start count end room size ordered fits is =
    let split : take (end + count) (front ++ (read ++ rest)) ≡ front ++ take count read =
    ap (λ (l : List ℕ). take (end + count) l) (sym (append_assoc front read rest))
    ∙ take-append-le (end + count) (front ++ read) rest (omega (arith, lengths))
    ∙ take_front in
    ap (λ (l : List ℕ). drop start l) split ∙ drop-append-le start front (take count read) (omega arith)
  where
    lengths : length (front ++ read) ≡ end + room
    lengths = omega (arith, length-append front read)

    take_front : take (end + count) (front ++ read) ≡ front ++ take count read
    take_front =
        sym (take-append-drop end (take (end + count) (front ++ read)))
        ∙ ap (λ (l : List ℕ). l ++ drop end (take (end + count) (front ++ read))) (take-take end (end + count) (front ++ read) (omega arith) ∙ take_at front read end size)
        ∙ ap (λ (l : List ℕ). front ++ l) (drop-take end count (front ++ read) ∙ ap (λ (l : List ℕ). take count l) (drop_at front read end size))

-- the held bytes are moved to the front
pub moved : (xs ys : List ℕ) (start end : ℕ) → start ≤ end → end ≤ length xs → ys ≡ copy_within xs start end 0 → take (end - start) ys ≡ drop start (take end xs)
moved xs ys start end ordered fits is =
    let size : length (take (end - start) (drop start xs)) ≡ end - start = length-take-le (end - start) (drop start xs) (omega (arith, length-drop start xs)) in
    ap (λ (l : List ℕ). take (end - start) l) is ∙ take_at (take (end - start) (drop start xs)) (drop (0 + (end - start)) xs) (end - start) size ∙ between_is xs start end

-- what a read into the middle of a Vec leaves at its front
pub filled : (xs ys items : List ℕ) (a k len count : ℕ) → length xs ≡ len → a + k ≤ len → length ys ≡ k → count ≤ k
    → take (a + count) (take len (put_mid a k xs ys ++ drop (length (put_mid a k xs ys)) items)) ≡ take a xs ++ take count ys
filled xs ys items a k len count size fits is small =
    let post = post_of a k xs in
    let front : length (take a xs) ≡ a = length-take-le a xs (omega arith) in
    let whole : length (put_mid a k xs ys) ≡ len = omega (arith, length-append (take a xs) (ys ++ post), length-append ys post, length-drop k (drop a xs), length-drop a xs) in
    take-take (a + count) len (put_mid a k xs ys ++ drop (length (put_mid a k xs ys)) items) (omega arith)
    ∙ take-append-le (a + count) (put_mid a k xs ys) (drop (length (put_mid a k xs ys)) items) (omega arith)
    ∙ behind (take a xs) ys post 0 count a k front (omega arith) small (sym is)

-- the same after a read of nothing
pub kept : (xs ys items : List ℕ) (a k len : ℕ) → length xs ≡ len → a + k ≤ len → length ys ≡ k
    → take a (take len (put_mid a k xs ys ++ drop (length (put_mid a k xs ys)) items)) ≡ take a xs
kept xs ys items a k len size fits is =
    let all = take len (put_mid a k xs ys ++ drop (length (put_mid a k xs ys)) items) in
    let same : a + 0 ≡ a = omega arith in
    ap (λ (n : ℕ). take n all) (sym same) ∙ filled xs ys items a k len 0 size fits is (omega arith) ∙ append-nil (take a xs)
