-- Words at places of a line, and where the line goes wrong from a place on.
--   word_cut        the line from a place on is the word there and what stands behind it
--   wrong_inside    the word goes wrong
--   wrong_at_end    the line ends behind the word, and more is wanted
--   wrong_behind    a space stands behind the word, and nothing is wanted
--   wrong_later     the line goes wrong behind the word and its space
use Rattle.std.proofs.Common.{◌≡◌, ◌≢◌, ℕ, zero, suc, ◌+◌, ◌-◌, ◌<◌, ◌≤◌, List, [], ◌∷◌, ◌++◌, length, take, drop, get_or, refl, sym, ap, subst, ◌∙◌, inl, inr, arith}
use Rattle.std.proofs.lemmas.Bool.{cases_lt}
use Rattle.std.proofs.lemmas.List.{take-append-drop, drop-drop, drop_more, drop_all, get_or-drop, length-drop, length-take-le}
use Rattle.text_defs.specs.Languages.{IsFaulty}
use Rattle.request_lines.specs.declared.Named.{Named}
use Rattle.request_lines.specs.declared.Span.{Span}
use Rattle.request_lines.specs.Words.{Slot, GroupSlot, JahnSlot, IsWordOf, IsWords}
use Rattle.request_lines.specs.Parts.{WordEnds, word_at, IsWrongFrom, GroupTaken, JahnTaken}
use Rattle.request_lines.proofs.WordTexts.{Clean, Spaces}
use Rattle.request_lines.proofs.Slots.{wrong_word, word_short, word_long, later_wrong}

clean_front : (separator : ℕ) (l : List ℕ) (n : ℕ) → ((k : ℕ) → k < n → get_or l k 0 ≢ separator) → Clean separator (take n l)
clean_front separator [] zero h = tt
clean_front separator [] (suc n) h = tt
clean_front separator (x ∷ xs) zero h = tt
clean_front separator (x ∷ xs) (suc n) h = (h zero (omega arith), clean_front separator xs n (λ k lt. h (suc k) (omega arith)))

module _ (separator : ℕ) (line : List ℕ) (start end : ℕ) (e : WordEnds separator line start end) where
  forward : start ≤ end
  forward = e.forward

  fits : end ≤ length line
  fits = e.fits

  pub word_cut : drop start line ≡ word_at line start end ++ drop end line
  word_cut =
      sym (take-append-drop (end - start) (drop start line))
      ∙ ap (λ (l : List ℕ). word_at line start end ++ l) (drop-drop (end - start) start line ∙ ap (λ (n : ℕ). drop n line) together)
    where
      together : start + (end - start) ≡ end
      together = let a = forward in omega arith

  pub word_size : length (word_at line start end) ≡ end - start
  word_size = length-take-le (end - start) (drop start line) (let b = fits in omega (arith, length-drop start line))

  pub word_clean : Clean separator (word_at line start end)
  word_clean = clean_front separator (drop start line) (end - start) (λ k lt eq. e.none (start + k) (omega arith) (omega arith) (sym (get_or-drop start line k 0) ∙ eq))

  pub at_separator : end < length line → drop end line ≡ separator ∷ drop (end + 1) line
  at_separator lt = drop_more line end 0 lt ∙ ap (λ (b : ℕ). b ∷ drop (end + 1) line) (e.at_separator lt)

  pub spaces : Spaces separator (drop end line)
  spaces =
      elim (cases_lt end (length line)) [
        | inl lt ↦ subst (Spaces separator) (sym (at_separator lt)) refl
        | inr le ↦ subst (Spaces separator) (sym (drop_all end line le)) tt
      ]

  pub cut_at_end : length line ≤ end → drop start line ≡ word_at line start end ++ []
  cut_at_end le = word_cut ∙ ap (λ (l : List ℕ). word_at line start end ++ l) (drop_all end line le)

  pub cut_at_separator : end < length line → drop start line ≡ word_at line start end ++ separator ∷ drop (end + 1) line
  cut_at_separator lt = word_cut ∙ ap (λ (l : List ℕ). word_at line start end ++ l) (at_separator lt)

  pub size_reaches : end ≡ start + (end - start)
  size_reaches = let a = forward in omega arith

module _ (line : List ℕ) (start end : ℕ) (e : WordEnds 32 line start end) where
  pub wrong_inside : (s : Slot) (slots : List Slot) (m : ℕ) → IsFaulty (IsWordOf s) (word_at line start end) m → IsWrongFrom line start s slots (start + m)
  wrong_inside s slots m f = record {
    at = m;
    place_is = refl;
    faulty = wrong_word s (word_at line start end) (word_clean 32 line start end e) slots (drop end line) (drop start line) (spaces 32 line start end e) (word_cut 32 line start end e) m f;
  }

  pub wrong_at_end : (s n : Slot) (slots : List Slot) → length line ≤ end → IsWordOf s (word_at line start end) → IsWrongFrom line start s (n ∷ slots) end
  wrong_at_end s n slots le a = record {
    at = end - start;
    place_is = size_reaches 32 line start end e;
    faulty = subst (IsFaulty (IsWords s (n ∷ slots)) (drop start line)) (word_size 32 line start end e) (word_short s (word_at line start end) (word_clean 32 line start end e) n slots (drop start line) (cut_at_end 32 line start end e le) a);
  }

  module _ (s : Slot) (lt : end < length line) (a : IsWordOf s (word_at line start end)) where
    pub wrong_behind : IsWrongFrom line start s [] end
    wrong_behind = record {
      at = end - start;
      place_is = size_reaches 32 line start end e;
      faulty = subst (IsFaulty (IsWords s []) (drop start line)) (word_size 32 line start end e) (word_long s (word_at line start end) (word_clean 32 line start end e) (drop (end + 1) line) (drop start line) (cut_at_separator 32 line start end e lt) a);
    }

    pub wrong_later : (n : Slot) (slots : List Slot) (next place : ℕ) → next ≡ end + 1 → IsWrongFrom line next n slots place → IsWrongFrom line start s (n ∷ slots) place
    wrong_later n slots next place is f =
        let g : IsFaulty (IsWords n slots) (drop (end + 1) line) f.at = let P : ℕ → Type 0 = λ (k : ℕ). IsFaulty (IsWords n slots) (drop k line) f.at in subst P is f.faulty in record {
          at = length (word_at line start end) + 1 + f.at;
          place_is = let p = f.place_is in let a = e.forward in let w = word_size 32 line start end e in omega arith;
          faulty = later_wrong s (word_at line start end) (word_clean 32 line start end e) (drop (end + 1) line) (drop start line) (cut_at_separator 32 line start end e lt) a n slots f.at g;
        }

-- ---- behind a symbol and its space
pub group_later : (line : List ℕ) (start : ℕ) (g : Named) (next : ℕ) → GroupTaken line start g next → (n : Slot) (slots : List Slot) (place : ℕ) → IsWrongFrom line next n slots place → IsWrongFrom line start GroupSlot (n ∷ slots) place
group_later line start g next h n slots place f = wrong_later line start h.end h.ends GroupSlot h.more (g.tree, h.spells) n slots next place h.next_is f

pub jahn_later : (line : List ℕ) (start : ℕ) (j : Span) (next : ℕ) → JahnTaken line start j next → (n : Slot) (slots : List Slot) (place : ℕ) → IsWrongFrom line next n slots place → IsWrongFrom line start JahnSlot (n ∷ slots) place
jahn_later line start j next h n slots place f = wrong_later line start j.end h.ends JahnSlot h.more h.spells n slots next place h.next_is f
