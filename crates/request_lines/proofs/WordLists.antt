-- Lists of Jahn words.
--   words_list, list_words    the text of the words of a list, and the words of its text
--   Gone            behind some words of a text and their commas a list goes on
--   Here            the word of a list that stands at a place, and the words behind it
--   Counted         where the word with a number stands
use Rattle.std.proofs.Common.{◌≡◌, ◌⊎◌, ℕ, zero, suc, ◌+◌, ◌-◌, ◌<◌, ◌≤◌, List, [], ◌∷◌, ◌++◌, length, take, drop, get_or}
use Rattle.std.proofs.Common.{refl, sym, ap, subst, ◌∙◌, append_assoc, inl, inr, arith}
use Rattle.std.specs.Prelude.{codes}
use Rattle.std.proofs.lemmas.List.{append-nil, drop_at, drop-drop, length-append, length-drop, length-take-le}
use Rattle.std.proofs.lemmas.List.{drop_all}
use Rattle.text_defs.specs.Prelude.{IsFaulty, SpellsJahn, IsJahnText, JahnAt, JahnWords, most_words}
use Rattle.text_defs.specs.declared.Format.{Format}
use Rattle.text_defs.specs.declared.Format.TheVariants.{One, Two}
use Rattle.text_laws.proofs.Words.{Above, jahn_above_comma}
use Rattle.fault_places.proofs.Places.{StopsAt, Through, Through-start, Through-step, Through-faulty}
use Rattle.list_laws.proofs.Lists.{tails, none_some}
use Rattle.request_lines.specs.declared.Span.{Span}
use Rattle.request_lines.specs.Words.{IsListOf, words_behind}
use Rattle.request_lines.specs.Parts.{WordEnds, word_at}
use Rattle.request_lines.specs.Readings.{TellsJahn, TellsList, NthWord}
use Rattle.request_lines.proofs.WordTexts.{Spaces, clean, split, word_faulty, word_through}
use Rattle.request_lines.proofs.Positions.{word_cut, word_size, word_clean, spaces, cut_at_end, at_separator, size_reaches}

-- ---- the words of a list and its text
pub behind_first_word : (format : Format) (js : List JahnAt) → length js ≤ most_words format → length js ≤ suc (words_behind format)
behind_first_word One js le = le
behind_first_word Two js le = le

pub within_most : (format : Format) (js : List JahnAt) → length js ≤ suc (words_behind format) → length js ≤ most_words format
within_most One js le = le
within_most Two js le = le

past_comma : (front word z : List ℕ) → (front ++ (word ++ codes ",")) ++ z ≡ front ++ (word ++ 44 ∷ z)
past_comma front word z =
    append_assoc front (word ++ codes ",") z ∙ ap (λ (l : List ℕ). front ++ l) (append_assoc word (codes ",") z)

pub words_list : (more : ℕ) (front line : List ℕ) (js : List JahnAt) → JahnWords front line js → length js ≤ suc more →
    (z : List ℕ) × (line ≡ front ++ z) × IsListOf more z
words_list more front line [] h le = absurd h
words_list zero front line (j ∷ []) h le =
    (h.word, h.line_is ∙ ap (λ (l : List ℕ). front ++ l) (append-nil h.word), (j.jahn, h.spells))
words_list (suc more) front line (j ∷ []) h le = (
  h.word,
  h.line_is ∙ ap (λ (l : List ℕ). front ++ l) (append-nil h.word),
  record { word = h.word; ending = []; is_word = (j.jahn, h.spells); is_ending = inl refl; text = sym (append-nil h.word) },
)
words_list zero front line (j ∷ k ∷ js) h le = absurd (omega (arith, le))
words_list (suc more) front line (j ∷ k ∷ js) h le =
    let rest = words_list more (front ++ (h.0 ++ codes ",")) line (k ∷ js) h.3 (omega (arith, le)) in (
      h.0 ++ 44 ∷ rest.0,
      rest.1 ∙ past_comma front h.0 rest.0,
      record { word = h.0; ending = 44 ∷ rest.0; is_word = (j.jahn, h.1); is_ending = inr (rest.0, refl, rest.2); text = refl },
    )

one_word : (front word line : List ℕ) → IsJahnText word → line ≡ front ++ (word ++ []) →
    (js : List JahnAt) × (length js ≡ 1) × JahnWords front line js
one_word front word line s is = (
  record { jahn = s.0; column = length front + 1 } ∷ [],
  refl,
  record { word = word; spells = s.1; column = refl; line_is = is },
)

more_words : (front word line : List ℕ) → IsJahnText word → (js : List JahnAt) → JahnWords (front ++ (word ++ codes ",")) line js →
    (ks : List JahnAt) × (length ks ≡ suc (length js)) × JahnWords front line ks
more_words front word line s [] h = absurd h
more_words front word line s (j ∷ js) h =
    (record { jahn = s.0; column = length front + 1 } ∷ j ∷ js, refl, (word, s.1, refl, h))

pub list_words : (more : ℕ) (front z line : List ℕ) → IsListOf more z → line ≡ front ++ z →
    (js : List JahnAt) × (length js ≤ suc more) × JahnWords front line js
list_words zero front z line s is =
    let one = one_word front z line s (is ∙ ap (λ (l : List ℕ). front ++ l) (sym (append-nil z))) in
    (one.0, omega (arith, one.1), one.2)
list_words (suc more) front z line e is =
    let text : line ≡ front ++ (e.word ++ e.ending) = is ∙ ap (λ (l : List ℕ). front ++ l) e.text in
    elim e.is_ending [
      | inl none ↦
          let one = one_word front e.word line e.is_word (text ∙ ap (λ (l : List ℕ). front ++ (e.word ++ l)) none) in
          (one.0, omega (arith, one.1), one.2)
      | inr rest ↦
          let later =
          list_words more (front ++ (e.word ++ codes ",")) rest.0 line rest.2
          (text ∙ ap (λ (l : List ℕ). front ++ (e.word ++ l)) rest.1 ∙ sym (past_comma front e.word rest.0)) in
          let all = more_words front e.word line e.is_word later.0 later.2 in
          (all.0, omega (arith, all.1, later.1), all.2)
    ]

-- ---- the scan of a list
Through-then : (Text A B : List ℕ → Type 0) (w : List ℕ) (n k : ℕ) → Through Text A w n → Through A B (drop n w) k →
    Through Text B w (n + k)
Through-then Text A B w n k t s =
    let is : drop k (drop n w) ≡ drop (n + k) w = drop-drop k n w in record {
      within = omega (arith, t.within, s.within, length-drop n w);
      some = λ b. t.some (s.some (subst B (sym is) b));
      only = λ x. subst B is (s.only (t.only x));
      stop = λ m h. let P : List ℕ → Type 0 = λ (l : List ℕ). StopsAt B l m in let Q : ℕ →
          Type 0 = λ (i : ℕ). StopsAt Text w i in subst Q (along m) (t.stop (k + m) (s.stop m (subst P (sym is) h)));
    }
  where
    along : (m : ℕ) → n + (k + m) ≡ n + k + m
    along m = omega arith

-- what stands behind a word: nothing, or a comma and a list
abbrev Behind : ℕ → List ℕ → Type 0
Behind more e = (e ≡ []) ⊎ ((rest : List ℕ) × (e ≡ 44 ∷ rest) × IsListOf more rest)

high : (z : List ℕ) → IsJahnText z → Above 44 z
high z s = jahn_above_comma z s.0 s.1

commas : (more : ℕ) (z : List ℕ) → Behind more z → Spaces 44 z
commas more z (inl e) = subst (Spaces 44) (sym e) tt
commas more z (inr r) = subst (Spaces 44) (sym r.1) refl

pub record Gone (all : ℕ) (text : List ℕ) (start left : ℕ) : Type 0 where
  pub through : Through (IsListOf all) (IsListOf left) text start
  pub within : start ≤ length text

pub Gone-start : (all : ℕ) (text : List ℕ) → Gone all text 0 all
Gone-start all text = record {
  through = Through-start (IsListOf all) (IsListOf all) text (λ z t. t) (λ z t. t);
  within = omega arith;
}

module _ (all : ℕ) (text : List ℕ) (start left : ℕ) (h : Gone all text start (suc left)) (end : ℕ) (ends : WordEnds 44 text start end) where
  pub Gone-wrong : (m : ℕ) → IsFaulty IsJahnText (word_at text start end) m → IsFaulty (IsListOf all) text (start + m)
  Gone-wrong m f =
      Through-faulty (IsListOf all) (IsListOf (suc left)) text start m h.through
      (word_faulty 44 IsJahnText (Behind left) high (commas left) (word_at text start end) (drop end text) (drop start text)
      (word_clean 44 text start end ends) (spaces 44 text start end ends) (word_cut 44 text start end ends) ([], inl refl) m f)

  pub Gone-last : IsJahnText (word_at text start end) → length text ≤ end → IsListOf all text
  Gone-last s le = h.through.some (record {
    word = word_at text start end;
    ending = [];
    is_word = s;
    is_ending = inl refl;
    text = cut_at_end 44 text start end ends le;
  })

  pub Gone-next : IsJahnText (word_at text start end) → end < length text → Gone all text (end + 1) left
  Gone-next s lt = record {
    through = Through-step (IsListOf all) (Behind left) text end at_comma (IsListOf left) lt into out;
    within = omega arith;
  }
    where
      at_comma : Through (IsListOf all) (Behind left) text end
      at_comma =
          let P : ℕ → Type 0 = λ (k : ℕ). Through (IsListOf all) (Behind left) text k in
          let place : start + length (word_at text start end) ≡ end =
          ap (λ (k : ℕ). start + k) (word_size 44 text start end ends) ∙ sym (size_reaches 44 text start end ends) in
          subst P place
          (Through-then (IsListOf all) (IsListOf (suc left)) (Behind left) text start (length (word_at text start end)) h.through
          (word_through 44 IsJahnText (Behind left) high (commas left) (word_at text start end) (drop end text) (drop start text)
          (word_clean 44 text start end ends) (spaces 44 text start end ends) (word_cut 44 text start end ends) s))

      into : (z : List ℕ) → Behind left (get_or text end 0 ∷ z) → IsListOf left z
      into z (inl e) = absurd (none_some (sym e))
      into z (inr r) = let P : List ℕ → Type 0 = λ (l : List ℕ). IsListOf left l in subst P (sym (tails r.1)) r.2

      out : (z : List ℕ) → IsListOf left z → Behind left (get_or text end 0 ∷ z)
      out z l = inr (z, ap (λ (b : ℕ). b ∷ z) (ends.at_separator lt), l)

pub Gone-one : (all : ℕ) (text : List ℕ) (start : ℕ) → Gone all text start 0 → IsJahnText (drop start text) → IsListOf all text
Gone-one all text start h s = h.through.some s

pub Gone-one-wrong : (all : ℕ) (text : List ℕ) (start m : ℕ) → Gone all text start 0 → IsFaulty IsJahnText (drop start text) m →
    IsFaulty (IsListOf all) text (start + m)
Gone-one-wrong all text start m h f = Through-faulty (IsListOf all) (IsListOf 0) text start m h.through f

-- ---- the word at a place of a list
pub take_is : (front z line : List ℕ) (n : ℕ) → line ≡ front ++ z → n ≡ length front → take n line ≡ front
take_is front z line n is e =
    let P : ℕ → Type 0 = λ (k : ℕ). take k line ≡ front in
    subst P (sym e) (ap (take (length front)) is ∙ of_front front)
  where
    of_front : (u : List ℕ) → take (length u) (u ++ z) ≡ u
    of_front [] = refl
    of_front (x ∷ u) = ap (λ (l : List ℕ). x ∷ l) (of_front u)

list_front : (front line : List ℕ) (js : List JahnAt) → JahnWords front line js → (z : List ℕ) × (line ≡ front ++ z)
list_front front line [] h = absurd h
list_front front line (j ∷ []) h = (h.word ++ [], h.line_is)
list_front front line (j ∷ k ∷ js) h =
    let rest = list_front (front ++ (h.0 ++ codes ",")) line (k ∷ js) h.3 in
    (h.0 ++ 44 ∷ rest.0, rest.1 ∙ past_comma front h.0 rest.0)

abbrev pub span : ℕ → ℕ → Span
span start end = record { start = start; end = end }

pub record Here (line : List ℕ) (start end : ℕ) (js : List JahnAt) : Type 0 where
  pub jahn : JahnAt
  pub others : List JahnAt
  pub is : js ≡ jahn ∷ others
  pub tells : TellsJahn line (span start end) jahn
  pub last : length line ≤ end → others ≡ []
  pub more : end < length line → JahnWords (take (end + 1) line) line others

module _ (line : List ℕ) (start end : ℕ) (fits : start ≤ length line) (ends : WordEnds 44 line start end) where
  front_size : length (take start line) ≡ start
  front_size = length-take-le start line fits

  told : (word z : List ℕ) (j : JahnAt) → SpellsJahn word j.jahn → j.column ≡ length (take start line) + 1 → Spaces 44 z →
      line ≡ take start line ++ (word ++ z) → (TellsJahn line (span start end) j) × (z ≡ drop end line) × (word ≡ word_at line start end)
  told word z j s column st is =
      let behind : drop start line ≡ word ++ z =
      ap (drop start) is ∙ drop_at (take start line) (word ++ z) start front_size in
      let same =
      split 44 word (word_at line start end) z (drop end line) (clean 44 word (jahn_above_comma word j.jahn s))
      (word_clean 44 line start end ends) st (spaces 44 line start end ends) (sym behind ∙ word_cut 44 line start end ends) in (
        record {
          forward = ends.forward;
          within = ends.fits;
          spells = (let P : List ℕ → Type 0 = λ (l : List ℕ). SpellsJahn l j.jahn in subst P same.0 s);
          ends = λ lt. inr (ends.at_separator lt);
          column = column ∙ ap (λ (n : ℕ). n + 1) front_size;
        },
        same.1,
        same.0,
      )

  pub here : (js : List JahnAt) → JahnWords (take start line) line js → Here line start end js
  here [] h = absurd h
  here (j ∷ []) h =
      let t = told h.word [] j h.spells h.column tt h.line_is in record {
        jahn = j;
        others = [];
        is = refl;
        tells = t.0;
        last = λ le. refl;
        more = λ lt. absurd (none_some (t.1 ∙ at_separator 44 line start end ends lt));
      }
  here (j ∷ k ∷ js) h =
      let rest = list_front (take start line ++ (h.0 ++ codes ",")) line (k ∷ js) h.3 in
      let is = rest.1 ∙ past_comma (take start line) h.0 rest.0 in
      let t = told h.0 (44 ∷ rest.0) j h.1 h.2 refl is in
      let size : length h.0 ≡ end - start = ap length t.2 ∙ word_size 44 line start end ends in
      let place : end + 1 ≡ length (take start line ++ (h.0 ++ codes ",")) =
      omega (arith, length-append (take start line) (h.0 ++ codes ","), length-append h.0 (codes ","), front_size, size, ends.forward) in
      let P : List ℕ → Type 0 = λ (l : List ℕ). JahnWords l line (k ∷ js) in record {
        jahn = j;
        others = k ∷ js;
        is = refl;
        tells = t.0;
        last = λ le. absurd (none_some (sym (drop_all end line le) ∙ sym t.1));
        more = λ lt. subst P (sym (take_is (take start line ++ (h.0 ++ codes ",")) rest.0 line (end + 1) rest.1 place)) h.3;
      }

-- ---- the word with a number
pub record Counted (line : List ℕ) (list : Span) (start end n : ℕ) : Type 0 where
  pub fits : start ≤ length line
  pub ends : WordEnds 44 line start end
  pub counted : 1 ≤ n
  pub words : (js : List JahnAt) → TellsList line list js → JahnWords (take start line) line (drop (n - 1) js)

pub Counted-first : (line : List ℕ) (list : Span) (end : ℕ) → (js : List JahnAt) × TellsList line list js →
    WordEnds 44 line list.start end → Counted line list list.start end 1
Counted-first line list end told ends = record { fits = told.1.within; ends = ends; counted = omega arith; words = λ js t. t.words }

module _ (line : List ℕ) (list : Span) (start end n : ℕ) (h : Counted line list start end n) where
  at : (js : List JahnAt) → TellsList line list js → Here line start end (drop (n - 1) js)
  at js t = here line start end h.fits h.ends (drop (n - 1) js) (h.words js t)

  others_are : (js : List JahnAt) (t : TellsList line list js) → (at js t).others ≡ drop n js
  others_are js t =
      let one : n - 1 + 1 ≡ n = (let some = h.counted in omega arith) in
      let P : ℕ → Type 0 = λ (k : ℕ). (at js t).others ≡ drop k js in
      subst P one (ap (λ (l : List JahnAt). drop 1 l) (sym (at js t).is) ∙ drop-drop 1 (n - 1) js)

  pub Counted-next : end < length line → (later : ℕ) → WordEnds 44 line (end + 1) later → Counted line list (end + 1) later (n + 1)
  Counted-next lt later ends = record {
    fits = omega arith;
    ends = ends;
    counted = omega arith;
    words = λ js t. let P : List JahnAt → Type 0 = λ (l : List JahnAt). JahnWords (take (end + 1) line) line l in
        subst P (others_are js t ∙ ap (λ (k : ℕ). drop k js) less) ((at js t).more lt);
  }
    where
      less : n ≡ n + 1 - 1
      less = omega arith

  pub Counted-past : length line ≤ end → (js : List JahnAt) → TellsList line list js → length js ≤ n
  Counted-past le js t =
      let none : drop n js ≡ [] = sym (others_are js t) ∙ (at js t).last le in
      let size : length (drop n js) ≡ length js - n = length-drop n js in
      let empty : length (drop n js) ≡ 0 = ap (λ (l : List JahnAt). length l) none in
      omega arith

  pub Counted-word : (js : List JahnAt) → TellsList line list js → NthWord line js n (span start end)
  Counted-word js t = record {
    jahn = (at js t).jahn;
    counted = h.counted;
    is_nth = (at js t).is ∙ ap (λ (l : List JahnAt). (at js t).jahn ∷ l) (others_are js t);
    tells = (at js t).tells;
  }
