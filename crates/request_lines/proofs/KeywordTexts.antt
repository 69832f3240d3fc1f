-- The keywords of lines.
--   Tried           none of the first keywords begins the line, and the furthest place that they reach
--   behind_keyword  behind its keyword, the line goes on as the words that the keyword wants
use Rattle.std.proofs.Common.{◌≡◌, ◌≢◌, ℕ, ◌+◌, ◌<◌, ◌≤◌, cond, eqb, List, ◌∷◌, ◌++◌, length, get_or, take, drop, max}
use Rattle.std.proofs.Common.{refl, sym, ap, subst, ◌∙◌, arith, inl, inr, append_assoc}
use Rattle.std.specs.Prelude.{codes}
use Rattle.std.proofs.lemmas.Bool.{cases_lt}
use Rattle.std.proofs.lemmas.List.{take-append-drop, length-append, length-take, get_or-take, get_or_append_left}
use Rattle.text_defs.specs.Languages.{IsFaulty}
use Rattle.text_defs.specs.declared.Format.{Format}
use Rattle.text_laws.proofs.Words.{Visible, visible_tested}
use Rattle.fault_places.proofs.Places.{Through, Through-start, Through-skip, Through-near, Through-faulty}
use Rattle.fault_places.proofs.Furthest.{Furthest, Furthest-stay, Furthest-go, Furthest-all, Furthest-start}
use Rattle.request_lines.specs.declared.keywords.Keyword.{Keyword}
use Rattle.request_lines.specs.declared.keywords.Keyword.TheVariants.{Form, Group, Voigt, States, Pairs, Differ, Same}
use Rattle.request_lines.specs.Words.{GroupSlot, IsWords}
use Rattle.request_lines.specs.Keywords.{keyword_text, keyword_at, slots_of, IsRequestOf, IsWorded, BeginsWith}
use Rattle.request_lines.specs.Parts.{IsWrongFrom}
use Rattle.request_lines.proofs.WordTexts.{clean, split}
use Rattle.request_lines.proofs.Slots.{some_words}

module _ (format : Format) where
  -- ---- the furthest place of the keywords
  abbrev pub Tried : List ℕ → ℕ → ℕ → Type 0
  Tried line count place = Furthest (IsWorded format) (λ k z. IsRequestOf format (keyword_at k) z) count line place

  some_request : (k : Keyword) → (z : List ℕ) × IsRequestOf format k z
  some_request k =
      let w = some_words GroupSlot (slots_of format k) in
      (keyword_text k ++ w.0, record { rest = w.0; text = refl; words = w.1 })

  pub nothing_tried : (line : List ℕ) → Tried line 0 0
  nothing_tried line =
      let r = some_request Form in
      Furthest-start (IsWorded format) (λ k z. IsRequestOf format (keyword_at k) z) line (r.0, (Form, r.1))

  place_of : Keyword → ℕ
  place_of Form = 0
  place_of Group = 1
  place_of Voigt = 2
  place_of States = 3
  place_of Pairs = 4
  place_of Differ = 5
  place_of Same = 6

  listed : (k : Keyword) → (place_of k < 7) × (keyword_at (place_of k) ≡ k)
  unfolding place_of keyword_at
  listed Form = (omega arith, refl)
  listed Group = (omega arith, refl)
  listed Voigt = (omega arith, refl)
  listed States = (omega arith, refl)
  listed Pairs = (omega arith, refl)
  listed Differ = (omega arith, refl)
  listed Same = (omega arith, refl)

  pub all_tried : (line : List ℕ) (place : ℕ) → Tried line 7 place → IsFaulty (IsWorded format) line place
  all_tried line place h = Furthest-all (IsWorded format) (λ k z. IsRequestOf format (keyword_at k) z) 7 line place h (λ z s. covered z s)
    where
      covered : (z : List ℕ) → (k : Keyword) × IsRequestOf format k z → (n : ℕ) × (n < 7) × IsRequestOf format (keyword_at n) z
      covered z r =
          let l = listed r.0 in
          (place_of r.0, l.0, let P : Keyword → Type 0 = λ (k : Keyword). IsRequestOf format k z in subst P (sym l.1) r.1)

  -- the line parts from the keyword behind its first n bytes
  module _ (k : Keyword) (line : List ℕ) (n : ℕ) (part : n < length (keyword_text k)) (in_line : n ≤ length line)
      (same : take n (keyword_text k) ≡ take n line) (differ : n < length line → get_or (keyword_text k) n 0 ≢ get_or line n 0) where
    inside : (r : List ℕ) → get_or (keyword_text k ++ r) n 0 ≡ get_or (keyword_text k) n 0
    inside r = get_or_append_left (keyword_text k) r 0 n part

    at_front : (m : ℕ) (z : List ℕ) → m ≤ length line → n < m → get_or (take m line ++ z) n 0 ≡ get_or line n 0
    at_front m z fits more = get_or_append_left (take m line) z 0 n (omega (arith, length-take m line)) ∙ get_or-take m line n 0 more

    pub keyword_wrong : IsFaulty (IsRequestOf format k) line n
    keyword_wrong = record {
      none = λ r. elim (cases_lt n (length line)) [
        | inl lt ↦ differ lt (sym (inside r.rest) ∙ sym (ap (λ (l : List ℕ). get_or l n 0) r.text))
        | inr le ↦ absurd (omega (arith, ap length r.text, length-append (keyword_text k) r.rest))
      ];
      place_is = record {
        within = in_line;
        begins =
            let r = some_request k in (
              drop n (keyword_text k) ++ r.1.rest,
              record {
                rest = r.1.rest;
                text = sym (append_assoc (take n line) (drop n (keyword_text k)) r.1.rest)
                    ∙ ap (λ (l : List ℕ). l ++ r.1.rest) (ap (λ (l : List ℕ). l ++ drop n (keyword_text k)) (sym same) ∙ take-append-drop n (keyword_text k));
                words = r.1.words;
              },
            );
        longest = λ m fits more b.
            differ (omega arith) (sym (inside b.1.rest) ∙ sym (ap (λ (l : List ℕ). get_or l n 0) b.1.text) ∙ at_front m b.0 fits more);
      };
    }

  pub tried_next : (line : List ℕ) (place count n : ℕ) → Tried line count place → n < length (keyword_text (keyword_at count)) → n ≤ length line →
      take n (keyword_text (keyword_at count)) ≡ take n line → (n < length line → get_or (keyword_text (keyword_at count)) n 0 ≢ get_or line n 0) →
      Tried line (count + 1) (max place n)
  tried_next line place count n h part in_line same differ =
      elim (cases_lt place n) [
        | inl less ↦
            let is : max place n ≡ n = omega arith in
            rw is (Furthest-go (IsWorded format) (λ k z. IsRequestOf format (keyword_at k) z) count line place h n
            (λ z r. (keyword_at count, r)) wrong (omega arith))
        | inr more ↦
            let is : max place n ≡ place = omega arith in
            rw is (Furthest-stay (IsWorded format) (λ k z. IsRequestOf format (keyword_at k) z) count line place h n wrong more)
      ]
    where
      wrong : IsFaulty (IsRequestOf format (keyword_at count)) line n
      wrong = keyword_wrong (keyword_at count) line n part in_line same differ

  -- ---- behind the keyword
  word_of : Keyword → List ℕ
  word_of Form = codes "form"
  word_of Group = codes "group"
  word_of Voigt = codes "voigt"
  word_of States = codes "states"
  word_of Pairs = codes "pairs"
  word_of Differ = codes "differ"
  word_of Same = codes "same"

  -- a keyword by its word's first and third byte
  keyword_of : List ℕ → Keyword
  keyword_of u =
      cond (eqb (get_or u 0 0) 102) Form (cond (eqb (get_or u 0 0) 103) Group (cond (eqb (get_or u 0 0) 118) Voigt
      (cond (eqb (get_or u 0 0) 112) Pairs (cond (eqb (get_or u 0 0) 100) Differ (cond (eqb (get_or u 2 0) 97) States Same)))))

  word_facts : (k : Keyword) → Visible (word_of k) × (keyword_of (word_of k) ≡ k) × (keyword_text k ≡ word_of k ++ codes " ")
  unfolding word_of keyword_of
  word_facts Form = (visible_tested (codes "form") refl, refl, refl)
  word_facts Group = (visible_tested (codes "group") refl, refl, refl)
  word_facts Voigt = (visible_tested (codes "voigt") refl, refl, refl)
  word_facts States = (visible_tested (codes "states") refl, refl, refl)
  word_facts Pairs = (visible_tested (codes "pairs") refl, refl, refl)
  word_facts Differ = (visible_tested (codes "differ") refl, refl, refl)
  word_facts Same = (visible_tested (codes "same") refl, refl, refl)

  -- a text begins with one keyword at most
  same_keyword : (k l : Keyword) (x y : List ℕ) → keyword_text k ++ x ≡ keyword_text l ++ y → (l ≡ k) × (y ≡ x)
  same_keyword k l x y e =
      let a = word_facts k in
      let b = word_facts l in
      let words : word_of k ++ 32 ∷ x ≡ word_of l ++ 32 ∷ y =
      sym (ap (λ (u : List ℕ). u ++ x) a.2 ∙ append_assoc (word_of k) (codes " ") x) ∙ e
      ∙ (ap (λ (u : List ℕ). u ++ y) b.2 ∙ append_assoc (word_of l) (codes " ") y) in
      let same = split 32 (word_of k) (word_of l) (32 ∷ x) (32 ∷ y) (clean 32 (word_of k) a.0) (clean 32 (word_of l) b.0) refl refl words in
      (sym b.1 ∙ ap keyword_of (sym same.0) ∙ a.1, tail y x (sym same.1))
    where
      tail : (v w : List ℕ) → ◌≡◌ {A = List ℕ} (32 ∷ v) (32 ∷ w) → v ≡ w
      tail v w e = cc

  into : (k : Keyword) (z : List ℕ) → (IsWorded format) (keyword_text k ++ z) → IsWords GroupSlot (slots_of format k) z
  into k z r = from_one r
    where
      from_one : (l : Keyword) × IsRequestOf format l (keyword_text k ++ z) → IsWords GroupSlot (slots_of format k) z
      from_one s =
          let same = same_keyword k s.0 z s.1.rest s.1.text in
          let words : IsWords GroupSlot (slots_of format k) s.1.rest = let P : Keyword →
          Type 0 = λ (l : Keyword). IsWords GroupSlot (slots_of format l) s.1.rest in subst P same.0 s.1.words in
          subst (IsWords GroupSlot (slots_of format k)) same.1 words

  out_of : (k : Keyword) (z : List ℕ) → IsWords GroupSlot (slots_of format k) z → (IsWorded format) (keyword_text k ++ z)
  out_of k z w = (k, record { rest = z; text = refl; words = w })

  through : (k : Keyword) (line : List ℕ) (start : ℕ) → BeginsWith k line start → Through (IsWorded format) (IsWords GroupSlot (slots_of format k)) line start
  through k line start h =
      subst (Through (IsWorded format) (IsWords GroupSlot (slots_of format k)) line) place
      (Through-near (IsWorded format) (λ z. (IsWorded format) (keyword_text k ++ z)) (IsWords GroupSlot (slots_of format k)) line (0 + length (keyword_text k))
      (Through-skip (IsWorded format) (keyword_text k) (IsWorded format) line 0
      (Through-start (IsWorded format) (IsWorded format) line (λ z r. r) (λ z r. r)) (drop start line) h.text)
      (out_of k) (λ c cs z e r. into k (c ∷ z) r) (into k (drop (0 + length (keyword_text k)) line)))
    where
      place : 0 + length (keyword_text k) ≡ start
      place = let e = h.start_is in omega arith

  pub request_wrong : (k : Keyword) (line : List ℕ) (start place : ℕ) → BeginsWith k line start →
      IsWrongFrom line start GroupSlot (slots_of format k) place → IsFaulty (IsWorded format) line place
  request_wrong k line start place h f =
      subst (IsFaulty (IsWorded format) line) (sym f.place_is)
      (Through-faulty (IsWorded format) (IsWords GroupSlot (slots_of format k)) line start f.at (through k line start h) f.faulty)

  pub tried_text : (line text : List ℕ) (place count n : ℕ) → Tried line count place →
      text ≡ keyword_text (keyword_at count) → n ≤ length text → n ≢ length text → n ≤ length line →
      take n text ≡ take n line → (n < length text → n < length line → get_or text n 0 ≢ get_or line n 0) → Tried line (count + 1) (max place n)
  tried_text line text place count n h is in_text part in_line same differ =
      tried_next line place count n h (let P : List ℕ → Type 0 = λ (t : List ℕ). n < length t in subst P is less) in_line
      (sym (ap (λ (t : List ℕ). take n t) is) ∙ same)
      (λ lt. let P : List ℕ → Type 0 = λ (t : List ℕ). get_or t n 0 ≢ get_or line n 0 in subst P is (differ less lt))
    where
      less : n < length text
      less = omega arith

  -- the same where the keyword is known by a test
  pub body_wrong : (k l : Keyword) → k ≡ l → (line : List ℕ) (start place : ℕ) → BeginsWith k line start →
      IsWrongFrom line start GroupSlot (slots_of format l) place → IsFaulty (IsWorded format) line place
  body_wrong k l is line start place h f =
      request_wrong l line start place (let P : Keyword → Type 0 = λ (m : Keyword). BeginsWith m line start in subst P is h) f
