-- The texts of requests as a keyword and words.
--   request_of      a line that spells a request is a comment, or a keyword and the words that it wants
--   spells_some     a keyword and the words that it wants spell a request
use Rattle.std.proofs.Common.{◌≡◌, ℕ, ◌+◌, ◌⊎◌, inl, inr, List, [], ◌∷◌, ◌++◌, length, refl, sym, ap, ◌∙◌, append_assoc}
use Rattle.std.specs.Prelude.{codes}
use Rattle.std.proofs.lemmas.List.{append-nil}
use Rattle.tensor_defs.specs.declared.Weights.{Weights}
use Rattle.tensor_defs.specs.declared.Weights.TheVariants.{Plain, Shear}
use Rattle.text_defs.specs.Prelude.{SpellsGroup, SpellsJahn, GroupAt, JahnAt, weights_text, GroupWord, JahnWord, GroupJahn, GroupGroup, GroupGroupJahn}
use Rattle.text_defs.specs.Prelude.{GroupJahns, GroupGroupJahns, IsComment, SpellsRequest, IsRequestText}
use Rattle.text_defs.specs.Requests as defs
use Rattle.text_defs.specs.declared.Format.{Format}
use Rattle.text_defs.specs.declared.Format.TheVariants.{One}
use Rattle.request_lines.specs.declared.keywords.Keyword.{Keyword}
use Rattle.request_lines.specs.declared.keywords.Keyword.TheVariants.{Form, Group, Voigt, States, Pairs, Differ, Same}
use Rattle.request_lines.specs.Words.{Slot, GroupSlot, JahnSlot, ListSlot, WeightsSlot, weights_word, IsWordOf, IsWords, words_behind}
use Rattle.request_lines.specs.Keywords.{IsRequestOf, IsWorded}
use Rattle.request_lines.proofs.WordLists.{words_list, list_words, behind_first_word, within_most}

-- ---- what is in front of a word
second_front : (front u z : List ℕ) → (front ++ (u ++ codes " ")) ++ z ≡ front ++ (u ++ 32 ∷ z)
second_front front u z = append_assoc front (u ++ codes " ") z ∙ ap (λ (l : List ℕ). front ++ l) (append_assoc u (codes " ") z)

third_front : (front u v z : List ℕ) → ((front ++ (u ++ 32 ∷ v)) ++ codes " ") ++ z ≡ front ++ (u ++ 32 ∷ (v ++ 32 ∷ z))
third_front front u v z =
    append_assoc (front ++ (u ++ 32 ∷ v)) (codes " ") z ∙ append_assoc front (u ++ 32 ∷ v) (32 ∷ z)
    ∙ ap (λ (l : List ℕ). front ++ l) (append_assoc u (32 ∷ v) (32 ∷ z))

pub weights_are : (w : Weights) → weights_text w ≡ 32 ∷ (weights_word w ++ [])
weights_are Plain = refl
weights_are Shear = refl

-- what stands behind the first word, and behind the second
pub behind_first : (front line u b r : List ℕ) → line ≡ front ++ b → b ≡ u ++ 32 ∷ r → line ≡ (front ++ (u ++ codes " ")) ++ r
behind_first front line u b r is cut = is ∙ ap (λ (l : List ℕ). front ++ l) cut ∙ sym (second_front front u r)

pub behind_second : (front line u v b r s : List ℕ) → line ≡ front ++ b → b ≡ u ++ 32 ∷ r → r ≡ v ++ 32 ∷ s →
    line ≡ ((front ++ (u ++ 32 ∷ v)) ++ codes " ") ++ s
behind_second front line u v b r s is first second =
    is ∙ ap (λ (l : List ℕ). front ++ l) (first ∙ ap (λ (l : List ℕ). u ++ 32 ∷ l) second) ∙ sym (third_front front u v s)

-- ---- the records of requests, from their words
module _ (front line u b : List ℕ) (is : line ≡ front ++ b) (g : GroupAt) (spells : SpellsGroup u g.symbol) (column : g.column ≡ length front + 1) where
  pub make_group : b ≡ u ++ [] → GroupWord front [] line g
  make_group e = record { word = u; spells = spells; column = column; line_is = is ∙ ap (λ (l : List ℕ). front ++ l) e }

  module _ (v r : List ℕ) (cut : b ≡ u ++ 32 ∷ r) where
    behind : line ≡ (front ++ (u ++ codes " ")) ++ r
    behind = is ∙ ap (λ (l : List ℕ). front ++ l) cut ∙ sym (second_front front u r)

    pub make_group_jahn : (rest : List ℕ) → r ≡ v ++ rest → (j : JahnAt) → SpellsJahn v j.jahn → j.column ≡ length (front ++ (u ++ codes " ")) + 1 → GroupJahn front rest line g j
    make_group_jahn rest e j spells_jahn jahn_column = record {
      group = u;
      spells_group = spells;
      group_column = column;
      jahn = record {
        word = v;
        spells = spells_jahn;
        column = jahn_column;
        line_is = behind ∙ ap (λ (l : List ℕ). (front ++ (u ++ codes " ")) ++ l) e;
      };
    }

    pub make_group_group : r ≡ v ++ [] → (f : GroupAt) → SpellsGroup v f.symbol → f.column ≡ length (front ++ (u ++ codes " ")) + 1 → GroupGroup front [] line g f
    make_group_group e f spells_second second_column = record {
      first = u;
      spells_first = spells;
      first_column = column;
      second = record {
        word = v;
        spells = spells_second;
        column = second_column;
        line_is = behind ∙ ap (λ (l : List ℕ). (front ++ (u ++ codes " ")) ++ l) e;
      };
    }

pub make_three : (front line u v w b r s : List ℕ) (g f : GroupAt) (j : JahnAt) → line ≡ front ++ b → b ≡ u ++ 32 ∷ r → r ≡ v ++ 32 ∷ s → s ≡ w ++ [] →
    SpellsGroup u g.symbol → g.column ≡ length front + 1 → SpellsGroup v f.symbol → f.column ≡ length (front ++ (u ++ codes " ")) + 1 →
    SpellsJahn w j.jahn → j.column ≡ length ((front ++ (u ++ 32 ∷ v)) ++ codes " ") + 1 → GroupGroupJahn front line g f j
make_three front line u v w b r s g f j is first second third spells_g column_g spells_f column_f spells_j column_j = record {
  words = front ++ (u ++ 32 ∷ v);
  groups = make_group_group front (front ++ (u ++ 32 ∷ v)) u (u ++ 32 ∷ v) refl g spells_g column_g v v refl (sym (append-nil v)) f spells_f column_f;
  jahn = record {
    word = w;
    spells = spells_j;
    column = column_j;
    line_is = is ∙ ap (λ (l : List ℕ). front ++ l) (first ∙ ap (λ (l : List ℕ). u ++ 32 ∷ l) (second ∙ ap (λ (l : List ℕ). v ++ 32 ∷ l) third))
        ∙ sym (third_front front u v (w ++ []));
  };
}

-- ---- words from the records of requests
last_word : (s : Slot) (w : List ℕ) → IsWordOf s w → IsWords s [] (w ++ [])
last_word s w a = record { word = w; ending = []; is_word = a; is_ending = refl; text = refl }

more_words : (s n : Slot) (slots : List Slot) (w r : List ℕ) → IsWordOf s w → IsWords n slots r → IsWords s (n ∷ slots) (w ++ 32 ∷ r)
more_words s n slots w r a words = record { word = w; ending = 32 ∷ r; is_word = a; is_ending = (r, refl, words); text = refl }

from_group_jahn : (front rest line : List ℕ) (g : GroupAt) (j : JahnAt) (h : GroupJahn front rest line g j) → line ≡ front ++ (h.group ++ 32 ∷ (h.jahn.word ++ rest))
from_group_jahn front rest line g j h = h.jahn.line_is ∙ second_front front h.group (h.jahn.word ++ rest)

from_group_group : (front line : List ℕ) (g f : GroupAt) (h : GroupGroup front [] line g f) → line ≡ front ++ (h.first ++ 32 ∷ (h.second.word ++ []))
from_group_group front line g f h = h.second.line_is ∙ second_front front h.first (h.second.word ++ [])

from_three : (front line : List ℕ) (g f : GroupAt) (j : JahnAt) (h : GroupGroupJahn front line g f j) → line ≡ front ++ (h.groups.first ++ 32 ∷ (h.groups.second.word ++ 32 ∷ (h.jahn.word ++ [])))
from_three front line g f j h =
    let u : List ℕ = h.groups.first in
    let v : List ℕ = h.groups.second.word in
    let z : List ℕ = h.jahn.word ++ [] in
    h.jahn.line_is
    ∙ ap (λ (l : List ℕ). (l ++ codes " ") ++ z) (from_group_group front h.words g f h.groups ∙ ap (λ (l : List ℕ). front ++ (u ++ 32 ∷ l)) (append-nil v))
    ∙ third_front front u v z

three_words : (front line : List ℕ) (g f : GroupAt) (j : JahnAt) (h : GroupGroupJahn front line g f j) →
    IsWords GroupSlot (GroupSlot ∷ ListSlot One ∷ []) (h.groups.first ++ 32 ∷ (h.groups.second.word ++ 32 ∷ (h.jahn.word ++ [])))
three_words front line g f j h =
    more_words GroupSlot GroupSlot (ListSlot One ∷ []) h.groups.first (h.groups.second.word ++ 32 ∷ (h.jahn.word ++ [])) (g.symbol, h.groups.spells_first)
    (more_words GroupSlot (ListSlot One) [] h.groups.second.word (h.jahn.word ++ []) (f.symbol, h.groups.second.spells)
    (last_word (ListSlot One) h.jahn.word (j.jahn, h.jahn.spells)))

from_list : (format : Format) (front line : List ℕ) (g : GroupAt) (js : List JahnAt) → GroupJahns format front line g js →
    (rest : List ℕ) × (line ≡ front ++ rest) × IsWords GroupSlot (ListSlot format ∷ []) rest
from_list format front line g js h =
    let list =
    words_list (words_behind format) (front ++ (h.group ++ codes " ")) line js h.jahns.1 (behind_first_word format js h.jahns.0) in
    let z : List ℕ = list.0 ++ [] in (
      h.group ++ 32 ∷ z,
      list.1 ∙ ap (λ (l : List ℕ). (front ++ (h.group ++ codes " ")) ++ l) (sym (append-nil list.0)) ∙ second_front front h.group z,
      more_words GroupSlot (ListSlot format) [] h.group z (g.symbol, h.spells_group) (last_word (ListSlot format) list.0 list.2),
    )

from_two_list : (format : Format) (front line : List ℕ) (g f : GroupAt) (js : List JahnAt) →
    GroupGroupJahns format front line g f js →
    (rest : List ℕ) × (line ≡ front ++ rest) × IsWords GroupSlot (GroupSlot ∷ ListSlot format ∷ []) rest
from_two_list format front line g f js h =
    let list = words_list (words_behind format) (h.words ++ codes " ") line js h.jahns.1 (behind_first_word format js h.jahns.0) in
    let z : List ℕ = list.0 ++ [] in
    let u : List ℕ = h.groups.first in
    let v : List ℕ = h.groups.second.word in (
      u ++ 32 ∷ (v ++ 32 ∷ z),
      list.1 ∙ ap (λ (l : List ℕ). (h.words ++ codes " ") ++ l) (sym (append-nil list.0))
          ∙ ap (λ (l : List ℕ). (l ++ codes " ") ++ z) (from_group_group front h.words g f h.groups ∙ ap (λ (l : List ℕ). front ++ (u ++ 32 ∷ l)) (append-nil v))
          ∙ third_front front u v z,
      more_words GroupSlot GroupSlot (ListSlot format ∷ []) u (v ++ 32 ∷ z) (g.symbol, h.groups.spells_first)
          (more_words GroupSlot (ListSlot format) [] v z (f.symbol, h.groups.second.spells) (last_word (ListSlot format) list.0 list.2)),
    )

pub request_of : (format : Format) (line : List ℕ) (q : defs.Request) → SpellsRequest format line q →
    IsComment format line ⊎ IsWorded format line
request_of format line defs.Comment h = inl h
request_of format line (defs.Form g js) h =
    let r = from_list format (codes "form ") line g js h in inr (Form, record { rest = r.0; text = r.1; words = r.2 })
request_of format line (defs.Group g) h = inr (Group, record { rest = h.word ++ []; text = h.line_is; words = last_word GroupSlot h.word (g.symbol, h.spells) })
request_of format line (defs.Voigt g j w) h = inr (
  Voigt,
  record {
    rest = h.group ++ 32 ∷ (h.jahn.word ++ 32 ∷ (weights_word w ++ []));
    text = from_group_jahn (codes "voigt ") (weights_text w) line g j h ∙ ap (λ (l : List ℕ). codes "voigt " ++ (h.group ++ 32 ∷ (h.jahn.word ++ l))) (weights_are w);
    words =
        more_words GroupSlot JahnSlot (WeightsSlot ∷ []) h.group (h.jahn.word ++ 32 ∷ (weights_word w ++ [])) (g.symbol, h.spells_group)
        (more_words JahnSlot WeightsSlot [] h.jahn.word (weights_word w ++ []) (j.jahn, h.jahn.spells) (last_word WeightsSlot (weights_word w) (w, refl)));
  },
)
request_of format line (defs.States g f) h = inr (
  States,
  record {
    rest = h.first ++ 32 ∷ (h.second.word ++ []);
    text = from_group_group (codes "states ") line g f h;
    words = more_words GroupSlot GroupSlot [] h.first (h.second.word ++ []) (g.symbol, h.spells_first) (last_word GroupSlot h.second.word (f.symbol, h.second.spells));
  },
)
request_of format line (defs.Pairs g f) h = inr (
  Pairs,
  record {
    rest = h.first ++ 32 ∷ (h.second.word ++ []);
    text = from_group_group (codes "pairs ") line g f h;
    words = more_words GroupSlot GroupSlot [] h.first (h.second.word ++ []) (g.symbol, h.spells_first) (last_word GroupSlot h.second.word (f.symbol, h.second.spells));
  },
)
request_of format line (defs.Differ g f js) h =
    let r = from_two_list format (codes "differ ") line g f js h in inr (Differ, record { rest = r.0; text = r.1; words = r.2 })
request_of format line (defs.Same g f j) h = inr (
  Same,
  record {
    rest = h.groups.first ++ 32 ∷ (h.groups.second.word ++ 32 ∷ (h.jahn.word ++ []));
    text = from_three (codes "same ") line g f j h;
    words = three_words (codes "same ") line g f j h;
  },
)

-- ---- requests from their words
abbrev group_at : List ℕ → (u : List ℕ) → IsWordOf GroupSlot u → GroupAt
group_at front u a = record { symbol = a.0; column = length front + 1 }

abbrev jahn_at : List ℕ → (u : List ℕ) → IsWordOf JahnSlot u → JahnAt
jahn_at front u a = record { jahn = a.0; column = length front + 1 }

some_two : (front line b : List ℕ) → line ≡ front ++ b → IsWords GroupSlot (GroupSlot ∷ []) b → (g : GroupAt) × (f : GroupAt) × GroupGroup front [] line g f
some_two front line b is words =
    let second = words.is_ending.2 in
    let g = group_at front words.word words.is_word in
    let f = group_at (front ++ (words.word ++ codes " ")) second.word second.is_word in (
      g,
      f,
      make_group_group front line words.word b is g words.is_word.1 refl second.word words.is_ending.0
          (words.text ∙ ap (λ (l : List ℕ). words.word ++ l) words.is_ending.1) (second.text ∙ ap (λ (l : List ℕ). second.word ++ l) second.is_ending) f second.is_word.1 refl,
    )

some_three : (front line b : List ℕ) → line ≡ front ++ b → IsWords GroupSlot (GroupSlot ∷ ListSlot One ∷ []) b → (g : GroupAt) × (f : GroupAt) × (j : JahnAt) × GroupGroupJahn front line g f j
some_three front line b is words =
    let second = words.is_ending.2 in
    let third = second.is_ending.2 in
    let g = group_at front words.word words.is_word in
    let f = group_at (front ++ (words.word ++ codes " ")) second.word second.is_word in
    let j = jahn_at ((front ++ (words.word ++ 32 ∷ second.word)) ++ codes " ") third.word third.is_word in (
      g,
      f,
      j,
      make_three front line words.word second.word third.word b words.is_ending.0 second.is_ending.0 g f j is
          (words.text ∙ ap (λ (l : List ℕ). words.word ++ l) words.is_ending.1) (second.text ∙ ap (λ (l : List ℕ). second.word ++ l) second.is_ending.1)
          (third.text ∙ ap (λ (l : List ℕ). third.word ++ l) third.is_ending) words.is_word.1 refl second.is_word.1 refl third.is_word.1 refl,
    )

-- a group and a list, and two groups and a list
some_list : (format : Format) (front line b : List ℕ) → line ≡ front ++ b → IsWords GroupSlot (ListSlot format ∷ []) b →
    (g : GroupAt) × (js : List JahnAt) × GroupJahns format front line g js
some_list format front line b is words =
    let second = words.is_ending.2 in
    let u : List ℕ = words.word in
    let g = group_at front u words.is_word in
    let behind = behind_first front line u b words.is_ending.0 is (words.text ∙ ap (λ (l : List ℕ). u ++ l) words.is_ending.1) in
    let list =
    list_words (words_behind format) (front ++ (u ++ codes " ")) second.word line second.is_word
    (behind ∙ ap (λ (l : List ℕ). (front ++ (u ++ codes " ")) ++ l) (second.text ∙ ap (λ (l : List ℕ). second.word ++ l) second.is_ending ∙ append-nil second.word)) in (
      g,
      list.0,
      record {
        group = u;
        spells_group = words.is_word.1;
        group_column = refl;
        jahns = (within_most format list.0 list.1, list.2);
      },
    )

some_two_list : (format : Format) (front line b : List ℕ) → line ≡ front ++ b →
    IsWords GroupSlot (GroupSlot ∷ ListSlot format ∷ []) b →
    (g : GroupAt) × (f : GroupAt) × (js : List JahnAt) × GroupGroupJahns format front line g f js
some_two_list format front line b is words =
    let second = words.is_ending.2 in
    let third = second.is_ending.2 in
    let u : List ℕ = words.word in
    let v : List ℕ = second.word in
    let g = group_at front u words.is_word in
    let f = group_at (front ++ (u ++ codes " ")) v second.is_word in
    let behind =
    behind_second front line u v b words.is_ending.0 second.is_ending.0 is (words.text ∙ ap (λ (l : List ℕ). u ++ l) words.is_ending.1)
    (second.text ∙ ap (λ (l : List ℕ). v ++ l) second.is_ending.1) in
    let list =
    list_words (words_behind format) ((front ++ (u ++ 32 ∷ v)) ++ codes " ") third.word line third.is_word
    (behind ∙ ap (λ (l : List ℕ). ((front ++ (u ++ 32 ∷ v)) ++ codes " ") ++ l) (third.text ∙ ap (λ (l : List ℕ). third.word ++ l) third.is_ending ∙ append-nil third.word)) in (
      g,
      f,
      list.0,
      record {
        words = front ++ (u ++ 32 ∷ v);
        groups =
            make_group_group front (front ++ (u ++ 32 ∷ v)) u (u ++ 32 ∷ v) refl g words.is_word.1 refl v v refl (sym (append-nil v)) f
            second.is_word.1 refl;
        jahns = (within_most format list.0 list.1, list.2);
      },
    )

pub spells_some : (format : Format) (line : List ℕ) (k : Keyword) → IsRequestOf format k line → IsRequestText format line
spells_some format line Form h = let p = some_list format (codes "form ") line h.rest h.text h.words in (defs.Form p.0 p.1, p.2)
spells_some format line Group h =
    let g = group_at (codes "group ") h.words.word h.words.is_word in (
      defs.Group g,
      make_group (codes "group ") line h.words.word h.rest h.text g h.words.is_word.1 refl
          (h.words.text ∙ ap (λ (l : List ℕ). h.words.word ++ l) h.words.is_ending),
    )
spells_some format line Voigt h =
    let second = h.words.is_ending.2 in
    let third = second.is_ending.2 in
    let w : Weights = third.is_word.0 in
    let g = group_at (codes "voigt ") h.words.word h.words.is_word in
    let j = jahn_at (codes "voigt " ++ (h.words.word ++ codes " ")) second.word second.is_word in (
      defs.Voigt g j w,
      make_group_jahn (codes "voigt ") line h.words.word h.rest h.text g h.words.is_word.1 refl second.word h.words.is_ending.0
          (h.words.text ∙ ap (λ (l : List ℕ). h.words.word ++ l) h.words.is_ending.1) (weights_text w)
          (second.text ∙ ap (λ (l : List ℕ). second.word ++ l) (second.is_ending.1 ∙ ap (λ (l : List ℕ). 32 ∷ l)
          (third.text ∙ ap (λ (l : List ℕ). third.word ++ l) third.is_ending ∙ ap (λ (l : List ℕ). l ++ []) third.is_word.1) ∙ sym (weights_are w))) j second.is_word.1 refl,
    )
spells_some format line States h = let p = some_two (codes "states ") line h.rest h.text h.words in (defs.States p.0 p.1, p.2)
spells_some format line Pairs h = let p = some_two (codes "pairs ") line h.rest h.text h.words in (defs.Pairs p.0 p.1, p.2)
spells_some format line Differ h = let p = some_two_list format (codes "differ ") line h.rest h.text h.words in (defs.Differ p.0 p.1 p.2, p.3)
spells_some format line Same h = let p = some_three (codes "same ") line h.rest h.text h.words in (defs.Same p.0 p.1 p.2, p.3)
