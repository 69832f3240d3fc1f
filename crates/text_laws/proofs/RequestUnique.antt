-- No line of a format spells two requests.
--   ListWords       the text of Jahn words with commas, and where its words stand
--   IsWords         the words of a request's line, from the keyword on
--   words_of        the words of a line that spells a request
--   one_request_spelled    no line of a format spells two requests
use Rattle.std.proofs.Common.{◌≡◌, ◌⊎◌, ℕ, ◌+◌, ◌≤◌, cond, eqb, List, [], ◌∷◌, ◌++◌, get_or, length, refl, sym, ap, subst, ◌∙◌}
use Rattle.std.proofs.Common.{append_assoc, arith, inl, inr, lit<, lit≤}
use Rattle.std.proofs.lemmas.List.{length-append, append-nil}
use Rattle.std.specs.Prelude.{codes}
use Rattle.tensor_defs.specs.declared.Weights.{Weights}
use Rattle.tensor_defs.specs.declared.Weights.TheVariants.{Plain, Shear}
use Rattle.tensor_defs.specs.Lists.{Each}
use Rattle.text_defs.specs.Prelude.{SpellsGroup, SpellsJahn, spaced, GroupAt, JahnAt, Request, SpellsRequest, weights_text, JahnWords, GroupJahn, GroupJahns}
use Rattle.text_defs.specs.Prelude.{GroupGroup, GroupGroupJahn, GroupGroupJahns, Form, Group, Voigt, States, Pairs, Differ, Same, Comment}
use Rattle.text_defs.specs.declared.Format.{Format}
use Rattle.text_defs.specs.declared.Format.TheVariants.{One, Two}
use Rattle.text_laws.proofs.GroupUnique.{one_symbol}
use Rattle.text_laws.proofs.JahnUnique.{one_jahn}
use Rattle.text_laws.proofs.Words.{Visible, visible_tested, visible_append, group_visible}
use Rattle.text_laws.proofs.Words.{jahn_visible, jahn_above_comma, first_split, no_later, same_words}
use Rattle.text_laws.specs.Laws.{OneRequest}

-- ---- the words of a line
abbrev weights_word : Weights → List ℕ
weights_word Plain = codes "c"
weights_word Shear = codes "s"

-- a text of Jahn words with one comma between two, the first word behind n bytes
ListWords : ℕ → List ℕ → List JahnAt → Type 0
ListWords n text [] = ⊥
ListWords n text (j ∷ []) = SpellsJahn text j.jahn × (j.column ≡ n + 1)
ListWords n text (j ∷ k ∷ js) =
    (word : List ℕ) × (rest : List ℕ) × SpellsJahn word j.jahn × (j.column ≡ n + 1) × (text ≡ word ++ 44 ∷ rest)
    × ListWords (n + length word + 1) rest (k ∷ js)

-- the words after the keyword: a group and a list, two groups, two groups and a list
record GroupListWords (front : List ℕ) (g : GroupAt) (js : List JahnAt) (u v : List ℕ) : Type 0 where
  group : SpellsGroup u g.symbol
  group_column : g.column ≡ length front + 1
  list : ListWords (length (front ++ (u ++ codes " "))) v js

record GroupGroupWords (front : List ℕ) (g f : GroupAt) (u v : List ℕ) : Type 0 where
  first : SpellsGroup u g.symbol
  first_column : g.column ≡ length front + 1
  second : SpellsGroup v f.symbol
  second_column : f.column ≡ length (front ++ (u ++ codes " ")) + 1

record GroupGroupListWords (front : List ℕ) (g f : GroupAt) (js : List JahnAt) (u v w : List ℕ) : Type 0 where
  groups : GroupGroupWords front g f u v
  list : ListWords (length (front ++ (u ++ 32 ∷ (v ++ codes " ")))) w js

abbrev IsWords : Request → List (List ℕ) → Type 0
IsWords (Form g js) ws =
    (u : List ℕ) × (v : List ℕ) × (ws ≡ codes "form" ∷ u ∷ v ∷ []) × GroupListWords (codes "form ") g js u v
IsWords (Group g) ws =
    (u : List ℕ) × (ws ≡ codes "group" ∷ u ∷ []) × SpellsGroup u g.symbol × (g.column ≡ 7)
IsWords (Voigt g j w) ws =
    (u : List ℕ) × (v : List ℕ) × (ws ≡ codes "voigt" ∷ u ∷ v ∷ weights_word w ∷ [])
    × GroupListWords (codes "voigt ") g (j ∷ []) u v
IsWords (States g f) ws =
    (u : List ℕ) × (v : List ℕ) × (ws ≡ codes "states" ∷ u ∷ v ∷ []) × GroupGroupWords (codes "states ") g f u v
IsWords (Pairs g f) ws =
    (u : List ℕ) × (v : List ℕ) × (ws ≡ codes "pairs" ∷ u ∷ v ∷ []) × GroupGroupWords (codes "pairs ") g f u v
IsWords (Differ g f js) ws =
    (u : List ℕ) × (v : List ℕ) × (w : List ℕ) × (ws ≡ codes "differ" ∷ u ∷ v ∷ w ∷ [])
    × GroupGroupListWords (codes "differ ") g f js u v w
IsWords (Same g h j) ws =
    (u : List ℕ) × (v : List ℕ) × (w : List ℕ) × (ws ≡ codes "same" ∷ u ∷ v ∷ w ∷ [])
    × GroupGroupListWords (codes "same ") g h (j ∷ []) u v w
IsWords Comment ws = ⊥

record LineWords (line : List ℕ) (q : Request) : Type 0 where
  keyword : List ℕ
  others : List (List ℕ)
  keyword_visible : Visible keyword
  visible : Each Visible others
  line_is : line ≡ spaced (keyword ∷ others)
  are_words : IsWords q (keyword ∷ others)

-- ---- lists of Jahn words
list_visible : (n : ℕ) (text : List ℕ) (js : List JahnAt) → ListWords n text js → Visible text
unfolding ListWords
list_visible n text [] h = absurd h
list_visible n text (j ∷ []) h = jahn_visible text j.jahn h.0
list_visible n text (j ∷ k ∷ js) h =
    subst Visible (sym h.4) (visible_append h.0 (44 ∷ h.1) (jahn_visible h.0 j.jahn h.2)
    (lit< tt, list_visible (n + length h.0 + 1) h.1 (k ∷ js) h.5))

-- front and the text of a list make the line
list_of : (front line : List ℕ) (js : List JahnAt) → JahnWords front line js →
    (text : List ℕ) × (line ≡ front ++ text) × ListWords (length front) text js
unfolding ListWords
list_of front line [] h = absurd h
list_of front line (j ∷ []) h =
    (h.word, h.line_is ∙ ap (λ z. front ++ z) (append-nil h.word), (h.spells, h.column))
list_of front line (j ∷ k ∷ js) h =
    let rest = list_of (front ++ (h.0 ++ codes ",")) line (k ∷ js) h.3 in
    let start : length (front ++ (h.0 ++ codes ",")) ≡ length front + length h.0 + 1 =
    omega (arith, length-append front (h.0 ++ codes ","), length-append h.0 (codes ",")) in (
      h.0 ++ 44 ∷ rest.0,
      rest.1 ∙ append_assoc front (h.0 ++ codes ",") rest.0 ∙ ap (λ z. front ++ z) (append_assoc h.0 (codes ",") rest.0),
      (h.0, rest.0, h.1, h.2, refl, subst (λ n. ListWords n rest.0 (k ∷ js)) start rest.2),
    )

one_list : (n : ℕ) (text : List ℕ) (js ks : List JahnAt) → ListWords n text js → ListWords n text ks → js ≡ ks
unfolding ListWords
one_list n text [] ks h k = absurd h
one_list n text (j ∷ js) [] h k = absurd k
one_list n text (j ∷ []) (i ∷ []) h k =
    let symbols : j.jahn ≡ i.jahn = one_jahn text j.jahn i.jahn h.0 k.0 in
    let columns : j.column ≡ i.column = h.1 ∙ sym k.1 in
    λ x. record { jahn = symbols x; column = columns x } ∷ []
one_list n text (j ∷ []) (i ∷ l ∷ ks) h k =
    absurd (no_later 44 text k.0 k.1 (jahn_above_comma text j.jahn h.0) k.4)
one_list n text (j ∷ l ∷ js) (i ∷ []) h k =
    absurd (no_later 44 text h.0 h.1 (jahn_above_comma text i.jahn k.0) h.4)
one_list n text (j ∷ l ∷ js) (i ∷ m ∷ ks) h k =
    let parts =
    first_split 44 h.0 k.0 h.1 k.1 (jahn_above_comma h.0 j.jahn h.2) (jahn_above_comma k.0 i.jahn k.2) (sym h.4 ∙ k.4) in
    let same : SpellsJahn k.0 j.jahn = subst (λ z. SpellsJahn z j.jahn) parts.0 h.2 in
    let symbols : j.jahn ≡ i.jahn = one_jahn k.0 j.jahn i.jahn same k.2 in
    let columns : j.column ≡ i.column = h.3 ∙ sym k.3 in
    let behind : ListWords (n + length k.0 + 1) k.1 (l ∷ js) =
    subst (λ z. ListWords (n + length z + 1) k.1 (l ∷ js)) parts.0
    (subst (λ z. ListWords (n + length h.0 + 1) z (l ∷ js)) parts.1 h.5) in
    let rest : l ∷ js ≡ m ∷ ks = one_list (n + length k.0 + 1) k.1 (l ∷ js) (m ∷ ks) behind k.5 in
    λ x. record { jahn = symbols x; column = columns x } ∷ rest x

weights_visible : (w : Weights) → Visible (weights_word w)
weights_visible Plain = visible_tested (codes "c") refl
weights_visible Shear = visible_tested (codes "s") refl

weights_are : (w : Weights) → weights_text w ≡ 32 ∷ weights_word w
weights_are Plain = refl
weights_are Shear = refl

three_visible : (g f : GroupAt) (js : List JahnAt) (u v w front : List ℕ) → GroupGroupListWords front g f js u v w →
    Each Visible (u ∷ v ∷ w ∷ [])
three_visible g f js u v w front h = (
  group_visible u g.symbol h.groups.first,
  (group_visible v f.symbol h.groups.second, (list_visible _ w js h.list, tt)),
)

-- ---- what a line is, word by word
two_words : (front u v rest : List ℕ) → (front ++ (u ++ codes " ")) ++ (v ++ rest) ≡ front ++ (u ++ 32 ∷ (v ++ rest))
two_words front u v rest =
    append_assoc front (u ++ codes " ") (v ++ rest) ∙ ap (λ z. front ++ z) (append_assoc u (codes " ") (v ++ rest))

group_jahn : (front rest line : List ℕ) (g : GroupAt) (j : JahnAt) (h : GroupJahn front rest line g j) →
    (line ≡ front ++ (h.group ++ 32 ∷ (h.jahn.word ++ rest)))
    × GroupListWords front g (j ∷ []) h.group h.jahn.word
unfolding ListWords
group_jahn front rest line g j h = (
  h.jahn.line_is ∙ two_words front h.group h.jahn.word rest,
  record {
    group = h.spells_group;
    group_column = h.group_column;
    list = (h.jahn.spells, h.jahn.column);
  },
)

-- a group and a list, to the end of the line
group_jahns : (format : Format) (front line : List ℕ) (g : GroupAt) (js : List JahnAt)
    (h : GroupJahns format front line g js) → (text : List ℕ) × (line ≡ front ++ (h.group ++ 32 ∷ text))
    × GroupListWords front g js h.group text
group_jahns format front line g js h =
    let list = list_of (front ++ (h.group ++ codes " ")) line js h.jahns.1 in (
      list.0,
      list.1 ∙ append_assoc front (h.group ++ codes " ") list.0
          ∙ ap (λ z. front ++ z) (append_assoc h.group (codes " ") list.0),
      record { group = h.spells_group; group_column = h.group_column; list = list.2 },
    )

group_group : (front line : List ℕ) (g f : GroupAt) (h : GroupGroup front [] line g f) →
    (line ≡ front ++ (h.first ++ 32 ∷ h.second.word)) × GroupGroupWords front g f h.first h.second.word
group_group front line g f h = (
  h.second.line_is ∙ two_words front h.first h.second.word []
      ∙ ap (λ z. front ++ (h.first ++ 32 ∷ z)) (append-nil h.second.word),
  record {
    first = h.spells_first;
    first_column = h.first_column;
    second = h.second.spells;
    second_column = h.second.column;
  },
)

-- the front and the first two words of three, with a space behind them
with_space : (front u v : List ℕ) → (front ++ (u ++ 32 ∷ v)) ++ codes " " ≡ front ++ (u ++ 32 ∷ (v ++ codes " "))
with_space front u v =
    append_assoc front (u ++ 32 ∷ v) (codes " ") ∙ ap (λ z. front ++ z) (append_assoc u (32 ∷ v) (codes " "))

three_words : (front u v w : List ℕ) → (front ++ (u ++ 32 ∷ (v ++ codes " "))) ++ w
    ≡ front ++ (u ++ 32 ∷ (v ++ 32 ∷ w))
three_words front u v w =
    append_assoc front (u ++ 32 ∷ (v ++ codes " ")) w
    ∙ ap (λ z. front ++ z) (append_assoc u (32 ∷ (v ++ codes " ")) w
    ∙ ap (λ z. u ++ 32 ∷ z) (append_assoc v (codes " ") w))

group_group_jahn : (front line : List ℕ) (g f : GroupAt) (j : JahnAt) (h : GroupGroupJahn front line g f j) →
    (line ≡ front ++ (h.groups.first ++ 32 ∷ (h.groups.second.word ++ 32 ∷ h.jahn.word)))
    × GroupGroupListWords front g f (j ∷ []) h.groups.first h.groups.second.word h.jahn.word
unfolding ListWords
group_group_jahn front line g f j h =
    let two = group_group front h.words g f h.groups in
    let u : List ℕ = h.groups.first in
    let v : List ℕ = h.groups.second.word in
    let spaced_is : h.words ++ codes " " ≡ front ++ (u ++ 32 ∷ (v ++ codes " ")) = ap (λ z. z ++ codes " ") two.0
    ∙ with_space front u v in (
      h.jahn.line_is ∙ ap (λ z. z ++ (h.jahn.word ++ [])) spaced_is
          ∙ ap (λ z. (front ++ (u ++ 32 ∷ (v ++ codes " "))) ++ z) (append-nil h.jahn.word)
          ∙ three_words front u v h.jahn.word,
      record {
        groups = two.1;
        list = (h.jahn.spells, h.jahn.column ∙ ap (λ z. length z + 1) spaced_is);
      },
    )

group_group_jahns : (format : Format) (front line : List ℕ) (g f : GroupAt) (js : List JahnAt)
    (h : GroupGroupJahns format front line g f js) → (text : List ℕ)
    × (line ≡ front ++ (h.groups.first ++ 32 ∷ (h.groups.second.word ++ 32 ∷ text)))
    × GroupGroupListWords front g f js h.groups.first h.groups.second.word text
group_group_jahns format front line g f js h =
    let two = group_group front h.words g f h.groups in
    let u : List ℕ = h.groups.first in
    let v : List ℕ = h.groups.second.word in
    let spaced_is : h.words ++ codes " " ≡ front ++ (u ++ 32 ∷ (v ++ codes " ")) = ap (λ z. z ++ codes " ") two.0
    ∙ with_space front u v in
    let list = list_of (h.words ++ codes " ") line js h.jahns.1 in (
      list.0,
      list.1 ∙ ap (λ z. z ++ list.0) spaced_is ∙ three_words front u v list.0,
      record { groups = two.1; list = subst (λ z. ListWords (length z) list.0 js) spaced_is list.2 },
    )

abbrev IsWorded : Request → Type 0
IsWorded Comment = ⊥
IsWorded q = Unit {0}

words_of : (format : Format) (line : List ℕ) (q : Request) → IsWorded q → SpellsRequest format line q → LineWords line q
words_of format line Comment worded h = absurd worded
words_of format line (Form g js) worded h =
    let parts = group_jahns format (codes "form ") line g js h in record {
      keyword = codes "form";
      others = h.group ∷ parts.0 ∷ [];
      keyword_visible = visible_tested (codes "form") refl;
      visible = (group_visible h.group g.symbol h.spells_group, (list_visible _ parts.0 js parts.2.list, tt));
      line_is = parts.1;
      are_words = (h.group, parts.0, refl, parts.2);
    }
words_of format line (Group g) worded h = record {
  keyword = codes "group";
  others = h.word ∷ [];
  keyword_visible = visible_tested (codes "group") refl;
  visible = (group_visible h.word g.symbol h.spells, tt);
  line_is = h.line_is ∙ ap (λ z. codes "group " ++ z) (append-nil h.word);
  are_words = (h.word, refl, h.spells, h.column);
}
words_of format line (Voigt g j w) worded h =
    let parts = group_jahn (codes "voigt ") (weights_text w) line g j h in record {
      keyword = codes "voigt";
      others = h.group ∷ h.jahn.word ∷ weights_word w ∷ [];
      keyword_visible = visible_tested (codes "voigt") refl;
      visible = (
        group_visible h.group g.symbol h.spells_group,
        (jahn_visible h.jahn.word j.jahn h.jahn.spells, (weights_visible w, tt)),
      );
      line_is = parts.0 ∙ ap (λ z. codes "voigt " ++ (h.group ++ 32 ∷ (h.jahn.word ++ z))) (weights_are w);
      are_words = (h.group, h.jahn.word, refl, parts.1);
    }
words_of format line (States g f) worded h =
    let parts = group_group (codes "states ") line g f h in record {
      keyword = codes "states";
      others = h.first ∷ h.second.word ∷ [];
      keyword_visible = visible_tested (codes "states") refl;
      visible = (group_visible h.first g.symbol h.spells_first, (group_visible h.second.word f.symbol h.second.spells, tt));
      line_is = parts.0;
      are_words = (h.first, h.second.word, refl, parts.1);
    }
words_of format line (Pairs g f) worded h =
    let parts = group_group (codes "pairs ") line g f h in record {
      keyword = codes "pairs";
      others = h.first ∷ h.second.word ∷ [];
      keyword_visible = visible_tested (codes "pairs") refl;
      visible = (group_visible h.first g.symbol h.spells_first, (group_visible h.second.word f.symbol h.second.spells, tt));
      line_is = parts.0;
      are_words = (h.first, h.second.word, refl, parts.1);
    }
words_of format line (Differ g f js) worded h =
    let parts = group_group_jahns format (codes "differ ") line g f js h in record {
      keyword = codes "differ";
      others = h.groups.first ∷ h.groups.second.word ∷ parts.0 ∷ [];
      keyword_visible = visible_tested (codes "differ") refl;
      visible = three_visible g f js h.groups.first h.groups.second.word parts.0 (codes "differ ") parts.2;
      line_is = parts.1;
      are_words = (h.groups.first, h.groups.second.word, parts.0, refl, parts.2);
    }
words_of format line (Same g f j) worded h =
    let parts = group_group_jahn (codes "same ") line g f j h in record {
      keyword = codes "same";
      others = h.groups.first ∷ h.groups.second.word ∷ h.jahn.word ∷ [];
      keyword_visible = visible_tested (codes "same") refl;
      visible = three_visible g f (j ∷ []) h.groups.first h.groups.second.word h.jahn.word (codes "same ") parts.1;
      line_is = parts.0;
      are_words = (h.groups.first, h.groups.second.word, h.jahn.word, refl, parts.1);
    }

-- ---- the words tell the request
second_of : (a b c d : List ℕ) (xs ys : List (List ℕ)) → a ∷ b ∷ xs ≡ c ∷ d ∷ ys → b ≡ d
second_of a b c d xs ys e = cc

third_of : (a b c d x y : List ℕ) (xs ys : List (List ℕ)) → a ∷ b ∷ x ∷ xs ≡ c ∷ d ∷ y ∷ ys → x ≡ y
third_of a b c d x y xs ys e = cc

fourth_of : (a b c d x y z w : List ℕ) (xs ys : List (List ℕ)) → a ∷ b ∷ x ∷ z ∷ xs ≡ c ∷ d ∷ y ∷ w ∷ ys → z ≡ w
fourth_of a b c d x y z w xs ys e = cc

same_group : (g k : GroupAt) (u v : List ℕ) (n m : ℕ) → u ≡ v → SpellsGroup u g.symbol → SpellsGroup v k.symbol →
    n ≡ m → g.column ≡ n → k.column ≡ m → g ≡ k
same_group g k u v n m e s t c p q =
    let symbols : g.symbol ≡ k.symbol = one_symbol v g.symbol k.symbol (subst (λ w. SpellsGroup w g.symbol) e s) t in
    let columns : g.column ≡ k.column = p ∙ c ∙ sym q in
    λ i. record { symbol = symbols i; column = columns i }

same_list : (js ks : List JahnAt) (u v : List ℕ) (n m : ℕ) → u ≡ v → n ≡ m → ListWords n u js → ListWords m v ks →
    js ≡ ks
same_list js ks u v n m e c h k =
    one_list m v js ks (subst (λ w. ListWords m w js) e (subst (λ i. ListWords i u js) c h)) k

only_one : (j k : JahnAt) → ◌≡◌ {A = List JahnAt} (j ∷ []) (k ∷ []) → j ≡ k
only_one j k e = cc

same_group_list : (front : List ℕ) (g k : GroupAt) (js ls : List JahnAt) (u v x y : List ℕ) → u ≡ x → v ≡ y →
    GroupListWords front g js u v → GroupListWords front k ls x y → (g ≡ k) × (js ≡ ls)
same_group_list front g k js ls u v x y e f a b = (
  same_group g k u x (length front + 1) (length front + 1) e a.group b.group refl a.group_column b.group_column,
  same_list js ls v y (length (front ++ (u ++ codes " "))) (length (front ++ (x ++ codes " "))) f
      (ap (λ z. length (front ++ (z ++ codes " "))) e) a.list b.list,
)

same_group_group : (front : List ℕ) (g k f l : GroupAt) (u v x y : List ℕ) → u ≡ x → v ≡ y →
    GroupGroupWords front g f u v → GroupGroupWords front k l x y → (g ≡ k) × (f ≡ l)
same_group_group front g k f l u v x y d e a b = (
  same_group g k u x (length front + 1) (length front + 1) d a.first b.first refl a.first_column b.first_column,
  same_group f l v y (length (front ++ (u ++ codes " ")) + 1) (length (front ++ (x ++ codes " ")) + 1) e a.second
      b.second (ap (λ z. length (front ++ (z ++ codes " ")) + 1) d) a.second_column b.second_column,
)

same_three : (front : List ℕ) (g k f l : GroupAt) (js is : List JahnAt) (u v w x y z : List ℕ) → u ≡ x → v ≡ y → w ≡ z →
    GroupGroupListWords front g f js u v w → GroupGroupListWords front k l is x y z → (g ≡ k) × (f ≡ l) × (js ≡ is)
same_three front g k f l js is u v w x y z c d e a b =
    let groups = same_group_group front g k f l u v x y c d a.groups b.groups in
    let starts : length (front ++ (u ++ 32 ∷ (v ++ codes " "))) ≡ length (front ++ (x ++ 32 ∷ (y ++ codes " "))) =
    (λ t. length (front ++ (c t ++ 32 ∷ (d t ++ codes " ")))) in
    (groups.0, groups.1, same_list js is w z _ _ e starts a.list b.list)

-- a number for each keyword and each word of weights, by its first and third byte
kind : List ℕ → ℕ
kind u =
    cond (eqb (get_or u 0 0) 102) 0 (cond (eqb (get_or u 0 0) 103) 1 (cond (eqb (get_or u 0 0) 118) 2
    (cond (eqb (get_or u 0 0) 115) (cond (eqb (get_or u 2 0) 97) 3 (cond (eqb (get_or u 2 0) 109) 6 8))
    (cond (eqb (get_or u 0 0) 112) 4 (cond (eqb (get_or u 0 0) 100) 5 7)))))

same_weights : (w x : Weights) → weights_word w ≡ weights_word x → w ≡ x
unfolding kind
same_weights Plain Plain e = refl
same_weights Plain Shear e = absurd (no_kinds (ap kind e))
  where
    no_kinds : ◌≡◌ {A = ℕ} 7 8 → ⊥
    no_kinds e = cc
same_weights Shear Plain e = absurd (no_kinds (ap kind e))
  where
    no_kinds : ◌≡◌ {A = ℕ} 8 7 → ⊥
    no_kinds e = cc
same_weights Shear Shear e = refl

abbrev kind_of : Request → ℕ
kind_of (Form g j) = 0
kind_of (Group g) = 1
kind_of (Voigt g j w) = 2
kind_of (States g f) = 3
kind_of (Pairs g f) = 4
kind_of (Differ g f j) = 5
kind_of (Same g f j) = 6
kind_of Comment = 9

first_of : List (List ℕ) → List ℕ
first_of [] = []
first_of (w ∷ ws) = w

kind_is : (q : Request) (ws : List (List ℕ)) → IsWords q ws → kind (first_of ws) ≡ kind_of q
unfolding first_of kind
kind_is Comment ws a = absurd a
kind_is (Form g j) ws a = ap (λ w. kind (first_of w)) a.2
kind_is (Group g) ws a = ap (λ w. kind (first_of w)) a.1
kind_is (Voigt g j w) ws a = ap (λ w. kind (first_of w)) a.2
kind_is (States g f) ws a = ap (λ w. kind (first_of w)) a.2
kind_is (Pairs g f) ws a = ap (λ w. kind (first_of w)) a.2
kind_is (Differ g f j) ws a = ap (λ w. kind (first_of w)) a.3
kind_is (Same g f j) ws a = ap (λ w. kind (first_of w)) a.3

-- requests with the same words are of one kind
same_kind : (q r : Request) (ws : List (List ℕ)) → IsWords q ws → IsWords r ws → kind_of q ≡ kind_of r
same_kind q r ws a b = sym (kind_is q ws a) ∙ kind_is r ws b

words_tell : (q r : Request) (ws : List (List ℕ)) → IsWords q ws → IsWords r ws → q ≡ r
words_tell Comment r ws a b = absurd a
words_tell (Form g j) (Form k l) ws a b =
    let e = sym a.2 ∙ b.2 in
    let same = same_group_list (codes "form ") g k j l a.0 a.1 b.0 b.1 (second_of _ _ _ _ _ _ e) (third_of _ _ _ _ _ _ _ _ e) a.3 b.3 in
    λ i. Form (same.0 i) (same.1 i)
words_tell (Group g) (Group k) ws a b =
    let e = sym a.1 ∙ b.1 in
    let same = same_group g k a.0 b.0 7 7 (second_of _ _ _ _ _ _ e) a.2 b.2 refl a.3 b.3 in
    λ i. Group (same i)
words_tell (Voigt g j w) (Voigt k l x) ws a b =
    let e = sym a.2 ∙ b.2 in
    let same = same_group_list (codes "voigt ") g k (j ∷ []) (l ∷ []) a.0 a.1 b.0 b.1 (second_of _ _ _ _ _ _ e) (third_of _ _ _ _ _ _ _ _ e) a.3 b.3 in
    let weights = same_weights w x (fourth_of _ _ _ _ _ _ _ _ _ _ e) in
    let jahns = only_one j l same.1 in
    λ i. Voigt (same.0 i) (jahns i) (weights i)
words_tell (States g f) (States k l) ws a b =
    let e = sym a.2 ∙ b.2 in
    let same = same_group_group (codes "states ") g k f l a.0 a.1 b.0 b.1 (second_of _ _ _ _ _ _ e) (third_of _ _ _ _ _ _ _ _ e) a.3 b.3 in
    λ i. States (same.0 i) (same.1 i)
words_tell (Pairs g f) (Pairs k l) ws a b =
    let e = sym a.2 ∙ b.2 in
    let same = same_group_group (codes "pairs ") g k f l a.0 a.1 b.0 b.1 (second_of _ _ _ _ _ _ e) (third_of _ _ _ _ _ _ _ _ e) a.3 b.3 in
    λ i. Pairs (same.0 i) (same.1 i)
words_tell (Differ g f j) (Differ k l m) ws a b =
    let e = sym a.3 ∙ b.3 in
    let same = same_three (codes "differ ") g k f l j m a.0 a.1 a.2 b.0 b.1 b.2 (second_of _ _ _ _ _ _ e)
    (third_of _ _ _ _ _ _ _ _ e) (fourth_of _ _ _ _ _ _ _ _ _ _ e) a.4 b.4 in
    λ i. Differ (same.0 i) (same.1 i) (same.2 i)
words_tell (Same g f j) (Same k l m) ws a b =
    let e = sym a.3 ∙ b.3 in
    let same = same_three (codes "same ") g k f l (j ∷ []) (m ∷ []) a.0 a.1 a.2 b.0 b.1 b.2 (second_of _ _ _ _ _ _ e)
    (third_of _ _ _ _ _ _ _ _ e) (fourth_of _ _ _ _ _ _ _ _ _ _ e) a.4 b.4 in
    let jahns = only_one j m same.2 in
    λ i. Same (same.0 i) (same.1 i) (jahns i)
words_tell q r ws a b = absurd (cc (same_kind q r ws a b))

-- ---- comments
abbrev first_byte : Request → ℕ
first_byte (Form g js) = 102
first_byte (Group g) = 103
first_byte (Voigt g j w) = 118
first_byte (States g f) = 115
first_byte (Pairs g f) = 112
first_byte (Differ g f js) = 100
first_byte (Same g f j) = 115
first_byte Comment = 35

first_is : (format : Format) (line : List ℕ) (q : Request) → SpellsRequest format line q → get_or line 0 0 ≡ first_byte q
first_is format line (Form g js) h = ap (λ l. get_or l 0 0) (group_jahns format (codes "form ") line g js h).1
first_is format line (Group g) h = ap (λ l. get_or l 0 0) h.line_is
first_is format line (Voigt g j w) h = ap (λ l. get_or l 0 0) (group_jahn (codes "voigt ") (weights_text w) line g j h).0
first_is format line (States g f) h = ap (λ l. get_or l 0 0) (group_group (codes "states ") line g f h).0
first_is format line (Pairs g f) h = ap (λ l. get_or l 0 0) (group_group (codes "pairs ") line g f h).0
first_is format line (Differ g f js) h = ap (λ l. get_or l 0 0) (group_group_jahns format (codes "differ ") line g f js h).1
first_is format line (Same g f j) h = ap (λ l. get_or l 0 0) (group_group_jahn (codes "same ") line g f j h).0
first_is One line Comment h = absurd h
first_is Two line Comment h = ap (λ l. get_or l 0 0) h.1

words_decide : (format : Format) (line : List ℕ) (q r : Request) → IsWorded q → IsWorded r →
    SpellsRequest format line q → SpellsRequest format line r → q ≡ r
words_decide format line q r worded worded' h k =
    let a = words_of format line q worded h in
    let b = words_of format line r worded' k in
    let same = same_words a.keyword a.others b.keyword b.others a.keyword_visible a.visible b.keyword_visible b.visible
    (sym a.line_is ∙ b.line_is) in
    words_tell q r (b.keyword ∷ b.others)
    (subst (λ ws. IsWords q ws) (λ i. same.0 i ∷ same.1 i) a.are_words) b.are_words

later_byte : (q : Request) → IsWorded q → 36 ≤ first_byte q
later_byte (Form g js) w = lit≤ tt
later_byte (Group g) w = lit≤ tt
later_byte (Voigt g j x) w = lit≤ tt
later_byte (States g f) w = lit≤ tt
later_byte (Pairs g f) w = lit≤ tt
later_byte (Differ g f js) w = lit≤ tt
later_byte (Same g f j) w = lit≤ tt
later_byte Comment w = absurd w

comment_or_words : (q : Request) → (q ≡ Comment) ⊎ IsWorded q
comment_or_words Comment = inl refl
comment_or_words (Form g js) = inr tt
comment_or_words (Group g) = inr tt
comment_or_words (Voigt g j w) = inr tt
comment_or_words (States g f) = inr tt
comment_or_words (Pairs g f) = inr tt
comment_or_words (Differ g f js) = inr tt
comment_or_words (Same g f j) = inr tt

-- no line is both
not_both : (format : Format) (line : List ℕ) (q r : Request) → q ≡ Comment → IsWorded r → SpellsRequest format line q →
    SpellsRequest format line r → ⊥
not_both format line q r e w h k =
    let same : first_byte q ≡ first_byte r = sym (first_is format line q h) ∙ first_is format line r k in
    let comment : first_byte q ≡ 35 = ap first_byte e in
    let later : 36 ≤ first_byte r = later_byte r w in
    omega arith

pub one_request_spelled : OneRequest
one_request_spelled format line q r h k =
    elim (comment_or_words q) [
      | inl e ↦ elim (comment_or_words r) [ inl f ↦ e ∙ sym f | inr w ↦ absurd (not_both format line q r e w h k) ]
      | inr v ↦ elim (comment_or_words r) [
        | inl f ↦ absurd (not_both format line r q f v k h)
        | inr w ↦ words_decide format line q r v w h k
      ]
    ]
