-- Words for slots, and where they go wrong.
--   slot_visible, ending_spaces, some_word, some_ending    what the languages of slots are like
--   wrong_word      a wrong word is where the words go wrong
--   word_short      a right word, with nothing behind it where more is wanted
--   word_long       a right word, with more behind it where nothing is wanted
--   later_wrong     what goes wrong behind a right word and its space
use Rattle.std.proofs.Common.{◌≡◌, ◌≢◌, ℕ, zero, suc, ◌+◌, ◌<◌, true, false, List, [], ◌∷◌, ◌++◌, length, drop, get_or}
use Rattle.std.proofs.Common.{refl, sym, ap, subst, ◌∙◌, inl, inr, arith, lit<}
use Rattle.std.specs.Prelude.{codes}
use Rattle.std.proofs.lemmas.List.{drop_at, drop-drop, get_or-drop, length-append, append-nil}
use Rattle.tensor_defs.specs.declared.Weights.{Weights}
use Rattle.tensor_defs.specs.declared.Weights.TheVariants.{Plain, Shear}
use Rattle.tensor_defs.specs.Jahn.{JahnSymbol}
use Rattle.text_defs.specs.Prelude.{IsFaulty, grey_one, SpellsJahn}
use Rattle.text_laws.proofs.Words.{Visible, visible_tested, visible_append, group_visible, jahn_visible}
use Rattle.fault_places.proofs.Places.{Through, Through-step, Through-stuck, Through-short, Through-faulty}
use Rattle.list_laws.proofs.Lists.{tails, none_some}
use Rattle.request_lines.specs.Words.{Slot, GroupSlot, JahnSlot, ListSlot, WeightsSlot, weights_word, IsWordOf, IsEnding, IsWords}
use Rattle.request_lines.specs.Words.{IsListOf, words_behind}
use Rattle.request_lines.proofs.WordTexts.{Clean, Spaces, word_faulty, word_through}

weights_visible : (z : List ℕ) (w : Weights) → z ≡ weights_word w → Visible z
weights_visible z Plain e = subst Visible (sym e) (visible_tested (codes "c") refl)
weights_visible z Shear e = subst Visible (sym e) (visible_tested (codes "s") refl)

list_visible : (more : ℕ) (z : List ℕ) → IsListOf more z → Visible z
list_visible zero z h = jahn_visible z h.0 h.1
list_visible (suc more) z h =
    elim h.is_ending [
      | inl e ↦ subst Visible (sym (h.text ∙ ap (λ (l : List ℕ). h.word ++ l) e ∙ append-nil h.word)) word
      | inr r ↦ subst Visible (sym (h.text ∙ ap (λ (l : List ℕ). h.word ++ l) r.1))
          (visible_append h.word (44 ∷ r.0) word (lit< tt, list_visible more r.0 r.2))
    ]
  where
    word : Visible h.word
    word = jahn_visible h.word h.is_word.0 h.is_word.1

pub slot_visible : (s : Slot) (z : List ℕ) → IsWordOf s z → Visible z
slot_visible GroupSlot z h = group_visible z h.0 h.1
slot_visible JahnSlot z h = jahn_visible z h.0 h.1
slot_visible (ListSlot format) z h = list_visible (words_behind format) z h
slot_visible WeightsSlot z h = weights_visible z h.0 h.1

pub ending_spaces : (slots : List Slot) (z : List ℕ) → IsEnding slots z → Spaces 32 z
ending_spaces [] z e = subst (Spaces 32) (sym e) tt
ending_spaces (s ∷ slots) z e = subst (Spaces 32) (sym e.1) refl

axial : JahnSymbol
axial = record { marks = record { axial = true; magnetic = false }; factors = [] }

axial_spelled : SpellsJahn (codes "e") axial
unfolding axial
axial_spelled = record { are_factors = tt; body = (codes "e", refl, inl (some, refl)) }
  where
    some : codes "e" ≢ []
    some e = none_some (sym e)

some_list : (more : ℕ) → IsListOf more (codes "e")
some_list zero = (axial, axial_spelled)
some_list (suc more) =
    record { word = codes "e"; ending = []; is_word = (axial, axial_spelled); is_ending = inl refl; text = refl }

pub some_word : (s : Slot) → (z : List ℕ) × IsWordOf s z
some_word GroupSlot = (codes "1'", (grey_one, inr (refl, refl)))
some_word JahnSlot = (codes "e", (axial, axial_spelled))
some_word (ListSlot format) = (codes "e", some_list (words_behind format))
some_word WeightsSlot = (codes "c", (Plain, refl))

pub some_ending : (slots : List Slot) → (z : List ℕ) × IsEnding slots z
some_ending [] = ([], refl)
some_ending (s ∷ slots) =
    let w = some_word s in
    let e = some_ending slots in
    (32 ∷ (w.0 ++ e.0), (w.0 ++ e.0, refl, record { word = w.0; ending = e.0; is_word = w.1; is_ending = e.1; text = refl }))

pub some_words : (s : Slot) (slots : List Slot) → (z : List ℕ) × IsWords s slots z
some_words s slots =
    let w = some_word s in
    let e = some_ending slots in
    (w.0 ++ e.0, record { word = w.0; ending = e.0; is_word = w.1; is_ending = e.1; text = refl })

module _ (s : Slot) (w : List ℕ) (cl : Clean 32 w) where
  pub wrong_word : (slots : List Slot) (t z : List ℕ) → Spaces 32 t → z ≡ w ++ t → (m : ℕ) → IsFaulty (IsWordOf s) w m → IsFaulty (IsWords s slots) z m
  wrong_word slots t z st is m f =
      word_faulty 32 (IsWordOf s) (λ u. IsEnding slots u) (slot_visible s) (ending_spaces slots) w t z cl st is (some_ending slots) m f

  through : (slots : List Slot) (t z : List ℕ) → Spaces 32 t → z ≡ w ++ t → IsWordOf s w → Through (IsWords s slots) (λ u. IsEnding slots u) z (length w)
  through slots t z st is a =
      word_through 32 (IsWordOf s) (λ u. IsEnding slots u) (slot_visible s) (ending_spaces slots) w t z cl st is a

  pub word_short : (n : Slot) (slots : List Slot) (z : List ℕ) → z ≡ w ++ [] → IsWordOf s w → IsFaulty (IsWords s (n ∷ slots)) z (length w)
  word_short n slots z is a =
      Through-short (IsWords s (n ∷ slots)) (λ u. IsEnding (n ∷ slots) u) z (length w) (through (n ∷ slots) [] z tt is a)
      (omega (arith, ap length is, length-append w [])) (some_ending (n ∷ slots)) (λ e. none_some e.1)

  module _ (r z : List ℕ) (is : z ≡ w ++ 32 ∷ r) (a : IsWordOf s w) where
    inside : length w < length z
    inside = omega (arith, ap length is, length-append w (32 ∷ r))

    behind : drop (length w) z ≡ 32 ∷ r
    behind = ap (λ (l : List ℕ). drop (length w) l) is ∙ drop_at w (32 ∷ r) (length w) refl

    behind_space : drop (length w + 1) z ≡ r
    behind_space = sym (drop-drop 1 (length w) z) ∙ ap (λ (l : List ℕ). drop 1 l) behind

    space : get_or z (length w) 0 ≡ 32
    space = ap (λ (n : ℕ). get_or z n 0) (none_more (length w)) ∙ sym (get_or-drop (length w) z 0 0) ∙ ap (λ (l : List ℕ). get_or l 0 0) behind
      where
        none_more : (n : ℕ) → n ≡ n + 0
        none_more n = omega arith

    pub word_long : IsFaulty (IsWords s []) z (length w)
    word_long =
        Through-stuck (IsWords s []) (λ u. IsEnding [] u) z (length w) (through [] (32 ∷ r) z refl is a) inside (some_ending [])
        (λ u e. none_some (sym e))

    word_next : (n : Slot) (slots : List Slot) → Through (IsWords s (n ∷ slots)) (IsWords n slots) z (length w + 1)
    word_next n slots =
        Through-step (IsWords s (n ∷ slots)) (λ u. IsEnding (n ∷ slots) u) z (length w) (through (n ∷ slots) (32 ∷ r) z refl is a)
        (IsWords n slots) inside (λ u e. subst (IsWords n slots) (sym (tails e.1)) e.2)
        (λ u words. (u, ap (λ (b : ℕ). b ∷ u) space, words))

    pub later_wrong : (n : Slot) (slots : List Slot) (m : ℕ) → IsFaulty (IsWords n slots) r m → IsFaulty (IsWords s (n ∷ slots)) z (length w + 1 + m)
    later_wrong n slots m f =
        Through-faulty (IsWords s (n ∷ slots)) (IsWords n slots) z (length w + 1) m (word_next n slots)
        (let P : List ℕ → Type 0 = λ (l : List ℕ). IsFaulty (IsWords n slots) l m in subst P (sym behind_space) f)
