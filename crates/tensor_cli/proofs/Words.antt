-- Jahn words of a list, one after another.
--   none_first, nth_first    the first word of which a fact holds
--   each_more, each_nth, joined_more    a fact of words, and the answers for them, with one more word
--   all_words       the words up to a place, where there are no more
--   add_more, add_all, none_add_up    sums over words
use Rattle.std.proofs.Common.{◌≡◌, inl, inr, ℕ, zero, suc, ◌+◌, ◌-◌, ◌≤◌, List, [], ◌∷◌, ◌++◌, length, take, drop, refl, sym, ◌∙◌, ap, subst, arith, append_assoc}
use Rattle.std.proofs.lemmas.List.{append-nil}
use Rattle.tensor_defs.specs.Prelude.{Each, JahnSymbol}
use Rattle.text_defs.specs.Prelude.{AreJoined, FirstAt, JahnAt}
use Rattle.std.specs.Prelude.{None}
use Rattle.request_lines.specs.Readings.{NthWord, IsNthWord}
use Rattle.request_lines.specs.declared.Span.{Span}
use Rattle.tensor_cli.specs.Kinds.{AddUp, IsJoinedOnto, NamesNone}

pub none_first : (Fact : JahnAt → Type 0) (js : List JahnAt) (c : ℕ) → Each (λ j. Fact j → ⊥) js → FirstAt Fact js c → ⊥
none_first Fact [] c none first = first
none_first Fact (j ∷ js) c none (inl here) = none.0 here.0
none_first Fact (j ∷ js) c none (inr later) = none_first Fact js c none.1 later.1

pub nth_first : (Fact : JahnAt → Type 0) (js : List JahnAt) (k : ℕ) (j : JahnAt) (more : List JahnAt) → drop k js ≡ j ∷ more
    → Each (λ i. Fact i → ⊥) (take k js) → Fact j → FirstAt Fact js j.column
nth_first Fact [] zero j more is none here = cc
nth_first Fact [] (suc k) j more is none here = cc
nth_first Fact (i ∷ js) zero j more is none here =
    let same : i ≡ j = cc in
    inl (subst Fact (sym same) here, ap (λ (a : JahnAt). a.column) (sym same))
nth_first Fact (i ∷ js) (suc k) j more is none here = inr (none.0, nth_first Fact js k j more is none.1 here)

pub take_next : (js : List JahnAt) (k : ℕ) (j : JahnAt) (more : List JahnAt) → drop k js ≡ j ∷ more → take (k + 1) js ≡ take k js ++ j ∷ []
take_next [] zero j more is = cc
take_next [] (suc k) j more is = cc
take_next (i ∷ js) zero j more is = let same : i ≡ j = cc in ap (λ (a : JahnAt). a ∷ []) same
take_next (i ∷ js) (suc k) j more is =
    let next : suc k + 1 ≡ suc (k + 1) = omega arith in
    ap (λ (n : ℕ). take n (i ∷ js)) next ∙ ap (λ (l : List JahnAt). i ∷ l) (take_next js k j more is)

each_push : (P : JahnAt → Type 0) (is : List JahnAt) (j : JahnAt) → Each P is → P j → Each P (is ++ j ∷ [])
each_push P [] j all here = (here, tt)
each_push P (i ∷ is) j all here = (all.0, each_push P is j all.1 here)

pub each_more : (P : JahnAt → Type 0) (js : List JahnAt) (k : ℕ) (j : JahnAt) (more : List JahnAt) → drop k js ≡ j ∷ more
    → Each P (take k js) → P j → Each P (take (k + 1) js)
each_more P js k j more is all here = subst (Each P) (sym (take_next js k j more is)) (each_push P (take k js) j all here)

pub each_nth : (P : JahnAt → Type 0) (js : List JahnAt) (k : ℕ) (j : JahnAt) (more : List JahnAt) → drop k js ≡ j ∷ more → Each P js → P j
each_nth P [] zero j more is all = cc
each_nth P [] (suc k) j more is all = cc
each_nth P (i ∷ js) zero j more is all = let same : i ≡ j = cc in subst P same all.0
each_nth P (i ∷ js) (suc k) j more is all = each_nth P js k j more is all.1

joined_push : (Text : JahnSymbol → List ℕ → Type 0) (is : List JahnAt) (j : JahnAt) (bytes next : List ℕ) → AreJoined Text is bytes
    → Text j.jahn next → AreJoined Text (is ++ j ∷ []) (bytes ++ next)
joined_push Text [] j bytes next so_far here =
    (next, [], here, refl, ap (λ (l : List ℕ). l ++ next) so_far ∙ sym (append-nil next))
joined_push Text (i ∷ is) j bytes next so_far here = (
  so_far.0,
  so_far.1 ++ next,
  so_far.2,
  joined_push Text is j so_far.1 next so_far.3 here,
  ap (λ (l : List ℕ). l ++ next) so_far.4 ∙ append_assoc so_far.0 so_far.1 next,
)

pub joined_more : (Text : JahnSymbol → List ℕ → Type 0) (js : List JahnAt) (k : ℕ) (j : JahnAt) (more : List JahnAt)
    → drop k js ≡ j ∷ more → (bytes next : List ℕ) → AreJoined Text (take k js) bytes → Text j.jahn next
    → AreJoined Text (take (k + 1) js) (bytes ++ next)
joined_more Text js k j more is bytes next so_far here =
    subst (λ (l : List JahnAt). AreJoined Text l (bytes ++ next)) (sym (take_next js k j more is))
    (joined_push Text (take k js) j bytes next so_far here)

pub all_words : (js : List JahnAt) (k : ℕ) → length js ≤ k → take k js ≡ js
all_words [] zero few = refl
all_words [] (suc k) few = refl
all_words (j ∷ js) zero few = absurd (omega (arith, few))
all_words (j ∷ js) (suc k) few = ap (λ (l : List JahnAt). j ∷ l) (all_words js k (omega (arith, few)))

-- ---- the word of a list with a number
pub nth_at : (line : List ℕ) (js : List JahnAt) (place : ℕ) (word : Span) (w : NthWord line js (place + 1) word)
    → drop place js ≡ w.jahn ∷ drop (place + 1) js
nth_at line js place word w =
    let same : place ≡ place + 1 - 1 = omega arith in
    ap (λ (n : ℕ). drop n js) same ∙ w.is_nth

pub none_more : (line : List ℕ) (js : List JahnAt) (place : ℕ) → IsNthWord line js (place + 1) None → length js ≤ place
none_more line js place (inl none) = absurd (omega (arith, none))
none_more line js place (inr few) = omega (arith, few)

-- a fact of the words so far, where there are no more
pub each_all : (P : JahnAt → Type 0) (js : List JahnAt) (k : ℕ) → length js ≤ k → Each P (take k js) → Each P js
each_all P js k few all = subst (Each P) (all_words js k few) all

pub joined_all : (Text : JahnSymbol → List ℕ → Type 0) (js : List JahnAt) (k : ℕ) (old new : List ℕ) → length js ≤ k
    → IsJoinedOnto Text old new (take k js) → IsJoinedOnto Text old new js
joined_all Text js k old new few joined = subst (IsJoinedOnto Text old new) (all_words js k few) joined

-- ---- sums over words
add_push : (Free : JahnSymbol → ℕ → Type 0) (is : List JahnAt) (j : JahnAt) (n m : ℕ) → AddUp Free is n → Free j.jahn m
    → AddUp Free (is ++ j ∷ []) (n + m)
add_push Free [] j n m so_far here = (m, 0, here, refl, omega (arith, so_far))
add_push Free (i ∷ is) j n m so_far here = (
  so_far.0,
  so_far.1 + m,
  so_far.2,
  add_push Free is j so_far.1 m so_far.3 here,
  omega (arith, so_far.4),
)

pub add_more : (Free : JahnSymbol → ℕ → Type 0) (js : List JahnAt) (k : ℕ) (j : JahnAt) (more : List JahnAt) → drop k js ≡ j ∷ more
    → (n m : ℕ) → AddUp Free (take k js) n → Free j.jahn m → AddUp Free (take (k + 1) js) (n + m)
add_more Free js k j more is n m so_far here =
    subst (λ (l : List JahnAt). AddUp Free l (n + m)) (sym (take_next js k j more is)) (add_push Free (take k js) j n m so_far here)

pub add_all : (Free : JahnSymbol → ℕ → Type 0) (js : List JahnAt) (k n : ℕ) → length js ≤ k → AddUp Free (take k js) n → AddUp Free js n
add_all Free js k n few so_far = subst (λ (l : List JahnAt). AddUp Free l n) (all_words js k few) so_far

pub none_add_up : (js : List JahnAt) (n : ℕ) → AddUp NamesNone js n → n ≡ 0
none_add_up [] n t = t
none_add_up (j ∷ js) n t = omega (arith, t.2, none_add_up js t.1 t.3, t.4)
