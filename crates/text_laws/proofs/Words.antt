-- Words without space and line feed, and lines made of them.
--   Above               each byte is above a number
--   Visible             each byte is above the space
--   no_space, no_line_feed    such a word holds neither byte
--   first_split         a text is split at its first separator in one way, where all bytes before it are above it
--   same_words          words with one space between two are told by the line
--   group_visible, jahn_visible    the texts of group symbols and of Jahn symbols are such words
--   jahn_above_comma    no comma stands in the text of a Jahn symbol
use Rattle.list_laws.proofs.Kit.{◌≡◌, ◌==◌, ◌%◌, ◌/◌, ◌+◌, ◌-◌, ◌<◌, ℕ, zero, suc, Bool, true, false, cond, List, [], ◌∷◌, ◌++◌, get_or, refl, sym, subst}
use Rattle.list_laws.proofs.Kit.{arith, inl, inr, lit<, nat_tests}
use Rattle.std.specs.Prelude.{codes, nat_lt, Contains}
use Rattle.tensor_defs.specs.Prelude.{Each, Marks, Symmetric, Antisymmetric, Atom, V, Bracketed, Factor, JahnSymbol, GroupSymbol, parent_texts, parent_text}
use Rattle.text_defs.specs.Prelude.{ends_operator, with_primes, suffix_at, SpellsGroup, grey_text, atom_text, power_text, factor_text, AreMarks}
use Rattle.text_defs.specs.Prelude.{SpellsFactors, SpellsBody, SpellsJahn, spaced}
use Rattle.list_laws.proofs.Lists.{heads, tails, none_some}

-- each byte is above the number
abbrev pub Above : ℕ → List ℕ → Type 0
Above n word = Each (λ b. n < b) word

-- each byte is above the space
abbrev pub Visible : List ℕ → Type 0
Visible word = Above 32 word

pub above_append : (n : ℕ) (u v : List ℕ) → Above n u → Above n v → Above n (u ++ v)
above_append n [] v h k = k
above_append n (b ∷ u) v h k = (h.0, above_append n u v h.1 k)

pub visible_append : (u v : List ℕ) → Visible u → Visible v → Visible (u ++ v)
visible_append u v h k = above_append 32 u v h k

pub visible_at : (b : ℕ) (u : List ℕ) → Visible u → Contains u b → 32 < b
visible_at b [] h c = absurd (omega (arith, c.1))
visible_at b (x ∷ u) h (zero, lt, is) = subst (λ y. 32 < y) is h.0
visible_at b (x ∷ u) h (suc k, lt, is) = visible_at b u h.1 (k, omega (arith, lt), is)

pub no_space : (u : List ℕ) → Visible u → ¬ Contains u 32
no_space u h c = let lt : 32 < 32 = visible_at 32 u h c in omega arith

pub no_line_feed : (u : List ℕ) → Visible u → ¬ Contains u 10
no_line_feed u h c = let lt : 32 < 10 = visible_at 10 u h c in omega arith

-- ---- lines of words

not_above : (n b : ℕ) → n < b → b ≡ n → ⊥
not_above n b h e = omega arith

-- a text is split at its first separator in one way
pub first_split : (n : ℕ) (u v x y : List ℕ) → Above n u → Above n v → u ++ n ∷ x ≡ v ++ n ∷ y → (u ≡ v) × (x ≡ y)
first_split n [] [] x y h k e = (refl, tails e)
first_split n [] (b ∷ v) x y h k e = absurd (not_above n b k.0 (sym (heads e)))
first_split n (b ∷ u) [] x y h k e = absurd (not_above n b h.0 (heads e))
first_split n (b ∷ u) (c ∷ v) x y h k e =
    let rest = first_split n u v x y h.1 k.1 (tails e) in
    ((λ i. heads e i ∷ rest.0 i), rest.1)

-- such a word has no separator in it
pub no_later : (n : ℕ) (u v y : List ℕ) → Above n u → u ≡ v ++ n ∷ y → ⊥
no_later n [] [] y h e = none_some e
no_later n [] (c ∷ v) y h e = none_some e
no_later n (b ∷ u) [] y h e = not_above n b h.0 (heads e)
no_later n (b ∷ u) (c ∷ v) y h e = no_later n u v y h.1 (tails e)

-- words with one space between two are told by the line
pub same_words : (u : List ℕ) (us : List (List ℕ)) (v : List ℕ) (vs : List (List ℕ)) → Visible u → Each Visible us →
    Visible v → Each Visible vs → spaced (u ∷ us) ≡ spaced (v ∷ vs) → (u ≡ v) × (us ≡ vs)
same_words u [] v [] hu hus hv hvs e = (e, refl)
same_words u [] v (y ∷ vs) hu hus hv hvs e = absurd (no_later 32 u v (spaced (y ∷ vs)) hu e)
same_words u (x ∷ us) v [] hu hus hv hvs e = absurd (no_later 32 v u (spaced (x ∷ us)) hv (sym e))
same_words u (x ∷ us) v (y ∷ vs) hu hus hv hvs e =
    let parts = first_split 32 u v (spaced (x ∷ us)) (spaced (y ∷ vs)) hu hv e in
    let rest = same_words x us y vs hus.0 hus.1 hvs.0 hvs.1 parts.1 in
    (parts.0, λ i. rest.0 i ∷ rest.1 i)

-- ---- group symbols
abbrev is_visible : List ℕ → Bool
is_visible [] = true
is_visible (b ∷ bs) = cond (nat_lt 32 b) (is_visible bs) false

pub visible_tested : (u : List ℕ) → is_visible u ≡ true → Visible u
visible_tested [] e = tt
visible_tested (b ∷ u) e = by_test (nat_lt 32 b) refl (visible_tested u) e
  where
    above : nat_lt 32 b ≡ true → 32 < b
    above e = grind (arith, nat_tests)

    by_test : (t : Bool) → nat_lt 32 b ≡ t → (is_visible u ≡ true → Visible u) →
        cond t (is_visible u) false ≡ true → (32 < b) × Visible u
    by_test true is more e = (above is, more e)
    by_test false is more e = absurd cc

abbrev all_visible : List (List ℕ) → Bool
all_visible [] = true
all_visible (t ∷ ts) = cond (is_visible t) (all_visible ts) false

text_visible : (ts : List (List ℕ)) → all_visible ts ≡ true → (k : ℕ) → Visible (get_or ts k [])
text_visible [] e k = tt
text_visible (t ∷ ts) e k = by_test (is_visible t) refl (text_visible ts) e k
  where
    by_test : (b : Bool) → is_visible t ≡ b → (all_visible ts ≡ true → (k : ℕ) → Visible (get_or ts k [])) →
        cond b (all_visible ts) false ≡ true → (k : ℕ) → Visible (get_or (t ∷ ts) k [])
    by_test true is more e zero = visible_tested t is
    by_test true is more e (suc k) = more e k
    by_test false is more e k = absurd cc

parents_visible : all_visible parent_texts ≡ true
parents_visible = refl

parent_visible : (n : ℕ) → Visible (parent_text n)
unfolding parent_text
parent_visible n = text_visible parent_texts parents_visible (n - 1)

primes_visible : (v : ℕ) (xs : List ℕ) (p : ℕ) → Visible xs → Visible (with_primes v xs p)
unfolding with_primes
primes_visible v [] p h = tt
primes_visible v (x ∷ xs) p h =
    by_case (ends_operator v x) (p % 2 == 1) (primes_visible x xs (p / 2) h.1) (primes_visible x xs p h.1)
  where
    by_case : (a b : Bool) → Visible (with_primes x xs (p / 2)) → Visible (with_primes x xs p) →
        Visible (cond a (cond b (x ∷ 39 ∷ with_primes x xs (p / 2)) (x ∷ with_primes x xs (p / 2))) (x
        ∷ with_primes x xs p))
    by_case true true half whole = (h.0, (lit< tt, half))
    by_case true false half whole = (h.0, half)
    by_case false b half whole = (h.0, whole)

suffix_visible : (k : ℕ) → k < 7 → Visible (suffix_at k).text
unfolding suffix_at
suffix_visible zero lt = tt
suffix_visible (suc zero) lt = visible_tested (codes "@y") refl
suffix_visible (suc (suc zero)) lt = visible_tested (codes "@x") refl
suffix_visible (suc (suc (suc zero))) lt = visible_tested (codes "@z") refl
suffix_visible (suc (suc (suc (suc zero)))) lt = visible_tested (codes "@xy") refl
suffix_visible (suc (suc (suc (suc (suc zero))))) lt = visible_tested (codes "@d") refl
suffix_visible (suc (suc (suc (suc (suc (suc zero)))))) lt = visible_tested (codes "@p") refl
suffix_visible (suc (suc (suc (suc (suc (suc (suc k))))))) lt = absurd (omega arith)

grey_visible : (grey : Bool) → Visible (grey_text grey)
grey_visible true = visible_tested (codes "1'") refl
grey_visible false = tt

pub group_visible : (word : List ℕ) (t : GroupSymbol) → SpellsGroup word t → Visible word
group_visible word t (inl h) =
    let suffix : Visible h.suffix =
    subst Visible (sym h.is_suffix.text_is) (suffix_visible h.is_suffix.place h.is_suffix.listed) in
    let ending : Visible (grey_text t.grey ++ h.suffix) = visible_append (grey_text t.grey) h.suffix (grey_visible t.grey)
    suffix in
    let signs : Visible (with_primes 0 (parent_text t.parent) t.primes) = primes_visible 0 (parent_text t.parent) t.primes
    (parent_visible t.parent) in
    subst Visible (sym h.text)
    (visible_append (with_primes 0 (parent_text t.parent) t.primes) (grey_text t.grey ++ h.suffix) signs ending)
group_visible word t (inr h) = subst Visible (sym h.0) (visible_tested (codes "1'") refl)

-- ---- Jahn symbols: each byte is above the comma
digit_above : (p : ℕ) → 44 < 48 + p
digit_above p = omega arith

atom_above : (a : Atom) → Above 44 (atom_text a)
atom_above V = (lit< tt, tt)
atom_above (Bracketed Symmetric a p) =
    (lit< tt, above_append 44 (atom_text a) ((48 + p) ∷ 93 ∷ []) (atom_above a) (digit_above p, (lit< tt, tt)))
atom_above (Bracketed Antisymmetric a p) =
    (lit< tt, above_append 44 (atom_text a) ((48 + p) ∷ 125 ∷ []) (atom_above a) (digit_above p, (lit< tt, tt)))

power_above : (p : ℕ) → Above 44 (power_text p)
power_above p = by_case (p == 1)
  where
    by_case : (b : Bool) → Above 44 (cond b [] ((48 + p) ∷ []))
    by_case true = tt
    by_case false = (digit_above p, tt)

marks_above : (u : List ℕ) (a m : Bool) → AreMarks u a m → Above 44 u
marks_above u false false e = subst (Above 44) (sym e) tt
marks_above u true false e = subst (Above 44) (sym e) (lit< tt, tt)
marks_above u false true e = subst (Above 44) (sym e) (lit< tt, tt)
marks_above u true true (inl e) = subst (Above 44) (sym e) (lit< tt, (lit< tt, tt))
marks_above u true true (inr e) = subst (Above 44) (sym e) (lit< tt, (lit< tt, tt))

factors_above : (word : List ℕ) (fs : List Factor) (m : Marks) → SpellsFactors word fs m → Above 44 word
factors_above word [] m h = subst (Above 44) (sym h.0) tt
factors_above word (f ∷ fs) m h =
    let factor = above_append 44 (atom_text f.atom) (power_text f.power) (atom_above f.atom) (power_above f.power) in
    let behind = above_append 44 (factor_text f) h.3 factor (factors_above h.3 fs h.4 h.5) in
    subst (Above 44) (sym h.6)
    (above_append 44 h.0 (factor_text f ++ h.3) (marks_above h.0 h.1.axial h.1.magnetic h.2) behind)

body_above : (word : List ℕ) (fs : List Factor) (m : Marks) → SpellsBody word fs m → Above 44 word
body_above word [] m (marks, is, inl h) = subst (Above 44) (sym h.1) (marks_above marks m.axial m.magnetic is)
body_above word [] m (marks, is, inr e) =
    subst (Above 44) (sym e) (above_append 44 marks (codes "1") (marks_above marks m.axial m.magnetic is) (lit< tt, tt))
body_above word (f ∷ fs) m h = factors_above word (f ∷ fs) m h

pub jahn_above_comma : (word : List ℕ) (j : JahnSymbol) → SpellsJahn word j → Above 44 word
jahn_above_comma word j h = body_above word j.factors j.marks h.body

pub jahn_visible : (word : List ℕ) (j : JahnSymbol) → SpellsJahn word j → Visible word
jahn_visible word j h = lower word (jahn_above_comma word j h)
  where
    lower : (u : List ℕ) → Above 44 u → Visible u
    lower [] a = tt
    lower (b ∷ u) a = (omega (arith, a.0), lower u a.1)
