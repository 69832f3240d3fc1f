-- Searching the long texts: one symbol, all patterns of primes, all settings.
--   one_form_text       a symbol has one long text of a form
--   pattern_compared    the text of the symbol with a pattern against the word
--   PrimesBelow         the grey symbol, and the first patterns of primes
--   setting_all, form_all    all patterns of primes, all settings
use Rattle.list_laws.proofs.Kit.{◌≡◌, ◌↔◌, ◌⊎◌, ◌∙◌, ◌<◌, ◌+◌, ℕ, Bool, true, false, IsTrue, List, [], ◌∷◌, ◌++◌, Result, Ok, Err, max, get_or, refl, sym, ap}
use Rattle.list_laws.proofs.Kit.{subst, arith, lit<, inl, inr, cases_lt}
use Rattle.tensor_defs.specs.declared.Setting.{Setting}
use Rattle.tensor_defs.specs.declared.Setting.TheVariants.{Default, X, Z, XY, D, P}
use Rattle.tensor_defs.specs.Prelude.{GroupSymbol, IsGroupSymbol, operator_count, IsAccepted}
use Rattle.text_defs.specs.declared.Fault.{Fault}
use Rattle.text_defs.specs.GroupTexts.{grey_text, setting_text}
use Rattle.group_symbol.specs.Readings.{symbol_of}
use Rattle.group_symbol.proofs.ParentTexts.{few_count}
use Rattle.list_laws.proofs.Tests.{power_four}
use Rattle.dialects.specs.LongTexts.{form_at, HasPrimed, Piece, ArePieces, prime_text, IsFormText}
use Rattle.dialects.specs.Searches.{IsPast, IsThis, Searched, Below, IsPatternText, IsSettingText}
use Rattle.dialects.proofs.Past.{past_none, past_join, past_within}

-- ---- one long text
same_mark : (Q : Type 0) (a b : Bool) → (IsTrue a ↔ Q) → (IsTrue b ↔ Q) → a ≡ b
same_mark Q true true h k = refl
same_mark Q true false h k = sym (k.1 (h.0 refl))
same_mark Q false true h k = h.1 (k.0 refl)
same_mark Q false false h k = refl

one_pieces : (t : GroupSymbol) (ps : List Piece) (a b : List ℕ) → ArePieces t ps a → ArePieces t ps b → a ≡ b
one_pieces t [] a b h k = h ∙ sym k
one_pieces t (p ∷ ps) a b (m, r, is, h, e) (m', r', is', k, e') =
    let same : m ≡ m' = same_mark (HasPrimed t p.operator) m m' is is' in
    let rest : r ≡ r' = one_pieces t ps r r' h k in
    e ∙ ap (λ (x : Bool). p.text ++ (prime_text x ++ r)) same ∙ ap (λ (x : List ℕ). p.text ++ (prime_text m' ++ x)) rest ∙ sym e'

pub one_form_text : (k : ℕ) (a b : List ℕ) (t : GroupSymbol) → IsFormText k a t → IsFormText k b t → a ≡ b
one_form_text k a b t h g =
    h.text ∙ ap (λ (x : List ℕ). x ++ ((form_at k).ending ++ (grey_text t.grey ++ setting_text t.setting)))
    (one_pieces t (form_at k).pieces h.signs g.signs h.pieces g.pieces) ∙ sym g.text

-- ---- one symbol
module _ (k : ℕ) (s : Setting) (p : ℕ) (g : Bool) where
  same_symbol : (w : List ℕ) (t : GroupSymbol) → IsPatternText k s p g w t → t ≡ symbol_of (form_at k).parent p g s
  same_symbol w t h = λ i. record { parent = h.text.parent i; primes = h.primes_are i; grey = h.grey_is i; setting = h.setting i }

  pub no_symbol : (word : List ℕ) → ¬ IsGroupSymbol (symbol_of (form_at k).parent p g s) → IsPast (IsPatternText k s p g) word 0
  no_symbol word none = past_none (IsPatternText k s p g) word (λ w t h. none (subst IsGroupSymbol (same_symbol w t h) h.text.symbol))

  pub no_accepted : (word : List ℕ) (tree : GroupSymbol) → tree ≡ symbol_of (form_at k).parent p g s → ¬ IsAccepted tree →
      IsPast (IsPatternText k s p g) word 0
  no_accepted word tree is none = past_none (IsPatternText k s p g) word
      (λ w t h. none (subst IsAccepted (same_symbol w t h ∙ sym is) h.text.accepted))

  pub pattern_compared : (text word : List ℕ) (tree : GroupSymbol) (r : Result GroupSymbol Fault) →
      tree ≡ symbol_of (form_at k).parent p g s → IsFormText k text tree → Searched (IsThis text tree) word r →
      Searched (IsPatternText k s p g) word r
  pattern_compared text word tree (Ok t) is f (e, same) =
      let here : tree ≡ t = sym same in
      let F : GroupSymbol → Type 0 = λ (u : GroupSymbol). IsFormText k text u in
      let G : List ℕ → Type 0 = λ (l : List ℕ). IsFormText k l t in
      record {
        text = subst G (sym e) (subst F here f);
        setting = ap (λ (u : GroupSymbol). u.setting) (same ∙ is);
        primes_are = ap (λ (u : GroupSymbol). u.primes) (same ∙ is);
        grey_is = ap (λ (u : GroupSymbol). u.grey) (same ∙ is);
      }
  pattern_compared text word tree (Err e) is f past = past_within (IsThis text tree) (IsPatternText k s p g) word e.place past
      (λ w t h.
      let same : t ≡ tree = same_symbol w t h ∙ sym is in
      let F : GroupSymbol → Type 0 = λ (u : GroupSymbol). IsFormText k text u in
      (one_form_text k w text t h.text (subst F (sym same) f), same))

-- ---- all patterns of primes
abbrev pub PrimesBelow : ℕ → Setting → ℕ → List ℕ → GroupSymbol → Type 0
PrimesBelow k s n w t = IsPatternText k s 0 true w t ⊎ ((p : ℕ) × (p < n) × IsPatternText k s p false w t)

module _ (k : ℕ) (s : Setting) (word : List ℕ) where
  pub primes_none : (a : ℕ) → IsPast (IsPatternText k s 0 true) word a → IsPast (PrimesBelow k s 0) word a
  primes_none a h = past_within (IsPatternText k s 0 true) (PrimesBelow k s 0) word a h by
    where
      by : (w : List ℕ) (t : GroupSymbol) → PrimesBelow k s 0 w t → IsPatternText k s 0 true w t
      by w t (inl h) = h
      by w t (inr (p, lt, h)) = absurd (omega arith)

  pub primes_more : (n a b : ℕ) → IsPast (PrimesBelow k s n) word a → IsPast (IsPatternText k s n false) word b →
      IsPast (PrimesBelow k s (n + 1)) word (max a b)
  primes_more n a b h q = past_join (PrimesBelow k s n) (IsPatternText k s n false) (PrimesBelow k s (n + 1)) word a b h q by
    where
      by : (w : List ℕ) (t : GroupSymbol) → PrimesBelow k s (n + 1) w t → PrimesBelow k s n w t ⊎ IsPatternText k s n false w t
      by w t (inl h) = inl (inl h)
      by w t (inr (p, lt, h)) = elim (cases_lt p n) [
        | inl less ↦ inl (inr (p, less, h))
        | inr le ↦ inr (let same : p ≡ n = omega arith in let S : ℕ → Type 0 = λ (m : ℕ). IsPatternText k s m false w t in subst S same h)
      ]

  pub setting_all : (a : ℕ) → IsPast (PrimesBelow k s 16) word a → IsPast (IsSettingText k s) word a
  setting_all a h = past_within (PrimesBelow k s 16) (IsSettingText k s) word a h (λ w t q. by w t q t.grey refl)
    where
      few : (t : GroupSymbol) → IsGroupSymbol t → t.primes < 16
      few t i = let le = power_four (operator_count t.parent) (few_count t.parent) in omega (arith, i.primes)

      by : (w : List ℕ) (t : GroupSymbol) → IsSettingText k s w t → (g : Bool) → t.grey ≡ g → PrimesBelow k s 16 w t
      by w t q true e = inl (record { text = q.text; setting = q.setting; primes_are = q.text.symbol.plain e; grey_is = e })
      by w t q false e = inr (t.primes, few t q.text.symbol, record { text = q.text; setting = q.setting; primes_are = refl; grey_is = e })

-- ---- all settings
abbrev pub all_settings : List Setting
all_settings = Default ∷ X ∷ Z ∷ XY ∷ D ∷ P ∷ []

abbrev pub SettingsBelow : ℕ → List Setting → ℕ → List ℕ → GroupSymbol → Type 0
SettingsBelow k ss n w t = Below (λ j. IsSettingText k (get_or ss j Default)) n w t

place_of : (s : Setting) → (j : ℕ) × (j < 6) × (s ≡ get_or all_settings j Default)
place_of Default = (0, lit< tt, refl)
place_of X = (1, lit< tt, refl)
place_of Z = (2, lit< tt, refl)
place_of XY = (3, lit< tt, refl)
place_of D = (4, lit< tt, refl)
place_of P = (5, lit< tt, refl)

pub form_all : (k : ℕ) (word : List ℕ) (a : ℕ) → IsPast (SettingsBelow k all_settings 6) word a → IsPast (IsFormText k) word a
form_all k word a h = past_within (SettingsBelow k all_settings 6) (IsFormText k) word a h
    (λ w t f. let j = place_of t.setting in (j.0, j.1, record { text = f; setting = j.2 }))
