-- The factors of a word read into a tree, and their marks.
--   Taken           the factors so far, and the marks of all together
--   Taken-factor    behind the next marks stands a factor
--   Taken-more      one factor more
--   bare_read       a symbol without factors
use Rattle.list_laws.proofs.Kit.{◌≡◌, ℕ, ◌+◌, ◌-◌, ◌<◌, ◌≤◌, ◌≢◌, Bool, true, false, eqb, List, [], ◌∷◌, ◌++◌, length, get_or, take, drop, refl, sym, ap}
use Rattle.list_laws.proofs.Kit.{subst, ◌∙◌, arith, inl, inr, list_any, cases_lt, take_all}
use Rattle.std.proofs.lemmas.List.{length-drop, length-append}
use mathlib.Core.Bool.{xor}
use Rattle.tensor_defs.specs.Prelude.{Marks, JahnSymbol}
use Rattle.tensor_defs.specs.Jahn as defs
use Rattle.text_defs.specs.JahnTexts.{factor_text, AreMarks, SpellsBody, SpellsFactors, SpellsJahn, IsJahnText}
use Rattle.jahn_grammar.specs.declared.Factor.{Factor}
use Rattle.jahn_grammar.specs.Trees.{factor_of, factors_of}
use Rattle.jahn_grammar.specs.Views.{HasFactor, MarksAre, AreFactorsText, TakesFactor}
use Rattle.jahn_grammar.proofs.Scans.{Spelled, Spelled-marked, Marked-more, factor_next, factors_next, drop_drop}
use Rattle.jahn_grammar.proofs.Marks.{factor_behind}
use Rattle.jahn_grammar.proofs.Scans.{first_ready, marks_body, one_body, one_wrong, empty_wrong}

factors_of_snoc : (fs : List Factor) (f : Factor) → factors_of (fs ++ (f ∷ [])) ≡ factors_of fs ++ (factor_of f ∷ [])
factors_of_snoc [] f = refl
factors_of_snoc (g ∷ fs) f = ap (λ (l : List defs.Factor). factor_of g ∷ l) (factors_of_snoc fs f)

-- ---- what the marks say
take_front : (m r : List ℕ) → take (length m) (m ++ r) ≡ m
take_front [] r = refl
take_front (x ∷ m) r = ap (λ (l : List ℕ). x ∷ l) (take_front m r)

says_axial : (u : List ℕ) (a m : Bool) → AreMarks u a m → list_any (λ (y : ℕ). eqb y 101) u ≡ a
says_axial u false false e = rw e refl
says_axial u true false e = rw e refl
says_axial u false true e = rw e refl
says_axial u true true (inl e) = rw e refl
says_axial u true true (inr e) = rw e refl

says_magnetic : (u : List ℕ) (a m : Bool) → AreMarks u a m → list_any (λ (y : ℕ). eqb y 97) u ≡ m
says_magnetic u false false e = rw e refl
says_magnetic u true false e = rw e refl
says_magnetic u false true e = rw e refl
says_magnetic u true true (inl e) = rw e refl
says_magnetic u true true (inr e) = rw e refl

module _ (word : List ℕ) (n : ℕ) (h : MarksAre word n) where
  marks_front : take n word ≡ h.marks
  marks_front =
      let P : ℕ → Type 0 = λ (k : ℕ). take k word ≡ h.marks in
      subst P h.size (ap (take (length h.marks)) h.text ∙ take_front h.marks (drop n word))

  pub told_axial : list_any (λ (y : ℕ). eqb y 101) (take n word) ≡ h.axial
  told_axial = ap (λ (l : List ℕ). list_any (λ (y : ℕ). eqb y 101) l) marks_front ∙ says_axial h.marks h.axial h.magnetic h.are

  pub told_magnetic : list_any (λ (y : ℕ). eqb y 97) (take n word) ≡ h.magnetic
  told_magnetic = ap (λ (l : List ℕ). list_any (λ (y : ℕ). eqb y 97) l) marks_front ∙ says_magnetic h.marks h.axial h.magnetic h.are

-- ---- the factors so far, up to at
abbrev pub marks_of : Bool → Bool → Marks
marks_of axial magnetic = record { axial = axial; magnetic = magnetic }

pub record Taken (word : List ℕ) (at : ℕ) (fs : List Factor) (axial magnetic : Bool) : Type 0 where
  pub rest : AreFactorsText (drop at word)
  pub spelled : Spelled word at (factors_of fs) (marks_of axial magnetic)
  pub within : at ≤ length word

module _ (word : List ℕ) (at : ℕ) (fs : List Factor) (axial magnetic : Bool) (h : Taken word at fs axial magnetic) (n : ℕ) (marks : MarksAre (drop at word) n) (lt : at < length word) where
  pub Taken-factor : HasFactor (drop (at + n) word)
  Taken-factor =
      let P : List ℕ → Type 0 = HasFactor in
      subst P (drop_drop n at word) (factor_next (drop at word) n marks (omega (arith, length-drop at word)) h.rest)

  pub Taken-more : (f : Factor) (used : ℕ) → at + n ≤ length word → TakesFactor (drop (at + n) word) (factor_of f) used →
      Taken word (at + n + used) (fs ++ (f ∷ [])) (xor axial marks.axial) (xor magnetic marks.magnetic)
  Taken-more f used fits t =
      let P : List ℕ → Type 0 = HasFactor in
      let Q : List defs.Factor → Type 0 = λ (gs : List defs.Factor). Spelled word (at + n + used) gs (marks_of (xor axial marks.axial) (xor magnetic marks.magnetic)) in
      let rest = drop (at + n + used) word in
      let is : drop (at + n) word ≡ factor_text (factor_of f) ++ rest = t.text ∙ ap (λ (l : List ℕ). factor_text (factor_of f) ++ l) (drop_drop used (at + n) word) in
      let marked = Spelled-marked word at n (factors_of fs) (marks_of axial magnetic) h.spelled marks in
      record {
        rest = factors_next (drop (at + n) word) (factor_of f) used t rest (λ b bs e. (bs, drop_drop used (at + n) word ∙ e)) (subst P is Taken-factor);
        spelled = subst Q (sym (factors_of_snoc fs f)) (Marked-more word (at + n) used (factors_of fs) (marks_of axial magnetic) (marks_of marks.axial marks.magnetic) (factor_of f) marked t);
        within = omega (arith, t.within, length-drop (at + n) word);
      }

marks_fit : (v : List ℕ) (n : ℕ) → MarksAre v n → n ≤ length v
marks_fit v n h = omega (arith, h.size, ap length h.text ∙ length-append h.marks (drop n v))

-- the same for what is left of the word as a slice of its own
module _ (word : List ℕ) (at : ℕ) (fs : List Factor) (axial magnetic : Bool) (h : Taken word at fs axial magnetic) (lt : at < length word) (v : List ℕ) (is : v ≡ drop at word) (n : ℕ) (marks : MarksAre v n) where
  there : MarksAre (drop at word) n
  there = let P : List ℕ → Type 0 = λ (l : List ℕ). MarksAre l n in subst P is marks

  fits : at + n ≤ length word
  fits = omega (arith, marks_fit (drop at word) n there, length-drop at word)

  behind : take (length v - n) (drop n v) ≡ drop (at + n) word
  behind = take_all _ _ (omega (arith, length-drop n v)) ∙ ap (drop n) is ∙ drop_drop n at word

  pub slice_factor : HasFactor (take (length v - n) (drop n v))
  slice_factor = let P : List ℕ → Type 0 = HasFactor in subst P (sym behind) (Taken-factor word at fs axial magnetic h n there lt)

  pub slice_more : (f : Factor) (used : ℕ) → TakesFactor (take (length v - n) (drop n v)) (factor_of f) used → (a b : Bool) →
      a ≡ list_any (λ (y : ℕ). eqb y 101) (take n v) → b ≡ list_any (λ (y : ℕ). eqb y 97) (take n v) →
      Taken word (at + (n + used)) (fs ++ (f ∷ [])) (xor axial a) (xor magnetic b)
  slice_more f used t a b ea eb =
      let P : List ℕ → Type 0 = λ (l : List ℕ). TakesFactor l (factor_of f) used in
      let whole = Taken-more word at fs axial magnetic h n there lt f used fits (subst P behind t) in
      let axial_is : a ≡ there.axial = ea ∙ ap (λ (l : List ℕ). list_any (λ (y : ℕ). eqb y 101) (take n l)) is ∙ told_axial (drop at word) n there in
      let magnetic_is : b ≡ there.magnetic = eb ∙ ap (λ (l : List ℕ). list_any (λ (y : ℕ). eqb y 97) (take n l)) is ∙ told_magnetic (drop at word) n there in
      let A : ℕ → Type 0 = λ (k : ℕ). Taken word k (fs ++ (f ∷ [])) (xor axial a) (xor magnetic b) in
      let B : Bool → Type 0 = λ (x : Bool). Taken word (at + n + used) (fs ++ (f ∷ [])) (xor axial x) (xor magnetic b) in
      let C : Bool → Type 0 = λ (x : Bool). Taken word (at + n + used) (fs ++ (f ∷ [])) (xor axial there.axial) (xor magnetic x) in
      subst A (omega arith) (subst B (sym axial_is) (subst C (sym magnetic_is) whole))

-- ---- a symbol without factors
pub bare_read : (word : List ℕ) (front : ℕ) (h : MarksAre word front) → IsJahnText word →
    (front < length word → get_or word front 0 ≡ 49) →
    SpellsJahn word (record { marks = marks_of h.axial h.magnetic; factors = [] })
bare_read word front h spelled ends =
    elim (cases_lt front (length word)) [
      | inl lt ↦ one_body word front h lt (ends lt) (last lt)
      | inr le ↦ marks_body word front h le (λ none. (empty_wrong word (omega arith)).none spelled)
    ]
  where
    last : front < length word → front + 1 ≡ length word
    last lt =
        elim (cases_lt (front + 1) (length word)) [
          | inl more ↦ absurd ((one_wrong word front h lt (ends lt) more).none spelled)
          | inr le ↦ omega arith
        ]

pub bare_told : (word : List ℕ) (front : ℕ) → MarksAre word front → IsJahnText word →
    (front < length word → get_or word front 0 ≡ 49) → (a b : Bool) →
    a ≡ list_any (λ (y : ℕ). eqb y 101) (take front word) → b ≡ list_any (λ (y : ℕ). eqb y 97) (take front word) →
    SpellsJahn word (record { marks = marks_of a b; factors = [] })
bare_told word front h spelled ends a b ea eb =
    let A : Bool → Type 0 = λ (x : Bool). SpellsJahn word (record { marks = marks_of x b; factors = [] }) in
    let B : Bool → Type 0 = λ (x : Bool). SpellsJahn word (record { marks = marks_of h.axial x; factors = [] }) in
    subst A (sym (ea ∙ told_axial word front h))
    (subst B (sym (eb ∙ told_magnetic word front h)) (bare_read word front h spelled ends))

-- ---- a symbol with factors
pub factors_read : (word : List ℕ) (front : ℕ) → MarksAre word front → IsJahnText word → front < length word →
    get_or word front 0 ≢ 49 → AreFactorsText word
factors_read word front h spelled lt no_one =
    let P : List ℕ → Type 0 = AreFactorsText in
    let factor = (first_ready word front h lt no_one).only spelled in
    subst P (sym h.text) (factor_behind h.marks (marks_of h.axial h.magnetic) h.are (drop front word) factor)

pub marked_spelled : (word : List ℕ) (fs : List defs.Factor) (m : Marks) → defs.AreFactors fs → SpellsFactors word fs m →
    0 < length word → SpellsJahn word (record { marks = m; factors = fs })
marked_spelled word fs m are h some = record { are_factors = are; body = body fs h }
  where
    late : (w : List ℕ) → w ≡ [] → 0 < length w → ⊥
    late w e lt = let P : List ℕ → Type 0 = λ (l : List ℕ). 0 < length l in let bad = subst P e lt in omega (arith, bad)

    body : (fs : List defs.Factor) → SpellsFactors word fs m → SpellsBody word fs m
    body [] h = absurd (late word h.0 some)
    body (f ∷ fs) h = h
