-- Marks, and the factors behind them.
--   mark_of         what stands behind some marks of marks is a mark
--   marked_factor   behind marks that go no further stands a factor
--   behind_factor, behind_one    the same at the front of a symbol's text, where 1 may stand too
use Rattle.std.proofs.Common.{◌≡◌, ◌≢◌, ◌⊎◌, ℕ, ◌≤◌, Bool, true, false, List, [], ◌∷◌, ◌++◌, refl, sym, ap, subst}
use Rattle.std.proofs.Common.{◌∙◌, arith, inl, inr, append_assoc, lit≤}
use Rattle.std.specs.Prelude.{codes}
use Rattle.std.proofs.lemmas.List.{append-nil, append_cancel_left}
use Rattle.tensor_defs.specs.Prelude.{Marks, Atom, Factor, AreFactors, Symmetric, Antisymmetric, V, Bracketed}
use Rattle.text_defs.specs.JahnTexts.{atom_text, power_text, factor_text, AreMarks, SpellsFactors, SpellsBody, IsJahnText}
use Rattle.list_laws.proofs.Lists.{heads, tails, none_some, first_part}
use Rattle.jahn_grammar.specs.Views.{IsMark, IsDigit, AreFactorsText, HasFactor}

-- ---- marks
abbrev AllMarks : List ℕ → Type 0
AllMarks [] = Unit {0}
AllMarks (b ∷ bs) = IsMark b × AllMarks bs

marks_all : (u : List ℕ) (a m : Bool) → AreMarks u a m → AllMarks u
marks_all u false false e = rw e tt
marks_all u true false e = rw e (inr refl, tt)
marks_all u false true e = rw e (inl refl, tt)
marks_all u true true (inl e) = rw e (inl refl, (inr refl, tt))
marks_all u true true (inr e) = rw e (inr refl, (inl refl, tt))

mark_of : (m : List ℕ) (b : ℕ) (t : List ℕ) → AllMarks (m ++ (b ∷ t)) → IsMark b
mark_of [] b t h = h.0
mark_of (x ∷ m) b t h = mark_of m b t h.1

-- ---- what a factor begins with
record OtherByte (b : ℕ) : Type 0 where
  no_mark : IsMark b → ⊥
  no_one : b ≢ 49
  no_digit : IsDigit b → ⊥

other : (x b : ℕ) → 55 ≤ x → (x ≡ 97 → ⊥) → (x ≡ 101 → ⊥) → x ≡ b → OtherByte b
other x b far n97 n101 e = record {
  no_mark = λ h. elim h [ inl i ↦ n97 (e ∙ i) | inr i ↦ n101 (e ∙ i) ];
  no_one = λ i. omega arith;
  no_digit = λ d. omega (arith, d.1);
}

factor_first : (f : Factor) (r z : List ℕ) (b : ℕ) → factor_text f ++ r ≡ b ∷ z → OtherByte b
factor_first f r z b e = by_atom f.atom (power_text f.power) r e
  where
    by_atom : (a : Atom) (p r : List ℕ) → (atom_text a ++ p) ++ r ≡ b ∷ z → OtherByte b
    by_atom V p r e = other 86 b (lit≤ tt) (λ i. omega arith) (λ i. omega arith) (heads e)
    by_atom (Bracketed Symmetric a q) p r e = other 91 b (lit≤ tt) (λ i. omega arith) (λ i. omega arith) (heads e)
    by_atom (Bracketed Antisymmetric a q) p r e = other 123 b (lit≤ tt) (λ i. omega arith) (λ i. omega arith) (heads e)

pub factor_some : (f : Factor) (r : List ℕ) → [] ≡ factor_text f ++ r → ⊥
factor_some f r e = by_atom f.atom (power_text f.power) r e
  where
    by_atom : (a : Atom) (p r : List ℕ) → [] ≡ (atom_text a ++ p) ++ r → ⊥
    by_atom V p r e = none_some e
    by_atom (Bracketed k a q) p r e = none_some e

pub behind_some : (m : List ℕ) (b : ℕ) (z : List ℕ) → [] ≡ m ++ (b ∷ z) → ⊥
behind_some [] b z e = none_some e
behind_some (x ∷ m) b z e = none_some e

pub marked_some : (m : List ℕ) (f : Factor) (r : List ℕ) → [] ≡ m ++ (factor_text f ++ r) → ⊥
marked_some [] f r e = factor_some f r e
marked_some (x ∷ m) f r e = none_some e

-- no factors begin with a digit
pub digit_begins_none : (b : ℕ) (z : List ℕ) → IsDigit b → AreFactorsText (b ∷ z) → ⊥
digit_begins_none b z d ([], m, are, h) = none_some (sym h.0)
digit_begins_none b z d (f ∷ fs, m, are, h) = by_marks h.0 (marks_all h.0 h.1.axial h.1.magnetic h.2) h.6
  where
    no_mark : (x : ℕ) → IsMark x → b ≡ x → ⊥
    no_mark x (inl i) e = omega (arith, d.1)
    no_mark x (inr i) e = omega (arith, d.1)

    by_marks : (u : List ℕ) → AllMarks u → b ∷ z ≡ u ++ (factor_text f ++ h.3) → ⊥
    by_marks [] all e = (factor_first f h.3 z b (sym e)).no_digit d
    by_marks (x ∷ u) all e = no_mark x all.0 (heads e)

-- marks alone are no factors
pub marks_alone : (u : List ℕ) (a g : Bool) → AreMarks u a g → AreFactorsText u → u ≡ []
marks_alone u a g am ([], m, af, h) = h.0
marks_alone u a g am (f ∷ fs, m, af, h) =
    let P : List ℕ → Type 0 = AllMarks in
    absurd (by_head (factor_text f ++ h.3) refl (subst P h.6 (marks_all u a g am)))
  where
    by_head : (y : List ℕ) → factor_text f ++ h.3 ≡ y → AllMarks (h.0 ++ y) → ⊥
    by_head [] e all = factor_some f h.3 (sym e)
    by_head (b ∷ t) e all = (factor_first f h.3 t b e).no_mark (mark_of h.0 b t all)

-- ---- behind marks that go no further
module _ (u : List ℕ) (ax mg : Bool) (are : AreMarks u ax mg) (c : ℕ) (next : (more : List ℕ) (a m : Bool) → AreMarks (u ++ (c ∷ more)) a m → ⊥) where
  -- a text with the marks u and the byte c behind them has just these marks
  same_marks : (z m y : List ℕ) (a g : Bool) → AreMarks m a g → ((b : ℕ) (t : List ℕ) → y ≡ b ∷ t → IsMark b → ⊥) →
      u ++ (c ∷ z) ≡ m ++ y → c ∷ z ≡ y
  same_marks z m y a g am unmarked e =
      elim (first_part u (c ∷ z) m y e) [
        | inl s ↦ longer s.0 s.1
        | inr s ↦ shorter s.0 s.1
      ]
    where
      longer : (t : List ℕ) → m ≡ u ++ t → c ∷ z ≡ y
      longer [] is = append_cancel_left u (c ∷ z) y (e ∙ ap (λ (l : List ℕ). l ++ y) (is ∙ append-nil u))
      longer (b ∷ t) is =
          let both : u ++ (c ∷ z) ≡ u ++ (b ∷ (t ++ y)) = e ∙ ap (λ (l : List ℕ). l ++ y) is ∙ append_assoc u (b ∷ t) y in
          let same : c ≡ b = heads (append_cancel_left u (c ∷ z) (b ∷ (t ++ y)) both) in
          let P : List ℕ → Type 0 = λ (l : List ℕ). AreMarks l a g in
          absurd (next t a g (subst P (is ∙ ap (λ (k : ℕ). u ++ (k ∷ t)) (sym same)) am))

      shorter : (t : List ℕ) → u ≡ m ++ t → c ∷ z ≡ y
      shorter [] is = append_cancel_left m (c ∷ z) y (ap (λ (l : List ℕ). l ++ (c ∷ z)) (sym (is ∙ append-nil m)) ∙ e)
      shorter (b ∷ t) is =
          let behind : y ≡ b ∷ (t ++ (c ∷ z)) =
          append_cancel_left m y (b ∷ (t ++ (c ∷ z))) (sym e ∙ ap (λ (l : List ℕ). l ++ (c ∷ z)) is ∙ append_assoc m (b ∷ t) (c ∷ z)) in
          let P : List ℕ → Type 0 = AllMarks in
          absurd (unmarked b (t ++ (c ∷ z)) behind (mark_of m b t (subst P is (marks_all u ax mg are))))

  spelled_factor : (z : List ℕ) (f : Factor) (fs : List Factor) (m : Marks) → AreFactors (f ∷ fs) →
      SpellsFactors (u ++ (c ∷ z)) (f ∷ fs) m → HasFactor (c ∷ z)
  spelled_factor z f fs m af h = (
    f,
    af.0,
    h.3,
    same_marks z h.0 (factor_text f ++ h.3) h.1.axial h.1.magnetic h.2 (λ b t e. (factor_first f h.3 t b e).no_mark) h.6,
    (fs, h.4, af.1, h.5),
  )

  pub marked_factor : (z : List ℕ) → AreFactorsText (u ++ (c ∷ z)) → HasFactor (c ∷ z)
  marked_factor z ([], m, af, h) = absurd (behind_some u c z (sym h.0))
  marked_factor z (f ∷ fs, m, af, h) = spelled_factor z f fs m af h

  -- a text of a symbol: 1 or a factor
  behind : (z : List ℕ) → IsJahnText (u ++ (c ∷ z)) → (c ∷ z ≡ codes "1") ⊎ HasFactor (c ∷ z)
  behind z (j, h) = by_body j.factors j.marks h.are_factors h.body
    where
      not_one : (b : ℕ) (t : List ℕ) → codes "1" ≡ b ∷ t → IsMark b → ⊥
      not_one b t e (inl i) = let k : 49 ≡ b = heads e in omega arith
      not_one b t e (inr i) = let k : 49 ≡ b = heads e in omega arith

      by_body : (fs : List Factor) (m : Marks) → AreFactors fs → SpellsBody (u ++ (c ∷ z)) fs m →
          (c ∷ z ≡ codes "1") ⊎ HasFactor (c ∷ z)
      by_body [] m af (k, is, inl e) =
          let P : List ℕ → Type 0 = λ (l : List ℕ). AreMarks l m.axial m.magnetic in
          absurd (next z m.axial m.magnetic (subst P (sym e.1) is))
      by_body [] m af (k, is, inr e) = inl (same_marks z k (codes "1") m.axial m.magnetic is not_one e)
      by_body (f ∷ fs) m af h = inr (spelled_factor z f fs m af h)

  pub behind_factor : (z : List ℕ) → c ≢ 49 → IsJahnText (u ++ (c ∷ z)) → HasFactor (c ∷ z)
  behind_factor z ne t = elim (behind z t) [ inl e ↦ absurd (ne (heads e)) | inr h ↦ h ]

  pub behind_one : (z : List ℕ) → c ≡ 49 → IsJahnText (u ++ (c ∷ z)) → z ≡ []
  behind_one z one t = elim (behind z t) [ inl e ↦ tails e | inr h ↦ absurd ((factor_first h.0 h.2 z c (sym h.3)).no_one one) ]

pub factor_behind : (u : List ℕ) (own : Marks) → AreMarks u own.axial own.magnetic → (z : List ℕ) → HasFactor z →
    AreFactorsText (u ++ z)
factor_behind u own are z (f, is, rest, e, (fs, m, af, h)) =
    (f ∷ fs, record { axial = _; magnetic = _ }, (is, af), (u, own, are, rest, m, h, ap (λ (l : List ℕ). u ++ l) e, refl))

pub symbol_behind : (u : List ℕ) (own : Marks) → AreMarks u own.axial own.magnetic → (z : List ℕ) → HasFactor z →
    IsJahnText (u ++ z)
symbol_behind u own are z (f, is, rest, e, (fs, m, af, h)) = (
  record { marks = record { axial = _; magnetic = _ }; factors = f ∷ fs },
  record {
    are_factors = (is, af);
    body = (u, own, are, rest, m, h, ap (λ (l : List ℕ). u ++ l) e, refl);
  },
)
