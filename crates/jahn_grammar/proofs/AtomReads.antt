-- The atom at the front of a word that has one, read from the inside out.
--   Entered         the opening signs so far, and an atom behind them
--   Grown           the atom within the first opening signs
use Rattle.list_laws.proofs.Kit.{◌≡◌, ◌≢◌, ℕ, suc, ◌+◌, ◌-◌, ◌<◌, ◌≤◌, List, ◌∷◌, ◌++◌, length, get_or, drop, refl, sym, ap, subst, ◌∙◌, arith, inl, inr}
use Rattle.list_laws.proofs.Kit.{drop_more, cases_lt, drop_of_length-le}
use Rattle.tensor_defs.specs.Jahn.{BracketKind, Symmetric, Antisymmetric, Atom, V, Bracketed, IsAtom}
use Rattle.text_defs.specs.JahnTexts.{opening, closing, atom_text}
use Rattle.jahn_grammar.specs.Views.{IsOpening, IsDigit, closer}
use Rattle.jahn_grammar.proofs.Atoms.{Opens, Closes, stack, stack_more, open_in, core_in, no_end, bracket_text}

-- The first depth bytes are opening signs, and behind them stands an atom and what closes them.
pub record Entered (word : List ℕ) (depth : ℕ) : Type 0 where
  pub opens : Opens (stack word depth) (drop depth word)
  pub signs : (k : ℕ) → k < depth → IsOpening (get_or word k 0)

-- The atom within the first opening signs is read, up to at.
pub record Grown (word : List ℕ) (signs_left at : ℕ) (a : Atom) : Type 0 where
  pub closes : Closes (stack word signs_left) (drop at word)
  pub signs : (k : ℕ) → k < signs_left → IsOpening (get_or word k 0)
  pub fits : signs_left ≤ at
  pub within : at ≤ length word
  pub is_atom : IsAtom a
  pub text : drop signs_left word ≡ atom_text a ++ drop at word

module _ (word : List ℕ) (depth : ℕ) (h : Entered word depth) where
  pub Entered-within : depth < length word
  Entered-within =
      elim (cases_lt depth (length word)) [
        | inl lt ↦ lt
        | inr le ↦ absurd (let P : List ℕ → Type 0 = Opens (stack word depth) in no_end (stack word depth) (subst P (drop_of_length-le word le) h.opens))
      ]

  split : drop depth word ≡ get_or word depth 0 ∷ drop (depth + 1) word
  split = drop_more word depth 0 Entered-within

  opens_here : Opens (stack word depth) (get_or word depth 0 ∷ drop (depth + 1) word)
  opens_here = let P : List ℕ → Type 0 = Opens (stack word depth) in subst P split h.opens

  pub Entered-sign : get_or word depth 0 ≢ 86 → IsOpening (get_or word depth 0)
  Entered-sign no_core = first (opens_here.0) (opens_here.2) (opens_here.3)
    where
      heads : {x y : ℕ} {xs ys : List ℕ} → x ∷ xs ≡ y ∷ ys → x ≡ y
      heads e = cc

      first : (a : Atom) (r : List ℕ) → get_or word depth 0 ∷ drop (depth + 1) word ≡ atom_text a ++ r →
          IsOpening (get_or word depth 0)
      first V r e = absurd (no_core (heads e))
      first (Bracketed Symmetric a p) r e = inl (heads e)
      first (Bracketed Antisymmetric a p) r e = inr (heads e)

  pub Entered-more : get_or word depth 0 ≢ 86 → Entered word (depth + 1)
  Entered-more no_core =
      let is = Entered-sign no_core in
      let P : List ℕ → Type 0 = λ (os : List ℕ). Opens os (drop (depth + 1) word) in
      record {
        opens = subst P (stack_more word depth) (open_in _ _ _ is opens_here);
        signs = λ k below. elim (cases_lt k depth) [
          | inl before ↦ h.signs k before
          | inr after ↦ (let Q : ℕ →
              Type 0 = λ (j : ℕ). IsOpening (get_or word j 0) in let e : depth ≡ k = omega arith in subst Q e is)
        ];
      }

  pub Entered-core : get_or word depth 0 ≡ 86 → Grown word depth (depth + 1) V
  Entered-core is =
      let lt = Entered-within in
      let P : ℕ → Type 0 = λ (b : ℕ). Opens (stack word depth) (b ∷ drop (depth + 1) word) in
      record {
        closes = core_in (stack word depth) _ (subst P is opens_here);
        signs = h.signs;
        fits = omega arith;
        within = omega arith;
        is_atom = tt;
        text = split ∙ ap (λ (b : ℕ). b ∷ drop (depth + 1) word) is;
      }

-- what closes the innermost bracket
record Closing (o : ℕ) (os word : List ℕ) (at : ℕ) : Type 0 where
  power_in : at < length word
  digit : IsDigit (get_or word at 0)
  sign_in : at + 1 < length word
  sign : get_or word (at + 1) 0 ≡ closer o
  rest : Closes os (drop (at + 2) word)

closing_of : (o : ℕ) (os word : List ℕ) (at : ℕ) → Closes (o ∷ os) (drop at word) → Closing o os word at
closing_of o os word at c =
    elim (cases_lt at (length word)) [
      | inr le ↦ absurd (let P : List ℕ → Type 0 = Closes (o ∷ os) in subst P (drop_of_length-le word le) c)
      | inl lt ↦ elim (cases_lt (at + 1) (length word)) [
        | inr le ↦ absurd (let P : List ℕ →
            Type 0 = Closes (o ∷ os) in subst P (drop_more word at 0 lt
            ∙ ap (λ (l : List ℕ). get_or word at 0 ∷ l) (drop_of_length-le word le)) c)
        | inl lt2 ↦ both lt lt2 (let P : List ℕ →
            Type 0 = Closes (o ∷ os) in subst P (drop_more word at 0 lt
            ∙ ap (λ (l : List ℕ). get_or word at 0 ∷ l) (drop_more word (at + 1) 0 lt2)) c)
      ]
    ]
  where
    two : (n : ℕ) → n + 1 + 1 ≡ n + 2
    two n = omega arith

    both : at < length word → at + 1 < length word → Closes (o ∷ os) (get_or word at 0 ∷ get_or word (at + 1) 0 ∷ drop (at + 1 + 1) word) → Closing o os word at
    both lt lt2 c = record {
      power_in = lt;
      digit = c.0;
      sign_in = lt2;
      sign = c.1;
      rest =
          (let P : ℕ → Type 0 = λ (n : ℕ). Closes os (drop n word) in subst P (two at) c.2);
    }

module _ (word : List ℕ) (i at : ℕ) (a : Atom) (h : Grown word (suc i) at a) where
  closing_here : Closing (get_or word i 0) (stack word i) word at
  closing_here = closing_of (get_or word i 0) (stack word i) word at h.closes

  pub Grown-power_in : at < length word
  Grown-power_in = closing_here.power_in

  pub Grown-digit : IsDigit (get_or word at 0)
  Grown-digit = closing_here.digit

  pub Grown-more : (k : BracketKind) → opening k ≡ get_or word i 0 → closing k ≡ closer (get_or word i 0) →
      Grown word i (at + 2) (Bracketed k a (get_or word at 0 - 48))
  Grown-more k ko kc =
      let t = closing_here in
      let d = get_or word at 0 in
      let lt : at < length word = t.power_in in
      let lt2 : at + 1 < length word = t.sign_in in
      let power : 48 + (d - 48) ≡ d = omega (arith, t.digit.0) in
      let rest : drop at word ≡ d ∷ get_or word (at + 1) 0 ∷ drop (at + 2) word = drop_more word at 0 lt
      ∙ ap (λ (l : List ℕ). d ∷ l) (drop_more word (at + 1) 0 lt2)
      ∙ ap (λ (n : ℕ). d ∷ get_or word (at + 1) 0 ∷ drop n word) (two at) in
      let more : i < length word = omega (arith, h.fits, h.within) in
      record {
        closes = t.rest;
        signs = λ j below. h.signs j (omega arith);
        fits = omega (arith, h.fits);
        within = omega (arith, t.sign_in);
        is_atom = ((omega (arith, t.digit.0), omega (arith, t.digit.1)), h.is_atom);
        text = drop_more word i 0 more
            ∙ bracket_text (get_or word i 0) (drop (i + 1) word) k a d (get_or word (at + 1) 0) (drop (at + 2) word) ko
            power (t.sign ∙ sym kc) (ap (λ (j : ℕ). drop j word) (one_out i) ∙ h.text ∙ ap (λ (l : List ℕ). atom_text a ++ l) rest);
      }
    where
      one_out : (i : ℕ) → i + 1 ≡ suc i
      one_out i = omega arith

      two : (n : ℕ) → n + 1 + 1 ≡ n + 2
      two n = omega arith

  pub Grown-symmetric : get_or word i 0 ≡ 91 → Grown word i (at + 2) (Bracketed Symmetric a (get_or word at 0 - 48))
  Grown-symmetric is = Grown-more Symmetric (sym is) (rw is refl)

  pub Grown-antisymmetric : get_or word i 0 ≢ 91 → Grown word i (at + 2) (Bracketed Antisymmetric a (get_or word at 0 - 48))
  Grown-antisymmetric other = by_sign (h.signs i (omega arith))
    where
      by_sign : IsOpening (get_or word i 0) → Grown word i (at + 2) (Bracketed Antisymmetric a (get_or word at 0 - 48))
      by_sign (inl is) = absurd (other is)
      by_sign (inr is) = Grown-more Antisymmetric (sym is) (rw is refl)
