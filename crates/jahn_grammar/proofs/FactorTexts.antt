-- A factor at the front of a text, and a text that goes wrong in one.
--   factor_out      behind a factor whose power was read stand further factors
--   factors_wrong   a text goes wrong in its factor where it goes wrong in the atom
--   takes_power, takes_bare    the factor with and without a power behind its atom
use Rattle.list_laws.proofs.Kit.{◌≡◌, ◌≢◌, ℕ, ◌+◌, ◌-◌, ◌*◌, ◌<◌, ◌≤◌, min, List, [], ◌∷◌, ◌++◌, length, get_or, take, drop, refl, sym, ap, subst, ◌∙◌, arith}
use Rattle.list_laws.proofs.Kit.{inl, inr, lit≤, eqb_tells, ne_eqb, drop_more}
use Rattle.std.proofs.Common.{append_assoc}
use Rattle.std.proofs.lemmas.List.{take-append-drop, append-nil}
use Rattle.text_defs.specs.Prelude.{Begins, IsFaulty, atom_text, power_text, factor_text, no_marks}
use Rattle.tensor_defs.specs.Jahn.{Atom, Factor, IsAtom, IsFactor, atom_rank}
use Rattle.list_laws.proofs.Lists.{tails, first_part}
use Rattle.text_laws.proofs.JahnUnique.{one_atom}
use Rattle.jahn_grammar.specs.Views.{HasAtom, HasFactor, IsDigit, AreFactorsText, TakesFactor, AtomIs, FactorFrom}
use Rattle.jahn_grammar.proofs.Atoms.{capped}
use Rattle.jahn_grammar.proofs.Marks.{digit_begins_none}

-- the text of a power that a digit says
pub digit_text : (b : ℕ) → IsDigit b → power_text (b - 48) ≡ b ∷ []
digit_text b digit = rw (ne_eqb (b - 48) 1 (not_one b digit)) (ap (λ (d : ℕ). d ∷ []) (back b digit))
  where
    not_one : (b : ℕ) → IsDigit b → b - 48 ≡ 1 → ⊥
    not_one b digit e = omega (arith, digit.0)

    back : (b : ℕ) → IsDigit b → 48 + (b - 48) ≡ b
    back b digit = omega (arith, digit.0)

-- ---- one factor
pub no_factors : AreFactorsText []
no_factors = ([], no_marks, tt, (refl, refl))

abbrev Ends : Factor → List ℕ → Type 0
Ends f x = f.power ≡ 1 → (b : ℕ) (z : List ℕ) → x ≡ b ∷ z → IsDigit b → ⊥

power_digit : (p : ℕ) → 1 ≤ p → p ≤ 6 → p ≢ 1 → IsDigit (48 + p)
power_digit p low high ne = (omega arith, omega arith)

same_power : (f g : Factor) (x y : List ℕ) → IsFactor f → IsFactor g → Ends f x → AreFactorsText y →
    power_text f.power ++ x ≡ power_text g.power ++ y → x ≡ y
same_power f g x y is ig ends fy e =
    elim (eqb_tells f.power 1) [
      | inl a ↦ elim (eqb_tells g.power 1) [
        | inl b ↦ rw (a.0, b.0) at e
        | inr b ↦ absurd (ends a.1 (48 + g.power) y (rw (a.0, b.0) at e) (power_digit g.power ig.1 ig.2 b.1))
      ]
      | inr a ↦ elim (eqb_tells g.power 1) [
        | inl b ↦ absurd (late x (sym (rw (a.0, b.0) at e)) (power_digit f.power is.1 is.2 a.1))
        | inr b ↦ behind (rw (a.0, b.0) at e)
      ]
    ]
  where
    behind : (48 + f.power) ∷ x ≡ (48 + g.power) ∷ y → x ≡ y
    behind e = tails e

    late : (z : List ℕ) → y ≡ (48 + f.power) ∷ z → IsDigit (48 + f.power) → ⊥
    late z e d = let P : List ℕ → Type 0 = AreFactorsText in digit_begins_none (48 + f.power) z d (subst P e fy)

pub factor_out : (f : Factor) (x : List ℕ) → IsFactor f → Ends f x → HasFactor (factor_text f ++ x) → AreFactorsText x
factor_out f x is ends (g, ig, y, e, fy) =
    let atoms =
    one_atom f.atom g.atom (power_text f.power ++ x) (power_text g.power
    ++ y) (sym (append_assoc (atom_text f.atom) (power_text f.power) x) ∙ e ∙ append_assoc (atom_text g.atom) (power_text g.power) y) in
    let P : List ℕ → Type 0 = AreFactorsText in
    subst P (sym (same_power f g x y is ig ends fy atoms.1)) fy

-- ---- an atom that goes wrong
has_atom : (z : List ℕ) → HasFactor z → HasAtom z
has_atom z (f, is, rest, e, fs) = (f.atom, is.0, power_text f.power ++ rest, e ∙ append_assoc (atom_text f.atom) (power_text f.power) rest)

pub factor_has_atom : (z : List ℕ) → HasFactor z → HasAtom z
factor_has_atom z h = has_atom z h

pub factors_wrong : (v : List ℕ) (m : ℕ) → IsFaulty HasAtom v m → IsFaulty HasFactor v m
factors_wrong v m f = record {
  none = λ g. f.none (has_atom v g);
  place_is = record {
    within = f.place_is.within;
    begins = began f.place_is.begins.0 f.place_is.begins.1;
    longest = λ k fits more b. f.place_is.longest k fits more (b.0, has_atom (take k v ++ b.0) b.1);
  };
}
  where
    alone : (a : Atom) → IsAtom a → HasFactor (atom_text a)
    alone a is = (
      record { atom = a; power = 1 },
      (is, lit≤ tt, lit≤ tt),
      [],
      sym (append-nil (atom_text a)) ∙ sym (append_assoc (atom_text a) [] []),
      no_factors,
    )

    began : (more : List ℕ) → HasAtom (take m v ++ more) → Begins HasFactor (take m v)
    began more h =
        elim (first_part (take m v) more (atom_text h.0) h.2 h.3) [
          | inl s ↦ (s.0, (let P : List ℕ → Type 0 = HasFactor in subst P s.1 (alone h.0 h.1)))
          | inr s ↦ absurd (f.none (
            h.0,
            h.1,
            s.0 ++ drop m v,
            sym (take-append-drop m v)
                ∙ ap (λ (l : List ℕ). l ++ drop m v) s.1 ∙ append_assoc (atom_text h.0) s.0 (drop m v),
          ))
        ]

-- ---- a factor taken
module _ (v : List ℕ) (a : Atom) (used : ℕ) (is : IsAtom a) (within : used ≤ length v) (text : v ≡ atom_text a ++ drop used v) where
  pub takes_power : used < length v → IsDigit (get_or v used 0) →
      TakesFactor v (record { atom = a; power = get_or v used 0 - 48 }) (used + 1)
  takes_power lt digit = record {
    is_factor = (is, omega (arith, digit.0), omega (arith, digit.1));
    within = omega arith;
    text = text ∙ ap (λ (l : List ℕ). atom_text a ++ l) (drop_more v used 0 lt
        ∙ ap (λ (l : List ℕ). l ++ drop (used + 1) v) (sym (digit_text (get_or v used 0) digit)))
        ∙ sym (append_assoc (atom_text a) (power_text (get_or v used 0 - 48)) (drop (used + 1) v));
    ends = λ one. absurd (omega (arith, digit.0, one));
  }

  pub takes_bare : (used < length v → IsDigit (get_or v used 0) → ⊥) → TakesFactor v (record { atom = a; power = 1 }) used
  takes_bare none = record {
    is_factor = (is, lit≤ tt, lit≤ tt);
    within = within;
    text = text ∙ sym (append_assoc (atom_text a) [] (drop used v));
    ends = λ one lt digit. none lt digit;
  }

-- the same where the rank is counted
pub scanned_power : (word : List ℕ) (start used r new : ℕ) → AtomIs (drop start word) used r →
    used < length (drop start word) → IsDigit (get_or (drop start word) used 0) →
    new ≡ min ((get_or (drop start word) used 0 - 48) * r) 7 → FactorFrom word start (start + used + 1) new
scanned_power word start used r new a lt digit is =
    let v = drop start word in
    let p = get_or v used 0 - 48 in
    record {
      factor = record { atom = a.atom; power = p };
      used = used + 1;
      takes = takes_power v a.atom used a.is_atom a.within a.text lt digit;
      end_is = omega arith;
      rank_is = is ∙ ap (λ (k : ℕ). min (p * k) 7) a.rank_is ∙ capped p (atom_rank a.atom) (omega (arith, digit.0)) (omega (arith, digit.1));
    }

pub scanned_bare : (word : List ℕ) (start used r : ℕ) → AtomIs (drop start word) used r →
    (used < length (drop start word) → IsDigit (get_or (drop start word) used 0) → ⊥) → FactorFrom word start (start + used) r
scanned_bare word start used r a none = record {
  factor = record { atom = a.atom; power = 1 };
  used = used;
  takes = takes_bare (drop start word) a.atom used a.is_atom a.within a.text none;
  end_is = refl;
  rank_is = a.rank_is ∙ ap (λ (k : ℕ). min k 7) (once (atom_rank a.atom));
}
  where
    once : (n : ℕ) → n ≡ 1 * n
    once n = omega arith
