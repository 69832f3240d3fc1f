-- An atom read from the left, with the word's own opening signs as the stack.
--   Closes, ClosesNow, Opens, stack    what closes the open brackets, an atom within them, the signs of the word
--   kind_of, open_in, bracket_text, core_in, no_end    one sign, one bracket, the V within, the end
--   Opened, Closed  the loops over the opening signs and over the brackets behind the V
--   capped          ranks up to 7
use Rattle.list_laws.proofs.Kit.{◌≡◌, ◌≢◌, ℕ, zero, suc, ◌+◌, ◌*◌, ◌-◌, ◌<◌, ◌≤◌, List, [], ◌∷◌, ◌++◌, length, get_or, drop, min, refl, sym, ap, subst, ◌∙◌}
use Rattle.list_laws.proofs.Kit.{arith, inl, inr, lit≤, drop_more, cases_lt}
use Rattle.std.proofs.Common.{append_assoc}
use Rattle.text_defs.specs.Prelude.{IsFaulty, opening, closing, atom_text}
use Rattle.fault_places.proofs.Places.{Through, Through-step, Through-stuck, Through-short, Through-start}
use Rattle.tensor_defs.specs.Jahn.{BracketKind, Atom, IsAtom, atom_rank, Symmetric, Antisymmetric, V, Bracketed}
use Rattle.list_laws.proofs.Lists.{heads, tails}
use Rattle.jahn_grammar.specs.Views.{HasAtom, closer, IsOpening, IsDigit}

-- The text closes the open brackets, the last one first, and then anything follows.
abbrev pub Closes : List ℕ → List ℕ → Type 0
Closes [] z = Unit {0}
Closes (o ∷ os) [] = ⊥
Closes (o ∷ os) (d ∷ []) = ⊥
Closes (o ∷ os) (d ∷ c ∷ z) = IsDigit d × (c ≡ closer o) × Closes os z

-- behind a power
abbrev pub ClosesNow : ℕ → List ℕ → List ℕ → Type 0
ClosesNow o os [] = ⊥
ClosesNow o os (c ∷ z) = (c ≡ closer o) × Closes os z

-- an atom within open brackets, and what closes them
abbrev pub Opens : List ℕ → List ℕ → Type 0
Opens os z = (a : Atom) × IsAtom a × (r : List ℕ) × (z ≡ atom_text a ++ r) × Closes os r

-- the first i opening signs of the word, the last one first
abbrev pub stack : List ℕ → ℕ → List ℕ
stack word zero = []
stack word (suc i) = get_or word i 0 ∷ stack word i

closes_live : (os : List ℕ) → (z : List ℕ) × Closes os z
closes_live [] = ([], tt)
closes_live (o ∷ os) = let h = closes_live os in (50 ∷ closer o ∷ h.0, ((lit≤ tt, lit≤ tt), refl, h.1))

opens_live : (os : List ℕ) → (z : List ℕ) × Opens os z
opens_live os = let h = closes_live os in (86 ∷ h.0, (V, tt, h.0, refl, h.1))

now_live : (o : ℕ) (os : List ℕ) → (z : List ℕ) × ClosesNow o os z
now_live o os = let h = closes_live os in (closer o ∷ h.0, (refl, h.1))

pub kind_of : (o : ℕ) → IsOpening o → (k : BracketKind) × (opening k ≡ o) × (closing k ≡ closer o)
kind_of o (inl e) = (Symmetric, sym e, rw e refl)
kind_of o (inr e) = (Antisymmetric, sym e, rw e refl)

-- One opening sign more.
pub open_in : (o : ℕ) (os z : List ℕ) → IsOpening o → Opens os (o ∷ z) → Opens (o ∷ os) z
open_in o os z h (V, is, r, text, c) = absurd (no_V o h (heads text))
  where
    no_V : (o : ℕ) → IsOpening o → o ≡ 86 → ⊥
    no_V o (inl e) f = omega arith
    no_V o (inr e) f = omega arith
open_in o os z h (Bracketed k a p, is, r, text, c) = (
  a,
  is.1,
  (48 + p) ∷ closing k ∷ r,
  tails text ∙ append_assoc (atom_text a) ((48 + p) ∷ closing k ∷ []) r,
  ((omega (arith, is.0), omega (arith, is.0)), closing_is k (heads text), c),
)
  where
    closing_is : (k : BracketKind) → o ≡ opening k → closing k ≡ closer o
    closing_is Symmetric e = rw e refl
    closing_is Antisymmetric e = rw e refl

pub bracket_text : (o : ℕ) (z : List ℕ) (k : BracketKind) (a : Atom) (d q : ℕ) (r : List ℕ) → opening k ≡ o →
    48 + (d - 48) ≡ d → q ≡ closing k → z ≡ atom_text a ++ d ∷ q ∷ r → o ∷ z ≡ atom_text (Bracketed k a (d - 48)) ++ r
bracket_text o z k a d q r ko power kq text =
    ap (λ (l : List ℕ). o ∷ l) text ∙ ap (λ (x : ℕ). x ∷ (atom_text a ++ d ∷ q ∷ r)) (sym ko)
    ∙ ap (λ (x : ℕ). opening k ∷ (atom_text a ++ x ∷ q ∷ r)) (sym power)
    ∙ ap (λ (x : ℕ). opening k ∷ (atom_text a ++ (48 + (d - 48)) ∷ x ∷ r)) kq
    ∙ ap (λ (l : List ℕ). opening k ∷ l) (sym (append_assoc (atom_text a) ((48 + (d - 48)) ∷ closing k ∷ []) r))

open_out : (o : ℕ) (os z : List ℕ) → IsOpening o → Opens (o ∷ os) z → Opens os (o ∷ z)
open_out o os z h (a, is, [], text, c) = absurd c
open_out o os z h (a, is, d ∷ [], text, c) = absurd c
open_out o os z h (a, is, d ∷ q ∷ r, text, c) =
    let k = kind_of o h in
    let power : 48 + (d - 48) ≡ d = omega (arith, c.0.0) in
    (Bracketed k.0 a (d - 48), ((omega (arith, c.0.0), omega (arith, c.0.1)), is), r, bracket_text o z k.0 a d q r k.1 power (c.1 ∙ sym k.2) text, c.2)

-- The V.
pub core_in : (os z : List ℕ) → Opens os (86 ∷ z) → Closes os z
core_in os z (V, is, r, text, c) = rw (tails text) c
core_in os z (Bracketed Symmetric a p, is, r, text, c) = absurd (apart 86 refl (heads text))
  where
    apart : (x : ℕ) → x ≡ 86 → x ≡ 91 → ⊥
    apart x e f = omega arith
core_in os z (Bracketed Antisymmetric a p, is, r, text, c) = absurd (apart 86 refl (heads text))
  where
    apart : (x : ℕ) → x ≡ 86 → x ≡ 123 → ⊥
    apart x e f = omega arith

core_out : (os z : List ℕ) → Closes os z → Opens os (86 ∷ z)
core_out os z c = (V, tt, z, refl, c)

-- No other byte begins an atom.
no_atom : (os z : List ℕ) (b : ℕ) → (IsOpening b → ⊥) → b ≢ 86 → Opens os (b ∷ z) → ⊥
no_atom os z b not_open not_core (V, is, r, text, c) = not_core (heads text)
no_atom os z b not_open not_core (Bracketed Symmetric a p, is, r, text, c) = not_open (inl (heads text))
no_atom os z b not_open not_core (Bracketed Antisymmetric a p, is, r, text, c) = not_open (inr (heads text))

pub no_end : (os : List ℕ) → Opens os [] → ⊥
no_end os (V, is, r, text, c) = let e : [] ≡ 86 ∷ r = text in cc
no_end os (Bracketed k a p, is, r, text, c) = clash text
  where
    clash : {y : ℕ} {ys : List ℕ} → [] ≡ y ∷ ys → ⊥
    clash e = cc

-- ---- the loops

-- the first depth bytes are opening signs
pub record Opened (word : List ℕ) (depth : ℕ) : Type 0 where
  pub through : Through HasAtom (Opens (stack word depth)) word depth
  pub signs : (k : ℕ) → k < depth → IsOpening (get_or word k 0)

-- The atom within the first open signs is read, up to at.
pub record Closed (word : List ℕ) (open_signs at rank : ℕ) : Type 0 where
  pub through : Through HasAtom (Closes (stack word open_signs)) word at
  pub signs : (k : ℕ) → k < open_signs → IsOpening (get_or word k 0)
  pub fits : open_signs ≤ length word
  pub atom : Atom
  pub is_atom : IsAtom atom
  pub text : drop open_signs word ≡ atom_text atom ++ drop at word
  pub rank_is : rank ≡ min (atom_rank atom) 7

pub Opened-start : (word : List ℕ) → Opened word 0
Opened-start word = record {
  through =
      Through-start HasAtom (Opens []) word (λ z h. (h.0, h.1, h.2, h.3, tt)) (λ z h. (h.0, h.1, h.2, h.3));
  signs =
      λ k lt. absurd (omega arith);
}

pub stack_more : (word : List ℕ) (i : ℕ) → stack word (suc i) ≡ stack word (i + 1)
stack_more word i = ap (stack word) (one_out i)
  where
    one_out : (i : ℕ) → suc i ≡ i + 1
    one_out i = omega arith

module _ (word : List ℕ) (depth : ℕ) (h : Opened word depth) where
  pub Opened-more : depth < length word → IsOpening (get_or word depth 0) → Opened word (depth + 1)
  Opened-more lt is = record {
    through = let P : List ℕ → Type 0 = λ (os : List ℕ). Through HasAtom (Opens os) word (depth + 1) in
        subst P (stack_more word depth)
        (Through-step HasAtom (Opens (stack word depth)) word depth h.through
        (Opens (get_or word depth 0 ∷ stack word depth)) lt (λ z. open_in _ _ z is) (λ z. open_out _ _ z is));
    signs = λ k below. elim (cases_lt k depth) [
      | inl before ↦ h.signs k before
      | inr after ↦ (let P : ℕ →
          Type 0 = λ (j : ℕ). IsOpening (get_or word j 0) in let e : depth ≡ k = omega arith in subst P e is)
    ];
  }

  pub Opened-wrong : depth < length word → (IsOpening (get_or word depth 0) → ⊥) → get_or word depth 0 ≢ 86 → IsFaulty HasAtom word depth
  Opened-wrong lt not_open not_core =
      Through-stuck HasAtom (Opens (stack word depth)) word depth h.through lt (opens_live (stack word depth))
      (λ z. no_atom (stack word depth) z (get_or word depth 0) not_open not_core)

  pub Opened-short : length word ≤ depth → IsFaulty HasAtom word depth
  Opened-short le = Through-short HasAtom (Opens (stack word depth)) word depth h.through le (opens_live (stack word depth)) (no_end (stack word depth))

  pub Closed-start : depth < length word → get_or word depth 0 ≡ 86 → Closed word depth (depth + 1) 1
  Closed-start lt is = record {
    through = Through-step HasAtom (Opens (stack word depth)) word depth h.through (Closes (stack word depth)) lt
        (λ z o. core_in (stack word depth) z (let P : ℕ → Type 0 = λ (b : ℕ). Opens (stack word depth) (b ∷ z) in
        subst P is o)) (λ z c. let P : ℕ → Type 0 = λ (b : ℕ). Opens (stack word depth) (b ∷ z) in
        subst P (sym is) (core_out (stack word depth) z c));
    signs = h.signs;
    fits = omega arith;
    atom = V;
    is_atom = tt;
    text = drop_more word depth 0 lt ∙ ap (λ (b : ℕ). b ∷ drop (depth + 1) word) is;
    rank_is = refl;
  }

power_in : (o b : ℕ) (os z : List ℕ) → Closes (o ∷ os) (b ∷ z) → ClosesNow o os z
power_in o b os [] c = absurd c
power_in o b os (x ∷ z) c = (c.1, c.2)

power_out : (o b : ℕ) (os z : List ℕ) → IsDigit b → ClosesNow o os z → Closes (o ∷ os) (b ∷ z)
power_out o b os [] d c = absurd c
power_out o b os (x ∷ z) d c = (d, c.0, c.1)

power_is : (o b : ℕ) (os z : List ℕ) → Closes (o ∷ os) (b ∷ z) → IsDigit b
power_is o b os [] c = absurd c
power_is o b os (x ∷ z) c = c.0

-- the rank of a bracket, capped
pub capped : (p r : ℕ) → 2 ≤ p → p ≤ 6 → min (p * min r 7) 7 ≡ min (p * r) 7
capped zero r low high = absurd (omega arith)
capped (suc zero) r low high = absurd (omega arith)
capped (suc (suc zero)) r low high = omega arith
capped (suc (suc (suc zero))) r low high = omega arith
capped (suc (suc (suc (suc zero)))) r low high = omega arith
capped (suc (suc (suc (suc (suc zero))))) r low high = omega arith
capped (suc (suc (suc (suc (suc (suc zero)))))) r low high = omega arith
capped (suc (suc (suc (suc (suc (suc (suc p))))))) r low high = absurd (omega arith)

module _ (word : List ℕ) (i at rank : ℕ) (h : Closed word (suc i) at rank) where
  pub Closed-no_power : (at < length word → IsDigit (get_or word at 0) → ⊥) → IsFaulty HasAtom word at
  Closed-no_power wrong =
      elim (cases_lt at (length word)) [
        | inl lt ↦ Through-stuck HasAtom (Closes (stack word (suc i))) word at h.through lt
            (closes_live (stack word (suc i))) (λ z c. wrong lt (power_is (get_or word i 0) (get_or word at 0) (stack word i) z c))
        | inr le ↦ Through-short HasAtom (Closes (stack word (suc i))) word at h.through le (closes_live (stack word (suc i))) (λ c. c)
      ]

  behind_power : at < length word → IsDigit (get_or word at 0) → Through HasAtom (ClosesNow (get_or word i 0) (stack word i)) word (at + 1)
  behind_power lt digit = Through-step HasAtom (Closes (stack word (suc i))) word at h.through
      (ClosesNow (get_or word i 0) (stack word i)) lt
      (λ z. power_in (get_or word i 0) (get_or word at 0) (stack word i) z)
      (λ z. power_out (get_or word i 0) (get_or word at 0) (stack word i) z digit)

  pub Closed-no_sign : at < length word → IsDigit (get_or word at 0) →
      (at + 1 < length word → get_or word (at + 1) 0 ≢ closer (get_or word i 0)) → IsFaulty HasAtom word (at + 1)
  Closed-no_sign lt digit wrong =
      elim (cases_lt (at + 1) (length word)) [
        | inl lt2 ↦ Through-stuck HasAtom (ClosesNow (get_or word i 0) (stack word i)) word (at + 1)
            (behind_power lt digit) lt2 (now_live (get_or word i 0) (stack word i)) (λ z c. wrong lt2 c.0)
        | inr le ↦ Through-short HasAtom (ClosesNow (get_or word i 0) (stack word i)) word (at + 1)
            (behind_power lt digit) le (now_live (get_or word i 0) (stack word i)) (λ c. c)
      ]

  pub Closed-more : (new : ℕ) → at < length word → IsDigit (get_or word at 0) → at + 1 < length word →
      get_or word (at + 1) 0 ≡ closer (get_or word i 0) → new ≡ min ((get_or word at 0 - 48) * rank) 7 → Closed word i (at + 1 + 1) new
  Closed-more new lt digit lt2 sign is =
      let k = kind_of (get_or word i 0) (h.signs i (omega arith)) in
      let power : 48 + (get_or word at 0 - 48) ≡ get_or word at 0 = omega (arith, digit.0) in
      let rest : drop at word ≡ get_or word at 0 ∷ get_or word (at + 1) 0 ∷ drop (at + 1 + 1) word =
      drop_more word at 0 lt ∙ ap (λ (l : List ℕ). get_or word at 0 ∷ l) (drop_more word (at + 1) 0 lt2) in
      let low : 2 ≤ get_or word at 0 - 48 = omega (arith, digit.0) in
      let high : get_or word at 0 - 48 ≤ 6 = omega (arith, digit.1) in
      let more : i < length word = omega (arith, h.fits) in
      record {
        through = Through-step HasAtom (ClosesNow (get_or word i 0) (stack word i)) word (at + 1)
            (behind_power lt digit) (Closes (stack word i)) lt2 (λ z c. c.1) (λ z c. (sign, c));
        signs = λ j below. h.signs j (omega arith);
        fits = omega (arith, h.fits);
        atom = Bracketed k.0 h.atom (get_or word at 0 - 48);
        is_atom = ((low, high), h.is_atom);
        text = drop_more word i 0 more
            ∙ bracket_text (get_or word i 0) (drop (i + 1) word) k.0 h.atom (get_or word at 0) (get_or word (at + 1) 0)
            (drop (at + 1 + 1) word) k.1 power (sign ∙ sym k.2) (ap (λ (j : ℕ). drop j word) (one_out i) ∙ h.text
            ∙ ap (λ (l : List ℕ). atom_text h.atom ++ l) rest);
        rank_is = is ∙ ap (λ (r : ℕ). min ((get_or word at 0 - 48) * r) 7) h.rank_is ∙ capped (get_or word at 0 - 48) (atom_rank h.atom) low high;
      }
    where
      one_out : (i : ℕ) → i + 1 ≡ suc i
      one_out i = omega arith
