-- The exchanges of a symbol lie within its index places, and the code lists those of its brackets.
--   append_none, body_same, whole_within    the exchanges of brackets
use Rattle.std.proofs.Common.{◌≡◌, ℕ, ◌+◌, ◌-◌, ◌*◌, ◌<◌, ◌≤◌, Bool, false, List, [], ◌∷◌, ◌++◌, length, zero, suc, arith, ap, sym, ◌∙◌, refl, subst, inl, inr, length-append}
use Rattle.std.proofs.Math.Nat.{add-mul, suc-mul, mul-le-mul_right}
use Rattle.std.proofs.lemmas.Bool.{cases_lt}
use Rattle.std.proofs.lemmas.List.{get_or_append_left, get_or-append_right, append_assoc}
use Rattle.std.proofs.lemmas.List.FromFn.{get_or-map-range_with_len, length-map-range_with_len}
use Rattle.tensor_defs.specs.Jahn.{Atom, V, Bracketed, Factor, Bracket, atom_rank, factors_rank, is_antisymmetric, repeated, brackets, body_brackets}
use Rattle.tensor_rank.specs.declared.exchanges.Exchange.{Exchange}
use Rattle.tensor_rank.specs.Within.{IsWithin, AllWithin, exchange_at}
use Rattle.tensor_rank.specs.Symmetry.{bracket_at, exchange_of, neighbours, at_each, atom_exchanges, body_exchanges, exchanges_of}

within_none : (r : ℕ) → AllWithin r []
within_none r = record { each = λ k h. absurd (omega arith) }

within_append : (r : ℕ) (a b : List Exchange) → AllWithin r a → AllWithin r b → AllWithin r (a ++ b)
within_append r a b f g = record {
  each = λ k h. elim (cases_lt k (length a)) as (λ _. IsWithin r (exchange_at (a ++ b) k)) [
    | inl p ↦
        let P : Exchange → Type 0 = IsWithin r in
        subst P (sym (get_or_append_left a b (record { first = 0; second = 0; width = 0; negates = false }) k p)) (f.each k p)
    | inr p ↦
        let P : Exchange → Type 0 = IsWithin r in
        let short : k - length a < length b = omega (arith, h, length-append a b) in
        subst P (sym (get_or-append_right a b (length a) k (record { first = 0; second = 0; width = 0; negates = false }) refl p)) (g.each (k - length a) short)
  ];
}

neighbours_within : (r s w : ℕ) (neg : Bool) (n : ℕ) → s + n * w ≤ r → AllWithin r (neighbours (bracket_at s w neg) n)
neighbours_within r s w neg n room = record {
  each = λ k h.
      let with_next : ℕ → Exchange = λ i. exchange_of (bracket_at s w neg) i (i + 1) in
      let long = length-map-range_with_len with_next 0 (n - 1) in
      let few : (k + 2) * w ≤ n * w = mul-le-mul_right w (omega (arith, long, h)) in
      let here : IsWithin r (with_next k) = record {
        apart = omega (arith, add-mul k 1 w);
        inside = omega (arith, room, few, add-mul k 1 w, add-mul k 2 w);
      } in
      let at : exchange_at (neighbours (bracket_at s w neg) n) k ≡ with_next k =
      get_or-map-range_with_len with_next 0 (n - 1) k k _ (omega (arith, long, h)) (omega arith) in
      subst (IsWithin r) (sym at) here;
}

at_each_within : (r : ℕ) (f : ℕ → List Exchange) (s w : ℕ) → ((at : ℕ) → at + w ≤ r → AllWithin r (f at)) → (n : ℕ) → s + n * w ≤ r → AllWithin r (at_each f s w n)
at_each_within r f s w each zero room = within_none r
at_each_within r f s w each (suc k) room =
    within_append r (at_each f s w k) (f (s + k * w))
    (at_each_within r f s w each k (omega (arith, room, suc-mul k w)))
    (each (s + k * w) (omega (arith, room, suc-mul k w)))

atom_within : (a : Atom) (r s : ℕ) → s + atom_rank a ≤ r → AllWithin r (atom_exchanges a s)
atom_within V r s room = within_none r
atom_within (Bracketed k a n) r s room =
    within_append r (neighbours (bracket_at s (atom_rank a) (is_antisymmetric k)) n) (at_each (atom_exchanges a) s (atom_rank a) n)
    (neighbours_within r s (atom_rank a) (is_antisymmetric k) n room)
    (at_each_within r (atom_exchanges a) s (atom_rank a) (λ at h. atom_within a r at h) n room)

body_within : (fs : List Factor) (r s : ℕ) → s + factors_rank fs ≤ r → AllWithin r (body_exchanges fs s)
body_within [] r s room = within_none r
body_within (f ∷ fs) r s room =
    within_append r (at_each (atom_exchanges f.atom) s (atom_rank f.atom) f.power) (body_exchanges fs (s + f.power * atom_rank f.atom))
    (at_each_within r (atom_exchanges f.atom) s (atom_rank f.atom) (λ at h. atom_within f.atom r at h) f.power (omega arith))
    (body_within fs r (s + f.power * atom_rank f.atom) (omega arith))

-- ---- the exchanges of brackets
exchanges_append : (xs bs : List Bracket) → exchanges_of (xs ++ bs) ≡ exchanges_of xs ++ exchanges_of bs
exchanges_append [] bs = refl
exchanges_append (a ∷ xs) bs =
    ap (λ x. neighbours a a.count ++ x) (exchanges_append xs bs)
    ∙ sym (append_assoc (neighbours a a.count) (exchanges_of xs) (exchanges_of bs))

pub append_none : (es : List Exchange) → es ++ [] ≡ es
append_none [] = refl
append_none (e ∷ es) = ap (λ x. e ∷ x) (append_none es)

-- one more place
at_each_first : (f : ℕ → List Exchange) (s w n : ℕ) → at_each f s w (suc n) ≡ f s ++ at_each f (s + w) w n
at_each_first f s w zero = ap f (omega arith) ∙ sym (append_none (f s))
at_each_first f s w (suc n) =
    let here : s + suc n * w ≡ s + w + n * w = omega (arith, suc-mul n w) in
    (λ i. at_each_first f s w n i ++ f (here i))
    ∙ append_assoc (f s) (at_each f (s + w) w n) (f (s + w + n * w))

at_each_repeated : (f : ℕ → List Exchange) (at : ℕ → List Bracket) → ((p : ℕ) → f p ≡ exchanges_of (at p)) →
    (w s n : ℕ) → at_each f s w n ≡ exchanges_of (repeated at w s n)
at_each_repeated f at same w s zero = refl
at_each_repeated f at same w s (suc n) =
    at_each_first f s w n
    ∙ (λ i. same s i ++ at_each_repeated f at same w (s + w) n i)
    ∙ sym (exchanges_append (at s) (repeated at w (s + w) n))

atom_same : (a : Atom) (s : ℕ) → atom_exchanges a s ≡ exchanges_of (brackets a s)
atom_same V s = refl
atom_same (Bracketed k a n) s =
    ap (λ x. neighbours (bracket_at s (atom_rank a) (is_antisymmetric k)) n ++ x)
    (at_each_repeated (atom_exchanges a) (brackets a) (atom_same a) (atom_rank a) s n)

pub body_same : (fs : List Factor) (s : ℕ) → body_exchanges fs s ≡ exchanges_of (body_brackets fs s)
body_same [] s = refl
body_same (f ∷ fs) s =
    (λ i. at_each_repeated (atom_exchanges f.atom) (brackets f.atom) (atom_same f.atom) (atom_rank f.atom) s f.power i
    ++ body_same fs (s + f.power * atom_rank f.atom) i)
    ∙ sym (exchanges_append (repeated (brackets f.atom) (atom_rank f.atom) s f.power) (body_brackets fs (s + f.power * atom_rank f.atom)))

pub whole_within : (fs : List Factor) (es : List Exchange) (r : ℕ) → es ≡ exchanges_of (body_brackets fs 0) →
    factors_rank fs ≡ r → AllWithin r es
whole_within fs es r shown rank =
    let room : 0 + factors_rank fs ≤ r = omega arith in
    subst (AllWithin r) (sym (shown ∙ sym (body_same fs 0))) (body_within fs r 0 room)
