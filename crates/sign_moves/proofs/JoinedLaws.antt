-- The moves of two lists together lead back, and a list is kept by both exactly where each keeps it.
--   at_first, at_second    a move of the first list, and of the second
--   joined_reversible    they lead back
--   kept_by_first, kept_by_second, kept_by_both    a list is kept by both
--   first_joined, kept_again    a list without moves; another list with the same values
--   joined_tell     the law
use Rattle.list_laws.proofs.Kit.{◌≡◌, ℕ, Bool, List, ◌+◌, ◌-◌, ◌<◌, ◌≤◌, cond, arith, ap, sym, ◌∙◌, subst, inl, inr, cases_lt, lt-ltb, le-ltb}
use Rattle.sign_moves.specs.declared.classes.Entry.{Entry}
use Rattle.sign_moves.specs.Prelude.{first_at, sign_at, vanishes_at, IsFirstTable, times, signed, Moves, IsReversible, IsKept, Reaches, stay, move, joined}
use Rattle.sign_moves.specs.Prelude.{JoinedTell}
use Rattle.tensor_defs.specs.declared.Sign.{Sign}
use Rattle.tensor_defs.specs.Number.{Number}

pub at_first : (a b : Moves) (k c : ℕ) → k < a.count → (joined a b).carried k c ≡ a.carried k c
at_first a b k c h = ap (λ t. cond t (a.carried k c) (b.carried (k - a.count) c)) (lt-ltb k a.count h)

pub at_second : (a b : Moves) (k c : ℕ) → a.count ≤ k → (joined a b).carried k c ≡ b.carried (k - a.count) c
at_second a b k c h = ap (λ t. cond t (a.carried k c) (b.carried (k - a.count) c)) (le-ltb k a.count h)

sign_first : (a b : Moves) (k c : ℕ) → k < a.count → (joined a b).sign k c ≡ a.sign k c
sign_first a b k c h = ap (λ t. cond t (a.sign k c) (b.sign (k - a.count) c)) (lt-ltb k a.count h)

sign_second : (a b : Moves) (k c : ℕ) → a.count ≤ k → (joined a b).sign k c ≡ b.sign (k - a.count) c
sign_second a b k c h = ap (λ t. cond t (a.sign k c) (b.sign (k - a.count) c)) (le-ltb k a.count h)

-- a path of one of the two is a path of both
path_first : {a : Moves} (b : Moves) {c d : ℕ} {s : Sign} → Reaches a c d s → Reaches (joined a b) c d s
path_first b stay = stay
path_first {a} b {c} {d} {s = u} (move {s = s} k is path e) =
    let whole : k < a.count + b.count = omega (arith, is) in
    move k whole (subst (λ x. Reaches (joined a b) x d s) (sym (at_first a b k c is)) (path_first b path)) (e ∙ ap (λ x. times x s) (sym (sign_first a b k c is)))

path_second : (a : Moves) {b : Moves} {c d : ℕ} {s : Sign} → Reaches b c d s → Reaches (joined a b) c d s
path_second a stay = stay
path_second a {b} {c} {d} {s = u} (move {s = s} k is path e) =
    let whole : a.count + k < a.count + b.count = omega (arith, is) in
    let past : a.count ≤ a.count + k = omega arith in
    let index : a.count + k - a.count ≡ k = omega arith in
    move (a.count + k) whole
    (subst (λ x. Reaches (joined a b) x d s) (sym (at_second a b (a.count + k) c past ∙ ap (λ i. b.carried i c) index)) (path_second a path))
    (e ∙ ap (λ x. times x s) (sym (sign_second a b (a.count + k) c past ∙ ap (λ i. b.sign i c) index)))

pub joined_reversible : {n : ℕ} {a b : Moves} → IsReversible n a → IsReversible n b → IsReversible n (joined a b)
joined_reversible {n} {a} {b} f g = record {
  stays = λ k c is h. elim (cases_lt k a.count) as (λ _. (joined a b).carried k c < n) [
    | inl p ↦ let P : ℕ → Type 0 = λ x. x < n in subst P (sym (at_first a b k c p)) (f.stays k c p h)
    | inr p ↦ let P : ℕ → Type 0 = λ x. x < n in let short : k - a.count < b.count = omega arith in subst P (sym (at_second a b k c p)) (g.stays (k - a.count) c short h)
  ];
  back = λ k c is h. elim (cases_lt k a.count) as (λ _. (s : Sign) × Reaches (joined a b) ((joined a b).carried k c) c s) [
    | inl p ↦
        let there = f.back k c p h in
        (there.0, subst (λ x. Reaches (joined a b) x c there.0) (sym (at_first a b k c p)) (path_first b there.1))
    | inr p ↦
        let short : k - a.count < b.count = omega arith in
        let there = g.back (k - a.count) c short h in
        (there.0, subst (λ x. Reaches (joined a b) x c there.0) (sym (at_second a b k c p)) (path_second a there.1))
  ];
}

pub kept_by_first : {n : ℕ} {a : Moves} (b : Moves) {t : ℕ → Number} → IsKept n (joined a b) t → IsKept n a t
kept_by_first {n} {a} b {t} h = record {
  same = λ k c is l.
      let whole : k < a.count + b.count = omega (arith, is) in
      h.same k c whole l ∙ (λ i. signed (sign_first a b k c is i) (t (at_first a b k c is i)));
}

pub kept_by_second : {n : ℕ} (a : Moves) {b : Moves} {t : ℕ → Number} → IsKept n (joined a b) t → IsKept n b t
kept_by_second {n} a {b} {t} h = record {
  same = λ k c is l.
      let whole : a.count + k < a.count + b.count = omega (arith, is) in
      let past : a.count ≤ a.count + k = omega arith in
      let index : a.count + k - a.count ≡ k = omega arith in
      h.same (a.count + k) c whole l ∙ (λ i. signed (sign_second a b (a.count + k) c past i) (t (at_second a b (a.count + k) c past i))) ∙ ap (λ x. signed (b.sign x c) (t (b.carried x c))) index;
}

pub kept_by_both : {n : ℕ} {a b : Moves} {t : ℕ → Number} → IsKept n a t → IsKept n b t → IsKept n (joined a b) t
kept_by_both {n} {a} {b} {t} f g = record {
  same = λ k c is l. elim (cases_lt k a.count) as (λ _. t c ≡ signed ((joined a b).sign k c) (t ((joined a b).carried k c))) [
    | inl p ↦ f.same k c p l ∙ sym (λ i. signed (sign_first a b k c p i) (t (at_first a b k c p i)))
    | inr p ↦
        let short : k - a.count < b.count = omega arith in
        g.same (k - a.count) c short l ∙ sym (λ i. signed (sign_second a b k c p i) (t (at_second a b k c p i)))
  ];
}

-- no second moves: the first components are those of the first moves
pub first_joined : (n : ℕ) (a b : Moves) (before : ℕ → ℕ → Bool) (es : List Entry) → b.count ≡ 0 → IsFirstTable n a before es →
    IsFirstTable n (joined a b) before es
first_joined n a b before es none f = record {
  len = f.len;
  below = f.below;
  forced = λ c h v t k. f.forced c h v t (kept_by_first b k);
  follows = λ k c is h. let l : k < a.count = omega (arith, is, none) in ap (vanishes_at es) (at_first a b k c l) ∙ f.follows k c l h;
  joins = λ k c is h. let l : k < a.count = omega (arith, is, none) in ap (first_at es) (at_first a b k c l) ∙ f.joins k c l h;
  clean = λ k c is h v.
      let l : k < a.count = omega (arith, is, none) in
      f.clean k c l h v ∙ sym (λ i. times (sign_first a b k c l i) (sign_at es (at_first a b k c l i)));
  reached = λ c h. ((f.reached c h).0, path_first b (f.reached c h).1);
  least = f.least;
  own_first = f.own_first;
  own_sign = f.own_sign;
}

-- a list that agrees with a kept one
pub kept_again : {n : ℕ} {m : Moves} (t u : ℕ → Number) → IsReversible n m → ((c : ℕ) → c < n → u c ≡ t c) → IsKept n m t → IsKept n m u
kept_again {n} {m} t u back agree kept = record {
  same = λ k c is h. agree c h ∙ kept.same k c is h ∙ ap (signed (m.sign k c)) (sym (agree (m.carried k c) (back.stays k c is h)));
}

pub joined_tell : JoinedTell
joined_tell n a b = record {
  reversible = joined_reversible;
  kept = λ t. (λ h. (kept_by_first b h, kept_by_second a h), λ h. kept_by_both h.0 h.1);
}
