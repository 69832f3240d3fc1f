-- The texts of one parent's symbols.
--   few_operators, no_primes, short_text, few_count    the table of parents
--   EndingOf, EndingOf-open, symbol_is, full_text    the endings that a parent's primes allow
--   body_full, full_body    a body and its ending are a full text
--   signs_wrong    what the walk over a parent's signs tells of a word
use Rattle.list_laws.proofs.Kit.{◌≡◌, ◌≤◌, ◌<◌, ◌^◌, ◌-◌, ◌+◌, ℕ, zero, suc, Bool, true, false, cond, eqb, List, [], ◌∷◌, ◌++◌, get_or, length, drop, Result}
use Rattle.list_laws.proofs.Kit.{Ok, Err, refl, sym, ap, subst, ◌∙◌, arith, nat_le, IsTrue, inl, inr, list_all, eqb_tells, leb-true, eqb-true}
use Rattle.std.proofs.Common.{eq-eqb}
use Rattle.std.specs.Prelude.{◌&&◌}
use Rattle.list_laws.proofs.Tests.{both}
use Rattle.text_defs.specs.Prelude.{IsFaulty, operators_in, with_primes, suffix_at, IsSuffix, IsFullText, grey_text}
use Rattle.fault_places.proofs.Places.{Through, Through-faulty, faulty, same_faulty}
use Rattle.tensor_defs.specs.declared.Setting.{Setting}
use Rattle.tensor_defs.specs.Symbols.{parent_texts, parent_text, operator_count, takes_setting, IsGroupSymbol}
use Rattle.group_symbol.specs.Parts.{IsEnding, IsEndingText, IsFullTextOf}
use Rattle.group_symbol.specs.Walks.{walk}
use Rattle.text_laws.proofs.GroupUnique.{same_count, in_text, suffix_first}
use Rattle.group_symbol.proofs.Bodies.{Tails, Body, NoPrimes, IsOpen, Outcome, walk_outcome}
use Rattle.group_symbol.proofs.Closed.{Taken, walk_taken, body_spelled, spelled_body}
use Rattle.group_symbol.proofs.SuffixRows.{no_suffix_is_one}

-- ---- the table of parents

abbrev sound : List ℕ → Bool
sound [] = true
sound (s ∷ ss) = cond (eqb s 39) false (sound ss)

abbrev few_and_sound : List ℕ → Bool
few_and_sound t = cond (nat_le (operators_in 0 t) 4) (sound t) false

all_rows : (test : List ℕ → Bool) → test [] ≡ true → (rows : List (List ℕ)) → list_all test rows ≡ true → (i : ℕ) → test (get_or rows i []) ≡ true
all_rows test at_none [] all i = at_none
all_rows test at_none (r ∷ rs) all zero = (both_are (test r) (list_all test rs) all).0
  where
    both_are : (a b : Bool) → (a && b) ≡ true → (a ≡ true) × (b ≡ true)
    both_are true b e = (refl, e)
    both_are false b e = absurd cc
all_rows test at_none (r ∷ rs) all (suc i) = all_rows test at_none rs (both_are (test r) (list_all test rs) all).1 i
  where
    both_are : (a b : Bool) → (a && b) ≡ true → (a ≡ true) × (b ≡ true)
    both_are true b e = (refl, e)
    both_are false b e = absurd cc

table : list_all few_and_sound parent_texts ≡ true
unfolding operators_in
table = refl

row_holds : (n : ℕ) → few_and_sound (parent_text n) ≡ true
unfolding parent_text operators_in
row_holds n = all_rows few_and_sound refl parent_texts table (n - 1)

sound_says : (t : List ℕ) → sound t ≡ true → NoPrimes t
sound_says [] e = tt
sound_says (s ∷ ss) e =
    elim (eqb_tells s 39) [
      | inl is ↦ absurd (clash (rw is.0 at e))
      | inr isnt ↦ (isnt.1, sound_says ss (rw isnt.0 at e))
    ]
  where
    clash : false ≡ true → ⊥
    clash e = cc

pub few_operators : (n : ℕ) → operators_in 0 (parent_text n) ≤ 4
few_operators n = leb-true _ _ (both (nat_le (operators_in 0 (parent_text n)) 4) (sound (parent_text n)) (row_holds n)).0

pub no_primes : (n : ℕ) → NoPrimes (parent_text n)
no_primes n = sound_says (parent_text n) (both (nat_le (operators_in 0 (parent_text n)) 4) (sound (parent_text n)) (row_holds n)).1

-- no text has more than five signs
all_short : list_all (λ t. nat_le (length t) 5) parent_texts ≡ true
all_short = refl

pub short_text : (n : ℕ) → length (parent_text n) ≤ 5
unfolding parent_text
short_text n = leb-true _ _ (all_rows (λ t. nat_le (length t) 5) refl parent_texts all_short (n - 1))

pub few_count : (n : ℕ) → operator_count n ≤ 4
few_count n = omega (arith, same_count n, few_operators n)

-- the operators of the table are as many as the signs of the text end
counted : (n p : ℕ) → p < 2 ^ operators_in 0 (parent_text n) → p < 2 ^ operator_count n
counted n p h = subst (λ (k : ℕ). p < 2 ^ k) (sym (same_count n)) h

-- ---- the endings that a parent's primes allow

abbrev pub EndingOf : ℕ → Tails
EndingOf parent p z = IsEndingText parent (eqb p 0) z

clean_ending : (parent : ℕ) (plain grey : Bool) (s : Setting) (z : List ℕ) → IsEnding parent plain (39 ∷ z) grey s → ⊥
clean_ending parent plain true s z h = apart 39 refl (heads _ _ _ _ h.text)
  where
    heads : (x : ℕ) (xs : List ℕ) (y : ℕ) (ys : List ℕ) → x ∷ xs ≡ y ∷ ys → x ≡ y
    heads x xs y ys e = cc

    apart : (x : ℕ) → x ≡ 39 → x ≡ 49 → ⊥
    apart x e f = omega arith
clean_ending parent plain false s z h = apart 39 refl (suffix_first parent s 39 z (retext parent s (39 ∷ z) h.suffix h.text h.is_suffix))
  where
    apart : (x : ℕ) → x ≡ 39 → x ≡ 64 → ⊥
    apart x e f = omega arith

    retext : (parent : ℕ) (s : Setting) (a b : List ℕ) → a ≡ b → IsSuffix parent b s → IsSuffix parent a s
    retext parent s a b e i = rw e i

pub EndingOf-open : (parent : ℕ) → IsOpen (EndingOf parent)
EndingOf-open parent =
    let found = no_suffix_is_one parent in
    record {
      live = λ p. (
        [],
        (
          (false, found.0),
          record { is_plain = λ e. absurd (clash e); suffix = []; is_suffix = found.1; text = refl },
        ),
      );
      clean =
          λ p z e. clean_ending parent (eqb p 0) e.0.0 e.0.1 z e.1;
    }
  where
    clash : false ≡ true → ⊥
    clash e = cc

-- A suffix that the parent takes says a setting that it takes.
suffix_takes : (parent k : ℕ) → k < 7 → IsTrue ((suffix_at k).parents parent) → takes_setting parent (suffix_at k).setting ≡ true
unfolding suffix_at
suffix_takes parent zero lt t = refl
suffix_takes parent (suc zero) lt t = refl
suffix_takes parent (suc (suc zero)) lt t = t
suffix_takes parent (suc (suc (suc zero))) lt t = t
suffix_takes parent (suc (suc (suc (suc zero)))) lt t = t
suffix_takes parent (suc (suc (suc (suc (suc zero))))) lt t = t
suffix_takes parent (suc (suc (suc (suc (suc (suc zero)))))) lt t = t
suffix_takes parent (suc (suc (suc (suc (suc (suc (suc k))))))) lt t = absurd (omega arith)

pub symbol_is : (parent p : ℕ) (grey : Bool) (s : Setting) (z : List ℕ) → 1 ≤ parent → parent ≤ 42 →
    p < 2 ^ operator_count parent → IsEnding parent (eqb p 0) z grey s →
    IsGroupSymbol (record { parent = parent; primes = p; grey = grey; setting = s })
symbol_is parent p grey s z first last few h = record {
  first = first;
  last = last;
  primes = few;
  plain = λ e. eqb-true p 0 (h.is_plain e);
  setting = let i = h.is_suffix in ap (takes_setting parent) i.setting_is ∙ suffix_takes parent i.place i.listed i.taken;
}

pub full_text : (parent p : ℕ) (grey : Bool) (s : Setting) (word z : List ℕ) → 1 ≤ parent → parent ≤ 42 →
    p < 2 ^ operator_count parent → word ≡ with_primes 0 (parent_text parent) p ++ z →
    IsEnding parent (eqb p 0) z grey s → IsFullText word (record { parent = parent; primes = p; grey = grey; setting = s })
full_text parent p grey s word z first last few text h =
    record {
      symbol = symbol_is parent p grey s z first last few h;
      suffix = h.suffix;
      is_suffix = h.is_suffix;
      text =
          text ∙ ap (λ (l : List ℕ). with_primes 0 (parent_text parent) p ++ l) h.text;
    }

-- ---- a body and its ending are a full text

module _ (parent : ℕ) (first : 1 ≤ parent) (last : parent ≤ 42) (word : List ℕ) where
  pub body_full : Body 0 (parent_text parent) (EndingOf parent) word → IsFullTextOf parent word
  body_full b =
      let found = body_spelled 0 (parent_text parent) (EndingOf parent) word b in
      let e = found.4 in (
        record { parent = parent; primes = found.0; grey = e.0.0; setting = e.0.1 },
        refl,
        full_text parent found.0 e.0.0 e.0.1 word found.2 first last (counted parent found.0 found.1) found.3 e.1,
      )

  pub full_body : IsFullTextOf parent word → Body 0 (parent_text parent) (EndingOf parent) word
  full_body (t, is, h) =
      let B : ℕ → Type 0 = λ (k : ℕ). Body 0 (parent_text k) (EndingOf k) word in
      let W : List ℕ → Type 0 = λ (w : List ℕ). Body 0 (parent_text t.parent) (EndingOf t.parent) w in
      subst B is (subst W (sym h.text)
      (spelled_body 0 (parent_text t.parent) (EndingOf t.parent) t.primes (grey_text t.grey ++ h.suffix)
      (in_text t.parent t.primes h.symbol.primes) (
        (t.grey, t.setting),
        record { is_plain = λ e. eq-eqb t.primes 0 (h.symbol.plain e); suffix = h.suffix; is_suffix = h.is_suffix; text = refl },
      )))

-- ---- what the walk over a parent's signs tells of a word

module _ (parent : ℕ) (first : 1 ≤ parent) (last : parent ≤ 42) (word : List ℕ) where
  outcome : Outcome (Body 0 (parent_text parent) (EndingOf parent)) (EndingOf parent) word (walk 0 (parent_text parent) word)
  outcome = walk_outcome 0 (parent_text parent) (EndingOf parent) (EndingOf-open parent) (no_primes parent) word

  pub signs_wrong : (n : ℕ) → walk 0 (parent_text parent) word ≡ Err n → IsFaulty (IsFullTextOf parent) word n
  signs_wrong n e =
      let O : Result (ℕ × ℕ) ℕ → Type 0 = Outcome (Body 0 (parent_text parent) (EndingOf parent)) (EndingOf parent) word in
      let h = subst O e outcome in
      same_faulty (Body 0 (parent_text parent) (EndingOf parent)) (IsFullTextOf parent) (body_full parent first last)
      (full_body parent first last) word n (faulty (Body 0 (parent_text parent) (EndingOf parent)) word n h.0 h.1)

  module _ (p n : ℕ) (e : walk 0 (parent_text parent) word ≡ Ok (p, n)) where
    pub signs_through : Through (Body 0 (parent_text parent) (EndingOf parent)) (EndingOf parent p) word n
    signs_through = let O : Result (ℕ × ℕ) ℕ → Type 0 = Outcome (Body 0 (parent_text parent) (EndingOf parent)) (EndingOf parent) word in subst O e outcome

    pub signs_taken : (p < 2 ^ operator_count parent) × (word ≡ with_primes 0 (parent_text parent) p ++ drop n word)
    signs_taken =
        let O : Result (ℕ × ℕ) ℕ → Type 0 = Taken (with_primes 0 (parent_text parent)) (2 ^ operators_in 0 (parent_text parent)) word in
        let taken = subst O e (walk_taken 0 (parent_text parent) word) in
        (counted parent p taken.0, taken.1)

    pub ending_wrong : (m : ℕ) → IsFaulty (EndingOf parent p) (drop n word) m → IsFaulty (IsFullTextOf parent) word (n + m)
    ending_wrong m f = same_faulty (Body 0 (parent_text parent) (EndingOf parent)) (IsFullTextOf parent)
        (body_full parent first last) (full_body parent first last) word (n + m)
        (Through-faulty (Body 0 (parent_text parent) (EndingOf parent)) (EndingOf parent p) word n m signs_through f)

    pub ending_right : (grey : Bool) (s : Setting) → IsEnding parent (eqb p 0) (drop n word) grey s →
        IsFullText word (record { parent = parent; primes = p; grey = grey; setting = s })
    ending_right grey s h = full_text parent p grey s word (drop n word) first last signs_taken.0 signs_taken.1 h
