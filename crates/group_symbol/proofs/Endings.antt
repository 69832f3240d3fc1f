-- What stands behind the signs: the grey suffix and the suffix of a setting.
--   not_grey    where the word doesn't begin as grey
use Rattle.std.proofs.Common.{◌≡◌, ◌≢◌, ℕ, suc, ◌+◌, ◌<◌, ◌≤◌, Bool, true, false, List, [], ◌∷◌, length, get_or, refl, ap, subst, ◌∙◌, arith}
use Rattle.text_defs.specs.Prelude.{IsFaulty, IsSuffix}
use Rattle.fault_places.proofs.Places.{StopsAt, same_stop, same_stop_near, stops, faulty, Through}
use Rattle.tensor_defs.specs.declared.Setting.{Setting}
use Rattle.text_laws.proofs.GroupUnique.{suffix_first}
use Rattle.group_symbol.specs.Parts.{IsSuffixText, IsEnding, IsEndingText}
use Rattle.group_symbol.proofs.SuffixRows.{no_suffix_is_one}

-- The ending of a plain text behind 49 is grey.
ending_grey : (parent : ℕ) (plain grey : Bool) (s : Setting) (c : ℕ) (z : List ℕ) →
    IsEnding parent plain (49 ∷ c ∷ z) grey s → (c ≡ 39) × (grey ≡ true) × IsSuffix parent z s
ending_grey parent plain true s c z h =
    let is : c ∷ z ≡ 39 ∷ h.suffix = tails _ _ _ _ h.text in
    let rest : z ≡ h.suffix = tails _ _ _ _ is in
    (heads _ _ _ _ is, refl, rw rest h.is_suffix)
  where
    tails : (x : ℕ) (xs : List ℕ) (y : ℕ) (ys : List ℕ) → x ∷ xs ≡ y ∷ ys → xs ≡ ys
    tails x xs y ys e = cc

    heads : (x : ℕ) (xs : List ℕ) (y : ℕ) (ys : List ℕ) → x ∷ xs ≡ y ∷ ys → x ≡ y
    heads x xs y ys e = cc
ending_grey parent plain false s c z h = absurd (apart 49 refl (suffix_first parent s 49 (c ∷ z) (retext parent s (49 ∷ c ∷ z) h.suffix h.text h.is_suffix)))
  where
    apart : (x : ℕ) → x ≡ 49 → x ≡ 64 → ⊥
    apart x e f = omega arith

    retext : (parent : ℕ) (s : Setting) (a b : List ℕ) → a ≡ b → IsSuffix parent b s → IsSuffix parent a s
    retext parent s a b e i = rw e i

pub grey_ending : (parent : ℕ) (z : List ℕ) (s : Setting) → IsSuffix parent z s → IsEnding parent true (49 ∷ 39 ∷ z) true s
grey_ending parent z s h = record { is_plain = λ _. refl; suffix = z; is_suffix = h; text = refl }

grey_wrong_one : (parent : ℕ) → IsFaulty (IsEndingText parent true) (49 ∷ []) 1
grey_wrong_one parent = faulty (IsEndingText parent true) (49 ∷ []) 1 (λ e. never e.0.0 e.0.1 e.1) (
  refl,
  (39 ∷ [], ((true, found.0), grey_ending parent [] found.0 found.1)),
)
  where
    found : IsSuffixText parent []
    found = no_suffix_is_one parent

    apart : (x : ℕ) → x ≡ 49 → x ≡ 64 → ⊥
    apart x e f = omega arith

    retext : (s : Setting) (a b : List ℕ) → a ≡ b → IsSuffix parent b s → IsSuffix parent a s
    retext s a b e i = rw e i

    never : (grey : Bool) (s : Setting) → IsEnding parent true (49 ∷ []) grey s → ⊥
    never true s h = two_one h.suffix h.text
      where
        two_one : (z : List ℕ) → 49 ∷ [] ≡ 49 ∷ 39 ∷ z → ⊥
        two_one z e = cc
    never false s h = apart 49 refl (suffix_first parent s 49 [] (retext s (49 ∷ []) h.suffix h.text h.is_suffix))

grey_wrong_two : (parent c : ℕ) (cs : List ℕ) → c ≢ 39 → IsFaulty (IsEndingText parent true) (49 ∷ c ∷ cs) 1
grey_wrong_two parent c cs ne =
    faulty (IsEndingText parent true) (49 ∷ c ∷ cs) 1 (λ e. ne (ending_grey parent true e.0.0 e.0.1 c cs e.1).0)
    ((39 ∷ [], ((true, found.0), grey_ending parent [] found.0 found.1)), λ z e. ne (ending_grey parent true e.0.0 e.0.1 c z e.1).0)
  where
    found : IsSuffixText parent []
    found = no_suffix_is_one parent

pub grey_wrong : (parent : ℕ) (word : List ℕ) → 0 < length word → get_or word 0 0 ≡ 49 →
    (1 < length word → get_or word 1 0 ≢ 39) → IsFaulty (IsEndingText parent true) word 1
grey_wrong parent [] some is wrong = absurd (omega arith)
grey_wrong parent (b ∷ []) some is wrong = rw is (grey_wrong_one parent)
grey_wrong parent (b ∷ c ∷ cs) some is wrong = rw is (grey_wrong_two parent c cs (wrong (omega arith)))

grey_front : (parent : ℕ) (cs : List ℕ) → Through (IsEndingText parent true) (IsSuffixText parent) (49 ∷ 39 ∷ cs) 2
grey_front parent cs = record {
  within = omega arith;
  some = λ s. ((true, s.0), grey_ending parent cs s.0 s.1);
  only = λ e. (e.0.1, (ending_grey parent true e.0.0 e.0.1 39 cs e.1).2);
  stop = λ m h. subst (StopsAt (IsEndingText parent true) (49 ∷ 39 ∷ cs)) (two_more m)
      (same_stop (IsSuffixText parent) (λ z. IsEndingText parent true (49 ∷ 39 ∷ z))
      (λ z s. ((true, s.0), grey_ending parent z s.0 s.1)) (λ z e. (e.0.1, (ending_grey parent true e.0.0 e.0.1 39 z e.1).2)) cs m h);
}
  where
    two_more : (m : ℕ) → suc (suc m) ≡ 2 + m
    two_more m = omega arith

pub grey_through : (parent : ℕ) (word : List ℕ) → 2 ≤ length word → get_or word 0 0 ≡ 49 → get_or word 1 0 ≡ 39 →
    Through (IsEndingText parent true) (IsSuffixText parent) word 2
grey_through parent [] some one prime = absurd (omega arith)
grey_through parent (b ∷ []) some one prime = absurd (omega arith)
grey_through parent (b ∷ c ∷ cs) some one prime = rw (one, prime) (grey_front parent cs)

-- ---- where the word doesn't begin as grey

module _ (parent : ℕ) (plain : Bool) (word : List ℕ) (h : plain ≡ true → 0 < length word → get_or word 0 0 ≢ 49) where
  near : (c : ℕ) (cs z : List ℕ) → word ≡ c ∷ cs → (grey : Bool) (s : Setting) → IsEnding parent plain (c ∷ z) grey s → IsSuffixText parent (c ∷ z)
  near c cs z is true s e = absurd (h (e.is_plain refl) (omega (arith, ap length is)) (ap (λ (l : List ℕ). get_or l 0 0) is ∙ first c z (39 ∷ e.suffix) e.text))
    where
      first : (c : ℕ) (z more : List ℕ) → c ∷ z ≡ 49 ∷ more → c ≡ 49
      first c z more e = cc
  near c cs z is false s e = (s, rw e.text e.is_suffix)

  whole : (w : List ℕ) → word ≡ w → (grey : Bool) (s : Setting) → IsEnding parent plain w grey s → IsSuffixText parent w
  whole [] is true s e = absurd (nothing (39 ∷ e.suffix) e.text)
    where
      nothing : (more : List ℕ) → [] ≡ 49 ∷ more → ⊥
      nothing more e = cc
  whole [] is false s e = (s, rw e.text e.is_suffix)
  whole (c ∷ cs) is grey s e = near c cs cs is grey s e

  pub not_grey : (m : ℕ) → IsFaulty (IsSuffixText parent) word m → IsFaulty (IsEndingText parent plain) word m
  not_grey m f = faulty (IsEndingText parent plain) word m (λ e. f.none (whole word refl e.0.0 e.0.1 e.1))
      (same_stop_near (IsSuffixText parent) (IsEndingText parent plain)
      (λ z s. (
        (false, s.0),
        record {
          is_plain = λ clash. absurd (no_clash clash);
          suffix = z;
          is_suffix = s.1;
          text =
              refl;
        },
      )) word (λ c cs z is e. near c cs z is e.0.0 e.0.1 e.1) m (stops (IsSuffixText parent) word m f.place_is))
    where
      no_clash : false ≡ true → ⊥
      no_clash e = cc
