-- The furthest place of several alternatives, tried one after another.
use Rattle.list_laws.proofs.Kit.{◌≡◌, ◌≢◌, ℕ, zero, suc, ◌+◌, ◌<◌, ◌≤◌, List, [], ◌∷◌, ◌++◌, length, get_or, take, drop, refl, sym, ap, subst, ◌∙◌, arith}
use Rattle.list_laws.proofs.Kit.{inl, inr, cases_lt, get_or-take, get_or_append_left}
use Rattle.std.proofs.lemmas.List.{take-append-drop, length-append, length-take}
use Rattle.text_defs.specs.Languages.{Begins, IsFaultPlace, IsFaulty}

-- No text of the first count alternatives is the word, or begins with more than its first place bytes, and
-- these do begin a text.
pub record Furthest (Text : List ℕ → Type 0) (Alternative : ℕ → List ℕ → Type 0) (count : ℕ) (word : List ℕ) (place : ℕ) : Type 0 where
  pub within : place ≤ length word
  pub begins : Begins Text (take place word)
  pub none : (k : ℕ) → k < count → ¬ Alternative k word
  pub longest : (k : ℕ) → k < count → (n : ℕ) → n ≤ length word → place < n → ¬ Begins (Alternative k) (take n word)

-- before the first alternative, where there is a text at all
pub Furthest-start : (Text : List ℕ → Type 0) (Alternative : ℕ → List ℕ → Type 0) (word : List ℕ) →
    ((z : List ℕ) × Text z) → Furthest Text Alternative 0 word 0
Furthest-start Text Alternative word some = record {
  within = omega arith;
  begins = some;
  none = λ k lt. absurd (omega arith);
  longest = λ k lt. absurd (omega arith);
}

module _ (Text : List ℕ → Type 0) (Alternative : ℕ → List ℕ →
    Type 0) (count : ℕ) (word : List ℕ) (place : ℕ) (h : Furthest Text Alternative count word place) where
  pub Furthest-skip : ((z : List ℕ) → ¬ Alternative count z) → Furthest Text Alternative (count + 1) word place
  Furthest-skip empty = record {
    within = h.within;
    begins = h.begins;
    none = λ k lt a. elim (cases_lt k count) [ inl before ↦ h.none k before a | inr after ↦ empty word (at_last k lt after word a) ];
    longest = λ k lt n fits more b. elim (cases_lt k count) [
      | inl before ↦ h.longest k before n fits more b
      | inr after ↦ empty (take n word ++ b.0)
          (at_last k lt after (take n word ++ b.0) b.1)
    ];
  }
    where
      at_last : (k : ℕ) → k < count + 1 → count ≤ k → (z : List ℕ) → Alternative k z → Alternative count z
      at_last k lt after z a = let P : ℕ → Type 0 = λ (j : ℕ). Alternative j z in let e : k ≡ count = omega arith in subst P e a

  pub Furthest-next : (m new : ℕ) → IsFaulty (Alternative count) word m → place ≤ new → m ≤ new → new ≤ length word →
      Begins Text (take new word) → Furthest Text Alternative (count + 1) word new
  Furthest-next m new f above_place above_m fits_new begins_new = record {
    within = fits_new;
    begins = begins_new;
    none = λ k lt a. elim (cases_lt k count) [ inl before ↦ h.none k before a | inr after ↦ f.none (at_last k lt after word a) ];
    longest = λ k lt n fits more b. elim (cases_lt k count) [
      | inl before ↦ h.longest k before n fits (omega arith) b
      | inr after ↦ f.place_is.longest n fits (omega arith)
          (b.0, at_last k lt after (take n word ++ b.0) b.1)
    ];
  }
    where
      at_last : (k : ℕ) → k < count + 1 → count ≤ k → (z : List ℕ) → Alternative k z → Alternative count z
      at_last k lt after z a = let P : ℕ → Type 0 = λ (j : ℕ). Alternative j z in let e : k ≡ count = omega arith in subst P e a

  pub Furthest-stay : (m : ℕ) → IsFaulty (Alternative count) word m → m ≤ place → Furthest Text Alternative (count + 1) word place
  Furthest-stay m f le = Furthest-next m place f (omega arith) le h.within h.begins

  pub Furthest-go : (m : ℕ) → ((z : List ℕ) → Alternative count z → Text z) → IsFaulty (Alternative count) word m →
      place ≤ m → Furthest Text Alternative (count + 1) word m
  Furthest-go m to f le = Furthest-next m m f le (omega arith) f.place_is.within (f.place_is.begins.0, to _ f.place_is.begins.1)

  pub Furthest-all : ((z : List ℕ) → Text z → (k : ℕ) × (k < count) × Alternative k z) → IsFaulty Text word place
  Furthest-all covers = record {
    none = λ a. let found = covers word a in h.none found.0 found.1 found.2;
    place_is = record {
      within = h.within;
      begins = h.begins;
      longest = λ n fits more b. let found = covers (take n word ++ b.0) b.1 in h.longest found.0 found.1 n fits more (b.0, found.2);
    };
  }

-- ---- a single text

pub single_faulty : (text word : List ℕ) (n : ℕ) → n ≤ length text → n ≤ length word → take n text ≡ take n word →
    (n < length text → n < length word → get_or text n 0 ≢ get_or word n 0) → (n ≡ length text → n ≡ length word → ⊥) →
    IsFaulty (λ z. z ≡ text) word n
single_faulty text word n in_text in_word same differ part = record {
  none = λ e.
      elim (cases_lt n (length text)) [
        | inl lt ↦ differ lt (omega (arith, ap length e)) (ap (λ (l : List ℕ). get_or l n 0) (sym e))
        | inr le ↦ part (omega arith) (omega (arith, ap length e))
      ];
  place_is = record {
    within = in_word;
    begins = (drop n text, ap (λ (l : List ℕ). l ++ drop n text) (sym same) ∙ take-append-drop n text);
    longest = λ k fits more b.
        let long : k ≤ length text = omega (arith, ap length b.1, length-append (take k word) b.0, length-take k word) in
        differ (omega arith) (omega arith) (ap (λ (l : List ℕ). get_or l n 0) (sym b.1) ∙ at_front k b.0 fits more);
  };
}
  where
    at_front : (k : ℕ) (z : List ℕ) → k ≤ length word → n < k → get_or (take k word ++ z) n 0 ≡ get_or word n 0
    at_front k z fits more = get_or_append_left (take k word) z 0 n (omega (arith, length-take k word)) ∙ get_or-take k word n 0 more
