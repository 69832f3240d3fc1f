-- Searches through parts of the texts that name a symbol.
--   past_none       a part without texts
--   past_this       a text alone, by how many bytes it has in common with the word
--   past_join       two parts together
--   past_spelled    the texts that spell a symbol
--   past_all        all words that name a symbol
use Rattle.std.proofs.Common.{◌≡◌, ◌≢◌, ◌⊎◌, ◌<◌, ◌≤◌, ◌+◌, ℕ, ◌++◌, List, [], length, take, get_or, max, refl, sym, subst, arith, inl, inr, lit<, lit≤}
use Rattle.std.proofs.lemmas.Bool.{cases_lt}
use Rattle.tensor_defs.specs.Symbols.{GroupSymbol, IsGroupSymbol, parent_operators}
use Rattle.text_defs.specs.Prelude.{IsFaulty, Begins, SpellsGroup, IsGroupText, group_text}
use Rattle.fault_places.proofs.Furthest.{single_faulty}
use Rattle.group_symbol.proofs.WrittenTexts.{written_spells}
use Rattle.dialects.specs.ClassNames.{plain_symbol, IsReadName}
use Rattle.dialects.specs.LongTexts.{IsFormText}
use Rattle.dialects.specs.Naming.{Names, IsDialectText}
use Rattle.dialects.specs.Searches.{IsPast, IsThis, Below}

one_is_symbol : IsGroupSymbol (plain_symbol 1)
unfolding parent_operators
one_is_symbol = record { first = lit≤ tt; last = lit≤ tt; primes = lit< tt; plain = λ e. refl; setting = refl }

pub some_text : Begins IsDialectText []
some_text = (group_text (plain_symbol 1), (plain_symbol 1, inl (written_spells (plain_symbol 1) one_is_symbol)))

pub past_none : (P : List ℕ → GroupSymbol → Type 0) (word : List ℕ) → ((w : List ℕ) (t : GroupSymbol) → ¬ P w t) → IsPast P word 0
past_none P word none = record {
  within = omega arith;
  begins = some_text;
  none = none word;
  longest = λ t n fits more b. none (take n word ++ b.0) t b.1;
}

pub past_this : (text word : List ℕ) (tree : GroupSymbol) (n : ℕ) → IsDialectText text → n ≤ length text →
    n ≤ length word → take n text ≡ take n word → (n < length text → n < length word → get_or text n 0 ≢ get_or word n 0) →
    (n ≡ length text → n ≡ length word → ⊥) → IsPast (IsThis text tree) word n
past_this text word tree n d in_text in_word same differ part =
    let f : IsFaulty (λ z. z ≡ text) word n = single_faulty text word n in_text in_word same differ part in
    record {
      within = f.place_is.within;
      begins = (f.place_is.begins.0, subst IsDialectText (sym f.place_is.begins.1) d);
      none = λ t p. f.none p.0;
      longest = λ t m fits more b. f.place_is.longest m fits more (b.0, b.1.0);
    }

pub past_join : (P Q R : List ℕ → GroupSymbol → Type 0) (word : List ℕ) (a b : ℕ) → IsPast P word a → IsPast Q word b →
    ((w : List ℕ) (t : GroupSymbol) → R w t → P w t ⊎ Q w t) → IsPast R word (max a b)
past_join P Q R word a b p q split =
    elim (cases_lt a b) [
      | inl less ↦ let is : max a b ≡ b = omega arith in rw is (record {
        within = q.within;
        begins = q.begins;
        none = none;
        longest = λ t n fits more. longest t n fits (omega arith) more;
      })
      | inr more ↦ let is : max a b ≡ a = omega arith in rw is (record {
        within = p.within;
        begins = p.begins;
        none = none;
        longest = λ t n fits more'. longest t n fits more' (omega arith);
      })
    ]
  where
    none : (t : GroupSymbol) → ¬ R word t
    none t r = elim (split word t r) [ inl h ↦ p.none t h | inr h ↦ q.none t h ]

    longest : (t : GroupSymbol) (n : ℕ) → n ≤ length word → a < n → b < n → ¬ Begins (λ w. R w t) (take n word)
    longest t n fits past_a past_b (z, r) =
        elim (split (take n word ++ z) t r) [ inl h ↦ p.longest t n fits past_a (z, h) | inr h ↦ q.longest t n fits past_b (z, h) ]

pub past_within : (P R : List ℕ → GroupSymbol → Type 0) (word : List ℕ) (a : ℕ) → IsPast P word a →
    ((w : List ℕ) (t : GroupSymbol) → R w t → P w t) → IsPast R word a
past_within P R word a p to = record {
  within = p.within;
  begins = p.begins;
  none = λ t r. p.none t (to word t r);
  longest = λ t n fits more b. p.longest t n fits more (b.0, to (take n word ++ b.0) t b.1);
}

pub past_spelled : (word : List ℕ) (a : ℕ) → IsFaulty IsGroupText word a → IsPast SpellsGroup word a
past_spelled word a f = record {
  within = f.place_is.within;
  begins = (f.place_is.begins.0, (f.place_is.begins.1.0, inl f.place_is.begins.1.1));
  none = λ t s. f.none (t, s);
  longest = λ t n fits more b. f.place_is.longest n fits more (b.0, (t, b.1));
}

past_faulty : (word : List ℕ) (a : ℕ) → IsPast Names word a → IsFaulty IsDialectText word a
past_faulty word a p = record {
  none = λ d. p.none d.0 d.1;
  place_is = record {
    within = p.within;
    begins = p.begins;
    longest = λ n fits more b. p.longest b.1.0 n fits more (b.0, b.1.1);
  };
}

-- every word that names a symbol is in one of three parts
abbrev SpelledOrRead : List ℕ → GroupSymbol → Type 0
SpelledOrRead w t = SpellsGroup w t ⊎ IsReadName w t

covered : (w : List ℕ) (t : GroupSymbol) → Names w t → SpelledOrRead w t ⊎ Below IsFormText 8 w t
covered w t (inl s) = inl (inl s)
covered w t (inr (inl (inl f))) = inr (f.0, f.1.listed, f.1)
covered w t (inr (inl (inr h))) = inl (inl (let S : List ℕ → Type 0 = λ (z : List ℕ). SpellsGroup z t in subst S (sym h.text) (written_spells t h.symbol)))
covered w t (inr (inr n)) = inl (inr n)

pub past_all : (word : List ℕ) (a b c : ℕ) → IsFaulty IsGroupText word a → IsPast IsReadName word b →
    IsPast (Below IsFormText 8) word c → IsFaulty IsDialectText word (max (max a b) c)
past_all word a b c f q r =
    past_faulty word (max (max a b) c)
    (past_join SpelledOrRead (Below IsFormText 8) Names word (max a b) c
    (past_join SpellsGroup IsReadName SpelledOrRead word a b (past_spelled word a f) q (λ w t h. h)) r covered)

-- ---- parts that are numbered
pub below_none : (Q : ℕ → List ℕ → GroupSymbol → Type 0) (word : List ℕ) → IsPast (Below Q 0) word 0
below_none Q word = past_none (Below Q 0) word (λ w t h. let lt = h.1 in omega arith)

pub below_more : (Q : ℕ → List ℕ → GroupSymbol → Type 0) (word : List ℕ) (n a b : ℕ) → IsPast (Below Q n) word a →
    IsPast (Q n) word b → IsPast (Below Q (n + 1)) word (max a b)
below_more Q word n a b p q = past_join (Below Q n) (Q n) (Below Q (n + 1)) word a b p q split
  where
    split : (w : List ℕ) (t : GroupSymbol) → Below Q (n + 1) w t → Below Q n w t ⊎ Q n w t
    split w t (j, lt, h) = elim (cases_lt j n) [
      | inl less ↦ inl (j, less, h)
      | inr more ↦ inr (let is : j ≡ n = omega arith in let S : ℕ → Type 0 = λ (i : ℕ). Q i w t in subst S is h)
    ]
