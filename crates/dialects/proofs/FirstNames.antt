-- The names of the classes.
--   first_named      each name has a first parent
--   one_read_name    no name is read as two symbols
--   NamedBelow       S6, and the names of the parents below a number
use Rattle.list_laws.proofs.Kit.{◌≡◌, ◌⊎◌, ◌∙◌, ◌<◌, ◌≤◌, ◌+◌, ℕ, zero, suc, Bool, true, false, cond, List, max, refl, sym, ap, arith, inl, inr, cases_lt}
use Rattle.std.specs.Prelude.{codes}
use Rattle.list_laws.proofs.Prelude.{all_below, below_told, same_numbers_told, same_numbers_own}
use Rattle.tensor_defs.specs.Prelude.{same_numbers_in, GroupSymbol}
use Rattle.dialects.specs.ClassNames.{class_name, plain_symbol, IsFirstOf, IsReadName}
use Rattle.dialects.specs.Naming.{IsDialectText}
use Rattle.dialects.specs.Searches.{IsPast, IsThis}
use Rattle.dialects.proofs.Past.{past_join, past_within}

false_true : false ≡ true → ⊥
false_true e = cc

-- ---- the least number that passes a test
abbrev FirstPass : (ℕ → Bool) → ℕ → Type 0
FirstPass p n = (f : ℕ) × (f < n) × (p f ≡ true) × ((m : ℕ) → m < f → p m ≡ true → ⊥)

search_below : (p : ℕ → Bool) (n : ℕ) → FirstPass p n ⊎ ((m : ℕ) → m < n → p m ≡ true → ⊥)
search_below p zero = inr (λ m lt. absurd (omega arith))
search_below p (suc n) = from (search_below p n) (p n) refl
  where
    more : FirstPass p n → FirstPass p (suc n)
    more (f, lt, is, least) = (f, omega (arith, lt), is, least)

    from : FirstPass p n ⊎ ((m : ℕ) → m < n → p m ≡ true → ⊥) → (b : Bool) → p n ≡ b → FirstPass p (suc n) ⊎ ((m : ℕ) → m < suc n → p m ≡ true → ⊥)
    from (inl h) b e = inl (more h)
    from (inr none) true e = inl (n, omega arith, e, none)
    from (inr none) false e = inr (λ m lt is. elim (cases_lt m n) [
      | inl less ↦ none m less is
      | inr le ↦ let same : m ≡ n = omega arith in false_true (sym e ∙ sym (ap p same) ∙ is)
    ])

pub first_named : (n : ℕ) → 1 ≤ n → n ≤ 42 → (f : ℕ) × IsFirstOf (class_name n) f
first_named n first last = from (search_below named n)
  where
    named : ℕ → Bool
    named k = same_numbers_in (class_name (suc k)) (class_name n)

    from : FirstPass named n ⊎ ((m : ℕ) → m < n → named m ≡ true → ⊥) → (f : ℕ) × IsFirstOf (class_name n) f
    from (inl (k, lt, is, least)) = (
      suc k,
      record {
        first = omega arith;
        last = omega arith;
        name_is = sym (same_numbers_told (class_name (suc k)) (class_name n) is);
        least = λ m from below e. below_it m from below e;
      },
    )
      where
        below_it : (m : ℕ) → 1 ≤ m → m < suc k → class_name m ≡ class_name n → ⊥
        below_it zero one below e = omega arith
        below_it (suc m) one below e =
            least m (omega arith) (ap (λ (l : List ℕ). same_numbers_in l (class_name n)) e ∙ same_numbers_own (class_name n))
    from (inr none) = absurd (at_itself n first refl)
      where
        at_itself : (m : ℕ) → 1 ≤ m → m ≡ n → ⊥
        at_itself zero one e = omega arith
        at_itself (suc m) one e =
            none m (omega arith) (ap (λ (j : ℕ). same_numbers_in (class_name j) (class_name n)) e ∙ same_numbers_own (class_name n))

pub name_is_text : (n : ℕ) → 1 ≤ n → n ≤ 42 → IsDialectText (class_name n)
name_is_text n first last =
    let f = first_named n first last in (plain_symbol f.0, inr (inr (inl (f.0, f.1, refl))))

pub s6_is_text : IsDialectText (codes "S6")
s6_is_text = (plain_symbol 20, inr (inr (inr (refl, refl))))

-- ---- no name is read as two symbols
other_than_s6 : all_below 42 (λ k. cond (same_numbers_in (class_name (suc k)) (codes "S6")) false true) ≡ true
unfolding class_name
other_than_s6 = refl

not_s6 : (n : ℕ) → 1 ≤ n → n ≤ 42 → class_name n ≡ codes "S6" → ⊥
not_s6 zero first last e = omega arith
not_s6 (suc k) first last e =
    by (same_numbers_in (class_name (suc k)) (codes "S6"))
    (ap (λ (l : List ℕ). same_numbers_in l (codes "S6")) e ∙ same_numbers_own (codes "S6"))
    (below_told 42 (λ k. cond (same_numbers_in (class_name (suc k)) (codes "S6")) false true) other_than_s6 k (omega arith))
  where
    by : (b : Bool) → b ≡ true → cond b false true ≡ true → ⊥
    by true is e = false_true e
    by false is e = false_true is

one_first : (word : List ℕ) (n m : ℕ) → IsFirstOf word n → IsFirstOf word m → n ≡ m
one_first word n m f g = elim (cases_lt n m) [
  | inl less ↦ absurd (g.least n f.first less (sym f.name_is))
  | inr le ↦ elim (cases_lt m n) [ inl less ↦ absurd (f.least m g.first less (sym g.name_is)) | inr ge ↦ omega arith ]
]

pub one_read_name : (word : List ℕ) (t u : GroupSymbol) → IsReadName word t → IsReadName word u → t ≡ u
one_read_name word t u (inl (n, f, e)) (inl (m, g, h)) = e ∙ ap plain_symbol (one_first word n m f g) ∙ sym h
one_read_name word t u (inl (n, f, e)) (inr (s, h)) = absurd (not_s6 n f.first f.last (sym f.name_is ∙ s))
one_read_name word t u (inr (s, e)) (inl (m, g, h)) = absurd (not_s6 m g.first g.last (sym g.name_is ∙ s))
one_read_name word t u (inr (s, e)) (inr (s', h)) = e ∙ sym h

-- ---- trying one name after another
pub record IsNamed (n : ℕ) (word : List ℕ) (t : GroupSymbol) : Type 0 where
  pub first : 1 ≤ n
  pub last : n ≤ 42
  pub name : word ≡ class_name n
  pub symbol : t ≡ plain_symbol n

abbrev pub NamedBelow : ℕ → List ℕ → GroupSymbol → Type 0
NamedBelow k word t = IsThis (codes "S6") (plain_symbol 20) word t ⊎ ((n : ℕ) × (n < k) × IsNamed n word t)

pub named_none : (word : List ℕ) (a : ℕ) → IsPast (IsThis (codes "S6") (plain_symbol 20)) word a → IsPast (NamedBelow 1) word a
named_none word a p = past_within (IsThis (codes "S6") (plain_symbol 20)) (NamedBelow 1) word a p by
  where
    by : (w : List ℕ) (t : GroupSymbol) → NamedBelow 1 w t → IsThis (codes "S6") (plain_symbol 20) w t
    by w t (inl h) = h
    by w t (inr (n, lt, h)) = absurd (let one : 1 ≤ n = h.first in omega arith)

pub named_more : (word : List ℕ) (k a b : ℕ) → IsPast (NamedBelow k) word a →
    IsPast (IsThis (class_name k) (plain_symbol k)) word b → IsPast (NamedBelow (k + 1)) word (max a b)
named_more word k a b p q = past_join (NamedBelow k) (IsThis (class_name k) (plain_symbol k)) (NamedBelow (k + 1)) word a b p q by
  where
    by : (w : List ℕ) (t : GroupSymbol) → NamedBelow (k + 1) w t → NamedBelow k w t ⊎ IsThis (class_name k) (plain_symbol k) w t
    by w t (inl h) = inl (inl h)
    by w t (inr (n, lt, h)) = elim (cases_lt n k) [
      | inl less ↦ inl (inr (n, less, h))
      | inr le ↦ let same : n ≡ k = omega arith in inr (h.name ∙ ap class_name same, h.symbol ∙ ap plain_symbol same)
    ]

pub named_all : (word : List ℕ) (a : ℕ) → IsPast (NamedBelow 43) word a → IsPast IsReadName word a
named_all word a p = past_within (NamedBelow 43) IsReadName word a p by
  where
    by : (w : List ℕ) (t : GroupSymbol) → IsReadName w t → NamedBelow 43 w t
    by w t (inl (n, f, e)) = inr (n, omega (arith, f.last), record { first = f.first; last = f.last; name = f.name_is; symbol = e })
    by w t (inr h) = inl h

-- the first name that is the word
pub named_found : (word : List ℕ) (k a : ℕ) (t : GroupSymbol) → 1 ≤ k → k ≤ 42 → IsPast (NamedBelow k) word a →
    IsThis (class_name k) (plain_symbol k) word t → IsReadName word t
named_found word k a t first last p (is, tree) = inl (
  k,
  record {
    first = first;
    last = last;
    name_is = is;
    least = λ m one less e. p.none (plain_symbol m) (inr (m, less, record { first = one; last = omega arith; name = sym e; symbol = refl }));
  },
  tree,
)
