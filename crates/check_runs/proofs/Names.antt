-- Words that begin with the name of a component.
--   number_more     one digit more behind an index
--   digits_more     one digit more behind a name
--   next_digit, whole_name    two texts that begin with names: the next digit, or the same name
--   by_index, index_setting     a setting by its index
--   stuck_start, stuck_digit, stuck_equals, faulty_number    where a word goes wrong
--   HasRead         the digits that were read, and the number of their index
--   one_setting     a word gives one number to one component
use Rattle.list_laws.proofs.Kit.{◌≡◌, ◌∙◌, ℕ, zero, suc, ◌+◌, ◌-◌, ◌*◌, ◌^◌, ◌<◌, ◌≤◌, List, [], ◌∷◌, ◌++◌, length, map, take, drop, get_or, refl, sym, ap}
use Rattle.list_laws.proofs.Kit.{subst, arith, inl, inr, cases_lt, drop_more, pow-succ'}
use Rattle.std.proofs.lemmas.List.{append_assoc, length-append}
use Rattle.tensor_defs.specs.Prelude.{Number, mul, root_3, Axis, x1, x2, x3, Index, axis_place, digit, component_number, index_of}
use Rattle.tensor_defs.specs.declared.Sign.TheVariants.{Plus}
use Rattle.tensor_laws.proofs.ComponentNumbers.{length-index_of}
use Rattle.tensor_rank.proofs.ExchangeLaws.{power_small}
use Rattle.tensor_rank.specs.IndexLaws.{component_below_at, index_number_at, number_index_at, place_below}
use Rattle.text_defs.specs.Prelude.{component_name, digits_text, IsFaulty}
use Rattle.list_laws.proofs.Tests.{next_number}
use Rattle.fault_places.proofs.Places.{Through, Through-faulty, Through-short, Through-skip, Through-start, Through-stuck, same_faulty}
use Rattle.number_words.specs.Laws.{OneNumber}
use Rattle.number_words.specs.NumberWords.{IsNumberText, SpellsNumber, root_word, size}
use Rattle.number_words.specs.Runs.{IsAt}
use Rattle.number_words.proofs.Languages.{rest_is}
use Rattle.check_runs.specs.Readers.{IsNamed}
use Rattle.check_runs.specs.Settings.{Given, IsSetting, Sets}

heads : {x : ℕ} {xs : List ℕ} {y : ℕ} {ys : List ℕ} → x ∷ xs ≡ y ∷ ys → x ≡ y
heads e = cc

tails : {x : ℕ} {xs : List ℕ} {y : ℕ} {ys : List ℕ} → x ∷ xs ≡ y ∷ ys → xs ≡ ys
tails e = cc

abbrev pub digits_of : Index → List ℕ
digits_of is = digits_text (map digit is)

pub length_digits : (is : Index) → length (digits_of is) ≡ length is
length_digits [] = refl
length_digits (i ∷ is) = ap suc (length_digits is)

pub name_length : (is : Index) (z : List ℕ) → length (component_name is ++ z) ≡ 1 + length is + length z
name_length is z = length-append (component_name is) z ∙ ap (λ (n : ℕ). n + length z) (ap suc (length_digits is) ∙ next_number (length is))

same_axis : (i k : Axis) → 48 + digit i ≡ 48 + digit k → i ≡ k
same_axis x1 x1 e = refl
same_axis x1 x2 e = absurd (omega arith)
same_axis x1 x3 e = absurd (omega arith)
same_axis x2 x1 e = absurd (omega arith)
same_axis x2 x2 e = refl
same_axis x2 x3 e = absurd (omega arith)
same_axis x3 x1 e = absurd (omega arith)
same_axis x3 x2 e = absurd (omega arith)
same_axis x3 x3 e = refl

pub number_more : (is : Index) (i : Axis) → component_number (is ++ i ∷ []) ≡ 3 * component_number is + axis_place i
number_more [] x1 = refl
number_more [] x2 = refl
number_more [] x3 = refl
number_more (k ∷ is) i = more k (3 ^ length is) (component_number is) (axis_place i) (3 ^ length (is ++ i ∷ [])) (component_number (is ++ i ∷ [])) power (number_more is i)
  where
    power : 3 ^ length (is ++ i ∷ []) ≡ 3 * 3 ^ length is
    power = ap (λ (n : ℕ). 3 ^ n) (length-append is (i ∷ [])) ∙ ap (λ (n : ℕ). 3 ^ n) (plus_one (length is)) ∙ pow-succ' 3 (length is)
      where
        plus_one : (n : ℕ) → n + 1 ≡ suc n
        plus_one n = omega arith

    more : (k : Axis) (p c a q d : ℕ) → q ≡ 3 * p → d ≡ 3 * c + a → axis_place k * q + d ≡ 3 * (axis_place k * p + c) + a
    more x1 p c a q d e f = omega arith
    more x2 p c a q d e f = omega arith
    more x3 p c a q d e f = omega arith

pub digits_more : (is : Index) (i : Axis) → digits_of (is ++ i ∷ []) ≡ digits_of is ++ (48 + digit i) ∷ []
digits_more [] i = refl
digits_more (k ∷ is) i = ap (λ (l : List ℕ). (48 + digit k) ∷ l) (digits_more is i)

pub next_digit : (is js : Index) (b : ℕ) (z text : List ℕ) → length is < length js →
    digits_of is ++ b ∷ z ≡ digits_of js ++ 61 ∷ text → (i : Axis) × (b ≡ 48 + digit i)
next_digit is [] b z text less e = absurd (omega arith)
next_digit [] (k ∷ js) b z text less e = (k, heads e)
next_digit (i ∷ is) (k ∷ js) b z text less e = next_digit is js b z text (omega (arith, less)) (tails e)

pub record SameName (is js : Index) (b : ℕ) (z text : List ℕ) : Type 0 where
  pub index : is ≡ js
  pub byte : b ≡ 61
  pub rest : z ≡ text

pub whole_name : (is js : Index) (b : ℕ) (z text : List ℕ) → length is ≡ length js →
    digits_of is ++ b ∷ z ≡ digits_of js ++ 61 ∷ text → SameName is js b z text
whole_name [] [] b z text same e = record { index = refl; byte = heads e; rest = tails e }
whole_name [] (k ∷ js) b z text same e = absurd (omega (arith, same))
whole_name (i ∷ is) [] b z text same e = absurd (omega (arith, same))
whole_name (i ∷ is) (k ∷ js) b z text same e =
    let rest = whole_name is js b z text (omega (arith, same)) (tails e) in
    let first : i ≡ k = same_axis i k (heads e) in
    record { index = λ x. first x ∷ rest.index x; byte = rest.byte; rest = rest.rest }

-- ---- settings by index lists
pub record IndexSets (r : ℕ) (word : List ℕ) (is : Index) (text : List ℕ) (x : Number) : Type 0 where
  pub size : length is ≡ r
  pub word_is : word ≡ component_name is ++ 61 ∷ text
  pub spelled : SpellsNumber text x

pub by_index : (r : ℕ) (word : List ℕ) (p : Given) → (s : Sets r word p) → IndexSets r word (index_of r p.component) s.text p.number
by_index r word p s = record { size = length-index_of r p.component; word_is = s.word_is; spelled = s.spelled }

pub index_setting : (r : ℕ) (word : List ℕ) (is : Index) (text : List ℕ) (x : Number) → IndexSets r word is text x → IsSetting r word
index_setting r word is text x s = (
  record { component = component_number is; number = x },
  record {
    below = component_below_at r is s.size;
    text = text;
    word_is = s.word_is ∙ ap (λ (k : Index). component_name k ++ 61 ∷ text) (sym (index_number_at r is s.size));
    spelled = s.spelled;
  },
)

-- ---- where words go wrong
ones : ℕ → Index
ones zero = []
ones (suc n) = x1 ∷ ones n

length_ones : (n : ℕ) → length (ones n) ≡ n
unfolding ones
length_ones zero = refl
length_ones (suc n) = ap suc (length_ones n)

digits_append : (is js : Index) → digits_of (is ++ js) ≡ digits_of is ++ digits_of js
digits_append [] js = refl
digits_append (i ∷ is) js = ap (λ (l : List ℕ). (48 + digit i) ∷ l) (digits_append is js)

some_number : IsNumberText root_word
some_number = (mul (size Plus 1 1) root_3, inl (inr (inl (1, 1, inl (refl, refl, refl), refl))))

module _ (r : ℕ) (is : Index) where
  abbrev Behind : List ℕ → Type 0
  Behind z = IsSetting r (component_name is ++ z)

  live : length is ≤ r → (z : List ℕ) × Behind z
  live fits = (
    digits_of (ones (r - length is)) ++ 61 ∷ root_word,
    index_setting r _ (is ++ (ones (r - length is))) root_word some_number.0 (record {
      size = length-append is (ones (r - length is)) ∙ ap (λ (n : ℕ). length is + n) (length_ones (r - length is)) ∙ omega arith;
      word_is = ap (λ (l : List ℕ). 84 ∷ l)
          (sym (append_assoc (digits_of is) (digits_of (ones (r - length is))) (61 ∷ root_word))
          ∙ ap (λ (l : List ℕ). l ++ 61 ∷ root_word) (sym (digits_append is (ones (r - length is)))));
      spelled = some_number.1;
    }),
  )

  behind_name : (word : List ℕ) (k : ℕ) → length is ≡ k → word ≡ component_name is ++ drop (1 + k) word →
      Through (IsSetting r) Behind word (1 + k)
  behind_name word k same front =
      subst (λ (n : ℕ). Through (IsSetting r) Behind word n) size
      (Through-skip (IsSetting r) (component_name is) (IsSetting r) word 0
      (Through-start (IsSetting r) (IsSetting r) word (λ z a. a) (λ z a. a)) (drop (1 + k) word) front)
    where
      size : 0 + length (component_name is) ≡ 1 + k
      size = let e : length (digits_of is) ≡ length is = length_digits is in omega arith

  fault_here : (word : List ℕ) (k : ℕ) → length is ≡ k → k ≤ r → word ≡ component_name is ++ drop (1 + k) word →
      ((b : ℕ) (z : List ℕ) → Behind (b ∷ z) → IsAt word (1 + k) b → ⊥) → IsFaulty (IsSetting r) word (1 + k)
  fault_here word k same fits front never = elim (cases_lt (1 + k) (length word)) [
    | inl lt ↦ Through-stuck (IsSetting r) Behind word (1 + k) (behind_name word k same front) lt (live (omega arith))
        (λ z a. never (get_or word (1 + k) 0) z a (lt, refl))
    | inr le ↦ Through-short (IsSetting r) Behind word (1 + k) (behind_name word k same front) le (live (omega arith)) none
  ]
    where
      none : Behind [] → ⊥
      none (p, s) =
          let e : 1 + length is + 0 ≡ 1 + length (index_of r p.component) + suc (length s.text) =
          sym (name_length is []) ∙ ap length s.word_is ∙ name_length (index_of r p.component) (61 ∷ s.text) in
          let d : length (index_of r p.component) ≡ r = length-index_of r p.component in
          omega arith

  pub stuck_digit : (word : List ℕ) (k : ℕ) → length is ≡ k → k < r → word ≡ component_name is ++ drop (1 + k) word →
      ((i : Axis) → IsAt word (1 + k) (48 + digit i) → ⊥) → IsFaulty (IsSetting r) word (1 + k)
  stuck_digit word k same less front absent = fault_here word k same (omega arith) front never
    where
      never : (b : ℕ) (z : List ℕ) → Behind (b ∷ z) → IsAt word (1 + k) b → ⊥
      never b z (p, s) at =
          let d : length (index_of r p.component) ≡ r = length-index_of r p.component in
          let next = next_digit is (index_of r p.component) b z s.text (omega arith) (tails s.word_is) in
          absent next.0 (at.0, at.1 ∙ next.1)

  pub stuck_equals : (word : List ℕ) → length is ≡ r → word ≡ component_name is ++ drop (1 + r) word →
      (IsAt word (1 + r) 61 → ⊥) → IsFaulty (IsSetting r) word (1 + r)
  stuck_equals word same front absent = fault_here word r same (omega arith) front never
    where
      never : (b : ℕ) (z : List ℕ) → Behind (b ∷ z) → IsAt word (1 + r) b → ⊥
      never b z (p, s) at =
          let found = whole_name is (index_of r p.component) b z s.text (same ∙ sym (length-index_of r p.component)) (tails s.word_is) in
          absent (at.0, at.1 ∙ found.byte)

pub stuck_start : (r : ℕ) (word : List ℕ) → (IsAt word 0 84 → ⊥) → IsFaulty (IsSetting r) word 0
stuck_start r word absent = elim (cases_lt 0 (length word)) [
  | inl lt ↦ Through-stuck (IsSetting r) (IsSetting r) word 0 start lt some (λ z a. absent (lt, heads (a.1.word_is)))
  | inr le ↦ Through-short (IsSetting r) (IsSetting r) word 0 start le some (λ a. none a.0 a.1)
]
  where
    start : Through (IsSetting r) (IsSetting r) word 0
    start = Through-start (IsSetting r) (IsSetting r) word (λ z a. a) (λ z a. a)

    some : (z : List ℕ) × IsSetting r z
    some = let l = live r [] (omega arith) in (component_name [] ++ l.0, l.1)

    none : (p : Given) → Sets r [] p → ⊥
    none p s =
        let e : 0 ≡ length (component_name (index_of r p.component) ++ 61 ∷ s.text) = ap length s.word_is in
        omega arith

-- ---- the number behind a name
abbrev front : ℕ → ℕ → List ℕ
front r c = component_name (index_of r c) ++ 61 ∷ []

pub faulty_number : (r : ℕ) (word : List ℕ) (c m : ℕ) → IsNamed r word c → IsFaulty IsNumberText (drop (r + 2) word) m →
    IsFaulty (IsSetting r) word (r + 2 + m)
faulty_number r word c m named h =
    subst (λ (n : ℕ). IsFaulty (IsSetting r) word (n + m)) size
    (Through-faulty (IsSetting r) (λ z. IsSetting r (front r c ++ z)) word (0 + length (front r c)) m
    (Through-skip (IsSetting r) (front r c) (IsSetting r) word 0
    (Through-start (IsSetting r) (IsSetting r) word (λ z a. a) (λ z a. a)) (drop (r + 2) word) (named.word_is ∙ sym (regroup (drop (r + 2) word))))
    (subst (λ (n : ℕ). IsFaulty (λ z. IsSetting r (front r c ++ z)) (drop n word) m) (sym size)
    (same_faulty IsNumberText (λ z. IsSetting r (front r c ++ z)) from to (drop (r + 2) word) m h)))
  where
    regroup : (z : List ℕ) → front r c ++ z ≡ component_name (index_of r c) ++ 61 ∷ z
    regroup z = append_assoc (component_name (index_of r c)) (61 ∷ []) z

    size : 0 + length (front r c) ≡ r + 2
    size =
        let e : length (front r c) ≡ 1 + length (index_of r c) + 1 = name_length (index_of r c) (61 ∷ []) in
        let d : length (index_of r c) ≡ r = length-index_of r c in
        omega arith

    to : (z : List ℕ) → IsSetting r (front r c ++ z) → IsNumberText z
    to z (p, s) =
        let found = whole_name (index_of r c) (index_of r p.component) 61 z s.text
        (length-index_of r c ∙ sym (length-index_of r p.component)) (tails (sym (regroup z) ∙ s.word_is)) in
        (p.number, subst (λ (t : List ℕ). SpellsNumber t p.number) (sym found.rest) s.spelled)

    from : (z : List ℕ) → IsNumberText z → IsSetting r (front r c ++ z)
    from z (x, s) =
        index_setting r (front r c ++ z) (index_of r c) z x (record { size = length-index_of r c; word_is = regroup z; spelled = s })

pub faulty_behind : (r : ℕ) (word : List ℕ) (c s m : ℕ) → s ≡ r → IsNamed r word c →
    IsFaulty IsNumberText (take (length word - (s + 2)) (drop (s + 2) word)) m → IsFaulty (IsSetting r) word (s + 2 + m)
faulty_behind r word c s m e named h =
    subst (λ (q : ℕ). IsFaulty (IsSetting r) word (q + 2 + m)) (sym e)
    (faulty_number r word c m named (subst (λ (q : ℕ). IsFaulty IsNumberText (drop (q + 2) word) m) e
    (subst (λ (l : List ℕ). IsFaulty IsNumberText l m) (rest_is word (s + 2)) h)))

pub named_within : (r : ℕ) (word : List ℕ) (c : ℕ) → IsNamed r word c → r + 2 ≤ length word
named_within r word c named =
    let e : length word ≡ 1 + length (index_of r c) + suc (length (drop (r + 2) word)) =
    ap length named.word_is ∙ name_length (index_of r c) (61 ∷ drop (r + 2) word) in
    let d : length (index_of r c) ≡ r = length-index_of r c in
    omega arith

pub one_setting : OneNumber → (r : ℕ) (word : List ℕ) (p q : Given) → Sets r word p → Sets r word q → p ≡ q
one_setting law r word p q s t =
    let found = whole_name (index_of r p.component) (index_of r q.component) 61 s.text t.text
    (length-index_of r p.component ∙ sym (length-index_of r q.component)) (tails (sym s.word_is ∙ t.word_is)) in
    let component : p.component ≡ q.component =
    sym (number_index_at r p.component s.below) ∙ ap component_number found.index ∙ number_index_at r q.component t.below in
    let number : p.number ≡ q.number =
    law t.text p.number q.number (subst (λ (u : List ℕ). SpellsNumber u p.number) found.rest s.spelled) t.spelled in
    λ i. record { component = component i; number = number i }

-- ---- the digits that were read
pub record HasRead (word : List ℕ) (k number : ℕ) : Type 0 where
  pub index : Index
  pub size : length index ≡ k
  pub word_is : word ≡ component_name index ++ drop (1 + k) word
  pub number_is : component_number index ≡ number

pub below_read : (word : List ℕ) (k number : ℕ) → HasRead word k number → number < 3 ^ k
below_read word k number h = subst (λ (n : ℕ). n < 3 ^ k) h.number_is (component_below_at k h.index h.size)

pub small_read : (word : List ℕ) (k number : ℕ) → HasRead word k number → k ≤ 6 → number < 729
small_read word k number h few = omega (arith, below_read word k number h, power_small k few)

pub small_axis : (d : ℕ) (i : Axis) → d ≡ axis_place i → d < 3
small_axis d i e = omega (arith, e, place_below i)

pub read_none : (word : List ℕ) → IsAt word 0 84 → HasRead word 0 0
read_none word at = record {
  index = [];
  size = refl;
  word_is = drop_more word 0 0 at.0 ∙ ap (λ (b : ℕ). b ∷ drop 1 word) at.1;
  number_is = refl;
}

pub read_more : (word : List ℕ) (k number d next : ℕ) (i : Axis) → HasRead word k number → IsAt word (1 + k) (48 + digit i) → d ≡ axis_place i →
    next ≡ 3 * number + d → HasRead word (k + 1) next
read_more word k number d next i h at is e = record {
  index = h.index ++ i ∷ [];
  size = length-append h.index (i ∷ []) ∙ ap (λ (n : ℕ). n + 1) h.size;
  word_is = h.word_is ∙ ap (λ (l : List ℕ). component_name h.index ++ l) behind
      ∙ ap (λ (l : List ℕ). 84 ∷ l)
      (sym (append_assoc (digits_of h.index) ((48 + digit i) ∷ []) (drop (1 + (k + 1)) word))
      ∙ ap (λ (l : List ℕ). l ++ drop (1 + (k + 1)) word) (sym (digits_more h.index i)));
  number_is = number_more h.index i ∙ sum;
}
  where
    behind : drop (1 + k) word ≡ (48 + digit i) ∷ drop (1 + (k + 1)) word
    behind =
        let same : 1 + k + 1 ≡ 1 + (k + 1) = omega arith in
        drop_more word (1 + k) 0 at.0 ∙ ap (λ (b : ℕ). b ∷ drop (1 + k + 1) word) at.1
        ∙ ap (λ (n : ℕ). (48 + digit i) ∷ drop n word) same

    sum : 3 * component_number h.index + axis_place i ≡ next
    sum = ap (λ (n : ℕ). 3 * n + axis_place i) h.number_is ∙ ap (λ (n : ℕ). 3 * number + n) (sym is) ∙ sym e

pub no_digit : (r : ℕ) (word : List ℕ) (k number : ℕ) → HasRead word k number → k < r →
    ((i : Axis) → IsAt word (1 + k) (48 + digit i) → ⊥) → IsFaulty (IsSetting r) word (1 + k)
no_digit r word k number h less absent = stuck_digit r h.index word k h.size less h.word_is absent

pub no_equals : (r : ℕ) (word : List ℕ) (k number : ℕ) → HasRead word k number → k ≡ r → (IsAt word (1 + r) 61 → ⊥) →
    IsFaulty (IsSetting r) word (1 + r)
no_equals r word k number h same absent =
    stuck_equals r h.index word (h.size ∙ same) (subst (λ (n : ℕ). word ≡ component_name h.index ++ drop (1 + n) word) same h.word_is) absent

pub named_whole : (r : ℕ) (word : List ℕ) (k number : ℕ) → HasRead word k number → k ≡ r → IsAt word (1 + r) 61 → IsNamed r word number
named_whole r word k number h same at =
    let size : length h.index ≡ r = h.size ∙ same in record {
      below = subst (λ (n : ℕ). number < 3 ^ n) same (below_read word k number h);
      word_is =
          let next : 1 + r + 1 ≡ r + 2 = omega arith in
          subst (λ (n : ℕ). word ≡ component_name h.index ++ drop (1 + n) word) same h.word_is
          ∙ ap (λ (l : List ℕ). component_name h.index ++ l)
          (drop_more word (1 + r) 0 at.0 ∙ ap (λ (b : ℕ). b ∷ drop (1 + r + 1) word) at.1 ∙ ap (λ (n : ℕ). 61 ∷ drop n word) next)
          ∙ ap (λ (l : Index). component_name l ++ 61 ∷ drop (r + 2) word)
          (sym (ap (index_of r) (sym h.number_is) ∙ index_number_at r h.index size));
    }
