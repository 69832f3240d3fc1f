-- A long text tells its form, whether it is grey, and its setting: without its primes it is one of 96 texts.
--   strip          a text without its primes
--   plain_text     the long text of a form without primes, grey or not, with the suffix of a setting
--   stripped       what a long text is without its primes
--   one_form       two long texts that are the same have one form, mark of grey and setting
use Rattle.std.proofs.Common.{◌≡◌, ◌∙◌, ◌<◌, ◌+◌, ◌*◌, ◌/◌, ◌%◌, ℕ, zero, suc, Bool, true, false, cond, List, [], ◌∷◌, ◌++◌, nat_eq, refl, sym, ap, arith, lit<}
use Rattle.tensor_defs.specs.declared.Setting.{Setting}
use Rattle.tensor_defs.specs.declared.Setting.TheVariants.{Default, X, Z, XY, D, P}
use Rattle.tensor_defs.specs.Prelude.{same_numbers_in, GroupSymbol}
use Rattle.text_defs.specs.GroupTexts.{grey_text, setting_text}
use Rattle.std.proofs.lemmas.Bool.{eqb-true}
use Rattle.list_laws.proofs.Prelude.{all_below, below_told, implied, same_numbers_own}
use Rattle.op_matrix.proofs.Hexagonal.{implies}
use Rattle.dialects.specs.LongTexts.{Piece, form_at, prime_text, ArePieces, IsFormText}

abbrev pub strip : List ℕ → List ℕ
strip [] = []
strip (b ∷ bs) = cond (nat_eq b 39) (strip bs) (b ∷ strip bs)

pub strip_append : (u v : List ℕ) → strip (u ++ v) ≡ strip u ++ strip v
strip_append [] v = refl
strip_append (b ∷ u) v = by (nat_eq b 39) (strip_append u v)
  where
    by : (x : Bool) → strip (u ++ v) ≡ strip u ++ strip v → cond x (strip (u ++ v)) (b ∷ strip (u ++ v)) ≡ cond x (strip u) (b ∷ strip u) ++ strip v
    by true e = e
    by false e = ap (λ (l : List ℕ). b ∷ l) e

abbrev pub plain_pieces : List Piece → List ℕ
plain_pieces [] = []
plain_pieces (p ∷ ps) = strip p.text ++ plain_pieces ps

strip_prime : (m : Bool) → strip (prime_text m) ≡ []
strip_prime true = refl
strip_prime false = refl

stripped_pieces : (t : GroupSymbol) (ps : List Piece) (w : List ℕ) → ArePieces t ps w → strip w ≡ plain_pieces ps
stripped_pieces t [] w e = ap strip e
stripped_pieces t (p ∷ ps) w (m, rest, is, h, e) =
    ap strip e ∙ strip_append p.text (prime_text m ++ rest)
    ∙ ap (λ (l : List ℕ). strip p.text ++ l) (strip_append (prime_text m) rest)
    ∙ ap (λ (l : List ℕ). strip p.text ++ (l ++ strip rest)) (strip_prime m)
    ∙ ap (λ (l : List ℕ). strip p.text ++ l) (stripped_pieces t ps rest h)

unfoldable pub plain_text : ℕ → Bool → Setting → List ℕ
plain_text k g s = plain_pieces (form_at k).pieces ++ strip ((form_at k).ending ++ (grey_text g ++ setting_text s))

pub stripped : (k : ℕ) (w : List ℕ) (t : GroupSymbol) → IsFormText k w t → strip w ≡ plain_text k t.grey t.setting
unfolding plain_text
stripped k w t f =
    ap strip f.text ∙ strip_append f.signs ((form_at k).ending ++ (grey_text t.grey ++ setting_text t.setting))
    ∙ ap (λ (l : List ℕ). l ++ strip ((form_at k).ending ++ (grey_text t.grey ++ setting_text t.setting)))
    (stripped_pieces t (form_at k).pieces f.signs f.pieces)

-- ---- the 96 texts, by a number
abbrev setting_at : ℕ → Setting
setting_at zero = Default
setting_at (suc zero) = X
setting_at (suc (suc zero)) = Z
setting_at (suc (suc (suc zero))) = XY
setting_at (suc (suc (suc (suc zero)))) = D
setting_at (suc (suc (suc (suc (suc n))))) = P

abbrev setting_number : Setting → ℕ
setting_number Default = 0
setting_number X = 1
setting_number Z = 2
setting_number XY = 3
setting_number D = 4
setting_number P = 5

abbrev grey_number : Bool → ℕ
grey_number true = 1
grey_number false = 0

setting_back : (s : Setting) → setting_at (setting_number s) ≡ s
setting_back Default = refl
setting_back X = refl
setting_back Z = refl
setting_back XY = refl
setting_back D = refl
setting_back P = refl

setting_below : (s : Setting) → setting_number s < 6
setting_below Default = lit< tt
setting_below X = lit< tt
setting_below Z = lit< tt
setting_below XY = lit< tt
setting_below D = lit< tt
setting_below P = lit< tt

grey_back : (g : Bool) → nat_eq (grey_number g) 1 ≡ g
grey_back true = refl
grey_back false = refl

grey_below : (g : Bool) → grey_number g < 2
grey_below true = lit< tt
grey_below false = lit< tt

unfoldable text_at : ℕ → List ℕ
text_at n = plain_text (n / 12) (nat_eq (n / 6 % 2) 1) (setting_at (n % 6))

abbrev differs_from : ℕ → List ℕ → Bool
differs_from n text = all_below 96 (λ m. implies (same_numbers_in text (text_at m)) (nat_eq n m))

all_differ : all_below 96 (λ n. differs_from n (text_at n)) ≡ true
unfolding text_at plain_text form_at
all_differ = refl

number : ℕ → ℕ → ℕ → ℕ
number k g s = k * 12 + (g * 6 + s)

first_part : (k g s : ℕ) → g < 2 → s < 6 → number k g s / 12 ≡ k
unfolding number
first_part k g s h j = omega arith

middle_part : (k g s : ℕ) → g < 2 → s < 6 → number k g s / 6 % 2 ≡ g
unfolding number
middle_part k g s h j = omega arith

last_part : (k g s : ℕ) → g < 2 → s < 6 → number k g s % 6 ≡ s
unfolding number
last_part k g s h j = omega arith

number_below : (k g s : ℕ) → k < 8 → g < 2 → s < 6 → number k g s < 96
unfolding number
number_below k g s l h j = omega arith

at_number : (k : ℕ) (g : Bool) (s : Setting) → text_at (number k (grey_number g) (setting_number s)) ≡ plain_text k g s
unfolding text_at
at_number k g s =
    let a = first_part k (grey_number g) (setting_number s) (grey_below g) (setting_below s) in
    let b = middle_part k (grey_number g) (setting_number s) (grey_below g) (setting_below s) in
    let c = last_part k (grey_number g) (setting_number s) (grey_below g) (setting_below s) in
    rw (a, b, c) (ap (λ (x : Bool). plain_text k x (setting_at (setting_number s))) (grey_back g) ∙ ap (plain_text k g) (setting_back s))

abbrev SameParts : ℕ → Bool → Setting → ℕ → Bool → Setting → Type 0
SameParts k g s k' g' s' = (k ≡ k') × (g ≡ g') × (s ≡ s')

same_number : (n m : ℕ) → n < 96 → m < 96 → text_at n ≡ text_at m → n ≡ m
same_number n m h l e =
    eqb-true n m
    (implied (same_numbers_in (text_at n) (text_at m)) (nat_eq n m)
    (below_told 96 (λ j. implies (same_numbers_in (text_at n) (text_at j)) (nat_eq n j))
    (below_told 96 (λ j. differs_from j (text_at j)) all_differ n h) m l)
    (ap (λ (x : List ℕ). same_numbers_in x (text_at m)) e ∙ same_numbers_own (text_at m)))

same_parts : (k : ℕ) (g : Bool) (s : Setting) (k' : ℕ) (g' : Bool) (s' : Setting) → k < 8 → k' < 8 →
    plain_text k g s ≡ plain_text k' g' s' → SameParts k g s k' g' s'
same_parts k g s k' g' s' lt lt' e =
    let n = number k (grey_number g) (setting_number s) in
    let m = number k' (grey_number g') (setting_number s') in
    let is : n ≡ m = same_number n m (number_below k (grey_number g) (setting_number s) lt (grey_below g) (setting_below s))
    (number_below k' (grey_number g') (setting_number s') lt' (grey_below g') (setting_below s'))
    (at_number k g s ∙ e ∙ sym (at_number k' g' s')) in
    let grey : grey_number g ≡ grey_number g' =
    sym (middle_part k (grey_number g) (setting_number s) (grey_below g) (setting_below s)) ∙ ap (λ (x : ℕ). x / 6 % 2) is
    ∙ middle_part k' (grey_number g') (setting_number s') (grey_below g') (setting_below s') in
    let setting : setting_number s ≡ setting_number s' =
    sym (last_part k (grey_number g) (setting_number s) (grey_below g) (setting_below s)) ∙ ap (λ (x : ℕ). x % 6) is
    ∙ last_part k' (grey_number g') (setting_number s') (grey_below g') (setting_below s') in (
      sym (first_part k (grey_number g) (setting_number s) (grey_below g) (setting_below s)) ∙ ap (λ (x : ℕ). x / 12) is
          ∙ first_part k' (grey_number g') (setting_number s') (grey_below g') (setting_below s'),
      sym (grey_back g) ∙ ap (λ (x : ℕ). nat_eq x 1) grey ∙ grey_back g',
      sym (setting_back s) ∙ ap setting_at setting ∙ setting_back s',
    )

pub one_form : (w : List ℕ) (k k' : ℕ) (t u : GroupSymbol) → IsFormText k w t → IsFormText k' w u →
    (k ≡ k') × (t.grey ≡ u.grey) × (t.setting ≡ u.setting)
one_form w k k' t u f h =
    same_parts k t.grey t.setting k' u.grey u.setting f.listed h.listed (sym (stripped k w t f) ∙ stripped k' w u h)
