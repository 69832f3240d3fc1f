-- No word names two symbols.
--   same_marks         two symbols with the same signs hold the same primed operators
--   one_form_symbol    no word is the long text of two symbols
--   no_dot             no text that spells a symbol has a dot; long texts of forms have one
--   plain_start        such texts don't begin with a capital letter, as names do
use Rattle.list_laws.proofs.Kit.{◌≡◌, ◌⊎◌, ◌↔◌, ◌∙◌, ◌<◌, ◌≤◌, ◌-◌, ◌*◌, ◌/◌, ◌%◌, ◌^◌, ◌==◌, ℕ, zero, suc, Bool, true, false, cond, IsTrue, List, [], ◌∷◌}
use Rattle.list_laws.proofs.Kit.{◌++◌, length, get_or, nat_eq, refl, sym, ap, subst, arith, inl, inr, lit<, append_cancel_left, append_cancel_right, pow-suc}
use Rattle.list_laws.proofs.Kit.{nat_tests, Contains-get_or}
use Rattle.std.specs.Prelude.{Contains, nat_lt}
use Rattle.tensor_defs.specs.declared.Setting.{Setting}
use Rattle.tensor_defs.specs.declared.OpKind.TheVariants.{Two}
use Rattle.tensor_defs.specs.declared.Direction.TheVariants.{X}
use Rattle.tensor_defs.specs.Prelude.{Each, GroupSymbol, IsGroupSymbol, Operator, parent_texts, parent_text, parent_operators}
use Rattle.text_defs.specs.GroupTexts.{ends_operator, with_primes, suffix_at, grey_text, setting_text, SpellsGroup}
use Rattle.text_laws.proofs.GroupUnique.{one_symbol}
use Rattle.list_laws.proofs.Prelude.{all_below, below_told, both, each_held}
use Rattle.op_matrix.proofs.Frames.{also}
use Rattle.group_symbol.proofs.WrittenTexts.{written_spells}
use Rattle.dialects.specs.ClassNames.{class_name, IsReadName}
use Rattle.dialects.specs.LongTexts.{Piece, form_at, prime_text, HasPrimed, ArePieces, IsFormText}
use Rattle.dialects.specs.Naming.{Names}
use Rattle.dialects.specs.Laws.{OneSymbol}
use Rattle.dialects.proofs.FirstNames.{one_read_name}
use Rattle.dialects.proofs.Elements.{BitsTold, symbol_bits}
use Rattle.dialects.proofs.SameForms.{strip, plain_pieces, plain_text, stripped, one_form}

-- ---- the same signs
-- the text isn't empty, and begins with no prime
abbrev starts_clean : List ℕ → Bool
starts_clean [] = false
starts_clean (b ∷ bs) = cond (nat_eq b 39) false true

abbrev are_clean : List Piece → Bool
are_clean [] = true
are_clean (p ∷ ps) = also (starts_clean p.text) (are_clean ps)

forms_clean : all_below 8 (λ k. are_clean (form_at k).pieces) ≡ true
unfolding form_at
forms_clean = refl

abbrev SamePrimed : GroupSymbol → GroupSymbol → Operator → Type 0
SamePrimed t u o = HasPrimed t o ↔ HasPrimed u o

no_prime : (t : GroupSymbol) (ps : List Piece) (w z : List ℕ) → are_clean ps ≡ true → ArePieces t ps w → w ≡ 39 ∷ z → ⊥
no_prime t [] w z e h is = cc
no_prime t (p ∷ ps) w z e (m, rest, told, h, is) same = never p.text (prime_text m ++ rest) (both (starts_clean p.text) (are_clean ps) e).0 z (sym is ∙ same)
  where
    clash : (b : ℕ) → b ≡ 39 → cond (nat_eq b 39) false true ≡ true → ⊥
    clash b same_byte clean = let h : cond (nat_eq 39 39) false true ≡ true = subst (λ (c : ℕ). cond (nat_eq c 39) false true ≡ true) same_byte clean in cc

    never : (x y : List ℕ) → starts_clean x ≡ true → (z : List ℕ) → x ++ y ≡ 39 ∷ z → ⊥
    never [] y e z h = cc
    never (b ∷ x) y e z h = clash b (ap (λ (l : List ℕ). get_or l 0 0) h) e

both_ways : {A B : Type 0} (m : Bool) → (IsTrue m ↔ A) → (IsTrue m ↔ B) → A ↔ B
both_ways m h k = (λ a. k.0 (h.1 a), λ b. h.0 (k.1 b))

same_marks : (t u : GroupSymbol) (ps : List Piece) (w : List ℕ) → are_clean ps ≡ true → ArePieces t ps w → ArePieces u ps w →
    Each (λ p. SamePrimed t u p.operator) ps
same_marks t u [] w e h k = tt
same_marks t u (p ∷ ps) w e (m, r, told, h, is) (m', r', told', h', is') =
    by m m' told told' (append_cancel_left p.text (prime_text m ++ r) (prime_text m' ++ r') (sym is ∙ is'))
    (λ same. same_marks t u ps r clean h (subst (ArePieces u ps) (sym same) h'))
  where
    clean : are_clean ps ≡ true
    clean = (both (starts_clean p.text) (are_clean ps) e).1

    tails : (x y : List ℕ) → 39 ∷ x ≡ 39 ∷ y → x ≡ y
    tails x y q = cc

    by : (m m' : Bool) → (IsTrue m ↔ HasPrimed t p.operator) → (IsTrue m' ↔ HasPrimed u p.operator) →
        prime_text m ++ r ≡ prime_text m' ++ r' → (r ≡ r' → Each (λ q. SamePrimed t u q.operator) ps) →
        Each (λ q. SamePrimed t u q.operator) (p ∷ ps)
    by true true a b q rest = (both_ways true a b, rest (tails r r' q))
    by false false a b q rest = (both_ways false a b, rest q)
    by true false a b q rest = absurd (no_prime u ps r' r clean h' (sym q))
    by false true a b q rest = absurd (no_prime t ps r r' clean h q)

-- ---- the same primes
-- each operator of the parent is that of a piece
abbrev InPieces : List Piece → Operator → Type 0
InPieces ps o = (p : Piece) × Contains ps p × (p.operator ≡ o)

no_piece : Piece
no_piece = record { text = []; operator = record { kind = Two; direction = X } }

held : (ps : List Piece) (j : ℕ) → j < length ps → InPieces ps (get_or ps j no_piece).operator
held ps j lt = (get_or ps j no_piece, Contains-get_or ps j no_piece lt, refl)

operators_in_pieces : (k : ℕ) → k < 8 → Each (InPieces (form_at k).pieces) (parent_operators (form_at k).parent)
unfolding form_at parent_operators
operators_in_pieces zero lt =
    let at = held (form_at 0).pieces in (at 1 (lit< tt), (at 3 (lit< tt), (at 5 (lit< tt), tt)))
operators_in_pieces (suc zero) lt =
    let at = held (form_at 1).pieces in (at 0 (lit< tt), (at 1 (lit< tt), (at 3 (lit< tt), (at 5 (lit< tt), tt))))
operators_in_pieces (suc (suc zero)) lt =
    let at = held (form_at 2).pieces in (at 0 (lit< tt), (at 2 (lit< tt), tt))
operators_in_pieces (suc (suc (suc zero))) lt =
    let at = held (form_at 3).pieces in (at 0 (lit< tt), (at 2 (lit< tt), tt))
operators_in_pieces (suc (suc (suc (suc zero)))) lt =
    let at = held (form_at 4).pieces in (at 0 (lit< tt), (at 2 (lit< tt), tt))
operators_in_pieces (suc (suc (suc (suc (suc zero))))) lt =
    let at = held (form_at 5).pieces in (at 0 (lit< tt), (at 1 (lit< tt), (at 3 (lit< tt), (at 5 (lit< tt), tt))))
operators_in_pieces (suc (suc (suc (suc (suc (suc zero)))))) lt =
    let at = held (form_at 6).pieces in (at 1 (lit< tt), (at 2 (lit< tt), tt))
operators_in_pieces (suc (suc (suc (suc (suc (suc (suc zero))))))) lt =
    let at = held (form_at 7).pieces in (at 1 (lit< tt), (at 2 (lit< tt), (at 4 (lit< tt), tt)))
operators_in_pieces (suc (suc (suc (suc (suc (suc (suc (suc k)))))))) lt = absurd (omega arith)

operators_same : (t u : GroupSymbol) (ps : List Piece) → Each (λ p. SamePrimed t u p.operator) ps → (os : List Operator) →
    Each (InPieces ps) os → Each (SamePrimed t u) os
operators_same t u ps h [] e = tt
operators_same t u ps h (o ∷ os) e =
    let p = e.0 in
    (subst (SamePrimed t u) p.2 (each_held (λ q. SamePrimed t u q.operator) ps h p.0 p.1), operators_same t u ps h os e.1)

same_bit : (a b : Bool) (A B : Type 0) → (IsTrue a ↔ A) → (IsTrue b ↔ B) → (A ↔ B) → a ≡ b
same_bit true true A B h k s = refl
same_bit true false A B h k s = sym (k.1 (s.0 (h.0 refl)))
same_bit false true A B h k s = h.1 (s.1 (k.0 refl))
same_bit false false A B h k s = refl

same_digit : (p q : ℕ) → (p % 2 == 1) ≡ (q % 2 == 1) → p % 2 ≡ q % 2
same_digit p q e = grind (arith, nat_tests)

same_primes : (t u : GroupSymbol) (i : IsGroupSymbol t) (j : IsGroupSymbol u) (os : List Operator) (p q : ℕ) →
    p < 2 ^ length os → q < 2 ^ length os → BitsTold t i p os → BitsTold u j q os → Each (SamePrimed t u) os → p ≡ q
same_primes t u i j [] p q a b h k e = omega arith
same_primes t u i j (o ∷ os) p q a b h k e =
    let digit = same_digit p q (same_bit (p % 2 == 1) (q % 2 == 1) (HasPrimed t o) (HasPrimed u o) h.0 k.0 e.0) in
    let power : 2 ^ suc (length os) ≡ 2 ^ length os * 2 = pow-suc 2 (length os) in
    let half = same_primes t u i j os (p / 2) (q / 2) (omega (arith, a, power)) (omega (arith, b, power)) h.1 k.1 e.1 in
    omega (arith, digit, half)

-- ---- no word is the long text of two symbols
one_form_symbol : (w : List ℕ) (k k' : ℕ) (t u : GroupSymbol) → IsFormText k w t → IsFormText k' w u → t ≡ u
one_form_symbol w k k' t u f h =
    let parts = one_form w k k' t u f h in
    same_form w k t u f (subst (λ (n : ℕ). IsFormText n w u) (sym parts.0) h) parts.1 parts.2
  where
    joined : (t u : GroupSymbol) → t.parent ≡ u.parent → t.primes ≡ u.primes → t.grey ≡ u.grey → t.setting ≡ u.setting → t ≡ u
    joined t u a b c d = λ i. record { parent = a i; primes = b i; grey = c i; setting = d i }

    same_form : (w : List ℕ) (k : ℕ) (t u : GroupSymbol) → IsFormText k w t → IsFormText k w u → t.grey ≡ u.grey →
        t.setting ≡ u.setting → t ≡ u
    same_form w k t u f h grey setting =
        joined t u (f.parent ∙ sym h.parent) (by t.grey refl) grey setting
      where
        tail : GroupSymbol → List ℕ
        tail x = (form_at k).ending ++ (grey_text x.grey ++ setting_text x.setting)

        tails : tail u ≡ tail t
        tails = ap (λ (b : Bool). (form_at k).ending ++ (grey_text b ++ setting_text u.setting)) (sym grey)
            ∙ ap (λ (s : Setting). (form_at k).ending ++ (grey_text t.grey ++ setting_text s)) (sym setting)

        signs : h.signs ≡ f.signs
        signs = append_cancel_right h.signs f.signs (tail t) (ap (λ (l : List ℕ). h.signs ++ l) (sym tails) ∙ sym h.text ∙ f.text)

        by : (g : Bool) → t.grey ≡ g → t.primes ≡ u.primes
        by true e = f.symbol.plain e ∙ sym (h.symbol.plain (sym grey ∙ e))
        by false e =
            same_primes t u f.symbol h.symbol (parent_operators (form_at k).parent) t.primes u.primes
            (below t f.parent f.symbol) (below u h.parent h.symbol)
            (symbol_bits t f.symbol k f.listed f.parent e f.accepted)
            (symbol_bits u h.symbol k f.listed h.parent (sym grey ∙ e) h.accepted)
            (operators_same t u (form_at k).pieces
            (same_marks t u (form_at k).pieces f.signs (below_told 8 (λ j. are_clean (form_at j).pieces) forms_clean k f.listed) f.pieces
            (subst (ArePieces u (form_at k).pieces) signs h.pieces))
            (parent_operators (form_at k).parent) (operators_in_pieces k f.listed))
          where
            below : (x : GroupSymbol) → x.parent ≡ (form_at k).parent → IsGroupSymbol x → x.primes < 2 ^ length (parent_operators (form_at k).parent)
            below x same j = subst (λ (n : ℕ). x.primes < 2 ^ length (parent_operators n)) same j.primes

-- ---- a dot
abbrev has_dot : List ℕ → Bool
has_dot [] = false
has_dot (b ∷ bs) = cond (nat_eq b 46) true (has_dot bs)

dot_append : (u v : List ℕ) → has_dot u ≡ false → has_dot v ≡ false → has_dot (u ++ v) ≡ false
dot_append [] v e f = f
dot_append (b ∷ u) v e f = by (nat_eq b 46) e (λ h. dot_append u v h f)
  where
    by : (x : Bool) → cond x true (has_dot u) ≡ false → (has_dot u ≡ false → has_dot (u ++ v) ≡ false) → cond x true (has_dot (u ++ v)) ≡ false
    by true e more = cc
    by false e more = more e

dot_front : (u v : List ℕ) → has_dot u ≡ true → has_dot (u ++ v) ≡ true
dot_front [] v e = cc
dot_front (b ∷ u) v e = by (nat_eq b 46) e (λ h. dot_front u v h)
  where
    by : (x : Bool) → cond x true (has_dot u) ≡ true → (has_dot u ≡ true → has_dot (u ++ v) ≡ true) → cond x true (has_dot (u ++ v)) ≡ true
    by true e more = refl
    by false e more = more e

-- what holds of a list of bytes by a test of each
dot_cons : (x : ℕ) (xs ys : List ℕ) → has_dot (x ∷ xs) ≡ false → (has_dot xs ≡ false → has_dot ys ≡ false) → has_dot (x ∷ ys) ≡ false
dot_cons x xs ys e to = by (nat_eq x 46) e
  where
    by : (d : Bool) → cond d true (has_dot xs) ≡ false → cond d true (has_dot ys) ≡ false
    by true e = cc
    by false e = to e

dot_primes : (v : ℕ) (xs : List ℕ) (p : ℕ) → has_dot xs ≡ false → has_dot (with_primes v xs p) ≡ false
unfolding with_primes
dot_primes v [] p e = refl
dot_primes v (x ∷ xs) p e = by (ends_operator v x) (p % 2 == 1) (dot_primes x xs (p / 2)) (dot_primes x xs p)
  where
    by : (a b : Bool) → (has_dot xs ≡ false → has_dot (with_primes x xs (p / 2)) ≡ false) →
        (has_dot xs ≡ false → has_dot (with_primes x xs p) ≡ false) →
        has_dot (cond a (cond b (x ∷ 39 ∷ with_primes x xs (p / 2)) (x ∷ with_primes x xs (p / 2))) (x ∷ with_primes x xs p)) ≡ false
    by true true half whole = dot_cons x xs (39 ∷ with_primes x xs (p / 2)) e half
    by true false half whole = dot_cons x xs (with_primes x xs (p / 2)) e half
    by false b half whole = dot_cons x xs (with_primes x xs p) e whole

parents_no_dot : all_below 42 (λ n. cond (has_dot (get_or parent_texts n [])) false true) ≡ true
parents_no_dot = refl

not_true : (b : Bool) → cond b false true ≡ true → b ≡ false
not_true true e = cc
not_true false e = refl

parent_no_dot : (t : GroupSymbol) → IsGroupSymbol t → has_dot (parent_text t.parent) ≡ false
unfolding parent_text
parent_no_dot t i =
    not_true (has_dot (get_or parent_texts (t.parent - 1) []))
    (below_told 42 (λ n. cond (has_dot (get_or parent_texts n [])) false true) parents_no_dot (t.parent - 1) (let a = i.first in let b = i.last in omega arith))

grey_no_dot : (g : Bool) → has_dot (grey_text g) ≡ false
grey_no_dot true = refl
grey_no_dot false = refl

suffix_no_dot : all_below 7 (λ k. cond (has_dot (suffix_at k).text) false true) ≡ true
unfolding suffix_at
suffix_no_dot = refl

spelled_no_dot : (w : List ℕ) (t : GroupSymbol) → SpellsGroup w t → has_dot w ≡ false
spelled_no_dot w t (inl h) =
    let suffix : has_dot h.suffix ≡ false =
    ap has_dot h.is_suffix.text_is
    ∙ not_true (has_dot (suffix_at h.is_suffix.place).text)
    (below_told 7 (λ k. cond (has_dot (suffix_at k).text) false true) suffix_no_dot h.is_suffix.place h.is_suffix.listed) in
    ap has_dot h.text
    ∙ dot_append (with_primes 0 (parent_text t.parent) t.primes) (grey_text t.grey ++ h.suffix)
    (dot_primes 0 (parent_text t.parent) t.primes (parent_no_dot t h.symbol))
    (dot_append (grey_text t.grey) h.suffix (grey_no_dot t.grey) suffix)
spelled_no_dot w t (inr h) = ap has_dot h.0

-- the dot stands in the text without its primes
dot_strip : (w : List ℕ) → has_dot w ≡ false → has_dot (strip w) ≡ false
dot_strip [] e = refl
dot_strip (b ∷ w) e = by (nat_eq b 39) (dot_cons b w (strip w) e (λ h. dot_strip w h)) (dot_strip w (after (nat_eq b 46) e))
  where
    after : (d : Bool) → cond d true (has_dot w) ≡ false → has_dot w ≡ false
    after true e = cc
    after false e = e

    by : (x : Bool) → has_dot (b ∷ strip w) ≡ false → has_dot (strip w) ≡ false → has_dot (cond x (strip w) (b ∷ strip w)) ≡ false
    by true e f = f
    by false e f = e

forms_have_dots : all_below 8 (λ k. has_dot (plain_pieces (form_at k).pieces)) ≡ true
unfolding form_at
forms_have_dots = refl

form_dot : (k : ℕ) (w : List ℕ) (t : GroupSymbol) → IsFormText k w t → has_dot w ≡ false → ⊥
unfolding plain_text
form_dot k w t f e =
    let there : has_dot (plain_text k t.grey t.setting) ≡ true =
    dot_front (plain_pieces (form_at k).pieces) (strip ((form_at k).ending ++ (grey_text t.grey ++ setting_text t.setting)))
    (below_told 8 (λ j. has_dot (plain_pieces (form_at j).pieces)) forms_have_dots k f.listed) in
    let none : has_dot (plain_text k t.grey t.setting) ≡ false = ap has_dot (sym (stripped k w t f)) ∙ dot_strip w e in
    cc

-- ---- a capital letter
abbrev is_capital : ℕ → Bool
is_capital b = cond (nat_lt 64 b) (nat_lt b 91) false

-- the text isn't empty, and begins with no capital letter
abbrev plain_start : List ℕ → Bool
plain_start [] = false
plain_start (b ∷ bs) = cond (is_capital b) false true

start_front : (u v : List ℕ) → plain_start u ≡ true → plain_start (u ++ v) ≡ true
start_front [] v e = cc
start_front (b ∷ u) v e = e

start_primes : (v : ℕ) (xs : List ℕ) (p : ℕ) → plain_start xs ≡ true → plain_start (with_primes v xs p) ≡ true
unfolding with_primes
start_primes v [] p e = cc
start_primes v (x ∷ xs) p e = by (ends_operator v x) (p % 2 == 1)
  where
    by : (a b : Bool) →
        plain_start (cond a (cond b (x ∷ 39 ∷ with_primes x xs (p / 2)) (x ∷ with_primes x xs (p / 2))) (x ∷ with_primes x xs p)) ≡ true
    by true true = e
    by true false = e
    by false b = e

parents_start : all_below 42 (λ n. plain_start (get_or parent_texts n [])) ≡ true
parents_start = refl

spelled_start : (w : List ℕ) (t : GroupSymbol) → SpellsGroup w t → plain_start w ≡ true
unfolding parent_text
spelled_start w t (inl h) =
    ap plain_start h.text
    ∙ start_front (with_primes 0 (parent_text t.parent) t.primes) (grey_text t.grey ++ h.suffix)
    (start_primes 0 (parent_text t.parent) t.primes
    (below_told 42 (λ n. plain_start (get_or parent_texts n [])) parents_start (t.parent - 1) (let a = h.symbol.first in let b = h.symbol.last in omega arith)))
spelled_start w t (inr h) = ap plain_start h.0

abbrev first_start : List Piece → Bool
first_start [] = false
first_start (p ∷ ps) = plain_start p.text

forms_start : all_below 8 (λ k. first_start (form_at k).pieces) ≡ true
unfolding form_at
forms_start = refl

pieces_start : (t : GroupSymbol) (ps : List Piece) (w : List ℕ) → first_start ps ≡ true → ArePieces t ps w → plain_start w ≡ true
pieces_start t [] w e h = cc
pieces_start t (p ∷ ps) w e (m, rest, told, h, is) = ap plain_start is ∙ start_front p.text (prime_text m ++ rest) e

form_start : (k : ℕ) (w : List ℕ) (t : GroupSymbol) → IsFormText k w t → plain_start w ≡ true
form_start k w t f =
    ap plain_start f.text
    ∙ start_front f.signs ((form_at k).ending ++ (grey_text t.grey ++ setting_text t.setting))
    (pieces_start t (form_at k).pieces f.signs (below_told 8 (λ j. first_start (form_at j).pieces) forms_start k f.listed) f.pieces)

names_start : all_below 42 (λ n. cond (plain_start (class_name (suc n))) false true) ≡ true
unfolding class_name
names_start = refl

name_start : (n : ℕ) → 1 ≤ n → n ≤ 42 → plain_start (class_name n) ≡ false
name_start zero first last = absurd (omega arith)
name_start (suc n) first last =
    not_true (plain_start (class_name (suc n)))
    (below_told 42 (λ j. cond (plain_start (class_name (suc j))) false true) names_start n (omega arith))

read_start : (w : List ℕ) (t : GroupSymbol) → IsReadName w t → plain_start w ≡ false
read_start w t (inl (n, f, e)) = ap plain_start f.name_is ∙ name_start n f.first f.last
read_start w t (inr (s, e)) = ap plain_start s

-- ---- a word spells a symbol, is the long text of one with a form, or is a name
abbrev Kinds : List ℕ → GroupSymbol → Type 0
Kinds w t = SpellsGroup w t ⊎ ((k : ℕ) × IsFormText k w t) ⊎ IsReadName w t

kinds : (w : List ℕ) (t : GroupSymbol) → Names w t → Kinds w t
kinds w t (inl s) = inl s
kinds w t (inr (inl (inl f))) = inr (inl f)
kinds w t (inr (inl (inr h))) = inl (subst (λ (z : List ℕ). SpellsGroup z t) (sym h.text) (written_spells t h.symbol))
kinds w t (inr (inr n)) = inr (inr n)

starts_clash : (w : List ℕ) → plain_start w ≡ true → plain_start w ≡ false → ⊥
starts_clash w a b = cc

pub no_two : OneSymbol
no_two w t u a b = by (kinds w t a) (kinds w u b)
  where
    by : Kinds w t → Kinds w u → t ≡ u
    by (inl s) (inl r) = one_symbol w t u s r
    by (inl s) (inr (inl f)) = absurd (form_dot f.0 w u f.1 (spelled_no_dot w t s))
    by (inl s) (inr (inr n)) = absurd (starts_clash w (spelled_start w t s) (read_start w u n))
    by (inr (inl f)) (inl s) = absurd (form_dot f.0 w t f.1 (spelled_no_dot w u s))
    by (inr (inl f)) (inr (inl g)) = one_form_symbol w f.0 g.0 t u f.1 g.1
    by (inr (inl f)) (inr (inr n)) = absurd (starts_clash w (form_start f.0 w t f.1) (read_start w u n))
    by (inr (inr n)) (inl s) = absurd (starts_clash w (spelled_start w u s) (read_start w t n))
    by (inr (inr n)) (inr (inl f)) = absurd (starts_clash w (form_start f.0 w u f.1) (read_start w t n))
    by (inr (inr n)) (inr (inr m)) = one_read_name w t u n m
