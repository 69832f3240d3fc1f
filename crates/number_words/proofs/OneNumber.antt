-- No text stands for two numbers.
use Rattle.std.proofs.Common.{◌≡◌, ℕ, ◌+◌, ◌<◌, ◌≤◌, inl, inr, List, [], ◌∷◌, ◌++◌, length, refl, sym, ap, subst, ◌∙◌, arith, append_assoc}
use Rattle.std.proofs.lemmas.List.{append-nil}
use Rattle.std.specs.Char.{digit_value}
use Rattle.std.specs.Str.Parse.{AllDigits, digits_value}
use Rattle.list_laws.proofs.Lists.{heads, tails, none_some}
use Rattle.tensor_defs.specs.Number.{Number, add, mul, root_3}
use Rattle.tensor_defs.specs.declared.Sign.{Sign}
use Rattle.tensor_defs.specs.declared.Sign.TheVariants.{Plus, Minus}
use Rattle.number_words.specs.NumberWords.{SpellsFactor, SpellsMagnitude, SpellsSigned, root_word, sign_byte, size}
use Rattle.number_words.specs.Laws.{OneNumber}
use Rattle.number_words.proofs.Languages.{no_minus, sign_no_star, signed_to}

-- no digit and no / begins it
record Stops (z : List ℕ) : Type 0 where
  digit : (b : ℕ) (y : List ℕ) → z ≡ b ∷ y → digit_value b < 10 → ⊥
  slash : (y : List ℕ) → z ≡ 47 ∷ y → ⊥

stops_none : Stops []
stops_none = record { digit = λ b y e h. none_some e; slash = λ y e. none_some e }

no_digit_at : (c : ℕ) → (digit_value c < 10 → ⊥) → (z : List ℕ) (b : ℕ) (y : List ℕ) → c ∷ z ≡ b ∷ y → digit_value b < 10 → ⊥
no_digit_at c n z b y e h = n (subst (λ x. digit_value x < 10) (sym (heads e)) h)

star_stops : (z : List ℕ) → Stops (42 ∷ z)
star_stops z = record {
  digit = no_digit_at 42 (λ h. let g : digit_value 42 < 10 = h in omega (arith, g)) z;
  slash = λ y e. let h : ◌≡◌ {A = ℕ} 42 47 = heads e in omega (arith, h);
}

sign_stops : (s : Sign) (z : List ℕ) → Stops (sign_byte s ∷ z)
sign_stops Plus z = record {
  digit = no_digit_at 43 (λ h. let g : digit_value 43 < 10 = h in omega (arith, g)) z;
  slash = λ y e. let h : ◌≡◌ {A = ℕ} 43 47 = heads e in omega (arith, h);
}
sign_stops Minus z = record {
  digit = no_digit_at 45 (λ h. let g : digit_value 45 < 10 = h in omega (arith, g)) z;
  slash = λ y e. let h : ◌≡◌ {A = ℕ} 45 47 = heads e in omega (arith, h);
}

NoDigit : List ℕ → Type 0
NoDigit z = (b : ℕ) (y : List ℕ) → z ≡ b ∷ y → digit_value b < 10 → ⊥

slash_stops : (z : List ℕ) → NoDigit (47 ∷ z)
unfolding NoDigit
slash_stops z = no_digit_at 47 (λ h. let g : digit_value 47 < 10 = h in omega (arith, g)) z

one_front : (ds es r s : List ℕ) → AllDigits 10 ds → AllDigits 10 es → NoDigit r → NoDigit s → ds ++ r ≡ es ++ s → (ds ≡ es) × (r ≡ s)
unfolding NoDigit
one_front [] [] r s h k n m e = (refl, e)
one_front [] (b ∷ es) r s h k n m e = absurd (n b (es ++ s) e k.0)
one_front (b ∷ ds) [] r s h k n m e = absurd (m b (ds ++ r) (sym e) h.0)
one_front (b ∷ ds) (c ∷ es) r s h k n m e =
    let rest = one_front ds es r s h.1 k.1 n m (tails e) in
    let first : b ≡ c = heads e in
    (λ i. first i ∷ rest.0 i, rest.1)

value_same : (ds es : List ℕ) (n m : ℕ) → digits_value 10 ds ≡ n → digits_value 10 es ≡ m → ds ≡ es → n ≡ m
value_same ds es n m p q e = sym p ∙ ap (digits_value 10) e ∙ q

module _ (m m' r r' : List ℕ) (n d n' d' : ℕ) (h : Stops r) (h' : Stops r') (e : m ++ r ≡ m' ++ r') where
  one_magnitude : SpellsMagnitude m n d → SpellsMagnitude m' n' d' → (n ≡ n') × (d ≡ d') × (r ≡ r')
  unfolding NoDigit
  one_magnitude (inl a) (inl b) =
      let f = one_front m m' r r' a.0.digits b.0.digits h.digit h'.digit e in
      (value_same m m' n n' a.0.value b.0.value f.0, a.1 ∙ sym b.1, f.1)
  one_magnitude (inl a) (inr q) =
      let f = one_front m q.top r (47 ∷ q.below ++ r') a.0.digits q.numerator.digits h.digit (slash_stops (q.below ++ r'))
      (e ∙ ap (λ t. t ++ r') q.text_is ∙ append_assoc q.top (47 ∷ q.below) r') in
      absurd (h.slash (q.below ++ r') f.1)
  one_magnitude (inr p) (inl b) =
      let f = one_front m' p.top r' (47 ∷ p.below ++ r) b.0.digits p.numerator.digits h'.digit (slash_stops (p.below ++ r))
      (sym e ∙ ap (λ t. t ++ r) p.text_is ∙ append_assoc p.top (47 ∷ p.below) r) in
      absurd (h'.slash (p.below ++ r) f.1)
  one_magnitude (inr p) (inr q) =
      let f = one_front p.top q.top (47 ∷ p.below ++ r) (47 ∷ q.below ++ r') p.numerator.digits q.numerator.digits
      (slash_stops (p.below ++ r)) (slash_stops (q.below ++ r'))
      (sym (append_assoc p.top (47 ∷ p.below) r) ∙ sym (ap (λ t. t ++ r) p.text_is) ∙ e ∙ ap (λ t. t ++ r') q.text_is
      ∙ append_assoc q.top (47 ∷ q.below) r') in
      let g = one_front p.below q.below r r' p.denominator.digits q.denominator.digits h.digit h'.digit (tails f.1) in (
        value_same p.top q.top n n' p.numerator.value q.numerator.value f.0,
        value_same p.below q.below d d' p.denominator.value q.denominator.value g.0,
        g.1,
      )

-- a magnitude doesn't begin as r3 does
digits_no_root : (ds z y : List ℕ) → AllDigits 10 ds → 1 ≤ length ds → ds ++ z ≡ 114 ∷ y → ⊥
digits_no_root [] z y h l e = omega arith
digits_no_root (b ∷ ds) z y h l e =
    let g : digit_value 114 < 10 = subst (λ x. digit_value x < 10) (heads e) h.0 in omega (arith, g)

magnitude_no_root : (m z y : List ℕ) (n d : ℕ) → SpellsMagnitude m n d → m ++ z ≡ 114 ∷ y → ⊥
magnitude_no_root m z y n d (inl a) e = digits_no_root m z y a.0.digits a.0.some e
magnitude_no_root m z y n d (inr q) e =
    digits_no_root q.top (47 ∷ q.below ++ z) y q.numerator.digits q.numerator.some
    (sym (ap (λ t. t ++ z) q.text_is ∙ append_assoc q.top (47 ∷ q.below) z) ∙ e)

pub one_factor : (f : List ℕ) (p q p' q' : ℕ) → SpellsFactor f p q → SpellsFactor f p' q' → (p ≡ p') × (q ≡ q')
one_factor f p q p' q' (inl a) (inl b) = (a.1 ∙ sym b.1, a.2 ∙ sym b.2)
one_factor f p q p' q' (inl a) (inr (m, s, e)) = absurd (magnitude_no_root m (42 ∷ root_word) (51 ∷ []) p' q' s (sym e ∙ a.0))
one_factor f p q p' q' (inr (m, s, e)) (inl b) = absurd (magnitude_no_root m (42 ∷ root_word) (51 ∷ []) p q s (sym e ∙ b.0))
one_factor f p q p' q' (inr (m, s, e)) (inr (m', s', e')) =
    let r = one_magnitude m m' (42 ∷ root_word) (42 ∷ root_word) p q p' q' (star_stops root_word) (star_stops root_word) (sym e ∙ e') s s' in
    (r.0, r.1)

-- what stands behind the first magnitude, and the number
data Tail (s : Sign) (n d : ℕ) (rest : List ℕ) (x : Number) : Type 0 where
  nothing : rest ≡ [] → x ≡ size s n d → Tail s n d rest x
  star : rest ≡ 42 ∷ root_word → x ≡ mul (size s n d) root_3 → Tail s n d rest x
  plus : (v : Sign) (f : List ℕ) (p q : ℕ) → SpellsFactor f p q → rest ≡ sign_byte v ∷ f →
      x ≡ add (size s n d) (mul (size v p q) root_3) → Tail s n d rest x

tail_stops : (s : Sign) (n d : ℕ) (rest : List ℕ) (x : Number) → Tail s n d rest x → Stops rest
tail_stops s n d rest x (nothing e v) = subst Stops (sym e) stops_none
tail_stops s n d rest x (star e v) = subst Stops (sym e) (star_stops root_word)
tail_stops s n d rest x (plus v f p q k e w) = subst Stops (sym e) (sign_stops v f)

one_sign : (v w : Sign) → sign_byte v ≡ sign_byte w → v ≡ w
one_sign Plus Plus e = refl
one_sign Minus Minus e = refl
one_sign Plus Minus e = absurd (let h : ◌≡◌ {A = ℕ} 43 45 = e in omega (arith, h))
one_sign Minus Plus e = absurd (let h : ◌≡◌ {A = ℕ} 45 43 = e in omega (arith, h))

one_tail : (s : Sign) (n d : ℕ) (rest : List ℕ) (x y : Number) → Tail s n d rest x → Tail s n d rest y → x ≡ y
one_tail s n d rest x y (nothing e a) (nothing f b) = a ∙ sym b
one_tail s n d rest x y (nothing e a) (star f b) = absurd (none_some (sym e ∙ f))
one_tail s n d rest x y (nothing e a) (plus v g p q k f b) = absurd (none_some (sym e ∙ f))
one_tail s n d rest x y (star e a) (nothing f b) = absurd (none_some (sym f ∙ e))
one_tail s n d rest x y (star e a) (star f b) = a ∙ sym b
one_tail s n d rest x y (star e a) (plus v g p q k f b) = absurd (sign_no_star v (heads (sym e ∙ f)))
one_tail s n d rest x y (plus v g p q k e a) (nothing f b) = absurd (none_some (sym f ∙ e))
one_tail s n d rest x y (plus v g p q k e a) (star f b) = absurd (sign_no_star v (heads (sym f ∙ e)))
one_tail s n d rest x y (plus v g p q k e a) (plus v' g' p' q' k' f b) =
    let sign : v ≡ v' = one_sign v v' (heads (sym e ∙ f)) in
    let text : g ≡ g' = tails (sym e ∙ f) in
    let parts = one_factor g p q p' q' k (subst (λ t. SpellsFactor t p' q') (sym text) k') in
    a ∙ (λ i. add (size s n d) (mul (size (sign i) (parts.0 i) (parts.1 i)) root_3)) ∙ sym b

data Parts (s : Sign) (text : List ℕ) (x : Number) : Type 0 where
  root : text ≡ root_word → x ≡ mul (size s 1 1) root_3 → Parts s text x
  front : (m rest : List ℕ) (n d : ℕ) → SpellsMagnitude m n d → text ≡ m ++ rest → Tail s n d rest x → Parts s text x

parts_of : (s : Sign) (text : List ℕ) (x : Number) → SpellsSigned s text x → Parts s text x
parts_of s text x (inl (n, d, m, e)) = front text [] n d m (sym (append-nil text)) (nothing refl e)
parts_of s text x (inr (inl (n, d, inl (t, p, q), e))) = root t (e ∙ (λ i. mul (size s (p i) (q i)) root_3))
parts_of s text x (inr (inl (n, d, inr (m, k, t), e))) = front m (42 ∷ root_word) n d k t (star refl e)
parts_of s text x (inr (inr t)) =
    front t.magnitude (sign_byte t.sign ∷ t.factor) t.n t.d t.rational t.text_is (plus t.sign t.factor t.p t.q t.root refl t.value)

one_of_parts : (s : Sign) (text : List ℕ) (x y : Number) → Parts s text x → Parts s text y → x ≡ y
one_of_parts s text x y (root e a) (root f b) = a ∙ sym b
one_of_parts s text x y (root e a) (front m r n d k f t) = absurd (magnitude_no_root m r (51 ∷ []) n d k (sym f ∙ e))
one_of_parts s text x y (front m r n d k f t) (root e a) = absurd (magnitude_no_root m r (51 ∷ []) n d k (sym f ∙ e))
one_of_parts s text x y (front m r n d k e t) (front m' r' n' d' k' f u) =
    let same = one_magnitude m m' r r' n d n' d' (tail_stops s n d r x t) (tail_stops s n' d' r' y u) (sym e ∙ f) k k' in
    one_tail s n' d' r' x y (subst (λ z. Tail s n' d' z x) same.2 (subst (λ c. Tail s n' c r x) same.1 (subst (λ c. Tail s c d r x) same.0 t))) u

pub one_number_lem : OneNumber
one_number_lem word x y (inl a) (inl b) = one_of_parts Plus word x y (parts_of Plus word x a) (parts_of Plus word y b)
one_number_lem word x y (inl a) (inr (r, e, b)) = absurd (no_minus r (signed_to Plus (45 ∷ r) (x, subst (λ t. SpellsSigned Plus t x) e a)))
one_number_lem word x y (inr (r, e, a)) (inl b) = absurd (no_minus r (signed_to Plus (45 ∷ r) (y, subst (λ t. SpellsSigned Plus t y) e b)))
one_number_lem word x y (inr (r, e, a)) (inr (r', f, b)) =
    let same : r ≡ r' = tails (sym e ∙ f) in
    one_of_parts Minus r x y (parts_of Minus r x a) (parts_of Minus r y (subst (λ t. SpellsSigned Minus t y) (sym same) b))
