-- The languages of multiples of √3 and of numbers, as what follows a magnitude.
--   FactorRest, SignedRest    what stands behind the first magnitude
--   factor_to, factor_from, signed_to, signed_from    a text is r3, or it begins with a magnitude
--   RootOr, root_begun, whole_begun, no_magnitude, ended    a text of one of them, read from its beginning
--   byte_step, step_faulty, no_star, no_sign    the byte behind a magnitude
--   split_at, front_spelled, whole_front    the text of what was read
--   minus_faulty, minus_read, plus_read    with a - before the text, or without
use Rattle.list_laws.proofs.Kit.{◌≡◌, ◌≢◌, ℕ, zero, suc, ◌+◌, ◌-◌, ◌<◌, ◌≤◌, ◌⊎◌, inl, inr, List, [], ◌∷◌, ◌++◌, length, get_or, take, drop, refl, sym, ap}
use Rattle.list_laws.proofs.Kit.{subst, ◌∙◌, arith, cases_lt, drop_more, digit_value, digits_value}
use Rattle.std.proofs.Common.{length-drop}
use Rattle.std.proofs.lemmas.List.{append-nil, length-take, take-append-drop}
use Rattle.std.specs.Prelude.{Result, Ok, Err}
use Rattle.list_laws.proofs.Lists.{heads, tails, none_some}
use Rattle.tensor_defs.specs.Number.{Number, Root3, mul, root_3, add}
use Rattle.tensor_defs.specs.declared.Sign.{Sign}
use Rattle.tensor_defs.specs.declared.Sign.TheVariants.{Plus, Minus}
use Rattle.text_defs.specs.Languages.{IsFaulty}
use Rattle.text_defs.specs.declared.Fault.{Fault}
use Rattle.fault_places.proofs.Places.{Through, Through-faulty, Through-near, Through-short, Through-start, Through-step, Through-stuck}
use Rattle.number_words.specs.NumberWords.{IsDigits, IsNumberText, ReadsNumber, SpellsMagnitude, SpellsNumber, SpellsSigned, root_word, sign_byte, size}
use Rattle.number_words.specs.Runs.{IsAt, IsFactorText, IsRun, IsSignedText, TellsMagnitude, TellsSigned}
use Rattle.number_words.specs.declared.magnitudes.Magnitude.{Magnitude}
use Rattle.number_words.proofs.Rests.{IsBehind, IsSplit, Whole, magnitude_ends, magnitude_faulty, spelled_whole, split_told}

none_more : (n : ℕ) → 0 + n ≡ n
none_more n = omega arith

pub FactorRest : List ℕ → Type 0
FactorRest z = z ≡ 42 ∷ root_word

pub SignedRest : List ℕ → Type 0
SignedRest z = (z ≡ []) ⊎ (z ≡ 42 ∷ root_word) ⊎ ((s : Sign) × (f : List ℕ) × IsFactorText f × (z ≡ sign_byte s ∷ f))

-- none of these bytes is a digit
star_no_digit : digit_value 42 < 10 → ⊥
star_no_digit h = omega (arith, h)

sign_no_digit : (s : Sign) → digit_value (sign_byte s) < 10 → ⊥
sign_no_digit Plus h = omega (arith, h)
sign_no_digit Minus h = omega (arith, h)

minus_no_root : ◌≡◌ {A = ℕ} 45 114 → ⊥
minus_no_root e = omega (arith, e)

slash_no_star : ◌≡◌ {A = ℕ} 47 42 → ⊥
slash_no_star e = omega (arith, e)

sign_no_slash : (s : Sign) → 47 ≡ sign_byte s → ⊥
sign_no_slash Plus e = omega arith
sign_no_slash Minus e = omega arith

pub sign_no_star : (s : Sign) → 42 ≡ sign_byte s → ⊥
sign_no_star Plus e = omega arith
sign_no_star Minus e = omega arith

pub behind_factor : IsBehind FactorRest
unfolding FactorRest
behind_factor = record {
  live = (42 ∷ root_word, refl);
  no_digit = λ b z e h. star_no_digit (subst (λ c. digit_value c < 10) (heads e) h);
  no_slash = λ z e. slash_no_star (heads e);
}

pub behind_signed : IsBehind SignedRest
unfolding SignedRest
behind_signed = record { live = ([], inl refl); no_digit = no_digit; no_slash = no_slash }
  where
    no_digit : (b : ℕ) (z : List ℕ) → SignedRest (b ∷ z) → digit_value b < 10 → ⊥
    no_digit b z (inl e) h = none_some (sym e)
    no_digit b z (inr (inl e)) h = star_no_digit (subst (λ c. digit_value c < 10) (heads e) h)
    no_digit b z (inr (inr x)) h = sign_no_digit x.0 (subst (λ c. digit_value c < 10) (heads x.3) h)

    no_slash : (z : List ℕ) → SignedRest (47 ∷ z) → ⊥
    no_slash z (inl e) = none_some (sym e)
    no_slash z (inr (inl e)) = slash_no_star (heads e)
    no_slash z (inr (inr x)) = sign_no_slash x.0 (heads x.3)

abbrev pub RootOr : (List ℕ → Type 0) → List ℕ → Type 0
RootOr K z = (z ≡ root_word) ⊎ Whole K 0 z

pub factor_to : (z : List ℕ) → IsFactorText z → RootOr FactorRest z
unfolding FactorRest
factor_to z (n, d, inl x) = inl x.0
factor_to z (n, d, inr (m, s, e)) = inr (subst (Whole FactorRest 0) (sym e) (spelled_whole FactorRest behind_factor m (42 ∷ root_word) n d s refl))

pub factor_from : (z : List ℕ) → RootOr FactorRest z → IsFactorText z
unfolding FactorRest
factor_from z (inl e) = (1, 1, inl (e, refl, refl))
factor_from z (inr x) =
    let s = split_told FactorRest z x in
    (s.n, s.d, inr (s.magnitude, s.spelled, s.text_is ∙ ap (λ t. s.magnitude ++ t) s.behind))

module _ (s : Sign) where
  pub signed_to : (z : List ℕ) → IsSignedText s z → RootOr SignedRest z
  unfolding SignedRest
  signed_to z (x, inl (n, d, m, e)) =
      inr (subst (Whole SignedRest 0) (append-nil z) (spelled_whole SignedRest behind_signed z [] n d m (inl refl)))
  signed_to z (x, inr (inl (n, d, inl r, e))) = inl r.0
  signed_to z (x, inr (inl (n, d, inr (m, p, f), e))) =
      inr (subst (Whole SignedRest 0) (sym f) (spelled_whole SignedRest behind_signed m (42 ∷ root_word) n d p (inr (inl refl))))
  signed_to z (x, inr (inr t)) =
      inr (subst (Whole SignedRest 0) (sym t.text_is)
      (spelled_whole SignedRest behind_signed t.magnitude (sign_byte t.sign ∷ t.factor) t.n t.d t.rational
      (inr (inr (t.sign, t.factor, (t.p, t.q, t.root), refl)))))

  from_split : (z : List ℕ) → (t : IsSplit SignedRest z) → SignedRest t.rest → IsSignedText s z
  unfolding SignedRest
  from_split z t (inl e) = (
    size s t.n t.d,
    inl (
      t.n,
      t.d,
      subst (λ u. SpellsMagnitude u t.n t.d)
          (sym (t.text_is ∙ ap (λ u. t.magnitude ++ u) e ∙ append-nil t.magnitude)) t.spelled,
      refl,
    ),
  )
  from_split z t (inr (inl e)) =
      (mul (size s t.n t.d) root_3, inr (inl (t.n, t.d, inr (t.magnitude, t.spelled, t.text_is ∙ ap (λ u. t.magnitude ++ u) e), refl)))
  from_split z t (inr (inr (sign, f, (p, q, root), e))) = (
    add (size s t.n t.d) (mul (size sign p q) root_3),
    inr (inr (record {
      magnitude = t.magnitude;
      factor = f;
      sign = sign;
      text_is = t.text_is ∙ ap (λ u. t.magnitude ++ u) e;
      n = t.n;
      d = t.d;
      rational = t.spelled;
      p = p;
      q = q;
      root = root;
      value = refl;
    })),
  )

  pub signed_from : (z : List ℕ) → RootOr SignedRest z → IsSignedText s z
  signed_from z (inl e) = (mul (size s 1 1) root_3, inr (inl (1, 1, inl (e, refl, refl), refl)))
  signed_from z (inr x) = let t = split_told SignedRest z x in from_split z t t.behind

-- ---- a text with a language of this form
abbrev pub BeginsRoot : List ℕ → Type 0
BeginsRoot w = IsAt w 0 114

module _ (K : List ℕ → Type 0) (Text : List ℕ → Type 0) (to : (z : List ℕ) → Text z → RootOr K z)
    (from : (z : List ℕ) → RootOr K z → Text z) (w : List ℕ) where
  root_only : (z : List ℕ) (c : ℕ) → c ≡ 114 → Whole K 0 (c ∷ z) → ⊥
  unfolding Whole
  root_only z c e (inl x) = let l : digit_value 114 < 10 = subst (λ b. digit_value b < 10) e x.0 in omega (arith, l)
  root_only z c e (inr (inl x)) = let a = x.1 in omega arith
  root_only z c e (inr (inr x)) = let a = x.0 in omega arith

  begun : Through Text (RootOr K) w 0
  begun = Through-start Text (RootOr K) w to from

  pub root_begun : BeginsRoot w → Through Text (λ z. z ≡ root_word) w 0
  root_begun r = Through-near Text (RootOr K) (λ z. z ≡ root_word) w 0 begun (λ z e. inl e) (near w r) (whole w r)
    where
      near : (v : List ℕ) → BeginsRoot v → (c : ℕ) (cs z : List ℕ) → drop 0 v ≡ c ∷ cs → RootOr K (c ∷ z) → c ∷ z ≡ root_word
      near [] r c cs z e x = absurd (none_some e)
      near (b ∷ v) r c cs z e (inl x) = x
      near (b ∷ v) r c cs z e (inr x) = absurd (root_only z c (sym (heads e) ∙ r.1) x)

      whole : (v : List ℕ) → BeginsRoot v → RootOr K (drop 0 v) → drop 0 v ≡ root_word
      whole [] r x = absurd (let l = r.0 in omega arith)
      whole (b ∷ v) r (inl x) = x
      whole (b ∷ v) r (inr x) = absurd (root_only v b r.1 x)

  pub whole_begun : (BeginsRoot w → ⊥) → Through Text (Whole K 0) w 0
  whole_begun other = Through-near Text (RootOr K) (Whole K 0) w 0 begun (λ z x. inr x) (near w other) (whole w other)
    where
      near : (v : List ℕ) → (BeginsRoot v → ⊥) → (c : ℕ) (cs z : List ℕ) → drop 0 v ≡ c ∷ cs → RootOr K (c ∷ z) → Whole K 0 (c ∷ z)
      near [] other c cs z e x = absurd (none_some e)
      near (b ∷ v) other c cs z e (inl x) = absurd (other (omega arith, heads e ∙ heads x))
      near (b ∷ v) other c cs z e (inr x) = x

      whole : (v : List ℕ) → (BeginsRoot v → ⊥) → RootOr K (drop 0 v) → Whole K 0 (drop 0 v)
      whole [] other (inl x) = absurd (none_some x)
      whole (b ∷ v) other (inl x) = absurd (other (omega arith, heads x))
      whole v other (inr x) = x

  pub root_faulty : BeginsRoot w → (f : ℕ) → IsFaulty (λ z. z ≡ root_word) w f → IsFaulty Text w f
  root_faulty r f h = subst (IsFaulty Text w) (none_more f) (Through-faulty Text (λ z. z ≡ root_word) w 0 f (root_begun r) h)

  module _ (behind : IsBehind K) (other : BeginsRoot w → ⊥) where
    pub no_magnitude : (f : Fault) → TellsMagnitude w (Err f) → IsFaulty Text w f.place
    no_magnitude f h = magnitude_faulty K behind Text w (whole_begun other) f h

    pub ended : (m : Magnitude) → TellsMagnitude w (Ok m) → Through Text K w m.end
    ended m h = magnitude_ends K behind Text w (whole_begun other) m h

pub whole_front : (w : List ℕ) (n : ℕ) → n ≡ length w → take n w ≡ w
whole_front w n e = ap (λ k. take k w) e ∙ all w
  where
    all : (v : List ℕ) → take (length v) v ≡ v
    all [] = refl
    all (b ∷ v) = ap (λ t. b ∷ t) (all v)

-- ---- one byte more
pub byte_step : (Text A B : List ℕ → Type 0) (w : List ℕ) (n b : ℕ) → Through Text A w n → IsAt w n b →
    ((z : List ℕ) → A (b ∷ z) → B z) → ((z : List ℕ) → B z → A (b ∷ z)) → Through Text B w (n + 1)
byte_step Text A B w n b t at to back =
    Through-step Text A w n t B at.0 (λ z x. to z (subst (λ c. A (c ∷ z)) at.1 x)) (λ z x. subst (λ c. A (c ∷ z)) (sym at.1) (back z x))

-- what is behind a place
abbrev pub rest : List ℕ → ℕ → List ℕ
rest w n = take (length w - n) (drop n w)

pub rest_is : (w : List ℕ) (n : ℕ) → rest w n ≡ drop n w
rest_is w n = whole_front (drop n w) (length w - n) (omega (arith, length-drop n w))

-- behind that byte the word goes wrong
pub step_faulty : (Text A B : List ℕ → Type 0) (w : List ℕ) (n b f place : ℕ) → Through Text A w n → IsAt w n b →
    ((z : List ℕ) → A (b ∷ z) → B z) → ((z : List ℕ) → B z → A (b ∷ z)) → IsFaulty B (rest w (n + 1)) f →
    place ≡ n + 1 + f → IsFaulty Text w place
step_faulty Text A B w n b f place t at to back h e =
    subst (IsFaulty Text w) (sym e) (Through-faulty Text B w (n + 1) f (byte_step Text A B w n b t at to back)
    (subst (λ v. IsFaulty B v f) (rest_is w (n + 1)) h))

pub factor_star : (z : List ℕ) → FactorRest (42 ∷ z) → z ≡ root_word
unfolding FactorRest
factor_star z e = tails e

pub star_factor : (z : List ℕ) → z ≡ root_word → FactorRest (42 ∷ z)
unfolding FactorRest
star_factor z e = ap (λ t. 42 ∷ t) e

pub no_star : (Text : List ℕ → Type 0) (w : List ℕ) (n : ℕ) → Through Text FactorRest w n → (IsAt w n 42 → ⊥) → IsFaulty Text w n
unfolding FactorRest
no_star Text w n t other = elim (cases_lt n (length w)) [
  | inl l ↦ Through-stuck Text FactorRest w n t l (42 ∷ root_word, refl) (λ z e. other (l, heads e))
  | inr l ↦ Through-short Text FactorRest w n t l (42 ∷ root_word, refl) (λ e. none_some e)
]

pub signed_star : (z : List ℕ) → SignedRest (42 ∷ z) → z ≡ root_word
unfolding SignedRest
signed_star z (inl e) = absurd (none_some (sym e))
signed_star z (inr (inl e)) = tails e
signed_star z (inr (inr x)) = absurd (sign_no_star x.0 (heads x.3))

pub star_signed : (z : List ℕ) → z ≡ root_word → SignedRest (42 ∷ z)
unfolding SignedRest
star_signed z e = inr (inl (ap (λ t. 42 ∷ t) e))

pub signed_sign : (s : Sign) (z : List ℕ) → SignedRest (sign_byte s ∷ z) → IsFactorText z
unfolding SignedRest
signed_sign s z (inl e) = absurd (none_some (sym e))
signed_sign s z (inr (inl e)) = absurd (sign_no_star s (sym (heads e)))
signed_sign s z (inr (inr (v, f, x, e))) = subst IsFactorText (sym (tails e)) x

pub sign_signed : (s : Sign) (z : List ℕ) → IsFactorText z → SignedRest (sign_byte s ∷ z)
unfolding SignedRest
sign_signed s z x = inr (inr (s, z, x, refl))

pub no_sign : (Text : List ℕ → Type 0) (w : List ℕ) (n b : ℕ) → Through Text SignedRest w n → IsAt w n b → (IsAt w n 42 → ⊥) →
    b ≢ 43 → b ≢ 45 → IsFaulty Text w n
unfolding SignedRest
no_sign Text w n b t at other plus minus = Through-stuck Text SignedRest w n t at.0 ([], inl refl) never
  where
    byte_of : (s : Sign) → b ≡ sign_byte s → ⊥
    byte_of Plus e = plus e
    byte_of Minus e = minus e

    never : (z : List ℕ) → SignedRest (get_or w n 0 ∷ z) → ⊥
    never z (inl e) = none_some (sym e)
    never z (inr (inl e)) = other (at.0, heads e)
    never z (inr (inr x)) = byte_of x.0 (sym at.1 ∙ heads x.3)

-- ---- the text of what was read
take_plus : (w : List ℕ) (a b : ℕ) → take (a + b) w ≡ take a w ++ take b (drop a w)
take_plus w zero b = ap (λ n. take n w) (none_more b)
take_plus [] (suc a) b = nothing (suc a + b) ∙ sym (nothing b)
  where
    nothing : (n : ℕ) → ◌≡◌ {A = List ℕ} (take n []) []
    nothing zero = refl
    nothing (suc n) = refl
take_plus (c ∷ w) (suc a) b =
    let one : suc a + b ≡ suc (a + b) = omega arith in
    ap (λ n. take n (c ∷ w)) one ∙ ap (λ t. c ∷ t) (take_plus w a b)

run_digits : (w : List ℕ) (v c : ℕ) → IsRun w v c → 1 ≤ c → IsDigits (take c w) v
run_digits w v c r some =
    let l : length (take c w) ≡ c = let a = r.within in omega (arith, length-take c w) in
    record {
      some = subst (λ n. 1 ≤ n) (sym l) some;
      few = subst (λ n. n ≤ 18) (sym l) r.few;
      digits = r.digits;
      value = r.value_is;
    }

more_some : (w : List ℕ) (v c : ℕ) → IsRun w v c → 0 < v → 1 ≤ c
more_some w v c r h = elim (cases_lt 0 c) [ inl l ↦ l | inr l ↦ absurd (none (omega arith) r.value_is) ]
  where
    none : c ≡ 0 → digits_value 10 (take c w) ≡ v → ⊥
    none e x = let z : 0 ≡ v = subst (λ k. digits_value 10 (take k w) ≡ v) e x in omega arith

pub split_at : (w : List ℕ) (n b : ℕ) → IsAt w n b → w ≡ take n w ++ b ∷ drop (n + 1) w
split_at w n b at =
    sym (take-append-drop n w) ∙ ap (λ t. take n w ++ t) (drop_more w n 0 at.0 ∙ ap (λ c. c ∷ drop (n + 1) w) at.1)

pub front_spelled : (w : List ℕ) (m : Magnitude) → TellsMagnitude w (Ok m) → SpellsMagnitude (take m.end w) m.num m.den
front_spelled w m (inl s) = inl (run_digits w m.num m.end s.run s.some, s.one)
front_spelled w m (inr (count, more, s, h, e)) =
    let one : m.end ≡ count + (1 + more) = omega arith in
    inr (record {
      top = take count w;
      below = take more (drop (count + 1) w);
      text_is = ap (λ n. take n w) one ∙ take_plus w count (1 + more)
          ∙ ap (λ t. take count w ++ t) (front (drop count w) (drop_more w count 0 s.inside ∙ ap (λ c. c ∷ drop (count + 1) w) s.slash));
      numerator = run_digits w m.num count s.run s.some;
      denominator = run_digits (drop (count + 1) w) m.den more s.below (more_some (drop (count + 1) w) m.den more s.below h);
      not_zero = h;
    })
  where
    front : (v : List ℕ) → v ≡ 47 ∷ drop (count + 1) w → take (1 + more) v ≡ 47 ∷ take more (drop (count + 1) w)
    front v f =
        let one : 1 + more ≡ suc more = omega arith in
        ap (λ t. take (1 + more) t) f ∙ ap (λ n. take n (47 ∷ drop (count + 1) w)) one

pub no_minus : (z : List ℕ) → RootOr SignedRest (45 ∷ z) → ⊥
unfolding Whole SignedRest
no_minus z (inl e) = minus_no_root (heads e)
no_minus z (inr (inl x)) = sign_no_digit Minus x.0
no_minus z (inr (inr (inl x))) = let a = x.1 in omega arith
no_minus z (inr (inr (inr x))) = let a = x.0 in omega arith

-- ---- with a - before the text, or without
pub minus_faulty : (w : List ℕ) (f place : ℕ) → IsAt w 0 45 → IsFaulty (IsSignedText Minus) (rest w 1) f → place ≡ 1 + f → IsFaulty IsNumberText w place
minus_faulty w f place at h e =
    step_faulty IsNumberText IsNumberText (IsSignedText Minus) w 0 45 f place
    (Through-start IsNumberText IsNumberText w (λ z x. x) (λ z x. x)) at to back h e
  where
    to : (z : List ℕ) → IsNumberText (45 ∷ z) → IsSignedText Minus z
    to z (x, inl s) = absurd (no_minus z (signed_to Plus (45 ∷ z) (x, s)))
    to z (x, inr (rest, is, s)) = (x, subst (λ t. SpellsSigned Minus t x) (sym (tails is)) s)

    back : (z : List ℕ) → IsSignedText Minus z → IsNumberText (45 ∷ z)
    back z (x, s) = (x, inr (z, refl, s))

plus_faulty : (w : List ℕ) (f : ℕ) → (IsAt w 0 45 → ⊥) → IsFaulty (IsSignedText Plus) w f → IsFaulty IsNumberText w f
plus_faulty w f other h =
    subst (IsFaulty IsNumberText w) (none_more f) (Through-faulty IsNumberText (IsSignedText Plus) w 0 f
    (Through-near IsNumberText IsNumberText (IsSignedText Plus) w 0 (Through-start IsNumberText IsNumberText w (λ z x. x) (λ z x. x))
    (λ z x. (x.0, inl x.1)) (near w other) (whole w other)) h)
  where
    near : (v : List ℕ) → (IsAt v 0 45 → ⊥) → (c : ℕ) (cs z : List ℕ) → drop 0 v ≡ c ∷ cs → IsNumberText (c ∷ z) → IsSignedText Plus (c ∷ z)
    near [] other c cs z e x = absurd (none_some e)
    near (b ∷ v) other c cs z e (x, inl s) = (x, s)
    near (b ∷ v) other c cs z e (x, inr (rest, is, s)) = absurd (other (omega arith, heads e ∙ heads is))

    whole : (v : List ℕ) → (IsAt v 0 45 → ⊥) → IsNumberText (drop 0 v) → IsSignedText Plus (drop 0 v)
    whole v other (x, inl s) = (x, s)
    whole [] other (x, inr (rest, is, s)) = absurd (none_some is)
    whole (b ∷ v) other (x, inr (rest, is, s)) = absurd (other (omega arith, heads is))

pub plus_read : (w : List ℕ) (r : Result Root3 Fault) → (IsAt w 0 45 → ⊥) → TellsSigned Plus w r → ReadsNumber w r
plus_read w (Ok x) other h = inl h
plus_read w (Err f) other h = plus_faulty w f.place other h

pub minus_read : (w : List ℕ) (x : Number) → IsAt w 0 45 → SpellsSigned Minus (rest w 1) x → SpellsNumber w x
minus_read w x at h = inr (drop 1 w, split_at w 0 45 at, subst (λ v. SpellsSigned Minus v x) (rest_is w 1) h)
