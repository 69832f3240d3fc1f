-- Where a text stops to begin a text of a language, byte by byte.
--   After    text begins nothing that goes on with the byte x
--   StopsAt    the first m bytes of the word begin a text, and no more of it does
--   same_stop_near    A and B have the same texts among those that begin with the word's first byte
--   Through    behind its first n bytes the word goes on as a text of Rest
--   Through-step, Through-stuck, Through-short, Through-start, Through-skip, Through-near, Through-first
--       one byte more, where the word goes on as a text of A behind its first n bytes
use Rattle.list_laws.proofs.Kit.{◌≡◌, ℕ, zero, suc, ◌+◌, ◌<◌, ◌≤◌, List, [], ◌∷◌, ◌++◌, length, take, drop, get_or, refl, sym, subst, ◌∙◌, inl, inr, arith}
use Rattle.list_laws.proofs.Kit.{cases_lt, drop_more, drop_of_length-le}
use Rattle.text_defs.specs.Languages.{Begins, IsFaultPlace, IsFaulty}

-- Text begins nothing that goes on with the byte x.
abbrev pub After : (List ℕ → Type 0) → ℕ → List ℕ → Type 0
After Text x z = Text (x ∷ z)

-- The first m bytes of the word begin a text, and no more of it does.
abbrev pub StopsAt : (List ℕ → Type 0) → List ℕ → ℕ → Type 0
StopsAt Text [] m = (m ≡ 0) × ((z : List ℕ) × Text z)
StopsAt Text (x ∷ xs) zero = ((z : List ℕ) × Text z) × ((z : List ℕ) → Text (x ∷ z) → ⊥)
StopsAt Text (x ∷ xs) (suc m) = StopsAt (λ z. Text (x ∷ z)) xs m

pub same_stop : (A B : List ℕ → Type 0) → ((z : List ℕ) → A z → B z) → ((z : List ℕ) → B z → A z) → (w : List ℕ) (m : ℕ) → StopsAt A w m → StopsAt B w m
same_stop A B f g [] m h = (h.0, (h.1.0, f h.1.0 h.1.1))
same_stop A B f g (x ∷ xs) zero h = ((h.0.0, f h.0.0 h.0.1), λ z b. h.1 z (g (x ∷ z) b))
same_stop A B f g (x ∷ xs) (suc m) h = same_stop (λ z. A (x ∷ z)) (λ z. B (x ∷ z)) (λ z. f (x ∷ z)) (λ z. g (x ∷ z)) xs m h

pub StopsAt-within : (A : List ℕ → Type 0) (w : List ℕ) (m : ℕ) → StopsAt A w m → m ≤ length w
StopsAt-within A [] m h = omega (arith, h.0)
StopsAt-within A (x ∷ xs) zero h = omega arith
StopsAt-within A (x ∷ xs) (suc m) h = omega (arith, StopsAt-within (λ z. A (x ∷ z)) xs m h)

pub StopsAt-begins : (A : List ℕ → Type 0) (w : List ℕ) (m : ℕ) → StopsAt A w m → Begins A (take m w)
StopsAt-begins A [] zero h = h.1
StopsAt-begins A [] (suc m) h = absurd (omega (arith, h.0))
StopsAt-begins A (x ∷ xs) zero h = h.0
StopsAt-begins A (x ∷ xs) (suc m) h = StopsAt-begins (λ z. A (x ∷ z)) xs m h

pub StopsAt-longest : (A : List ℕ → Type 0) (w : List ℕ) (m : ℕ) → StopsAt A w m → (n : ℕ) → n ≤ length w → m < n → ¬ Begins A (take n w)
StopsAt-longest A [] m h n fits more b = omega arith
StopsAt-longest A (x ∷ xs) zero h zero fits more b = omega arith
StopsAt-longest A (x ∷ xs) zero h (suc n) fits more b = h.1 (take n xs ++ b.0) b.1
StopsAt-longest A (x ∷ xs) (suc m) h zero fits more b = omega arith
StopsAt-longest A (x ∷ xs) (suc m) h (suc n) fits more b = StopsAt-longest (λ z. A (x ∷ z)) xs m h n (omega arith) (omega arith) b

pub fault_place : (A : List ℕ → Type 0) (w : List ℕ) (m : ℕ) → StopsAt A w m → IsFaultPlace A w m
fault_place A w m h = record { within = StopsAt-within A w m h; begins = StopsAt-begins A w m h; longest = StopsAt-longest A w m h }

pub stops : (A : List ℕ → Type 0) (w : List ℕ) (m : ℕ) → IsFaultPlace A w m → StopsAt A w m
stops A [] zero h = (refl, h.begins)
stops A [] (suc m) h = absurd (omega (arith, h.within))
stops A (x ∷ xs) zero h = (h.begins, λ z a. h.longest (suc zero) (omega arith) (omega arith) (z, a))
stops A (x ∷ xs) (suc m) h = stops (λ z. A (x ∷ z)) xs m (record { within = omega (arith, h.within); begins = h.begins; longest = λ n fits more b. h.longest (suc n) (omega arith) (omega arith) b })

-- A and B have the same texts among those that begin with the word's first byte.
pub same_stop_near : (A B : List ℕ → Type 0) → ((z : List ℕ) → A z → B z) → (w : List ℕ) → ((c : ℕ) (cs z : List ℕ) → w ≡ c ∷ cs → B (c ∷ z) → A (c ∷ z)) → (m : ℕ) → StopsAt A w m → StopsAt B w m
same_stop_near A B f [] g m h = (h.0, (h.1.0, f h.1.0 h.1.1))
same_stop_near A B f (x ∷ xs) g zero h = ((h.0.0, f h.0.0 h.0.1), λ z b. h.1 z (g x xs z refl b))
same_stop_near A B f (x ∷ xs) g (suc m) h = same_stop (λ z. A (x ∷ z)) (λ z. B (x ∷ z)) (λ z. f (x ∷ z)) (λ z. g x xs z refl) xs m h

pub faulty : (A : List ℕ → Type 0) (w : List ℕ) (m : ℕ) → ¬ A w → StopsAt A w m → IsFaulty A w m
faulty A w m none h = record { none = none; place_is = fault_place A w m h }

pub same_faulty : (A B : List ℕ → Type 0) → ((z : List ℕ) → A z → B z) → ((z : List ℕ) → B z → A z) → (w : List ℕ) (m : ℕ) → IsFaulty A w m → IsFaulty B w m
same_faulty A B f g w m h = faulty B w m (λ b. h.none (g w b)) (same_stop A B f g w m (stops A w m h.place_is))

-- Behind its first n bytes the word goes on as a text of Rest.
pub record Through (Text Rest : List ℕ → Type 0) (word : List ℕ) (n : ℕ) : Type 0 where
  pub within : n ≤ length word
  pub some : Rest (drop n word) → Text word
  pub only : Text word → Rest (drop n word)
  pub stop : (m : ℕ) → StopsAt Rest (drop n word) m → StopsAt Text word (n + m)

pub Through-faulty : (A B : List ℕ → Type 0) (w : List ℕ) (n m : ℕ) → Through A B w n → IsFaulty B (drop n w) m → IsFaulty A w (n + m)
Through-faulty A B w n m t h = faulty A w (n + m) (λ a. h.none (t.only a)) (t.stop m (stops B (drop n w) m h.place_is))

-- ---- one byte more, where the word goes on as a text of A behind its first n bytes

at_drop : (w : List ℕ) (n : ℕ) → n < length w → drop n w ≡ get_or w n 0 ∷ drop (n + 1) w
at_drop w n lt = drop_more w n 0 lt

shift_stop : (A : List ℕ → Type 0) (b : ℕ) (bs : List ℕ) (m : ℕ) → StopsAt (λ z. A (b ∷ z)) bs m → StopsAt A (b ∷ bs) (suc m)
shift_stop A b bs m h = h

module _ (Text A : List ℕ → Type 0) (w : List ℕ) (n : ℕ) (t : Through Text A w n) where
  pub Through-step : (B : List ℕ → Type 0) → n < length w → ((z : List ℕ) → A (get_or w n 0 ∷ z) → B z) → ((z : List ℕ) → B z → A (get_or w n 0 ∷ z)) → Through Text B w (n + 1)
  Through-step B lt to back =
      let is = at_drop w n lt in
      record {
        within = omega arith;
        some = λ b. t.some (let P : List ℕ → Type 0 = A in subst P (sym is) (back (drop (n + 1) w) b));
        only = λ x. to (drop (n + 1) w) (let P : List ℕ → Type 0 = A in subst P is (t.only x));
        stop = λ m h. subst (StopsAt Text w) (suc_in n m) (t.stop (suc m) (let P : List ℕ → Type 0 = λ (l : List ℕ). StopsAt A l (suc m) in subst P (sym is) (same_stop B (λ z. A (get_or w n 0 ∷ z)) back to (drop (n + 1) w) m h)));
      }
    where
      suc_in : (n m : ℕ) → n + suc m ≡ n + 1 + m
      suc_in n m = omega arith

  pub Through-stuck : n < length w → (z : List ℕ) × A z → ((z : List ℕ) → A (get_or w n 0 ∷ z) → ⊥) → IsFaulty Text w n
  Through-stuck lt live never =
      let is = at_drop w n lt in
      faulty Text w n (λ x. never (drop (n + 1) w) (let P : List ℕ → Type 0 = A in subst P is (t.only x))) (subst (StopsAt Text w) (none_in n) (t.stop 0 (let P : List ℕ → Type 0 = λ (l : List ℕ). StopsAt A l 0 in subst P (sym is) (live, never))))
    where
      none_in : (n : ℕ) → n + 0 ≡ n
      none_in n = omega arith

  pub Through-short : length w ≤ n → (z : List ℕ) × A z → (A [] → ⊥) → IsFaulty Text w n
  Through-short le live never =
      let is = drop_of_length-le w le in
      faulty Text w n (λ x. never (let P : List ℕ → Type 0 = A in subst P is (t.only x))) (subst (StopsAt Text w) (none_in n) (t.stop 0 (let P : List ℕ → Type 0 = λ (l : List ℕ). StopsAt A l 0 in subst P (sym is) (refl, live))))
    where
      none_in : (n : ℕ) → n + 0 ≡ n
      none_in n = omega arith

pub Through-start : (Text A : List ℕ → Type 0) (w : List ℕ) → ((z : List ℕ) → Text z → A z) → ((z : List ℕ) → A z → Text z) → Through Text A w 0
Through-start Text A w to back = record { within = omega arith; some = λ a. back w a; only = λ x. to w x; stop = λ m h. subst (StopsAt Text w) (none_in m) (same_stop A Text back to w m h) }
  where
    none_in : (m : ℕ) → m ≡ 0 + m
    none_in m = omega arith

-- Several bytes on.
pub Through-skip : (Text : List ℕ → Type 0) (u : List ℕ) (A : List ℕ → Type 0) (w : List ℕ) (n : ℕ) → Through Text A w n → (r : List ℕ) → drop n w ≡ u ++ r → Through Text (λ z. A (u ++ z)) w (n + length u)
Through-skip Text [] A w n t r e = subst (Through Text A w) (none_more n) t
  where
    none_more : (n : ℕ) → n ≡ n + 0
    none_more n = omega arith
Through-skip Text (b ∷ u) A w n t r e =
    let lt : n < length w = drop_some w n b (u ++ r) e in
    let is : get_or w n 0 ≡ b = heads _ _ _ _ (sym (at_drop w n lt) ∙ e) in
    let rest : drop (n + 1) w ≡ u ++ r = tails _ _ _ _ (sym (at_drop w n lt) ∙ e) in
    let one : Through Text (λ z. A (b ∷ z)) w (n + 1) = Through-step Text A w n t (λ z. A (b ∷ z)) lt (λ z a. let P : ℕ → Type 0 = λ (c : ℕ). A (c ∷ z) in subst P is a) (λ z a. let P : ℕ → Type 0 = λ (c : ℕ). A (c ∷ z) in subst P (sym is) a) in
    subst (Through Text (λ z. A (b ∷ (u ++ z))) w) (one_in n (length u)) (Through-skip Text u (λ z. A (b ∷ z)) w (n + 1) one r rest)
  where
    one_in : (n k : ℕ) → n + 1 + k ≡ n + suc k
    one_in n k = omega arith

    heads : (x : ℕ) (xs : List ℕ) (y : ℕ) (ys : List ℕ) → x ∷ xs ≡ y ∷ ys → x ≡ y
    heads x xs y ys e = cc

    tails : (x : ℕ) (xs : List ℕ) (y : ℕ) (ys : List ℕ) → x ∷ xs ≡ y ∷ ys → xs ≡ ys
    tails x xs y ys e = cc

    empty : (b : ℕ) (z : List ℕ) → [] ≡ b ∷ z → ⊥
    empty b z e = cc

    drop_some : (w : List ℕ) (n b : ℕ) (z : List ℕ) → drop n w ≡ b ∷ z → n < length w
    drop_some w n b z e =
        elim (cases_lt n (length w)) [
          | inl lt ↦ lt
          | inr le ↦ absurd (empty b z (sym (drop_of_length-le w le) ∙ e))
        ]

-- Another language with the same texts near what is left of the word.
pub Through-near : (Text A B : List ℕ → Type 0) (w : List ℕ) (n : ℕ) → Through Text A w n → ((z : List ℕ) → B z → A z) → ((c : ℕ) (cs z : List ℕ) → drop n w ≡ c ∷ cs → A (c ∷ z) → B (c ∷ z)) → (A (drop n w) → B (drop n w)) → Through Text B w n
Through-near Text A B w n t out near whole = record {
  within = t.within;
  some = λ b. t.some (out (drop n w) b);
  only = λ x. whole (t.only x);
  stop = λ m h. t.stop m (same_stop_near B A out (drop n w) near m h);
}

-- Another language with the same texts that begin with the next byte.
pub Through-first : (Text A B : List ℕ → Type 0) (w : List ℕ) (n : ℕ) → Through Text A w n → (c : ℕ) (cs : List ℕ) → drop n w ≡ c ∷ cs → ((z : List ℕ) → A (c ∷ z) → B (c ∷ z)) → ((z : List ℕ) → B (c ∷ z) → A (c ∷ z)) → (z : List ℕ) × A z → Through Text B w n
Through-first Text A B w n t c cs e to back live = record {
  within = t.within;
  some = λ b. t.some (subst A (sym e) (back cs (subst B e b)));
  only = λ x. subst B (sym e) (to cs (subst A e (t.only x)));
  stop = λ m h. t.stop m (let P : List ℕ → Type 0 = λ (l : List ℕ). StopsAt A l m in let Q : List ℕ → Type 0 = λ (l : List ℕ). StopsAt B l m in subst P (sym e) (first m (subst Q e h)));
}
  where
    first : (m : ℕ) → StopsAt B (c ∷ cs) m → StopsAt A (c ∷ cs) m
    first zero h = (live, λ z a. h.1 z (to z a))
    first (suc m) h = same_stop (λ z. B (c ∷ z)) (λ z. A (c ∷ z)) back to cs m h
