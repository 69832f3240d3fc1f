-- A word without a separator, as the space, and an ending that is empty or begins with the separator.
--   Clean, Spaces       a text without a separator; a text that is empty or begins with one
--   split               a text is cut into two such parts in one way
--   word_stops          where the word goes wrong, the text does too
--   word_passes         behind a right word, the text goes on as an ending
--   word_through        the same as a step of a reader
use Rattle.std.proofs.Common.{◌≡◌, ◌≢◌, ℕ, zero, suc, ◌+◌, ◌<◌, List, [], ◌∷◌, ◌++◌, length, drop, refl, sym, ap, subst, ◌∙◌, arith}
use Rattle.std.proofs.lemmas.List.{drop_at, length-append}
use Rattle.tensor_defs.specs.Lists.{Each}
use Rattle.text_laws.proofs.Words.{Above}
use Rattle.text_defs.specs.Languages.{IsFaulty}
use Rattle.fault_places.proofs.Places.{StopsAt, After, Through, same_stop, same_stop_near, stops, faulty}
use Rattle.list_laws.proofs.Lists.{heads, tails, none_some}
use Rattle.request_lines.specs.Words.{Ended}

module _ (separator : ℕ) where
  abbrev pub Clean : List ℕ → Type 0
  Clean word = Each (λ b. b ≢ separator) word

  abbrev pub Spaces : List ℕ → Type 0
  Spaces [] = Unit {0}
  Spaces (b ∷ bs) = b ≡ separator

  no_visible_space : (b : ℕ) → separator < b → b ≡ separator → ⊥
  no_visible_space b h e = omega arith

  pub clean : (u : List ℕ) → Above separator u → Clean u
  clean [] h = tt
  clean (b ∷ u) h = (no_visible_space b h.0, clean u h.1)

  begins_with : (x : List ℕ) (b : ℕ) (z : List ℕ) → Spaces x → x ≡ b ∷ z → b ≡ separator
  begins_with [] b z h e = absurd (none_some e)
  begins_with (c ∷ cs) b z h e = sym (heads e) ∙ h

  pub split : (u v x y : List ℕ) → Clean u → Clean v → Spaces x → Spaces y → u ++ x ≡ v ++ y → (u ≡ v) × (x ≡ y)
  split [] [] x y hu hv hx hy e = (refl, e)
  split [] (b ∷ v) x y hu hv hx hy e = absurd (hv.0 (begins_with x b (v ++ y) hx e))
  split (b ∷ u) [] x y hu hv hx hy e = absurd (hu.0 (begins_with y b (u ++ x) hy (sym e)))
  split (b ∷ u) (c ∷ v) x y hu hv hx hy e =
      let rest = split u v x y hu.1 hv.1 hx hy (tails e) in
      ((λ i. heads e i ∷ rest.0 i), rest.1)

  -- the text's first byte is no space, so the word begins with it
  step : (A E : List ℕ → Type 0) → ((z : List ℕ) → E z → Spaces z) → (x : ℕ) → x ≢ separator → (z : List ℕ) → Ended A E (x ∷ z) → Ended (After A x) E z
  step A E spaces x other z e = go e.word e.ending e.is_word e.is_ending e.text
    where
      go : (w t : List ℕ) → A w → E t → x ∷ z ≡ w ++ t → Ended (After A x) E z
      go [] t a n eq = absurd (other (begins_with t x z (spaces t n) (sym eq)))
      go (b ∷ w) t a n eq = record {
        word = w;
        ending = t;
        is_word = let P : ℕ → Type 0 = λ (c : ℕ). A (c ∷ w) in subst P (sym (heads eq)) a;
        is_ending = n;
        text = tails eq;
      }

  back : (A E : List ℕ → Type 0) (x : ℕ) (z : List ℕ) → Ended (After A x) E z → Ended A E (x ∷ z)
  back A E x z e = record { word = x ∷ e.word; ending = e.ending; is_word = e.is_word; is_ending = e.is_ending; text = ap (λ l. x ∷ l) e.text }

  -- the text's first byte is a space, so the word is empty
  at_space : (A E : List ℕ → Type 0) → ((z : List ℕ) → A z → Above separator z) → (x : ℕ) → x ≡ separator → (z : List ℕ) → Ended A E (x ∷ z) → A [] × E (x ∷ z)
  at_space A E visible x is z e = go e.word e.ending e.is_word e.is_ending e.text
    where
      go : (w t : List ℕ) → A w → E t → x ∷ z ≡ w ++ t → A [] × E (x ∷ z)
      go [] t a n eq = (a, subst E (sym eq) n)
      go (b ∷ w) t a n eq = absurd (no_visible_space b (visible (b ∷ w) a).0 (sym (heads eq) ∙ is))

  some_text : (A E : List ℕ → Type 0) → ((z : List ℕ) × A z) → ((z : List ℕ) × E z) → (z : List ℕ) × Ended A E z
  some_text A E a e = (a.0 ++ e.0, record { word = a.0; ending = e.0; is_word = a.1; is_ending = e.1; text = refl })

  pub word_stops : (A E : List ℕ → Type 0) → ((z : List ℕ) → A z → Above separator z) →
      ((z : List ℕ) → E z → Spaces z) → ((z : List ℕ) × E z) → (w : List ℕ) → Clean w → (t : List ℕ) → Spaces t →
      ¬ A w → (m : ℕ) → StopsAt A w m → StopsAt (Ended A E) (w ++ t) m
  word_stops A E visible spaces live [] cl [] st none m h = (h.0, some_text A E h.1 live)
  word_stops A E visible spaces live [] cl (c ∷ cs) st none zero h =
      (some_text A E h.1 live, λ z e. none (at_space A E visible c st z e).0)
  word_stops A E visible spaces live [] cl (c ∷ cs) st none (suc m) h = absurd (omega (arith, h.0))
  word_stops A E visible spaces live (x ∷ xs) cl t st none zero h =
      (some_text A E h.0 live, λ z e. let s = step A E spaces x cl.0 z e in h.1 s.word s.is_word)
  word_stops A E visible spaces live (x ∷ xs) cl t st none (suc m) h =
      same_stop (Ended (After A x) E) (λ z. Ended A E (x ∷ z)) (back A E x) (step A E spaces x cl.0) (xs ++ t) m
      (word_stops (After A x) E (λ z a. (visible (x ∷ z) a).1) spaces live xs cl.1 t st none m h)

  none_added : (m : ℕ) → m ≡ 0 + m
  none_added m = omega arith

  one_added : (k m : ℕ) → suc (k + m) ≡ suc k + m
  one_added k m = omega arith

  pub word_passes : (A E : List ℕ → Type 0) → ((z : List ℕ) → A z → Above separator z) →
      ((z : List ℕ) → E z → Spaces z) → (w : List ℕ) → Clean w → (t : List ℕ) → Spaces t → A w → (m : ℕ) →
      StopsAt E t m → StopsAt (Ended A E) (w ++ t) (length w + m)
  word_passes A E visible spaces [] cl t st a m h =
      subst (StopsAt (Ended A E) t) (none_added m) (same_stop_near E (Ended A E) in_text t near m h)
    where
      in_text : (z : List ℕ) → E z → Ended A E z
      in_text z e = record { word = []; ending = z; is_word = a; is_ending = e; text = refl }

      near : (c : ℕ) (cs z : List ℕ) → t ≡ c ∷ cs → Ended A E (c ∷ z) → E (c ∷ z)
      near c cs z eq e = (at_space A E visible c (begins_with t c cs st eq) z e).1
  word_passes A E visible spaces (x ∷ xs) cl t st a m h =
      subst (StopsAt (Ended A E) (x ∷ (xs ++ t))) (one_added (length xs) m)
      (same_stop (Ended (After A x) E) (λ z. Ended A E (x ∷ z)) (back A E x) (step A E spaces x cl.0) (xs ++ t) (length xs + m)
      (word_passes (After A x) E (λ z b. (visible (x ∷ z) b).1) spaces xs cl.1 t st a m h))

  module _ (A E : List ℕ → Type 0) (visible : (z : List ℕ) → A z → Above separator z) (spaces : (z : List ℕ) → E z →
      Spaces z) (w t z : List ℕ) (cl : Clean w) (st : Spaces t) (is : z ≡ w ++ t) where
    cut : Ended A E z → (A w) × (E t)
    cut e =
        let same = split e.word w e.ending t (clean e.word (visible e.word e.is_word)) cl (spaces e.ending e.is_ending) st (sym e.text ∙ is) in
        (subst A same.0 e.is_word, subst E same.1 e.is_ending)

    pub word_faulty : ((u : List ℕ) × E u) → (m : ℕ) → IsFaulty A w m → IsFaulty (Ended A E) z m
    word_faulty live m f = faulty (Ended A E) z m (λ e. f.none (cut e).0) (let P : List ℕ →
        Type 0 = λ (l : List ℕ). StopsAt (Ended A E) l m in
        subst P (sym is) (word_stops A E visible spaces live w cl t st f.none m (stops A w m f.place_is)))

    pub word_through : A w → Through (Ended A E) E z (length w)
    word_through a = record {
      within = omega (arith, ap length is, length-append w t);
      some = λ e. record { word = w; ending = t; is_word = a; is_ending = subst E rest e; text = is };
      only = λ e. subst E (sym rest) (cut e).1;
      stop = λ m h. let P : List ℕ → Type 0 = λ (l : List ℕ). StopsAt (Ended A E) l (length w + m) in let Q : List ℕ →
          Type 0 = λ (l : List ℕ). StopsAt E l m in subst P (sym is) (word_passes A E visible spaces w cl t st a m (subst Q rest h));
    }
      where
        rest : drop (length w) z ≡ t
        rest = ap (λ (l : List ℕ). drop (length w) l) is ∙ drop_at w t (length w) refl
