-- Rising lists, and that a set has one listing.
--   rising_push           one more element, after all the others
--   rising_at, rising_get    a list rises where each element comes before those at later places
--   rising_apart          the elements at two places differ
--   rising_same           rising lists that contain the same are one list
--   listing_same          sets with the same members have one listing
use Rattle.std.proofs.Common.{◌≡◌, ◌≢◌, ℕ, zero, suc, ◌<◌, Bool, List, [], ◌∷◌, ◌++◌, length, get_or, refl, sym, ◌∙◌}
use Rattle.std.proofs.Common.{arith, inl, inr, subst}
use Rattle.std.specs.Prelude.{Contains, IsTrue}
use Rattle.std.proofs.lemmas.Bool.{cases_order}
use Rattle.tensor_defs.specs.Lists.{Each, IsRising, IsListing}
use Rattle.list_laws.proofs.Lists.{held_here, held_later, held_cases, none_held}
use Rattle.list_laws.proofs.Members.{each_push, each_held, each_at, each_get}

module _ {X : Type 0} (before : X → X → Bool) where
  pub rising_push : (xs : List X) (y : X) → IsRising before xs → Each (λ x. IsTrue (before x y)) xs →
      IsRising before (xs ++ y ∷ [])
  rising_push [] y r e = (tt, tt)
  rising_push (x ∷ xs) y r e = (each_push (λ b. IsTrue (before x b)) xs y r.0 e.0, rising_push xs y r.1 e.1)

  pub rising_at : (xs : List X) → IsRising before xs → (i k : ℕ) (d : X) → i < k → k < length xs →
      IsTrue (before (get_or xs i d) (get_or xs k d))
  rising_at [] r i k d h l = absurd (omega arith)
  rising_at (x ∷ xs) r i zero d h l = absurd (omega arith)
  rising_at (x ∷ xs) r zero (suc k) d h l = each_at (λ b. IsTrue (before x b)) xs r.0 k d (omega arith)
  rising_at (x ∷ xs) r (suc i) (suc k) d h l = rising_at xs r.1 i k d (omega arith) (omega arith)

  pub rising_get : (d : X) (xs : List X) →
      ((i k : ℕ) → i < k → k < length xs → IsTrue (before (get_or xs i d) (get_or xs k d))) → IsRising before xs
  rising_get d [] h = tt
  rising_get d (x ∷ xs) h = (
    each_get (λ y. IsTrue (before x y)) d xs (λ k l. h 0 (suc k) (omega arith) (omega arith)),
    rising_get d xs (λ i k l m. h (suc i) (suc k) (omega arith) (omega arith)),
  )

module _ {X : Type 0} (before : X → X → Bool) (irr : (x : X) → ¬ IsTrue (before x x)) where
  pub rising_apart : (xs : List X) → IsRising before xs → (i k : ℕ) (d : X) → i < length xs → k < length xs → i ≢ k →
      get_or xs i d ≢ get_or xs k d
  rising_apart xs r i k d h l n e = elim (cases_order i k) [
    | inl s ↦ n s
    | inr (inl s) ↦ irr (get_or xs k d)
        (subst (λ x. IsTrue (before x (get_or xs k d))) e (rising_at before xs r i k d s l))
    | inr (inr s) ↦ irr (get_or xs k d)
        (subst (λ x. IsTrue (before (get_or xs k d) x)) e (rising_at before xs r k i d s h))
  ]

module _ {X : Type 0} (before : X → X → Bool) (irr : (x : X) → ¬ IsTrue (before x x)) (trans : (x y z : X) →
    IsTrue (before x y) → IsTrue (before y z) → IsTrue (before x z)) where
  same_head : (x y : X) (xs ys : List X) → IsRising before (x ∷ xs) → IsRising before (y ∷ ys) →
      Contains (y ∷ ys) x → Contains (x ∷ xs) y → x ≡ y
  same_head x y xs ys p q f g = elim (held_cases x y ys f) [
    | inl e ↦ sym e
    | inr c ↦ elim (held_cases y x xs g) [
      | inl e ↦ e
      | inr d ↦ absurd (irr x (trans x y x (each_held (λ z. IsTrue (before x z)) xs p.0 y d)
          (each_held (λ z. IsTrue (before y z)) ys q.0 x c)))
    ]
  ]

  same_rest : (x y : X) (xs ys : List X) → x ≡ y → IsRising before (x ∷ xs) →
      ((z : X) → Contains (x ∷ xs) z → Contains (y ∷ ys) z) → (z : X) → Contains xs z → Contains ys z
  same_rest x y xs ys e p f z c = elim (held_cases z y ys (f z (held_later z x xs c))) [
    | inl d ↦ absurd (irr x (subst (λ u. IsTrue (before x u)) (sym d ∙ sym e)
        (each_held (λ u. IsTrue (before x u)) xs p.0 z c)))
    | inr d ↦ d
  ]

  pub rising_same : (xs ys : List X) → IsRising before xs → IsRising before ys →
      ((z : X) → Contains xs z → Contains ys z) → ((z : X) → Contains ys z → Contains xs z) → xs ≡ ys
  rising_same [] [] p q f g = refl
  rising_same [] (y ∷ ys) p q f g = absurd (none_held y (g y (held_here y ys)))
  rising_same (x ∷ xs) [] p q f g = absurd (none_held x (f x (held_here x xs)))
  rising_same (x ∷ xs) (y ∷ ys) p q f g =
      let head : x ≡ y = same_head x y xs ys p q (f x (held_here x xs)) (g y (held_here y ys)) in
      let tail : xs ≡ ys = rising_same xs ys p.1 q.1 (same_rest x y xs ys head p f)
      (same_rest y x ys xs (sym head) q g) in
      λ i. head i ∷ tail i

  pub listing_same : (S T : X → Type 0) → ((x : X) → S x → T x) → ((x : X) → T x → S x) → (xs ys : List X) →
      IsListing before S xs → IsListing before T ys → xs ≡ ys
  listing_same S T f g xs ys p q =
      rising_same xs ys p.rising q.rising (λ z c. (q.members z).1 (f z ((p.members z).0 c)))
      (λ z c. (p.members z).1 (g z ((q.members z).0 c)))
