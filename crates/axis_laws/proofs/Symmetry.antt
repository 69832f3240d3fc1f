-- Exchanges of blocks link components, and lists that follow their representatives have the index symmetry.
--   exchange_linked   a component and its exchange, where all symmetric lists respect the bracket
--   carrier_linked    a component and its representative
--   unknown_of        a representative is its own, so it is an unknown
--   symmetric_told    zero at dropped components and elsewhere the sign times the representative: the index symmetry
use Rattle.std.proofs.Common.{◌≡◌, ℕ, Bool, true, false, List, [], ◌∷◌, ◌++◌, length, refl, ap, sym, ◌∙◌, arith, inl, inr, length-append}
use Rattle.std.specs.Prelude.{Some, None, cond}
use Rattle.std.proofs.lemmas.Option.{none-some}
use Rattle.list_laws.proofs.Prelude.{option_cases, each_map}
use Rattle.number_laws.proofs.NumberLaws.{num_mul_assoc, num_mul-zero, num_one-mul, num_mul_left_comm, num_mul_comm, num_minus_one-mul}
use Rattle.sign_moves.proofs.SignLaws.{own_negative}
use Rattle.tensor_defs.specs.Prelude.{Carrier, IsSign, IsTied, AreRepresentatives, IsDiagonal, JahnSymbol, rank, Bracket, IsExchange, Respects, HasSymmetry}
use Rattle.tensor_defs.specs.Prelude.{body_brackets, Each, Number, mul, neg, num_zero, num_one, Operation, value, IsOrder, Index, Tensor, coefficient}
use Rattle.axis_laws.proofs.Diagonals.{coefficient_sign}
use Rattle.axis_laws.proofs.Links.{IsForced, AreLinked, tied_back, moved, carriers_linked}
use Rattle.axis_laws.proofs.Signs.{sign_square, same_or_negative}

-- ---- the factor of an index list is that of its exchange
factor_append : (g : Operation) (a b : Index) →
    coefficient g (a ++ b) (a ++ b) ≡ mul (coefficient g a a) (coefficient g b b)
factor_append g [] b = sym (num_one-mul (coefficient g b b))
factor_append g (i ∷ a) b =
    ap (mul (value g i i)) (factor_append g a b)
    ∙ sym (num_mul_assoc (value g i i) (coefficient g a a) (coefficient g b b))

factor_parts : (g : Operation) (a u k v z : Index) → coefficient g (a ++ u ++ k ++ v ++ z) (a ++ u ++ k ++ v ++ z)
    ≡ mul (mul (mul (mul (coefficient g a a) (coefficient g u u)) (coefficient g k k)) (coefficient g v v))
    (coefficient g z z)
factor_parts g a u k v z =
    factor_append g (a ++ u ++ k ++ v) z ∙ ap (λ x. mul x (coefficient g z z)) (factor_append g (a ++ u ++ k) v
    ∙ ap (λ x. mul x (coefficient g v v)) (factor_append g (a ++ u) k
    ∙ ap (λ x. mul x (coefficient g k k)) (factor_append g a u)))

pub factor_exchange : (r : ℕ) (b : Bracket) (is js : Index) → IsExchange r b is js → (g : Operation) →
    coefficient g is is ≡ coefficient g js js
factor_exchange r b is js x g =
    (λ i. coefficient g (x.was i) (x.was i)) ∙ factor_parts g x.before x.u x.between x.v x.after
    ∙ law (coefficient g x.before x.before) (coefficient g x.u x.u) (coefficient g x.between x.between)
    (coefficient g x.v x.v) (coefficient g x.after x.after)
    ∙ sym ((λ i. coefficient g (x.becomes i) (x.becomes i)) ∙ factor_parts g x.before x.v x.between x.u x.after)
  where
    law : (a u k v z : Number) → mul (mul (mul (mul a u) k) v) z ≡ mul (mul (mul (mul a v) k) u) z
    law a u k v z = simp (num_mul_assoc, num_mul_left_comm, num_mul_comm)

length_exchange : (r : ℕ) (b : Bracket) (is js : Index) → IsExchange r b is js → length js ≡ r
length_exchange r b is js x =
    ap length x.becomes
    ∙ same x.before x.u x.between x.v x.after (x.size_u ∙ sym x.size_v) ∙ ap length (sym x.was) ∙ x.of_rank
  where
    same : (a u k v z : Index) → length u ≡ length v → length (a ++ v ++ k ++ u ++ z) ≡ length (a ++ u ++ k ++ v ++ z)
    same a u k v z e = simp length-append (omega arith)

-- ---- links
abbrev sign_of : Bool → Number
sign_of n = cond n (neg num_one) num_one

sign_of-is : (n : Bool) → IsSign (sign_of n)
sign_of-is true = inr refl
sign_of-is false = inl refl

sign_of-mul : (n : Bool) (x : Number) → mul (sign_of n) x ≡ cond n (neg x) x
sign_of-mul true x = num_minus_one-mul x
sign_of-mul false x = num_one-mul x

-- each symmetric list respects the bracket
abbrev AllRespect : JahnSymbol → Bracket → Type 0
AllRespect j b = (t : Tensor) → HasSymmetry j t → Respects (rank j) t b

exchange_linked : (j : JahnSymbol) (b : Bracket) → AllRespect j b → (is js : Index) → IsExchange (rank j) b is js →
    AreLinked j (sign_of b.negates) is js
exchange_linked j b all is js x = record {
  is_sign = sign_of-is b.negates;
  first_rank = x.of_rank;
  second_rank = length_exchange (rank j) b is js x;
  tied = λ t h. all t h is js x ∙ sym (sign_of-mul b.negates (t is));
  factors = λ g h. factor_exchange (rank j) b is js x g;
}

-- the list with its components multiplied by the factors of an operation has the symmetry too
scaled_symmetric : (j : JahnSymbol) (g : Operation) (t : Tensor) → HasSymmetry j t →
    HasSymmetry j (λ c. mul (coefficient g c c) (t c))
scaled_symmetric j g t h =
    each_map (λ b. Respects (rank j) t b) (λ b. Respects (rank j) (λ c. mul (coefficient g c c) (t c)) b)
    (λ b e is js x. (λ i. mul (sym (factor_exchange (rank j) b is js x g) i) (e is js x i))
    ∙ turn b.negates (coefficient g is is) (t is)) (body_brackets j.factors 0) h
  where
    turn : (n : Bool) (k x : Number) → mul k (cond n (neg x) x) ≡ cond n (neg (mul k x)) (mul k x)
    turn true k x = num_mul_left_comm k _ x
    turn false k x = refl

tied_factors : (j : JahnSymbol) (c d : Index) (s : Number) → IsTied j c d s → ¬ IsForced j c → (g : Operation) →
    IsDiagonal g → coefficient g c c ≡ coefficient g d d
tied_factors j c d s e z g h =
    elim (same_or_negative (coefficient g c c) (coefficient g d d) (coefficient_sign g h c) (coefficient_sign g h d)) [
      | inl same ↦ same
      | inr other ↦ absurd (z (λ t y. forced t y other))
    ]
  where
    -- k_c·t(c) = s·(k_d·t(d)) = k_d·t(c), and k_c = -k_d
    forced : (t : Tensor) → HasSymmetry j t → coefficient g c c ≡ neg (coefficient g d d) → t c ≡ num_zero
    forced t y n =
        let k : Number = coefficient g d d in
        let scaled : mul (coefficient g c c) (t c) ≡ mul k (t c) =
        e (λ i. mul (coefficient g i i) (t i)) (scaled_symmetric j g t y) ∙ num_mul_left_comm s k (t d)
        ∙ ap (mul k) (sym (e t y)) in
        let back : mul k (mul k (t c)) ≡ t c = sym (num_mul_assoc k k (t c))
        ∙ ap (λ x. mul x (t c)) (sign_square k (coefficient_sign g h d)) ∙ num_one-mul (t c) in
        own_negative (t c) (sym back ∙ ap (mul k) (sym scaled ∙ ap (λ x. mul x (t c)) n ∙ num_mul_assoc _ k (t c))
        ∙ num_mul_left_comm k _ (mul k (t c)) ∙ ap neg back)

module _ (j : JahnSymbol) (H : Operation → Type 0) (before : Index → Index → Bool) (order : IsOrder (rank j) before)
    (rep : Carrier) (p : AreRepresentatives j H before rep) where
  not_forced : (c d : Index) (s : Number) → length c ≡ rank j → rep c ≡ Some (d, s) → ¬ IsForced j c
  not_forced c d s n e z = none-some (d, s) (sym ((p.none c n).1 (inl z)) ∙ e)

  carrier_linked : (c d : Index) (s : Number) → length c ≡ rank j → rep c ≡ Some (d, s) → AreLinked j s c d
  carrier_linked c d s n e =
      let q = p.some c d s n e in
      record {
        is_sign = q.is_sign;
        first_rank = n;
        second_rank = q.of_rank;
        tied = tied_back j s d c q.is_sign q.tied;
        factors = tied_factors j c d s q.tied (not_forced c d s n e);
      }

  pub unknown_of : (c d : Index) (s : Number) → length c ≡ rank j → rep c ≡ Some (d, s) → rep d ≡ Some (d, num_one)
  unknown_of c d s n e =
      carriers_linked j H before order rep rep p p s c d (carrier_linked c d s n e) ∙ ap (moved s) e
      ∙ (λ i. Some (d, sign_square s (p.some c d s n e).is_sign i))

  -- ---- from representatives to the symmetry
  module _ (t : Tensor) (none : (c : Index) → length c ≡ rank j → rep c ≡ None → t c ≡ num_zero)
      (some : (c d : Index) (s : Number) → length c ≡ rank j → rep c ≡ Some (d, s) → t c ≡ mul s (t d)) where
    follows : (a : Number) (c d : Index) → AreLinked j a c d → t d ≡ mul a (t c)
    follows a c d l =
        let e = carriers_linked j H before order rep rep p p a c d l in
        elim (option_cases (rep c)) [
          | inl n ↦ none d l.second_rank (e ∙ ap (moved a) n)
              ∙ sym (ap (mul a) (none c l.first_rank n) ∙ num_mul-zero a)
          | inr r ↦ some d r.0.0 (mul a r.0.1) l.second_rank (e ∙ ap (moved a) r.1)
              ∙ num_mul_assoc a r.0.1 (t r.0.0) ∙ ap (mul a) (sym (some c r.0.0 r.0.1 l.first_rank r.1))
        ]

    each_told : (bs : List Bracket) → ((u : Tensor) → HasSymmetry j u → Each (λ b. Respects (rank j) u b) bs) →
        Each (λ b. Respects (rank j) t b) bs
    each_told [] f = tt
    each_told (b ∷ bs) f = (
      λ is js x. follows (sign_of b.negates) is js (exchange_linked j b (λ u h. (f u h).0) is js x)
          ∙ sign_of-mul b.negates (t is),
      each_told bs (λ u h. (f u h).1),
    )

    pub symmetric_told : HasSymmetry j t
    symmetric_told = each_told (body_brackets j.factors 0) (λ u h. h)
