-- Components that are the same up to a sign have the same representative.
--   AreLinked         each symmetric list has a times its component c at d, and diagonal operations have one factor at both
--   carriers_linked   the representative of d is that of c, with the sign multiplied by a
use Rattle.list_laws.proofs.Kit.{◌≡◌, Bool, length, refl, ap, sym, ◌∙◌, inl, inr, none-some}
use Rattle.std.specs.Prelude.{Option, Some, None}
use Rattle.tensor_laws.proofs.Indices.{index_cases}
use Rattle.list_laws.proofs.Lists.{option_cases}
use Rattle.number_laws.proofs.NumberLaws.{num_mul_assoc, num_mul-zero, num_one-mul}
use Rattle.sign_moves.proofs.SignLaws.{own_negative}
use Rattle.tensor_defs.specs.Prelude.{Carrier, IsSign, IsTied, IsDropped, IsRepresentative, AreRepresentatives, IsDiagonal, JahnSymbol, rank, HasSymmetry}
use Rattle.tensor_defs.specs.Prelude.{Number, mul, neg, num_zero, num_one, Operation, IsOrder, Index, Tensor, coefficient, sign}
use Rattle.axis_laws.proofs.Signs.{sign_twice, sign_mul, same_or_negative}

-- the shape forces the component to zero
abbrev pub IsForced : JahnSymbol → Index → Type 0
IsForced j c = (t : Tensor) → HasSymmetry j t → t c ≡ num_zero

pub record AreLinked (j : JahnSymbol) (a : Number) (c d : Index) : Type 0 where
  pub is_sign : IsSign a
  pub first_rank : length c ≡ rank j
  pub second_rank : length d ≡ rank j
  pub tied : IsTied j d c a
  pub factors : (g : Operation) → IsDiagonal g → coefficient g c c ≡ coefficient g d d

pub linked_self : (j : JahnSymbol) (c : Index) → length c ≡ rank j → AreLinked j num_one c c
linked_self j c n = record {
  is_sign = inl refl;
  first_rank = n;
  second_rank = n;
  tied = λ t h. sym (num_one-mul (t c));
  factors = λ g h. refl;
}

pub tied_back : (j : JahnSymbol) (a : Number) (c d : Index) → IsSign a → IsTied j d c a → IsTied j c d a
tied_back j a c d s l t h = sym (sign_twice a s (t c)) ∙ ap (mul a) (sym (l t h))

pub linked_back : (j : JahnSymbol) (a : Number) (c d : Index) → AreLinked j a c d → AreLinked j a d c
linked_back j a c d l = record {
  is_sign = l.is_sign;
  first_rank = l.second_rank;
  second_rank = l.first_rank;
  tied = tied_back j a c d l.is_sign l.tied;
  factors = λ g h. sym (l.factors g h);
}

pub dropped_linked : (j : JahnSymbol) (H : Operation → Type 0) (a : Number) (c d : Index) → AreLinked j a c d →
    IsDropped j H c → IsDropped j H d
dropped_linked j H a c d l (inl z) = inl (λ t h. l.tied t h ∙ ap (mul a) (z t h) ∙ num_mul-zero a)
dropped_linked j H a c d l (inr (g, m, f, e)) =
    inr (g, m, f, ap (mul (sign j.marks g)) (sym (l.factors g f)) ∙ e)

tied_on : (j : JahnSymbol) (a s : Number) (c d e : Index) → IsTied j d c a → IsTied j c e s → IsTied j d e (mul a s)
tied_on j a s c d e p q t h = p t h ∙ ap (mul a) (q t h) ∙ sym (num_mul_assoc a s (t e))

-- two components with opposite signs to one are forced to zero
opposite_forced : (j : JahnSymbol) (a b : Number) (d e f : Index) → IsTied j d e a → IsTied j d f b → e ≡ f →
    b ≡ neg a → IsForced j d
opposite_forced j a b d e f p q same n t h =
    own_negative (t d) (q t h ∙ (λ i. mul (n i) (t (sym same i))) ∙ num_mul_assoc _ a (t e) ∙ ap neg (sym (p t h)))

module _ (j : JahnSymbol) (before : Index → Index → Bool) (order : IsOrder (rank j) before) where
  linked_first : (a : Number) (c d e f : Index) (s u : Number) → AreLinked j a c d →
      IsRepresentative j before c e s → IsRepresentative j before d f u → e ≡ f
  linked_first a c d e f s u l p q = elim (index_cases e f) [
    | inl h ↦ h
    | inr h ↦ elim (order.total e f p.of_rank q.of_rank h) [
      | inl b ↦ absurd (q.first e (mul a s) p.of_rank (sign_mul a s l.is_sign p.is_sign)
          (tied_on j a s c d e l.tied p.tied) b)
      | inr b ↦ absurd (p.first f (mul a u) q.of_rank (sign_mul a u l.is_sign q.is_sign)
          (tied_on j a u d c f (tied_back j a c d l.is_sign l.tied) q.tied) b)
    ]
  ]

  linked_sign : (a : Number) (c d e f : Index) (s u : Number) → AreLinked j a c d →
      IsRepresentative j before c e s → IsRepresentative j before d f u → ¬ IsForced j d → u ≡ mul a s
  linked_sign a c d e f s u l p q z =
      elim (same_or_negative u (mul a s) q.is_sign (sign_mul a s l.is_sign p.is_sign)) [
        | inl h ↦ h
        | inr h ↦ absurd (z (opposite_forced j (mul a s) u d e f (tied_on j a s c d e l.tied p.tied) q.tied
            (linked_first a c d e f s u l p q) h))
      ]

-- the same representative, with the sign multiplied by a
abbrev pub moved : Number → Option (Index × Number) → Option (Index × Number)
moved a None = None
moved a (Some p) = Some (p.0, mul a p.1)

pub carriers_linked : (j : JahnSymbol) (H : Operation → Type 0) (before : Index → Index → Bool) →
    IsOrder (rank j) before → (rep other : Carrier) → AreRepresentatives j H before rep →
    AreRepresentatives j H before other → (a : Number) (c d : Index) → AreLinked j a c d →
    other d ≡ moved a (rep c)
carriers_linked j H before order rep other p q a c d l = elim (option_cases (rep c)) [
  | inl n ↦ (q.none d l.second_rank).1 (dropped_linked j H a c d l ((p.none c l.first_rank).0 n))
      ∙ sym (ap (moved a) n)
  | inr r ↦ elim (option_cases (other d)) [
    | inl n ↦ absurd (none-some r.0 (sym ((p.none c l.first_rank).1 (dropped_linked j H a d c (linked_back j a c d l)
        ((q.none d l.second_rank).0 n))) ∙ r.1))
    | inr v ↦
        let first = p.some c r.0.0 r.0.1 l.first_rank r.1 in
        let second = q.some d v.0.0 v.0.1 l.second_rank v.1 in
        let e : r.0.0 ≡ v.0.0 = linked_first j before order a c d r.0.0 v.0.0 r.0.1 v.0.1 l first second in
        let s : v.0.1 ≡ mul a r.0.1 = linked_sign j before order a c d r.0.0 v.0.0 r.0.1 v.0.1 l first second
        (λ z. none-some v.0 (sym ((q.none d l.second_rank).1 (inl z)) ∙ v.1)) in
        v.1 ∙ (λ i. Some (sym e i, s i)) ∙ sym (ap (moved a) r.1)
  ]
]
