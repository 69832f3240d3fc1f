-- The tensors that a limiting group leaves unchanged: they are those of its diagonal point group on which the words
-- vanish whose counts differ.
--   kept_factor, kept_product    what leaves a list the same, from factors to products
--   diagonal_invariant    such a tensor is invariant under the diagonal point group
--   turning_rows_decide_lem    both ways
--   diagonals_accepted_lem     the symbols of these point groups are accepted
use Rattle.list_laws.proofs.Kit.{◌≡◌, ◌≢◌, ℕ, ◌+◌, ◌<◌, Bool, true, false, cond, List, [], ◌∷◌, length, refl, ap, sym, ◌∙◌, arith, inl, inr, subst, lit<}
use Rattle.list_laws.proofs.Kit.{nat_tests, same_Some}
use Rattle.std.specs.Prelude.{Contains, filter, nat_eq}
use mathlib.Core.Bool.{xor}
use lib.IntN.{negsuc, pos}
use Rattle.list_laws.proofs.Members.{each_held, each_map}
use Rattle.number_laws.proofs.NumberLaws.{num_add-zero, num_mul-one, num_mul-zero, num_zero-add}
use Rattle.tensor_defs.specs.Prelude.{AreRepresentatives, AreUnknowns, Carrier, IsDiagonal, IsUnit, InGroup, IsProductOf, JahnSymbol, IsInvariant, rank, Each}
use Rattle.tensor_defs.specs.Prelude.{add, mul, num_zero, whole, half_of, fraction, same_numbers, x1, x2, x3, Entry, IsProduct, Operation, identity, matrix}
use Rattle.tensor_defs.specs.Prelude.{minus_one, nought, one, reversal, value, IsOrder, generators, parent_operators, Agree, Index, Marks, Tensor, act, Word}
use Rattle.tensor_defs.specs.Prelude.{begins_plus, minus_count, plus_count, words}
use Rattle.tensor_laws.proofs.Prelude.{acts_in_turn, identity_acts_lem, half_of_two, half_of_none, act-agree, product_tested, row_sums, complex_same}
use Rattle.constraint_rows.specs.Choices.{is_turning}
use Rattle.constraint_rows.proofs.InvariantLaws.{generators_suffice}
use Rattle.axis_laws.proofs.Invariance.{diagonal_kept, none_told, solve_of, solve_told, some_told, sums_carried}
use Rattle.axis_laws.proofs.Symmetry.{symmetric_told}
use Rattle.axis_laws.proofs.UsedWords.{BothVanish, Tells, chosen_length, chosen_of, chosen_told, exchanged_minus, exchanged_plus}
use Rattle.limiting_defs.specs.Matrices.{Matrix, SameEntries, act_by, product_of, times}
use Rattle.limiting_defs.specs.Limiting.{InLimiting, IsCurieInvariant, IsFactor, IsNamed, IsProductOfFactors, IsRotation, diagonal_symbol, rotation}
use Rattle.limiting_defs.specs.declared.Curie.{Curie}
use Rattle.limiting_defs.specs.declared.Curie.TheVariants.{Inf, InfM, Inf2, InfOverM, InfOverMM}
use Rattle.limiting_laws.specs.Laws.{DiagonalsAccepted, SolvesTurningRows, TurningRowsDecide, TurningVanish}
use Rattle.limiting_laws.proofs.MatrixAction.{act_by-act, act_by-agree, act_by-entries, act_by-times}
use Rattle.limiting_laws.proofs.Turns.{turns_decide_lem}

-- ---- the operations
abbrev two_z : Operation
two_z = matrix minus_one nought nought nought minus_one nought nought nought one false

abbrev two_x : Operation
two_x = matrix one nought nought nought minus_one nought nought nought minus_one false

abbrev two_y : Operation
two_y = matrix minus_one nought nought nought one nought nought nought minus_one false

abbrev mirror_x : Operation
mirror_x = matrix minus_one nought nought nought one nought nought nought one false

abbrev mirror_y : Operation
mirror_y = matrix one nought nought nought minus_one nought nought nought one false

abbrev mirror_z : Operation
mirror_z = matrix one nought nought nought one nought nought nought minus_one false

abbrev operators : Curie → List Operation
operators Inf = two_z ∷ []
operators InfM = mirror_x ∷ mirror_y ∷ two_z ∷ []
operators Inf2 = two_x ∷ two_y ∷ two_z ∷ []
operators InfOverM = two_z ∷ mirror_z ∷ []
operators InfOverMM = mirror_x ∷ mirror_y ∷ mirror_z ∷ []

operators_are : (group : Curie) → generators (diagonal_symbol group) ≡ operators group
unfolding generators parent_operators
operators_are Inf = refl
operators_are InfM = refl
operators_are Inf2 = refl
operators_are InfOverM = refl
operators_are InfOverMM = refl

-- ---- the twofold rotation about z is one of the rotations
two_z_entries : SameEntries (value two_z) (rotation (whole (negsuc 0)) num_zero)
unfolding value half_of whole mul
two_z_entries x1 x1 = same_numbers _ _ (record { same_p = refl; same_q = refl })
two_z_entries x1 x2 = same_numbers _ _ (record { same_p = refl; same_q = refl })
two_z_entries x1 x3 = same_numbers _ _ (record { same_p = refl; same_q = refl })
two_z_entries x2 x1 = same_numbers _ _ (record { same_p = refl; same_q = refl })
two_z_entries x2 x2 = same_numbers _ _ (record { same_p = refl; same_q = refl })
two_z_entries x2 x3 = same_numbers _ _ (record { same_p = refl; same_q = refl })
two_z_entries x3 x1 = same_numbers _ _ (record { same_p = refl; same_q = refl })
two_z_entries x3 x2 = same_numbers _ _ (record { same_p = refl; same_q = refl })
two_z_entries x3 x3 = same_numbers _ _ (record { same_p = refl; same_q = refl })

two_z_rotation : IsRotation (value two_z)
unfolding fraction whole mul add
two_z_rotation = record {
  c = whole (negsuc 0);
  s = num_zero;
  rational_c = record { num = negsuc 0; den = 1; positive = lit< tt; same = refl };
  rational_s = record { num = pos 0; den = 1; positive = lit< tt; same = refl };
  unit = same_numbers _ _ (record { same_p = refl; same_q = refl });
  entries = two_z_entries;
}

-- ---- factors and products

times_one : (a : Matrix) → SameEntries a (times a (value identity))
unfolding value
times_one a i x1 = sym (simp (half_of_two, half_of_none, num_mul-zero, num_mul-one, num_add-zero))
times_one a i x2 = sym (simp (half_of_two, half_of_none, num_mul-zero, num_mul-one, num_add-zero, num_zero-add))
times_one a i x3 = sym (simp (half_of_two, half_of_none, num_mul-zero, num_mul-one, num_zero-add))

one_factor : (group : Curie) (a : Matrix) → IsFactor group a → IsProductOfFactors group a
one_factor group a f = record { factors = a ∷ []; each = (f, tt); entries = times_one a }

in_limiting : (group : Curie) (a : Matrix) → IsFactor group a → InLimiting group a
in_limiting Inf a (inl r) = r
in_limiting Inf a (inr (g, n, e)) = absurd n
in_limiting InfM a f = one_factor InfM a f
in_limiting Inf2 a f = one_factor Inf2 a f
in_limiting InfOverM a f = one_factor InfOverM a f
in_limiting InfOverMM a f = one_factor InfOverMM a f

-- what each factor leaves the same, each product does
module _ (m : Marks) (r : ℕ) (group : Curie) (t : Tensor)
    (kept : (a : Matrix) → IsFactor group a → Agree r (act_by m a t) t) where
  kept_products : (fs : List Matrix) → Each (IsFactor group) fs → Agree r (act_by m (product_of fs) t) t
  kept_products [] e is n = act_by-act m identity refl t is ∙ identity_acts_lem m t is
  kept_products (a ∷ fs) e is n =
      act_by-times m a (product_of fs) t is
      ∙ act_by-agree m a r (act_by m (product_of fs) t) t (kept_products fs e.1) is n ∙ kept a e.0 is n

  kept_product : (a : Matrix) → IsProductOfFactors group a → Agree r (act_by m a t) t
  kept_product a p is n = act_by-entries m a (product_of p.factors) p.entries t is ∙ kept_products p.factors p.each is n

kept_all : (m : Marks) (r : ℕ) (group : Curie) (t : Tensor) →
    ((a : Matrix) → IsFactor group a → Agree r (act_by m a t) t) → (a : Matrix) → InLimiting group a → Agree r (act_by m a t) t
kept_all m r Inf t kept a h = kept a (inl h)
kept_all m r InfM t kept a h = kept_product m r InfM t kept a h
kept_all m r Inf2 t kept a h = kept_product m r Inf2 t kept a h
kept_all m r InfOverM t kept a h = kept_product m r InfOverM t kept a h
kept_all m r InfOverMM t kept a h = kept_product m r InfOverMM t kept a h

-- ---- invariance under the diagonal point group
module _ (j : JahnSymbol) (group : Curie) (t : Tensor) (v : IsCurieInvariant j group t) where
  abbrev Keeps : Operation → Type 0
  Keeps g = Agree (rank j) (act j.marks g t) t

  factor_keeps : (g : Operation) → g.primed ≡ false → IsFactor group (value g) → Keeps g
  factor_keeps g e f is n = sym (act_by-act j.marks g e t is) ∙ v.unchanged (value g) (in_limiting group (value g) f) is n

  named_keeps : (g : Operation) → g.primed ≡ false → IsNamed group g → Keeps g
  named_keeps g e n = factor_keeps g e (inr (g, n, λ i k. refl))

  two_z_keeps : Keeps two_z
  two_z_keeps = factor_keeps two_z refl (inl two_z_rotation)

  product_keeps : (g h : Operation) → IsProduct two_z g h → Keeps g → Keeps h
  product_keeps g h p k is n =
      acts_in_turn j.marks two_z g h p t is ∙ act-agree j.marks two_z (rank j) (act j.marks g t) t k is n ∙ two_z_keeps is n

operators_keep : (j : JahnSymbol) (group : Curie) (t : Tensor) → IsCurieInvariant j group t →
    Each (λ g. Agree (rank j) (act j.marks g t) t) (operators group)
unfolding xor
operators_keep j Inf t v = (two_z_keeps j Inf t v, tt)
operators_keep j InfM t v =
    let m : Agree (rank j) (act j.marks mirror_x t) t = named_keeps j InfM t v mirror_x refl refl in
    (m, (product_keeps j InfM t v mirror_x mirror_y (product_tested two_z mirror_x mirror_y refl) m, (two_z_keeps j InfM t v, tt)))
operators_keep j Inf2 t v =
    let m : Agree (rank j) (act j.marks two_x t) t = named_keeps j Inf2 t v two_x refl refl in
    (m, (product_keeps j Inf2 t v two_x two_y (product_tested two_z two_x two_y refl) m, (two_z_keeps j Inf2 t v, tt)))
operators_keep j InfOverM t v = (two_z_keeps j InfOverM t v, (named_keeps j InfOverM t v mirror_z refl refl, tt))
operators_keep j InfOverMM t v =
    let m : Agree (rank j) (act j.marks mirror_x t) t = named_keeps j InfOverMM t v mirror_x refl (inl refl) in
    let y : Agree (rank j) (act j.marks mirror_y t) t =
    product_keeps j InfOverMM t v mirror_x mirror_y (product_tested two_z mirror_x mirror_y refl) m in
    (m, (y, (named_keeps j InfOverMM t v mirror_z refl (inr refl), tt)))

diagonal_invariant : (j : JahnSymbol) (group : Curie) (t : Tensor) → IsCurieInvariant j group t →
    IsInvariant j (InGroup (diagonal_symbol group)) t
diagonal_invariant j group t v =
    generators_suffice j (λ g. Contains (generators (diagonal_symbol group)) g) (InGroup (diagonal_symbol group)) t (λ g h. h)
    (record {
      symmetric = v.symmetric;
      unchanged = λ g h.
          each_held (λ g. Agree (rank j) (act j.marks g t) t) (operators group) (operators_keep j group t v) g
          (subst (λ gs. Contains gs g) (operators_are group) h);
    })

-- ---- the named operations are diagonal members
record IsMember (group : Curie) (g : Operation) : Type 0 where
  unprimed : g.primed ≡ false
  diagonal : IsDiagonal g
  inside : InGroup (diagonal_symbol group) g

diagonal_of : (a b c : Entry) → IsUnit a → IsUnit b → IsUnit c →
    IsDiagonal (matrix a nought nought nought b nought nought nought c false)
diagonal_of a b c p q r x1 x1 = inl (refl, p)
diagonal_of a b c p q r x1 x2 = inr (λ e. cc, refl)
diagonal_of a b c p q r x1 x3 = inr (λ e. cc, refl)
diagonal_of a b c p q r x2 x1 = inr (λ e. cc, refl)
diagonal_of a b c p q r x2 x2 = inl (refl, q)
diagonal_of a b c p q r x2 x3 = inr (λ e. cc, refl)
diagonal_of a b c p q r x3 x1 = inr (λ e. cc, refl)
diagonal_of a b c p q r x3 x2 = inr (λ e. cc, refl)
diagonal_of a b c p q r x3 x3 = inl (refl, r)

operator_inside : (group : Curie) (g : Operation) → Contains (operators group) g → IsProduct g identity g →
    InGroup (diagonal_symbol group) g
operator_inside group g h p =
    (g ∷ [], (subst (λ gs. Contains gs g) (sym (operators_are group)) h, tt), (identity, refl, p))

mirror_x_member : (group : Curie) → Contains (operators group) mirror_x → IsMember group mirror_x
unfolding xor
mirror_x_member group h = record {
  unprimed = refl;
  diagonal = diagonal_of minus_one one one (inr refl) (inl refl) (inl refl);
  inside = operator_inside group mirror_x h (product_tested mirror_x identity mirror_x refl);
}

mirror_z_member : (group : Curie) → Contains (operators group) mirror_z → IsMember group mirror_z
unfolding xor
mirror_z_member group h = record {
  unprimed = refl;
  diagonal = diagonal_of one one minus_one (inl refl) (inl refl) (inr refl);
  inside = operator_inside group mirror_z h (product_tested mirror_z identity mirror_z refl);
}

two_x_member : (group : Curie) → Contains (operators group) two_x → IsMember group two_x
unfolding xor
two_x_member group h = record {
  unprimed = refl;
  diagonal = diagonal_of one minus_one minus_one (inl refl) (inr refl) (inr refl);
  inside = operator_inside group two_x h (product_tested two_x identity two_x refl);
}

named_member : (group : Curie) (g : Operation) → IsNamed group g → IsMember group g
named_member Inf g n = absurd n
named_member InfM g n = subst (IsMember InfM) (same_Some mirror_x g n) (mirror_x_member InfM (0, lit< tt, refl))
named_member Inf2 g n = subst (IsMember Inf2) (same_Some two_x g n) (two_x_member Inf2 (0, lit< tt, refl))
named_member InfOverM g n = subst (IsMember InfOverM) (same_Some mirror_z g n) (mirror_z_member InfOverM (1, lit< tt, refl))
named_member InfOverMM g (inl n) = subst (IsMember InfOverMM) (same_Some mirror_x g n) (mirror_x_member InfOverMM (0, lit< tt, refl))
named_member InfOverMM g (inr n) = subst (IsMember InfOverMM) (same_Some mirror_z g n) (mirror_z_member InfOverMM (2, lit< tt, refl))

-- ---- the words that are chosen
abbrev Turning : Word → Type 0
Turning w = plus_count w ≢ minus_count w

turning_tells : Tells is_turning Turning
turning_tells = record {
  is = λ w e. told (plus_count w) (minus_count w) (begins_plus w) e;
  has = λ w d b. tells (plus_count w) (minus_count w) (begins_plus w) d b;
  swaps = λ w d e. d (sym (exchanged_minus w) ∙ sym e ∙ exchanged_plus w);
  some = λ w d. positive (plus_count w) (minus_count w) d;
}
  where
    told : (p q : ℕ) (b : Bool) → cond (nat_eq p q) false b ≡ true → p ≢ q
    told p q b e = grind (arith, nat_tests)

    tells : (p q : ℕ) (b : Bool) → p ≢ q → b ≡ true → cond (nat_eq p q) false b ≡ true
    tells p q b d e = grind (arith, nat_tests)

    positive : (p q : ℕ) → p ≢ q → 0 < p + q
    positive p q d = omega (arith, d)

-- ---- both ways
module _ (group : Curie) (j : JahnSymbol) (before : Index → Index → Bool) (rep : Carrier) (us : List Index)
    (order : IsOrder (rank j) before) (p : AreRepresentatives j (InGroup (diagonal_symbol group)) before rep)
    (known : AreUnknowns (rank j) before rep us) (t : Tensor) where
  abbrev H : Operation → Type 0
  H = InGroup (diagonal_symbol group)

  both_vanish : TurningVanish (rank j) t → (w : Word) → length w ≡ rank j → Turning w → BothVanish t w
  both_vanish v w n d =
      let e = v w n d in
      ((row_sums w t).0 ∙ ap (λ z. z.re) e, (row_sums w t).1 ∙ ap (λ z. z.im) e)

  solves : IsCurieInvariant j group t → SolvesTurningRows j rep us t
  solves v =
      let inv : IsInvariant j H t = diagonal_invariant j group t v in
      let none = none_told j H before rep p t inv in
      let some = some_told j H before rep p t inv in
      record {
        none = none;
        some = some;
        rows = solve_of (rank j) rep us t (sums_carried j H before rep p t us order known none some)
            (filter is_turning (words (rank j)))
            (chosen_of is_turning Turning turning_tells (rank j) t (both_vanish ((turns_decide_lem j.marks (rank j) t).0
            (λ a r. v.unchanged a (in_limiting group a (inl r))))));
      }

  vanish : SolvesTurningRows j rep us t → TurningVanish (rank j) t
  vanish v w n d =
      let both : BothVanish t w = chosen_told is_turning Turning turning_tells (rank j) t
      (solve_told (rank j) rep us t (sums_carried j H before rep p t us order known v.none v.some)
      (filter is_turning (words (rank j))) (chosen_length is_turning (rank j)) v.rows) w n d in
      complex_same (sym (row_sums w t).0 ∙ both.0) (sym (row_sums w t).1 ∙ both.1)

  factor_kept : SolvesTurningRows j rep us t → (a : Matrix) → IsFactor group a → Agree (rank j) (act_by j.marks a t) t
  factor_kept v a (inl r) = (turns_decide_lem j.marks (rank j) t).1 (vanish v) a r
  factor_kept v a (inr (g, n, e)) =
      let m : IsMember group g = named_member group g n in
      λ is l. act_by-entries j.marks a (value g) e t is ∙ act_by-act j.marks g m.unprimed t is
      ∙ diagonal_kept j H before rep p t v.none g m.inside m.diagonal is l

  invariant : SolvesTurningRows j rep us t → IsCurieInvariant j group t
  invariant v = record {
    symmetric = symmetric_told j H before order rep p t v.none v.some;
    unchanged = kept_all j.marks (rank j) group t (factor_kept v);
  }

pub turning_rows_decide_lem : TurningRowsDecide
turning_rows_decide_lem group j before rep us order p known t =
    (solves group j before rep us order p known t, invariant group j before rep us order p known t)

-- ---- time reversal isn't in the diagonal point group
abbrev Unprimed : Operation → Type 0
Unprimed g = g.primed ≡ false

unprimed_product : (gs : List Operation) (k : Operation) → Each Unprimed gs → IsProductOf gs k → k.primed ≡ false
unfolding xor
unprimed_product [] k e p = ap (λ g. g.primed) p
unprimed_product (g ∷ gs) k e (m, p, q) =
    q.marks ∙ (λ i. xor (e.0 i) (unprimed_product gs m e.1 p i))

operators_unprimed : (group : Curie) → Each Unprimed (operators group)
operators_unprimed Inf = (refl, tt)
operators_unprimed InfM = (refl, (refl, (refl, tt)))
operators_unprimed Inf2 = (refl, (refl, (refl, tt)))
operators_unprimed InfOverM = (refl, (refl, tt))
operators_unprimed InfOverMM = (refl, (refl, (refl, tt)))

pub diagonals_accepted_lem : DiagonalsAccepted
diagonals_accepted_lem group = inr (λ (gs, e, p).
    let all : Each Unprimed gs = each_map (λ g. Contains (generators (diagonal_symbol group)) g) Unprimed
    (λ g h. each_held Unprimed (operators group) (operators_unprimed group) g
    (subst (λ xs. Contains xs g) (operators_are group) h)) gs e in
    let clash : true ≡ false = unprimed_product gs reversal all p in
    cc)
