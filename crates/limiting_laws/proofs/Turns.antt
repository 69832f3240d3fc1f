-- A component list is unchanged by all rational rotations about z exactly where the words vanish whose counts differ.
--   turned_axis, turn_words    a rotation multiplies the sum of a word by its factor
--   kept_vanish, vanish_kept    the two ways
--   turns_decide_lem    both
use Rattle.list_laws.proofs.Kit.{◌≡◌, ℕ, Bool, true, false, [], ◌∷◌, length, refl, ap, sym, ◌∙◌, inl, inr, lit<, cases_eq}
use lib.IntN.{negsuc, pos}
use Rattle.number_laws.proofs.NumberLaws.{num_add-zero, num_mul-one, num_mul-zero, num_one-mul, num_zero-add, num_zero-mul, ring}
use Rattle.tensor_defs.specs.Prelude.{Number, add, mul, neg, num_zero, num_one, whole, Axis, x1, x2, x3, determinant, Index, Tensor, Marks, Agree, level}
use Rattle.tensor_defs.specs.Prelude.{plus, minus, Word, plus_count, minus_count}
use Rattle.tensor_laws.proofs.Prelude.{complex_same, phase, words_tell, word_sum-mul, word_sum-add, level_law, minus_squared, word_sum-agree, c_mul_assoc}
use Rattle.tensor_laws.specs.WordSums.{Complex, c_add, c_mul, c_scale, times_i, times_minus_i, word_sum}
use Rattle.limiting_defs.specs.Matrices.{Matrix, axial_factor, act_by}
use Rattle.limiting_defs.specs.Limiting.{IsRotation, rotation}
use Rattle.limiting_laws.specs.Laws.{TurningVanish, TurnsDecide}
use Rattle.limiting_laws.proofs.MatrixAction.{turned_by, act-turned_by, act_by-entries, turned_by-cons, turned_by-nil}
use Rattle.limiting_laws.proofs.Spins.{c_mul-zero, c_one-mul, c_zero, even_phase, fifths_unit, fixed_zero, four_fifths, power_fixes, three_fifths}

-- ---- a rotation multiplies the sum of a word by its factor
-- an index of the turned list, with the sums of the parts put in
turned_axis : (w : Word) (a : Matrix) (t : Tensor) (p : Complex) →
    ((j : Axis) → word_sum w (turned_by a (λ js. t (j ∷ js))) ≡ c_mul p (word_sum w (λ js. t (j ∷ js)))) → (i : Axis) →
    word_sum w (λ is. turned_by a t (i ∷ is)) ≡ c_add (c_scale (a i x1) (c_mul p (word_sum w (λ js. t (x1 ∷ js)))))
    (c_add (c_scale (a i x2) (c_mul p (word_sum w (λ js. t (x2 ∷ js)))))
    (c_scale (a i x3) (c_mul p (word_sum w (λ js. t (x3 ∷ js))))))
turned_axis w a t p e i =
    let part : Axis → Tensor = λ j is. mul (a i j) (turned_by a (λ js. t (j ∷ js)) is) in
    let sum : (j : Axis) → word_sum w (part j) ≡ c_scale (a i j) (c_mul p (word_sum w (λ js. t (j ∷ js)))) =
    λ j. word_sum-mul w (a i j) (turned_by a (λ js. t (j ∷ js))) ∙ ap (c_scale (a i j)) (e j) in
    (λ n. word_sum w (λ is. turned_by-cons a t i is n))
    ∙ word_sum-add w (part x1) (λ is. add (part x2 is) (part x3 is))
    ∙ ap (c_add (word_sum w (part x1))) (word_sum-add w (part x2) (part x3))
    ∙ (λ n. c_add (sum x1 n) (c_add (sum x2 n) (sum x3 n)))

-- a zero in the third place
two_parts : (a b d : Complex) → c_add a (c_add b (c_scale num_zero d)) ≡ c_add a b
two_parts a b d =
    complex_same (ap (λ x. add a.re (add b.re x)) (num_zero-mul d.re) ∙ ap (add a.re) (num_add-zero b.re))
    (ap (λ x. add a.im (add b.im x)) (num_zero-mul d.im) ∙ ap (add a.im) (num_add-zero b.im))

ruleset signs = (minus_squared, num_mul-one, ring)

plus_law : (c s : Number) (a b : Complex) →
    c_add (c_add (c_scale c a) (c_scale (neg s) b)) (times_i (c_add (c_scale s a) (c_scale c b)))
    ≡ c_mul (record { re = c; im = s }) (c_add a (times_i b))
plus_law c s a b = complex_same (law_re c s a.re a.im b.re b.im) (law_im c s a.re a.im b.re b.im)
  where
    law_re : (c s p q r u : Number) → add (add (mul c p) (mul (mul (whole (negsuc 0)) s) r))
        (mul (whole (negsuc 0)) (add (mul s q) (mul c u)))
        ≡ add (mul c (add p (mul (whole (negsuc 0)) u))) (mul (whole (negsuc 0)) (mul s (add q r)))
    law_re c s p q r u = simp ring

    law_im : (c s p q r u : Number) → add (add (mul c q) (mul (mul (whole (negsuc 0)) s) u)) (add (mul s p) (mul c r))
        ≡ add (mul c (add q r)) (mul s (add p (mul (whole (negsuc 0)) u)))
    law_im c s p q r u = simp ring

minus_law : (c s : Number) (a b : Complex) →
    c_add (c_add (c_scale c a) (c_scale (neg s) b)) (times_minus_i (c_add (c_scale s a) (c_scale c b)))
    ≡ c_mul (record { re = c; im = neg s }) (c_add a (times_minus_i b))
minus_law c s a b = complex_same (law_re c s a.re a.im b.re b.im) (law_im c s a.re a.im b.re b.im)
  where
    law_re : (c s p q r u : Number) → add (add (mul c p) (mul (mul (whole (negsuc 0)) s) r)) (add (mul s q) (mul c u))
        ≡ add (mul c (add p u)) (mul (whole (negsuc 0)) (mul (mul (whole (negsuc 0)) s) (add q (mul (whole (negsuc 0)) r))))
    law_re c s p q r u = simp signs

    law_im : (c s p q r u : Number) → add (add (mul c q) (mul (mul (whole (negsuc 0)) s) u))
        (mul (whole (negsuc 0)) (add (mul s p) (mul c r)))
        ≡ add (mul c (add q (mul (whole (negsuc 0)) r))) (mul (mul (whole (negsuc 0)) s) (add p u))
    law_im c s p q r u = simp signs

spread_plus : (p a b : Complex) → c_add (c_mul p a) (times_i (c_mul p b)) ≡ c_mul p (c_add a (times_i b))
spread_plus p a b = complex_same (law_re p.re p.im a.re a.im b.re b.im) (law_im p.re p.im a.re a.im b.re b.im)
  where
    law_re : (c s p q r u : Number) → add (add (mul c p) (mul (whole (negsuc 0)) (mul s q)))
        (mul (whole (negsuc 0)) (add (mul c u) (mul s r)))
        ≡ add (mul c (add p (mul (whole (negsuc 0)) u))) (mul (whole (negsuc 0)) (mul s (add q r)))
    law_re c s p q r u = simp ring

    law_im : (c s p q r u : Number) → add (add (mul c q) (mul s p)) (add (mul c r) (mul (whole (negsuc 0)) (mul s u)))
        ≡ add (mul c (add q r)) (mul s (add p (mul (whole (negsuc 0)) u)))
    law_im c s p q r u = simp ring

spread_minus : (p a b : Complex) → c_add (c_mul p a) (times_minus_i (c_mul p b)) ≡ c_mul p (c_add a (times_minus_i b))
spread_minus p a b = complex_same (law_re p.re p.im a.re a.im b.re b.im) (law_im p.re p.im a.re a.im b.re b.im)
  where
    law_re : (c s p q r u : Number) → add (add (mul c p) (mul (whole (negsuc 0)) (mul s q))) (add (mul c u) (mul s r))
        ≡ add (mul c (add p u)) (mul (whole (negsuc 0)) (mul s (add q (mul (whole (negsuc 0)) r))))
    law_re c s p q r u = simp signs

    law_im : (c s p q r u : Number) → add (add (mul c q) (mul s p))
        (mul (whole (negsuc 0)) (add (mul c r) (mul (whole (negsuc 0)) (mul s u))))
        ≡ add (mul c (add q (mul (whole (negsuc 0)) r))) (mul s (add p u))
    law_im c s p q r u = simp signs

turn_words : (c s : Number) (w : Word) (t : Tensor) →
    word_sum w (turned_by (rotation c s) t) ≡ c_mul (phase c s w) (word_sum w t)
turn_words c s [] t =
    complex_same (turned_by-nil (rotation c s) t) refl ∙ sym (c_one-mul (record { re = t []; im = num_zero }))
turn_words c s (level ∷ w) t =
    turned_axis w (rotation c s) t (phase c s w) (λ j. turn_words c s w (λ js. t (j ∷ js))) x3 ∙ level_law _ _ _
turn_words c s (plus ∷ w) t =
    let p = phase c s w in
    let axis = turned_axis w (rotation c s) t p (λ j. turn_words c s w (λ js. t (j ∷ js))) in
    let a = word_sum w (λ js. t (x1 ∷ js)) in
    let b = word_sum w (λ js. t (x2 ∷ js)) in
    (λ n. c_add ((axis x1 ∙ two_parts _ _ _) n) (times_i ((axis x2 ∙ two_parts _ _ _) n)))
    ∙ plus_law c s (c_mul p a) (c_mul p b) ∙ ap (c_mul (record { re = c; im = s })) (spread_plus p a b)
    ∙ sym (c_mul_assoc (record { re = c; im = s }) p (c_add a (times_i b)))
turn_words c s (minus ∷ w) t =
    let p = phase c s w in
    let axis = turned_axis w (rotation c s) t p (λ j. turn_words c s w (λ js. t (j ∷ js))) in
    let a = word_sum w (λ js. t (x1 ∷ js)) in
    let b = word_sum w (λ js. t (x2 ∷ js)) in
    (λ n. c_add ((axis x1 ∙ two_parts _ _ _) n) (times_minus_i ((axis x2 ∙ two_parts _ _ _) n)))
    ∙ minus_law c s (c_mul p a) (c_mul p b) ∙ ap (c_mul (record { re = c; im = neg s })) (spread_minus p a b)
    ∙ sym (c_mul_assoc (record { re = c; im = neg s }) p (c_add a (times_minus_i b)))

-- ---- both ways
rotation_factor : (m : Marks) (c s : Number) → add (mul c c) (mul s s) ≡ num_one → axial_factor m.axial (rotation c s) ≡ num_one
rotation_factor m c s unit = by m.axial
  where
    minus_minus : (s : Number) → mul (neg s) (neg s) ≡ mul s s
    minus_minus s = simp signs

    rotation_determinant : determinant (rotation c s) ≡ num_one
    rotation_determinant =
        simp (num_zero-mul, num_mul-zero, num_mul-one, num_add-zero, num_zero-add)
        (ap (add (mul c c)) (minus_minus s) ∙ unit)

    by : (e : Bool) → axial_factor e (rotation c s) ≡ num_one
    by true = rotation_determinant
    by false = refl

act_rotation : (m : Marks) (c s : Number) → add (mul c c) (mul s s) ≡ num_one → (t : Tensor) (is : Index) →
    act_by m (rotation c s) t is ≡ turned_by (rotation c s) t is
act_rotation m c s unit t is =
    act-turned_by m (rotation c s) t is
    ∙ ap (λ x. mul x (turned_by (rotation c s) t is)) (rotation_factor m c s unit) ∙ num_one-mul _

turned_words : (r : ℕ) (t : Tensor) (c s : Number) → Agree r (turned_by (rotation c s) t) t → (w : Word) → length w ≡ r →
    word_sum w t ≡ c_mul (phase c s w) (word_sum w t)
turned_words r t c s e w n =
    sym (word_sum-agree w (turned_by (rotation c s) t) t (λ is l. e is (l ∙ n))) ∙ turn_words c s w t

-- a list that the rotation of cosine 3/5 and sine 4/5 leaves unchanged
fifths_rotation : IsRotation (rotation three_fifths four_fifths)
fifths_rotation = record {
  c = three_fifths;
  s = four_fifths;
  rational_c = record { num = pos 3; den = 5; positive = lit< tt; same = refl };
  rational_s = record { num = pos 4; den = 5; positive = lit< tt; same = refl };
  unit = fifths_unit;
  entries = λ i j. refl;
}

kept_vanish : (m : Marks) (r : ℕ) (t : Tensor) → ((a : Matrix) → IsRotation a → Agree r (act_by m a t) t) → TurningVanish r t
kept_vanish m r t kept w n d =
    let e : word_sum w t ≡ c_mul (phase three_fifths four_fifths w) (word_sum w t) =
    turned_words r t three_fifths four_fifths (λ is l. sym (act_rotation m three_fifths four_fifths fifths_unit t is)
    ∙ kept (rotation three_fifths four_fifths) fifths_rotation is l) w n in
    let p = power_fixes three_fifths four_fifths fifths_unit w (word_sum w t) d e in
    fixed_zero p.0 (word_sum w t) p.1

vanish_kept : (m : Marks) (r : ℕ) (t : Tensor) → TurningVanish r t → (a : Matrix) → IsRotation a → Agree r (act_by m a t) t
vanish_kept m r t v a h is n =
    act_by-entries m a (rotation h.c h.s) h.entries t is ∙ act_rotation m h.c h.s h.unit t is
    ∙ words_tell is (turned_by (rotation h.c h.s) t) t (λ w l. turn_words h.c h.s w t ∙ same w (l ∙ n))
  where
    same : (w : Word) → length w ≡ r → c_mul (phase h.c h.s w) (word_sum w t) ≡ word_sum w t
    same w l = elim (cases_eq (plus_count w) (minus_count w)) [
      | inl e ↦ even_phase h.c h.s h.unit w e (word_sum w t)
      | inr d ↦
          let z : word_sum w t ≡ c_zero = v w l d in
          ap (c_mul (phase h.c h.s w)) z ∙ c_mul-zero (phase h.c h.s w) ∙ sym z
    ]

pub turns_decide_lem : TurnsDecide
turns_decide_lem m r t = (kept_vanish m r t, vanish_kept m r t)
