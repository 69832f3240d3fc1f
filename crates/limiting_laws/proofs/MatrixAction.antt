-- The action of matrices of numbers: index by index, that products act in turn, and that an operation acts as its matrix.
--   turned_by, turned_by-agree, turned_by-nil, turned_by-cons    the sum of the action, index by index
--   act_by-times, act_by-agree, act_by-entries    products, lists that agree, matrices that agree
--   act_by-act      an operation acts as its matrix
use Rattle.std.proofs.Common.{◌≡◌, ℕ, Bool, true, false, [], ◌∷◌, length, refl, ap, sym, ◌∙◌}
use Rattle.number_laws.proofs.NumberLaws.{num_mul_assoc, num_mul-add, num_mul-one, num_mul_left_comm, num_one-mul}
use Rattle.tensor_defs.specs.Prelude.{Number, add, mul, num_one, Axis, x1, x2, x3, sum_axes, Operation, value, Index, Tensor, Marks, Agree, act, axial_sign}
use Rattle.tensor_defs.specs.Prelude.{coefficient, sign, sum_indices, time_sign}
use Rattle.tensor_laws.proofs.Prelude.{sum_indices-add, sum_indices-mul, sum_indices-same, sum_indices-agree, determinant-product, exchange}
use Rattle.limiting_defs.specs.Matrices.{Matrix, SameEntries, times, entries_product, axial_factor, act_by}

-- the sum of the action, with no factor
unfoldable pub turned_by : Matrix → Tensor → Tensor
turned_by a t is = sum_indices (length is) (λ js. mul (entries_product a is js) (t js))

pub act-turned_by : (m : Marks) (a : Matrix) (t : Tensor) (is : Index) →
    act_by m a t is ≡ mul (axial_factor m.axial a) (turned_by a t is)
unfolding act_by turned_by
act-turned_by m a t is = refl

turned_by-same : (a : Matrix) (t t' : Tensor) (is : Index) → ((js : Index) → t js ≡ t' js) →
    turned_by a t is ≡ turned_by a t' is
turned_by-same a t t' is e = λ i. turned_by a (λ js. e js i) is

pub turned_by-agree : (a : Matrix) (r : ℕ) (t t' : Tensor) → Agree r t t' → Agree r (turned_by a t) (turned_by a t')
unfolding turned_by
turned_by-agree a r t t' e is n =
    sum_indices-agree (length is) (λ js. mul (entries_product a is js) (t js))
    (λ js. mul (entries_product a is js) (t' js)) (λ js l. ap (mul (entries_product a is js)) (e js (l ∙ n)))

-- one index at a time
pub turned_by-nil : (a : Matrix) (t : Tensor) → turned_by a t [] ≡ t []
unfolding turned_by
turned_by-nil a t = num_one-mul (t [])

pub turned_by-cons : (a : Matrix) (t : Tensor) (i : Axis) (is : Index) →
    turned_by a t (i ∷ is) ≡ sum_axes (λ j. mul (a i j) (turned_by a (λ js. t (j ∷ js)) is))
unfolding turned_by
turned_by-cons a t i is =
    let part : (j : Axis) → sum_indices (length is) (λ js. mul (mul (a i j) (entries_product a is js)) (t (j ∷ js)))
    ≡ mul (a i j) (sum_indices (length is) (λ js. mul (entries_product a is js) (t (j ∷ js)))) =
    λ j. sum_indices-same (length is) (λ js. mul (mul (a i j) (entries_product a is js)) (t (j ∷ js)))
    (λ js. mul (a i j) (mul (entries_product a is js) (t (j ∷ js))))
    (λ js. num_mul_assoc (a i j) (entries_product a is js) (t (j ∷ js)))
    ∙ sum_indices-mul (length is) (a i j) (λ js. mul (entries_product a is js) (t (j ∷ js))) in
    λ n. add (part x1 n) (add (part x2 n) (part x3 n))

turned_by-mul : (a : Matrix) (c : Number) (t : Tensor) (is : Index) →
    turned_by a (λ js. mul c (t js)) is ≡ mul c (turned_by a t is)
unfolding turned_by
turned_by-mul a c t is =
    sum_indices-same (length is) (λ js. mul (entries_product a is js) (mul c (t js)))
    (λ js. mul c (mul (entries_product a is js) (t js))) (λ js. num_mul_left_comm (entries_product a is js) c (t js))
    ∙ sum_indices-mul (length is) c (λ js. mul (entries_product a is js) (t js))

turned_by-add : (a : Matrix) (t t' : Tensor) (is : Index) →
    turned_by a (λ js. add (t js) (t' js)) is ≡ add (turned_by a t is) (turned_by a t' is)
unfolding turned_by
turned_by-add a t t' is =
    sum_indices-same (length is) (λ js. mul (entries_product a is js) (add (t js) (t' js)))
    (λ js. add (mul (entries_product a is js) (t js)) (mul (entries_product a is js) (t' js)))
    (λ js. num_mul-add (entries_product a is js) (t js) (t' js))
    ∙ sum_indices-add (length is) (λ js. mul (entries_product a is js) (t js))
    (λ js. mul (entries_product a is js) (t' js))

turned_by-three : (a : Matrix) (b : Axis → Number) (t : Axis → Tensor) (is : Index) →
    turned_by a (λ js. sum_axes (λ j. mul (b j) (t j js))) is ≡ sum_axes (λ j. mul (b j) (turned_by a (t j) is))
turned_by-three a b t is =
    let part : (j : Axis) → turned_by a (λ js. mul (b j) (t j js)) is ≡ mul (b j) (turned_by a (t j) is) =
    λ j. turned_by-mul a (b j) (t j) is in
    turned_by-add a (λ js. mul (b x1) (t x1 js)) (λ js. add (mul (b x2) (t x2 js)) (mul (b x3) (t x3 js))) is
    ∙ ap (add (turned_by a (λ js. mul (b x1) (t x1 js)) is))
    (turned_by-add a (λ js. mul (b x2) (t x2 js)) (λ js. mul (b x3) (t x3 js)) is)
    ∙ (λ n. add (part x1 n) (add (part x2 n) (part x3 n)))

-- a product turns as its factors in turn
turned_by-times : (a b : Matrix) (is : Index) (t : Tensor) → turned_by (times a b) t is ≡ turned_by a (turned_by b t) is
turned_by-times a b [] t = turned_by-nil (times a b) t ∙ sym (turned_by-nil b t) ∙ sym (turned_by-nil a (turned_by b t))
turned_by-times a b (i ∷ is) t =
    let c : Axis → Number = λ j. turned_by a (turned_by b (λ js. t (j ∷ js))) is in
    let left : (j : Axis) → mul (times a b i j) (turned_by (times a b) (λ js. t (j ∷ js)) is) ≡ mul (times a b i j) (c j) =
    λ j. ap (mul (times a b i j)) (turned_by-times a b is (λ js. t (j ∷ js))) in
    let right : (m : Axis) → turned_by a (λ js. turned_by b t (m ∷ js)) is ≡ sum_axes (λ j. mul (b m j) (c j)) =
    λ m. turned_by-same a (λ js. turned_by b t (m ∷ js))
    (λ js. sum_axes (λ j. mul (b m j) (turned_by b (λ ks. t (j ∷ ks)) js))) is (λ js. turned_by-cons b t m js)
    ∙ turned_by-three a (b m) (λ j. turned_by b (λ ks. t (j ∷ ks))) is in
    turned_by-cons (times a b) t i is
    ∙ (λ n. add (left x1 n) (add (left x2 n) (left x3 n)))
    ∙ exchange (a i x1) (a i x2) (a i x3) (b x1 x1) (b x1 x2) (b x1 x3) (b x2 x1) (b x2 x2) (b x2 x3) (b x3 x1)
    (b x3 x2) (b x3 x3) (c x1) (c x2) (c x3)
    ∙ sym (turned_by-cons a (turned_by b t) i is ∙ (λ n. add (mul (a i x1) (right x1 n))
    (add (mul (a i x2) (right x2 n)) (mul (a i x3) (right x3 n)))))

axial_factor-times : (e : Bool) (a b : Matrix) → axial_factor e (times a b) ≡ mul (axial_factor e a) (axial_factor e b)
axial_factor-times true a b = determinant-product a b
axial_factor-times false a b = sym (num_mul-one num_one)

pub act_by-times : (m : Marks) (a b : Matrix) (t : Tensor) (is : Index) →
    act_by m (times a b) t is ≡ act_by m a (act_by m b t) is
act_by-times m a b t is =
    act-turned_by m (times a b) t is
    ∙ (λ n. mul (axial_factor-times m.axial a b n) (turned_by-times a b is t n))
    ∙ num_mul_assoc (axial_factor m.axial a) (axial_factor m.axial b) (turned_by a (turned_by b t) is)
    ∙ ap (mul (axial_factor m.axial a)) (sym (turned_by-mul a (axial_factor m.axial b) (turned_by b t) is)
    ∙ turned_by-same a (λ js. mul (axial_factor m.axial b) (turned_by b t js)) (act_by m b t) is
    (λ js. sym (act-turned_by m b t js)))
    ∙ sym (act-turned_by m a (act_by m b t) is)

pub act_by-agree : (m : Marks) (a : Matrix) (r : ℕ) (t t' : Tensor) → Agree r t t' → Agree r (act_by m a t) (act_by m a t')
act_by-agree m a r t t' e is n =
    act-turned_by m a t is ∙ ap (mul (axial_factor m.axial a)) (turned_by-agree a r t t' e is n)
    ∙ sym (act-turned_by m a t' is)

pub act_by-entries : (m : Marks) (a b : Matrix) → SameEntries a b → (t : Tensor) (is : Index) →
    act_by m a t is ≡ act_by m b t is
act_by-entries m a b e t is = λ n. act_by m (λ i j. e i j n) t is

-- an operation acts as its matrix
entries-coefficient : (g : Operation) (is js : Index) → entries_product (value g) is js ≡ coefficient g is js
entries-coefficient g [] [] = refl
entries-coefficient g [] (j ∷ js) = refl
entries-coefficient g (i ∷ is) [] = refl
entries-coefficient g (i ∷ is) (j ∷ js) = ap (mul (value g i j)) (entries-coefficient g is js)

factor-sign : (m : Marks) (g : Operation) → g.primed ≡ false → axial_factor m.axial (value g) ≡ sign m g
unfolding sign
factor-sign m g e =
    axial m.axial ∙ sym (num_mul-one _) ∙ ap (mul (axial_sign m.axial g)) (sym (ap (time_sign m.magnetic) e ∙ time m.magnetic))
  where
    axial : (b : Bool) → axial_factor b (value g) ≡ axial_sign b g
    axial true = refl
    axial false = refl

    time : (b : Bool) → time_sign b false ≡ num_one
    time true = refl
    time false = refl

pub act_by-act : (m : Marks) (g : Operation) → g.primed ≡ false → (t : Tensor) (is : Index) →
    act_by m (value g) t is ≡ act m g t is
unfolding act_by act
act_by-act m g e t is =
    λ n. mul (factor-sign m g e n) (sum_indices (length is) (λ js. mul (entries-coefficient g is js n) (t js)))
