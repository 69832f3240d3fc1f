-- The carried list, one component after the other.
--   IsCarrying    the components below a number
--   carrying-grows    a component whose sum grows
--   lists_in_turn    a product carries lists as its factors do in turn
--   grows_always    refusals
use Rattle.list_laws.proofs.Kit.{◌≡◌, ℕ, ◌+◌, ◌<◌, ◌^◌, inl, inr, List, [], ◌∷◌, ◌++◌, length, get_or, ap, sym, ◌∙◌, subst, arith, Result, Ok, Err}
use Rattle.list_laws.proofs.Kit.{get_or-append, cases_lt, IfErr, get_or_push, length_push}
use Rattle.tensor_defs.specs.Prelude.{Root3, mul, Operation, IsProduct, sum_of, Index, Tensor, Marks, Agree, act, coefficient, component_number, index_of}
use Rattle.tensor_defs.specs.Prelude.{indices, sign}
use Rattle.number_laws.proofs.NumberLaws.{num_mul_assoc}
use Rattle.tensor_laws.proofs.Prelude.{sum_indices-mul, sum_indices-same, acts_in_turn, act-agree, length-index_of}
use Rattle.root3_num.specs.Roots.{value_of_root}
use Rattle.tensor_rank.specs.IndexLaws.{component_below_at, index_number_at}
use Rattle.tensor_action.specs.Acting.{ActGrows, CarriesTo, IsCarriedList, SumGrows, factor, tensor_of, zero_root}
use Rattle.tensor_action.specs.declared.faults.ActFault.{ActFault}
use Rattle.tensor_action.specs.declared.faults.ActFault.TheVariants as fault
use Rattle.tensor_action.proofs.IndexPlaces.{sum_of-indices}
use Rattle.tensor_action.proofs.SumLaws.{IsSummed, summed-end, summed-calm}

-- the sum of the parts is the component
pub sum_is_act : (m : Marks) (g : Operation) (t : Tensor) (i : Index) →
    sum_of (λ j. mul (factor m g i j) (t j)) (indices (length i)) ≡ act m g t i
unfolding act
sum_is_act m g t i =
    sum_of-indices (length i) (λ j. mul (factor m g i j) (t j))
    ∙ sum_indices-same (length i) (λ j. mul (mul (sign m g) (coefficient g i j)) (t j))
    (λ j. mul (sign m g) (mul (coefficient g i j) (t j))) (λ j. num_mul_assoc (sign m g) (coefficient g i j) (t j))
    ∙ sum_indices-mul (length i) (sign m g) (λ j. mul (coefficient g i j) (t j))

pub carried-end : (m : Marks) (g : Operation) (r c n : ℕ) (t : Tensor) (v : Root3) → n ≡ 3 ^ r →
    IsSummed r (factor m g (index_of r c)) t n (value_of_root v) → CarriesTo m g r t (index_of r c) (Ok v)
carried-end m g r c n t v e s =
    let i = index_of r c in
    let f = factor m g i in
    let w : IsSummed r f t (3 ^ r) (value_of_root v) = subst (λ k. IsSummed r f t k (value_of_root v)) e s in (
      summed-end r f t (value_of_root v) w ∙ ap (λ k. sum_of (λ j. mul (f j) (t j)) (indices k)) (sym (length-index_of r c))
          ∙ sum_is_act m g t i,
      summed-calm r f t (value_of_root v) w,
    )

-- the components below a number
pub record IsCarrying (m : Marks) (g : Operation) (r : ℕ) (t : Tensor) (n : ℕ) (vs : List Root3) : Type 0 where
  pub len : length vs ≡ n
  pub each : (c : ℕ) → c < n → value_of_root (get_or vs c zero_root) ≡ act m g t (index_of r c)
  pub calm : (c : ℕ) → c < n → SumGrows r (factor m g (index_of r c)) t → ⊥

module _ (m : Marks) (g : Operation) (r : ℕ) (t : Tensor) where
  pub carrying-more : (n : ℕ) (vs ws : List Root3) (v : Root3) → IsCarrying m g r t n vs →
      CarriesTo m g r t (index_of r n) (Ok v) → ws ≡ vs ++ v ∷ [] → IsCarrying m g r t (n + 1) ws
  carrying-more n vs ws v s a e =
      let l : length vs ≡ n = s.len in
      record {
        len = ap length e ∙ length_push vs v ∙ ap (λ k. k + 1) l;
        each = λ c h. ap (λ xs. value_of_root (get_or xs c zero_root)) e ∙ (elim (cases_lt c n) as
            (λ _. value_of_root (get_or (vs ++ v ∷ []) c zero_root) ≡ act m g t (index_of r c)) [
              | inl k ↦ ap value_of_root (get_or-append vs (v ∷ []) zero_root c (omega arith)) ∙ s.each c k
              | inr k ↦
                  (let same : n ≡ c = omega arith in
                  ap value_of_root (get_or_push vs v zero_root c (l ∙ same)) ∙ a.0 ∙ ap (λ x. act m g t (index_of r x)) same)
            ]);
        calm = λ c h p. elim (cases_lt c n) as (λ _. ⊥) [
          | inl k ↦ s.calm c k p
          | inr k ↦
              (let same : c ≡ n = omega arith in a.1 (subst (λ x. SumGrows r (factor m g (index_of r x)) t) same p))
        ];
      }

  -- a component whose sum grows
  pub carrying-grows : (n : ℕ) → SumGrows r (factor m g (index_of r n)) t → ActGrows m g r t
  carrying-grows n p = (index_of r n, length-index_of r n, p)

pub carrying-end : (m : Marks) (g : Operation) (r k n : ℕ) (rs vs : List Root3) → k ≡ n → n ≡ 3 ^ r →
    IsCarrying m g r (tensor_of rs) k vs → IsCarriedList m g r n rs vs
carrying-end m g r k n rs vs e p s =
    let w : IsCarrying m g r (tensor_of rs) n vs = subst (λ x. IsCarrying m g r (tensor_of rs) x vs) e s in
    record {
      len = w.len;
      each = w.each;
      calm = λ q.
          let i = q.0 in
          w.calm (component_number i) (subst (λ x. component_number i < x) (sym p) (component_below_at r i q.1))
          (subst (λ j. SumGrows r (factor m g j) (tensor_of rs)) (sym (index_number_at r i q.1)) q.2);
    }

-- a product carries lists as its factors do in turn
pub lists_in_turn : (r n : ℕ) → n ≡ 3 ^ r → (m : Marks) (g h k : Operation) → IsProduct g h k → (rs hs gs ks : List Root3) →
    IsCarriedList m h r n rs hs → IsCarriedList m g r n hs gs → IsCarriedList m k r n rs ks →
    (c : ℕ) → c < n → value_of_root (get_or ks c zero_root) ≡ value_of_root (get_or gs c zero_root)
lists_in_turn r n e m g h k p rs hs gs ks a b d c l =
    let same : Agree r (act m h (tensor_of rs)) (tensor_of hs) = λ is q.
    ap (act m h (tensor_of rs)) (sym (index_number_at r is q))
    ∙ sym (a.each (component_number is) (subst (λ x. component_number is < x) (sym e) (component_below_at r is q))) in
    d.each c l ∙ acts_in_turn m g h k p (tensor_of rs) (index_of r c)
    ∙ act-agree m g r (act m h (tensor_of rs)) (tensor_of hs) same (index_of r c) (length-index_of r c) ∙ sym (b.each c l)

-- ---- refusals
pub grows_always : {T : Type 0} (x : Result T ActFault) (P : Type 0) → P → IfErr x (λ e. e ≡ fault.TooLarge → P)
grows_always (Ok v) P p = tt
grows_always (Err e) P p = λ _. p
