-- Operations that act alike carry a tensor to the same list.
--   alike_list      the list of one is that of the other
--   alike_at        a list that is held serves for an operation that acts alike
--   one_more, last_at    a list more, and its place
use Rattle.list_laws.proofs.Kit.{◌≡◌, ℕ, ◌+◌, ◌<◌, List, [], ◌∷◌, ◌++◌, length, get_or, ap, sym, ◌∙◌, subst, arith, get_or_push, get_or_read, length_push}
use Rattle.list_laws.proofs.Members.{each_push, each_read}
use Rattle.tensor_defs.specs.Prelude.{Root3, mul, Operation, sum_of, Index, Tensor, Marks, act, index_of, indices}
use Rattle.tensor_laws.proofs.ComponentNumbers.{length-index_of}
use Rattle.tensor_action.specs.Acting.{IsCarriedList, SumGrows, tensor_of}
use Rattle.tensor_action.proofs.CarryLaws.{sum_is_act}
use Rattle.state_marks.specs.Alike.{AreAlike}
use Rattle.state_marks.proofs.AlikeLaws.{same_factors}
use Rattle.given_tensors.specs.Carried.{AreCarried, IsListAt, Serves}
use Rattle.given_tensors.specs.declared.carried.Carried.{Carried}

module _ (m : Marks) (r : ℕ) (g h : Operation) (alike : AreAlike m r g h) where
  same_act : (t : Tensor) (i : Index) → length i ≡ r → act m g t i ≡ act m h t i
  same_act t i l =
      sym (sum_is_act m g t i) ∙ (λ n. sum_of (λ j. mul (alike i l j n) (t j)) (indices (length i))) ∙ sum_is_act m h t i

  pub alike_list : (n : ℕ) (ts vs : List Root3) → IsCarriedList m g r n ts vs → IsCarriedList m h r n ts vs
  alike_list n ts vs c = record {
    len = c.len;
    each = λ k l. c.each k l ∙ same_act (tensor_of ts) (index_of r k) (length-index_of r k);
    calm = λ x. c.calm (x.0, x.1, subst (λ f. SumGrows r f (tensor_of ts)) (sym (same_factors m r g h alike x.0 x.1)) x.2);
  }

module _ (m : Marks) (r n : ℕ) (cs : List Carried) where
  pub alike_at : (g : Operation) (k : ℕ) (own : Carried) → k < length cs → own ≡ get_or cs k own → AreAlike m r own.op g →
      Serves m g r n cs k
  alike_at g k own l is alike = λ ts each. record {
    within = l;
    carried = λ c at.
        let same : own ≡ c = get_or_read cs k own l is c ∙ sym at in
        alike_list m r c.op g (subst (λ (x : Carried). AreAlike m r x.op g) same alike) n ts c.list.items
        (each_read (λ x. IsCarriedList m x.op r n ts x.list.items) cs each k c l at);
  }

  module _ (ts : List Root3) (own : Carried) (is : IsCarriedList m own.op r n ts own.list.items) (new : List Carried) (e : new ≡ cs ++ own ∷ []) where
    pub one_more : AreCarried m r n ts cs → AreCarried m r n ts new
    one_more each =
        subst (AreCarried m r n ts) (sym e) (each_push (λ x. IsCarriedList m x.op r n ts x.list.items) cs own each is)

    pub last_at : (k : ℕ) → k + 1 ≡ length new → IsListAt m own.op r n ts new k
    last_at k l =
        let last : length cs ≡ k = let long = ap length e ∙ length_push cs own in omega (arith, l, long) in
        record {
          within = omega (arith, l);
          carried = λ c at.
              let same : own ≡ c = sym (at ∙ ap (λ xs. get_or xs k c) e ∙ get_or_push cs own c k last) in
              subst (λ (x : Carried). IsCarriedList m own.op r n ts x.list.items) same is;
        }
