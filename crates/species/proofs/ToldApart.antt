-- States that are told apart.
--   same_rep        an element of a state carries an invariant tensor to the same one as its representative
--   elements_free   whichever elements of the two states are taken
--   not_own, apart_back, joined    not to be told apart is an equivalence
--   apart_carries, carries_apart    states are told apart where the product of the inverse of the first representative and
--                   the second carries some invariant tensor to another one
--   state_carries, carries_state, none_carried    the elements of a state carry as its representative does; those of F don't
use Rattle.list_laws.proofs.Kit.{◌≡◌, ℕ, ◌-◌, List, sym, ◌∙◌, arith, same_Some}
use Rattle.list_laws.proofs.Lists.{element_at}
use Rattle.tensor_defs.specs.Prelude.{IsInvariant, JahnSymbol, rank, IsProduct, Operation, identity, IsState, Times, Agree, Tensor, act}
use Rattle.tensor_laws.proofs.Prelude.{acts_in_turn, identity_acts_lem, act-agree, same_state, product_assoc, one_times, times_one}
use Rattle.species.specs.Species.{AreToldApart, InState, IsNumber}
use Rattle.species.specs.Told.{Carries}

-- a state by its number
pub state_exists : (reps : List Operation) (k : ℕ) → IsNumber reps k → (r : Operation) × IsState reps k r
state_exists reps k h =
    let one = h.0 in
    let last = h.1 in
    let r = element_at reps (k - 1) (omega (arith, one, last)) in
    (r.0, (one, r.1))

module _ (j : JahnSymbol) (F : Operation → Type 0) (reps : List Operation) where
  pub own_state : F identity → (k : ℕ) (r : Operation) → IsState reps k r → InState F reps k r
  own_state one k r is = (r, is, (identity, one, times_one r))

  same_rep : (k : ℕ) (g : Operation) (i : InState F reps k g) (t : Tensor) → IsInvariant j F t →
      Agree (rank j) (act j.marks g t) (act j.marks i.0 t)
  same_rep k g (r, is, (f, in_f, p)) t inv = same_state j F r f g in_f p t inv

  same_in : (k : ℕ) (g h : Operation) → InState F reps k g → InState F reps k h → (t : Tensor) → IsInvariant j F t →
      Agree (rank j) (act j.marks g t) (act j.marks h t)
  same_in k g h p q t inv i n =
      let e : p.0 ≡ q.0 = same_Some p.0 q.0 (sym p.1.1 ∙ q.1.1) in
      same_rep k g p t inv i n ∙ (λ x. act j.marks (e x) t i) ∙ sym (same_rep k h q t inv i n)

  pub elements_free : (k l : ℕ) (a : AreToldApart j F reps k l) (g h : Operation) → InState F reps k g →
      InState F reps l h → ¬ Agree (rank j) (act j.marks g a.tensor) (act j.marks h a.tensor)
  elements_free k l a g h p q same =
      a.differ (λ i n.
      same_in k a.g g a.in_k p a.tensor a.invariant i n ∙ same i n ∙ same_in l h a.h q a.in_l a.tensor a.invariant i n)

  -- ---- an equivalence
  pub not_own : (k : ℕ) → ¬ AreToldApart j F reps k k
  not_own k a = a.differ (same_in k a.g a.h a.in_k a.in_l a.tensor a.invariant)

  pub apart_back : (k l : ℕ) → AreToldApart j F reps k l → AreToldApart j F reps l k
  apart_back k l a = record {
    tensor = a.tensor;
    invariant = a.invariant;
    g = a.h;
    h = a.g;
    in_k = a.in_l;
    in_l = a.in_k;
    differ = λ same. a.differ (λ i n. sym (same i n));
  }

  pub joined : F identity → (k l m : ℕ) → IsNumber reps l → ¬ AreToldApart j F reps k l → ¬ AreToldApart j F reps l m →
      ¬ AreToldApart j F reps k m
  joined one k l m h p q a =
      let s = state_exists reps l h in
      let in_s = own_state one l s.0 s.1 in
      p (record {
        tensor = a.tensor;
        invariant = a.invariant;
        g = a.g;
        h = s.0;
        in_k = a.in_k;
        in_l = in_s;
        differ = λ first. q (record {
          tensor = a.tensor;
          invariant = a.invariant;
          g = s.0;
          h = a.h;
          in_k = in_s;
          in_l = a.in_l;
          differ = λ second. a.differ (λ i n. first i n ∙ second i n);
        });
      })

  -- ---- the state of the second as seen from the first
  module _ (one : F identity) (k l : ℕ) (r s c d : Operation) (is_r : IsState reps k r) (is_s : IsState reps l s)
      (after : IsProduct r c identity) (ahead : IsProduct c r identity) (between : IsProduct c s d) where
    whole : IsProduct r d s
    whole = product_assoc r c s identity s d after (one_times s) between

    pub apart_carries : AreToldApart j F reps k l → Carries j F d
    apart_carries a = (
      a.tensor,
      a.invariant,
      λ same. elements_free k l a r s (own_state one k r is_r) (own_state one l s is_s) (λ i n.
          sym (acts_in_turn j.marks r d s whole a.tensor i
          ∙ act-agree j.marks r (rank j) (act j.marks d a.tensor) a.tensor same i n)),
    )

    pub carries_apart : Carries j F d → AreToldApart j F reps k l
    carries_apart (t, inv, other) = record {
      tensor = t;
      invariant = inv;
      g = r;
      h = s;
      in_k = own_state one k r is_r;
      in_l = own_state one l s is_s;
      differ = λ same. other (λ i n.
          acts_in_turn j.marks c s d between t i
          ∙ sym (act-agree j.marks c (rank j) (act j.marks r t) (act j.marks s t) same i n)
          ∙ sym (acts_in_turn j.marks c r identity ahead t i)
          ∙ identity_acts_lem j.marks t i);
    }

  -- ---- the elements of a state
  pub carries_state : (r d : Operation) → Times r F d → Carries j F d → Carries j F r
  carries_state r d (f, in_f, p) (t, inv, other) =
      (t, inv, λ same. other (λ i n. same_state j F r f d in_f p t inv i n ∙ same i n))

  pub state_carries : (r d : Operation) → Times r F d → Carries j F r → Carries j F d
  state_carries r d (f, in_f, p) (t, inv, other) =
      (t, inv, λ same. other (λ i n. sym (same_state j F r f d in_f p t inv i n) ∙ same i n))

  pub none_carried : (f : Operation) → F f → ¬ Carries j F f
  none_carried f in_f (t, inv, other) = other (inv.unchanged f in_f)
