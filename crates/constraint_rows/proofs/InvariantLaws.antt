-- Invariant tensors are those that the moves keep, and generators suffice.
use Rattle.list_laws.proofs.Kit.{◌≡◌, ℕ, ◌^◌, List, [], ◌∷◌, get_or, ap, ◌∙◌, subst, get_or_default}
use Rattle.std.specs.Prelude.{Contains}
use Rattle.tensor_defs.specs.Prelude.{Operation, identity, Tensor, Marks, Agree, act, Each, IsProductOf, Generated, JahnSymbol, rank, body_brackets}
use Rattle.tensor_defs.specs.Prelude.{IsInvariant}
use Rattle.tensor_laws.proofs.Prelude.{acts_in_turn, identity_acts_lem, act-agree}
use Rattle.sign_moves.specs.Prelude.{Moves, IsKept, joined}
use Rattle.tensor_rank.specs.Prelude.{exchange_moves, AllWithin, exchanges_of}
use Rattle.constraint_rows.specs.declared.ops.PlainOp.{PlainOp}
use Rattle.constraint_rows.specs.PlainOps.{StandForAll, op_moves}
use Rattle.sign_moves.proofs.JoinedLaws.{kept_by_first, kept_by_second, kept_by_both}
use Rattle.tensor_rank.proofs.ExchangeIndex.{numbered, symmetric_kept, kept_symmetric}
use Rattle.constraint_rows.proofs.OpIndex.{unchanged_kept, kept_unchanged}

-- the moves of a symbol and of operations
abbrev pub all_moves : JahnSymbol → List PlainOp → Moves
all_moves j ps = joined (exchange_moves (rank j) (exchanges_of (body_brackets j.factors 0))) (op_moves (rank j) ps)

module _ (j : JahnSymbol) (gs : List Operation) (ps : List PlainOp) (all : StandForAll j.marks gs ps) (inside : AllWithin (rank j) (exchanges_of (body_brackets j.factors 0))) (t : Tensor) where
  pub invariant_kept : IsInvariant j (λ g. Contains gs g) t → IsKept (3 ^ rank j) (all_moves j ps) (numbered (rank j) t)
  invariant_kept h = kept_by_both
      (symmetric_kept (rank j) t (body_brackets j.factors 0) inside h.symmetric)
      (unchanged_kept j.marks gs ps all (rank j) t (λ k is. h.unchanged (get_or gs k identity) (k, is, get_or_default gs k (get_or gs k identity) identity is)))

  pub kept_invariant : IsKept (3 ^ rank j) (all_moves j ps) (numbered (rank j) t) → IsInvariant j (λ g. Contains gs g) t
  kept_invariant h = record {
    symmetric = kept_symmetric (rank j) t (body_brackets j.factors 0) (kept_by_first (op_moves (rank j) ps) h);
    unchanged = λ g c.
        let is : get_or gs c.0 identity ≡ g = get_or_default gs c.0 identity g c.1 ∙ c.2 in
        subst (λ x. Agree (rank j) (act j.marks x t) t) is (kept_unchanged j.marks gs ps all (rank j) t (kept_by_second (exchange_moves (rank j) (exchanges_of (body_brackets j.factors 0))) h) c.0 c.1);
  }

-- what leaves a tensor unchanged does so in products
unchanged_product : (m : Marks) (r : ℕ) (S : Operation → Type 0) (t : Tensor) → ((g : Operation) → S g → Agree r (act m g t) t) → (gs : List Operation) (k : Operation) → Each S gs → IsProductOf gs k → Agree r (act m k t) t
unchanged_product m r S t h [] k e p is l = ap (λ x. act m x t is) p ∙ identity_acts_lem m t is
unchanged_product m r S t h (g ∷ gs) k e p is l =
    acts_in_turn m g p.0 k p.2 t is
    ∙ act-agree m g r (act m p.0 t) t (unchanged_product m r S t h gs p.0 e.1 p.1) is l
    ∙ h g e.0 is l

-- invariance under generators is invariance under what they generate
pub generators_suffice : (j : JahnSymbol) (S H : Operation → Type 0) (t : Tensor) → ((g : Operation) → H g → Generated S g) → IsInvariant j S t → IsInvariant j H t
generators_suffice j S H t generated h = record {
  symmetric = h.symmetric;
  unchanged = λ g in_h.
      let p = generated g in_h in
      unchanged_product j.marks (rank j) S t h.unchanged p.0 g p.1 p.2;
}

pub fewer_suffice : (j : JahnSymbol) (S H : Operation → Type 0) (t : Tensor) → ((g : Operation) → S g → H g) → IsInvariant j H t → IsInvariant j S t
fewer_suffice j S H t within h = record { symmetric = h.symmetric; unchanged = λ g s. h.unchanged g (within g s) }
