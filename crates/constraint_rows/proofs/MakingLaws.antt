-- What the lists that are made element by element are, and a table of first components made from generators.
use Rattle.list_laws.proofs.Kit.{◌≡◌, ℕ, ◌+◌, ◌-◌, ◌<◌, ◌≤◌, ◌^◌, List, [], ◌∷◌, ◌++◌, length, get_or, arith, refl, ap, sym, ◌∙◌, subst, inl, inr, ◌↔◌}
use Rattle.list_laws.proofs.Kit.{cases_lt, get_or_append_left, get_or-append_right}
use Rattle.std.specs.Prelude.{Contains}
use Rattle.tensor_defs.specs.Prelude.{AllOf, Operation, identity, Marks}
use Rattle.tensor_defs.specs.declared.Sign.TheVariants.{Plus}
use Rattle.magnetic_groups.specs.Sets.{In, Spanned}
use Rattle.sign_moves.specs.declared.classes.Entry.{Entry}
use Rattle.sign_moves.specs.Firsts.{IsFirstTable, AreSettled}
use Rattle.sign_moves.proofs.FirstLaws.{firsts_tell}
use Rattle.sign_moves.proofs.JoinedLaws.{joined_reversible}
use Rattle.tensor_rank.specs.declared.exchanges.Exchange.{Exchange}
use Rattle.tensor_rank.specs.Prelude.{Ordering, before_at, ShapeValue, AllWithin}
use Rattle.tensor_rank.proofs.ExchangeLaws.{exchanges_reversible}
use Rattle.constraint_rows.specs.declared.ops.PlainOp.{PlainOp}
use Rattle.constraint_rows.specs.Prelude.{IsPlainTable, moves_of, ArePermutations, StandsFor, StandForAll, op_at}
use Rattle.constraint_rows.proofs.OpLaws.{ops_reversible}

-- one more matrix stands for one more operation
pub stand_more : (m : Marks) (gs : List Operation) (ps : List PlainOp) (p : PlainOp) (n : ℕ) → length ps ≡ n →
    ((k : ℕ) → k < n → StandsFor m (get_or gs k identity) (op_at ps k)) → StandsFor m (get_or gs n identity) p →
    (k : ℕ) → k < n + 1 → StandsFor m (get_or gs k identity) (op_at (ps ++ p ∷ []) k)
stand_more m gs ps p n len each last k h =
    let none : PlainOp = record { images = []; negates = []; whole = Plus } in
    elim (cases_lt k n) as (λ _. StandsFor m (get_or gs k identity) (op_at (ps ++ p ∷ []) k)) [
      | inl l ↦
          let inside : k < length ps = omega (arith, len, l) in
          subst (λ x. StandsFor m (get_or gs k identity) x) (sym (get_or_append_left ps (p ∷ []) none k inside)) (each k l)
      | inr l ↦
          let same : n ≡ k = omega (arith, h, l) in
          let past : length ps ≤ k = omega (arith, len, l) in
          let first : k - length ps ≡ 0 = omega (arith, len, same) in
          subst (λ x. StandsFor m (get_or gs k identity) x)
          (sym (get_or-append_right ps (p ∷ []) (length ps) k none refl past ∙ ap (λ i. get_or (p ∷ []) i none) first))
          (subst (λ i. StandsFor m (get_or gs i identity) p) same last)
    ]

pub stand_permutations : (m : Marks) (gs : List Operation) (ps : List PlainOp) → StandForAll m gs ps → ArePermutations ps
stand_permutations m gs ps h = record {
  each = λ k l. (h.each k (subst (λ n. k < n) h.len l)).permutation;
}

module _ {n r : ℕ} {hs gs : List Operation} {m : Marks} {s : ShapeValue} {xs : List Exchange} {ops qs : List PlainOp} {o : Ordering}
    {es : List Entry} (size : n ≡ 3 ^ r) (inside : AllOf (In gs) (In hs)) (spanned : (k : Operation) → Contains hs k ↔ Spanned gs k)
    (marks : m ≡ s.marks) (stand : StandForAll m gs ops) (shown : xs ≡ s.exchanges) (within : AllWithin r xs) (same : qs ≡ ops)
    (firsts : IsFirstTable n (moves_of r xs qs) (before_at r o) es) where
  pub plain_table_made : IsPlainTable n r hs s o es
  plain_table_made =
      let own_within : AllWithin r s.exchanges = subst (λ (ys : List Exchange). AllWithin r ys) shown within in
      record {
        generators = gs;
        ops = ops;
        generated = record { generated = λ h is. (spanned h).0 is; within = inside };
        stand = subst (λ (x : Marks). StandForAll x gs ops) marks stand;
        within = own_within;
        reversible = joined_reversible (exchanges_reversible n r s.exchanges size own_within)
            (ops_reversible n r ops size (stand_permutations m gs ops stand));
        firsts = subst (λ (ys : List Exchange). IsFirstTable n (moves_of r ys ops) (before_at r o) es) shown
            (subst (λ (zs : List PlainOp). IsFirstTable n (moves_of r xs zs) (before_at r o) es) same firsts);
      }

pub table_settled : {n r : ℕ} {hs : List Operation} {s : ShapeValue} {o : Ordering} {es : List Entry} → IsPlainTable n r hs s o es → AreSettled n es
table_settled {n} {r} {hs} {s} {o} {es} t = (firsts_tell n (moves_of r s.exchanges t.ops) (before_at r o) es t.reversible t.firsts).settled
