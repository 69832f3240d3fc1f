use Rattle.std.proofs.Common.{◌≡◌, ◌∙◌, ℕ, ◌+◌, ◌<◌, ◌⊎◌, ◌↔◌, true, List, length, arith, subst, sym, rules}
use Rattle.tensor_rank.specs.Flags.{marks_of}
use Rattle.sign_moves.specs.declared.classes.Entry.{Entry}
use Rattle.sign_moves.specs.Classes.{entry_at, first_at, vanishes_at}
use Rattle.constraint_rows.specs.Prelude.{IsTurned, IsTurnedEntry, AllHaveColumns}
use Rattle.constraint_rows.specs.declared.ops.PlainOp.{PlainOp}
use Rattle.constraint_rows.proofs.DiagonalLaws.{diagonal_columns, entry_more, told_lower, turned_marked}
use Rattle.constraint_rows.proofs.axis.marked_table.Goals as goal

pub marked_entry-entry-requires-clause-columns : goal.marked_entry-entry-requires-clause-columns
marked_entry-entry-requires-clause-columns g c =
    subst AllHaveColumns (sym c.deref-in-loop-number.ensures.value) (diagonal_columns (marks_of c.args.flags) c.args.group.now (length c.args.group.now) c.in_ok-ops.ops.items c.in_ok-ops.ensures)

pub marked_entry-entry-requires-clause-told : goal.marked_entry-entry-requires-clause-told
marked_entry-entry-requires-clause-told g c =
    let inside : c.loop-number.number < g.R.Rank.LEN = let l = c.requires.len in let h = c.loop-number-test.true in omega (arith, l, h) in
    let same : c.deref.result.now ≡ c.loop-number.marked.items = c.deref.ensures.value in
    let ops : c.deref-in-loop-number.result.now ≡ c.in_ok-ops.ops.items = c.deref-in-loop-number.ensures.value in
    subst (λ (es : List Entry). first_at c.args.table.now c.loop-number.number < length es →
    (vanishes_at es (first_at c.args.table.now c.loop-number.number) ≡ true)
    ↔ ((vanishes_at c.args.table.now c.loop-number.number ≡ true) ⊎ IsTurned g.R.Rank.R c.deref-in-loop-number.result.now (first_at c.args.table.now c.loop-number.number)))
    (sym same)
    (subst (λ (ps : List PlainOp). first_at c.args.table.now c.loop-number.number < length c.loop-number.marked.items →
    (vanishes_at c.loop-number.marked.items (first_at c.args.table.now c.loop-number.number) ≡ true)
    ↔ ((vanishes_at c.args.table.now c.loop-number.number ≡ true) ⊎ IsTurned g.R.Rank.R ps (first_at c.args.table.now c.loop-number.number)))
    (sym ops)
    (λ h. told_lower g.R.Rank.R g.R.Rank.LEN c.in_ok-ops.ops.items c.args.table.now c.loop-number.marked.items c.requires c.loop-number.number inside h
    (λ i l. c.loop-number.invariant.each i (subst (λ n. i < n) c.loop-number.invariant.len l))))

pub loop-number-preserved : goal.loop-number-preserved
loop-number-preserved g c = record {
  len = search rules;
  each =
      subst (λ (es : List Entry). (k : ℕ) → k < c.loop-number.number + 1 → IsTurnedEntry g.R.Rank.R c.in_ok-ops.ops.items (entry_at c.args.table.now k) (entry_at es k))
      (sym c.in_ok-push.ensures.items)
      (entry_more (λ k e. IsTurnedEntry g.R.Rank.R c.in_ok-ops.ops.items (entry_at c.args.table.now k) e) c.loop-number.marked.items c.marked_entry-entry.result c.loop-number.number
      c.loop-number.invariant.len c.loop-number.invariant.each (search rules));
}

pub returns : goal.returns
returns g c =
    let end : c.loop-number.number ≡ length c.args.table.now = omega (arith, c.loop-number-test.false, c.loop-number.auto.number-end) in
    record {
      len = c.loop-number.invariant.len ∙ end;
      each = λ k l.
          turned_marked (marks_of c.args.flags) c.args.group.now c.in_ok-ops.ops.items c.in_ok-ops.ensures g.R.Rank.LEN g.R.Rank.R (entry_at c.args.table.now k)
          (entry_at c.loop-number.marked.items k) g.R.Rank.power (c.requires.below k (subst (λ n. k < n) c.requires.len l)) (c.loop-number.invariant.each k (omega (arith, end, l)));
    }
