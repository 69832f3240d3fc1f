use Rattle.std.proofs.Common.{◌∙◌, ap}
use Rattle.tensor_defs.specs.Number.{add, value_of}
use Rattle.number_laws.proofs.NumberLaws.{num_add-zero, num_zero-add}
use Rattle.root3_num.proofs.root.sum_of.Goals as goal

pub returns-then-is_zero : goal.returns-then-is_zero
returns-then-is_zero c =
    let y = value_of c.args.b.now in
    record {
      same = ap (λ x. add x y) (c.is_zero.ensures.0 c.if-is_zero.true) ∙ num_zero-add y;
      held = c.in_lowest_terms-2.ensures.held;
    }

pub returns-then-is_zero-2 : goal.returns-then-is_zero-2
returns-then-is_zero-2 c =
    let x = value_of c.args.a.now in
    record {
      same = ap (add x) (c.is_zero-2.ensures.0 c.if-is_zero-2.true) ∙ num_add-zero x;
      held = c.in_lowest_terms.ensures.held;
    }
