use Rattle.std.proofs.Common.{◌≡◌, ◌∙◌, ap}
use Rattle.tensor_defs.specs.Number.{mul, num_zero, value_of}
use Rattle.number_laws.proofs.NumberLaws.{num_mul-zero, num_zero-mul}
use Rattle.root3_num.proofs.root.product_of.Goals as goal
use Rattle.root3_num.proofs.root.product_of.Goals.{then-is_zero-via-then-is_zero, then-is_zero-via-else-is_zero+then-is_zero-2}

pub returns-then-is_zero : goal.returns-then-is_zero
returns-then-is_zero c =
    let x = value_of c.args.a.now in
    let y = value_of c.args.b.now in
    let none : mul x y ≡ num_zero = elim c.then-is_zero.branch [
      | then-is_zero-via-then-is_zero w ↦ ap (λ n. mul n y) (c.is_zero.ensures.0 w.if-is_zero.true) ∙ num_zero-mul y
      | then-is_zero-via-else-is_zero+then-is_zero-2 w ↦
          ap (mul x) (w.is_zero-else-is_zero.ensures.0 w.if-is_zero-2.true) ∙ num_mul-zero x
    ] in
    record { same = none ∙ c.zero.ensures.value.same; held = c.zero.ensures.value.held }
