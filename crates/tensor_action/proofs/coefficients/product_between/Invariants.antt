use Rattle.std.proofs.Common.{◌≡◌, ◌^◌, take}
use Rattle.tensor_defs.specs.Prelude.{coefficient, index_of}
use Rattle.tensor_action.specs.Factors.{IsWithin, product_number}
use Rattle.tensor_action.proofs.coefficients.product_between.Given as goal

abbrev pub invariant-loop-place : goal.invariant-loop-place
invariant-loop-place g l =
    record {
      within : IsWithin (3 ^ l.place) l.product;
      value : product_number l.product ≡ coefficient l.op (take l.place (index_of g.R.Rank.R l.to)) (take l.place (index_of g.R.Rank.R l.from));
    }
