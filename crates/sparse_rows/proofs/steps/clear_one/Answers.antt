use Rattle.std.proofs.Common.{◌∙◌, refl, ap, sym, subst}
use Rattle.tensor_defs.specs.Number.{value_of}
use Rattle.sparse_rows.specs.Prelude.{coeff, IsFound}
use Rattle.sparse_rows.proofs.RowSteps.{cleared-copy, cleared-less, difference-same}
use Rattle.sparse_rows.proofs.steps.clear_one.Goals as goal

pub returns-in_default-clause-cleared : goal.returns-in_default-clause-cleared
returns-in_default-clause-cleared c =
    let old = c.args.row.now in
    let new = c.args.new.now in
    cleared-copy new old _ refl refl c.requires.row
    ((λ i. coeff (sym c.deref.ensures.value i) new.pivot) ∙ subst (IsFound (coeff c.deref.result.now new.pivot)) c.in_default.is c.find.ensures)

pub returns-in_ok-subtract-clause-cleared : goal.returns-in_ok-subtract-clause-cleared
returns-in_ok-subtract-clause-cleared c =
    let old = c.args.row.now in
    let new = c.args.new.now in
    let f = value_of c.in-Some.factor in
    let n = subst (IsFound (coeff c.deref.result.now new.pivot)) c.in-Some.is c.find.ensures in
    cleared-less new old (record { pivot = old.pivot; entries = c.swap.new.x }) f refl (sym n.0.same ∙ (λ j. coeff (c.deref.ensures.value j) new.pivot))
    (difference-same _ _ _ _ _ c.swap.new.x.items f c.deref-in-Some.ensures.value c.deref-in-Some-2.ensures.value (ap (λ v. v.items) c.swap.ensures.x_after) c.in_ok-subtract.ensures.difference)
