use Rattle.std.proofs.Common.{◌∙◌}
use Rattle.group_names.proofs.Names.{test_told, unlike_told}
use Rattle.group_names.proofs.is_named.Goals as goal

pub returns-then-is_grey-has : goal.returns-then-is_grey-has
returns-then-is_grey-has c =
    unlike_told c.args.group.now c.args.tree.now c.is_grey.result c.has.result c.reversal.result c.is_grey.ensures.symbol c.is_grey.ensures.value
    c.has.ensures c.reversal.ensures c.if-is_grey-has.true

pub returns : goal.returns
returns c =
    test_told c.args.group.now c.as_slice.result.now c.args.tree.now c.is_grey.result c.has.result c.holds_all.result c.reversal.result
    c.len-size.ensures.group c.is_grey.ensures.symbol c.requires c.is_grey.ensures.value c.has.ensures c.reversal.ensures c.if-is_grey-has.false
    (c.as_slice.ensures.value ∙ c.generators_of-operations.ensures) c.holds_all.ensures
