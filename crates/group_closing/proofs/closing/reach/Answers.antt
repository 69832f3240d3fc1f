use Rattle.list_laws.proofs.Kit.{sym, ◌∙◌, get_or_default}
use Rattle.group_closing.proofs.Reaching.{reaching_more, spanned_framed, reached_spanned, reached_more}
use Rattle.group_closing.proofs.closing.reach.Goals as goal

pub product-requires : goal.product-requires
product-requires c =
    let inv = c.loop-generator.invariant in
    spanned_framed c.args.generators.now c.generator-item.result c.args.element.now c.requires.frame
    (c.loop-generator.generator-index, c.loop-generator-test.true, sym c.generator-item.is)
    (reached_spanned c.args.generators.now c.loop-generator.found c.loop-generator.marks c.args.element.now
    inv.closing (reached_more c.args.marks.now c.loop-generator.marks c.args.element.now inv.grows.marks
    c.requires.reached))

pub loop-generator-preserved : goal.loop-generator-preserved
loop-generator-preserved c = reaching_more c.args.generators.now c.args.element.now c.loop-generator.generator-index
    c.args.marks.now c.loop-generator.marks c.add.new.marks c.args.found.now c.loop-generator.found
    c.add.new.found c.generator-item.result c.product.result c.loop-generator.invariant c.loop-generator-test.true
    (λ d. get_or_default c.args.generators.now c.loop-generator.generator-index d c.generator-item.result
    c.loop-generator-test.true ∙ sym c.generator-item.is) c.requires.reached c.product.ensures.is c.add.ensures
