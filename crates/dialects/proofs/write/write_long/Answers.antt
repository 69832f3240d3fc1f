use Rattle.std.proofs.Common.{◌≡◌, ◌∙◌, ℕ, false, ap, sym}
use Rattle.dialects.specs.LongTexts.{has_form}
use Rattle.dialects.proofs.Pieces.{short_appended}
use Rattle.dialects.proofs.write.write_long.Goals as goal

pub returns-in_default-clause-ok : goal.returns-in_default-clause-ok
returns-in_default-clause-ok c =
    let is : has_form c.args.tree.now.parent ≡ false =
    ap (λ (n : ℕ). has_form n) (sym (c.number.ensures.value ∙ c.parent.ensures)) ∙ c.in_default.ensures in
    short_appended c.write_group.result c.args.tree.now c.args.out.now.items c.write_group.new.out.items
    c.is_grey-grey.ensures.symbol c.requires is c.write_group.ensures.ok
