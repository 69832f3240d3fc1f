use Rattle.std.proofs.Common.{◌^◌, ◌∙◌, length, ap, sym}
use Rattle.tensor_defs.specs.Prelude.{mul}
use Rattle.tensor_action.specs.Factors.{entry_number, product_number}
use Rattle.tensor_action.proofs.FactorLaws.{zero_number}
use Rattle.tensor_action.proofs.Reach.{passed, taken}
use Rattle.tensor_action.proofs.parts.append_taken.Goals as goal

pub returns-then-is_taken-clause-extends : goal.returns-then-is_taken-clause-extends
returns-then-is_taken-clause-extends c = λ g i e is part below.
    let p = c.args.part.now in
    taken g i is p c.args.col c.with_entry.result c.args.out.now.items c.push_reserved.new.self.items below c.requires.col part
    (c.with_entry.ensures.value ∙ ap (mul (product_number p.product)) e) (c.with_entry.ensures.within (3 ^ length is) part.within)
    c.push_reserved.ensures.items

pub returns-else-is_taken-clause-extends : goal.returns-else-is_taken-clause-extends
returns-else-is_taken-clause-extends c = λ g i e is part below.
    passed g i is c.args.part.now.number c.args.col c.args.out.now.items below c.requires.col
    (sym e ∙ ap entry_number (c.is_taken.ensures c.if-is_taken.false) ∙ zero_number)
