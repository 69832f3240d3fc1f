use Rattle.std.proofs.Common.{◌≤◌, arith, sym, ◌∙◌}
use Rattle.tensor_defs.specs.Jahn.{factors_rank}
use Rattle.jahn_grammar.specs.Trees.{factors_of}
use Rattle.tensor_rank.proofs.SymmetryLaws.{whole_within}
use Rattle.tensor_rank.proofs.symbols.compile.Goals as goal

pub new-requires : goal.new-requires
new-requires c = whole_within (factors_of c.args.jahn.now.body) _ 0 c.in_ok-push_body.ensures (sym c.rank.ensures.count ∙ c.in-0.is)

pub new-requires-in-1 : goal.new-requires-in-1
new-requires-in-1 c = whole_within (factors_of c.args.jahn.now.body) _ 1 c.in_ok-push_body.ensures (sym c.rank.ensures.count ∙ c.in-1.is)

pub new-requires-in-2 : goal.new-requires-in-2
new-requires-in-2 c = whole_within (factors_of c.args.jahn.now.body) _ 2 c.in_ok-push_body.ensures (sym c.rank.ensures.count ∙ c.in-2.is)

pub new-requires-in-3 : goal.new-requires-in-3
new-requires-in-3 c = whole_within (factors_of c.args.jahn.now.body) _ 3 c.in_ok-push_body.ensures (sym c.rank.ensures.count ∙ c.in-3.is)

pub new-requires-in-4 : goal.new-requires-in-4
new-requires-in-4 c = whole_within (factors_of c.args.jahn.now.body) _ 4 c.in_ok-push_body.ensures (sym c.rank.ensures.count ∙ c.in-4.is)

pub new-requires-in-5 : goal.new-requires-in-5
new-requires-in-5 c = whole_within (factors_of c.args.jahn.now.body) _ 5 c.in_ok-push_body.ensures (sym c.rank.ensures.count ∙ c.in-5.is)

pub new-requires-in_default : goal.new-requires-in_default
new-requires-in_default c =
    let small : factors_rank (factors_of c.args.jahn.now.body) ≤ 6 = c.requires in
    whole_within (factors_of c.args.jahn.now.body) _ 6 c.in_ok-push_body.ensures (omega (arith, small, c.rank.ensures.count, c.in_default))
