use Rattle.list_laws.proofs.Kit.{◌≡◌, ◌++◌, drop, arith, ap, sym, ◌∙◌, drop_of_length-le}
use Rattle.jahn_grammar.specs.Trees.{factors_of}
use Rattle.tensor_rank.proofs.SymmetryLaws.{body_same, append_none}
use Rattle.tensor_rank.specs.Symmetry.{body_exchanges}
use Rattle.tensor_rank.proofs.brackets.push_body.Goals as goal

pub returns : goal.returns
returns c =
    let done : drop c.loop-place.place c.args.body.now ≡ _ = drop_of_length-le c.args.body.now (omega (arith, c.loop-place-test.false, c.len-place-end.ensures.count)) in
    sym (append_none c.loop-place.out.items)
    ∙ ap (λ fs. c.loop-place.out.items ++ body_exchanges (factors_of fs) c.loop-place.start) (sym done)
    ∙ c.loop-place.invariant.exchanges ∙ body_same (factors_of c.args.body.now) 0
