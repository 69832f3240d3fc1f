use Rattle.std.proofs.Common.{◌≡◌, ◌+◌, ◌++◌, drop}
use Rattle.tensor_defs.specs.Jahn.{factors_rank}
use Rattle.jahn_grammar.specs.Trees.{factors_of}
use Rattle.tensor_rank.specs.Symmetry.{body_exchanges}
use Rattle.tensor_rank.proofs.brackets.push_body.Given as goal

abbrev pub invariant-loop-place : goal.invariant-loop-place
invariant-loop-place l = record {
  rank : l.start + factors_rank (factors_of (drop l.place l.body)) ≡ factors_rank (factors_of l.body);
  exchanges : l.out.items ++ body_exchanges (factors_of (drop l.place l.body)) l.start ≡ body_exchanges (factors_of l.body) 0;
}
