use Rattle.tensor_defs.specs.Tensor.{index_of}
use Rattle.tensor_laws.proofs.ActionLaws.{acts_in_turn}
use Rattle.tensor_action.proofs.CarryLaws.{lists_in_turn}
use Rattle.tensor_action.proofs.turns.products_act_in_turn.Goals as goal

pub returns-clause-components : goal.returns-clause-components
returns-clause-components g c = λ m a b k p t n h. acts_in_turn m a b k p t (index_of g.R.Rank.R n)

pub returns-clause-lists : goal.returns-clause-lists
returns-clause-lists g c = lists_in_turn g.R.Rank.R g.R.Rank.LEN g.R.Rank.power
