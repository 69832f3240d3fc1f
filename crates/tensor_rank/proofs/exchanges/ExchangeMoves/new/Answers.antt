use Rattle.tensor_rank.proofs.ExchangeLaws.{exchanges_reversible}
use Rattle.tensor_rank.proofs.exchanges.ExchangeMoves.new.Goals as goal

pub returns-clause-reversible : goal.returns-clause-reversible
returns-clause-reversible g c = exchanges_reversible _ _ _ g.R.Rank.power c.requires
