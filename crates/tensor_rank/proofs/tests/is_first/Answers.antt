use Rattle.tensor_rank.proofs.ExchangeLaws.{exchanges_reversible}
use Rattle.tensor_rank.proofs.tests.is_first.Goals as goal

pub first_table-requires-clause-reversible : goal.first_table-requires-clause-reversible
first_table-requires-clause-reversible g c = exchanges_reversible _ _ _ g.R.Rank.power c.in-Ok.tabled.moves.now.within
