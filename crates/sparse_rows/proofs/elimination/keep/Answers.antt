use Rattle.sparse_rows.specs.Prelude.{coeff, kepts}
use Rattle.sparse_rows.proofs.RowSteps.{kept-made}
use Rattle.sparse_rows.proofs.elimination.keep.Goals as goal

pub returns-clause-kept : goal.returns-clause-kept
returns-clause-kept c = kept-made (kepts c.args.kept.items) (coeff c.args.left.now) c.in_ok-new.new c.clear_all.new.kept.items c.put_row.new.out.items c.in_ok-new.ensures.scaled c.in_ok-clear_all.ensures.cleared c.in_ok-put_row.ensures.put
