use Rattle.std.proofs.Common.{List, subst, sym}
use Rattle.tensor_defs.specs.Elimination.{AreRepresentatives}
use Rattle.magnetic_groups.specs.Sets.{In}
use Rattle.sign_moves.specs.declared.classes.Entry.{Entry}
use Rattle.sign_moves.specs.Firsts.{AreSettled}
use Rattle.sign_moves.proofs.FirstLaws.{firsts_tell}
use Rattle.tensor_rank.proofs.ExchangeLaws.{exchanges_reversible}
use Rattle.tensor_rank.specs.Prelude.{exchange_moves, before_at, before_of}
use Rattle.constraint_rows.specs.WordRows.{AreSound, carrier_of}
use Rattle.constraint_rows.proofs.RepresentativeLaws.{axis_made, axis_representatives, axis_settled, axis_sound}
use Rattle.constraint_rows.proofs.axis.axis_classes.Goals as goal

pub marked_table-requires : goal.marked_table-requires
marked_table-requires g c =
    subst (AreSettled g.R.Rank.LEN) (sym c.deref.ensures.value)
    (firsts_tell g.R.Rank.LEN (exchange_moves g.R.Rank.R c.args.shape.now.exchanges) (before_at g.R.Rank.R c.args.order.now) c.in_ok-table.table.items
    (exchanges_reversible g.R.Rank.LEN g.R.Rank.R c.args.shape.now.exchanges g.R.Rank.power c.firsts.ensures.within) c.in_ok-table.ensures.firsts).settled

pub of_table-requires : goal.of_table-requires
of_table-requires g c =
    axis_settled g.R.Rank.power (axis_made c.firsts.ensures.within c.in_ok-table.ensures.firsts
    c.flags.ensures c.deref.ensures.value c.in_ok-marked.ensures)

pub returns-clause-representatives : goal.returns-clause-representatives
returns-clause-representatives g c = λ j shape.
    subst (λ (es : List Entry). AreRepresentatives j (In c.args.group.now) (before_of c.args.order.now) (carrier_of g.R.Rank.R es)) (sym c.of_table.ensures)
    (axis_representatives g.R.Rank.power (axis_made c.firsts.ensures.within c.in_ok-table.ensures.firsts
    c.flags.ensures c.deref.ensures.value c.in_ok-marked.ensures) j shape)

pub returns-clause-sound : goal.returns-clause-sound
returns-clause-sound g c =
    subst (λ (es : List Entry). AreSound g.R.Rank.LEN (before_at g.R.Rank.R c.args.order.now) es) (sym c.of_table.ensures)
    (axis_sound g.R.Rank.power (axis_made c.firsts.ensures.within c.in_ok-table.ensures.firsts
    c.flags.ensures c.deref.ensures.value c.in_ok-marked.ensures))
