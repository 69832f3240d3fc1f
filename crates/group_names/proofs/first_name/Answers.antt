use Rattle.std.proofs.Common.{arith}
use Rattle.std.specs.Prelude.{Some, None}
use Rattle.magnetic_groups.specs.Sets.{In}
use Rattle.group_names.specs.declared.oriented.TheConstants.{ORIENTED}
use Rattle.group_names.specs.LookUps.{oriented, row_of}
use Rattle.group_names.proofs.FirstNamed.{told_at, piece_some, piece_none, pieces_all, row_is, all_named}
use Rattle.group_names.proofs.first_name.Goals as goal

pub returns-in-Some : goal.returns-in-Some
returns-in-Some c =
    all_named (In c.args.group.now) (Some c.in-Some.tree)
    (piece_some (In c.args.group.now) oriented ORIENTED c.loop-place.place (row_of c.loop-place.place) c.in-Some.tree (omega arith) (row_is c.loop-place.place (omega arith)) c.loop-place.invariant
    (told_at (In c.args.group.now) (oriented (row_of c.loop-place.place)) c.name_oriented.result (Some c.in-Some.tree) c.in-Some.is c.name_oriented.ensures))

pub loop-place-preserved : goal.loop-place-preserved
loop-place-preserved c =
    piece_none (In c.args.group.now) oriented ORIENTED c.loop-place.place (row_of c.loop-place.place) (omega arith) (row_is c.loop-place.place (omega arith)) c.loop-place.invariant
    (told_at (In c.args.group.now) (oriented (row_of c.loop-place.place)) c.name_oriented.result None c.in_default.is c.name_oriented.ensures)

pub returns : goal.returns
returns c = all_named (In c.args.group.now) None (pieces_all (In c.args.group.now) oriented ORIENTED c.loop-place.place (omega arith) c.loop-place.invariant)
