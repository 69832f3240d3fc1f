use Rattle.std.proofs.Common.{false, [], ◌∷◌, ◌+◌, ◌-◌, ◌^◌, arith}
use Rattle.std.specs.Prelude.{Some, None}
use Rattle.tensor_defs.specs.Prelude.{up_to, operator_count}
use Rattle.magnetic_groups.specs.Sets.{In}
use Rattle.group_symbol.specs.Readings.{symbol_of}
use Rattle.group_names.specs.LookUps.{pattern}
use Rattle.group_names.proofs.FirstNamed.{told_at, piece_none, piece_some, pieces_all, primed_piece, below_count, past_count, at_number}
use Rattle.group_names.proofs.name_primed.Goals as goal

pub returns-in-Some : goal.returns-in-Some
returns-in-Some c =
    let h = below_count c.loop-place.place c.patterns-place-end.result c.operators-operators.result c.args.parent (omega arith) c.patterns-place-end.ensures.is c.operators-operators.ensures.count in
    piece_some (In c.args.group.now) (pattern c.args.parent c.args.setting) (up_to (2 ^ operator_count c.args.parent - 1)) c.loop-place.place (c.loop-place.place + 1) c.in-Some.tree h (at_number (2 ^ operator_count c.args.parent - 1) c.loop-place.place h) c.loop-place.invariant
    (primed_piece (In c.args.group.now) c.args.parent c.turned_bits-primes.result c.operators-operators.result (c.loop-place.place + 1) c.args.setting (Some c.in-Some.tree) c.turned_bits-primes.ensures.is c.operators-operators.ensures.count (told_at (In c.args.group.now) (symbol_of c.args.parent c.turned_bits-primes.result false c.args.setting ∷ []) c.try_symbol.result (Some c.in-Some.tree) c.in-Some.is c.try_symbol.ensures))

pub loop-place-preserved : goal.loop-place-preserved
loop-place-preserved c =
    let h = below_count c.loop-place.place c.patterns-place-end.result c.operators-operators.result c.args.parent (omega arith) c.patterns-place-end.ensures.is c.operators-operators.ensures.count in
    piece_none (In c.args.group.now) (pattern c.args.parent c.args.setting) (up_to (2 ^ operator_count c.args.parent - 1)) c.loop-place.place (c.loop-place.place + 1) h (at_number (2 ^ operator_count c.args.parent - 1) c.loop-place.place h) c.loop-place.invariant
    (primed_piece (In c.args.group.now) c.args.parent c.turned_bits-primes.result c.operators-operators.result (c.loop-place.place + 1) c.args.setting None c.turned_bits-primes.ensures.is c.operators-operators.ensures.count (told_at (In c.args.group.now) (symbol_of c.args.parent c.turned_bits-primes.result false c.args.setting ∷ []) c.try_symbol.result None c.in_default.is c.try_symbol.ensures))

pub returns : goal.returns
returns c = pieces_all (In c.args.group.now) (pattern c.args.parent c.args.setting) (up_to (2 ^ operator_count c.args.parent - 1)) c.loop-place.place (past_count c.loop-place.place c.patterns-place-end.result c.operators-operators.result c.args.parent (omega arith) c.patterns-place-end.ensures.is c.operators-operators.ensures.count) c.loop-place.invariant
