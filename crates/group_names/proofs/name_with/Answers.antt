use Rattle.std.proofs.Common.{true, false, [], ◌∷◌}
use Rattle.std.specs.Prelude.{Some, None}
use Rattle.magnetic_groups.specs.Sets.{In}
use Rattle.group_symbol.specs.Readings.{symbol_of}
use Rattle.group_names.proofs.FirstNamed.{told_at, plain_named, grey_named, primed_named}
use Rattle.group_names.proofs.name_with.Goals as goal

pub returns-in-Some : goal.returns-in-Some
returns-in-Some c = plain_named (In c.args.group.now) c.args.parent c.args.setting c.in-Some.tree (told_at (In c.args.group.now) (symbol_of c.args.parent 0 false c.args.setting ∷ []) c.try_symbol.result (Some c.in-Some.tree) c.in-Some.is c.try_symbol.ensures)

pub returns-in-Some-try_symbol : goal.returns-in-Some-try_symbol
returns-in-Some-try_symbol c = grey_named (In c.args.group.now) c.args.parent c.args.setting c.in-Some-try_symbol.tree
    (told_at (In c.args.group.now) (symbol_of c.args.parent 0 false c.args.setting ∷ []) c.try_symbol.result None c.in_default.is c.try_symbol.ensures)
    (told_at (In c.args.group.now) (symbol_of c.args.parent 0 true c.args.setting ∷ []) c.try_symbol-2.result (Some c.in-Some-try_symbol.tree) c.in-Some-try_symbol.is c.try_symbol-2.ensures)

pub returns : goal.returns
returns c = primed_named (In c.args.group.now) c.args.parent c.args.setting c.name_primed.result
    (told_at (In c.args.group.now) (symbol_of c.args.parent 0 false c.args.setting ∷ []) c.try_symbol.result None c.in_default.is c.try_symbol.ensures)
    (told_at (In c.args.group.now) (symbol_of c.args.parent 0 true c.args.setting ∷ []) c.try_symbol-2.result None c.in_default-try_symbol.is c.try_symbol-2.ensures)
    c.name_primed.ensures
