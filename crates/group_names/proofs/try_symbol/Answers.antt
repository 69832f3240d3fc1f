use Rattle.std.proofs.Common.{refl, sym, subst}
use Rattle.tensor_defs.specs.Prelude.{InGroup, GroupSymbol}
use Rattle.magnetic_groups.specs.Sets.{In}
use Rattle.group_symbol.specs.Readings.{symbol_of}
use Rattle.group_names.specs.LookUps.{SameForms}
use Rattle.group_names.proofs.Names.{one_named, none_named}
use Rattle.group_names.proofs.try_symbol.Goals as goal

pub is_named-requires : goal.is_named-requires
is_named-requires c =
    let t : GroupSymbol = symbol_of c.args.parent c.args.primes c.args.grey c.args.setting in
    let P : GroupSymbol → Type 0 = λ u. SameForms (InGroup u) (In c.args.group.now) in
    subst P (sym c.in-Some.ensures.1) (c.requires.forms t c.requires.symbol refl refl)

pub returns-then-is_named : goal.returns-then-is_named
returns-then-is_named c = one_named (In c.args.group.now) (symbol_of c.args.parent c.args.primes c.args.grey c.args.setting) c.in-Some.tree c.is_named.result c.in-Some.ensures.1 c.is_named.ensures c.if-is_named.true

pub returns-else-is_named : goal.returns-else-is_named
returns-else-is_named c = none_named (In c.args.group.now) (symbol_of c.args.parent c.args.primes c.args.grey c.args.setting) c.in-Some.tree c.is_named.result c.in-Some.ensures.1 c.is_named.ensures c.if-is_named.false
