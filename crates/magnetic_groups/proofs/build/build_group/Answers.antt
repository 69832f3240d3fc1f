use Rattle.std.proofs.Common.{sym, ◌∙◌, subst, inl}
use Rattle.magnetic_groups.specs.Sets.{HaveFrame}
use Rattle.magnetic_groups.proofs.SymbolFrames.{generators_framed, built, built_framed, built_refused, built_accepted}
use Rattle.magnetic_groups.proofs.build.build_group.Goals as goal
use Rattle.magnetic_groups.proofs.build.build_group.Goals.{else-not-grey-via-then-not-grey+else-has}
use Rattle.magnetic_groups.proofs.build.build_group.Goals.{else-not-grey-via-else-not-grey}

pub close-requires : goal.close-requires
close-requires c =
    subst HaveFrame (sym c.generators_of.ensures)
    (generators_framed c.args.tree.now c.is_grey-grey.ensures.symbol)

pub returns-then-has-clause-primes : goal.returns-then-has-clause-primes
returns-then-has-clause-primes c = λ e.
    built_refused c.args.tree.now c.in_ok-group.group c.reversal.result c.is_grey-grey.result c.has.result
    (built c.args.tree.now c.generators_of.result c.in_ok-group.group
    c.generators_of.ensures c.in_ok-group.ensures)
    c.reversal.ensures c.is_grey-grey.ensures.value c.has.ensures c.if-not-grey.true c.if-has.true

pub returns-clause-group : goal.returns-clause-group
returns-clause-group c =
    built c.args.tree.now c.generators_of.result c.in_ok-group.group
    c.generators_of.ensures c.in_ok-group.ensures

pub returns-clause-framed : goal.returns-clause-framed
returns-clause-framed c =
    built_framed c.args.tree.now c.in_ok-group.group c.is_grey-grey.ensures.symbol
    (built c.args.tree.now c.generators_of.result c.in_ok-group.group
    c.generators_of.ensures c.in_ok-group.ensures)

pub returns-clause-accepted : goal.returns-clause-accepted
returns-clause-accepted c = elim c.else-not-grey.branch [
  | else-not-grey-via-then-not-grey+else-has w ↦
      built_accepted c.args.tree.now c.in_ok-group.group w.reversal.result w.has.result
      (built c.args.tree.now c.generators_of.result c.in_ok-group.group
      c.generators_of.ensures c.in_ok-group.ensures)
      w.reversal.ensures w.has.ensures w.if-has.false
  | else-not-grey-via-else-not-grey w ↦ inl (sym c.is_grey-grey.ensures.value ∙ w.if-not-grey.false)
]
