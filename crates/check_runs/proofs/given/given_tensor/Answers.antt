use Rattle.std.proofs.Common.{◌∙◌, ◌<◌, sym, ap, arith, length}
use Rattle.tensor_defs.specs.Number.{value_of}
use Rattle.check_runs.specs.Stops.{given_by_all}
use Rattle.check_runs.proofs.Tensors.{fits_here, given_all, given_next, given_start, length_given, once_all, twice_stop}
use Rattle.check_runs.proofs.given.given_tensor.Goals as goal

pub loop-place-init : goal.loop-place-init
loop-place-init g c =
    given_start (given_by_all c.args.settings.now) g.R.Rank.LEN c.LEN.result c.of-zero.result c.in-Ok.t.items
    (c.in-Ok.ensures.items_if_clones_equal (λ y h. h)) c.LEN.ensures
    (c.of-zero.ensures.parts ∙ (λ i. record { a = c.zero.ensures.parts i; b = c.zero-2.ensures.parts i }))
    (sym (c.zero.ensures.value.same ∙ ap value_of c.zero.ensures.parts))

pub returns-then-has_component-clause-stop : goal.returns-then-has_component-clause-stop
returns-then-has_component-clause-stop g c =
    twice_stop c.args.settings.now c.loop-place.place c.index-settings-place.result c.loop-place-test.true c.index-settings-place.is g.R.Rank.LEN
    c.loop-place.t.items c.refused.result c.refused.ensures c.loop-place.invariant c.if-has_component.ensures

pub index_mut-requires : goal.index_mut-requires
index_mut-requires g c =
    let fits : c.index-settings-place.result.component < length c.loop-place.t.items =
    fits_here c.args.settings.now c.loop-place.place c.index-settings-place.result c.loop-place-test.true c.index-settings-place.is g.R.Rank.LEN
    (length c.loop-place.t.items) c.requires c.loop-place.invariant.size in
    omega (arith, fits, c.loop-place.t.ok.0)

pub loop-place-preserved : goal.loop-place-preserved
loop-place-preserved g c =
    given_next c.args.settings.now c.loop-place.place c.index-settings-place.result c.loop-place-test.true c.index-settings-place.is g.R.Rank.LEN
    c.loop-place.t.items c.requires c.if-has_component.ensures c.loop-place.invariant

pub returns-clause-once : goal.returns-clause-once
returns-clause-once g c =
    once_all (given_by_all c.args.settings.now) g.R.Rank.LEN c.loop-place.place c.loop-place.t.items
    (omega (arith, length_given c.args.settings.now, c.loop-place-test.false, c.loop-place.auto.place-end)) c.loop-place.invariant

pub returns-clause-tensor : goal.returns-clause-tensor
returns-clause-tensor g c =
    given_all (given_by_all c.args.settings.now) g.R.Rank.LEN c.loop-place.place c.loop-place.t.items
    (omega (arith, length_given c.args.settings.now, c.loop-place-test.false, c.loop-place.auto.place-end)) c.loop-place.invariant
