use Rattle.std.proofs.Common.{◌≡◌, length, sym, subst, arith}
use Rattle.tensor_defs.specs.Operation.{identity}
use Rattle.tensor_rank.specs.Flags.{marks_of}
use Rattle.tensor_action.specs.Acting.{tensor_of}
use Rattle.given_tensors.specs.Carried.{AreCarried, even_marks}
use Rattle.given_tensors.proofs.Kept.{fits, kept_calm, kept_listing, kept_start, kept_step}
use Rattle.given_tensors.proofs.stabilisers.elements_left.Goals as goal

pub loop-place-init : goal.loop-place-init
loop-place-init g c = (
  kept_start (marks_of c.args.flags) g.R.Rank.R (tensor_of c.args.t.now) c.args.all.now c.len-place-end.ensures.group c.in-Ok.group
      c.in-Ok.ensures,
  subst (AreCarried (even_marks g.R.Rank.R) g.R.Rank.R g.R.Rank.LEN c.args.t.now) (sym c.new-carried.ensures.items) tt,
)

pub with_left-requires-clause-frame : goal.with_left-requires-clause-frame
with_left-requires-clause-frame g c =
    fits (marks_of c.args.flags) g.R.Rank.R (tensor_of c.args.t.now) c.args.all.now c.len-place-end.ensures.group c.loop-place.kept
    c.loop-place.place c.loop-place.invariant.0 c.at.result c.at.ensures.element

pub loop-place-preserved : goal.loop-place-preserved
loop-place-preserved g c = (
  kept_step (marks_of c.args.flags) g.R.Rank.R (tensor_of c.args.t.now) c.args.all.now c.loop-place.kept c.len-place-end.ensures.group
      c.loop-place.place c.loop-place.invariant.0 c.in-Ok-with_left.group c.at.result (c.at.ensures.reads identity) c.at.ensures.element
      c.in-Ok-with_left.ensures.calm c.in-Ok-with_left.ensures.step,
  c.in-Ok-with_left.ensures.carried,
)

pub returns-clause-group : goal.returns-clause-group
returns-clause-group g c =
    let whole : length c.args.all.now ≡ c.loop-place.place = omega (arith, c.loop-place-test.false, c.len-place-end.ensures.is, c.loop-place.auto.place-end) in
    kept_listing (marks_of c.args.flags) g.R.Rank.R (tensor_of c.args.t.now) c.args.all.now c.len-place-end.ensures.group c.loop-place.kept
    c.loop-place.place c.loop-place.invariant.0 whole c.len-size.ensures.group

pub returns-clause-calm : goal.returns-clause-calm
returns-clause-calm g c =
    let whole : length c.args.all.now ≡ c.loop-place.place = omega (arith, c.loop-place-test.false, c.len-place-end.ensures.is, c.loop-place.auto.place-end) in
    kept_calm (marks_of c.args.flags) g.R.Rank.R (tensor_of c.args.t.now) c.args.all.now c.len-place-end.ensures.group c.loop-place.kept
    c.loop-place.place c.loop-place.invariant.0 whole
