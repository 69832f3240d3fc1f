use Rattle.std.proofs.Common.{◌∙◌, ◌<◌, ◌≤◌, length, sym, subst, arith}
use Rattle.tensor_defs.specs.Operation.{identity}
use Rattle.tensor_rank.specs.Flags.{marks_of}
use Rattle.tensor_action.specs.Acting.{tensor_of}
use Rattle.given_tensors.specs.Carried.{AreCarried, even_marks}
use Rattle.given_tensors.proofs.Judged.{all_calm, checked_grows, checked_more, checked_none, invariant_end, not_broken, refuted_calm, refuted_not}
use Rattle.given_tensors.proofs.verdict.check.Goals as goal

pub returns-in-Some-clause-exact : goal.returns-in-Some-clause-exact
returns-in-Some-clause-exact g c = λ j is inv.
    absurd (not_broken j g.R.Rank.R g.R.Rank.LEN (tensor_of c.args.t.now) c.in-Some.c (rw c.in-Some.is at (c.in_ok-broken.ensures.found j is)) inv.symmetric)

pub returns-in-Some-clause-calm : goal.returns-in-Some-clause-calm
returns-in-Some-clause-calm g c = λ j is x.
    not_broken j g.R.Rank.R g.R.Rank.LEN (tensor_of c.args.t.now) c.in-Some.c (rw c.in-Some.is at (c.in_ok-broken.ensures.found j is)) x.symmetric

pub returns-in-Ok-Some-clause-exact : goal.returns-in-Ok-Some-clause-exact
returns-in-Ok-Some-clause-exact g c = λ j is inv.
    absurd (refuted_not (marks_of c.flags-flags.result) g.R.Rank.R (tensor_of c.args.t.now) c.args.group.now c.loop-place.place c.loop-place.invariant.0 j (c.flags-flags.ensures ∙ is.marks_are) is.rank_is
    c.at.result c.at.ensures.element g.R.Rank.LEN c.in-Ok-Some.c (rw c.in-Ok-Some.field-0-is at c.in-Ok-Some.ensures.ok) inv)

pub returns-in-Ok-Some-clause-calm : goal.returns-in-Ok-Some-clause-calm
returns-in-Ok-Some-clause-calm g c = λ j is x.
    refuted_calm (marks_of c.flags-flags.result) g.R.Rank.R (tensor_of c.args.t.now) c.args.group.now c.loop-place.place c.loop-place.invariant.0 j (c.flags-flags.ensures ∙ is.marks_are)
    c.at.result (c.at.ensures.reads identity) g.R.Rank.LEN c.in-Ok-Some.c (rw c.in-Ok-Some.field-0-is at c.in-Ok-Some.ensures.ok)
    c.in-Ok-Some.ensures.calm x

pub returns-in-Err-clause-grows : goal.returns-in-Err-clause-grows
returns-in-Err-clause-grows g c = λ large j is.
    let below : c.loop-place.place < length c.args.group.now = omega (arith, c.loop-place-test.true, c.len-place-end.ensures.is) in
    checked_grows (marks_of c.flags-flags.result) g.R.Rank.R (tensor_of c.args.t.now) c.args.group.now c.loop-place.place c.loop-place.invariant.0 j (c.flags-flags.ensures ∙ is.marks_are)
    (rw c.in_default.is at (c.in_ok-broken.ensures.found j is)) below c.at.result (c.at.ensures.reads identity) (c.in-Err.ensures.grows large)

pub loop-place-init : goal.loop-place-init
loop-place-init g c = (
  checked_none (marks_of c.flags-flags.result) g.R.Rank.R (tensor_of c.args.t.now) c.args.group.now,
  subst (AreCarried (even_marks g.R.Rank.R) g.R.Rank.R g.R.Rank.LEN c.args.t.now) (sym c.new-carried.ensures.items) tt,
)

pub loop-place-preserved : goal.loop-place-preserved
loop-place-preserved g c = (
  checked_more (marks_of c.flags-flags.result) g.R.Rank.R (tensor_of c.args.t.now) c.args.group.now c.loop-place.place c.loop-place.invariant.0
      c.at.result (c.at.ensures.reads identity) (rw c.in-Ok-None.field-0-is at c.in-Ok-None.ensures.ok) c.in-Ok-None.ensures.calm,
  c.in-Ok-None.ensures.carried,
)

pub returns-clause-verdict : goal.returns-clause-verdict
returns-clause-verdict g c = λ j is.
    let whole : length c.args.group.now ≤ c.loop-place.place = omega (arith, c.loop-place-test.false, c.len-place-end.ensures.is) in
    invariant_end (marks_of c.flags-flags.result) g.R.Rank.R (tensor_of c.args.t.now) c.args.group.now c.loop-place.place c.loop-place.invariant.0 j (c.flags-flags.ensures ∙ is.marks_are) whole (rw c.in_default.is at (c.in_ok-broken.ensures.found j is)) is.rank_is

pub returns-clause-calm : goal.returns-clause-calm
returns-clause-calm g c = λ j is x.
    let whole : length c.args.group.now ≤ c.loop-place.place = omega (arith, c.loop-place-test.false, c.len-place-end.ensures.is) in
    all_calm (marks_of c.flags-flags.result) g.R.Rank.R (tensor_of c.args.t.now) c.args.group.now c.loop-place.place c.loop-place.invariant.0 j (c.flags-flags.ensures ∙ is.marks_are) whole x
