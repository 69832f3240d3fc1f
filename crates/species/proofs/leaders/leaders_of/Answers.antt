use Rattle.list_laws.proofs.Kit.{◌+◌, length, arith, ap, ◌∙◌, length_push}
use Rattle.magnetic_groups.specs.Sets.{In}
use Rattle.species.proofs.StateMarks.{leaders_done, leaders_more}
use Rattle.species.proofs.leaders.leaders_of.Goals as goal

pub loop-place-preserved : goal.loop-place-preserved
loop-place-preserved c = record {
  len = ap length c.in_ok-push.ensures.items ∙ length_push c.loop-place.numbers.items c.leader_of.result ∙ ap (λ n. n + 1) c.loop-place.invariant.len;
  each = λ j told. leaders_more j (In c.args.states.now.sub) c.args.states.now.reps c.loop-place.place c.loop-place.numbers.items
      c.push.new.self.items c.leader_of.result c.loop-place.invariant.len (c.loop-place.invariant.each j told)
      c.in_ok-push.ensures.items (c.leader_of.ensures j told);
}

pub returns : goal.returns
returns c = λ j told.
    leaders_done j (In c.args.states.now.sub) c.args.states.now.reps c.loop-place.place c.loop-place.numbers.items
    c.loop-place.invariant.len (let is = c.count-place-end.ensures.is in omega (arith, is)) (c.loop-place.invariant.each j told)
