use Rattle.list_laws.proofs.Kit.{◌≡◌, arith, sym, ◌∙◌, false≢true}
use Rattle.magnetic_groups.specs.Sets.{In}
use Rattle.species.proofs.ToldApart.{not_own}
use Rattle.species.proofs.StateMarks.{apart_more}
use Rattle.species.proofs.leaders.leader_of.Goals as goal

pub returns-then-not-are_apart : goal.returns-then-not-are_apart
returns-then-not-are_apart c = λ j told.
    let low = c.loop-l.auto.l in
    let high = c.loop-l-test.true in
    record {
      number = (low, omega (arith, high, c.requires.to_count));
      same = λ a. false≢true (sym c.if-not-are_apart.true ∙ (c.are_apart.ensures j told).1 a);
      least = c.loop-l.invariant j told;
    }

pub loop-l-preserved : goal.loop-l-preserved
loop-l-preserved c = λ j told.
    apart_more j (In c.args.states.now.sub) c.args.states.now.reps c.args.k c.loop-l.l (c.loop-l.invariant j told)
    ((c.are_apart.ensures j told).0 c.if-not-are_apart.false)

pub returns : goal.returns
returns c = λ j told.
    let low = c.requires.from_one in
    let is : c.loop-l.l ≡ c.args.k = omega arith in
    record {
      number = (c.requires.from_one, c.requires.to_count);
      same = not_own j (In c.args.states.now.sub) c.args.states.now.reps c.args.k;
      least = λ m one less. c.loop-l.invariant j told m one (omega (arith, less, is));
    }
