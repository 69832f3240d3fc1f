use Rattle.std.proofs.Common.{arith}
use Rattle.coset_states.proofs.Reading.{seen_few, seen_states, seen_within}
use Rattle.coset_states.proofs.States.count.Goals as goal

pub returns-clause-states : goal.returns-clause-states
returns-clause-states c = seen_states c.self.inside.whole c.self.inside.sub c.self.inside.representatives.items c.self.inside.numbers c.args.self.now c.self.invariant c.self.view_is

pub returns-clause-within : goal.returns-clause-within
returns-clause-within c = seen_within c.self.inside.whole c.self.inside.sub c.self.inside.representatives.items c.self.inside.numbers c.args.self.now c.self.invariant c.self.view_is

pub returns-clause-few : goal.returns-clause-few
returns-clause-few c =
    let f = seen_few c.self.inside.whole c.self.inside.sub c.self.inside.representatives.items c.self.inside.numbers c.args.self.now c.len-size.result c.self.invariant c.self.view_is c.len-size.ensures.is c.len-size.ensures.few in
    omega (arith, f)
