use Rattle.std.proofs.Common.{refl, ap}
use Rattle.std.specs.Prelude.{Some}
use Rattle.coset_states.proofs.Reading.{seen_none, seen_number, seen_some, seen_zero}
use Rattle.coset_states.proofs.States.state_of.Goals as goal

pub returns-clause-state : goal.returns-clause-state
returns-clause-state c = seen_some c.self.inside.whole c.self.inside.sub c.self.inside.representatives.items c.self.inside.numbers c.args.self.now c.place.result _ c.args.op.now c.self.invariant c.self.view_is c.place.ensures.is c.place.ensures.at refl c.if-number-eq0.false

pub returns-clause-only : goal.returns-clause-only
returns-clause-only c = λ k r is t. ap Some (seen_number c.self.inside.whole c.self.inside.sub c.self.inside.representatives.items c.self.inside.numbers c.args.self.now k c.place.result c.args.op.now r c.self.invariant c.self.view_is c.place.ensures.is c.place.ensures.at is t)

pub returns-then-number-eq0-clause-state : goal.returns-then-number-eq0-clause-state
returns-then-number-eq0-clause-state c = seen_none c.self.inside.whole c.self.inside.sub c.self.inside.representatives.items c.self.inside.numbers c.args.self.now c.place.result c.args.op.now c.self.invariant c.self.view_is c.place.ensures.is c.if-number-eq0.true

pub returns-then-number-eq0-clause-only : goal.returns-then-number-eq0-clause-only
returns-then-number-eq0-clause-only c = λ k r is t. seen_zero c.self.inside.whole c.self.inside.sub c.self.inside.representatives.items c.self.inside.numbers c.args.self.now k c.place.result c.args.op.now r c.self.invariant c.self.view_is c.place.ensures.is c.place.ensures.at c.if-number-eq0.true is t
