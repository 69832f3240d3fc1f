use Rattle.std.proofs.Common.{refl}
use Rattle.coset_states.proofs.Reading.{seen_has}
use Rattle.coset_states.proofs.States.has.Goals as goal

pub returns : goal.returns
returns c = λ r s. seen_has c.self.inside.whole c.self.inside.sub c.self.inside.representatives.items c.self.inside.numbers c.args.self.now c.args.k c.place.result _ c.args.op.now c.self.invariant c.self.view_is c.requires.from_one c.requires.to_count c.place.ensures.is c.place.ensures.at refl r s
