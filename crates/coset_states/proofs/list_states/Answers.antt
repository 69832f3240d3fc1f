use Rattle.coset_states.proofs.Listing.{kept_states}
use Rattle.coset_states.proofs.list_states.Goals as goal

pub returns-clause-states : goal.returns-clause-states
returns-clause-states c = kept_states c.args.g c.args.f c.in_ok-representatives.representatives.items c.number_all.new.numbers c.in_ok-representatives.ensures
