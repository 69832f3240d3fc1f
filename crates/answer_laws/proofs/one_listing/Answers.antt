use Rattle.answer_laws.proofs.Listings as law
use Rattle.answer_laws.proofs.one_listing.Goals as goal

pub returns : goal.returns
returns c = law.one_listing_lem
