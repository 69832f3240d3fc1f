use Rattle.std.proofs.Common.{refl, inl, inr}
use Rattle.dialects.proofs.FirstNames.{first_named}
use Rattle.dialects.proofs.laws.name_names_first.Goals as goal

pub returns : goal.returns
returns c = λ n first last. let f = first_named n first last in (f.0, f.1, inr (inr (inl (f.0, f.1, refl))))
