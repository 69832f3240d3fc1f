use Rattle.std.proofs.Common.{inl, inr}
use Rattle.group_symbol.proofs.WrittenTexts.{written_spells}
use Rattle.dialects.proofs.laws.written_names_symbol.Goals as goal

pub returns : goal.returns
returns c = λ t symbol accepted. (inl (written_spells t symbol), λ text h. inr (inl h))
