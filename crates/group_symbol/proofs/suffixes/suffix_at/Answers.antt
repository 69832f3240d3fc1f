use Rattle.std.proofs.Common.{◌<◌, refl}
use Rattle.text_defs.specs.GroupTexts.{suffix_at}
use Rattle.group_symbol.proofs.TableRows.{row_suffix}
use Rattle.group_symbol.proofs.suffixes.suffix_at.Goals as goal

pub returns : goal.returns
unfolding suffix_at
returns c =
    let listed : c.args.row < 7 = c.requires in
    rw row_suffix refl
