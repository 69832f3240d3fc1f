use Rattle.std.proofs.Common.{◌<◌, [], refl}
use Rattle.dialects.specs.LongTexts.{form_at}
use Rattle.dialects.proofs.TableRows.{row_form}
use Rattle.dialects.proofs.forms.form_at.Goals as goal

pub returns : goal.returns
unfolding form_at
returns c =
    let listed : c.args.place < 8 = c.requires in
    rw (row_form _ _ _ (record { parent = 0; pieces = []; ending = [] }) listed) refl
