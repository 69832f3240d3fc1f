use Rattle.std.proofs.Common.{◌<◌, ◌-◌, refl, arith}
use Rattle.list_laws.proofs.Lists.{text_at}
use Rattle.dialects.specs.ClassNames.{class_name}
use Rattle.dialects.proofs.class_names.class_name.Goals as goal

pub returns : goal.returns
unfolding class_name
returns c =
    let listed : c.args.number - 1 < 42 = omega arith in
    rw (text_at _ _ _ listed) refl
