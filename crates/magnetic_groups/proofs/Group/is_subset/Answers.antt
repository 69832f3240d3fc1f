use Rattle.std.proofs.Common.{subst}
use Rattle.std.specs.Prelude.{IsTrue, ◌↔◌}
use Rattle.magnetic_groups.specs.Sets.{IsWithin}
use Rattle.magnetic_groups.proofs.Group.is_subset.Goals as goal

pub returns : goal.returns
returns c =
    subst (λ xs. IsTrue c.is_subset.result ↔ IsWithin xs c.args.other.now) c.marks-marks.ensures
    (subst (λ ys. IsTrue c.is_subset.result ↔ IsWithin c.marks-marks.result ys) c.marks-others.ensures c.is_subset.ensures)
