-- The marks of a Jahn symbol in the code.
--   marks_of        those of the definitions
use Rattle.tensor_defs.specs.Tensor.{Marks}
use Rattle.tensor_rank.specs.declared.flags.Flags.{Flags}

abbrev pub marks_of : Flags → Marks
marks_of f = record { axial = f.axial; magnetic = f.magnetic }
