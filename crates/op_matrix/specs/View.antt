-- An entry of the code as an entry of the definitions.
--   hex_frame    the frames that a matrix has
use Rattle.std.specs.Prelude.{ℕ, zero, suc, Bool, true, false}
use Rattle.tensor_defs.specs.Operation as defs
use Rattle.tensor_defs.specs.Operation.{Axis, x1, x2, x3}
use Rattle.op_matrix.specs.declared.entry.Frame.{Frame}
use Rattle.op_matrix.specs.declared.entry.Frame.TheVariants.{Plain, Hexagonal, Both}
use Rattle.op_matrix.specs.declared.entry.Entry.{Entry}
use Rattle.op_matrix.specs.declared.entry.Entry.TheVariants.{One, HalfRoot3, Half, Zero, MinusHalf, MinusHalfRoot3}
use Rattle.op_matrix.specs.declared.entry.Entry.TheVariants.{MinusOne}

abbrev pub entry_of : Entry → defs.Entry
entry_of One = defs.one
entry_of HalfRoot3 = defs.h
entry_of Half = defs.half
entry_of Zero = defs.nought
entry_of MinusHalf = defs.minus_half
entry_of MinusHalfRoot3 = defs.minus_h
entry_of MinusOne = defs.minus_one

abbrev pub axis : ℕ → Axis
axis zero = x1
axis (suc zero) = x2
axis (suc (suc n)) = x3

-- the frames that a matrix has
abbrev pub hex_frame : Frame → Bool
hex_frame Plain = false
hex_frame Hexagonal = true
hex_frame Both = true

abbrev pub plain_frame : Frame → Bool
plain_frame Plain = true
plain_frame Hexagonal = false
plain_frame Both = true

abbrev pub both_frame : Frame → Bool
both_frame Plain = false
both_frame Hexagonal = false
both_frame Both = true
