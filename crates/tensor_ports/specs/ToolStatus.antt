-- The exit statuses of programs that answer the words of their command line.
--   tool_status     the status of an end
-- Source: this project's own.
use Rattle.std.specs.Prelude.{ℕ}
use Rattle.tensor_ports.specs.declared.ends.ToolEnd.{ToolEnd}
use Rattle.tensor_ports.specs.declared.ends.ToolEnd.TheVariants.{Answered, Refused, Usage, WriteFault, NoMemory}

abbrev pub tool_status : ToolEnd → ℕ
tool_status Answered = 0
tool_status Refused = 1
tool_status Usage = 2
tool_status WriteFault = 4
tool_status NoMemory = 5
