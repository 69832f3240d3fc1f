use Rattle.check_runs.proofs.Lines.{cubic_text, hexagonal_text}
use Rattle.check_runs.proofs.texts.whole_text.Goals as goal

pub returns-in-Cubic : goal.returns-in-Cubic
returns-in-Cubic c = cubic_text c.args.whole c.in-Cubic.is

pub returns-in-Hexagonal : goal.returns-in-Hexagonal
returns-in-Hexagonal c = hexagonal_text c.args.whole c.in-Hexagonal.is
