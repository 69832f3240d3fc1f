use Rattle.std.proofs.Common.{◌≤◌, ◌+◌, length, arith}
use Rattle.check_runs.proofs.Names.{faulty_behind, named_within}
use Rattle.check_runs.proofs.settings.read_setting.Goals as goal

pub slice_bounds-read_number-count : goal.slice_bounds-read_number-count
slice_bounds-read_number-count g c =
    let within : g.R.Rank.R + 2 ≤ length c.args.word.now = named_within g.R.Rank.R c.args.word.now c.in-Ok.component c.in-Ok.ensures in
    omega (arith, c.R-start.ensures)

pub slice_bounds-read_number-start : goal.slice_bounds-read_number-start
slice_bounds-read_number-start g c =
    let within : g.R.Rank.R + 2 ≤ length c.args.word.now = named_within g.R.Rank.R c.args.word.now c.in-Ok.component c.in-Ok.ensures in
    omega (arith, c.R-start.ensures)

pub returns-in-Err-read_number : goal.returns-in-Err-read_number
returns-in-Err-read_number g c =
    faulty_behind g.R.Rank.R c.args.word.now c.in-Ok.component c.R-start.result c.in-Err-read_number.fault.place c.R-start.ensures c.in-Ok.ensures
    c.in-Err-read_number.ensures
