use Rattle.std.proofs.Common.{◌≡◌, ◌+◌, ◌-◌, ◌*◌, ◌≤◌, ◌<◌, length, vec_capacity, vec_len}
use Rattle.line_runs.proofs.Progress.{SoFar}
use Rattle.line_runs.proofs.Owed.{owed, Fails}
use Rattle.line_runs.proofs.top.answer_all.Given as goal

abbrev pub invariant-reading : goal.invariant-reading
invariant-reading g l = record {
  so_far : SoFar (g.I.Source.left l.fn.source) (g.I.Source.left l.source) (g.O.Sink.written l.fn.sink) (owed (g.O.Sink.written l.sink) l.waiting.items) l.format l.total l.number l.skipping l.refused l.buffer;
  fits : length l.buffer ≤ 4001;
  within : l.total ≤ l.limit;
  fails : Fails (g.I.Source.left l.fn.source) (g.I.Source.left l.source) (g.O.Sink.written l.fn.sink) (g.O.Sink.written l.sink) l.waiting.items;
  room : 8288 ≤ vec_capacity l.waiting;
  few : vec_len l.waiting < 8192;
  reads : g.I.Source.faults l.source ≡ g.I.Source.faults l.fn.source;
  writes : g.O.Sink.faults l.sink ≡ g.O.Sink.faults l.fn.sink;
}

abbrev pub decreases-reading : goal.decreases-reading
decreases-reading g l = 2 * (l.limit - l.total) + length l.buffer
