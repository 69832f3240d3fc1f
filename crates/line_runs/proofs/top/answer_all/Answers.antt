use Rattle.std.proofs.Common.{◌≡◌, [], inr, ◌+◌, arith, rules, refl, ◌∙◌, subst, ap, length, length-drop, drop, Err}
use Rattle.line_runs.specs.Reads.{HasNoBreak}
use Rattle.line_runs.proofs.Progress.{break_at, started_at, read_on, at_end, let_go, line_done_at, next_of, number_le}
use Rattle.line_runs.proofs.Owed.{owed, owed_at, owes, fails_none, settled}
use Rattle.line_runs.proofs.Exits.{none_read, stops_reading, passes_limit, stops_at_break, still_fails, stops_at_end, finish_end, finish_line, some_left}
use Rattle.line_runs.proofs.top.answer_all.Goals as goal

pub reading-init : goal.reading-init
reading-init g c =
    let none = c.in-Ok-with_capacity.ensures.items in
    record {
      so_far = owed_at (started_at _ _ _ c.in-Ok.buffer c.in-Ok.ensures) c.in-Ok-with_capacity.waiting.items none;
      fits = omega (arith, ap length c.in-Ok.ensures);
      within = omega arith;
      fails = fails_none _ _ _ _ c.in-Ok-with_capacity.waiting.items none;
      room = omega (arith, c.in-Ok-with_capacity.ensures.capacity);
      few = omega (arith, c.in-Ok-with_capacity.ensures.len);
      reads = refl;
      writes = refl;
    }

pub returns-in_err-refused-in-Some-clause-leaves : goal.returns-in_err-refused-in-Some-clause-leaves
returns-in_err-refused-in-Some-clause-leaves g c =
    let found = c.in-Some.ensures in
    let break = break_at c.held.result.now c.reading.buffer c.front-line.result.now c.in-Some.at c.held.ensures.held c.front-line.ensures found.1 found.2 in
    let stop = c.in_err-refused-in-Some.field-0.0 in
    let of : c.from_residual.result ≡ Err stop = search rules in
    let next = next_of c.reading.invariant.so_far c.format_at-format.result c.front-line.result.now c.format_at-format.ensures in
    stops_at_break _ c.reading.waiting.items refl c.from_residual.result stop of c.args.limit _ _ _ next.so_far c.front-line.result.now (drop (c.in-Some.at + 1) c.reading.buffer) break c.reading.invariant.fits next.format_is c.reading.invariant.fails c.in_err-refused-in-Some.ensures.err

pub overflow_add-number : goal.overflow_add-number
overflow_add-number g c = omega (arith, number_le c.reading.invariant.so_far)

pub reading-preserved-in-Some : goal.reading-preserved-in-Some
reading-preserved-in-Some g c =
    let found = c.in-Some.ensures in
    let break = break_at c.held.result.now c.reading.buffer c.front-line.result.now c.in-Some.at c.held.ensures.held c.front-line.ensures found.1 found.2 in
    let done = c.in_ok-refused-in-Some.ensures.ok in
    let next = next_of c.reading.invariant.so_far c.format_at-format.result c.front-line.result.now c.format_at-format.ensures in
    let grows = owes (g.O.Sink.written c.reading.sink) (g.O.Sink.written c.add_answer.new.sink) c.reading.waiting.items done.1.answer done.0 c.add_answer.new.waiting.items done.1.grown done.2 in
    record {
      so_far = line_done_at next.so_far (owed (g.O.Sink.written c.add_answer.new.sink) c.add_answer.new.waiting.items) c.front-line.result.now (drop (c.in-Some.at + 1) c.reading.buffer) c.remove.new.self done.1.answer c.in_ok-refused-in-Some.field-0 break c.remove.ensures grows done.1.is_answer c.in_ok-refused-in-Some.ensures.refused (inr (next.format_is []));
      fits = omega (arith, ap length c.remove.ensures, length-drop (c.in-Some.at + 1) c.reading.buffer, c.reading.invariant.fits);
      within = c.reading.invariant.within;
      fails = still_fails (g.O.Sink.written c.reading.sink) c.reading.waiting.items refl (g.I.Source.left c.args.source.now) (g.I.Source.left c.reading.source) (g.O.Sink.written c.add_answer.new.sink) next.so_far c.front-line.result.now (drop (c.in-Some.at + 1) c.reading.buffer) done.0 c.add_answer.new.waiting.items break c.reading.invariant.fits next.format_is c.reading.invariant.fails done.1 done.2;
      room = c.in_ok-refused-in-Some.ensures.room;
      few = c.in_ok-refused-in-Some.ensures.still_few;
      reads = c.reading.invariant.reads;
      writes = c.in_ok-refused-in-Some.ensures.quiet ∙ c.reading.invariant.writes;
    }

pub returns-in-Err-clause-leaves : goal.returns-in-Err-clause-leaves
returns-in-Err-clause-leaves g c =
    let none = subst HasNoBreak c.held.ensures.held c.in-None.ensures in
    let written = settled c.reading.invariant.so_far _ c.reading.waiting.items refl _ c.in-Ok-write_waiting.ensures.ok in
    let go = let_go written none c.let_go.result c.let_go.new.self c.let_go.ensures in
    stops_reading _ _ _ go.so_far go.none c.in-Err.ensures.err.1

pub returns-in-Ok-Past-clause-leaves : goal.returns-in-Ok-Past-clause-leaves
returns-in-Ok-Past-clause-leaves g c =
    let none = subst HasNoBreak c.held.ensures.held c.in-None.ensures in
    let written = settled c.reading.invariant.so_far _ c.reading.waiting.items refl _ c.in-Ok-write_waiting.ensures.ok in
    let go = let_go written none c.let_go.result c.let_go.new.self c.let_go.ensures in
    let past = rw c.in-Ok-Past.field-0-is at c.in-Ok-Past.ensures.ok in
    passes_limit c.args.limit _ _ _ past.2.0 go.so_far go.none (omega (arith, past.0, c.reading.invariant.within)) past.2.1 past.2.2

pub reading-preserved : goal.reading-preserved
reading-preserved g c =
    let none = subst HasNoBreak c.held.ensures.held c.in-None.ensures in
    let empty = c.in-Ok-write_waiting.ensures.none in
    let written = settled c.reading.invariant.so_far _ c.reading.waiting.items refl _ c.in-Ok-write_waiting.ensures.ok in
    let go = let_go written none c.let_go.result c.let_go.new.self c.let_go.ensures in
    let gave = rw c.in-Ok-Bytes.field-0-is at c.in-Ok-Bytes.ensures.ok in
    record {
      so_far = owed_at (read_on go.so_far _ gave.2.0 _ c.in-Ok-Bytes.count gave.2.2 gave.2.1 gave.2.3) c.write_waiting.new.waiting.items empty;
      fits = c.read_more.ensures.fits;
      within = omega (arith, gave.1, c.reading.invariant.within);
      fails = fails_none _ _ _ _ c.write_waiting.new.waiting.items empty;
      room = omega (arith, c.reading.invariant.room, c.in-Ok-write_waiting.ensures.capacity);
      few = omega (arith, c.in-Ok-write_waiting.ensures.few);
      reads = c.in-Ok-Bytes.ensures.calm ∙ c.reading.invariant.reads;
      writes = c.in-Ok-write_waiting.ensures.calm ∙ c.reading.invariant.writes;
    }

pub returns-then-is_between-clause-leaves : goal.returns-then-is_between-clause-leaves
returns-then-is_between-clause-leaves g c =
    let none = subst HasNoBreak c.held.ensures.held c.in-None.ensures in
    let written = settled c.reading.invariant.so_far _ c.reading.waiting.items refl _ c.in-Ok-write_waiting.ensures.ok in
    let go = let_go written none c.let_go.result c.let_go.new.self c.let_go.ensures in
    let gave = rw c.in-Ok-End.field-0-is at c.in-Ok-End.ensures.ok in
    let last = at_end go _ c.read_more.new.buffer c.held-held.result.now c.held-held.ensures.held gave.0 gave.1 in
    let between = c.if-is_between.ensures in
    finish_end last.so_far c.args.limit c.reading.invariant.within gave.2 between.0 between.1

pub returns-in_err-last-in-Ok-End-clause-leaves : goal.returns-in_err-last-in-Ok-End-clause-leaves
returns-in_err-last-in-Ok-End-clause-leaves g c =
    let none = subst HasNoBreak c.held.ensures.held c.in-None.ensures in
    let written = settled c.reading.invariant.so_far _ c.reading.waiting.items refl _ c.in-Ok-write_waiting.ensures.ok in
    let go = let_go written none c.let_go.result c.let_go.new.self c.let_go.ensures in
    let gave = rw c.in-Ok-End.field-0-is at c.in-Ok-End.ensures.ok in
    let last = at_end go _ c.read_more.new.buffer c.held-held.result.now c.held-held.ensures.held gave.0 gave.1 in
    let stop = c.in_err-last-in-Ok-End.field-0.0 in
    let of : c.from_residual-in_err-last-in-Ok-End.result ≡ Err stop = search rules in
    let next = next_of last.so_far c.format_at-format-in-Ok-End.result c.held-held.result.now c.format_at-format-in-Ok-End.ensures in
    stops_at_end c.from_residual-in_err-last-in-Ok-End.result stop of c.args.limit _ _ _ next.so_far last.none (some_left next.so_far c.if-is_between.ensures) gave.2 (omega (arith, last.room)) next.format_is c.in_err-last-in-Ok-End.ensures.err

pub returns-in-Ok-End-clause-leaves : goal.returns-in-Ok-End-clause-leaves
returns-in-Ok-End-clause-leaves g c =
    let none = subst HasNoBreak c.held.ensures.held c.in-None.ensures in
    let written = settled c.reading.invariant.so_far _ c.reading.waiting.items refl _ c.in-Ok-write_waiting.ensures.ok in
    let go = let_go written none c.let_go.result c.let_go.new.self c.let_go.ensures in
    let gave = rw c.in-Ok-End.field-0-is at c.in-Ok-End.ensures.ok in
    let last = at_end go _ c.read_more.new.buffer c.held-held.result.now c.held-held.ensures.held gave.0 gave.1 in
    let done = c.in_ok-last-in-Ok-End.ensures.ok in
    let next = next_of last.so_far c.format_at-format-in-Ok-End.result c.held-held.result.now c.format_at-format-in-Ok-End.ensures in
    finish_line next.so_far c.args.limit c.reading.invariant.within gave.2 _ c.in_ok-last-in-Ok-End.last last.none (some_left next.so_far c.if-is_between.ensures) done.0 done.2 c.in_ok-last-in-Ok-End.ensures.refused done.1 next.format_is

pub returns-in_default-with_capacity-clause-leaves : goal.returns-in_default-with_capacity-clause-leaves
returns-in_default-with_capacity-clause-leaves g c = none_read _ _
