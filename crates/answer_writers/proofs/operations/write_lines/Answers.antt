use Rattle.std.proofs.Common.{◌≡◌, ◌<◌, ◌+◌, ◌++◌, [], ◌∷◌, List, ℕ, length, ap, ◌∙◌, arith}
use Rattle.std.specs.Fmt.{decimal}
use Rattle.std.proofs.lemmas.Option.{get_or_from_slice_get}
use Rattle.text_defs.specs.AnswerTexts.{line_of, operation_text}
use Rattle.answer_writers.proofs.EntryTexts.{line_more, longer_more}
use Rattle.answer_writers.proofs.operations.write_lines.Goals as goal

pub loop-place-preserved : goal.loop-place-preserved
loop-place-preserved g c =
    let inside : c.loop-place.place < length (g.L.OperationList.listed c.args.list.now) =
    omega (arith, c.loop-place-test.true, c.size-place-end.ensures) in
    let written : c.write_line.new.out.items
    ≡ c.loop-place.out.items ++ line_of (c.args.word.now ∷ decimal (c.loop-place.place + 1) ∷ operation_text c.operation.result ∷ []) =
    c.in_ok-write_line.ensures.ok in
    record {
      rest = line_more c.args.word.now c.loop-place.place (g.L.OperationList.listed c.args.list.now) c.operation.result
          c.loop-place.out.items c.write_line.new.out.items _ inside
          (get_or_from_slice_get (g.L.OperationList.listed c.args.list.now) c.loop-place.place c.operation.result c.operation.result c.operation.ensures)
          written c.loop-place.invariant.rest;
      longer = longer_more _ _ _ _ c.loop-place.invariant.longer written;
      capacity = omega (arith, c.loop-place.invariant.capacity, c.in_ok-write_line.ensures.capacity);
    }
