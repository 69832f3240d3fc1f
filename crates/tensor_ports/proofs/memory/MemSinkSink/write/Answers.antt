use Rattle.std.proofs.Common.{◌≡◌, arith, rules, false}
use Rattle.tensor_ports.proofs.Furthest.{takes}
use Rattle.tensor_ports.specs.Memory.{write_fails, write_sticks}
use Rattle.tensor_ports.proofs.memory.MemSinkSink.write.Goals as goal

pub returns-clause-takes : goal.returns-clause-takes
returns-clause-takes c =
    let s = c.self.inside in
    let goes_on : write_fails c.args.self.now ≡ false = search rules in
    let is_free : write_sticks c.args.self.now ≡ false = search rules in
    λ some. rw goes_on (rw is_free (takes c.args.self.now s.bytes.items s.fails.items c.deref-2.result.now c.args.piece.now c.extend_from_slice.new.self.items s.stuck c.len.result s.room s.piece s.faults c.min-most.result c.up_to_stuck-most.result c.up_to_next-count.result
    c.self.view_is (omega arith) c.self.invariant.0 (omega arith) c.up_to_stuck-most.ensures.furthest c.deref-2.ensures.value c.up_to_next-count.ensures.furthest (search rules)))
