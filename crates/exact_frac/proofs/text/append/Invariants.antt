use Rattle.std.proofs.Common.{◌≡◌, ◌++◌, take}
use Rattle.exact_frac.proofs.text.append.Given as goal

abbrev pub invariant-loop-byte : goal.invariant-loop-byte
invariant-loop-byte g l = record {
  items : l.out.items ≡ l.initial.out.items ++ take l.byte-index l.bytes;
  capacity : l.out.capacity ≡ l.initial.out.capacity;
}
