use Rattle.std.proofs.Common.{◌≡◌, ◌++◌, map, drop}
use Rattle.generated_runs.specs.Summary.{entries}
use Rattle.generated_runs.proofs.counts.write_entries.Given as goal

abbrev pub invariant-loop-place : goal.invariant-loop-place
invariant-loop-place l =
    l.out.items ++ entries (map (λ w. w.now) (drop l.place l.words)) (drop l.place l.numbers)
    ≡ l.initial.out.items ++ entries (map (λ w. w.now) l.words) l.numbers
