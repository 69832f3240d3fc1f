use Rattle.std.proofs.Common.{◌≡◌, ℕ, ◌<◌, length, map}
use Rattle.sign_moves.specs.Tabling.{IsStepRow, steps_at}
use Rattle.sign_moves.proofs.tabled.Tabled.new.Given as goal

abbrev pub invariant-loop-place : goal.invariant-loop-place
invariant-loop-place g l =
    let m = g.M.Moves.moves l.moves in
    record {
      len : length l.rows.items ≡ l.place;
      each : (k : ℕ) → k < l.place → IsStepRow (g.M.Moves.size l.moves) m k (steps_at (map (λ row. row.items) l.rows.items) k);
    }
