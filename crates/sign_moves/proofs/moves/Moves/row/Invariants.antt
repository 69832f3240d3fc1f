use Rattle.std.proofs.Common.{◌≡◌, ℕ, ◌<◌, length}
use Rattle.sign_moves.specs.Tabling.{step_at}
use Rattle.sign_moves.proofs.moves.Moves.row.Given as goal

abbrev pub invariant-loop-c : goal.invariant-loop-c
invariant-loop-c g l =
    let m = g.Self.Moves.moves l.self in
    record {
      len : length l.row.items ≡ l.c;
      to : (d : ℕ) → d < l.c → (step_at l.row.items d).to ≡ m.carried l.place d;
      sign : (d : ℕ) → d < l.c → (step_at l.row.items d).sign ≡ m.sign l.place d;
    }
