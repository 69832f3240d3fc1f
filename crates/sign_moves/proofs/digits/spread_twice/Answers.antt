use Rattle.std.proofs.Common.{◌≡◌, ℕ, ◌+◌, ◌*◌, List, sym, ◌∙◌, subst, arith}
use Rattle.sign_moves.specs.declared.tabled.Step.{Step}
use Rattle.sign_moves.specs.Prelude.{longer_step, IsSpread}
use Rattle.sign_moves.proofs.DigitLaws.{longer_at, spread_none}
use Rattle.sign_moves.proofs.digits.spread_twice.Goals as goal

pub loop-j-init : goal.loop-j-init
loop-j-init c = record {
  spread = subst (IsSpread (longer_step c.args.row.now c.args.first) 0 c.args.second) (sym c.clear.ensures.items)
      (spread_none (longer_step c.args.row.now c.args.first) c.args.second);
  long = c.clear.ensures.len;
  capacity = c.clear.ensures.capacity;
}

pub push_longer-requires-clause-room : goal.push_longer-requires-clause-room
push_longer-requires-clause-room c =
    omega (arith, c.loop-j.invariant.long, c.loop-j.invariant.capacity, c.requires.room)

pub push_longer-requires-in-loop-j-clause-room : goal.push_longer-requires-in-loop-j-clause-room
push_longer-requires-in-loop-j-clause-room c =
    omega (arith, c.loop-j.invariant.long, c.loop-j.invariant.capacity, c.requires.room, c.push_longer.ensures.len, c.push_longer.ensures.capacity)

pub push_longer-requires-in-loop-j-2-clause-room : goal.push_longer-requires-in-loop-j-2-clause-room
push_longer-requires-in-loop-j-2-clause-room c =
    omega (
      arith,
      c.loop-j.invariant.long,
      c.loop-j.invariant.capacity,
      c.requires.room,
      c.push_longer.ensures.len,
      c.push_longer.ensures.capacity,
      c.push_longer-in-loop-j.ensures.len,
      c.push_longer-in-loop-j.ensures.capacity,
    )

pub loop-j-preserved : goal.loop-j-preserved
loop-j-preserved c =
    let row : List Step = c.args.row.now in
    let part : List Step = c.args.first in
    let j : ℕ = c.loop-j.j in
    let steps : ℕ → Step = longer_step row part in
    let one = c.push_longer.ensures.spread steps (3 * j) (longer_at row part j 0 (3 * j) (omega arith) (omega arith) ∙ sym c.joined_step.ensures) c.loop-j.invariant.spread in
    let two = c.push_longer-in-loop-j.ensures.spread steps (3 * j + 1) (longer_at row part j 1 (3 * j + 1) (omega arith) (omega arith) ∙ sym c.joined_step-in-loop-j.ensures) one in
    let three = c.push_longer-in-loop-j-2.ensures.spread steps (3 * j + 1 + 1) (longer_at row part j 2 (3 * j + 1 + 1) (omega arith) (omega arith) ∙ sym c.joined_step-in-loop-j-2.ensures) two in
    let count : 3 * j + 1 + 1 + 1 ≡ 3 * (j + 1) = omega arith in
    record {
      spread = subst (λ (n : ℕ). IsSpread steps n c.args.second c.push_longer-in-loop-j-2.new.longer.items) count three;
      long = omega (arith, c.loop-j.invariant.long, c.push_longer.ensures.len, c.push_longer-in-loop-j.ensures.len, c.push_longer-in-loop-j-2.ensures.len);
      capacity = c.push_longer-in-loop-j-2.ensures.capacity ∙ c.push_longer-in-loop-j.ensures.capacity ∙ c.push_longer.ensures.capacity ∙ c.loop-j.invariant.capacity;
    }
