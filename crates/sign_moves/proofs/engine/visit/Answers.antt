use Rattle.std.proofs.Common.{◌≡◌, ℕ, ◌+◌, ◌<◌, ◌≤◌, List, length, arith, below_more, le_refl, subst, sym}
use Rattle.sign_moves.specs.declared.classes.Entry.{Entry}
use Rattle.sign_moves.specs.Prelude.{total_of, first_at, Moves, item_at, IsClosed, IsStep}
use Rattle.sign_moves.proofs.EngineLaws.{closed_grows, lengthens_trans, visit_ends}
use Rattle.sign_moves.proofs.engine.visit.Goals as goal

pub loop-place-preserved : goal.loop-place-preserved
loop-place-preserved g c =
    let n : ℕ = g.M.Moves.size c.args.moves.now in
    let m : Moves = g.M.Moves.moves c.args.moves.now in
    let old : List ℕ = c.loop-place.queue.items in
    let new : List ℕ = c.step.new.queue.items in
    let es : List Entry = c.step.new.table in
    let step : IsStep n m c.loop-place.table es c.args.root old new c.args.head c.loop-place.place = c.in_ok-step.ensures in
    let start : length c.args.queue.now.items ≤ length old = c.loop-place.invariant.lengthens.longer in
    let inside : c.args.head < length old = omega arith in
    let of_class : first_at c.loop-place.table (item_at old c.args.head) ≡ c.args.root = c.loop-place.invariant.walk.of_class c.args.head (le_refl c.args.head) inside in
    let same : item_at new c.args.head ≡ item_at old c.args.head = step.lengthens.same c.args.head inside in
    let falls : total_of es + length new ≤ total_of c.loop-place.table + length old = step.falls in
    let P : ℕ → Type 0 = λ k. IsClosed m es k (item_at new c.args.head) in
    record {
      walk = step.walk;
      closed = below_more P _
          (λ k h. subst (λ (d : ℕ). IsClosed m es k d) (sym same) (closed_grows step.grows (omega arith) (c.loop-place.invariant.closed k h)))
          (subst (λ (d : ℕ). IsClosed m es c.loop-place.place d) (sym same) step.closed);
      lengthens = lengthens_trans c.loop-place.invariant.lengthens step.lengthens;
      falls = omega arith;
    }

pub returns : goal.returns
returns g c = record {
  walk = visit_ends c.loop-place.invariant.walk (record { each = λ k h. c.loop-place.invariant.closed k (omega arith) });
  lengthens = c.loop-place.invariant.lengthens;
  falls = c.loop-place.invariant.falls;
}
