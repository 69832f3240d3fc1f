use Rattle.std.proofs.Common.{◌≡◌, ℕ, ◌+◌, ◌*◌, ◌<◌, List, [], ◌∷◌, ◌++◌, length, get_or, vec_capacity, ap, sym, ◌∙◌, subst, arith}
use Rattle.sign_moves.specs.declared.tabled.Step.{Step}
use Rattle.sign_moves.specs.Prelude.{step_at, part_at, longer_step, IsDigitRow, IsSpread}
use Rattle.sign_moves.proofs.DigitLaws.{row_begins, row_goes_on, row_goes_on_twice, row_room, row_room_twice, row_small, row_small_twice}
use Rattle.sign_moves.proofs.digits.digit_row.Goals as goal
use Rattle.sign_moves.proofs.digits.digit_row.Goals.{then-place-parts, else-place-parts}

pub loop-place-init : goal.loop-place-init
loop-place-init c =
    let first : Step = record { to = 0; sign = c.args.whole } in
    let items : c.push.new.self.items ≡ first ∷ [] = c.in_ok-push.ensures.items ∙ ap (λ xs. xs ++ first ∷ []) c.in_ok-row.ensures.items in
    record {
      row = subst (λ (xs : List Step). IsDigitRow c.args.parts.now c.args.whole 0 xs) (sym items) (row_begins c.args.parts.now c.args.whole);
      within = omega arith;
      room = omega (arith, c.row_length-room.ensures, c.in_ok-row.ensures.exact, c.in_ok-push.ensures.capacity);
      room_longer = omega (arith, c.row_length-room.ensures, c.in_ok-longer.ensures.exact);
    }

pub overflow_add-place : goal.overflow_add-place
overflow_add-place c = omega (arith, c.loop-place.invariant.within, c.requires.few)

pub spread_twice-requires-clause-room : goal.spread_twice-requires-clause-room
spread_twice-requires-clause-room c =
    omega (arith, row_room_twice c.loop-place.invariant.row c.loop-place-test.true, ap length c.deref.ensures.value, c.loop-place.invariant.room_longer)

pub spread_twice-requires-clause-small : goal.spread_twice-requires-clause-small
spread_twice-requires-clause-small c =
    subst (λ (xs : List Step). (j d e : ℕ) → j < length xs → d < 3 → e < 3 →
    (step_at xs j).to + (part_at c.args.parts.now c.loop-place.place d).to + (part_at c.args.parts.now (c.loop-place.place + 1) e).to < 65536) (sym c.deref.ensures.value)
    (row_small_twice c.loop-place.invariant.row c.requires.small c.loop-place-test.true c.requires.few)

pub loop-place-preserved : goal.loop-place-preserved
loop-place-preserved c =
    let parts : List (List Step) = c.args.parts.now in
    let place : ℕ = c.loop-place.place in
    let longer : List Step = c.spread_twice.new.longer.items in
    let two : place + 1 + 1 ≡ place + 2 = omega arith in
    let spread : IsSpread (longer_step c.loop-place.row.items (get_or parts place [])) (3 * length c.loop-place.row.items) (get_or parts (place + 1) []) longer =
    subst (λ (xs : List Step). IsSpread (longer_step xs (get_or parts place [])) (3 * length xs) (get_or parts (place + 1) []) longer) c.deref.ensures.value
    c.spread_twice.ensures.spread in
    record {
      row = subst (λ (xs : List Step). IsDigitRow parts c.args.whole (place + 2) xs) (sym (ap (λ v. v.items) c.swap.ensures.x_after))
          (subst (λ (n : ℕ). IsDigitRow parts c.args.whole n longer) two (row_goes_on_twice place c.loop-place.invariant.row spread));
      within = omega (arith, c.loop-place-test.true);
      room = rw (ap vec_capacity c.swap.ensures.x_after ∙ c.spread_twice.ensures.capacity) c.loop-place.invariant.room_longer;
      room_longer = rw (ap vec_capacity c.swap.ensures.y_after) c.loop-place.invariant.room;
    }

pub spread-requires-clause-room : goal.spread-requires-clause-room
spread-requires-clause-room c =
    omega (arith, row_room c.loop-place.invariant.row c.if-place-parts.true, ap length c.deref-then-place-parts.ensures.value, c.loop-place.invariant.room_longer)

pub spread-requires-clause-small : goal.spread-requires-clause-small
spread-requires-clause-small c =
    subst (λ (xs : List Step). (j d : ℕ) → j < length xs → d < 3 → (step_at xs j).to + (part_at c.args.parts.now c.loop-place.place d).to < 65536) (sym c.deref-then-place-parts.ensures.value)
    (row_small c.loop-place.invariant.row c.requires.small c.if-place-parts.true c.requires.few)

pub returns : goal.returns
returns c = elim c.if-place-parts.branch [
  | then-place-parts w ↦
      let parts : List (List Step) = c.args.parts.now in
      let place : ℕ = c.loop-place.place in
      let longer : List Step = w.spread.new.longer.items in
      let end : place + 1 ≡ length parts = omega (arith, c.loop-place-test.false, w.if-place-parts.true) in
      let spread : IsSpread (step_at c.loop-place.row.items) (length c.loop-place.row.items) (get_or parts place []) longer =
      subst (λ (xs : List Step). IsSpread (step_at xs) (length xs) (get_or parts place []) longer) w.deref-then-place-parts.ensures.value w.spread.ensures.spread in
      subst (λ (xs : List Step). IsDigitRow parts c.args.whole (length parts) xs) (sym (ap (λ v. v.items) (w.row-is ∙ w.swap-then-place-parts.ensures.x_after)))
      (subst (λ (n : ℕ). IsDigitRow parts c.args.whole n longer) end
      (row_goes_on place c.loop-place.invariant.row.each c.loop-place.invariant.row.len spread))
  | else-place-parts w ↦
      let end : c.loop-place.place ≡ length c.args.parts.now = omega (arith, c.loop-place.invariant.within, w.if-place-parts.false) in
      subst (λ (xs : List Step). IsDigitRow c.args.parts.now c.args.whole (length c.args.parts.now) xs) (sym (ap (λ v. v.items) w.row-is))
      (subst (λ (n : ℕ). IsDigitRow c.args.parts.now c.args.whole n c.loop-place.row.items) end c.loop-place.invariant.row)
]
