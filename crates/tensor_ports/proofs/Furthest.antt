-- How far one may go from a place: the bounds taken one after another, and what a read and a write in memory do by them.
use Rattle.std.proofs.Common.{◌≡◌, ℕ, ◌+◌, ◌-◌, ◌<◌, ◌≤◌, List, ◌++◌, length, take, drop, min, get_or, arith, Ok, Option, Some, None, refl, sym, ◌∙◌, ap, subst, length-drop}
use Rattle.std.proofs.lemmas.List.{take_more, drop-drop}
use Rattle.std.proofs.lemmas.List.Elements.{All-more, All-weaker, All-pop}
use Rattle.std.specs.Option.{IfSome}
use Rattle.tensor_ports.specs.Memory.{Input, MayGive, Gives, Output, MayTake, Takes}
use Rattle.tensor_ports.specs.Places.{IsMost, PassesNone}

-- a shorter way passes none either
pub passes_less : (stops : List ℕ) (place n m : ℕ) → m ≤ n → PassesNone stops place n → PassesNone stops place m
passes_less stops place n m less passes = All-weaker (λ stop. place < stop → place + n ≤ stop) (λ stop. place < stop → place + m ≤ stop) (λ stop short ahead. omega (arith, short ahead)) stops passes

-- the stops up to one, and then this one
pub past_more : (stops : List ℕ) (i at most far near : ℕ) → i < length stops
    → IsMost (λ n. (n ≤ most) × PassesNone (take i stops) at n) far
    → IsMost (λ n. (n ≤ far) × (at < get_or stops i 0 → at + n ≤ get_or stops i 0)) near
    → IsMost (λ n. (n ≤ most) × PassesNone (take (i + 1) stops) at n) near
past_more stops i at most far near in_stops before here = record {
  fits = (
    omega (arith, here.fits.0, before.fits.0),
    All-more (λ stop. at < stop → at + near ≤ stop) stops i 0 in_stops (passes_less (take i stops) at far near here.fits.0 before.fits.1) here.fits.1,
  );
  most = λ n may.
      let parts = All-pop (λ stop. at < stop → at + n ≤ stop) (take (i + 1) stops) (take i stops) (Some (get_or stops i 0)) (take_more stops i 0 in_stops) may.1 in
      here.most n (before.most n (may.0, parts.0), parts.1);
}

-- the bounds of a read
pub gives_most : (s : Input) (room most count : ℕ) → most ≡ min (min s.piece room) (length s.left) → IsMost (λ n. (n ≤ most) × PassesNone s.fails s.place n) count → IsMost (MayGive s room) count
gives_most s room most count is furthest = record {
  fits = (omega (arith, is, furthest.fits.0), omega (arith, is, furthest.fits.0), omega (arith, is, furthest.fits.0), furthest.fits.1);
  most = λ n may. furthest.most n (omega (arith, is, may.0, may.1, may.2), may.3);
}

-- a read that copies that many bytes
pub gives : {E : Type 0} (old : Input) (xs fails stops before got : List ℕ) (at piece faults most count : ℕ)
    → record { left = drop at xs; place = at; piece = piece; fails = fails; faults = faults } ≡ old
    → most ≡ min (min piece (length before)) (length xs - at)
    → stops ≡ fails → IsMost (λ n. (n ≤ most) × PassesNone stops at n) count
    → got ≡ take (at + count - at) (drop at xs)
    → Gives {E = E} old (record { left = drop (at + count) xs; place = at + count; piece = piece; fails = fails; faults = faults }) before (got ++ drop count before) (Ok count)
gives {E = E} old xs fails stops before got at piece faults most count is bound same furthest copied =
    let start : Input = record { left = drop at xs; place = at; piece = piece; fails = fails; faults = faults } in
    let end : Input = record { left = drop (at + count) xs; place = at + count; piece = piece; fails = fails; faults = faults } in
    subst (λ (s : Input). Gives {E = E} s end before (got ++ drop count before) (Ok count)) is (record {
      count = count;
      is_most = gives_most start (length before) most count (omega (arith, bound, length-drop at xs)) (subst (λ (l : List ℕ). IsMost (λ n. (n ≤ most) × PassesNone l at n) count) same furthest);
      answer = refl;
      given = ap (λ (l : List ℕ). l ++ drop count before) copied ∙ ap (λ (n : ℕ). take n (drop at xs) ++ drop count before) (omega arith);
      rest = ap (λ (l : List ℕ). record { left = l; place = at + count; piece = piece; fails = fails; faults = faults }) (sym (drop-drop count at xs));
    })

-- the place where a sink sticks
pub stuck_less : (stuck : Option ℕ) (place n m : ℕ) → m ≤ n → IfSome stuck (λ stop. place < stop → place + n ≤ stop) → IfSome stuck (λ stop. place < stop → place + m ≤ stop)
stuck_less None place n m less passes = tt
stuck_less (Some stop) place n m less passes = λ ahead. omega (arith, passes ahead)

-- the bounds of a write
pub takes_most : (s : Output) (size bound most count : ℕ) → bound ≡ min (min s.piece size) (s.room - length s.written) → length s.written ≤ s.room
    → IsMost (λ n. (n ≤ bound) × IfSome s.stuck (λ stop. length s.written < stop → length s.written + n ≤ stop)) most
    → IsMost (λ n. (n ≤ most) × PassesNone s.fails (length s.written) n) count
    → IsMost (MayTake s size) count
takes_most s size bound most count is room before furthest = record {
  fits = (
    omega (arith, is, before.fits.0, furthest.fits.0),
    omega (arith, is, before.fits.0, furthest.fits.0),
    omega (arith, is, before.fits.0, furthest.fits.0),
    furthest.fits.1,
    stuck_less s.stuck (length s.written) most count furthest.fits.0 before.fits.1,
  );
  most = λ n may. furthest.most n (before.most n (omega (arith, is, may.0, may.1, may.2), may.4), may.3);
}

-- a write that stores that many bytes
pub takes : {E : Type 0} (old : Output) (xs fails stops given more : List ℕ) (stuck : Option ℕ) (at room piece faults bound most count : ℕ)
    → record { written = xs; room = room; piece = piece; fails = fails; stuck = stuck; faults = faults } ≡ old
    → bound ≡ min (min piece (length given)) (room - length xs)
    → length xs ≤ room
    → at ≡ length xs → IsMost (λ n. (n ≤ bound) × IfSome stuck (λ stop. at < stop → at + n ≤ stop)) most
    → stops ≡ fails → IsMost (λ n. (n ≤ most) × PassesNone stops at n) count
    → more ≡ xs ++ take count given
    → Takes {E = E} old (record { written = more; room = room; piece = piece; fails = fails; stuck = stuck; faults = faults }) given (Ok count)
takes {E = E} old xs fails stops given more stuck at room piece faults bound most count is limit fits here before same furthest stored =
    let start : Output = record { written = xs; room = room; piece = piece; fails = fails; stuck = stuck; faults = faults } in
    let end : Output = record { written = more; room = room; piece = piece; fails = fails; stuck = stuck; faults = faults } in
    subst (λ (s : Output). Takes {E = E} s end given (Ok count)) is (record {
      count = count;
      is_most = takes_most start (length given) bound most count limit fits
          (subst (λ (n : ℕ). IsMost (λ m. (m ≤ bound) × IfSome stuck (λ stop. n < stop → n + m ≤ stop)) most) here before)
          (subst (λ (n : ℕ). IsMost (λ m. (m ≤ most) × PassesNone fails n m) count) here (subst (λ (l : List ℕ). IsMost (λ m. (m ≤ most) × PassesNone l at m) count) same furthest));
      answer = refl;
      taken = ap (λ (l : List ℕ). record { written = l; room = room; piece = piece; fails = fails; stuck = stuck; faults = faults }) stored;
    })
