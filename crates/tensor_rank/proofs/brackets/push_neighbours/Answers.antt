use Rattle.std.proofs.Common.{◌≡◌, ℕ, ◌+◌, ◌-◌, ◌*◌, ◌<◌, ◌≤◌, ◌++◌, List, zero, suc, length, map, ap, sym, subst, ◌∙◌, refl, arith, ◌∷◌, Fits, w8}
use Rattle.std.specs.List.{range_with_len}
use Rattle.std.proofs.Math.Nat.{mul-le-mul_right}
use Rattle.std.proofs.lemmas.Iterator.{YieldsList, YieldsList-from_range}
use Rattle.std.proofs.lemmas.Iterator.Consumers.{YieldsList-at, YieldsList-turn, YieldsList-end}
use Rattle.std.proofs.lemmas.List.FromFn.{get_or-map-range_with_len, length-map-range_with_len}
use Rattle.itertools.specs.List.{tuple_windows, pair_of}
use Rattle.itertools.proofs.AdaptorLemmas.{YieldsList-from_gives}
use Rattle.std.proofs.lemmas.List.{map-id}
use Rattle.std.proofs.lemmas.Simd.{map-map}
use Rattle.tensor_rank.specs.declared.exchanges.Exchange.{Exchange}
use Rattle.tensor_rank.specs.Symmetry.{bracket_at, exchange_of}
use Rattle.tensor_rank.proofs.brackets.push_neighbours.Goals as goal
use Rattle.tensor_rank.proofs.brackets.push_neighbours.Goals.{After-next, In-Some}
use Rattle.tensor_rank.proofs.brackets.push_neighbours.Given.{iterator-loop-one}

-- a number with the next, for n numbers from a on
abbrev pairs : ℕ → ℕ → List (ℕ × ℕ)
pairs a n = map (λ i. (i, i + 1)) (range_with_len a n)

windows_after : (a n : ℕ) → tuple_windows pair_of (range_with_len a (suc n)) ≡ pairs a n
windows_after a zero = refl
windows_after a (suc n) = ap (λ l. (a, a + 1) ∷ l) (windows_after (a + 1) n)

windows_of : (n : ℕ) → tuple_windows pair_of (range_with_len 0 n) ≡ pairs 0 (n - 1)
windows_of zero = refl
windows_of (suc n) = windows_after 0 n ∙ ap (pairs 0) (omega arith)

-- the loop runs over each of the blocks with the next of them
windows : (c : After-next) → YieldsList (iterator-loop-one).next_gives (λ y. y) c.into_iter-one-iterator.result (pairs 0 (c.args.count - 1))
windows c =
    YieldsList-at (cc) (subst (YieldsList (iterator-loop-one).next_gives (λ y. y) c.tuple_windows-one-items.result) (windows_of c.args.count)
    (YieldsList-from_gives (tuple_windows pair_of) (λ p on at.
    let r = c.tuple_windows-one-items.ensures.runs p on at in (r.0, r.1, r.2.1 (λ t y e i. (e.0 i, e.1 i))))
    (YieldsList-from_range 0 c.args.count c.args.count refl (omega arith))))

-- a window is a block and the next
module _ (c : In-Some) (runs : YieldsList (iterator-loop-one).next_gives (λ y. y) c.into_iter-one-iterator.result (pairs 0 (c.args.count - 1))) where
  window : (c.in-Some.next ≡ c.in-Some.one + 1) × (c.in-Some.next < c.args.count)
  window =
      let k = length c.loop-one.yielded in
      let item : ℕ × ℕ = (c.in-Some.one, c.in-Some.next) in
      let pair : ℕ → ℕ × ℕ = λ i. (i, i + 1) in
      let turn = YieldsList-turn runs c.loop-one.yielded _ c.loop-one.yielded_by _ _ item c.in-Some.is c.next.ensures.steps in
      let long = length-map-range_with_len pair 0 (c.args.count - 1) in
      let is : item ≡ (k, k + 1) = turn.1 ∙ get_or-map-range_with_len pair 0 (c.args.count - 1) k k item (omega (arith, turn.0, long)) (omega arith) in
      let one : c.in-Some.one ≡ k = ap (λ w. w.0) is in
      let next : c.in-Some.next ≡ k + 1 = ap (λ w. w.1) is in
      (omega arith, omega (arith, turn.0, long))

  -- a block begins among the places that there are
  block_fits : (i : ℕ) → i < c.args.count → Fits w8 (i * c.args.width) × Fits w8 (c.args.start + i * c.args.width)
  block_fits i h =
      let room = c.requires in
      let few : i * c.args.width ≤ c.args.count * c.args.width = mul-le-mul_right c.args.width (omega arith) in
      (omega (arith, room), omega (arith, room))

  one_fits : Fits w8 (c.in-Some.one * c.args.width) × Fits w8 (c.args.start + c.in-Some.one * c.args.width)
  one_fits = block_fits c.in-Some.one (omega (arith, window.0, window.1))

  next_fits : Fits w8 (c.in-Some.next * c.args.width) × Fits w8 (c.args.start + c.in-Some.next * c.args.width)
  next_fits = block_fits c.in-Some.next window.1

pub overflow_mul-one : goal.overflow_mul-one
overflow_mul-one c = let at = goal.at.overflow_mul-one c in (one_fits at.In-Some (windows at.After-next)).0

pub overflow_add-start : goal.overflow_add-start
overflow_add-start c = let at = goal.at.overflow_add-start c in (one_fits at.In-Some (windows at.After-next)).1

pub overflow_mul-next : goal.overflow_mul-next
overflow_mul-next c = let at = goal.at.overflow_mul-next c in (next_fits at.In-Some (windows at.After-next)).0

pub overflow_add-start-in-loop-one : goal.overflow_add-start-in-loop-one
overflow_add-start-in-loop-one c = let at = goal.at.overflow_add-start-in-loop-one c in (next_fits at.In-Some (windows at.After-next)).1

pub returns : goal.returns
returns c =
    let all = YieldsList-end (windows (goal.at.returns c).After-next) c.loop-one.yielded _ c.loop-one.yielded_by _ _ c.in-None.is c.next.ensures.steps in
    let exchange : ℕ × ℕ → Exchange = λ w. exchange_of (bracket_at c.args.start c.args.width c.args.negates) w.0 w.1 in
    c.loop-one.invariant.2 ∙ ap (λ l. c.args.out.now.items ++ map exchange l) (sym (map-id c.loop-one.yielded) ∙ all.0)
    ∙ ap (λ l. c.args.out.now.items ++ l) (map-map exchange (λ i. (i, i + 1)) (range_with_len 0 (c.args.count - 1)))
