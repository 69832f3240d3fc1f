use Rattle.list_laws.proofs.Kit.{◌≡◌, ℕ, ◌+◌, ◌*◌, ◌-◌, ◌<◌, ◌≤◌, drop, get_or, arith, ap, sym, ◌∙◌, subst, drop_of_length-le}
use Rattle.tensor_defs.specs.Prelude.{block_numbers, index_of}
use Rattle.tensor_laws.proofs.ComponentNumbers.{length-index_of}
use Rattle.tensor_rank.specs.Orders.{AreBlocks, front_number, spell}
use Rattle.tensor_rank.proofs.OrderLaws.{below_sixth, blocks_next, front_small, spell_below, spell_next}
use Rattle.tensor_rank.proofs.orders.spelled_by.Goals as goal

pub overflow_mul-spelled : goal.overflow_mul-spelled
overflow_mul-spelled g c =
    let start : c.loop-size.start ≤ 6 = omega (arith, c.loop-size.invariant.inside, g.R.Rank.small) in
    let small : c.loop-size.spelled < 117649 = below_sixth c.loop-size.start c.loop-size.spelled start c.loop-size.invariant.small in
    omega (arith, small)

pub overflow_add-spelled : goal.overflow_add-spelled
overflow_add-spelled g c =
    let start : c.loop-size.start ≤ 6 = omega (arith, c.loop-size.invariant.inside, g.R.Rank.small) in
    let small : c.loop-size.spelled < 117649 = below_sixth c.loop-size.start c.loop-size.spelled start c.loop-size.invariant.small in
    let block : c.from.result ≡ front_number (get_or c.args.sizes.now c.loop-size.size-index 0) (drop c.loop-size.start (index_of g.R.Rank.R c.args.c)) = c.from.ensures ∙ c.block_number.ensures in
    let le = front_small (get_or c.args.sizes.now c.loop-size.size-index 0) (drop c.loop-size.start (index_of g.R.Rank.R c.args.c)) in
    omega (arith, small, block, le)

pub loop-size-preserved : goal.loop-size-preserved
loop-size-preserved g c =
    let r = g.R.Rank.R in
    let is = index_of r c.args.c in
    let ws = c.args.sizes.now in
    let i = c.loop-size.size-index in
    let s = c.loop-size.start in
    let x = c.loop-size.spelled in
    let w = get_or ws i 0 in
    let block : c.from.result ≡ front_number w (drop s is) = c.from.ensures ∙ c.block_number.ensures in
    let le : c.from.result ≤ 6 = rw block (front_small w (drop s is)) in
    let next = blocks_next (r - s) ws i c.loop-size-test.true c.loop-size.invariant.fit in
    let room : w ≤ r - s = next.1 in
    let less : r - s - w ≡ r - (s + w) = omega arith in
    record {
      inside = omega (arith, room, c.loop-size.invariant.inside);
      fit = subst (λ (n : ℕ). AreBlocks n (drop (i + 1) ws)) less next.2;
      small = spell_below s w x c.from.result next.0 c.loop-size.invariant.small le;
      same =
          ap (λ d. spell (7 * x + d) (block_numbers (drop (i + 1) ws) (drop (s + w) is))) block
          ∙ sym (spell_next r ws i s x is c.loop-size-test.true (length-index_of r c.args.c) c.loop-size.invariant.inside c.loop-size.invariant.fit)
          ∙ c.loop-size.invariant.same;
    }

pub returns : goal.returns
returns g c =
    let is = index_of g.R.Rank.R c.args.c in
    ap (λ bs. spell c.loop-size.spelled (block_numbers bs (drop c.loop-size.start is))) (sym (drop_of_length-le c.args.sizes.now c.loop-size-test.false))
    ∙ c.loop-size.invariant.same
