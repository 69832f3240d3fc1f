use Rattle.std.proofs.Common.{◌≡◌, ◌+◌, ◌<◌, length, drop, arith, ap, sym, ◌∙◌}
use Rattle.tensor_defs.specs.Tensor.{index_of}
use Rattle.tensor_laws.proofs.ComponentNumbers.{length-index_of}
use Rattle.tensor_rank.specs.Orders.{front_number, pair_of}
use Rattle.tensor_rank.proofs.OrderLaws.{front_one, front_two, pair_same, pair_other}
use Rattle.tensor_rank.proofs.orders.block_number.Goals as goal

pub returns-then-size-eq1 : goal.returns-then-size-eq1
returns-then-size-eq1 g c =
    let is = index_of g.R.Rank.R c.args.c in
    let len : length is ≡ g.R.Rank.R = length-index_of g.R.Rank.R c.args.c in
    let size : c.args.size ≡ 1 = c.if-size-eq1.true in
    let room : c.args.start < length is = omega (arith, len, size, c.requires.inside) in
    c.digit-first.ensures.value ∙ sym (front_one is c.args.start room) ∙ ap (λ w. front_number w (drop c.args.start is)) (sym size)

pub returns-then-first-second : goal.returns-then-first-second
returns-then-first-second g c =
    let is = index_of g.R.Rank.R c.args.c in
    let len : length is ≡ g.R.Rank.R = length-index_of g.R.Rank.R c.args.c in
    let size : c.args.size ≡ 2 = omega (arith, c.requires.size.0, c.requires.size.1, c.if-size-eq1.false) in
    let room : c.args.start + 1 < length is = omega (arith, len, size, c.requires.inside) in
    sym (pair_same c.digit-first.result c.digit-second.result c.if-first-second.true)
    ∙ (λ i. pair_of (c.digit-first.ensures.value i) (c.digit-second.ensures.value i))
    ∙ sym (front_two is c.args.start room) ∙ ap (λ w. front_number w (drop c.args.start is)) (sym size)

pub returns-else-first-second : goal.returns-else-first-second
returns-else-first-second g c =
    let is = index_of g.R.Rank.R c.args.c in
    let len : length is ≡ g.R.Rank.R = length-index_of g.R.Rank.R c.args.c in
    let size : c.args.size ≡ 2 = omega (arith, c.requires.size.0, c.requires.size.1, c.if-size-eq1.false) in
    let room : c.args.start + 1 < length is = omega (arith, len, size, c.requires.inside) in
    sym (pair_other c.digit-first.result c.digit-second.result c.if-first-second.false)
    ∙ (λ i. pair_of (c.digit-first.ensures.value i) (c.digit-second.ensures.value i))
    ∙ sym (front_two is c.args.start room) ∙ ap (λ w. front_number w (drop c.args.start is)) (sym size)
