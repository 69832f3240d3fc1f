use Rattle.std.proofs.Common.{◌≡◌, ◌-◌, ◌<◌, ◌∙◌, ap, take, subst, sym, arith}
use Rattle.tensor_defs.specs.Prelude.{digit, index_of}
use Rattle.tensor_laws.proofs.ComponentNumbers.{length-index_of}
use Rattle.tensor_rank.specs.IndexLaws.{nth}
use Rattle.tensor_action.specs.Reaching.{AreParts}
use Rattle.tensor_action.proofs.Reach.{bounded, reach-end}
use Rattle.tensor_action.proofs.parts.Parts.set.Goals as goal

pub with_index-requires : goal.with_index-requires
with_index-requires g c =
    let r = g.R.Rank.R in
    let rank : 0 < r = omega (arith, c.if-R-eq0.false, c.R.ensures) in
    let all = bounded c.args.op.now (index_of r c.args.to) r (r - 1) c.fill_front.new.parts.items (length-index_of r c.args.to)
    g.R.Rank.small (omega (arith, rank)) c.fill_front.ensures.parts in
    rw c.deref.ensures.value (record {
      row = omega (arith, c.digit.ensures.in_range.0, c.digit.ensures.in_range.1);
      small = all.0;
      within = all.1;
      room = omega (arith, all.2, g.R.Rank.power, c.fill_front.ensures.room_longer);
    })

pub returns-else-R-eq0 : goal.returns-else-R-eq0
returns-else-R-eq0 g c =
    let r = g.R.Rank.R in
    let is = index_of r c.args.to in
    let op = c.args.op.now in
    let rank : 0 < r = omega (arith, c.if-R-eq0.false, c.R.ensures) in
    let digit_is : c.digit.result ≡ digit (nth is (r - 1)) = c.digit.ensures.value ∙ ap (λ n. digit (nth is (n - 1))) c.R-else-R-eq0.ensures in
    reach-end op is r c.digit.result c.with_index.new.longer.items (length-index_of r c.args.to) rank digit_is
    (c.with_index.ensures.parts (take (r - 1) is)
    (subst (AreParts op (take (r - 1) is)) (sym c.deref.ensures.value) c.fill_front.ensures.parts))
