use Rattle.list_laws.proofs.Kit.{◌<◌, length, arith, get_or_read}
use Rattle.tensor_action.specs.Acting.{zero_root}
use Rattle.state_marks.proofs.RowLaws.{lists-push}
use Rattle.state_marks.proofs.rows.terms_of.Goals as goal

pub loop-place-preserved : goal.loop-place-preserved
loop-place-preserved c =
    let rs = c.args.sums.now in
    let n = c.loop-place.place in
    let h : n < length rs = omega (arith, c.loop-place-test.true) in
    lists-push rs n c.loop-place.terms.items c.push_sum.new.terms.items c.index-sums-place.result c.loop-place.invariant
    (get_or_read rs n c.index-sums-place.result h c.index-sums-place.is zero_root) c.in_ok-push_sum.ensures
