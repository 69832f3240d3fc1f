use Rattle.std.proofs.Common.{◌+◌, refl, sym, subst, arith}
use Rattle.tensor_defs.specs.Prelude.{IsListing, comes_before, InPairGroup}
use Rattle.op_matrix.specs.Table.{place}
use Rattle.op_matrix.proofs.Order.{placed}
use Rattle.group_closing.proofs.Spans.{member_framed}
use Rattle.magnetic_groups.specs.Sets.{In}
use Rattle.magnetic_groups.proofs.Meeting.{IsMeeting, meeting_none, meeting_skip, meeting_more, met_group, met_listing, inverse_common, half_common, pair_told}
use Rattle.magnetic_groups.proofs.Group.conjugate_marks.Goals as goal
use Rattle.magnetic_groups.proofs.Group.conjugate_marks.Goals.{then-has, else-has}

pub loop-place-init : goal.loop-place-init
loop-place-init c = λ i f. subst (IsMeeting c.args.self.now c.args.op.now i f 0) (sym c.none-marks.ensures)
    (meeting_none c.args.self.now c.args.op.now i f)

pub product-half-requires : goal.product-half-requires
product-half-requires c =
    inverse_common c.args.self.now c.args.op.now c.at-element.result c.inverse-inverse.result c.requires
    c.inverse-inverse.ensures.plain c.inverse-inverse.ensures.hexagonal c.at-element.ensures.element

pub product-carried-requires : goal.product-carried-requires
product-carried-requires c =
    half_common c.args.self.now c.args.op.now c.at-element.result c.inverse-inverse.result c.product-half.result
    c.requires c.inverse-inverse.ensures.plain c.inverse-inverse.ensures.hexagonal c.at-element.ensures.element
    c.product-half.ensures.plain c.product-half.ensures.hexagonal

pub loop-place-preserved : goal.loop-place-preserved
loop-place-preserved c = λ i f.
    let told = pair_told c.args.self.now c.args.op.now i f c.at-element.result c.inverse-inverse.result
    c.product-half.result c.product-carried.result c.has.result c.at-element.ensures.element
    c.inverse-inverse.ensures.after c.inverse-inverse.ensures.ahead c.product-half.ensures.is
    c.product-carried.ensures.is c.has.ensures in
    let o = placed c.at-element.result
    (member_framed c.args.self.now c.at-element.result i.frame c.at-element.ensures.element) in
    elim c.if-has.branch [
      | then-has w ↦
          subst (IsMeeting c.args.self.now c.args.op.now i f (c.loop-place.place + 1)) (sym w.marks-is)
          (subst (IsMeeting c.args.self.now c.args.op.now i f (c.loop-place.place + 1)) (sym w.mark.ensures)
          (meeting_more c.args.self.now c.args.op.now i f c.loop-place.place (place c.at-element.result) c.loop-place.marks
          c.at-element.result c.has.result (c.loop-place.invariant i f) c.at-element.ensures.reads told w.if-has.true
          refl o.0 o.1))
      | else-has w ↦
          subst (IsMeeting c.args.self.now c.args.op.now i f (c.loop-place.place + 1)) (sym w.marks-is)
          (meeting_skip c.args.self.now c.args.op.now i f c.loop-place.place c.loop-place.marks
          c.at-element.result c.has.result (c.loop-place.invariant i f) c.at-element.ensures.reads told w.if-has.false)
    ]

pub new-requires : goal.new-requires
new-requires c =
    met_group c.args.self.now c.args.op.now c.len-place-end.ensures.group c.requires c.loop-place.marks
    c.loop-place.place (c.loop-place.invariant c.len-place-end.ensures.group c.requires) (omega arith)

pub returns : goal.returns
returns c =
    subst (IsListing comes_before (InPairGroup (In c.args.self.now) c.args.op.now)) (sym c.new.ensures)
    (met_listing c.args.self.now c.args.op.now c.len-place-end.ensures.group c.requires c.loop-place.marks
    c.loop-place.place (c.loop-place.invariant c.len-place-end.ensures.group c.requires) (omega arith))
