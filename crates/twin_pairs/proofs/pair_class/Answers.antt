use Rattle.std.proofs.Common.{sym, subst, ◌∙◌}
use Rattle.magnetic_groups.specs.Sets.{In, FitsFrame, IsWithin}
use Rattle.tensor_defs.specs.Prelude.{IsListing, comes_before, InPairGroup, InTwinningGroup, IsNameOf}
use Rattle.twin_pairs.proofs.Assembly.{fits_of, class_assembled}
use Rattle.twin_pairs.proofs.pair_class.Goals as goal

pub conjugate_marks-pair_group-requires : goal.conjugate_marks-pair_group-requires
conjugate_marks-pair_group-requires c = subst (λ xs. FitsFrame xs c.args.element.now) (sym c.sub-sub.ensures) (fits_of c.args.states.now.whole c.args.states.now.sub c.args.element.now c.count-count.ensures.groups.0.frame c.count-count.ensures.within c.requires.inside)

pub joined_marks-twin_group-requires : goal.joined_marks-twin_group-requires
joined_marks-twin_group-requires c = subst (λ xs. FitsFrame xs c.args.element.now) (sym c.sub-sub.ensures) (fits_of c.args.states.now.whole c.args.states.now.sub c.args.element.now c.count-count.ensures.groups.0.frame c.count-count.ensures.within c.requires.inside)

pub returns : goal.returns
returns c =
    class_assembled c.args.states.now c.args.element.now c.args.k c.in_ok-members.members c.is_swappable-swappable.result
    c.conjugate_marks-pair_group.result c.joined_marks-twin_group.result c.pair_name-pair_name.result c.first_name-twin_name.result
    c.requires.least c.in_ok-members.ensures c.is_swappable-swappable.ensures
    (subst (λ xs. IsListing comes_before (InPairGroup (In xs) c.args.element.now) c.conjugate_marks-pair_group.result) c.sub-sub.ensures c.conjugate_marks-pair_group.ensures)
    c.pair_name-pair_name.ensures
    (subst (λ xs. IsListing comes_before (InTwinningGroup (In xs) c.args.element.now) c.joined_marks-twin_group.result) c.sub-sub.ensures c.joined_marks-twin_group.ensures)
    c.first_name-twin_name.ensures

pub pair_name-pair_name-requires-clause-named : goal.pair_name-pair_name-requires-clause-named
pair_name-pair_name-requires-clause-named c =
    subst (λ xs. IsNameOf c.args.sub_name.now (In xs)) (sym (c.marks.ensures ∙ c.sub-sub.ensures)) c.requires.named

pub pair_name-pair_name-requires-clause-below : goal.pair_name-pair_name-requires-clause-below
pair_name-pair_name-requires-clause-below c =
    subst (IsWithin c.conjugate_marks-pair_group.result) (sym c.marks.ensures) (λ k h. ((c.conjugate_marks-pair_group.ensures.members k).0 h).0)
