use Rattle.std.proofs.Common.{◌≡◌, List, length, refl, ap, subst, sym, arith}
use Rattle.std.specs.Prelude.{Contains, slice_index_or}
use Rattle.tensor_defs.specs.Operation.{Operation}
use Rattle.twin_pairs.specs.Classes.{IsLast}
use Rattle.twin_pairs.proofs.Marking.{last_more, last_none, marking_none, marking_more, marking_done}
use Rattle.twin_pairs.proofs.mark_states.Goals as goal

pub loop-place-init : goal.loop-place-init
loop-place-init c = (marking_none c.args.states.now c.args.element.now _ refl, last_none _ refl)

pub loop-place-preserved : goal.loop-place-preserved
loop-place-preserved c =
    let P : List Operation → Type 0 = λ xs. Contains xs c.at.result in
    let Q : List Operation → Type 0 = λ xs. (d : Operation) → slice_index_or xs c.loop-place.place d ≡ c.at.result in (
      marking_more c.args.states.now c.args.element.now c.count-count.ensures.groups.0 c.count-count.ensures.groups.1 c.count-count.ensures.within
          c.count-count.ensures.states c.requires c.loop-place.place c.state_of_product-state.result c.at.result c.loop-place.marks c.loop-place.invariant.0
          (subst P c.sub-sub.ensures c.at.ensures.element) (subst Q c.sub-sub.ensures c.at.ensures.reads)
          (record { state = λ x p. c.state_of_product-state.ensures.state x p; only = λ x s l p is t. c.state_of_product-state.ensures.only x s l p is t })
          c.state_of_product-state.ensures.few,
      subst (IsLast _) (sym c.max-last.ensures) (last_more c.loop-place.marks c.state_of_product-state.result c.loop-place.last c.loop-place.invariant.1),
    )

pub returns-clause-marked : goal.returns-clause-marked
returns-clause-marked c =
    let h : length c.sub-sub.result.now ≡ length c.args.states.now.sub = ap length c.sub-sub.ensures in
    marking_done c.args.states.now c.args.element.now c.count-count.ensures.groups.0 c.count-count.ensures.groups.1 c.count-count.ensures.within
    c.count-count.ensures.states c.requires c.loop-place.place c.loop-place.marks c.loop-place.invariant.0 (omega (arith, h))
