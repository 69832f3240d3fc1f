use Rattle.list_laws.proofs.Kit.{◌≡◌, ◌≤◌, ◌+◌, ℕ, Bool, List, [], ◌∷◌, ◌++◌, length, refl, ap, sym, subst, ◌∙◌, arith, map_push}
use Rattle.std.specs.Prelude.{map}
use Rattle.list_laws.proofs.Members.{each_map}
use Rattle.tensor_defs.specs.PairClasses as defs
use Rattle.twin_pairs.specs.Classes.{class_of}
use Rattle.twin_pairs.proofs.Assembly.{classing_none, classing_push, classing_skip, IsSeen, no_earlier, seen_kept, seen_none, seen_push}
use Rattle.twin_pairs.proofs.Listings.{state_within}
use Rattle.twin_pairs.proofs.pair_classes.Goals.{then-not-seen-place+in_ok-class+in_ok-append, else-not-seen-place}
use Rattle.twin_pairs.proofs.pair_classes.Goals as goal

pub loop-place-init : goal.loop-place-init
loop-place-init c = record {
  classing = classing_none c.args.states.now c.count-place-end.ensures.groups.0 c.count-place-end.ensures.groups.1 c.count-place-end.ensures.within
      c.count-place-end.ensures.states (map class_of c.in_ok-classes.classes.items) (ap (map class_of) c.in_ok-classes.ensures.items);
  seen = seen_none (map class_of c.in_ok-classes.classes.items) _ (ap (map class_of) c.in_ok-classes.ensures.items) refl;
}

pub pair_class-requires-clause-inside : goal.pair_class-requires-clause-inside
pair_class-requires-clause-inside c =
    state_within c.args.states.now.whole c.args.states.now.sub c.args.states.now.reps c.count-place-end.ensures.states (c.loop-place.place + 1)
    c.representative-element.result c.representative-element.ensures

pub pair_class-requires-clause-first : goal.pair_class-requires-clause-first
pair_class-requires-clause-first c =
    no_earlier c.args.states.now c.count-place-end.ensures.groups.0 c.count-place-end.ensures.groups.1 c.count-place-end.ensures.within
    c.count-place-end.ensures.states c.loop-place.place c.representative-element.result (map class_of c.loop-place.classes.items) c.loop-place.seen
    c.loop-place.invariant.classing c.loop-place.invariant.seen c.representative-element.ensures c.if-not-seen-place.true

pub mark_members-requires-clause-few : goal.mark_members-requires-clause-few
mark_members-requires-clause-few c =
    let is = c.count-place-end.ensures.is in
    let few = c.count-place-end.ensures.few in
    each_map (λ (l : ℕ). (1 ≤ l) × (l ≤ length c.args.states.now.reps)) (λ l. l ≤ 128) (λ l p. let q = p.1 in omega (arith, q, is, few))
    c.in_ok-class.class.members c.in_ok-class.ensures.1.within

pub loop-place-preserved : goal.loop-place-preserved
loop-place-preserved c =
    let ds : List defs.PairClass = map class_of c.loop-place.classes.items in
    let ds' : List defs.PairClass = map class_of c.if-not-seen-place.classes.items in
    let P : List Bool → Type 0 = λ m. IsSeen (map class_of c.if-not-seen-place.classes.items) m in
    elim c.if-not-seen-place.branch [
      | then-not-seen-place+in_ok-class+in_ok-append y ↦
          let x : defs.PairClass = class_of y.in_ok-class.class in
          let pushed : ds' ≡ ds ++ class_of y.in_ok-class.class ∷ [] =
          ap (λ v. map class_of v.items) y.classes-is ∙ ap (map class_of) y.in_ok-append.ensures ∙ map_push class_of c.loop-place.classes.items y.in_ok-class.class in
          record {
            classing = classing_push c.args.states.now c.count-place-end.ensures.groups.0 c.count-place-end.ensures.groups.1 c.count-place-end.ensures.within
                c.count-place-end.ensures.states c.loop-place.place y.representative-element.result ds ds' x c.loop-place.invariant.classing pushed y.in_ok-class.ensures;
            seen = subst P (sym y.seen-is) (seen_push ds ds' x c.loop-place.seen _ c.loop-place.invariant.seen pushed y.mark_members.ensures.sized y.mark_members.ensures.added);
          }
      | else-not-seen-place y ↦
          let same : ds' ≡ ds = ap (λ v. map class_of v.items) y.classes-is in
          record {
            classing = classing_skip c.args.states.now c.count-place-end.ensures.groups.0 c.count-place-end.ensures.groups.1 c.count-place-end.ensures.within
                c.count-place-end.ensures.states c.loop-place.place ds ds' c.loop-place.seen c.loop-place.invariant.classing c.loop-place.invariant.seen same y.if-not-seen-place.false;
            seen = subst P (sym y.seen-is) (seen_kept ds ds' c.loop-place.seen c.loop-place.invariant.seen same);
          }
    ]
