use Rattle.list_laws.proofs.Kit.{◌≡◌, ap, ◌∙◌, length, arith, length-map}
use Rattle.reduced_form.specs.Prelude.{free_at, free_places, number_at}
use Rattle.reduced_form.proofs.Numbering.{number_few}
use Rattle.reduced_form.proofs.told.free_numbers.Goals as goal

pub overflow_cast-len : goal.overflow_cast-len
overflow_cast-len c =
    let at = c.args.tellers.now in
    let long : length c.loop-place.free.items ≡ number_at at c.loop-place.place =
    ap (λ xs. length xs) c.loop-place.invariant.free ∙ length-map (free_places at c.loop-place.place) (free_at c.args.unknowns.now) in
    let few = number_few at c.loop-place.place in
    omega (arith, long, few)
