use Rattle.std.proofs.Common.{◌≡◌, sym, subst, Result}
use Rattle.std.specs.Prelude.{IfErr, IfOk}
use Rattle.tensor_defs.specs.Jahn.{JahnSymbol}
use Rattle.magnetic_groups.specs.Sets.{In}
use Rattle.tensor_rank.specs.AnyShapes.{IsAnyShapeOf}
use Rattle.tensor_rank.specs.declared.symbols.AnyShape.{AnyShape}
use Rattle.coset_states.specs.Numbering.{Cosets}
use Rattle.state_marks.specs.Told.{MarksGrow}
use Rattle.state_marks.specs.declared.faults.DifferFault.{DifferFault}
use Rattle.state_marks.specs.declared.faults.DifferFault.TheVariants.{TooLarge}
use Rattle.species.specs.declared.species.Species.{Species}
use Rattle.species.proofs.species.species_in.Goals as goal

-- what holds for the symbols of a shape holds for those of the shape in its variant
calm_at : (s : Cosets) (r : Result Species DifferFault) (a b : AnyShape) → a ≡ b →
    IfOk r (λ _. (j : JahnSymbol) → IsAnyShapeOf j b → MarksGrow j (In s.whole) (In s.sub) → ⊥) →
    IfOk r (λ _. (j : JahnSymbol) → IsAnyShapeOf j a → MarksGrow j (In s.whole) (In s.sub) → ⊥)
calm_at s r a b e = subst (λ (x : AnyShape). IfOk r (λ _. (j : JahnSymbol) → IsAnyShapeOf j x → MarksGrow j (In s.whole) (In s.sub) → ⊥)) (sym e)

grows_at : (s : Cosets) (r : Result Species DifferFault) (a b : AnyShape) → a ≡ b →
    IfErr r (λ e. e ≡ TooLarge → (j : JahnSymbol) → IsAnyShapeOf j b → MarksGrow j (In s.whole) (In s.sub)) →
    IfErr r (λ e. e ≡ TooLarge → (j : JahnSymbol) → IsAnyShapeOf j a → MarksGrow j (In s.whole) (In s.sub))
grows_at s r a b e = subst (λ (x : AnyShape). IfErr r (λ e. e ≡ TooLarge → (j : JahnSymbol) → IsAnyShapeOf j x → MarksGrow j (In s.whole) (In s.sub))) (sym e)

pub returns-in-Zero-at_rank-clause-calm : goal.returns-in-Zero-at_rank-clause-calm
returns-in-Zero-at_rank-clause-calm c = calm_at c.args.states.now c.species_at.result c.args.shape _ c.in-Zero-at_rank.is c.species_at.ensures.calm

pub returns-in-Zero-at_rank-clause-grows : goal.returns-in-Zero-at_rank-clause-grows
returns-in-Zero-at_rank-clause-grows c = grows_at c.args.states.now c.species_at.result c.args.shape _ c.in-Zero-at_rank.is c.species_at.ensures.grows

pub returns-in-One-at_rank-clause-calm : goal.returns-in-One-at_rank-clause-calm
returns-in-One-at_rank-clause-calm c = calm_at c.args.states.now c.species_at-2.result c.args.shape _ c.in-One-at_rank.is c.species_at-2.ensures.calm

pub returns-in-One-at_rank-clause-grows : goal.returns-in-One-at_rank-clause-grows
returns-in-One-at_rank-clause-grows c = grows_at c.args.states.now c.species_at-2.result c.args.shape _ c.in-One-at_rank.is c.species_at-2.ensures.grows

pub returns-in-Two-at_rank-clause-calm : goal.returns-in-Two-at_rank-clause-calm
returns-in-Two-at_rank-clause-calm c = calm_at c.args.states.now c.species_at-3.result c.args.shape _ c.in-Two-at_rank.is c.species_at-3.ensures.calm

pub returns-in-Two-at_rank-clause-grows : goal.returns-in-Two-at_rank-clause-grows
returns-in-Two-at_rank-clause-grows c = grows_at c.args.states.now c.species_at-3.result c.args.shape _ c.in-Two-at_rank.is c.species_at-3.ensures.grows

pub returns-in-Three-at_rank-clause-calm : goal.returns-in-Three-at_rank-clause-calm
returns-in-Three-at_rank-clause-calm c = calm_at c.args.states.now c.species_at-4.result c.args.shape _ c.in-Three-at_rank.is c.species_at-4.ensures.calm

pub returns-in-Three-at_rank-clause-grows : goal.returns-in-Three-at_rank-clause-grows
returns-in-Three-at_rank-clause-grows c = grows_at c.args.states.now c.species_at-4.result c.args.shape _ c.in-Three-at_rank.is c.species_at-4.ensures.grows

pub returns-in-Four-at_rank-clause-calm : goal.returns-in-Four-at_rank-clause-calm
returns-in-Four-at_rank-clause-calm c = calm_at c.args.states.now c.species_at-5.result c.args.shape _ c.in-Four-at_rank.is c.species_at-5.ensures.calm

pub returns-in-Four-at_rank-clause-grows : goal.returns-in-Four-at_rank-clause-grows
returns-in-Four-at_rank-clause-grows c = grows_at c.args.states.now c.species_at-5.result c.args.shape _ c.in-Four-at_rank.is c.species_at-5.ensures.grows

pub returns-in-Five-at_rank-clause-calm : goal.returns-in-Five-at_rank-clause-calm
returns-in-Five-at_rank-clause-calm c = calm_at c.args.states.now c.species_at-6.result c.args.shape _ c.in-Five-at_rank.is c.species_at-6.ensures.calm

pub returns-in-Five-at_rank-clause-grows : goal.returns-in-Five-at_rank-clause-grows
returns-in-Five-at_rank-clause-grows c = grows_at c.args.states.now c.species_at-6.result c.args.shape _ c.in-Five-at_rank.is c.species_at-6.ensures.grows

pub returns-in-Six-at_rank-clause-calm : goal.returns-in-Six-at_rank-clause-calm
returns-in-Six-at_rank-clause-calm c = calm_at c.args.states.now c.species_at-7.result c.args.shape _ c.in-Six-at_rank.is c.species_at-7.ensures.calm

pub returns-in-Six-at_rank-clause-grows : goal.returns-in-Six-at_rank-clause-grows
returns-in-Six-at_rank-clause-grows c = grows_at c.args.states.now c.species_at-7.result c.args.shape _ c.in-Six-at_rank.is c.species_at-7.ensures.grows
