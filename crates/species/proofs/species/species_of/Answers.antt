use Rattle.std.proofs.Common.{◌≡◌}
use Rattle.magnetic_groups.specs.Sets.{In}
use Rattle.jahn_grammar.specs.Symbols.{symbol_of}
use Rattle.tensor_rank.specs.AnyShapes.{IsAnyShapeOf}
use Rattle.state_marks.specs.Told.{MarksGrow}
use Rattle.state_marks.specs.declared.faults.DifferFault.TheVariants.{TooLarge}
use Rattle.species.specs.Species.{AreLeaders, IsKind, property_symbol}
use Rattle.species.proofs.Symbols.{at_symbol, err_at_symbol}
use Rattle.species.proofs.species.species_of.Goals as goal

pub returns-in-Ok-compile-clause-kind : goal.returns-in-Ok-compile-clause-kind
returns-in-Ok-compile-clause-kind c =
    let s = c.args.states.now in
    at_symbol (λ j. IsAnyShapeOf j c.in-Ok-compile.shape) (symbol_of c.in-Ok.jahn) (property_symbol c.args.property)
    c.in-Ok-compile.ensures c.in-Ok.ensures.symbol (λ j x. IsKind j (In s.sub) s.reps x.kind) c.species_in.result
    c.species_in.ensures.kind

pub returns-in-Ok-compile-clause-classes : goal.returns-in-Ok-compile-clause-classes
returns-in-Ok-compile-clause-classes c =
    let s = c.args.states.now in
    at_symbol (λ j. IsAnyShapeOf j c.in-Ok-compile.shape) (symbol_of c.in-Ok.jahn) (property_symbol c.args.property)
    c.in-Ok-compile.ensures c.in-Ok.ensures.symbol (λ j x. AreLeaders j (In s.sub) s.reps x.classes) c.species_in.result
    c.species_in.ensures.classes

pub returns-in-Ok-compile-clause-calm : goal.returns-in-Ok-compile-clause-calm
returns-in-Ok-compile-clause-calm c =
    let s = c.args.states.now in
    at_symbol (λ j. IsAnyShapeOf j c.in-Ok-compile.shape) (symbol_of c.in-Ok.jahn) (property_symbol c.args.property)
    c.in-Ok-compile.ensures c.in-Ok.ensures.symbol (λ j x. MarksGrow j (In s.whole) (In s.sub) → ⊥) c.species_in.result
    c.species_in.ensures.calm

pub returns-in-Ok-compile-clause-grows : goal.returns-in-Ok-compile-clause-grows
returns-in-Ok-compile-clause-grows c =
    let s = c.args.states.now in
    err_at_symbol (λ j. IsAnyShapeOf j c.in-Ok-compile.shape) (symbol_of c.in-Ok.jahn) (property_symbol c.args.property)
    c.in-Ok-compile.ensures c.in-Ok.ensures.symbol (λ e. e ≡ TooLarge) (λ j. MarksGrow j (In s.whole) (In s.sub))
    c.species_in.result c.species_in.ensures.grows
