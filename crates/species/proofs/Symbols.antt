-- The symbols of properties.
--   property_is_symbol, property_rank    their powers are in range, and their ranks are 1 and 2
--   at_symbol, err_at_symbol    what holds for every symbol of a shape, at one of them
use Rattle.std.proofs.Common.{◌≡◌, ◌≤◌, subst, lit≤, Result, Ok, Err}
use Rattle.std.specs.Prelude.{IfErr, IfOk}
use Rattle.tensor_defs.specs.Jahn.{IsJahnSymbol, JahnSymbol, rank}
use Rattle.species.specs.declared.properties.Property.{Property}
use Rattle.species.specs.declared.properties.Property.TheVariants.{Electric, Elastic, Magnetic}
use Rattle.species.specs.Species.{property_symbol}

pub property_is_symbol : (p : Property) → IsJahnSymbol (property_symbol p)
property_is_symbol Electric = ((tt, lit≤ tt, lit≤ tt), tt)
property_is_symbol Elastic = ((((lit≤ tt, lit≤ tt), tt), lit≤ tt, lit≤ tt), tt)
property_is_symbol Magnetic = ((tt, lit≤ tt, lit≤ tt), tt)

pub property_rank : (p : Property) → rank (property_symbol p) ≤ 6
property_rank Electric = lit≤ tt
property_rank Elastic = lit≤ tt
property_rank Magnetic = lit≤ tt

module _ (S : JahnSymbol → Type 0) (i p : JahnSymbol) (here : S i) (same : i ≡ p) where
  pub at_symbol : {X E : Type 0} (P : JahnSymbol → X → Type 0) (r : Result X E) → IfOk r (λ x. (j : JahnSymbol) → S j → P j x) →
      IfOk r (λ x. P p x)
  at_symbol P (Ok x) h = subst (λ j. P j x) same (h i here)
  at_symbol P (Err e) h = tt

  pub err_at_symbol : {X E : Type 0} (Q : E → Type 0) (P : JahnSymbol → Type 0) (r : Result X E) →
      IfErr r (λ e. Q e → (j : JahnSymbol) → S j → P j) → IfErr r (λ e. Q e → P p)
  err_at_symbol Q P (Ok x) h = tt
  err_at_symbol Q P (Err e) h = λ q. subst P same (h q i here)
