-- Two accepted symbols.
--   pair_answered   the answer, and that no refusal applies
--   pair_too_large    a number grows too large
use Rattle.std.proofs.Common.{◌≡◌, ℕ, List, subst}
use Rattle.tensor_defs.specs.Prelude.{InGroup, IsListing, Operation, comes_before, AreStates, GroupSymbol}
use Rattle.magnetic_groups.specs.Sets.{In, IsWithin}
use Rattle.coset_states.specs.Numbering.{Cosets}
use Rattle.tool_runs.specs.declared.refusals.RefusalName.{RefusalName}
use Rattle.tool_runs.specs.declared.refusals.RefusalName.TheVariants as Name
use Rattle.state_answers.proofs.Outside.{none_outside}
use Rattle.state_answers.proofs.SameSets.{states_same}
use Rattle.differ_answers.proofs.StateTexts.{grows_back, grows_told}
use Rattle.species.specs.Species.{property_symbol}
use Rattle.species_runs.specs.SpeciesTexts.{IsSpeciesOver, SomeGrows}
use Rattle.species_runs.specs.SpeciesWords.{RefusesPair}
use Rattle.species_runs.specs.Stops.{IsPairAnswered}
use Rattle.species_runs.proofs.PropertyLines.{species_same}

module _ (g f : GroupSymbol) (gs fs : List Operation) (lg : IsListing comes_before (InGroup g) gs)
    (lf : IsListing comes_before (InGroup f) fs) (within : IsWithin fs gs) where
  none_refused : (SomeGrows (In gs) (In fs) → ⊥) → (name : RefusalName) → RefusesPair g f name → ⊥
  none_refused calm (Name.NotSub k) h = none_outside g f gs fs lg lf within k h
  none_refused calm Name.TooLarge h =
      calm (h.1.0, grows_back g f (property_symbol h.1.0) gs fs lg.members lf.members h.1.1)
  none_refused calm Name.Long h = h
  none_refused calm Name.Syntax h = h
  none_refused calm Name.Primes h = h
  none_refused calm Name.Rank h = h
  none_refused calm Name.Twice h = h
  none_refused calm Name.NoName h = h

  pub pair_answered : (s : Cosets) (text : List ℕ) → s.whole ≡ gs → s.sub ≡ fs → AreStates (In gs) (In fs) s.reps →
      IsSpeciesOver g f (In s.sub) s.reps text → (SomeGrows (In s.whole) (In s.sub) → ⊥) → IsPairAnswered g f text
  pair_answered s text whole sub states over calm = (
    none_refused (subst (λ (xs : List Operation). SomeGrows (In xs) (In fs) → ⊥) whole
        (subst (λ (ys : List Operation). SomeGrows (In s.whole) (In ys) → ⊥) sub calm)),
    (
      s.reps,
      states_same (In gs) (InGroup g) (In fs) (InGroup f) lg.members lf.members s.reps states,
      species_same g f (In fs) (InGroup f) lf.members s.reps text
          (subst (λ (ys : List Operation). IsSpeciesOver g f (In ys) s.reps text) sub over),
    ),
  )

  pub pair_too_large : (s : Cosets) → s.whole ≡ gs → s.sub ≡ fs → SomeGrows (In s.whole) (In s.sub) →
      RefusesPair g f Name.TooLarge
  pair_too_large s whole sub grows =
      let own : SomeGrows (In gs) (In fs) = subst (λ (xs : List Operation). SomeGrows (In xs) (In fs)) whole
      (subst (λ (ys : List Operation). SomeGrows (In s.whole) (In ys)) sub grows) in (
        none_outside g f gs fs lg lf within,
        (own.0, grows_told g f (property_symbol own.0) gs fs lg.members lf.members own.1),
      )
