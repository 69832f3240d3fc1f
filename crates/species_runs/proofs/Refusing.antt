-- Words that have an answer are not refused.
--   pair_refused    a refusal of two accepted symbols is one of the words
--   none_applies    where no refusal of the symbols applies, none of the words does
use Rattle.std.proofs.Common.{◌≡◌, ℕ, [], get_or, refl, subst, sym, inl, inr}
use Rattle.tensor_defs.specs.Prelude.{IsAccepted, GroupSymbol}
use Rattle.text_laws.specs.Laws.{OneGroupSymbol}
use Rattle.tool_runs.specs.Tools.{Words}
use Rattle.tool_runs.specs.declared.refusals.RefusalName.{RefusalName}
use Rattle.tool_runs.specs.declared.refusals.RefusalName.TheVariants as Name
use Rattle.tool_runs.proofs.LongWords.{none_first}
use Rattle.tool_runs.proofs.Refusing.{NoneApplies}
use Rattle.species_runs.specs.SpeciesWords.{AreAsked, AreSpelled, RefusesAs, RefusesPair}

pub pair_refused : (words : Words) (g f : GroupSymbol) → AreAsked words g f → (name : RefusalName) → RefusesPair g f name →
    RefusesAs name words 2 1
pair_refused words g f asked (Name.NotSub k) h = (g, f, asked, h, refl, refl)
pair_refused words g f asked Name.TooLarge h = (g, f, asked, h, refl, refl)
pair_refused words g f asked Name.Long h = absurd h
pair_refused words g f asked Name.Syntax h = absurd h
pair_refused words g f asked Name.Primes h = absurd h
pair_refused words g f asked Name.Rank h = absurd h
pair_refused words g f asked Name.Twice h = absurd h
pair_refused words g f asked Name.NoName h = absurd h

module _ (law : OneGroupSymbol) (words : Words) (g f : GroupSymbol) (asked : AreAsked words g f)
    (none : (name : RefusalName) → ¬ RefusesPair g f name) where
  group_same : (h k : GroupSymbol) → AreSpelled words h k → g ≡ h
  group_same h k other = law (get_or words 0 []) g h asked.spelled.group_is other.group_is

  subgroup_same : (h k : GroupSymbol) → AreSpelled words h k → f ≡ k
  subgroup_same h k other = law (get_or words 1 []) f k asked.spelled.subgroup_is other.subgroup_is

  no_pair : (name : RefusalName) (h k : GroupSymbol) → AreAsked words h k → RefusesPair h k name → ⊥
  no_pair name h k other refuses =
      none name (subst (λ (x : GroupSymbol). RefusesPair x f name) (sym (group_same h k other.spelled))
      (subst (λ (x : GroupSymbol). RefusesPair h x name) (sym (subgroup_same h k other.spelled)) refuses))

  pub none_applies : NoneApplies RefusesAs words
  none_applies Name.Long number column h = none_first words 1 number asked.spelled.short h.0
  none_applies Name.Syntax number column (short, place, first, is) = elim first [
    | inl x ↦ x.0.none (g, asked.spelled.group_is)
    | inr x ↦ x.1.none (f, asked.spelled.subgroup_is)
  ]
  none_applies Name.Primes number column (h, k, spelled, first, is) = elim first [
    | inl x ↦ x.0 (subst IsAccepted (group_same h k spelled) asked.group_accepted)
    | inr x ↦ x.1 (subst IsAccepted (subgroup_same h k spelled) asked.subgroup_accepted)
  ]
  none_applies Name.Rank number column (h, k, other, refuses, p, q) = no_pair Name.Rank h k other refuses
  none_applies (Name.NotSub n) number column (h, k, other, refuses, p, q) = no_pair (Name.NotSub n) h k other refuses
  none_applies Name.TooLarge number column (h, k, other, refuses, p, q) = no_pair Name.TooLarge h k other refuses
  none_applies Name.Twice number column (h, k, other, refuses, p, q) = no_pair Name.Twice h k other refuses
  none_applies Name.NoName number column (h, k, other, refuses, p, q) = no_pair Name.NoName h k other refuses
