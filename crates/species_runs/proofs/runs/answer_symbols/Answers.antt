use Rattle.std.proofs.Common.{[], ◌∷◌, ◌∙◌, Err, ap, inl, inr, refl, subst, sym}
use Rattle.tool_runs.specs.Tools.{Words}
use Rattle.tool_runs.proofs.Refusing.{none_refuses}
use Rattle.magnetic_groups.specs.declared.build.GroupFault.{GroupFault}
use Rattle.species_runs.specs.SpeciesWords.{AreAsked, RefusesAs}
use Rattle.species_runs.specs.Stops.{IsStop}
use Rattle.species_runs.proofs.Refusing.{none_applies}
use Rattle.species_runs.proofs.runs.answer_symbols.Goals as goal

pub returns-in-Err-Primes-clause-stop : goal.returns-in-Err-Primes-clause-stop
returns-in-Err-Primes-clause-stop c =
    let words : Words = c.args.group.now ∷ c.args.subgroup.now ∷ [] in
    let out = c.build_group.ensures.primes (c.in-Err-Primes.is ∙ ap (λ (e : GroupFault). Err e) c.in-Err-Primes.field-0-is) in
    subst (IsStop words) (sym c.refused.ensures) (c.args.g.now, c.args.f.now, c.requires, inl (out, refl), refl)

pub returns-in-Err-Primes-build_group-clause-stop : goal.returns-in-Err-Primes-build_group-clause-stop
returns-in-Err-Primes-build_group-clause-stop c =
    let words : Words = c.args.group.now ∷ c.args.subgroup.now ∷ [] in
    let out = c.build_group-2.ensures.primes
    (c.in-Err-Primes-build_group.is ∙ ap (λ (e : GroupFault). Err e) c.in-Err-Primes-build_group.field-0-is) in
    subst (IsStop words) (sym c.refused-in-Err-Primes-build_group.ensures)
    (c.args.g.now, c.args.f.now, c.requires, inr (c.in-Ok.ensures.accepted, out, refl), refl)

pub returns-in-Ok-answer_groups-clause-text : goal.returns-in-Ok-answer_groups-clause-text
returns-in-Ok-answer_groups-clause-text c =
    let words : Words = c.args.group.now ∷ c.args.subgroup.now ∷ [] in
    let asked : AreAsked words c.args.g.now c.args.f.now = record {
      spelled = c.requires;
      group_accepted = c.in-Ok.ensures.accepted;
      subgroup_accepted = c.in-Ok-build_group.ensures.accepted;
    } in (
      none_refuses RefusesAs words
          (none_applies c.one_group_symbol.ensures words c.args.g.now c.args.f.now asked c.in-Ok-answer_groups.ensures.text.0),
      (c.args.g.now, c.args.f.now, asked, c.in-Ok-answer_groups.ensures.text.1),
    )
