use Rattle.list_laws.proofs.Kit.{◌≡◌, [], ◌∷◌, map, string_bytes, subst, rules, arith, common_steps}
use Rattle.std.specs.Prelude.{IfOk}
use Rattle.tool_runs.specs.Tools.{Words}
use Rattle.species_runs.specs.Stops.{IsAnswered}
use Rattle.species_runs.proofs.runs.answer_words.Goals as goal

pub returns-clause-text : goal.returns-clause-text
returns-clause-text c =
    let same : c.as_bytes.result.now ∷ c.as_bytes-2.result.now ∷ [] ≡ map string_bytes c.args.words.now = first_of (search rules, grind (arith, common_steps)) in
    subst (λ (words : Words). IfOk c.answer_texts.result (λ text. IsAnswered words text.items)) same c.answer_texts.ensures.text
