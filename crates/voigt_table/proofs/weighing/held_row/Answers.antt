use Rattle.std.proofs.Common.{◌≤◌, ◌<◌, length, arith, below_more, rules, subst}
use Rattle.std.proofs.lemmas.List.{get_or_default}
use Rattle.exact_frac.specs.Held.{IsHeld}
use Rattle.list_laws.proofs.Members.{each_get}
use Rattle.reduced_form.specs.declared.forms.Term.{Term}
use Rattle.voigt_table.proofs.TableLaws.{no_term}
use Rattle.voigt_table.proofs.weighing.held_row.Goals as goal

pub loop-place-preserved : goal.loop-place-preserved
loop-place-preserved c =
    let inside : c.loop-place.place < length c.args.row.now = search rules in
    record {
      held = below_more _ _ c.loop-place.invariant.held
          (subst (λ (t : Term). IsHeld t.factor)
          (get_or_default c.args.row.now c.loop-place.place c.index-row-place.result no_term inside)
          c.in_lowest_terms.ensures.held);
    }

pub returns : goal.returns
returns c =
    let end : length c.args.row.now ≤ c.loop-place.place = search rules in
    each_get (λ t. IsHeld t.factor) no_term c.args.row.now (λ k l. c.loop-place.invariant.held k (omega (arith, l, end)))
