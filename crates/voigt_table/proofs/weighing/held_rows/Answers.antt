use Rattle.std.proofs.Common.{◌<◌, List, [], length, below_more, rules, ap, sym, ◌∙◌, subst}
use Rattle.std.proofs.lemmas.List.{get_or-map}
use Rattle.reduced_form.specs.declared.forms.Term.{Term}
use Rattle.voigt_table.specs.Weighing.{AreHeld}
use Rattle.voigt_table.proofs.weighing.held_rows.Goals as goal

pub loop-c-preserved : goal.loop-c-preserved
loop-c-preserved c =
    let inside : c.loop-c.c < length c.args.rows.now = search rules in
    record {
      held = below_more _ _ c.loop-c.invariant.held
          (subst (λ (ts : List Term). AreHeld ts)
          (c.as_slice.ensures ∙ ap (λ row. row.items) c.index-rows-c.is
          ∙ sym (get_or-map (λ row. row.items) c.args.rows.now c.loop-c.c c.index-rows-c.result [] inside))
          c.held_row.ensures);
    }
