use Rattle.std.proofs.Common.{◌≡◌, ◌<◌, List, length, arith, ap, sym, ◌∙◌, subst}
use Rattle.std.proofs.lemmas.Grind.{common_steps}
use Rattle.tensor_defs.specs.Prelude.{Each}
use Rattle.reduced_form.specs.declared.forms.Term.{Term}
use Rattle.reduced_form.specs.Forms.{FormValue, row_at}
use Rattle.reduced_form.proofs.forms.Form.row.Goals as goal

pub returns-clause-named : goal.returns-clause-named
returns-clause-named g c =
    let f : FormValue = c.args.self.now in
    let each : Each (λ t. t.free < length f.free) (row_at f.rows c.number.result) =
    subst (λ (v : FormValue). Each (λ t. t.free < length v.free) (row_at v.rows c.number.result)) c.self.view_is (c.self.invariant.named c.number.result c.number.ensures.in_range) in
    let is : c.as_slice.result.now ≡ row_at f.rows c.args.c = grind (arith, common_steps) in
    subst (λ (ts : List Term). Each (λ t. t.free < length f.free) ts) (ap (row_at f.rows) c.number.ensures.same ∙ sym is) each
