use Rattle.std.proofs.Common.{List, [], sym, subst}
use Rattle.tensor_defs.specs.Prelude.{AreUnknowns, GrowsFrom, Each, Index}
use Rattle.tensor_rank.specs.Orders.{before_at, before_of}
use Rattle.constraint_rows.specs.WordRows.{AreParts, IsGiven, carrier_of}
use Rattle.constraint_rows.specs.declared.rows.Part.{Part}
use Rattle.reduced_form.specs.Prelude.{form_table, FitsSet, IsSolution, lines_at}
use Rattle.reduced_form.proofs.AxisForms.{words_given}
use Rattle.reduced_form.proofs.ToldLaws.{err_same}
use Rattle.limiting_groups.proofs.Tables.{curie_calm, curie_fits, curie_grows, turning}
use Rattle.limiting_groups.proofs.forms.curie_form.Goals as goal

pub eliminate-requires-clause-rows : goal.eliminate-requires-clause-rows
eliminate-requires-clause-rows g c =
    let r = g.R.Rank.R in
    let before = before_at r c.index-order.result in
    let es = c.in_ok-classes.classes in
    subst (λ (rows : List (List Part)). Each (IsGiven before es) rows) (sym c.deref.ensures.value)
    (words_given r before es (turning r) c.in_ok-rows.rows.items c.in_ok-rows.ensures.rows)

pub returns-in_err-form-clause-grows : goal.returns-in_err-form-clause-grows
returns-in_err-form-clause-grows g c =
    let r = g.R.Rank.R in
    let es = c.in_ok-classes.classes in
    let o = c.index-order.result in
    err_same c.from_residual-in_err-form.result c.in_err-form.field-0.0 _ c.from_residual-in_err-form.ensures.1
    (λ p. curie_grows c.args.group c.in_ok-elements.elements c.in_ok-elements.ensures g.R.Rank.LEN es c.in_ok-rows.rows.items r
    c.args.shape.now g.R.Rank.power o c.index-order.ensures c.in_ok-classes.ensures.sound c.in_ok-rows.ensures.rows
    c.in_ok-classes.ensures.representatives
    (subst (λ (rows : List (List Part)). (us : List Index) → AreUnknowns r (before_of o) (carrier_of r es) us → GrowsFrom [] (lines_at us rows))
    c.deref.ensures.value (c.in_err-form.ensures.grows p)))

pub returns-clause-fits : goal.returns-clause-fits
returns-clause-fits g c =
    let r = g.R.Rank.R in
    let es = c.in_ok-classes.classes in
    let o = c.index-order.result in
    curie_fits c.args.group c.in_ok-elements.elements c.in_ok-elements.ensures g.R.Rank.LEN es c.in_ok-rows.rows.items r
    c.args.shape.now g.R.Rank.power o c.index-order.ensures c.in_ok-classes.ensures.sound c.in_ok-rows.ensures.rows
    c.in_ok-classes.ensures.representatives c.turning_rows_decide.ensures
    (subst (λ (rows : List (List Part)). Each (AreParts g.R.Rank.LEN) rows) c.deref.ensures.value c.in_ok-form.ensures.parts)
    (form_table r c.in_ok-form.form)
    (subst (λ (rows : List (List Part)). FitsSet r (IsSolution r es rows) (before_of o) (form_table r c.in_ok-form.form))
    c.deref.ensures.value c.in_ok-form.ensures.fits)

pub returns-clause-calm : goal.returns-clause-calm
returns-clause-calm g c =
    let r = g.R.Rank.R in
    let es = c.in_ok-classes.classes in
    let o = c.index-order.result in
    curie_calm c.args.group c.in_ok-elements.elements c.in_ok-elements.ensures g.R.Rank.LEN es c.in_ok-rows.rows.items r
    c.args.shape.now g.R.Rank.power o c.index-order.ensures c.in_ok-classes.ensures.sound c.in_ok-rows.ensures.rows
    c.in_ok-classes.ensures.representatives c.one_elimination.ensures
    (subst (λ (rows : List (List Part)). (us : List Index) → AreUnknowns r (before_of o) (carrier_of r es) us → GrowsFrom [] (lines_at us rows) → ⊥)
    c.deref.ensures.value c.in_ok-form.ensures.calm)
