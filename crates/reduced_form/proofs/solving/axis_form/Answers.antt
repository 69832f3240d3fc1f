use Rattle.std.proofs.Common.{List, [], sym, subst}
use Rattle.std.specs.Prelude.{filter}
use Rattle.tensor_defs.specs.Prelude.{AreUnknowns, GrowsFrom, Each, Index, is_used, words}
use Rattle.tensor_rank.specs.Orders.{before_at, before_of}
use Rattle.constraint_rows.specs.WordRows.{AreParts, IsGiven, carrier_of}
use Rattle.constraint_rows.specs.declared.rows.Part.{Part}
use Rattle.reduced_form.specs.Prelude.{form_table, FitsSet, IsSolution, lines_at}
use Rattle.reduced_form.proofs.AxisForms.{axis_calm, axis_fits, axis_grows, words_given}
use Rattle.reduced_form.proofs.ToldLaws.{err_same}
use Rattle.reduced_form.proofs.solving.axis_form.Goals as goal

pub eliminate-requires-clause-rows : goal.eliminate-requires-clause-rows
eliminate-requires-clause-rows g c =
    let r = g.R.Rank.R in
    let before = before_at r c.args.order.now in
    let es = c.in_ok-classes.classes in
    subst (λ (rows : List (List Part)). Each (IsGiven before es) rows) (sym c.deref.ensures.value)
    (words_given r before es (filter is_used (words r)) c.in_ok-rows.rows.items c.in_ok-rows.ensures.rows)

pub returns-in_err-form-clause-grows : goal.returns-in_err-form-clause-grows
returns-in_err-form-clause-grows g c =
    let r = g.R.Rank.R in
    let es = c.in_ok-classes.classes in
    err_same c.from_residual-in_err-form.result c.in_err-form.field-0.0 _ c.from_residual-in_err-form.ensures.1
    (λ p. axis_grows c.args.group.now g.R.Rank.LEN r c.args.order.now es c.in_ok-rows.rows.items c.args.shape.now g.R.Rank.power
    c.in_ok-classes.ensures.sound c.in_ok-rows.ensures.rows c.in_ok-classes.ensures.representatives c.requires.framed c.requires.other
    (subst (λ (rows : List (List Part)). (us : List Index) → AreUnknowns r (before_of c.args.order.now) (carrier_of r es) us → GrowsFrom [] (lines_at us rows))
    c.deref.ensures.value (c.in_err-form.ensures.grows p)))

pub returns-clause-fits : goal.returns-clause-fits
returns-clause-fits g c =
    let r = g.R.Rank.R in
    let es = c.in_ok-classes.classes in
    axis_fits c.args.group.now g.R.Rank.LEN r c.args.order.now es c.in_ok-rows.rows.items c.args.shape.now g.R.Rank.power
    c.in_ok-classes.ensures.sound c.in_ok-rows.ensures.rows c.in_ok-classes.ensures.representatives c.rows_decide_invariance.ensures
    c.len-elements.ensures.group c.requires.framed c.requires.other
    (subst (λ (rows : List (List Part)). Each (AreParts g.R.Rank.LEN) rows) c.deref.ensures.value c.in_ok-form.ensures.parts)
    (form_table r c.in_ok-form.form)
    (subst (λ (rows : List (List Part)). FitsSet r (IsSolution r es rows) (before_of c.args.order.now) (form_table r c.in_ok-form.form))
    c.deref.ensures.value c.in_ok-form.ensures.fits)

pub returns-clause-calm : goal.returns-clause-calm
returns-clause-calm g c =
    let r = g.R.Rank.R in
    let es = c.in_ok-classes.classes in
    axis_calm c.args.group.now g.R.Rank.LEN r c.args.order.now es c.in_ok-rows.rows.items c.args.shape.now g.R.Rank.power
    c.in_ok-classes.ensures.sound c.in_ok-rows.ensures.rows c.in_ok-classes.ensures.representatives c.one_elimination.ensures
    (subst (λ (rows : List (List Part)). (us : List Index) → AreUnknowns r (before_of c.args.order.now) (carrier_of r es) us → GrowsFrom [] (lines_at us rows) → ⊥)
    c.deref.ensures.value c.in_ok-form.ensures.calm)

pub returns-clause-formed : goal.returns-clause-formed
returns-clause-formed g c = c.in_ok-form.ensures.fits.well_formed
