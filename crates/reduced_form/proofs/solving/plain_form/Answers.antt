use Rattle.std.proofs.lemmas.Result.{IfOk-weaker}
use Rattle.tensor_rank.specs.Orders.{before_at}
use Rattle.constraint_rows.proofs.MakingLaws.{table_settled}
use Rattle.reduced_form.proofs.FormLaws.{form_factors, form_formed, form_units, solve_fits}
use Rattle.reduced_form.proofs.solving.plain_form.Goals as goal

pub form_of_classes-requires : goal.form_of_classes-requires
form_of_classes-requires g c = table_settled c.in_ok-classes.ensures.table

pub returns-clause-factors : goal.returns-clause-factors
returns-clause-factors g c = IfOk-weaker c.form_of_classes.result _ _ (λ f h. form_factors h) c.form_of_classes.ensures

pub returns-clause-fits : goal.returns-clause-fits
returns-clause-fits g c =
    IfOk-weaker c.form_of_classes.result _ _ (λ f h.
    solve_fits g.R.Rank.LEN g.R.Rank.R c.args.group.now c.args.shape.now c.args.order.now c.in_ok-classes.classes g.R.Rank.power
    c.in_ok-classes.ensures.table f h) c.form_of_classes.ensures

pub returns-clause-units : goal.returns-clause-units
returns-clause-units g c =
    IfOk-weaker c.form_of_classes.result _ _ (λ f h.
    form_units g.R.Rank.LEN (before_at g.R.Rank.R c.args.order.now) c.in_ok-classes.classes f h) c.form_of_classes.ensures

pub returns-clause-formed : goal.returns-clause-formed
returns-clause-formed g c =
    IfOk-weaker c.form_of_classes.result _ _ (λ f h.
    form_formed g.R.Rank.LEN g.R.Rank.R (before_at g.R.Rank.R c.args.order.now) c.in_ok-classes.classes f g.R.Rank.power h)
    c.form_of_classes.ensures
