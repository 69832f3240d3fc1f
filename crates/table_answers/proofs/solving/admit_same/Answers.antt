use Rattle.std.proofs.Common.{subst}
use Rattle.magnetic_groups.specs.Sets.{In}
use Rattle.reduced_form.specs.Forms.{FormValue, IsForm}
use Rattle.table_answers.proofs.TableLaws.{same_where_admitted}
use Rattle.table_answers.proofs.Told.{first_fails, second_fails}
use Rattle.table_answers.proofs.solving.admit_same.Goals as goal

pub returns-in-Ok-index_table : goal.returns-in-Ok-index_table
returns-in-Ok-index_table g c = λ j shape.
    let n = g.R.Rank.LEN in
    let f = c.in-Ok.first in
    let h = c.in-Ok-index_table.second in
    let one = c.in-Ok.ensures j shape in
    let two = c.in-Ok-index_table.ensures j shape in
    let whole_one : IsForm n f = subst (λ (v : FormValue). IsForm n v) c.first.view_is c.first.invariant in
    let whole_two : IsForm n h = subst (λ (v : FormValue). IsForm n v) c.second.view_is c.second.invariant in
    let same = same_where_admitted j g.R.Rank.R n c.args.one.now c.args.other.now f h shape.rank_is g.R.Rank.power whole_one whole_two
    one.0 two.0 in
    let told = c.same_form.ensures in
    (((λ t. same.0 (told.0 t)), (λ a. told.1 (same.1 a))), one.1, two.1)

pub returns-in-Ok : goal.returns-in-Ok
returns-in-Ok g c = λ j shape.
    second_fails j g.R.Rank.R (In c.args.one.now) (In c.args.other.now) c.in-Err-index_table.fault
    (c.in-Err-index_table.ensures j shape)

pub returns : goal.returns
returns g c = λ j shape.
    first_fails j g.R.Rank.R (In c.args.one.now) (In c.args.other.now) c.in-Err.fault (c.in-Err.ensures j shape)
