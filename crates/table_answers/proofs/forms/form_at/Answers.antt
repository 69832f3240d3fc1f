use Rattle.list_laws.proofs.Kit.{◌∙◌, arith, sym, length-map, IfOk-weaker, on_ok_weaker}
use Rattle.tensor_defs.specs.Prelude.{index_of, InGroup, index_before}
use Rattle.tensor_laws.proofs.Sets.{same_back}
use Rattle.jahn_grammar.specs.Symbols.{symbol_of}
use Rattle.magnetic_groups.specs.Sets.{In}
use Rattle.reduced_form.specs.Forms.{form_table}
use Rattle.reduced_form.proofs.SetLaws.{fits_admitted, grows_same, same_admitted}
use Rattle.table_answers.proofs.Told.{ok_always, table_grows}
use Rattle.table_answers.proofs.forms.form_at.Goals as goal

pub returns-in-Ok-clause-ok : goal.returns-in-Ok-clause-ok
returns-in-Ok-clause-ok g c =
    let j = symbol_of c.args.jahn.now in
    let told = c.in-Ok.ensures j c.requires.shape in
    let a = form_table g.R.Rank.R c.in-Ok.form in
    on_ok_weaker c.write_form.result (λ written. (
      a,
      fits_admitted j (In c.args.group.now) (InGroup c.args.g.now) index_before a
          (same_admitted j (In c.args.group.now) (InGroup c.args.g.now) c.requires.group.members) told.0,
      written,
    )) c.write_form.ensures.ok

pub returns-in-Ok-clause-calm : goal.returns-in-Ok-clause-calm
returns-in-Ok-clause-calm g c =
    let j = symbol_of c.args.jahn.now in
    let told = c.in-Ok.ensures j c.requires.shape in
    ok_always c.write_form.result (λ w.
    told.1 (grows_same j (InGroup c.args.g.now) (In c.args.group.now) index_before
    (same_back (In c.args.group.now) (InGroup c.args.g.now) c.requires.group.members) w))

pub returns-in-Err-clause-grows : goal.returns-in-Err-clause-grows
returns-in-Err-clause-grows g c = λ large.
    let j = symbol_of c.args.jahn.now in
    grows_same j (In c.args.group.now) (InGroup c.args.g.now) index_before c.requires.group.members
    (table_grows j g.R.Rank.R (In c.args.group.now) c.in-Err.fault (c.in-Err.ensures j c.requires.shape) large)

pub returns-in-Ok-clause-free : goal.returns-in-Ok-clause-free
returns-in-Ok-clause-free g c =
    let j = symbol_of c.args.jahn.now in
    let told = c.in-Ok.ensures j c.requires.shape in
    let a = form_table g.R.Rank.R c.in-Ok.form in
    IfOk-weaker c.write_form.result _ _ (λ n is. (
      a,
      fits_admitted j (In c.args.group.now) (InGroup c.args.g.now) index_before a
          (same_admitted j (In c.args.group.now) (InGroup c.args.g.now) c.requires.group.members) told.0,
      is ∙ sym (length-map c.in-Ok.form.free (index_of g.R.Rank.R)),
    )) c.write_form.ensures.free

pub returns-in-Ok-clause-few : goal.returns-in-Ok-clause-few
returns-in-Ok-clause-few g c =
    IfOk-weaker c.write_form.result _ _ (λ n few. omega (arith, few, g.R.Rank.fits)) c.write_form.ensures.few
