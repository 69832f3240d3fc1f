use Rattle.std.proofs.Common.{subst, sym}
use Rattle.tensor_defs.specs.Lists.{Each}
use Rattle.reduced_form.specs.Forms.{form_table}
use Rattle.tensor_rank.specs.Flags.{marks_of}
use Rattle.differ_answers.specs.declared.known.Known.{Known}
use Rattle.differ_answers.specs.Standing.{IsKnown}
use Rattle.differ_answers.proofs.StandingLaws.{known_longer, lines_within}
use Rattle.list_laws.proofs.Members.{each_push}
use Rattle.differ_answers.proofs.StateTexts.{rows_named}
use Rattle.differ_answers.proofs.known.write_known.Goals as goal

pub write_again-requires-clause-order : goal.write_again-requires-clause-order
write_again-requires-clause-order g c =
    let r = g.R.Rank.R in
    let a = form_table r c.args.form.now in
    let out = c.args.out.now.items in
    let s = c.in-Some.ensures a out (subst (Each (IsKnown (marks_of c.args.flags) r a out)) (sym c.as_slice.ensures.value) c.requires.known) in
    (lines_within r a s.state out c.in-Some.lines s.lines).0

pub write_again-requires-clause-within : goal.write_again-requires-clause-within
write_again-requires-clause-within g c =
    let r = g.R.Rank.R in
    let a = form_table r c.args.form.now in
    let out = c.args.out.now.items in
    let s = c.in-Some.ensures a out (subst (Each (IsKnown (marks_of c.args.flags) r a out)) (sym c.as_slice.ensures.value) c.requires.known) in
    (lines_within r a s.state out c.in-Some.lines s.lines).1

pub returns-in_ok-write_again-in-Some-clause-ok : goal.returns-in_ok-write_again-in-Some-clause-ok
returns-in_ok-write_again-in-Some-clause-ok g c =
    let r = g.R.Rank.R in
    let a = form_table r c.args.form.now in
    let out = c.args.out.now.items in
    let s = c.in-Some.ensures a out (subst (Each (IsKnown (marks_of c.args.flags) r a out)) (sym c.as_slice.ensures.value) c.requires.known) in
    record { state = s.state; rows = s.rows; text = c.in_ok-write_again-in-Some.ensures.ok a s.state s.lines }

pub returns-in_ok-write_again-in-Some-clause-known : goal.returns-in_ok-write_again-in-Some-clause-known
returns-in_ok-write_again-in-Some-clause-known g c =
    let r = g.R.Rank.R in
    known_longer (marks_of c.args.flags) r (form_table r c.args.form.now) c.args.out.now.items c.write_again.new.out.items
    c.args.known.now.items c.write_again.ensures.longer c.requires.known

pub write_state-requires : goal.write_state-requires
write_state-requires g c = record {
  named = rows_named (marks_of c.args.flags) c.args.op.now g.R.Rank.R g.R.Rank.LEN c.args.form.now c.in_ok-rows-in-None.rows g.R.Rank.power
      c.in_ok-rows-in-None.ensures.ok;
}

pub returns-in_ok-push-in-None-clause-ok : goal.returns-in_ok-push-in-None-clause-ok
returns-in_ok-push-in-None-clause-ok g c = record { state = c.in_ok-rows-in-None.rows; rows = c.in_ok-rows-in-None.ensures.ok; text = c.in_ok-lines-in-None.ensures.ok }

pub returns-in_ok-push-in-None-clause-known : goal.returns-in_ok-push-in-None-clause-known
returns-in_ok-push-in-None-clause-known g c =
    let r = g.R.Rank.R in
    let m = marks_of c.args.flags in
    let a = form_table r c.args.form.now in
    let out = c.write_state.new.out.items in
    let one : Known = record { op = c.args.op.now; lines = c.in_ok-lines-in-None.lines } in
    subst (Each (IsKnown m r a out)) (sym c.in_ok-push-in-None.ensures.items)
    (each_push (IsKnown m r a out) c.args.known.now.items one
    (known_longer m r a c.args.out.now.items out c.args.known.now.items c.write_state.ensures.longer c.requires.known)
    (record { state = c.in_ok-rows-in-None.rows; rows = c.in_ok-rows-in-None.ensures.ok; lines = c.in_ok-lines-in-None.ensures.lines }))
