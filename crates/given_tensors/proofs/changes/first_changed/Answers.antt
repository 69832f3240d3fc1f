use Rattle.std.proofs.Common.{sym, subst}
use Rattle.tensor_rank.specs.Flags.{marks_of}
use Rattle.tensor_action.specs.Acting.{tensor_of}
use Rattle.given_tensors.specs.Carried.{AreCarried}
use Rattle.given_tensors.proofs.Judged.{act_told}
use Rattle.given_tensors.proofs.Signed.{grows_marks}
use Rattle.given_tensors.proofs.changes.first_changed.Goals as goal

pub list_place-requires-clause-carried : goal.list_place-requires-clause-carried
list_place-requires-clause-carried g c =
    subst (λ p. AreCarried p g.R.Rank.R g.R.Rank.LEN c.args.t.now c.args.carried.now.items) (sym c.even_flags-even.ensures)
    c.requires.carried

pub returns-in-Ok-clause-ok : goal.returns-in-Ok-clause-ok
returns-in-Ok-clause-ok g c =
    let own = c.index.result.now in
    act_told (marks_of c.args.flags) (marks_of c.even_flags-even.result) c.args.op.now c.sign_of-own.result c.sign_of-held.result
    c.sign_of-own.ensures c.sign_of-held.ensures g.R.Rank.R g.R.Rank.LEN c.args.t.now own.list.items g.R.Rank.power
    (c.in-Ok.ensures.ok.carried own c.index.ensures) g.R.Rank.from_number c.times-sign.result c.times-sign.ensures
    c.first_apart.result (rw c.deref.ensures.value at c.first_apart.ensures)

pub returns-in-Ok-clause-calm : goal.returns-in-Ok-clause-calm
returns-in-Ok-clause-calm g c = λ grows.
    let own = c.index.result.now in
    (c.in-Ok.ensures.ok.carried own c.index.ensures).calm
    (grows_marks (marks_of c.args.flags) (marks_of c.even_flags-even.result) c.args.op.now c.sign_of-own.result c.sign_of-held.result
    c.sign_of-own.ensures c.sign_of-held.ensures g.R.Rank.R (tensor_of c.args.t.now) grows)

pub returns-in-Ok-clause-carried : goal.returns-in-Ok-clause-carried
returns-in-Ok-clause-carried g c =
    subst (λ p. AreCarried p g.R.Rank.R g.R.Rank.LEN c.args.t.now c.list_place.new.carried.items) c.even_flags-even.ensures
    c.in-Ok.ensures.carried

pub returns-in-Err-clause-grows : goal.returns-in-Err-clause-grows
returns-in-Err-clause-grows g c = λ large.
    grows_marks (marks_of c.even_flags-even.result) (marks_of c.args.flags) c.args.op.now c.sign_of-held.result c.sign_of-own.result
    c.sign_of-held.ensures c.sign_of-own.ensures g.R.Rank.R (tensor_of c.args.t.now) (c.in-Err.ensures.grows large)
