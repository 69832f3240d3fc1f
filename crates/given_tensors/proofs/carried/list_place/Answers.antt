use Rattle.list_laws.proofs.Kit.{◌∙◌, List, length, ap, sym, subst, arith, length_push}
use Rattle.tensor_rank.specs.Flags.{marks_of}
use Rattle.given_tensors.specs.Carried.{AreCarried, IsListAt}
use Rattle.given_tensors.specs.declared.carried.Carried.{Carried}
use Rattle.given_tensors.proofs.Alike.{last_at, one_more}
use Rattle.given_tensors.proofs.carried.list_place.Goals as goal

pub returns-in-Some-clause-ok : goal.returns-in-Some-clause-ok
returns-in-Some-clause-ok g c =
    let m = marks_of c.args.flags in
    let r = g.R.Rank.R in
    let n = g.R.Rank.LEN in
    let t = c.args.t.now in
    subst (λ (cs : List Carried). IsListAt m c.args.op.now r n t cs c.in-Some.place) c.as_slice.ensures.value
    (c.in-Some.ensures t (subst (AreCarried m r n t) (sym c.as_slice.ensures.value) c.requires.carried))

pub returns-clause-ok : goal.returns-clause-ok
returns-clause-ok g c =
    let own : Carried = record { op = c.args.op.now; list = c.in_ok-list.list } in
    let long = ap length c.in_ok-push.ensures.items ∙ length_push c.args.carried.now.items own in
    last_at (marks_of c.args.flags) g.R.Rank.R g.R.Rank.LEN c.args.carried.now.items c.args.t.now own c.in_ok-list.ensures.ok
    c.push.new.self.items c.in_ok-push.ensures.items _ (omega (arith, c.len.ensures, long))

pub returns-clause-carried : goal.returns-clause-carried
returns-clause-carried g c =
    let own : Carried = record { op = c.args.op.now; list = c.in_ok-list.list } in
    one_more (marks_of c.args.flags) g.R.Rank.R g.R.Rank.LEN c.args.carried.now.items c.args.t.now own c.in_ok-list.ensures.ok
    c.push.new.self.items c.in_ok-push.ensures.items c.requires.carried
