use Rattle.tensor_rank.specs.Flags.{marks_of}
use Rattle.tensor_action.specs.Acting.{tensor_of}
use Rattle.tensor_action.specs.declared.faults.ActFault.TheVariants.{TooLarge}
use Rattle.given_tensors.proofs.Kept.{stabiliser_told, whole_calm, whole_grows}
use Rattle.given_tensors.proofs.stabilisers.stabiliser.Goals as goal

pub returns-in-Ok-clause-group : goal.returns-in-Ok-clause-group
returns-in-Ok-clause-group g c =
    stabiliser_told c.args.whole (marks_of c.args.flags) g.R.Rank.R (tensor_of c.args.t.now) c.in-Ok.all c.in-Ok.ensures
    c.elements_left.result c.elements_left.ensures.group

pub returns-in-Ok-clause-calm : goal.returns-in-Ok-clause-calm
returns-in-Ok-clause-calm g c =
    whole_calm c.args.whole (marks_of c.args.flags) g.R.Rank.R (tensor_of c.args.t.now) c.in-Ok.all c.in-Ok.ensures
    c.elements_left.result c.elements_left.ensures.calm

pub returns-in-Ok-clause-grows : goal.returns-in-Ok-clause-grows
returns-in-Ok-clause-grows g c =
    whole_grows c.args.whole (marks_of c.args.flags) g.R.Rank.R (tensor_of c.args.t.now) c.in-Ok.all c.in-Ok.ensures
    c.elements_left.result TooLarge c.elements_left.ensures.grows
