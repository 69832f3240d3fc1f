use Rattle.std.proofs.Common.{◌≡◌, ◌*◌, ◌≤◌, ◌++◌, List, ℕ, take, vec_capacity}
use Rattle.tensor_defs.specs.Lists.{Each}
use Rattle.tensor_cli.specs.Kinds.{AddUp, IsJoinedOnto, IsTold}
use Rattle.tensor_cli.proofs.tensors.answer_words.Given as goal

abbrev pub invariant-loop-place : goal.invariant-loop-place
invariant-loop-place g l = record {
  joined : IsTold l.line l.list (λ js. IsJoinedOnto (g.T.AnswersTensor.text l.tensors) l.initial.out.items l.out.items (take l.place js)
      × Each (λ j. g.T.AnswersTensor.grows l.tensors j.jahn → ⊥) (take l.place js));
  free : IsTold l.line l.list (λ js. AddUp (g.T.AnswersTensor.free l.tensors) (take l.place js) l.free);
  few : l.free ≤ 729 * l.place;
  begins : (more : List ℕ) × (l.out.items ≡ l.initial.out.items ++ more);
  capacity : vec_capacity l.initial.out ≤ vec_capacity l.out;
}
