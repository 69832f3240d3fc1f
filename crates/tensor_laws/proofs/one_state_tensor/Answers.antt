use Rattle.std.proofs.Common.{Contains}
use Rattle.tensor_laws.proofs.Agreeing.{same_state}
use Rattle.tensor_laws.proofs.one_state_tensor.Goals as goal

pub returns : goal.returns
returns c = λ j fs g f k h p t i. same_state j (λ x. Contains fs x) g f k h p t i
