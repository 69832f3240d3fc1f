use Rattle.std.proofs.Common.{◌≡◌, ℕ, ◌<◌, Bool, sym, ap, ◌∙◌, subst}
use Rattle.std.specs.Prelude.{IsTrue, ◌↔◌}
use Rattle.tensor_defs.specs.Prelude.{Operation, IsPlain}
use Rattle.op_matrix.specs.Prelude.{operation_at, plain_frame}
use Rattle.op_matrix.proofs.Products.{frame_code}
use Rattle.op_matrix.proofs.Hexagonal.{plain_at_of, plain_at_told}
use Rattle.op_matrix.proofs.Op.is_plain.Goals as goal

told : (n : ℕ) (p : Bool) (g : Operation) (b : Bool) → n < 64 → operation_at n p ≡ g → b ≡ plain_frame (frame_code n) →
    IsTrue b ↔ IsPlain g
told n p g b h e f = (
  λ t. subst IsPlain e (plain_at_told n p h (sym f ∙ t)),
  λ k. f ∙
      plain_at_of n p h (subst IsPlain (sym e) k),
)

pub returns : goal.returns
unfolding frame_code
returns c = told c.self.inside.matrix c.self.inside.primed c.args.self.now c.is_plain.result c.self.invariant
    c.self.view_is (c.is_plain.ensures ∙ ap plain_frame c.frame_at.ensures)
