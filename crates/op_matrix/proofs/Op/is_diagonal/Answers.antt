use Rattle.std.proofs.Common.{◌≡◌, ℕ, ◌<◌, Bool, sym, ap, ◌∙◌, subst}
use Rattle.std.specs.Prelude.{IsTrue, ◌↔◌}
use Rattle.tensor_defs.specs.Prelude.{Operation, IsDiagonal}
use Rattle.op_matrix.specs.Prelude.{operation_at, both_frame}
use Rattle.op_matrix.proofs.Products.{frame_code}
use Rattle.op_matrix.proofs.Hexagonal.{diagonal_at_of, diagonal_at_told}
use Rattle.op_matrix.proofs.Op.is_diagonal.Goals as goal

told : (n : ℕ) (p : Bool) (g : Operation) (b : Bool) → n < 64 → operation_at n p ≡ g → b ≡ both_frame (frame_code n) →
    IsTrue b ↔ IsDiagonal g
told n p g b h e f = (
  λ t. subst IsDiagonal e (diagonal_at_told n p h (sym f ∙ t)),
  λ k. f ∙
      diagonal_at_of n p h (subst IsDiagonal (sym e) k),
)

pub returns : goal.returns
unfolding frame_code
returns c = told c.self.inside.matrix c.self.inside.primed c.args.self.now c.is_both.result c.self.invariant
    c.self.view_is (c.is_both.ensures ∙ ap both_frame c.frame_at.ensures)
