use Rattle.std.proofs.Common.{◌≡◌, ℕ, ◌<◌, Bool, sym, ap, ◌∙◌, subst}
use Rattle.std.specs.Prelude.{IsTrue, ◌↔◌}
use Rattle.tensor_defs.specs.Prelude.{Operation, IsHexagonal}
use Rattle.op_matrix.specs.Prelude.{operation_at, hex_frame}
use Rattle.op_matrix.proofs.Products.{frame_code}
use Rattle.op_matrix.proofs.Hexagonal.{hex_of, hex_told}
use Rattle.op_matrix.proofs.Op.is_hex.Goals as goal

told : (n : ℕ) (p : Bool) (g : Operation) (b : Bool) → n < 64 → operation_at n p ≡ g → b ≡ hex_frame (frame_code n) →
    IsTrue b ↔ IsHexagonal g
told n p g b h e f = (
  λ t. subst IsHexagonal e (hex_told n p h (sym f ∙ t)),
  λ k. f ∙
      hex_of n p h (subst IsHexagonal (sym e) k),
)

pub returns : goal.returns
unfolding frame_code
returns c = told c.self.inside.matrix c.self.inside.primed c.args.self.now c.is_hex.result c.self.invariant
    c.self.view_is (c.is_hex.ensures ∙ ap hex_frame c.frame_at.ensures)
