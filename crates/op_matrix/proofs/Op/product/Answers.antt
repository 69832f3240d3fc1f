use Rattle.std.proofs.Common.{◌≡◌, ℕ, ◌<◌, Bool, true, false, refl, sym, subst}
use mathlib.Core.Bool.{xor, not, beq}
use Rattle.tensor_defs.specs.Prelude.{Operation, IsProduct, HaveCommonFrame}
use Rattle.op_matrix.specs.Table.{operation_at}
use Rattle.op_matrix.proofs.Products.{product_code, product_at}
use Rattle.op_matrix.proofs.Hexagonal.{common_of}
use Rattle.op_matrix.proofs.Order.{plain_closed, hex_closed}
use Rattle.op_matrix.proofs.Op.product.Goals as goal

mark : (p q : Bool) → not (beq p q) ≡ xor p q
unfolding xor
mark true true = refl
mark true false = refl
mark false true = refl
mark false false = refl

right : (n m k : ℕ) (p q : Bool) (g h : Operation) → n < 64 → m < 64 → k ≡ product_code n m → operation_at n p ≡ g →
    operation_at m q ≡ h → HaveCommonFrame g h → IsProduct g h (operation_at k (not (beq p q)))
right n m k p q g h a b e eg eh f =
    let f' : HaveCommonFrame (operation_at n p) (operation_at m q) =
    subst (λ x. HaveCommonFrame x (operation_at m q)) (sym eg) (subst (λ x. HaveCommonFrame g x) (sym eh) f) in
    let r : IsProduct (operation_at n p) (operation_at m q) (operation_at (product_code n m) (not (beq p q))) =
    product_at n m p q (not (beq p q)) a b (common_of n m p q a b f') (mark p q) in
    subst (λ x. IsProduct x h (operation_at k (not (beq p q)))) eg
    (subst (λ x. IsProduct (operation_at n p) x (operation_at k (not (beq p q)))) eh
    (subst (λ x. IsProduct (operation_at n p) (operation_at m q) (operation_at x (not (beq p q)))) (sym e) r))

pub returns-clause-is : goal.returns-clause-is
unfolding product_code
returns-clause-is c = right c.self.inside.matrix c.other.inside.matrix c.product_at.result c.self.inside.primed
    c.other.inside.primed c.args.self.now c.args.other.now c.self.invariant c.other.invariant c.product_at.ensures.is
    c.self.view_is c.other.view_is c.requires

pub returns-clause-plain : goal.returns-clause-plain
unfolding product_code
returns-clause-plain c = λ a b. plain_closed c.args.self.now c.args.other.now _ a b
    (right c.self.inside.matrix c.other.inside.matrix c.product_at.result c.self.inside.primed c.other.inside.primed
    c.args.self.now c.args.other.now c.self.invariant c.other.invariant c.product_at.ensures.is c.self.view_is
    c.other.view_is c.requires)

pub returns-clause-hexagonal : goal.returns-clause-hexagonal
unfolding product_code
returns-clause-hexagonal c = λ a b. hex_closed c.args.self.now c.args.other.now _ a b
    (right c.self.inside.matrix c.other.inside.matrix c.product_at.result c.self.inside.primed c.other.inside.primed
    c.args.self.now c.args.other.now c.self.invariant c.other.invariant c.product_at.ensures.is c.self.view_is
    c.other.view_is c.requires)
