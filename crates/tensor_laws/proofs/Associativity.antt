-- Products are associative.
use Rattle.std.proofs.Common.{◌≡◌, ap, sym, ◌∙◌}
use mathlib.Core.Bool.{xor}
use Rattle.list_laws.proofs.Tests.{xor_assoc}
use Rattle.number_laws.proofs.NumberLaws.{ring}
use Rattle.tensor_defs.specs.Prelude.{Number, add, mul, x1, x2, x3, sum_axes, Operation, value, IsProduct}

-- the sums of a product of three, in another order
pub exchange : (a b c p q r s t u v w x y1 y2 y3 : Number) →
    add (mul (add (mul a p) (add (mul b s) (mul c v))) y1)
    (add (mul (add (mul a q) (add (mul b t) (mul c w))) y2)
    (mul (add (mul a r) (add (mul b u) (mul c x))) y3))
    ≡ add (mul a (add (mul p y1) (add (mul q y2) (mul r y3))))
    (add (mul b (add (mul s y1) (add (mul t y2) (mul u y3))))
    (mul c (add (mul v y1) (add (mul w y2) (mul x y3)))))
exchange a b c p q r s t u v w x y1 y2 y3 = simp ring

-- (g·h)·k is g·(h·k)
pub product_assoc : (g h k a b c : Operation) → IsProduct g h a → IsProduct a k b → IsProduct h k c → IsProduct g c b
product_assoc g h k a b c p q r = record {
  entries = λ i j.
      q.entries i j
      ∙ (λ n. sum_axes (λ m. mul (p.entries i m n) (value k m j)))
      ∙ exchange (value g i x1) (value g i x2) (value g i x3) (value h x1 x1) (value h x1 x2) (value h x1 x3)
      (value h x2 x1) (value h x2 x2) (value h x2 x3) (value h x3 x1) (value h x3 x2) (value h x3 x3)
      (value k x1 j) (value k x2 j) (value k x3 j)
      ∙ sym (λ n. sum_axes (λ m. mul (value g i m) (r.entries m j n)));
  marks =
      q.marks ∙ ap (λ x. xor x k.primed) p.marks ∙ xor_assoc g.primed h.primed k.primed
      ∙ ap (xor g.primed) (sym r.marks);
}

-- with g·h = a and h·k = c, what g·c is (g·h)·k is
pub product_assoc_back : (g h k a b c : Operation) → IsProduct g h a → IsProduct h k c → IsProduct g c b → IsProduct a k b
product_assoc_back g h k a b c p r q = record {
  entries = λ i j.
      q.entries i j
      ∙ (λ n. sum_axes (λ m. mul (value g i m) (r.entries m j n)))
      ∙ sym (exchange (value g i x1) (value g i x2) (value g i x3) (value h x1 x1) (value h x1 x2) (value h x1 x3)
      (value h x2 x1) (value h x2 x2) (value h x2 x3) (value h x3 x1) (value h x3 x2) (value h x3 x3)
      (value k x1 j) (value k x2 j) (value k x3 j))
      ∙ sym (λ n. sum_axes (λ m. mul (p.entries i m n) (value k m j)));
  marks =
      q.marks ∙ ap (xor g.primed) r.marks ∙ sym (xor_assoc g.primed h.primed k.primed)
      ∙ ap (λ x. xor x k.primed) (sym p.marks);
}
