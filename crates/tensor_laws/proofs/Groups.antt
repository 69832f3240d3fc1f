-- Sets of operations that are groups, and products with the identity.
--   one_times, times_one    the identity times an operation, and an operation times the identity
--   IsGroup             the identity, products and inverses of its members are members
use Rattle.std.proofs.Common.{◌≡◌, sym}
use Rattle.list_laws.proofs.Tests.{xor_plain, plain_xor}
use Rattle.number_laws.proofs.NumberLaws.{num_add-zero, num_zero-add, num_mul-one, num_mul-zero}
use Rattle.tensor_defs.specs.Prelude.{Number, mul, Axis, x1, x2, x3, Operation, value, sum_axes, IsProduct, identity}
use Rattle.tensor_laws.proofs.ActionLaws.{half_of_two, half_of_none, pick}

pub one_times : (g : Operation) → IsProduct identity g g
one_times g = record { entries = λ i j. sym (pick i (λ m. value g m j)); marks = plain_xor g.primed }

pick_behind : (j : Axis) (f : Axis → Number) → sum_axes (λ m. mul (f m) (value identity m j)) ≡ f j
unfolding value
pick_behind x1 f = simp (half_of_two, half_of_none, num_mul-zero, num_mul-one, num_add-zero, num_zero-add)
pick_behind x2 f = simp (half_of_two, half_of_none, num_mul-zero, num_mul-one, num_add-zero, num_zero-add)
pick_behind x3 f = simp (half_of_two, half_of_none, num_mul-zero, num_mul-one, num_add-zero, num_zero-add)

pub times_one : (g : Operation) → IsProduct g identity g
times_one g = record { entries = λ i j. sym (pick_behind j (λ m. value g i m)); marks = xor_plain g.primed }

pub record IsGroup (S : Operation → Type 0) : Type 0 where
  pub one : S identity
  pub product : (g h : Operation) → S g → S h → (k : Operation) × S k × IsProduct g h k
  pub inverse : (g : Operation) → S g → (c : Operation) × S c × IsProduct g c identity × IsProduct c g identity
