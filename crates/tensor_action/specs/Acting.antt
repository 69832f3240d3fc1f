-- The action on lists of all components.
--   zero_root       the number 0
--   tensor_of       the number at each index, of a list of all components in index order
--   factor          the factor of a component in a component of the carried tensor, with the sign
--   SumGrows        a product of a factor and a number, or a sum of the first n of them in index order, reaches the limit
--   ActGrows        such a product or partial sum of some component of the carried tensor does
--   IsCarriedList   the components of the carried tensor, where nothing grows
--   CarriesTo       one component of the carried tensor, or the refusal exactly where its sum grows
--   AddsPart        a sum with one more product, or the refusal exactly where the product or the new sum reaches the limit
-- Source: International Tables D 1.1. The limit is this project's own.
use Rattle.std.specs.Prelude.{◌≡◌, ℕ, ◌<◌, ◌⊎◌, List, length, take, get_or, Result, Ok, Err}
use Rattle.tensor_defs.specs.Prelude.{Number, add, mul, Root3, PartReaches, ProductReaches, Operation, sum_of, Index, Tensor, Marks, act, coefficient}
use Rattle.tensor_defs.specs.Prelude.{component_number, index_of, indices, sign}
use Rattle.exact_frac.specs.Held.{zero_over_one}
use Rattle.root3_num.specs.Roots.{value_of_root}
use Rattle.root3_num.specs.declared.root.TooLarge.{TooLarge}

abbrev pub zero_root : Root3
zero_root = record { a = zero_over_one; b = zero_over_one }

abbrev pub tensor_of : List Root3 → Tensor
tensor_of rs is = value_of_root (get_or rs (component_number is) zero_root)

abbrev pub factor : Marks → Operation → Index → Index → Number
factor m g i j = mul (sign m g) (coefficient g i j)

abbrev pub SumGrows : ℕ → (Index → Number) → Tensor → Type 0
SumGrows r f t =
    ((j : Index) × (length j ≡ r) × ProductReaches (f j) (t j))
    ⊎ ((n : ℕ) × PartReaches (sum_of (λ j. mul (f j) (t j)) (take n (indices r))))

abbrev pub ActGrows : Marks → Operation → ℕ → Tensor → Type 0
ActGrows m g r t = (i : Index) × (length i ≡ r) × SumGrows r (factor m g i) t

-- vs is what g makes of rs, both with n components of rank r
pub record IsCarriedList (m : Marks) (g : Operation) (r n : ℕ) (rs vs : List Root3) : Type 0 where
  pub len : length vs ≡ n
  pub each : (c : ℕ) → c < n → value_of_root (get_or vs c zero_root) ≡ act m g (tensor_of rs) (index_of r c)
  pub calm : ActGrows m g r (tensor_of rs) → ⊥

abbrev pub CarriesTo : Marks → Operation → ℕ → Tensor → Index → Result Root3 TooLarge → Type 0
CarriesTo m g r t i (Ok v) = (value_of_root v ≡ act m g t i) × (SumGrows r (factor m g i) t → ⊥)
CarriesTo m g r t i (Err e) = SumGrows r (factor m g i) t

abbrev pub AddsPart : Number → Number → Number → Result Root3 TooLarge → Type 0
AddsPart s x y (Ok v) =
    (value_of_root v ≡ add s (mul x y)) × (ProductReaches x y → ⊥) × (PartReaches (add s (mul x y)) → ⊥)
AddsPart s x y (Err e) = ProductReaches x y ⊎ PartReaches (add s (mul x y))
