-- The table of products, by computing.
use Rattle.list_laws.proofs.Kit.{[], ◌≡◌, ℕ, ◌<◌, Bool, true, false, refl, cond, slice_index_or, ltb-true}
use Rattle.std.specs.Prelude.{nat_lt, slice_index}
use mathlib.Core.Bool.{xor}
use Rattle.list_laws.proofs.Prelude.{all_below, below_told, implied}
use Rattle.tensor_defs.specs.Operation.{IsProduct}
use Rattle.tensor_laws.proofs.Products.{product_test, product_tested}
use Rattle.op_matrix.specs.Table.{operation_at}
use Rattle.op_matrix.specs.declared.tables.TheConstants.{PRODUCTS, FRAMES}
use Rattle.op_matrix.specs.declared.entry.Frame.{Frame}
use Rattle.op_matrix.specs.declared.entry.Frame.TheVariants.{Plain, Hexagonal, Both}
use Rattle.op_matrix.proofs.Marks.{product_marked}

unfoldable pub product_code : ℕ → ℕ → ℕ
product_code n m = slice_index (slice_index_or PRODUCTS n []) m

unfoldable pub frame_code : ℕ → Frame
frame_code n = slice_index_or FRAMES n Plain

abbrev pub common : Frame → Frame → Bool
common Both f = true
common Plain Hexagonal = false
common Plain Plain = true
common Plain Both = true
common Hexagonal Plain = false
common Hexagonal Hexagonal = true
common Hexagonal Both = true

abbrev right_at : ℕ → ℕ → Bool
right_at n m = cond (common (frame_code n) (frame_code m)) (product_test (operation_at n false) (operation_at m false)
    (operation_at (product_code n m) false)) true

products_right : all_below 64 (λ n. all_below 64 (λ m. right_at n m)) ≡ true
unfolding operation_at product_code frame_code xor
products_right = refl

codes_below : all_below 64 (λ n. all_below 64 (λ m. nat_lt (product_code n m) 64)) ≡ true
unfolding product_code
codes_below = refl

pub product_code_below : (n m : ℕ) → n < 64 → m < 64 → product_code n m < 64
product_code_below n m h k = ltb-true _ _ (below_told 64 (λ m. nat_lt (product_code n m) 64)
    (below_told 64 (λ n. all_below 64 (λ m. nat_lt (product_code n m) 64)) codes_below n h) m k)

-- the product of the operations with matrices n and m
pub product_at : (n m : ℕ) (p q r : Bool) → n < 64 → m < 64 → common (frame_code n) (frame_code m) ≡ true →
    r ≡ xor p q → IsProduct (operation_at n p) (operation_at m q) (operation_at (product_code n m) r)
product_at n m p q r h k c e = product_marked n m (product_code n m) p q r
    (product_tested _ _ _ (implied (common (frame_code n) (frame_code m)) _
    (below_told 64 (λ m. right_at n m) (below_told 64 (λ n. all_below 64 (λ m. right_at n m)) products_right n h) m k)
    c)) e
