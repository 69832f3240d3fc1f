-- The coefficient of two components, one place after the other.
--   entry_is        the entry at their indices
--   product-more    the product of the entries at one place more
--   within-place, within-more    bounds
use Rattle.list_laws.proofs.Kit.{◌≡◌, ℕ, suc, ◌+◌, ◌-◌, ◌*◌, ◌<◌, ◌≤◌, ◌^◌, length, take, ap, sym, ◌∙◌, subst, arith, lit<, pow-le-pow_right, pow-suc}
use Rattle.list_laws.proofs.Kit.{length-take-le, take_more}
use Rattle.tensor_defs.specs.Prelude.{Number, mul, Axis, x1, Operation, entry, value, Index, coefficient, digit}
use Rattle.op_matrix.specs.View.{entry_of, axis}
use Rattle.op_matrix.specs.declared.entry.Entry as code
use Rattle.tensor_rank.specs.IndexLaws.{nth}
use Rattle.tensor_action.specs.declared.products.Product.{Product}
use Rattle.tensor_action.specs.Factors.{IsWithin, entry_number}
use Rattle.tensor_action.proofs.FactorLaws.{axis-digit, entry_value, within-weaker}
use Rattle.tensor_action.proofs.Reach.{coefficient-behind}

pub entry_is : (g : Operation) (e : code.Entry) (a b : ℕ) (i j : Axis) → entry_of e ≡ entry g (axis (a - 1)) (axis (b - 1)) →
    a ≡ digit i → b ≡ digit j → entry_number e ≡ value g i j
entry_is g e a b i j p u v =
    entry_value g e i j
    (p ∙ (λ n. entry g ((ap (λ d. axis (d - 1)) u ∙ axis-digit i) n) ((ap (λ d. axis (d - 1)) v ∙ axis-digit j) n)))

-- the product of the entries at the first places
pub product-more : (g : Operation) (is js : Index) (k : ℕ) (x y v : Number) → k < length is → k < length js →
    x ≡ coefficient g (take k is) (take k js) → v ≡ value g (nth is k) (nth js k) → y ≡ mul x v →
    y ≡ coefficient g (take (k + 1) is) (take (k + 1) js)
product-more g is js k x y v h l e f p =
    let long : length (take k is) ≡ length (take k js) = length-take-le k is (omega arith) ∙ sym (length-take-le k js (omega arith)) in
    p ∙ (λ n. mul (e n) (f n)) ∙ sym (coefficient-behind g (take k is) (take k js) (nth is k) (nth js k) long)
    ∙ (λ n. coefficient g (sym (take_more is k x1 h) n) (sym (take_more js k x1 l) n))

-- ---- bounds
pub within-place : (k r : ℕ) (p : Product) → k < r → r ≤ 6 → IsWithin (3 ^ k) p → IsWithin 243 p
within-place k r p h s w =
    let small : 3 ^ k ≤ 3 ^ 5 = pow-le-pow_right {n = 3} (lit< tt) {i = k} {j = 5} (omega arith) in
    within-weaker (3 ^ k) 243 p small w

pub within-more : (k : ℕ) (p : Product) → IsWithin (3 * 3 ^ k) p → IsWithin (3 ^ (k + 1)) p
within-more k p w =
    let one : k + 1 ≡ suc k = omega arith in
    let e : 3 ^ suc k ≡ 3 ^ k * 3 = pow-suc 3 k in
    subst (λ b. IsWithin b p) (omega (arith, e, ap (λ j. 3 ^ j) one)) w
