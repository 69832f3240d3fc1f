-- Products of entries of operations.
--   entry_number    the number of an entry
--   size_of         (p + q√3)/n
--   product_number  the number of a product that the program holds
--   IsWithin        its parts are at most a bound, and the one below isn't 0
-- Source: International Tables D 1.1 for the entries of the plain and the hexagonal operations.
use Rattle.std.specs.Prelude.{ℕ, ◌<◌, ◌≤◌, pos}
use Rattle.tensor_defs.specs.Number.{Number, add, mul, half_of, over, root_3}
use Rattle.sign_moves.specs.Signs.{signed}
use Rattle.op_matrix.specs.declared.entry.Entry.{Entry}
use Rattle.op_matrix.specs.View.{entry_of}
use Rattle.tensor_action.specs.declared.products.Product.{Product}

abbrev pub entry_number : Entry → Number
entry_number e = half_of (entry_of e).rational (entry_of e).root

abbrev pub size_of : ℕ → ℕ → ℕ → Number
size_of p q n = add (over (pos p) n) (mul (over (pos q) n) root_3)

abbrev pub product_number : Product → Number
product_number p = signed p.sign (size_of p.rational p.root p.below)

pub record IsWithin (b : ℕ) (p : Product) : Type 0 where
  pub rational : p.rational ≤ b
  pub root : p.root ≤ b
  pub below : p.below ≤ b
  pub positive : 0 < p.below
