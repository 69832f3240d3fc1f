-- Generators taken greedily.
--   TakesFrom   going through operations in order, each that isn't a product of those taken so far is taken
--   IsGreedy    the operations that are so taken from a list, where none is taken at first
--   IsSpan      the group of the operations taken so far, which has at least doubled with each
--   IsDoubled   the products of a new operation with the first elements of such a group: as many again
-- Source: this project's own, over products of finite lists.
use Rattle.std.specs.Prelude.{◌≡◌, ℕ, ◌+◌, ◌^◌, ◌<◌, ◌≤◌, Bool, List, [], ◌∷◌, ◌++◌, ◌⊎◌, length, slice_index_or}
use Rattle.tensor_defs.specs.Operation.{Operation, IsProduct}
use Rattle.group_closing.specs.Marks.{Grows, IsClosed, IsClosing}
use Rattle.group_closing.specs.Sets.{HaveFrame, Spanned}

-- with `before` taken already, going through the operations leads to `all`
abbrev pub TakesFrom : List Operation → List Operation → List Operation → Type 0
TakesFrom before [] all = all ≡ before
TakesFrom before (g ∷ gs) all =
    (Spanned before g × TakesFrom before gs all) ⊎ ((¬ Spanned before g) × TakesFrom (before ++ g ∷ []) gs all)

abbrev pub IsGreedy : List Operation → List Operation → Type 0
IsGreedy items taken = TakesFrom [] items taken

-- the marks and the list of a closing that is done
pub record IsSpan (gens : List Operation) (m : List Bool) (f : List Operation) : Type 0 where
  pub frame : HaveFrame gens
  pub closed : IsClosed gens (length f) m f
  pub doubled : 2 ^ length gens ≤ length f

-- the products of h with the first n elements came to the list
pub record IsDoubled (gens : List Operation) (h : Operation) (n : ℕ) (m : List Bool) (f : List Operation)
    (m' : List Bool) (f' : List Operation) : Type 0 where
  pub closing : IsClosing (gens ++ h ∷ []) m' f'
  pub grows : Grows m f m' f'
  pub size : length f' ≡ length f + n
  pub times : (q : ℕ) (d : Operation) → q < n →
      IsProduct h (slice_index_or f q d) (slice_index_or f' (length f + q) d)
