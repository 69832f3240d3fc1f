-- The index symmetry of a Jahn symbol, by the exchanges of neighbouring blocks of its brackets, which generate those of each two.
--   exchange_of     the exchange of two blocks of a bracket
--   neighbours, exchanges_of    those of neighbouring blocks of a bracket; of brackets
--   bracket_at      blocks of a width from an index place on
--   at_each         what is given at places apart
--   atom_exchanges, body_exchanges    those of an atom, and of factors, at an index place
use Rattle.std.specs.Prelude.{ℕ, Bool, zero, suc, ◌+◌, ◌-◌, ◌*◌, List, [], ◌∷◌, ◌++◌, map}
use Rattle.std.specs.List.{range_with_len}
use Rattle.tensor_defs.specs.Jahn.{Atom, V, Bracketed, Factor, Bracket, atom_rank, is_antisymmetric}
use Rattle.tensor_rank.specs.declared.exchanges.Exchange.{Exchange}

-- the exchange of the blocks i and j of a bracket
abbrev pub exchange_of : Bracket → ℕ → ℕ → Exchange
exchange_of b i j =
    record { first = b.start + i * b.size; second = b.start + j * b.size; width = b.size; negates = b.negates }

-- the exchange of each of the first n blocks with the next of them, in their order
abbrev pub neighbours : Bracket → ℕ → List Exchange
neighbours b n = map (λ i. exchange_of b i (i + 1)) (range_with_len 0 (n - 1))

abbrev pub exchanges_of : List Bracket → List Exchange
exchanges_of [] = []
exchanges_of (b ∷ bs) = neighbours b b.count ++ exchanges_of bs

-- blocks of a width from an index place on, as many as wanted
abbrev pub bracket_at : ℕ → ℕ → Bool → Bracket
bracket_at s w negates = record { start = s; count = 0; size = w; negates = negates }

-- what f gives at n places, w apart
abbrev pub at_each : (ℕ → List Exchange) → ℕ → ℕ → ℕ → List Exchange
at_each f s w zero = []
at_each f s w (suc k) = at_each f s w k ++ f (s + k * w)

abbrev pub atom_exchanges : Atom → ℕ → List Exchange
atom_exchanges V s = []
atom_exchanges (Bracketed k a n) s = neighbours (bracket_at s (atom_rank a) (is_antisymmetric k)) n ++ at_each (atom_exchanges a) s (atom_rank a) n

abbrev pub body_exchanges : List Factor → ℕ → List Exchange
body_exchanges [] s = []
body_exchanges (f ∷ fs) s =
    at_each (atom_exchanges f.atom) s (atom_rank f.atom) f.power
    ++ body_exchanges fs (s + f.power * atom_rank f.atom)
