-- Exchanges of two blocks of indices.
--   in_block        an index place lies in a block
--   partner         the place that a place changes with
--   exchanged       the component with the two blocks exchanged
--   sign_of_exchange    the sign of an exchange
--   exchange_moves  the exchanges of a list as moves of components
use Rattle.std.specs.Prelude.{ℕ, ◌+◌, ◌-◌, List, length, Bool, nat_le, nat_lt, ◌&&◌}
use Rattle.std.proofs.Common.{cond}
use Rattle.tensor_rank.specs.declared.exchanges.Exchange.{Exchange}
use Rattle.tensor_defs.specs.declared.Sign.{Sign}
use Rattle.tensor_defs.specs.declared.Sign.TheVariants.{Plus, Minus}
use Rattle.tensor_rank.specs.Digits.{digit_of, number_of}
use Rattle.sign_moves.specs.Moves.{Moves}
use Rattle.tensor_rank.specs.Within.{exchange_at}

-- an index place lies in the block that begins at a place
abbrev pub in_block : ℕ → ℕ → ℕ → Bool
in_block start width p = nat_le start p && nat_lt p (start + width)

-- the place that a place changes with
abbrev pub partner : Exchange → ℕ → ℕ
partner e p =
    cond (in_block e.first e.width p) (p + (e.second - e.first))
    (cond (in_block e.second e.width p) (p - (e.second - e.first)) p)

-- the component with the two blocks exchanged
unfoldable pub exchanged : ℕ → Exchange → ℕ → ℕ
exchanged r e c = number_of r (λ p. digit_of r c (partner e p))

abbrev pub sign_of_exchange : Exchange → Sign
sign_of_exchange e = cond e.negates Minus Plus

abbrev pub exchange_moves : ℕ → List Exchange → Moves
exchange_moves r es = record {
  count = length es;
  carried = λ k c. exchanged r (exchange_at es k) c;
  sign = λ k c. sign_of_exchange (exchange_at es k);
}
