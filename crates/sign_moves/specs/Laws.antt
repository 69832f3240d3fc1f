-- What tables of classes and of first components tell of the lists that moves keep, as the contracts of src/ cite it.
--   TablesTell      a class that vanishes is where each kept list is zero, and the first of a class is IsFirst
--   FirstsTell      the same of a table of first components
--   JoinedTell      a list is kept by two lists of moves together exactly where each keeps it
use Rattle.std.specs.Prelude.{◌≡◌, ℕ, ◌<◌, ◌↔◌, Bool, List, true, false}
use Rattle.sign_moves.specs.declared.classes.Entry.{Entry}
use Rattle.tensor_defs.specs.declared.Sign.{Sign}
use Rattle.sign_moves.specs.Moves.{Moves, IsReversible, IsKept, IsForced, IsFirst}
use Rattle.tensor_defs.specs.Number.{Number}
use Rattle.sign_moves.specs.Joined.{joined}
use Rattle.sign_moves.specs.Classes.{first_at, sign_at, vanishes_at, IsClassTable, IsFirstOfClass}
use Rattle.sign_moves.specs.Firsts.{IsFirstTable, AreSettled}

pub record TableTells (n : ℕ) (m : Moves) (es : List Entry) : Type 0 where
  pub zero : (c : ℕ) → c < n → (vanishes_at es (first_at es c) ≡ true) ↔ IsForced n m c
  pub first : (before : ℕ → ℕ → Bool) (c d : ℕ) (s : Sign) → c < n → IsFirstOfClass n es before c d s → IsFirst n m before c d s

abbrev pub TablesTell : Type 0
TablesTell = (n : ℕ) (m : Moves) (es : List Entry) → IsReversible n m → IsClassTable n m es → TableTells n m es

pub record FirstTells (n : ℕ) (m : Moves) (before : ℕ → ℕ → Bool) (es : List Entry) : Type 0 where
  pub zero : (c : ℕ) → c < n → (vanishes_at es c ≡ true) ↔ IsForced n m c
  pub settled : AreSettled n es
  pub first : (c : ℕ) → c < n → vanishes_at es c ≡ false → IsFirst n m before c (first_at es c) (sign_at es c)

abbrev pub FirstsTell : Type 0
FirstsTell =
    (n : ℕ) (m : Moves) (before : ℕ → ℕ → Bool) (es : List Entry) → IsReversible n m → IsFirstTable n m before es →
    FirstTells n m before es

pub record JoinedTells (n : ℕ) (a b : Moves) : Type 0 where
  pub reversible : IsReversible n a → IsReversible n b → IsReversible n (joined a b)
  pub kept : (t : ℕ → Number) → IsKept n (joined a b) t ↔ (IsKept n a t × IsKept n b t)

abbrev pub JoinedTell : Type 0
JoinedTell = (n : ℕ) (a b : Moves) → JoinedTells n a b
