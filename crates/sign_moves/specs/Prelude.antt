-- The definitions of this crate that others cite, passed on from one place. Declares nothing.
pub use Rattle.sign_moves.specs.Best.{AreLinks, IsBestUpTo, best_at, link_of}
pub use Rattle.sign_moves.specs.Classes.{Clashes, IsClassTable, IsFirstOfClass, IsFixed, IsSound, entry_at, first_at, sign_at, total_of, vanishes_at}
pub use Rattle.sign_moves.specs.Digits.{AreParts, IsDigitRow, IsSpread, joined_step, longer_step, part_at}
unfoldable pub use Rattle.sign_moves.specs.Digits.{digit_step}
pub use Rattle.sign_moves.specs.Firsts.{AreSettled, IsFirstTable, IsStrict}
pub use Rattle.sign_moves.specs.Joined.{joined}
pub use Rattle.sign_moves.specs.Laws.{FirstsTell, JoinedTell, TablesTell}
pub use Rattle.sign_moves.specs.Moves.{IsFirst, IsForced, IsKept, IsReversible, Moves, Reaches, move, stay}
pub use Rattle.sign_moves.specs.Signs.{signed, times, times-times, times_plus, times_self}
pub use Rattle.sign_moves.specs.Tabling.{IsStepRow, IsTabled, step_at, steps_at}
pub use Rattle.sign_moves.specs.Walks.{Grows, HasClash, IsClosed, IsClosedAt, IsPending, IsStep, IsWalk, IsWalked, Lengthens, item_at}
