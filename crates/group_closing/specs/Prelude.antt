-- The definitions of this crate that others cite, passed on from one place. Declares nothing.
pub use Rattle.group_closing.specs.Greedy.{IsDoubled, IsGreedy, IsSpan, TakesFrom}
pub use Rattle.group_closing.specs.Marks.{Added, AreWithin, Grows, IsClosed, IsClosing, IsDone, Reached, TimesReached, mark_at, unmarked}
unfoldable pub use Rattle.group_closing.specs.Marks.{marked_below}
pub use Rattle.group_closing.specs.Sets.{HaveFrame, In, InverseIn, IsGroup, IsKept, Spanned}
