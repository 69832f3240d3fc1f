-- The definitions of this crate that others cite, passed on from one place. Declares nothing.
pub use Rattle.sparse_rows.specs.KeptRows.{AreCleared, AreGivenRows, AreRows, CannotKeep, CannotScale, IsClearedRow, IsEliminated, IsFound, IsKeptRow}
pub use Rattle.sparse_rows.specs.KeptRows.{IsReducedRow, IsScaledRow, kept_of, kepts, lines}
pub use Rattle.sparse_rows.specs.Marks.{AreMarked, is_marked}
pub use Rattle.sparse_rows.specs.Rows.{Above, IsDifference, IsEntry, IsRow, coeff}
unfoldable pub use Rattle.sparse_rows.specs.Rows.{part}
pub use Rattle.sparse_rows.specs.Solutions.{AllApart, AreApart, IsKeptWithin, IsLeading, IsPivot, IsReduced, IsWithin, Solve, dot, lines_of, scaled_by}
pub use Rattle.sparse_rows.specs.Sums.{AreSolved, IsNegated, IsPivotSum, IsSolved, is_pivot, sum_entries}
pub use Rattle.sparse_rows.specs.WholeRows.{AreWhole, IsWholeRow, whole_line}
unfoldable pub use Rattle.sparse_rows.specs.WholeRows.{whole_part}
