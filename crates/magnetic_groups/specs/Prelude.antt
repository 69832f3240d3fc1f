-- The definitions that others cite, of this crate and of the closing of groups, passed on from one place. Declares nothing.
pub use Rattle.group_closing.specs.Marks.{AreWithin, Reached, mark_at, unmarked}
unfoldable pub use Rattle.group_closing.specs.Marks.{marked_below}
pub use Rattle.magnetic_groups.specs.Sets.{FitsFrame, HasForm, HaveFrame, In, InverseIn, IsFirstOutside, IsGroup, IsKept, IsWithin, Spanned}
