-- The definitions of this crate that others cite, passed on from one place. Declares nothing.
pub use Rattle.reduced_form.specs.Eliminated.{AreNumbers, ArePivots, AreSparse, AreTold, CanPlace, IsSparse, IsSystem, class_row, entries_at, entry_term}
pub use Rattle.reduced_form.specs.Eliminated.{free_places, number_at, pivot_at, signed_fraction, told_by, whole_of, wholes}
pub use Rattle.reduced_form.specs.Forms.{ArePlaces, FormValue, IsFreeUpTo, form_table, free_at, row_at, term_of, unit_fraction}
pub use Rattle.reduced_form.specs.Solving.{FitsSet, IsSolution, line_at, lines_at}
