-- The definitions of this crate that others cite, passed on from one place. Declares nothing.
pub use Rattle.op_matrix.specs.Laws.{AreListed, FramesAreClosed, HasFrame, OrderIsStrict}
pub use Rattle.op_matrix.specs.Places.{place_at, primed_at}
pub use Rattle.op_matrix.specs.Table.{marked, place, same_matrix, same_row}
unfoldable pub use Rattle.op_matrix.specs.Table.{matrix_place, nth_operation, operation_at}
pub use Rattle.op_matrix.specs.View.{axis, both_frame, entry_of, hex_frame, plain_frame}
