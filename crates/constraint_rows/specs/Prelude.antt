-- The definitions of this crate that others cite, passed on from one place. Declares nothing.
pub use Rattle.constraint_rows.specs.Choices.{is_chosen, is_turning}
pub use Rattle.constraint_rows.specs.Classes.{GroupStep, IsGeneratedBy, IsPlainTable, class_at, exchange, moves_of, turn}
pub use Rattle.constraint_rows.specs.Gathering.{AreRowsBelow, AreSmallParts, AreTermsBelow, gathered, letter_of, letters, part, part_row, term_added}
pub use Rattle.constraint_rows.specs.Gathering.{terms_from, turn_sign, unit, word_at, words_below}
pub use Rattle.constraint_rows.specs.Marking.{AreDiagonals, AreMarked, IsMarked, IsTurned, IsTurnedEntry, Kills, Turns}
pub use Rattle.constraint_rows.specs.OpRows.{IsOpRow, op_part, op_step}
pub use Rattle.constraint_rows.specs.PlainOps.{AllHaveColumns, ArePermutations, HasColumns, StandForAll, StandsFor, entry_sign, image, op_at, op_moves}
pub use Rattle.constraint_rows.specs.PlainOps.{op_sign, signs_of}
unfoldable pub use Rattle.constraint_rows.specs.PlainOps.{op_carried}
pub use Rattle.constraint_rows.specs.Reading.{RowReads, row_negates, unit_column}
pub use Rattle.constraint_rows.specs.WordRows.{AreParts, AreSound, AreWordRows, IsCarriedRow, IsGiven, IsKilled, IsOwn, carried_to, carrier_of, parts_rise}
pub use Rattle.constraint_rows.specs.WordRows.{row_at, row_sum}
unfoldable pub use Rattle.constraint_rows.specs.WordRows.{part_at}
