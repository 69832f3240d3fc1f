-- The definitions of this crate that others cite, passed on from one place. Declares nothing.
pub use Rattle.tensor_defs.specs.Elimination.{AreRepresentatives, AreUnknowns, Carrier, ClearingGrows, Grows, GrowsFrom, IsDropped, IsRepresentative}
pub use Rattle.tensor_defs.specs.Elimination.{IsScaled, IsSign, IsTied, IsZeroLine, Kept, LessGrows, Line, LineGrows, ReducingGrows, TimesGrows, by_place}
pub use Rattle.tensor_defs.specs.Elimination.{carried, cleared, less, minus_times, reduced, rows_of, share}
pub use Rattle.tensor_defs.specs.Frames.{AllOf, HaveCommonFrame, IsDiagonal, IsFramed, IsHexagonal, IsPlain, IsThe, IsUnit, OneUnit, SameMatrix}
pub use Rattle.tensor_defs.specs.Group.{Generated, InGroup, IsAccepted, IsBelow, IsProductOf, SameSet}
pub use Rattle.tensor_defs.specs.IntRing.{cross_trans, mul-cancel_ℤ, mul-one_ℤ, mul-zero_ℤ, neg-mul_ℤ, positive_mul, ring_ℤ}
pub use Rattle.tensor_defs.specs.Jahn.{AdmitSame, Antisymmetric, AreFactors, Atom, Bracket, BracketKind, Bracketed, Factor, HasSymmetry, IsAtom, IsExchange}
pub use Rattle.tensor_defs.specs.Jahn.{IsFactor, IsInvariant, JahnSymbol, Respects, Symmetric, V, atom_rank, body_brackets, factors_rank, rank}
pub use Rattle.tensor_defs.specs.Lists.{Each, IsListing, IsRising, lexicographic, same_numbers_in, up_to}
pub use Rattle.tensor_defs.specs.Names.{IsNameOf, IsNamed, settings_of, symbols_with, turned_bits}
unfoldable pub use Rattle.tensor_defs.specs.Names.{symbols}
pub use Rattle.tensor_defs.specs.Number.{Fraction, HasParts, IsFraction, IsLowest, IsRoot3, Number, Number_set, PartReaches, ProductReaches, ReachesLimit}
pub use Rattle.tensor_defs.specs.Number.{Root3, Same, Triple, add_at, add_triple, add_triple_comm, limit, mul_at, mul_triple, mul_triple_comm, neg, num_one}
pub use Rattle.tensor_defs.specs.Number.{num_zero, number_of, one_over_one, positive_suc, root_3, same_numbers, value_of}
unfoldable pub use Rattle.tensor_defs.specs.Number.{add, fraction, half_of, mul, over, whole}
pub use Rattle.tensor_defs.specs.Operation.{Axis, Entry, IsProduct, Operation, Row, determinant, entry, h, half, identity, in_row, matrix, minus_h}
pub use Rattle.tensor_defs.specs.Operation.{minus_half, minus_one, nought, one, reversal, sum_axes, x1, x2, x3}
unfoldable pub use Rattle.tensor_defs.specs.Operation.{value}
pub use Rattle.tensor_defs.specs.OperationOrder.{places, same_entry, same_int}
unfoldable pub use Rattle.tensor_defs.specs.OperationOrder.{comes_before}
pub use Rattle.tensor_defs.specs.Orders.{IsOrder, block_before, block_numbers, index_before, pair_number}
pub use Rattle.tensor_defs.specs.PairClasses.{ArePairClasses, IsPairClass, PairClass, least_before}
pub use Rattle.tensor_defs.specs.StateRows.{Distinguishes, IsStateRow, RootTerm, RowsGrow, StateRowGrows, factor_at, root_places_rise, state_part, state_row}
pub use Rattle.tensor_defs.specs.StateRows.{sum_of}
pub use Rattle.tensor_defs.specs.States.{AreStates, InDouble, InPairGroup, InTwinningGroup, IsState, IsSwappable, Times}
pub use Rattle.tensor_defs.specs.Symbols.{GroupSymbol, IsGroupSymbol, Operator, Parent, is_monoclinic, is_orthorhombic, is_turned_trigonal, listed}
pub use Rattle.tensor_defs.specs.Symbols.{operation_of, operations_of, operator_count, parent_texts, parents, takes_setting, turned_to}
unfoldable pub use Rattle.tensor_defs.specs.Symbols.{generators, parent_operators, parent_text}
pub use Rattle.tensor_defs.specs.Table.{AreTerms, Fits, IsChoice, IsProper, Table, Term, alone, chosen, factor_of, places_rise, sum_terms, value_at}
pub use Rattle.tensor_defs.specs.Tensor.{Agree, Index, Marks, Tensor, axial_sign, axis_at, axis_place, coefficient, component_number, digit, index_of}
pub use Rattle.tensor_defs.specs.Tensor.{indices, same_index, sum_indices, time_sign}
unfoldable pub use Rattle.tensor_defs.specs.Tensor.{act, sign}
pub use Rattle.tensor_defs.specs.Voigt.{AreWeighted, HasBlocks, HasVoigtShape, IsVoigtTable, VoigtEntry, VoigtGrows, VoigtShape, VoigtTable, WeightGrows}
pub use Rattle.tensor_defs.specs.Voigt.{component_of, entries, free_entry, halved, rank_of_blocks, shift, symmetric_pair, voigt_shapes, weighted}
pub use Rattle.tensor_defs.specs.Words.{Letter, Word, begins_plus, belongs, even_row, is_used, level, minus, minus_count, minus_twos, odd_row, plus}
pub use Rattle.tensor_defs.specs.Words.{plus_count, power_of_minus_one, twos, words}
