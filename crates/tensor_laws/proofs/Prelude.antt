-- The lemmas of this crate that others cite, passed on from one place. Declares nothing.
pub use Rattle.tensor_laws.proofs.Action.{sum_indices-add, sum_indices-mul, sum_indices-same, turned-cons, turned-nil}
unfoldable pub use Rattle.tensor_laws.proofs.Action.{turned}
pub use Rattle.tensor_laws.proofs.ActionLaws.{act-turned, acts_in_turn, half_of_minus_two, half_of_none, half_of_two, identity_acts_lem}
pub use Rattle.tensor_laws.proofs.Agreeing.{act-agree, same_state, sum_indices-agree, sum_of-same}
pub use Rattle.tensor_laws.proofs.Associativity.{exchange, product_assoc, product_assoc_back}
pub use Rattle.tensor_laws.proofs.BlockOrder.{block_order}
pub use Rattle.tensor_laws.proofs.ComponentNumbers.{axis_at-place, index_at, length-index_of, number-index_of, number_below, place-axis_at}
pub use Rattle.tensor_laws.proofs.Determinant.{determinant-product}
pub use Rattle.tensor_laws.proofs.Groups.{IsGroup, one_times, times_one}
pub use Rattle.tensor_laws.proofs.IndexOrder.{index_order}
pub use Rattle.tensor_laws.proofs.Indices.{axis_cases, index_cases, same_own, same_told}
pub use Rattle.tensor_laws.proofs.Products.{generated_within, nat_eq_means, product_tested, product_unique}
pub use Rattle.tensor_laws.proofs.Sets.{same_back}
pub use Rattle.tensor_laws.proofs.States.{one_state, state_at}
pub use Rattle.tensor_laws.proofs.ThreeFold.{c_mul_assoc, plain_sign, three_determinant, word_sum-agree}
pub use Rattle.tensor_laws.proofs.Unique.{fraction_one, none_some, one_table, same_free, same_terms, some_same}
pub use Rattle.tensor_laws.proofs.WordRows.{row_sums, rows_decide_lem}
pub use Rattle.tensor_laws.proofs.WordTurns.{complex_same, exchanged, exchanged_sum, half_double, half_num, halve, level_law, minus_squared, phase}
pub use Rattle.tensor_laws.proofs.WordTurns.{word_sum-add, word_sum-mul, words_tell}
