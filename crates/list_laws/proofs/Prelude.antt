-- The lemmas of this crate that others cite, passed on from one place. Declares nothing.
pub use Rattle.list_laws.proofs.Below.{all_below, below_told, below_told_2}
pub use Rattle.list_laws.proofs.Lists.{drop_head, element_at, found_held, heads, held_cases, held_found, held_here, held_later, held_place, none_held}
pub use Rattle.list_laws.proofs.Lists.{none_some, option_cases, tails}
pub use Rattle.list_laws.proofs.Members.{each_at, each_both, each_found, each_from, each_get, each_held, each_map, each_push, each_read, each_split}
pub use Rattle.list_laws.proofs.Members.{each_take}
pub use Rattle.list_laws.proofs.Rising.{listing_same, rising_apart, rising_at, rising_get, rising_push, rising_same}
pub use Rattle.list_laws.proofs.Tests.{both, both_of, clash_numbers, double_power, either_told, implied, plain_xor, same_bool, same_bool_true}
pub use Rattle.list_laws.proofs.Tests.{same_numbers_own, same_numbers_told, same_power, same_truth, xor_assoc, xor_self}
