-- Lemmas of the kit that proofs cite, passed on from one place. Declares nothing.
pub use Rattle.std.proofs.Common.{Bool, Err, Global, IfOk, IsTrue, List, None, Ok, OnOk, Option, Result, Some, Vec, [], add-one, ap, arith, cond, drop}
pub use Rattle.std.proofs.Common.{drop-cons, eqb, false, get_or, if◌then◌else◌, inl, inr, le_refl, length, lit<, lit≤, map, max, min, nat_eq, nat_le, nat_lt}
pub use Rattle.std.proofs.Common.{not, refl, replicate, rules, slice_range, string_bytes, subst, suc, sym, take, true, vec_capacity, zero, ℕ, ⊎_elim, ◌%◌}
pub use Rattle.std.proofs.Common.{◌*◌, ◌++◌, ◌+◌, ◌-◌, ◌/◌, ◌<◌, ◌==◌, ◌^◌, ◌||◌, ◌↔◌, ◌∙◌, ◌∷◌, ◌≡◌, ◌≢◌, ◌≤◌, ◌⊎◌}
pub use Rattle.std.proofs.Math.ListN.{drop_of_length-le, get_or-append, get_or-eq_default}
pub use Rattle.std.proofs.Math.Nat.{add-mul, div-add-mod, div-div-eq-div-mul, div-le_self, div-lt_iff_lt-mul, div-mul_cancel, div-one, dvd-mul_left}
pub use Rattle.std.proofs.Math.Nat.{dvd_of_mul-dvd-mul_right, eq-zero-or-pos, le_of_mul-le-mul_right, mul-dvd-mul_right, mul-le-mul, mul-le-mul_left, mul-one}
pub use Rattle.std.proofs.Math.Nat.{mul_assoc, mul_comm, one-dvd, one-le-pow, one-mul, pow-le-pow_right, pow-suc, pow-succ'}
pub use Rattle.std.proofs.Math.Seq.{take-append-add}
pub use Rattle.std.proofs.lemmas.Bool.{both_ways, cases_Bool, cases_eq, cases_lt, cases_order, eqb-false, eqb-true, false_from_ne_true, false≢true, le-ltb}
pub use Rattle.std.proofs.lemmas.Bool.{leb-true, lt-ltb, ltb-true, ne_eqb, true≢false}
pub use Rattle.std.proofs.lemmas.Bool.Decides.{eqb_tells, nat_tests}
pub use Rattle.std.proofs.lemmas.Grind.{common_steps, flat_map-append, get_or-set_at}
pub use Rattle.std.proofs.lemmas.Int.{fits_signed_from_abs, fits_signed_mul, ints, to_z-of_z, to_z_pos, unsigned_abs-mul}
pub use Rattle.std.proofs.lemmas.Int.Digits.{digits_more, digits_value-lt, digits_value_more}
pub use Rattle.std.proofs.lemmas.List.{append_cancel_left, append_cancel_right, drop-drop, drop_all, drop_more, ext_get_or, get_or-append-add}
pub use Rattle.std.proofs.lemmas.List.{get_or-append_right, get_or-drop, get_or-map, get_or-replicate, get_or-set_other, get_or-set_same, get_or-take}
pub use Rattle.std.proofs.lemmas.List.{get_or_append_left, get_or_default, get_or_push, get_or_read, length-map, length-replicate, length-set, length-take-le}
pub use Rattle.std.proofs.lemmas.List.{length_push, map-append, map_more, map_push, set_split, take-append-le, take-map, take_all, take_at, take_more}
pub use Rattle.std.proofs.lemmas.List.{take_more_set}
pub use Rattle.std.proofs.lemmas.List.Concat.{flat_map_single}
pub use Rattle.std.proofs.lemmas.List.Edits.{get_or-insert_above, get_or-insert_at, get_or-insert_below, length-insert}
pub use Rattle.std.proofs.lemmas.List.Elements.{AllZip-get_or, Contains-append_cases, Contains-append_left, Contains-append_right, Contains-get_or}
pub use Rattle.std.proofs.lemmas.List.Elements.{Contains-push, Contains-push_cases, all_zip_more}
pub use Rattle.std.proofs.lemmas.List.FromFn.{fill_by_all, get_or-map-range_with_len, length-map-range_with_len}
pub use Rattle.std.proofs.lemmas.List.Sums.{sum_by-set}
pub use Rattle.std.proofs.lemmas.Nat.{div-mul-add, mod-mul-add, mul-le, pow_pos}
pub use Rattle.std.proofs.lemmas.Nat.Bits.{bit_at-lt, bit_at-suc, bit_at-zero, bit_at_cat_high, bit_at_cat_low, bit_at_lowest, bit_at_or, bit_at_set_other}
pub use Rattle.std.proofs.lemmas.Nat.Bits.{bit_at_set_same, same_from_bits_below, shr_and_one}
pub use Rattle.std.proofs.lemmas.Nat.Gcd.{IsGcd-from_mod, IsGcd-from_zero, IsGcd-swap, dvd_antisymm, le_of_dvd, same_from_IsGcd}
pub use Rattle.std.proofs.lemmas.Option.{get_or_from_slice_get, none-some, same_Some, slice_get-get_or, slice_get_within}
pub use Rattle.std.proofs.lemmas.Result.{IfErr-weaker, IfOk-weaker, err_from_is_err_and, on_ok_weaker}
pub use Rattle.std.specs.Borrow.{Bor}
pub use Rattle.std.specs.Char.{digit_value}
pub use Rattle.std.specs.Fmt.{decimal, signed_decimal}
pub use Rattle.std.specs.Int.{IsGcd, bit_at, bit_not}
pub use Rattle.std.specs.Io.KnownBytes.{Consumes, IsAtEnd, Keeps}
pub use Rattle.std.specs.List.{AllByRecursion, flat_map, insert, list_all, list_any, range_with_len, slice_index_or}
pub use Rattle.std.specs.Option.{IfSome}
pub use Rattle.std.specs.Result.{IfErr, IsErr, IsErrAnd, IsOk}
pub use Rattle.std.specs.Str.Parse.{AllDigits, digits_value, digits_value_after}
