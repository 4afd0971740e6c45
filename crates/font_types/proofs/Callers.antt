-- Lemmas of this crate and those below for its callers: the ruleset `calls`, which a crate names once at its head,
-- `numbers` and `tables`, which a file of numbers or of bytes names at its head, and lemmas for answers. The modules,
-- such as `Orders`, are for answers too: `using` takes no lemma of them, and takes the rulesets at the end.
use Rattle.font_base.proofs.ScalarCalls.{scalar_calls}
use Rattle.font_fixed.proofs.{Calls.calls_16, Calls.calls_32, Calls.calls_64, Shifts.shr_low, Shifts.shr_high}
use Rattle.font_fixed.proofs.Shifts.{average_fits_16, average_is}
use Rattle.font_fixed.proofs.{Shifts.shr_fits, Shifts.shr_up, FixedCalls.fixed_calls, Integral.integral_calls}
use Rattle.font_fixed.proofs.{Integral.integral_rules, NarrowCalls.narrow_calls, NarrowCalls.quarter_neg_one}
use Rattle.font_fixed.proofs.Orders.{order_calls}
use Rattle.font_tags.proofs.{TagLaws.tag_calls, VersionLaws.compatible_calls}
use Rattle.font_geom.proofs.{Bounds.bound_calls, Scaled.scaled_calls, Scaled.products_in_order}
use Rattle.font_types.proofs.SumCalls.{sum_calls_from, sum_calls_16, sum_calls_32, delta_rules}
use Rattle.font_types.proofs.Parts.{part_calls, unit_calls, between_calls, lerp_calls, wide_lerp_calls}
use Rattle.font_types.proofs.{Counts.count_calls, Lines.line_calls, Ratios.ratio_calls}
use Rattle.font_types.proofs.Ratios.{order_ratio_calls}
use Rattle.font_types.proofs.Narrowed.{exact_narrow_calls, exact_sum_is_integral, negation_is_integral}
use Rattle.font_types.proofs.{Searches.long_search_calls, Searches.byte_search_calls}
use Rattle.font_types.proofs.{Searches.search_calls, StoredBytes.stored_calls, Magnitudes.magnitude_calls}
use Rattle.font_types.proofs.StoredBytes.{first_24_calls}
use Rattle.std.proofs.lemmas.Slice.{drop-put_mid}
use Rattle.font_types.proofs.{ArrayNumbers.array_number_calls, Below.below_calls, Writes.write_calls}
use Rattle.font_types.proofs.Ties.{tie_calls}
use Rattle.font_types.proofs.Fields.{field_calls, record_calls, other_record_calls, header_calls}
use Rattle.font_types.proofs.Fields.{rest_calls, beyond_calls, second_calls, four_fields, four_parts}
use Rattle.font_fixed.proofs.Orders.{kept_near, scaled_in_order, narrowed_in_order, rounded_in_order, ups_in_order}
use Rattle.font_fixed.proofs.Orders.{multiples_in_order, moved_in_order, near-neg, product_of_opposite}
use Rattle.font_fixed.proofs.Orders.{scaled_distance, scaled_back}
use Rattle.font_fixed.proofs.Group.{wrap-add_comm, wrap-add_assoc, zero_is_neutral, opposite_is_inverse}
use Rattle.font_fixed.proofs.Group.{floor_and_fract, fract_is_below_one}
use Rattle.font_fixed.proofs.NumberLaws.{near_exact, rounded_exact, product_in_one_step, mul_div_exact, itself}
use Rattle.font_fixed.proofs.NumberLaws.{mul_div_between, quotient_between, quotient_in_one_step}
use Rattle.font_tags.proofs.TagLaws.{checked_good, validates_where_checked, parsed_again, printed_once}
use Rattle.font_geom.proofs.RingCalls.{products_agree, images_agree, left_identity, right_identity}
use Rattle.font_geom.proofs.RingMatrices.{matrix_product-matrix_product, image_of-matrix_product}
pub use Rattle.font_base.proofs.ScalarCalls.{absent, nowhere, rises_by}
pub use Rattle.font_base.proofs.Moved.{bytes_moved}
pub use Rattle.font_base.specs.Wrap.Laws.{wrap_is, wrap_unique, wrap-fits}
pub use Rattle.font_base.specs.Bytes.Laws.{bytes_of_is, bytes_of_are, bytes_unique, bytes_of-same, numeral_below}
pub use Rattle.font_decimal.proofs.Near.{near_is, near_unique, near_monotone, up_is, up_monotone}
pub use Rattle.font_decimal.proofs.Readings.{reading_unique}
pub use Rattle.font_decimal.proofs.Texts.{decimal_is_ascii, decimal_unique}
pub use Rattle.font_decimal.proofs.Order.{order_of_readings}
pub use Rattle.font_decimal.proofs.Printed.{shortest_is}
pub use Rattle.font_decimal.proofs.Printed.{printed_is_read, printed_reads_once, same_value, printed_is_not_minus_zero}
pub use Rattle.font_decimal.proofs.Printed.{zero_ends_no_fraction}
pub use Rattle.font_fixed.proofs.{Small.product_near, Quotients.mul_div_is}
pub use Rattle.font_fixed.proofs.Orders
pub use Rattle.font_fixed.proofs.Group
pub use Rattle.font_fixed.proofs.NumberLaws as Laws
pub use Rattle.font_tags.proofs.TagLaws.{validated_good, good_is_utf8, good_prints_itself}
pub use Rattle.font_tags.proofs.TagLaws
pub use Rattle.font_geom.proofs.FixedCalls.{product_value, image_value}
pub use Rattle.font_geom.proofs.Bounds.{fits_composed, fits_in_turn, fits_product, product_bounded}
pub use Rattle.font_geom.proofs.Bounds.{bounded_product, bounded_image}
pub use Rattle.font_geom.proofs.RingCalls
pub use Rattle.font_geom.proofs.RingMatrices
pub use Rattle.font_types.proofs.SumCalls.{running_total, running_total_from}
pub use Rattle.font_tags.proofs.VersionText.{hex_padded}
-- for a clause that starts at the second field of a record, by the sizes of both fields; and for what stands behind so
-- many bytes, such as an array behind its count
pub use Rattle.font_types.proofs.Fields.{second_1_1, second_1_2, second_1_3, second_1_4, second_1_8, behind_1}
pub use Rattle.font_types.proofs.Fields.{second_2_1, second_2_2, second_2_3, second_2_4, second_2_8, behind_2}
pub use Rattle.font_types.proofs.Fields.{second_3_1, second_3_2, second_3_3, second_3_4, second_3_8, behind_3}
pub use Rattle.font_types.proofs.Fields.{second_4_1, second_4_2, second_4_3, second_4_4, second_4_8, behind_4}
pub use Rattle.font_types.proofs.Fields.{second_8_1, second_8_2, second_8_3, second_8_4, second_8_8, behind_8}
-- for a field of 8 bytes that is written and read, in place of `calls`
pub use Rattle.font_types.proofs.Fields.{signed_field_8}
-- for an answer: if a search finds no index, no record has the number, or the key of bytes; and `partition_point` by a
-- number parts the records that are less from the others
pub use Rattle.font_types.proofs.RecordSearches.{no_record_has, no_record_has_key, parted_by_number}
pub use Rattle.font_types.specs.Json.Laws.{fixed_form, signed_form, unsigned_form, tag_form, version_form_of}

-- the rules by which functions of callers prove
pub ruleset calls = (
  -- numbers that fit, sums with 0, products with 0 and 1, quotients, and `mul_div`
  fixed_calls,
  calls_16,
  calls_64,
  -- integers, and numbers that are widened or narrowed
  integral_calls,
  exact_sum_is_integral,
  narrow_calls,
  quarter_neg_one,
  -- scalars, records, arrays and searches
  scalar_calls,
  search_calls,
  stored_calls,
  array_number_calls,
  field_calls,
  -- what stands behind a part that is written
  drop-put_mid,
  -- sums of loops
  sum_calls_from,
  sum_calls_16,
  sum_calls_32,
  delta_rules,
  below_calls,
  -- bounds of products: of font units, small integers, bounded matrices and scales
  magnitude_calls,
  bound_calls,
  unit_calls,
  scaled_calls,
  -- products by a number from 0 to 1, and numbers between two others
  part_calls,
  between_calls,
  -- tags, versions and the text of a number
  tag_calls,
  good_prints_itself,
  compatible_calls,
  shortest_is,
  -- counts of a loop
  count_calls,
)

-- for the value of `a + (b - a) * t`, as one formula; of `(x - p) / (q - p)`; of `mul_div` by such a quotient, and of
-- any `mul_div` by a number other than 0
pub ruleset lerps = (lerp_calls, wide_lerp_calls, ratio_calls, mul_div_is)

-- for `(x - p) / (q - p)` and `(q - x) / (q - p)` in a branch, by the two orders that its tests leave: `p <= x` and
-- `x < q`, or `p < x` and `x <= q`. Of numbers that were widened from 2.14, it has no bounds, and `(x - p) / (q - p)`
-- by the first two orders alone, `(q - x) / (q - p)` by the last two
pub ruleset ratios = (order_ratio_calls)

-- for `IsIntegral` of the greater of two integers, of a negation, or of a sum with a constant or with halves
pub ruleset integers = (integral_rules, negation_is_integral, calls_32)

-- for a narrowed number that fits
pub ruleset narrowings = (exact_narrow_calls)

-- for `>>`, with std's `wraps`: the floor of a quotient by a power of two, the quotient rounded half up, and the
-- average of two 16-bit numbers
pub ruleset shifts = (shr_low, shr_high, shr_fits, shr_up, average_fits_16, average_is)

-- for the order of two results of `mul_div`; with `calls`, of two numbers that are scaled or rounded to integers
pub ruleset orders = (order_calls, products_in_order)

-- for `near`, where a function rounds half up and half down, in place of `calls`
pub ruleset ties = (tie_calls)

-- for several writes in one body
pub ruleset writes = (write_calls)

-- for the number of a first field of 24 bits
pub ruleset firsts_24 = (first_24_calls)

-- for what stands in the rest of a slice: by `get(k..)`, and by `follow`
pub ruleset rests = (rest_calls)

pub ruleset follows = (beyond_calls)

-- for searches in arrays of `u32` or of `u8`, as `calls` and `tables` have them for `u16` and `GlyphId16`
pub ruleset searches = (long_search_calls, byte_search_calls)

-- for a record that is encoded and decoded, in place of `calls`
pub ruleset records = (record_calls)

-- for a record with a field of 1, 3 or 8 bytes, in place of `calls`
pub ruleset records_1_3_8 = (other_record_calls)

-- for a header of four fields of 4 bytes that is encoded, or encoded and decoded, in place of `calls`
pub ruleset headers = (header_calls)

-- for a file of numbers, in place of `calls`: what `calls` has of numbers, and `lerps`, `integers`, `narrowings`,
-- `orders`, `ties` and `shifts`. Of `lerps` it leaves out the sums that wrap to 64 bits, with which a loop over two
-- such sums stays open. A lemma that is named twice counts twice against the limits of a search. So neither this nor
-- `tables` names one twice, nor std's `ints`, which the check names itself in a function whose code computes with
-- signed integers.
pub ruleset numbers = (
  fixed_calls,
  calls_16,
  calls_64,
  integral_calls,
  exact_sum_is_integral,
  narrow_calls,
  quarter_neg_one,
  sum_calls_from,
  sum_calls_16,
  sum_calls_32,
  delta_rules,
  below_calls,
  magnitude_calls,
  bound_calls,
  unit_calls,
  scaled_calls,
  part_calls,
  between_calls,
  lerp_calls,
  ratio_calls,
  mul_div_is,
  integers,
  narrowings,
  orders,
  ties,
  shifts,
  line_calls,
)

-- for a file of bytes, in place of `calls`: what `calls` has of scalars, records, arrays, searches, tags and versions,
-- `records_1_3_8`, `writes`, `firsts_24`, `rests` and `follows`, second fields, and sums of 16-bit numbers. Fields have
-- 1, 2, 3, 4 or 8 bytes, and rests begin at 1, 3, or an even number up to 16.
pub ruleset tables = (
  scalar_calls,
  search_calls,
  stored_calls,
  array_number_calls,
  tag_calls,
  good_prints_itself,
  compatible_calls,
  records_1_3_8,
  four_fields,
  four_parts,
  writes,
  firsts_24,
  rests,
  behind_1,
  behind_2,
  behind_3,
  behind_4,
  behind_8,
  follows,
  second_calls,
  count_calls,
  magnitude_calls,
)

-- the lemmas of the modules above, for an attribute: it can name a ruleset, and no module
pub ruleset order_laws = (
  kept_near,
  scaled_in_order,
  narrowed_in_order,
  rounded_in_order,
  ups_in_order,
  multiples_in_order,
  moved_in_order,
  near-neg,
  product_of_opposite,
  scaled_distance,
  scaled_back,
)

pub ruleset group_laws = (
  wrap-add_comm,
  wrap-add_assoc,
  zero_is_neutral,
  opposite_is_inverse,
  floor_and_fract,
  fract_is_below_one,
)

pub ruleset number_laws = (
  near_exact,
  rounded_exact,
  product_in_one_step,
  mul_div_exact,
  itself,
  mul_div_between,
  quotient_between,
  quotient_in_one_step,
)

pub ruleset tag_laws = (
  validated_good,
  checked_good,
  validates_where_checked,
  tag_calls,
  good_prints_itself,
  parsed_again,
  printed_once,
)

pub ruleset ring_laws = (
  products_agree,
  images_agree,
  left_identity,
  right_identity,
  matrix_product-matrix_product,
  image_of-matrix_product,
)
