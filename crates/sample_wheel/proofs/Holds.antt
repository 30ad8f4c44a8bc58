-- The sample wheel: every row's question has the row's answer, worked out by the rules. Assumes nothing.
use mathlib.Core.Path.{◌≡◌, refl}
use mathlib.Core.List.{[], ◌∷◌}
use lib.Ieee
use Rattle.refusals.specs.Paper.{demand, demand_at, demand_none, placed, onward}
use Rattle.refusals.specs.Lent.{over}
use Rattle.floats.specs.Each.{Each}
use Rattle.floats.specs.Pick.{pick}
use Rattle.floats.specs.Numbers.{least_of, greatest_of, size_of, minus_zero, clean_of, usable_to, all_to}
use Rattle.numbers.specs.Root.{root_below, whole_root, root_within, root_of}
use Rattle.numbers.specs.Length.{tiny_parts, plain_length, scaled_back, length_of}
use Rattle.numbers.specs.Whole.{whole_up}
use Rattle.stock.specs.Spec.{clean_spec, spec_good, cells_of}
use Rattle.stock.specs.Bin.{bin_of}
use Rattle.stock.specs.Cell.{put_cell, cell_fits, fit_to, cells_fit, stock_of, cells_like}
use Rattle.reach.specs.Low.{lower_of, upper_of}
use Rattle.reach.specs.Reach.{deeper, shallower, deep_of, sure_of, limit_of, with_pair, own_of, cut_by, cut_cell, flipped, stored_of, reach_from}
use Rattle.nose.specs.Capsule.{end_at, facing, normal_of, shifted, line_at, side_at, capsule_min_r, least_point, capsule_lowest}
use Rattle.nose.specs.Nose.{clean_at, segment_at, segment_good, good_to, segments_good, in_bin, low_with, high_with, with_segment, nose_to, nose_reach, nose_act}
use Rattle.polygon.specs.Polygon as Polygon
use Rattle.polygon.specs.Polygon.{polygon_good, height_at, point_at, along_of, edge_at, lowest_to, lowest_of, widened, extent_to, extent_of, spans, past_of, bins_from, bins_of, lows_to, lows_from, high_from, low_in, high_in, swept_reach, reach_over, polygon_reach, polygon_act}
use Rattle.changes.specs.Change.{change_at, changes_to}
use Rattle.rings.specs.Ring.{kept, around, split, subtract, subtract_all, in_hand, clip, left}
use Rattle.rings.specs.Store.{rings_of, flat_of, store_as, ring_fits, apart_all, store_fits, count_fits}
use Rattle.rings.specs.Remove.{room_for, added, stored_next, remove_in, remove_ring}
use Rattle.queries.specs.Envelope.{first_at, last_at, shown_of, together, most_over, seen_at, envelope_at}
use Rattle.cuts.specs.Cut.{misses, drill_at, thread_reach, drill_reach, cut_reach, cut_good, clean_cut}
use Rattle.cuts.specs.Preview.{preview_of, preview_cut}
use Rattle.cuts.specs.Tool.{preview_tool}
use Rattle.changes.specs.Commit.{applies_to, passes, each_from, fall_after, first_fall, pass_all, commit_in, own_commit}
use Rattle.demands.specs.Job.{turned, turned_all}
use Rattle.sample_wheel.specs.Wheel.{new_bar, after_cuts, take_ring, after_rings, answer_of}
use Rattle.sample_wheel.specs.Table.{Row, table, P1, P2, P3, P4, P5, P6, P7, P8, P9, P9b, P10, P10b, P11, P12, P12b, P13, P13b, P13c}

-- a row's question has the row's answer
abbrev pub Holds : Row → Type 0
Holds r = answer_of r.ask ≡ r.answer

-- the roots
roots : Each Holds (P1 ∷ P2 ∷ [])
unfolding demand onward pick least_of greatest_of size_of minus_zero clean_of root_below whole_root root_within root_of answer_of Ieee.of_bits Ieee.of_fields Ieee.odd Ieee.eq Ieee.ne Ieee.lt Ieee.le Ieee.div Ieee.sub Ieee.add Ieee.mul Ieee.neg Ieee.sum Ieee.round Ieee.units Ieee.of_int Ieee.size Ieee.span Ieee.climb Ieee.to_unsigned
roots = (refl, (refl, tt))

-- a nose
noses : Each Holds (P3 ∷ P4 ∷ P5 ∷ [])
unfolding demand demand_none placed onward pick least_of greatest_of size_of minus_zero clean_of root_below whole_root root_within root_of whole_up clean_spec spec_good cells_of bin_of put_cell cell_fits fit_to cells_fit stock_of cells_like deeper shallower deep_of sure_of limit_of with_pair own_of cut_by cut_cell change_at changes_to applies_to passes each_from fall_after first_fall pass_all commit_in own_commit turned turned_all new_bar after_cuts answer_of preview_of preview_tool preview_cut tiny_parts plain_length scaled_back length_of lower_of upper_of flipped stored_of reach_from end_at facing normal_of shifted line_at side_at capsule_min_r least_point capsule_lowest clean_at segment_at segment_good good_to segments_good in_bin low_with high_with with_segment nose_to nose_reach nose_act Ieee.of_bits Ieee.of_fields Ieee.odd Ieee.eq Ieee.ne Ieee.lt Ieee.le Ieee.div Ieee.sub Ieee.add Ieee.mul Ieee.neg Ieee.sum Ieee.round Ieee.units Ieee.of_int Ieee.size Ieee.span Ieee.climb Ieee.to_unsigned
noses = (refl, (refl, (refl, tt)))

-- a thread, a drill, a polygon
others : Each Holds (P6 ∷ P7 ∷ P8 ∷ [])
unfolding demand demand_none placed onward pick least_of greatest_of size_of minus_zero clean_of whole_up clean_spec spec_good cells_of bin_of put_cell cell_fits fit_to cells_fit stock_of cells_like deeper shallower deep_of sure_of limit_of with_pair own_of cut_by cut_cell change_at changes_to applies_to passes each_from fall_after first_fall pass_all commit_in own_commit turned turned_all new_bar after_cuts answer_of preview_of preview_tool preview_cut misses drill_at thread_reach drill_reach cut_reach cut_good clean_cut usable_to all_to polygon_good height_at point_at along_of edge_at lowest_to lowest_of widened extent_to extent_of spans past_of bins_from bins_of lows_to lows_from Polygon.raised high_from low_in high_in swept_reach reach_over polygon_reach polygon_act lower_of upper_of flipped stored_of reach_from Ieee.of_bits Ieee.of_fields Ieee.odd Ieee.eq Ieee.ne Ieee.lt Ieee.le Ieee.div Ieee.sub Ieee.add Ieee.mul Ieee.neg Ieee.sum Ieee.round Ieee.units Ieee.of_int Ieee.size Ieee.span Ieee.climb Ieee.to_unsigned
others = (refl, (refl, (refl, tt)))

-- cuts in two orders
orders : Each Holds (P9 ∷ P9b ∷ P10 ∷ P10b ∷ [])
unfolding demand demand_none placed onward pick least_of greatest_of size_of minus_zero clean_of root_below whole_root root_within root_of whole_up clean_spec spec_good cells_of bin_of put_cell cell_fits fit_to cells_fit stock_of cells_like deeper shallower deep_of sure_of limit_of with_pair own_of cut_by cut_cell change_at changes_to applies_to passes each_from fall_after first_fall pass_all commit_in own_commit turned turned_all new_bar after_cuts answer_of preview_of preview_tool preview_cut tiny_parts plain_length scaled_back length_of lower_of upper_of flipped stored_of reach_from end_at facing normal_of shifted line_at side_at capsule_min_r least_point capsule_lowest clean_at segment_at segment_good good_to segments_good in_bin low_with high_with with_segment nose_to nose_reach nose_act misses drill_at thread_reach drill_reach cut_reach cut_good clean_cut Ieee.of_bits Ieee.of_fields Ieee.odd Ieee.eq Ieee.ne Ieee.lt Ieee.le Ieee.div Ieee.sub Ieee.add Ieee.mul Ieee.neg Ieee.sum Ieee.round Ieee.units Ieee.of_int Ieee.size Ieee.span Ieee.climb Ieee.to_unsigned
orders = (refl, (refl, (refl, (refl, tt))))

-- rings
rings : Each Holds (P11 ∷ P12 ∷ P12b ∷ [])
unfolding demand demand_at onward pick least_of greatest_of size_of minus_zero clean_of over kept around split subtract subtract_all in_hand clip left rings_of flat_of store_as ring_fits apart_all store_fits count_fits room_for added stored_next remove_in remove_ring take_ring after_rings answer_of clean_spec spec_good cells_of whole_up Ieee.of_bits Ieee.of_fields Ieee.odd Ieee.eq Ieee.ne Ieee.lt Ieee.le Ieee.div Ieee.sub Ieee.add Ieee.mul Ieee.neg Ieee.sum Ieee.round Ieee.units Ieee.of_int Ieee.size Ieee.span Ieee.climb Ieee.to_unsigned
rings = (refl, (refl, (refl, tt)))

-- what stands at a height
heights : Each Holds (P13 ∷ P13b ∷ P13c ∷ [])
unfolding demand demand_none placed onward pick least_of greatest_of size_of minus_zero clean_of root_below whole_root root_within root_of whole_up clean_spec spec_good cells_of bin_of put_cell cell_fits fit_to cells_fit stock_of cells_like deeper shallower deep_of sure_of limit_of with_pair own_of cut_by cut_cell change_at changes_to applies_to passes each_from fall_after first_fall pass_all commit_in own_commit turned turned_all new_bar after_cuts answer_of preview_of preview_tool preview_cut tiny_parts plain_length scaled_back length_of lower_of upper_of flipped stored_of reach_from end_at facing normal_of shifted line_at side_at capsule_min_r least_point capsule_lowest clean_at segment_at segment_good good_to segments_good in_bin low_with high_with with_segment nose_to nose_reach nose_act first_at last_at shown_of together most_over seen_at envelope_at Ieee.of_bits Ieee.of_fields Ieee.odd Ieee.eq Ieee.ne Ieee.lt Ieee.le Ieee.div Ieee.sub Ieee.add Ieee.mul Ieee.neg Ieee.sum Ieee.round Ieee.units Ieee.of_int Ieee.size Ieee.span Ieee.climb Ieee.to_unsigned
heights = (refl, (refl, (refl, tt)))

-- P1 TO P13: every row holds
pub holds : Each Holds table
holds = (roots.0, (roots.1.0, (noses.0, (noses.1.0, (noses.1.1.0, (others.0, (others.1.0, (others.1.1.0, (orders.0, (orders.1.0, (orders.1.1.0, (orders.1.1.1.0, (rings.0, (rings.1.0, (rings.1.1.0, (heights.0, (heights.1.0, (heights.1.1.0, tt))))))))))))))))))
