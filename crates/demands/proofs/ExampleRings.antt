-- The laws of rings, moves and jobs speak of runs that there are: a ring stored, a move accepted, a stock rebuilt, a job that is refused and one that is not. Assumes nothing.
use Rattle.std.specs.Prelude.{Ok}
use mathlib.Core.Path.{◌≡◌, refl}
use mathlib.Core.List.{List, [], ◌∷◌, ◌++◌}
use Prim.Native.Nat.{ℕ}
use lib.ListN.{length}
use lib.Ieee
use lib.Ieee.{Float, binary64, of_bits}
use Rattle.refusals.specs.Paper.{only, demand, demand_at, demand_none, onward}
use Rattle.refusals.specs.Lent.{over}
use Rattle.floats.specs.Pick.{pick}
use Rattle.floats.specs.Numbers.{zero64, least_of, greatest_of, size_of, clean_of, minus_zero}
use Rattle.numbers.specs.Whole.{whole_up}
use Rattle.stock.specs.Spec.{clean_spec, spec_good, cells_of}
use Rattle.stock.specs.Cell.{cell_fits, fit_to, cells_fit, stock_of, cells_like}
use Rattle.stock.specs.Stock.{same_stamp, stock_from, new_stock}
use Rattle.changes.specs.Change.{changes_from}
use Rattle.blocks.specs.Block.{fold_from, block_with, block_of, blocks_to, block_at, match_to, matches_of}
use Rattle.blocks.specs.Renew.{renew_of}
use Rattle.changes.specs.Commit.{each_from, first_fall, pass_all, numbers_kept}
use Rattle.rings.specs.declared.Ring.{Ring}
use Rattle.rings.specs.Ring as Ring
use Rattle.rings.specs.Ring.{kept, around, split, subtract, subtract_all, in_hand, clip, left}
use Rattle.rings.specs.Store.{rings_of, flat_of, store_as, ring_fits, apart_all, store_fits, count_fits, bad_from, bad_ring, raised_by}
use Rattle.rings.specs.Remove.{room_for, added, added_all, count_of, remove_all_in, remove_rings, stored_next, remove_in, remove_ring, counts_of, rings_left_after}
use Rattle.rings.specs.Tests.{tests_of, tests_for, tests_list, ring_tests}
use Rattle.moves.specs.Move.{generation_after, movable_of, rings_moved, taken_of, move_in, move_of, given_of, parts_of, Rebuilds}
use Rattle.text.specs.Parts.{into_first, parted_at}
use Rattle.text.specs.Same.{same_bytes}
use Rattle.text.specs.Whole.{all_digits, spelt, is_whole, whole_of}
use Rattle.job_words.specs.Number.{field_number}
use Rattle.job_words.specs.Kind.{at, all_numbers, numbers, bar_of, kind_of, line_of}
use Rattle.lines.specs.File.{pieces_of}
use Rattle.job_run.specs.Job as Job
use Rattle.job_run.specs.Job.{first_line, job_line}
use Rattle.job_run.specs.Run.{state, fresh_run, answered}
use Rattle.demands.specs.Run.{Store, RanRings, done, ring, Move, RanMoves, no-moves, made_move}
use Rattle.demands.specs.Offending.{lines_on, wrong_with, Offends, NoneOffends}
use Rattle.demands.proofs.Example.{bar, whole}

abbrev two : Float
two = of_bits binary64 0x4000000000000000

abbrev six : Float
six = of_bits binary64 0x4018000000000000

-- room for two rings, and none stored
abbrev empty : List Float
empty = zero64 ∷ zero64 ∷ zero64 ∷ zero64 ∷ zero64 ∷ zero64 ∷ zero64 ∷ zero64 ∷ []

-- one ring stored: z 0..6, r 2..6
abbrev one : List Float
one = zero64 ∷ six ∷ two ∷ six ∷ zero64 ∷ zero64 ∷ zero64 ∷ zero64 ∷ []

abbrev none-stored : Store
none-stored = record { numbers = empty; count = 0; generation = 0 }

-- a ring taken by `remove_ring`
pub ring-taken : RanRings bar 3 none-stored (Ring.ring zero64 six two six ∷ []) (record { numbers = one; count = 1; generation = 1 })
unfolding demand demand_at onward pick least_of greatest_of size_of minus_zero clean_of over kept around split subtract subtract_all in_hand clip left rings_of flat_of store_as ring_fits apart_all store_fits count_fits room_for added stored_next remove_in remove_ring counts_of rings_left_after tests_of tests_for ring_tests clean_spec spec_good cells_of whole_up Ieee.of_bits Ieee.of_fields Ieee.odd Ieee.eq Ieee.ne Ieee.lt Ieee.le Ieee.div Ieee.sub Ieee.add Ieee.mul Ieee.neg Ieee.sum Ieee.round Ieee.units Ieee.of_int Ieee.size Ieee.span Ieee.climb Ieee.to_unsigned
ring-taken = ring {t = 0} (record { answer = refl; store = refl; tests = refl }) done

-- ---- the tests that rings take, on a bar z 0..9 r 0..10

abbrev num : ℕ → Float
num n = of_bits binary64 n

abbrev field : Ring
field = Ring.ring zero64 (num 0x4022000000000000) zero64 (num 0x4024000000000000)

-- z 0..9 r 0..9, and two within it: z 1..2 r 1..2, z 4..5 r 4..5
abbrev wide : Ring
wide = Ring.ring zero64 (num 0x4022000000000000) zero64 (num 0x4022000000000000)

abbrev low : Ring
low = Ring.ring (num 0x3ff0000000000000) two (num 0x3ff0000000000000) two

abbrev high : Ring
high = Ring.ring (num 0x4010000000000000) (num 0x4014000000000000) (num 0x4010000000000000) (num 0x4014000000000000)

-- the order shows in them: 0, 1, 1 with the wide one first, and 0, 1, 5 with it last
pub orders-differ : (tests_list field 256 [] (wide ∷ low ∷ high ∷ []) ≡ 0 ∷ 1 ∷ 1 ∷ []) × (tests_list field 256 [] (low ∷ high ∷ wide ∷ []) ≡ 0 ∷ 1 ∷ 5 ∷ [])
unfolding demand pick least_of greatest_of clean_of kept around split subtract subtract_all in_hand clip left room_for added tests_of tests_for tests_list Ieee.of_bits Ieee.of_fields Ieee.odd Ieee.eq Ieee.ne Ieee.lt Ieee.le Ieee.div Ieee.sub Ieee.add Ieee.mul Ieee.neg Ieee.sum Ieee.round Ieee.units Ieee.of_int Ieee.size Ieee.span Ieee.climb Ieee.to_unsigned
orders-differ = (refl, refl)

-- the kept numbers of the whole bar
abbrev bar_kept : List Float
bar_kept = numbers_kept bar whole.cells

-- the same ring by a move of no changes
abbrev ringed : Move
ringed = record { indices = []; numbers = []; count = 0; removed = zero64 ∷ six ∷ two ∷ six ∷ [] }

pub move-made : RanMoves bar 3 (record { cells = whole.cells; store = none-stored }) (ringed ∷ []) (record { cells = whole.cells; store = record { numbers = one; count = 1; generation = 2 } })
unfolding demand demand_none onward pick least_of greatest_of size_of minus_zero clean_of over kept around split subtract subtract_all in_hand clip left rings_of flat_of store_as ring_fits apart_all store_fits count_fits bad_from bad_ring raised_by room_for added added_all remove_all_in remove_rings generation_after same_stamp fold_from block_with block_of blocks_to block_at match_to matches_of movable_of rings_moved taken_of move_in move_of changes_from each_from first_fall pass_all clean_spec spec_good cells_of whole_up cell_fits fit_to cells_fit stock_of Ieee.of_bits Ieee.of_fields Ieee.odd Ieee.eq Ieee.ne Ieee.lt Ieee.le Ieee.div Ieee.sub Ieee.add Ieee.mul Ieee.neg Ieee.sum Ieee.round Ieee.units Ieee.of_int Ieee.size Ieee.span Ieee.climb Ieee.to_unsigned
move-made = made_move {bs = bar_kept} {bs' = bar_kept} (record { left = record { answer = refl; cells = refl; rings = refl }; kept = refl }) no-moves

-- and by `from_parts`
pub parts-rebuilt : Rebuilds bar 3 whole.cells (parts_of bar whole.cells (length bar_kept) (zero64 ∷ six ∷ two ∷ six ∷ []) empty) (Ok (stock_from bar 3 1 0)) bar_kept bar_kept empty one
unfolding demand demand_none onward pick least_of greatest_of size_of minus_zero clean_of over kept around split subtract subtract_all in_hand clip left rings_of flat_of store_as ring_fits apart_all store_fits count_fits bad_from bad_ring room_for added added_all remove_all_in remove_rings count_of fold_from block_with block_of blocks_to renew_of given_of parts_of clean_spec spec_good cells_of whole_up cell_fits fit_to cells_fit stock_of Ieee.of_bits Ieee.of_fields Ieee.odd Ieee.eq Ieee.ne Ieee.lt Ieee.le Ieee.div Ieee.sub Ieee.add Ieee.mul Ieee.neg Ieee.sum Ieee.round Ieee.units Ieee.of_int Ieee.size Ieee.span Ieee.climb Ieee.to_unsigned
parts-rebuilt = record { answer = refl; kept = refl; store = refl }

-- ---- a job: the empty one offends at line 1, with 15
pub empty-offends : (edition : ℕ) (cs rs : List Float) → Offends (state (fresh_run edition) cs rs) (pieces_of []) 1 15
unfolding parted_at lines_on wrong_with demand
empty-offends edition cs rs = record { before = []; line = []; after = []; order = refl; reached = state (fresh_run edition) cs rs; carried = refl; number = refl; why = only 15; wrong = refl; refusal = refl }

-- and the first line of 01's example, `bar`, with its newline, is carried out: one cell, of radius 20, with no bore, of edition 3 in a job of edition 3
abbrev bar_line : List ℕ
bar_line = 98 ∷ 97 ∷ 114 ∷ 9 ∷ 48 ∷ 9 ∷ 49 ∷ 48 ∷ 48 ∷ 48 ∷ 9 ∷ 50 ∷ 48 ∷ 48 ∷ 48 ∷ 48 ∷ 9 ∷ 48 ∷ 9 ∷ 49 ∷ 48 ∷ 48 ∷ 48 ∷ []

abbrev millimetre : Float
millimetre = of_bits binary64 0x3FF0000000000000

abbrev twenty : Float
twenty = of_bits binary64 0x4034000000000000

pub bar-carried : NoneOffends (state (fresh_run 3) (zero64 ∷ zero64 ∷ zero64 ∷ zero64 ∷ []) []) (pieces_of (bar_line ++ (10 ∷ [])))
    (state (record { job = record { stock = new_stock (record { z_min_mm = zero64; z_max_mm = millimetre; outer_radius_mm = twenty; bore_radius_mm = zero64; cell_mm = millimetre; max_cells = 512 }) 3; cells = 1 }; lines = 1; refused = 0 }) (twenty ∷ twenty ∷ zero64 ∷ zero64 ∷ []) [])
unfolding parted_at into_first lines_on answered job_line first_line Job.bar_line line_of kind_of bar_of numbers all_numbers at field_number whole_of is_whole all_digits spelt same_bytes demand onward pick over clean_spec spec_good cells_of whole_up cells_like clean_of minus_zero Ieee.of_bits Ieee.of_fields Ieee.odd Ieee.eq Ieee.ne Ieee.lt Ieee.le Ieee.div Ieee.sub Ieee.add Ieee.mul Ieee.neg Ieee.sum Ieee.round Ieee.units Ieee.of_int Ieee.size Ieee.span Ieee.climb Ieee.to_unsigned
bar-carried = record { lines = bar_line ∷ []; order = refl; carried = refl; some = refl }
