-- The third demand speaks of jobs that there are: two threads over a whole bar, with what they leave; a drill and an inner thread; a nose, a polygon and a thread; the runs of calls that make them; and why a bin that both sides reach is left out. Assumes nothing.
use mathlib.Core.Path.{◌≡◌, refl}
use mathlib.Core.List.Permᴰ
use mathlib.Core.List.{List, [], ◌∷◌}
use Prim.Native.Nat.{zero, suc}
use lib.Dec.{T}
use native.Mathlib.Omega.{arith}
use lib.Ieee
use lib.Ieee.{Float, binary64, of_bits, fits}
use Rattle.floats.specs.Each.{Each}
use Rattle.stock.proofs.Bins.{HeldList}
use Rattle.refusals.specs.Paper.{answers, demand, demand_none, placed, onward}
use Rattle.floats.specs.Pick.{pick}
use Rattle.floats.specs.Numbers.{zero64, least_of, greatest_of, clean_of, minus_zero, usable_to, all_to}
use Rattle.numbers.specs.Whole.{whole_up}
use Rattle.stock.specs.declared.TurnStockSpec.{TurnStockSpec}
use Rattle.stock.specs.declared.TurnSide.TheVariants.{Outer, Inner}
use Rattle.stock.specs.Spec.{clean_spec, spec_good, cells_of}
use Rattle.stock.specs.Bin.{bin_of}
use Rattle.stock.specs.Cell.{cell_fits, fit_to, cells_fit, stock_of, put_cell}
use Rattle.reach.specs.Reach.{deeper, shallower, deep_of, sure_of, limit_of, with_pair, own_of, cut_by, cut_cell}
use Rattle.changes.specs.Change.{change_at, changes_to}
use Rattle.nose.specs.Nose.{clean_at, segment_at, segment_good, good_to, segments_good}
use Rattle.polygon.specs.Polygon.{polygon_good}
use Rattle.cuts.specs.declared.Cut.TheVariants.{Thread, ThreadInner, Drill}
use Rattle.cuts.specs.Cut.{misses, drill_at, thread_reach, drill_reach, cut_reach, cut_good, clean_cut}
use Rattle.cuts.specs.Preview.{preview_cut}
use Rattle.cuts.specs.Tool.{tool_act, tool_good, preview_tool}
use Rattle.changes.specs.Commit.{applies_to, passes, each_from, fall_after, first_fall, pass_all, Committed, commit_in, own_commit}
use Rattle.demands.specs.Job.{turned, turned_all}
use Rattle.demands.specs.Tool.{Cutter, single, nose, polygon, turned_tools, ToolsJob}
use Rattle.demands.proofs.Tools.{tools-any-order}
use Rattle.demands.proofs.Runs.{Runs, job-runs}

abbrev three : Float
three = of_bits binary64 0x4008000000000000

abbrev four : Float
four = of_bits binary64 0x4010000000000000

abbrev seven : Float
seven = of_bits binary64 0x401C000000000000

abbrev nine : Float
nine = of_bits binary64 0x4022000000000000

abbrev ten : Float
ten = of_bits binary64 0x4024000000000000

-- 01's bar Q: z 0..9, outer 10, no bore, cells of 3
abbrev pub bar : TurnStockSpec
bar = record { z_min_mm = zero64; z_max_mm = nine; outer_radius_mm = ten; bore_radius_mm = zero64; cell_mm = three; max_cells = 4096 }

abbrev pub whole : Committed
whole = record { cells = ten ∷ ten ∷ zero64 ∷ zero64 ∷ ten ∷ ten ∷ zero64 ∷ zero64 ∷ ten ∷ ten ∷ zero64 ∷ zero64 ∷ []; generation = 0 }

-- a thread all along, and a deeper one from 3 on
abbrev long : Cutter
long = single (Thread zero64 nine four)

abbrev short : Cutter
short = single (Thread three nine three)

held : (xs : List Float) → Each (λ (x : Float). T (fits binary64 x)) xs → HeldList xs
unfolding fits
held [] ps k = tt
held (x ∷ l) ps zero = ps.0
held (x ∷ l) ps (suc k) = held l ps.1 k

-- the demand applies to them
pub job : ToolsJob bar 3 3 whole (long ∷ short ∷ [])
unfolding stock_of onward demand cells_of clean_spec spec_good clean_of minus_zero pick whole_up cells_fit fit_to cell_fits tool_good cut_good clean_cut Ieee.of_bits Ieee.of_fields Ieee.odd Ieee.eq Ieee.lt Ieee.le Ieee.div Ieee.sub Ieee.add Ieee.neg Ieee.sum Ieee.round Ieee.units Ieee.size Ieee.span Ieee.climb Ieee.fits
job =
    record {
      spec_held = record { z-min = tt; z-max = tt; outer = tt; bore = tt; cell = tt };
      cells_held = held whole.cells (tt, (tt, (tt, (tt, (tt, (tt, (tt, (tt, (tt, (tt, (tt, (tt, tt))))))))))));
      tools_held = ((tt, tt, tt), ((tt, tt, tt), tt));
      stock = refl;
      good = (refl, (refl, tt));
      space = omega arith;
      spare = omega arith;
    }

-- so either order gives the same
pub same : turned_tools bar 3 whole (long ∷ short ∷ []) ≡ turned_tools bar 3 whole (short ∷ long ∷ [])
unfolding clean_cut tool_act
same = tools-any-order (Permᴰ.swap refl refl) job Outer (refl, (refl, tt))

-- and this is what they leave, worked out by the rules: lower is 4 in the first bin and 3 in the two others
pub left : turned_tools bar 3 whole (long ∷ short ∷ []) ≡ answers (record { cells = four ∷ ten ∷ zero64 ∷ zero64 ∷ three ∷ ten ∷ zero64 ∷ zero64 ∷ three ∷ ten ∷ zero64 ∷ zero64 ∷ []; generation = 2 })
unfolding turned_all turned tool_act preview_tool preview_cut own_commit commit_in pass_all first_fall fall_after each_from passes applies_to demand_none placed put_cell changes_to change_at cut_cell cut_by own_of with_pair deeper shallower deep_of sure_of limit_of cut_reach thread_reach misses bin_of stock_of onward demand cells_of clean_spec spec_good clean_of minus_zero pick whole_up cells_fit fit_to cell_fits cut_good clean_cut least_of greatest_of Ieee.of_bits Ieee.of_fields Ieee.odd Ieee.eq Ieee.lt Ieee.le Ieee.div Ieee.sub Ieee.add Ieee.mul Ieee.neg Ieee.sum Ieee.round Ieee.units Ieee.of_int Ieee.size Ieee.span Ieee.climb
left = refl

-- ---- a bin that both sides reach: the first to reach it is floor or ceiling of the second
abbrev bored : Cutter
bored = single (Drill (of_bits binary64 0xBFF0000000000000) seven zero64)

-- threaded first, the thread goes to 4
pub threaded-first : turned_tools bar 3 whole (long ∷ bored ∷ []) ≡ answers (record { cells = four ∷ ten ∷ seven ∷ seven ∷ four ∷ ten ∷ seven ∷ seven ∷ four ∷ ten ∷ seven ∷ seven ∷ []; generation = 2 })
unfolding turned_all turned tool_act preview_tool preview_cut own_commit commit_in pass_all first_fall fall_after each_from passes applies_to demand_none placed put_cell changes_to change_at cut_cell cut_by own_of with_pair deeper shallower deep_of sure_of limit_of cut_reach thread_reach drill_reach drill_at misses bin_of stock_of onward demand cells_of clean_spec spec_good clean_of minus_zero pick whole_up cells_fit fit_to cell_fits cut_good clean_cut least_of greatest_of Ieee.of_bits Ieee.of_fields Ieee.odd Ieee.eq Ieee.lt Ieee.le Ieee.div Ieee.sub Ieee.add Ieee.mul Ieee.neg Ieee.sum Ieee.round Ieee.units Ieee.of_int Ieee.size Ieee.span Ieee.climb
threaded-first = refl

-- bored first, it stops at 7
pub bored-first : turned_tools bar 3 whole (bored ∷ long ∷ []) ≡ answers (record { cells = seven ∷ ten ∷ seven ∷ seven ∷ seven ∷ ten ∷ seven ∷ seven ∷ seven ∷ ten ∷ seven ∷ seven ∷ []; generation = 2 })
unfolding turned_all turned tool_act preview_tool preview_cut own_commit commit_in pass_all first_fall fall_after each_from passes applies_to demand_none placed put_cell changes_to change_at cut_cell cut_by own_of with_pair deeper shallower deep_of sure_of limit_of cut_reach thread_reach drill_reach drill_at misses bin_of stock_of onward demand cells_of clean_spec spec_good clean_of minus_zero pick whole_up cells_fit fit_to cell_fits cut_good clean_cut least_of greatest_of Ieee.of_bits Ieee.of_fields Ieee.odd Ieee.eq Ieee.lt Ieee.le Ieee.div Ieee.sub Ieee.add Ieee.mul Ieee.neg Ieee.sum Ieee.round Ieee.units Ieee.of_int Ieee.size Ieee.span Ieee.climb
bored-first = refl

-- ---- runs of the calls: the two threads, each previewed and committed, over flat lists, over records and with commits that ask nothing again, on a stock of edition 2 with no rings
pub runs : Runs bar 2 0 3 whole (long ∷ short ∷ [])
runs = job-runs job

-- ---- cuts from inside: a drill and an inner thread
abbrev groove : Cutter
groove = single (ThreadInner three nine four)

pub inside : ToolsJob bar 3 3 whole (bored ∷ groove ∷ [])
unfolding stock_of onward demand cells_of clean_spec spec_good clean_of minus_zero pick whole_up cells_fit fit_to cell_fits tool_good cut_good clean_cut Ieee.of_bits Ieee.of_fields Ieee.odd Ieee.eq Ieee.lt Ieee.le Ieee.div Ieee.sub Ieee.add Ieee.neg Ieee.sum Ieee.round Ieee.units Ieee.size Ieee.span Ieee.climb Ieee.fits
inside =
    record {
      spec_held = job.spec_held;
      cells_held = job.cells_held;
      tools_held = ((tt, tt, tt), ((tt, tt, tt), tt));
      stock = refl;
      good = (refl, (refl, tt));
      space = omega arith;
      spare = omega arith;
    }

pub inside-same : turned_tools bar 3 whole (bored ∷ groove ∷ []) ≡ turned_tools bar 3 whole (groove ∷ bored ∷ [])
unfolding clean_cut tool_act
inside-same = tools-any-order (Permᴰ.swap refl refl) inside Inner (refl, (refl, tt))

-- ---- a nose and a polygon: 01's P3 and P8
abbrev five : Float
five = of_bits binary64 0x4014000000000000

abbrev six : Float
six = of_bits binary64 0x4018000000000000

abbrev twelve : Float
twelve = of_bits binary64 0x4028000000000000

-- rn 5, (r 9, z 3) to (9, 6), sag 0
abbrev nosed : Cutter
nosed = nose Outer five (nine ∷ three ∷ nine ∷ six ∷ zero64 ∷ [])

-- (0, 4) (3, 4) (3, 12) (0, 12) in (z, r), excess a half
abbrev swept : Cutter
swept = polygon Outer (of_bits binary64 0x3FE0000000000000) (zero64 ∷ four ∷ three ∷ four ∷ three ∷ twelve ∷ zero64 ∷ twelve ∷ [])

pub shaped : ToolsJob bar 3 3 whole (nosed ∷ swept ∷ long ∷ [])
unfolding stock_of onward demand cells_of clean_spec spec_good clean_of minus_zero pick whole_up cells_fit fit_to cell_fits tool_good cut_good clean_cut segments_good good_to segment_good segment_at clean_at polygon_good usable_to all_to Ieee.of_bits Ieee.of_fields Ieee.odd Ieee.eq Ieee.lt Ieee.le Ieee.div Ieee.sub Ieee.add Ieee.neg Ieee.sum Ieee.round Ieee.units Ieee.size Ieee.span Ieee.climb Ieee.fits
shaped =
    record {
      spec_held = job.spec_held;
      cells_held = job.cells_held;
      tools_held = ((tt, held nosed.beside (tt, (tt, (tt, (tt, (tt, tt)))))), ((tt, held swept.beside (tt, (tt, (tt, (tt, (tt, (tt, (tt, (tt, tt))))))))), ((tt, tt, tt), tt)));
      stock = refl;
      good = (refl, (refl, (refl, tt)));
      space = omega arith;
      spare = omega arith;
    }

pub shaped-runs : Runs bar 2 0 3 whole (nosed ∷ swept ∷ long ∷ [])
shaped-runs = job-runs shaped
