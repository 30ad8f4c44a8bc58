-- The rule of a tool's preview, by what its questions find, and what a sweep says. Assumes nothing.
use mathlib.Core.Path.{◌≡◌, refl, sym, ap, ◌∙◌, subst}
use mathlib.Core.Bool.{Bool, true, false}
use mathlib.Core.List.{List}
use Prim.Native.Nat.{ℕ, ◌≤◌}
use lib.Ieee.{Float}
use Rattle.refusals.specs.Paper.{Reason, answers, refuses, only}
use Rattle.floats.specs.Numbers.{clean_of}
use Rattle.stock.specs.declared.TurnStockSpec.{TurnStockSpec}
use Rattle.stock.specs.declared.TurnSide.{TurnSide}
use Rattle.stock.specs.declared.BinRange.{BinRange}
use Rattle.stock.specs.Spec.{clean_spec}
use Rattle.stock.specs.Cell.{stock_of}
use Rattle.reach.specs.declared.Swept.{Swept}
use Rattle.nose.specs.Nose.{segments_good, segment_count, nose_act}
use Rattle.polygon.specs.Polygon.{polygon_good, polygon_act}
use Rattle.cuts.specs.declared.Cut.{Cut}
use Rattle.cuts.specs.declared.Tool.{Tool}
use Rattle.cuts.specs.declared.Tool.TheVariants as tool
use Rattle.cuts.specs.declared.each_cut.Sweep.{Sweep}
use Rattle.cuts.specs.declared.each_cut.Sweep.TheVariants as sweep
use Rattle.cuts.specs.Cut.{clean_cut}
use Rattle.cuts.specs.Rows.{row_at, RowFilled, Idle, Says}
use Rattle.cuts.specs.Source.{source_act, span_act}
use Rattle.cuts.specs.declared.list.Source.TheVariants as source
use Rattle.cuts.specs.Preview.{proposed, preview_cut}
use Rattle.cuts.specs.Tool.{tool_inside, preview_tool, cut_in, tool_in, sweep_side, sweep_act}
use Rattle.cuts.proofs.Sweeps.{says-nose}
use Rattle.cuts.proofs.Previews.{of-refused, of-outside, act-is, cut-refused, cut-outside, cut-is, rows-propose}

-- ---- the preview
pub tool-refused : (spec : TurnStockSpec) (cs : List Float) (t : Tool) (ys : List Float) (room : ℕ) (r : Reason) → stock_of spec cs ≡ refuses r → preview_tool spec cs t ys room ≡ refuses r
unfolding preview_tool
tool-refused spec cs (tool.Single cut) ys room r e = cut-refused spec cs cut room r e
tool-refused spec cs (tool.Nose side rn) ys room r e = of-refused spec cs (segments_good rn ys) (nose_act (clean_spec spec) side rn ys) room r e
tool-refused spec cs (tool.Polygon side excess) ys room r e = of-refused spec cs (polygon_good ys excess) (polygon_act (clean_spec spec) side excess ys) room r e

pub tool-outside : (spec : TurnStockSpec) (cs : List Float) (t : Tool) (ys : List Float) (room n : ℕ) → stock_of spec cs ≡ answers n → tool_inside t ys ≡ false → preview_tool spec cs t ys room ≡ refuses (only 5)
unfolding preview_tool tool_inside
tool-outside spec cs (tool.Single cut) ys room n e g = cut-outside spec cs cut room (clean_cut cut) refl n e g
tool-outside spec cs (tool.Nose side rn) ys room n e g = of-outside spec cs (segments_good rn ys) (nose_act (clean_spec spec) side rn ys) room n e g
tool-outside spec cs (tool.Polygon side excess) ys room n e g = of-outside spec cs (polygon_good ys excess) (polygon_act (clean_spec spec) side excess ys) room n e g

pub tool-is : (spec : TurnStockSpec) (cs : List Float) (t : Tool) (ys : List Float) (room n : ℕ) → stock_of spec cs ≡ answers n → (s : TurnStockSpec) → s ≡ clean_spec spec → tool_inside t ys ≡ true → preview_tool spec cs t ys room ≡ tool_in s t ys cs n room
unfolding preview_tool tool_inside tool_in
tool-is spec cs (tool.Single cut) ys room n e s es g = cut-is spec cs cut room (clean_cut cut) refl n e s es g
tool-is spec cs (tool.Nose side rn) ys room n e s es g = act-is (λ x. nose_act x side rn ys) spec cs (segments_good rn ys) room n e s es g
tool-is spec cs (tool.Polygon side excess) ys room n e s es g = act-is (λ x. polygon_act x side excess ys) spec cs (polygon_good ys excess) room n e s es g

-- that of a single cut
pub single-is : (spec : TurnStockSpec) (cs : List Float) (t : Tool) (ys : List Float) (room : ℕ) {cut : Cut} → t ≡ tool.Single cut → preview_tool spec cs t ys room ≡ preview_cut spec cs cut room
unfolding preview_tool
single-is spec cs t ys room e = rw e refl

-- ---- on n checked cells, case by case
module _ (s : TurnStockSpec) (t : Tool) (ys cs : List Float) (n room : ℕ) where
  pub in-single : {cut : Cut} (u : Cut) → t ≡ tool.Single cut → u ≡ clean_cut cut → tool_in s t ys cs n room ≡ cut_in s u cs n room
  unfolding tool_in
  in-single u e eu = rw e (ap (λ (x : Cut). cut_in s x cs n room) (sym eu))

  pub in-nose : {side : TurnSide} {rn : Float} → t ≡ tool.Nose side rn → tool_in s t ys cs n room ≡ proposed (sweep_act s (sweep.Nose side rn) ys) cs room n
  unfolding tool_in sweep_act
  in-nose e = rw e refl

  pub in-polygon : {side : TurnSide} {excess : Float} → t ≡ tool.Polygon side excess → tool_in s t ys cs n room ≡ proposed (sweep_act s (sweep.Polygon side excess) ys) cs room n
  unfolding tool_in sweep_act
  in-polygon e = rw e refl

-- ---- a sweep

-- the side that it cuts
side-is : (s : TurnStockSpec) (w : Sweep) (ys : List Float) → (sweep_act s w ys).side ≡ sweep_side w
unfolding sweep_act sweep_side nose_act polygon_act
side-is s (sweep.Nose side rn) ys = refl
side-is s (sweep.Polygon side excess) ys = refl

-- what the rows of its kind say
pub says-nose-sweep : (s : TurnStockSpec) (w : Sweep) (ys : List Float) {side : TurnSide} {rn : Float} (n first last : ℕ) (new : ℕ → Swept) → w ≡ sweep.Nose side rn → Says (nose_act s side rn ys) n first last new → Says (sweep_act s w ys) n first last new
unfolding sweep_act
says-nose-sweep s w ys n first last new e h = rw e h

-- of a radius that is read as its clean one, by what its rows are filled with
pub says-clean-nose : (s : TurnStockSpec) (w : Sweep) (ys : List Float) {side : TurnSide} {rn r : Float} (n : ℕ) (new : ℕ → Swept) (bins : BinRange) → w ≡ sweep.Nose side rn → r ≡ clean_of rn → RowFilled s n side r ys (segment_count ys) new × Idle n bins new × (bins.from ≤ bins.to) → Says (sweep_act s w ys) n bins.from bins.to new
says-clean-nose s w ys {side} {rn} n new bins e c f = says-nose-sweep s w ys n bins.from bins.to new e (says-nose s n side rn ys new bins (subst (λ (x : Float). RowFilled s n side x ys (segment_count ys) new) c f.0) f.1 f.2)

pub says-polygon-sweep : (s : TurnStockSpec) (w : Sweep) (ys : List Float) {side : TurnSide} {excess : Float} (n first last : ℕ) (new : ℕ → Swept) → w ≡ sweep.Polygon side excess → Says (polygon_act s side excess ys) n first last new → Says (sweep_act s w ys) n first last new
unfolding sweep_act
says-polygon-sweep s w ys n first last new e h = rw e h

-- which surface each cuts
pub nose-side : (w : Sweep) {side : TurnSide} {rn : Float} → w ≡ sweep.Nose side rn → side ≡ sweep_side w
unfolding sweep_side
nose-side w e = sym (ap sweep_side e)

pub polygon-side : (w : Sweep) {side : TurnSide} {excess : Float} → w ≡ sweep.Polygon side excess → side ≡ sweep_side w
unfolding sweep_side
polygon-side w e = sym (ap sweep_side e)

-- the lists are taken from the rows
pub sweep-proposes : (s : TurnStockSpec) (w : Sweep) (ys cs : List Float) (room n : ℕ) (side : TurnSide) (values : List Float) (there : List Bool) (first last : ℕ) → side ≡ sweep_side w → Says (sweep_act s w ys) n first last (row_at values there)
    → proposed (sweep_act s w ys) cs room n ≡ proposed (span_act first last (source_act s (source.Rows side) values there)) cs room n
sweep-proposes s w ys cs room n side values there first last e h =
    rows-propose s cs room n (sweep_act s w ys) values there first last h
    ∙ ap (λ (x : TurnSide). proposed (span_act first last (source_act s (source.Rows x) values there)) cs room n) (side-is s w ys ∙ sym e)
