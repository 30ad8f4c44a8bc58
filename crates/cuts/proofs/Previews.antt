-- The rules of the previews, by what their questions find. Assumes nothing.
use mathlib.Core.Path.{◌≡◌, refl, sym, ap, ◌∙◌, subst}
use mathlib.Core.Bool.{Bool, true, false, not, false≢true}
use mathlib.Core.List.{List}
use Prim.Native.Nat.{ℕ, ◌<◌}
use lib.Ieee.{Float}
use Rattle.refusals.specs.Paper.{Reason, answers, refuses, only, demand, papers}
use Rattle.floats.specs.Numbers.{least_of, greatest_of}
use Rattle.stock.specs.declared.TurnStockSpec.{TurnStockSpec}
use Rattle.stock.specs.declared.TurnSide.{TurnSide}
use Rattle.stock.specs.declared.TurnSide.TheVariants.{Outer, Inner}
use Rattle.stock.specs.Spec.{clean_spec}
use Rattle.stock.specs.Cell.{cell_at, stock_of}
use Rattle.stock.proofs.Count.{stocked, checked}
use Rattle.stock.proofs.Bins.{HeldSpec}
use Rattle.stock.proofs.EachFits.{stock-fits}
use Rattle.stock.proofs.SameCells.{fits-same}
use Rattle.reach.specs.Reach.{Act}
use Rattle.nose.specs.Nose.{nose_act}
use Rattle.cuts.specs.declared.Cut.{Cut}
use Rattle.cuts.specs.declared.Cut.TheVariants.{Line, Thread, ThreadInner, Drill, Arc}
use Rattle.cuts.specs.declared.list.Source.TheVariants as source
use Rattle.cuts.specs.Cut.{line_of, clean_cut, cut_reach, cut_good, is_arc, cut_act}
use Rattle.cuts.specs.Rows.{row_at, passed_of, Graded, Split, Between, Says}
use Rattle.cuts.specs.Source.{source_side, source_reach, source_act, span_act, thread_act, drill_act, SameTo}
use Rattle.cuts.specs.Preview.{proposed, preview_of, preview_cut}
use Rattle.cuts.proofs.Grades.{graded}
use Rattle.cuts.proofs.EachBin.{proposed-same}
use Rattle.cuts.proofs.Spans.{span-is, thread-spans, drill-spans}

-- ---- what the lists are taken from
module _ (s : TurnStockSpec) (cs : List Float) (room n : ℕ) where
  -- rows that say what the cut reaches
  pub rows-propose : (a : Act) (values : List Float) (there : List Bool) (first last : ℕ) → Says a n first last (row_at values there) → proposed a cs room n ≡ proposed (span_act first last (source_act s (source.Rows a.side) values there)) cs room n
  unfolding source_side source_reach
  rows-propose a values there first last w =
      proposed-same a (span_act first last (source_act s (source.Rows a.side) values there)) cs room n refl
      (span-is first last n (source_reach s (source.Rows a.side) values there) a.at w.under (λ j p q. sym (w.inside j p q)) w.over)

  -- the bins between the ends of a thread
  pub thread-propose : (side : TurnSide) (z0 z1 r lo hi : Float) → lo ≡ least_of z0 z1 → hi ≡ greatest_of z0 z1 → (first last : ℕ) → Between (passed_of s lo true false) (passed_of s hi false false) n first last → (values : List Float) (there : List Bool) → proposed (thread_act s side z0 z1 r) cs room n ≡ proposed (span_act first last (source_act s (source.Thread side r) values there)) cs room n
  unfolding source_side source_reach
  thread-propose side z0 z1 r lo hi el eh first last w values there = proposed-same (thread_act s side z0 z1 r) (span_act first last (source_act s (source.Thread side r) values there)) cs room n refl (thread-spans s n z0 z1 r lo hi el eh first last w)

  -- the bins from the tip of a drill on
  pub drill-propose : (tip r cone : Float) (first : ℕ) → Split (passed_of s tip true false) n first → (values : List Float) (there : List Bool) → proposed (drill_act s tip r cone) cs room n ≡ proposed (span_act first n (source_act s (source.Drill tip r cone) values there)) cs room n
  unfolding source_side source_reach
  drill-propose tip r cone first w values there = proposed-same (drill_act s tip r cone) (span_act first n (source_act s (source.Drill tip r cone) values there)) cs room n refl (drill-spans s n tip r cone first w)

  module _ (cut : Cut) where
    pub line-proposed : {side : TurnSide} {rn sag ar az br bz : Float} → cut ≡ Line side rn sag ar az br bz → demand (not (is_arc cut)) 13 (proposed (cut_act s cut) cs room n) ≡ proposed (nose_act s side rn (line_of ar az br bz sag)) cs room n
    unfolding demand cut_reach nose_act
    line-proposed e = rw e refl

    pub thread-proposed : {z0 z1 r : Float} → cut ≡ Thread z0 z1 r → demand (not (is_arc cut)) 13 (proposed (cut_act s cut) cs room n) ≡ proposed (thread_act s Outer z0 z1 r) cs room n
    unfolding demand cut_reach
    thread-proposed e = rw e refl

    pub inner-proposed : {z0 z1 r : Float} → cut ≡ ThreadInner z0 z1 r → demand (not (is_arc cut)) 13 (proposed (cut_act s cut) cs room n) ≡ proposed (thread_act s Inner z0 z1 r) cs room n
    unfolding demand cut_reach
    inner-proposed e = rw e refl

    pub drill-proposed : {tip r cone : Float} → cut ≡ Drill tip r cone → demand (not (is_arc cut)) 13 (proposed (cut_act s cut) cs room n) ≡ proposed (drill_act s tip r cone) cs room n
    unfolding demand cut_reach
    drill-proposed e = rw e refl

    pub arc-proposed : cut ≡ Arc → demand (not (is_arc cut)) 13 (proposed (cut_act s cut) cs room n) ≡ refuses (only 13)
    unfolding demand
    arc-proposed e = rw e refl

-- ---- a stock that is not refused is ready for the loops
pub ready : (spec s : TurnStockSpec) (cs : List Float) (n : ℕ) → HeldSpec spec → s ≡ clean_spec spec → stock_of spec cs ≡ answers n → Graded s n × ((i : ℕ) → i < n → SameTo cs i)
ready spec s cs n held es e = (
  subst (λ (t : TurnStockSpec). Graded t n) (sym es) (graded held (checked spec n (stocked spec cs n e).count)),
  λ i l. fits-same (clean_spec spec) (cell_at cs i) (stock-fits spec cs n e i l),
)

-- ---- a cut that is in its domain or not
module _ (spec : TurnStockSpec) (cs : List Float) (good : Bool) (a : Act) (room : ℕ) where
  pub of-refused : (r : Reason) → stock_of spec cs ≡ refuses r → preview_of spec cs good a room ≡ refuses r
  unfolding preview_of
  of-refused r e = simp (papers, e)

  module _ (n : ℕ) (e : stock_of spec cs ≡ answers n) where
    pub of-outside : good ≡ false → preview_of spec cs good a room ≡ refuses (only 5)
    unfolding preview_of
    of-outside g = simp (papers, e, g)

    pub of_is : good ≡ true → preview_of spec cs good a room ≡ proposed a cs room n
    unfolding preview_of
    of_is g = simp (papers, e, g)

-- the same of a cut that reads the spec
pub act-is : (act : TurnStockSpec → Act) (spec : TurnStockSpec) (cs : List Float) (good : Bool) (room n : ℕ) → stock_of spec cs ≡ answers n → (s : TurnStockSpec) → s ≡ clean_spec spec → good ≡ true → preview_of spec cs good (act (clean_spec spec)) room ≡ proposed (act s) cs room n
act-is act spec cs good room n e s es g = of_is spec cs good (act (clean_spec spec)) room n e g ∙ ap (λ (t : TurnStockSpec). proposed (act t) cs room n) (sym es)

-- ---- a single cut
-- one outside its domain is no arc
no-arc : (u : Cut) → cut_good u ≡ false → is_arc u ≡ false
unfolding cut_good
no-arc (Line side rn sag ar az br bz) g = refl
no-arc (Thread z0 z1 r) g = refl
no-arc (ThreadInner z0 z1 r) g = refl
no-arc (Drill tip r cone) g = refl
no-arc Arc g = absurd (false≢true (sym g))

module _ (spec : TurnStockSpec) (cs : List Float) (cut : Cut) (room : ℕ) where
  pub cut-refused : (r : Reason) → stock_of spec cs ≡ refuses r → preview_cut spec cs cut room ≡ refuses r
  unfolding preview_cut
  cut-refused r e = simp (papers, e)

  module _ (u : Cut) (eu : u ≡ clean_cut cut) (n : ℕ) (e : stock_of spec cs ≡ answers n) where
    pub cut-outside : cut_good u ≡ false → preview_cut spec cs cut room ≡ refuses (only 5)
    unfolding preview_cut
    cut-outside g = simp (papers, e, ← eu, no-arc u g, g)

    pub cut-is : (s : TurnStockSpec) → s ≡ clean_spec spec → cut_good u ≡ true → preview_cut spec cs cut room ≡ demand (not (is_arc u)) 13 (proposed (cut_act s u) cs room n)
    unfolding preview_cut
    cut-is s es g = simp (papers, e, ← eu, ← es, g)
