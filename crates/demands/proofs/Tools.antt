-- The third demand for the cuts by name. Assumes nothing.
use mathlib.Core.Path.{◌≡◌, refl, sym, ap, ◌∙◌, subst}
use mathlib.Core.Bool.{true, not, ◌&&◌}
use mathlib.Core.List.Permᴰ
use mathlib.Core.List.{List, [], ◌∷◌, map, Memᴰ, Permᴰ}
use Prim.Native.Nat.{ℕ, ◌+◌, ◌≤◌, ◌<◌}
use native.Mathlib.Omega.{arith}
use borrow.Author.Tests.{le-leb}
use lib.ListN.{length, length-map}
use lib.Ieee.{Float}
use Rattle.refusals.specs.Paper.{Paper, answers, refuses, demand, onward, demand-true}
use Rattle.refusals.specs.Limits.{last_generation}
use Rattle.floats.specs.Each.{Each}
use Rattle.floats.proofs.Within.{finite-within}
use Rattle.stock.specs.declared.TurnStockSpec.{TurnStockSpec}
use Rattle.stock.specs.declared.TurnChange.{TurnChange}
use Rattle.stock.specs.declared.TurnSide.{TurnSide}
use Rattle.stock.specs.Spec.{clean_spec, cells_of}
use Rattle.stock.specs.Cell.{cell_at, stock_of}
use Rattle.stock.proofs.Count.{Checked, checked, stocked, demanded, no_answer, and_both}
use Rattle.stock.proofs.Bins.{HeldSpec, bin-within}
use Rattle.reach.specs.Reach.{Act, act_cell}
use Rattle.reach.specs.Kinds.{PlainAct, OnSide, OnlyAt}
use Rattle.reach.proofs.AnyOrder.{mem-map}
use Rattle.changes.specs.Change.{changes_to}
use Rattle.changes.proofs.Rising.{at_most}
use Rattle.reach.proofs.Reaches.{reach-map}
use Rattle.nose.specs.Nose.{segments_good, nose_act}
use Rattle.nose.proofs.Noses.{nose-plain}
use Rattle.polygon.specs.Polygon.{polygon_good, polygon_act}
use Rattle.polygon.proofs.Plain.{polygon-sized}
use Rattle.cuts.specs.Cut.{is_arc, clean_cut, cut_good, cut_act}
use Rattle.cuts.specs.Preview.{proposed, preview_cut}
use Rattle.cuts.proofs.Previews.{cut-is}
use Rattle.cuts.proofs.Singles.{cut-plain}
use Rattle.changes.specs.Commit.{Committed}
use Rattle.demands.specs.Job.{acts_of, Sound, Job, Leaves}
use Rattle.cuts.specs.declared.Tool.{Tool}
use Rattle.cuts.specs.declared.Tool.TheVariants.{Single, Nose, Polygon}
use Rattle.cuts.specs.Tool.{tool_act, tool_good, preview_tool}
use Rattle.demands.specs.Tool.{Cutter, cutter_act, cutter_preview, cutter_good, HeldTool, HeldCutter, step_of, turned_tools, ToolsOf, ToolsAt, ToolsJob}
use Rattle.demands.proofs.InTurn.{act-rule, act-accepted, leaves}
use Rattle.demands.proofs.Third.{any_order, any-order-bin, however-often}

-- ---- a tool is sound, where it is no arc and in its domain
module _ (spec : TurnStockSpec) (n : ℕ) where
  -- its preview proposes its changes
  rule-by : (t : Tool) (ys : List Float) → tool_good t ys ≡ true → (cs : List Float) (room : ℕ) → stock_of spec cs ≡ answers n → preview_tool spec cs t ys room ≡ proposed (tool_act (clean_spec spec) t ys) cs room n
  unfolding tool_good preview_tool tool_act
  rule-by (Single u) ys g cs room e =
      let b = and_both (not (is_arc (clean_cut u))) (cut_good (clean_cut u)) g in
      cut-is spec cs u room (clean_cut u) refl n e (clean_spec spec) refl b.1 ∙ demand-true _ _ _ b.0
  rule-by (Nose side rn) ys g cs room e = act-rule spec n (segments_good rn ys) (nose_act (clean_spec spec) side rn ys) g cs room e
  rule-by (Polygon side excess) ys g cs room e = act-rule spec n (polygon_good ys excess) (polygon_act (clean_spec spec) side excess ys) g cs room e

  pub tool-rule : (t : Cutter) → cutter_good t ≡ true → (cs : List Float) (room : ℕ) → stock_of spec cs ≡ answers n → cutter_preview spec t cs room ≡ proposed (cutter_act spec t) cs room n
  tool-rule t = rule-by t.tool t.beside

  -- it reaches plain numbers
  plain_by : HeldSpec spec → Checked spec n → (t : Tool) (ys : List Float) → HeldTool t ys → tool_good t ys ≡ true → PlainAct n (tool_act (clean_spec spec) t ys)
  unfolding tool_good tool_act
  plain_by hs ok (Single u) ys h g i p = cut-plain hs ok u h (and_both (not (is_arc (clean_cut u))) (cut_good (clean_cut u)) g).1 i p
  plain_by hs ok (Nose side rn) ys h g i p = nose-plain hs ok rn ys h.0 h.1 g side i p
  plain_by hs ok (Polygon side excess) ys h g i p =
      let w = bin-within hs ok i p in
      reach-map (λ x s. s.plain) ((polygon_act (clean_spec spec) side excess ys).at i) (polygon-sized ys excess h.1 h.0 g side (clean_spec spec) i (finite-within w.za.within) (finite-within w.zb.within))

  -- both together
  pub tool-sound : HeldSpec spec → cells_of spec ≡ answers n → (t : Cutter) → HeldCutter t → cutter_good t ≡ true → Sound spec n (step_of spec t)
  tool-sound hs e t h g = record { rule = tool-rule t g; plain = plain_by hs (checked spec n e) t.tool t.beside h g }

-- ---- where a preview is accepted

-- a preview that answers is of a cut that is no arc and in its domain
good-by : (spec : TurnStockSpec) (t : Tool) (ys cs : List Float) (room : ℕ) (l : List TurnChange) → preview_tool spec cs t ys room ≡ answers l → tool_good t ys ≡ true
unfolding tool_good preview_tool preview_cut onward
good-by spec (Single u) ys cs room l e = go (stock_of spec cs) e
  where
    go : (p : Paper ℕ) → onward p (λ n. demand (not (is_arc (clean_cut u))) 13 (demand (cut_good (clean_cut u)) 5 (proposed (cut_act (clean_spec spec) (clean_cut u)) cs room n))) ≡ answers l → (not (is_arc (clean_cut u)) && cut_good (clean_cut u)) ≡ true
    go (answers n) h =
        let a = demanded (not (is_arc (clean_cut u))) 13 (demand (cut_good (clean_cut u)) 5 (proposed (cut_act (clean_spec spec) (clean_cut u)) cs room n)) l h in
        let b = demanded (cut_good (clean_cut u)) 5 (proposed (cut_act (clean_spec spec) (clean_cut u)) cs room n) l a.1 in
        rw (a.0, b.0)
    go (refuses r) h = absurd (no_answer r l h)
good-by spec (Nose side rn) ys cs room l e = act-accepted spec cs (segments_good rn ys) (nose_act (clean_spec spec) side rn ys) room l e
good-by spec (Polygon side excess) ys cs room l e = act-accepted spec cs (polygon_good ys excess) (polygon_act (clean_spec spec) side excess ys) room l e

pub accepted-good : (spec : TurnStockSpec) (t : Cutter) (cs : List Float) (room : ℕ) (l : List TurnChange) → cutter_preview spec t cs room ≡ answers l → cutter_good t ≡ true
accepted-good spec t = good-by spec t.tool t.beside

-- and on a stock that is not refused, with room for a change in every cell, each such cut is accepted
pub good-accepted : (spec : TurnStockSpec) (n : ℕ) (t : Cutter) (cs : List Float) (room : ℕ) → stock_of spec cs ≡ answers n → n ≤ room → cutter_good t ≡ true → cutter_preview spec t cs room ≡ answers (changes_to (act_cell (cutter_act spec t)) cs n)
good-accepted spec n t cs room e h g =
    let few = at_most (act_cell (cutter_act spec t)) cs n in
    tool-rule spec n t g cs room e ∙ demand-true _ _ _ (le-leb (length (changes_to (act_cell (cutter_act spec t)) cs n)) room (omega arith))

-- ---- a list of them
-- what a list of cuts does
pub acts-are : (spec : TurnStockSpec) (l : List Cutter) → acts_of (map (step_of spec) l) ≡ map (cutter_act spec) l
acts-are spec [] = refl
acts-are spec (t ∷ l) = ap (λ (x : List Act). cutter_act spec t ∷ x) (acts-are spec l)

-- what holds of each cut by name holds of each act
pub tools-each : (spec : TurnStockSpec) (Q : Act → Type 0) (l : List Cutter) → Each (λ (t : Cutter). Q (cutter_act spec t)) l → Each Q (map (cutter_act spec) l)
tools-each spec Q [] ps = tt
tools-each spec Q (t ∷ l) ps = (ps.0, tools-each spec Q l ps.1)

steps-each : (spec : TurnStockSpec) (Q : Act → Type 0) (l : List Cutter) → Each (λ (t : Cutter). Q (cutter_act spec t)) l → Each Q (acts_of (map (step_of spec) l))
steps-each spec Q l ps = subst (λ (x : List Act). Each Q x) (sym (acts-are spec l)) (tools-each spec Q l ps)

all_sound : (spec : TurnStockSpec) (n : ℕ) → HeldSpec spec → cells_of spec ≡ answers n → (l : List Cutter) → Each HeldCutter l → Each (λ (t : Cutter). cutter_good t ≡ true) l → Each (Sound spec n) (map (step_of spec) l)
all_sound spec n hs e [] hs' gs = tt
all_sound spec n hs e (t ∷ l) hs' gs = (tool-sound spec n hs e t hs'.0 gs.0, all_sound spec n hs e l hs'.1 gs.1)

-- a job of cuts by name is a job
pub job_of : {spec : TurnStockSpec} {room n : ℕ} {k : Committed} {l : List Cutter} → ToolsJob spec room n k l → Job spec room n k (map (step_of spec) l)
job_of {spec} {room} {n} {k} {l} j = record {
  spec_held = j.spec_held;
  cells_held = j.cells_held;
  stock = j.stock;
  sound = all_sound spec n j.spec_held (stocked spec k.cells n j.stock).count l j.tools_held j.good;
  space = j.space;
  spare = subst (λ (m : ℕ). k.generation + m ≤ last_generation) (sym (length-map l (step_of spec))) j.spare;
}

-- THE CLOSED FORM: no cut is refused, and in each bin that one side only reaches they leave the closed form
pub tools-leave : (spec : TurnStockSpec) (room n : ℕ) (k : Committed) (l : List Cutter) → ToolsJob spec room n k l → Leaves spec room n k (map (step_of spec) l)
tools-leave spec room n k l j = leaves spec room n k (map (step_of spec) l) (job_of j)

module _ {spec : TurnStockSpec} {room n : ℕ} {k : Committed} {l l' : List Cutter} (d : Permᴰ l l') (j : ToolsJob spec room n k l) where
  -- ANY ORDER, of cuts of one side: the same answer, cells and generation
  pub tools-any-order : (σ : TurnSide) → ToolsOf spec σ l → turned_tools spec room k l ≡ turned_tools spec room k l'
  tools-any-order σ os = any_order (Permᴰ.map (step_of spec) d) (job_of j) σ (steps-each spec (OnSide σ) l os)

  -- ANY ORDER, of cuts of both sides: the same cell in each bin that one side only reaches
  pub tools-any-order-bin : (m m' : Committed) → turned_tools spec room k l ≡ answers m → turned_tools spec room k l' ≡ answers m' → (σ : TurnSide) (i : ℕ) → i < n → ToolsAt spec σ i l → cell_at m.cells i ≡ cell_at m'.cells i
  tools-any-order-bin m m' e e' σ i h os = any-order-bin (Permᴰ.map (step_of spec) d) (job_of j) m m' e e' σ i h (steps-each spec (OnlyAt σ i) l os)

-- HOWEVER OFTEN: the same cuts of one side, each made as often as one likes, leave the same cells
pub tools-however-often : {spec : TurnStockSpec} {room n : ℕ} {k : Committed} {l l' : List Cutter} → ToolsJob spec room n k l → ToolsJob spec room n k l' → ((t : Cutter) → Memᴰ t l → Memᴰ t l') → ((t : Cutter) → Memᴰ t l' → Memᴰ t l)
    → (σ : TurnSide) → ToolsOf spec σ l → ToolsOf spec σ l' → (m m' : Committed) → turned_tools spec room k l ≡ answers m → turned_tools spec room k l' ≡ answers m' → m.cells ≡ m'.cells
tools-however-often {spec} {l = l} {l' = l'} j j' h h' σ os os' m m' e e' =
    however-often (job_of j) (job_of j') (mem-map (step_of spec) l l' h) (mem-map (step_of spec) l' l h') σ (steps-each spec (OnSide σ) l os) (steps-each spec (OnSide σ) l' os') m m' e e'
