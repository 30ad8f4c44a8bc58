-- A job's numbers are values of f64, line after line: those of its spec are read from the bar, and those of its cells are fresh ones or what accepted cuts left. So the third demand of a job asks
-- nothing of what stands in lent memory (`job-order`). Assumes nothing.
use mathlib.Core.Path.{◌≡◌, refl, sym, ap, ◌∙◌, subst}
use mathlib.Core.Bool.{Bool, true, false}
use mathlib.Core.List.{List, [], ◌∷◌, ◌++◌, map, Permᴰ}
use Prim.Native.Nat.{ℕ, zero, suc, ◌+◌, ◌*◌, ◌/◌, ◌%◌, ◌<◌}
use native.Mathlib.Nat.{mod-lt}
use native.Mathlib.Omega.{arith}
use borrow.Author.Tests.{ltb-true, ltb-false, leb-true}
use lib.Dec.{T, eqb, ltb}
use lib.ListN.{length, take, get_or-eq_default}
use lib.Seq.{length-take-le}
use lib.Ieee.{Float, binary64, of_bits, nan, fits}
use lib.Ieee.Fits.{nan-fits}
use Rattle.refusals.specs.Paper.{answers, only}
use Rattle.floats.specs.Each.{Each}
use Rattle.floats.specs.Pick.{pick, pick_true, pick-false}
use Rattle.stock.specs.declared.TurnStockSpec.{TurnStockSpec}
use Rattle.stock.specs.declared.TurnSide.{TurnSide}
use Rattle.stock.specs.Spec.{clean_spec, cells_of}
use Rattle.stock.specs.Cell.{cell_at, number_at, fresh_cell, cells_like}
use Rattle.stock.proofs.Count.{demanded, no_answer, same_answer}
use Rattle.stock.proofs.Cells.{length-like}
use Rattle.stock.proofs.Bins.{HeldSpec, HeldList}
use Rattle.reach.proofs.Fit.{CellFit}
use Rattle.changes.specs.Commit.{numbers_kept}
use Rattle.changes.proofs.Stocks.{Good, stock-good}
use Rattle.moves.proofs.Answered.{answered}
use Rattle.rings.specs.declared.Ring.{Ring}
use Rattle.rings.specs.Remove.{remove_ring}
use Rattle.job_words.specs.declared.Line.{Line}
use Rattle.job_words.specs.declared.Line.TheVariants.{Bar, Cutting, Removing, Arc, Bad}
use Rattle.job_words.specs.Kind.{numbers, bar_of, nose_on, nose_of, thread_of, thread_inner_of, drill_of, ring_of, kind_of, line_of, fields_of}
use Rattle.job_run.specs.declared.line.Job.{Job}
use Rattle.job_run.specs.Job.{Stand, full_room, bar_line, removing_line, first_line, later_line, job_line}
use Rattle.lines.specs.File.{pieces_of}
use Rattle.job_run.specs.Run as run
use Rattle.job_run.specs.Run.{State, state, fresh_run, output_of, job_of}
use Rattle.demands.specs.Tool.{ToolsOf}
use Rattle.demands.specs.Offending.{line_in, lines_on, NoneOffends, cut_in, IsCut, line_cutter, own_of}
use Rattle.demands.proofs.Cells.{fresh-good}
use Rattle.demands.specs.Run.{Ran, start}
use Rattle.demands.proofs.Calls.{run-good}
use Rattle.demands.proofs.Second.{preview-is}
use Rattle.demands.proofs.Matched.{own-matching}
use Rattle.demands.proofs.Runs.{rule-ran}
use Rattle.demands.proofs.JobOrder.{at_held, line-held, front-is, commit-long, CutMade, cut-made, job-any-order}

-- ---- cells that fit are values of f64

-- each of the four numbers of a cell that fits
of_four : (s : TurnStockSpec) (cs : List Float) (i r k : ℕ) → CellFit s (cell_at cs i) → r < 4 → k ≡ 4 * i + r → T (fits binary64 (number_at cs k))
of_four s cs i zero k f h e = subst (λ (j : ℕ). T (fits binary64 (number_at cs j))) (zero_more i ∙ sym e) f.outer.lower.held
  where
    zero_more : (i : ℕ) → 4 * i ≡ 4 * i + 0
    zero_more i = omega arith
of_four s cs i (suc zero) k f h e = subst (λ (j : ℕ). T (fits binary64 (number_at cs j))) (sym e) f.outer.upper.held
of_four s cs i (suc (suc zero)) k f h e = subst (λ (j : ℕ). T (fits binary64 (number_at cs j))) (sym e) f.inner.lower.held
of_four s cs i (suc (suc (suc zero))) k f h e = subst (λ (j : ℕ). T (fits binary64 (number_at cs j))) (sym e) f.inner.upper.held
of_four s cs i (suc (suc (suc (suc r)))) k f h e = absurd (omega arith)

good-held : {spec : TurnStockSpec} {n : ℕ} {cs : List Float} → Good spec n cs → HeldList cs
good-held {spec} {n} {cs} g k = go (ltb k (length cs)) refl
  where
    go : (t : Bool) → ltb k (length cs) ≡ t → T (fits binary64 (number_at cs k))
    go true e =
        let a = ltb-true k (length cs) e in
        let l = g.long in
        let r = mod-lt k {m = 4} (omega arith) in
        of_four (clean_spec spec) cs (k / 4) (k % 4) k (g.fit (k / 4) (omega arith)) (omega arith) (omega arith)
    go false e = let a = ltb-false k (length cs) e in subst (λ (x : Float). T (fits binary64 x)) (sym (get_or-eq_default cs nan {n = k} (omega arith))) (nan-fits binary64)

-- ---- a run whose numbers are values of f64

pub record HeldRun (st : State) : Type 0 where
  pub spec : HeldSpec st.run.job.stock.spec
  pub cells : HeldList (own_of st).cells

-- before the first line
fresh-held : (edition : ℕ) (cs rs : List Float) → HeldRun (state (fresh_run edition) cs rs)
unfolding fits of_bits
fresh-held edition cs rs = record { spec = record { z-min = tt; z-max = tt; outer = tt; bore = tt; cell = tt }; cells = λ k. nan-fits binary64 }

-- a bar's numbers are read from its line
abbrev BarHeld : Line → Type 0
BarHeld (Bar spec) = HeldSpec spec
BarHeld (Cutting u) = Unit {0}
BarHeld (Removing q) = Unit {0}
BarHeld Arc = Unit {0}
BarHeld Bad = Unit {0}

either-bar : (t : Bool) (a b : Line) → BarHeld a → BarHeld b → BarHeld (pick t a b)
unfolding pick
either-bar true a b p q = p
either-bar false a b p q = q

bar-held : (l : List ℕ) → BarHeld (line_of l)
unfolding line_of kind_of bar_of nose_of nose_on thread_of thread_inner_of drill_of ring_of
bar-held l =
    let fs = fields_of l in
    let h = at_held fs in
    let nose : (side : TurnSide) → BarHeld (nose_on fs side) = λ side. either-bar (numbers fs 2 6) _ Bad tt tt in
    either-bar _ Arc _ tt
    (either-bar _ (bar_of fs) _ (either-bar _ _ Bad (record { z-min = h 1; z-max = h 2; outer = h 3; bore = h 4; cell = h 5 }) tt)
    (either-bar _ (nose_of fs) _ (either-bar _ _ _ (nose _) (either-bar _ _ Bad (nose _) tt))
    (either-bar _ (thread_of fs) _ (either-bar _ _ Bad tt tt)
    (either-bar _ (thread_inner_of fs) _ (either-bar _ _ Bad tt tt)
    (either-bar _ (drill_of fs) _ (either-bar _ _ Bad tt tt)
    (either-bar _ (ring_of fs) Bad (either-bar _ _ Bad tt tt) tt))))))

-- ---- one line more

first-held : (st : State) (x : Line) (s : Stand) → BarHeld x → first_line st.run.job.stock.stamp.edition x st.cells st.rings ≡ answers s → HeldRun (run.answered st (answers s))
unfolding first_line bar_line run.answered
first-held st (Bar spec) s h e =
    let a = answered (cells_of spec) _ s e in
    let n = a.value in
    let d = demanded _ _ _ _ a.then in
    let fresh = cells_like (fresh_cell (clean_spec spec)) n in
    let long : length fresh ≡ length (take (4 * n) st.cells) = length-like (fresh_cell (clean_spec spec)) n ∙ sym (length-take-le (4 * n) st.cells (leb-true (4 * n) (length st.cells) d.0)) in
    subst (λ (x : Stand). HeldRun (run.answered st (answers x))) (same_answer d.1)
    (record { spec = h; cells = subst HeldList (sym (front-is (4 * n) fresh st.cells long)) (good-held (fresh-good h a.first)) })
first-held st (Cutting u) s h e = absurd (no_answer (only 15) s e)
first-held st (Removing q) s h e = absurd (no_answer (only 15) s e)
first-held st Arc s h e = absurd (no_answer (only 15) s e)
first-held st Bad s h e = absurd (no_answer (only 15) s e)

cut-held : (st : State) (l : List ℕ) (s : Stand) → HeldRun st → (c : CutMade st l s) → HeldRun (run.answered st (answers s))
unfolding run.answered
cut-held st l s h c =
    let spec = st.run.job.stock.spec in
    let a = 4 * st.run.job.cells in
    let k = c.left in
    let p = preview-is spec (line_cutter l) (own_of st).cells full_room c.changes c.preview in
    let r : Ran spec st.run.job.stock.stamp.edition st.run.job.stock.rings (own_of st) (line_cutter l ∷ []) k = rule-ran (numbers_kept spec (own_of st).cells) (own-matching h.spec (stock-good h.spec h.cells p.1)) full_room c.changes k c.preview c.commit start in
    let long = commit-long spec (own_of st).cells (own_of st).generation c.changes k c.commit in
    subst (λ (x : Stand). HeldRun (run.answered st (answers x))) (sym c.stood)
    (record { spec = h.spec; cells = subst HeldList (sym (front-is a k.cells st.cells long)) (good-held (run-good h.spec h.cells p.1 (line-held l, tt) r)) })

ring-held : (st : State) (q : Ring) (s : Stand) → HeldRun st → removing_line st.run.job q st.cells st.rings ≡ answers s → HeldRun (run.answered st (answers s))
unfolding removing_line run.answered
ring-held st q s h e =
    let a = answered (remove_ring st.run.job.stock.spec st.rings st.run.job.stock.rings st.run.job.stock.stamp.generation q) _ s e in
    subst (λ (x : Stand). HeldRun (run.answered st (answers x))) (same_answer a.then) (record { spec = h.spec; cells = h.cells })

-- a line that is carried out keeps it
pub line_kept : (st : State) (l : List ℕ) (s : Stand) → HeldRun st → line_in st l ≡ answers s → HeldRun (run.answered st (answers s))
unfolding job_line later_line cut_in
line_kept st l s h e = by (eqb st.run.job.cells 0) refl
  where
    j : Job
    j = st.run.job

    rule : pick (eqb j.cells 0) (first_line j.stock.stamp.edition (line_of l) st.cells st.rings) (later_line j (line_of l) full_room st.cells st.rings) ≡ answers s
    rule = (demanded _ _ _ _ e).1

    later : (x : Line) → line_of l ≡ x → eqb j.cells 0 ≡ false → later_line j x full_room st.cells st.rings ≡ answers s → HeldRun (run.answered st (answers s))
    later (Bar spec) c b f = absurd (no_answer (only 15) s f)
    later (Cutting u) c b f = cut-held st l s h (cut-made st l s (c ∙ ap (λ (x : Line). Cutting (cut_in x)) (sym c)) b e)
    later (Removing q) c b f = ring-held st q s h f
    later Arc c b f = absurd (no_answer (only 13) s f)
    later Bad c b f = absurd (no_answer (only 15) s f)

    by : (t : Bool) → eqb j.cells 0 ≡ t → HeldRun (run.answered st (answers s))
    by true b = first-held st (line_of l) s (bar-held l) (sym (pick_true _ _ _ b) ∙ rule)
    by false b = later (line_of l) refl b (sym (pick-false _ _ _ b) ∙ rule)

-- and so do lines
pub lines-kept : (ls : List (List ℕ)) (st m : State) → HeldRun st → lines_on st ls ≡ answers m → HeldRun m
unfolding lines_on
lines-kept [] st m h e = subst HeldRun (same_answer e) h
lines-kept (l ∷ ls) st m h e = let a = answered (line_in st l) _ m e in lines-kept ls (run.answered st (answers a.value)) m (line_kept st l a.value h a.first) a.then

-- ---- a run on which some line was carried out, or none, goes on unrefused

lines-going : (ls : List (List ℕ)) (st m : State) → st.run.refused ≡ 0 → lines_on st ls ≡ answers m → m.run.refused ≡ 0
unfolding lines_on run.answered
lines-going [] st m g e = ap (λ (x : State). x.run.refused) (sym (same_answer e)) ∙ g
lines-going (l ∷ ls) st m g e = let a = answered (line_in st l) _ m e in lines-going ls (run.answered st (answers a.value)) m refl a.then

-- THE DEMAND, of a job from its first line on: two jobs that differ in the order of lines one after the other that are cuts of one side, neither of them refused, write the same bytes, whatever
-- stood in the lent memory. `reached` is the run where those lines begin.
module _ (edition : ℕ) (cs rs : List Float) (reached : State) (before ls ls' after : List (List ℕ)) (s s' : List ℕ) (end end' : State) (o : NoneOffends (state (fresh_run edition) cs rs) (pieces_of s) end) (o' : NoneOffends (state (fresh_run edition) cs rs) (pieces_of s') end')
    (e : o.lines ≡ before ++ (ls ++ after)) (e' : o'.lines ≡ before ++ (ls' ++ after)) (d : Permᴰ ls ls') (b : lines_on (state (fresh_run edition) cs rs) before ≡ answers reached) where
  held : HeldRun reached
  held = lines-kept before (state (fresh_run edition) cs rs) reached (fresh-held edition cs rs) b

  pub job-order : Each IsCut ls → (σ : TurnSide) → ToolsOf reached.run.job.stock.spec σ (map line_cutter ls) → output_of (job_of (state (fresh_run edition) cs rs) s) ≡ output_of (job_of (state (fresh_run edition) cs rs) s')
  job-order is σ os =
      let fresh = state (fresh_run edition) cs rs in
      job-any-order fresh reached before ls ls' after s s' end end' o o' e e' d refl b (lines-going before fresh reached refl b) held.spec held.cells is σ os
