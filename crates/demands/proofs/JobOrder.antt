-- THE THIRD DEMAND, OF A JOB: lines that are cuts of one side, in whatever order, write the same output, where no line is refused. Assumes nothing.
use Rattle.std.specs.Prelude.{None, Option, Some}
use mathlib.Core.Path.{◌≡◌, refl, sym, ap, ap₂, ◌∙◌, subst}
use mathlib.Core.Bool.{Bool, true, false}
use mathlib.Core.List.Permᴰ
use mathlib.Core.List.{List, [], ◌∷◌, ◌++◌, map, Permᴰ}
use Prim.Native.Nat.{ℕ, zero, suc, ◌+◌, ◌*◌, ◌%◌, ◌^◌}
use native.Mathlib.Omega.{arith}
use borrow.Author.Tests.{leb-true, leb-false}
use lib.Dec.{T, eqb, leb}
use lib.ListN.{length, take, drop, get_or, take-append-drop, drop_of_length-le}
use lib.Seq.{length-take-le, take_all, take_at, drop_at}
use lib.Ieee.{Float, binary64, of_bits, fits}
use lib.Ieee.Fits.{div-fits}
use Rattle.refusals.specs.Paper.{Paper, answers, refuses, only, onward, onward-answers}
use Rattle.refusals.specs.Lent.{over}
use Rattle.refusals.proofs.Written.{over-all}
use Rattle.floats.specs.Each.{Each}
use Rattle.floats.specs.Pick.{pick, pick_true, pick-false}
use Rattle.floats.proofs.Folds.{each-perm}
use Rattle.stock.specs.declared.TurnStockSpec.{TurnStockSpec}
use Rattle.stock.specs.Spec.{cells_of}
use Rattle.stock.specs.declared.TurnChange.{TurnChange}
use Rattle.stock.specs.declared.TurnSide.{TurnSide}
use Rattle.stock.specs.Cell.{stock_of}
use Rattle.stock.specs.Stock.{stock_with}
use Rattle.stock.proofs.Count.{demanded, no_answer, same_answer, stocked}
use Rattle.stock.proofs.Bins.{HeldSpec, HeldList}
use Rattle.changes.specs.Commit.{Committed, put_all, commit_in, own_commit}
use Rattle.cuts.specs.Preview.{preview_cut}
use Rattle.cuts.specs.Tool.{preview_tool}
use Rattle.cuts.proofs.Singles.{HeldCut}
use Rattle.moves.proofs.Answered.{answered}
use Rattle.text.specs.Whole.{whole_of}
use Rattle.job_words.specs.declared.Line.{Line}
use Rattle.job_words.specs.declared.Line.TheVariants as line
use Rattle.job_words.specs.Number.{positive, negative, field_number}
use Rattle.job_words.specs.Kind.{mm_of, at, numbers, bar_of, nose_on, nose_of, thread_of, thread_inner_of, drill_of, ring_of, kind_of, line_of, fields_of}
use Rattle.job_run.specs.declared.line.Job.{Job}
use Rattle.job_run.specs.Job.{Stand, stand, full_room, cells_of_job, made_cut, cut_line, first_line, later_line, job_line}
use Rattle.lines.specs.File.{pieces_of}
use Rattle.job_run.specs.Run as run
use Rattle.job_run.specs.Run.{State, next, output_of, job_of}
use Rattle.demands.specs.Tool.{cutter_preview, HeldCutter, ToolsOf}
use Rattle.demands.specs.Run.{RanUnasked, none-asked}
use Rattle.demands.specs.Offending.{line_in, lines_on, NoneOffends, cut_in, IsCut, line_cutter, own_of}
use Rattle.demands.proofs.Third.{perm-length}
use Rattle.changes.proofs.Stocks.{stock-good}
use Rattle.demands.proofs.Calls.{run-any-order}
use Rattle.demands.proofs.Written.{changes-written}
use Rattle.demands.proofs.Second.{preview-is}
use Rattle.demands.proofs.Runs.{rule-unasked, unasked-ran}
use Rattle.demands.proofs.JobLines.{job-answered}

-- ---- the numbers of a line are values of f64

field-held : (l : List ℕ) → T (fits binary64 (mm_of (field_number l)))
unfolding field_number pick fits of_bits
field-held [] = tt
field-held (b ∷ l) = go (eqb b 45)
  where
    below : (w : Option ℕ) → T (fits binary64 (mm_of (negative w)))
    below (Some v) = div-fits binary64 _ _
    below None = tt

    above : (w : Option ℕ) → T (fits binary64 (mm_of (positive w)))
    above (Some v) = div-fits binary64 _ _
    above None = tt

    go : (t : Bool) → T (fits binary64 (mm_of (pick t (negative (whole_of l)) (positive (whole_of (b ∷ l))))))
    go true = below (whole_of l)
    go false = above (whole_of (b ∷ l))

pub at_held : (fs : List (List ℕ)) (i : ℕ) → T (fits binary64 (at fs i))
unfolding at
at_held fs i = field-held (get_or fs i [])

abbrev LineHeld : Line → Type 0
LineHeld l = HeldCut (cut_in l)

either_held : (t : Bool) (a b : Line) → LineHeld a → LineHeld b → LineHeld (pick t a b)
unfolding pick
either_held true a b p q = p
either_held false a b p q = q

-- the cut of a line, if it is one
pub line-held : (l : List ℕ) → HeldCut (cut_in (line_of l))
unfolding line_of kind_of bar_of nose_of nose_on thread_of thread_inner_of drill_of ring_of cut_in
line-held l =
    let fs = fields_of l in
    let h = at_held fs in
    let nose : (side : TurnSide) → LineHeld (nose_on fs side) = λ side. either_held (numbers fs 2 6) _ line.Bad (h 2, h 3, h 4, h 5, h 6, h 7) tt in
    either_held _ line.Arc _ tt
    (either_held _ (bar_of fs) _ (either_held _ _ line.Bad tt tt)
    (either_held _ (nose_of fs) _ (either_held _ _ _ (nose _) (either_held _ _ line.Bad (nose _) tt))
    (either_held _ (thread_of fs) _ (either_held _ _ line.Bad (h 1, h 2, h 3) tt)
    (either_held _ (thread_inner_of fs) _ (either_held _ _ line.Bad (h 1, h 2, h 3) tt)
    (either_held _ (drill_of fs) _ (either_held _ _ line.Bad (h 1, h 2, h 3) tt)
    (either_held _ (ring_of fs) line.Bad (either_held _ _ line.Bad tt tt) tt))))))

lines-held : (ls : List (List ℕ)) → Each HeldCutter (map line_cutter ls)
lines-held [] = tt
lines-held (l ∷ ls) = (line-held l, lines-held ls)

-- ---- cells over the front of others

module _ (a : ℕ) (xs cs : List Float) (e : length xs ≡ length (take a cs)) where
  pub front-is : take a (over xs cs) ≡ xs
  unfolding over
  front-is = go (leb a (length cs)) refl
    where
      go : (t : Bool) → leb a (length cs) ≡ t → take a (xs ++ drop (length xs) cs) ≡ xs
      go true f = take_at xs _ a (e ∙ length-take-le a cs (leb-true a (length cs) f))
      go false f =
          let h = leb-false a (length cs) f in
          let k : length xs ≡ length cs = e ∙ ap length (take_all a cs (omega arith)) in
          ap (take a) (over-all xs cs k) ∙ take_all a xs (omega arith)

  rest-is : drop a (over xs cs) ≡ drop a cs
  unfolding over
  rest-is = go (leb a (length cs)) refl
    where
      go : (t : Bool) → leb a (length cs) ≡ t → drop a (xs ++ drop (length xs) cs) ≡ drop a cs
      go true f =
          let k : length xs ≡ a = e ∙ length-take-le a cs (leb-true a (length cs) f) in
          drop_at xs _ a k ∙ ap (λ (n : ℕ). drop n cs) k
      go false f =
          let h = leb-false a (length cs) f in
          let k : length xs ≡ length cs = e ∙ ap length (take_all a cs (omega arith)) in
          ap (drop a) (over-all xs cs k) ∙ drop_of_length-le xs {i = a} (omega arith) ∙ sym (drop_of_length-le cs {i = a} (omega arith))

-- a commit leaves as many numbers
pub commit-long : (spec : TurnStockSpec) (cs : List Float) (gen : ℕ) (l : List TurnChange) (k : Committed) → own_commit spec cs gen l ≡ answers k → length k.cells ≡ length cs
unfolding own_commit commit_in
commit-long spec cs gen l k h =
    let s = answered (stock_of spec cs) _ k h in
    let p = answered _ _ _ s.then in
    let d = demanded _ _ _ _ p.then in
    let v : ◌≡◌ {A = Committed} (record { cells = put_all cs l; generation = gen + 1 }) k = same_answer d.1 in
    ap (λ (m : Committed). length m.cells) (sym v) ∙ (changes-written spec cs s.value l s.first p.first).long

-- ---- one line that is a cut

-- it was previewed, and its changes committed
pub record CutMade (st : State) (l : List ℕ) (s : Stand) : Type 0 where
  pub changes : List TurnChange
  pub left : Committed
  pub preview : cutter_preview st.run.job.stock.spec (line_cutter l) (own_of st).cells full_room ≡ answers changes
  pub commit : own_commit st.run.job.stock.spec (own_of st).cells (own_of st).generation changes ≡ answers left
  pub stood : s ≡ stand (record { stock = stock_with st.run.job.stock st.run.job.stock.rings left.generation; cells = st.run.job.cells }) (over left.cells st.cells) st.rings

pub cut-made : (st : State) (l : List ℕ) (s : Stand) → IsCut l → eqb st.run.job.cells 0 ≡ false → line_in st l ≡ answers s → CutMade st l s
unfolding job_line later_line cut_line made_cut preview_tool
cut-made st l s c b e =
    let j = st.run.job in
    let u = cut_in (line_of l) in
    let d = (demanded _ _ _ _ e).1 in
    let f : cut_line j u full_room st.cells st.rings ≡ answers s = ap (λ (x : Line). later_line j x full_room st.cells st.rings) (sym c) ∙ sym (pick-false _ _ _ b) ∙ d in
    let own = cells_of_job j st.cells in
    let m = answered (made_cut j.stock own u full_room) _ s f in
    let p = answered (preview_cut j.stock.spec own u full_room) _ m.value m.first in
    record { changes = p.value; left = m.value; preview = p.first; commit = p.then; stood = sym (same_answer m.then) }

-- a cut is carried out after the bar alone
cut_later : (st : State) (l : List ℕ) (s : Stand) → IsCut l → line_in st l ≡ answers s → eqb st.run.job.cells 0 ≡ false
unfolding job_line first_line
cut_later st l s c e = by (eqb st.run.job.cells 0) refl
  where
    by : (t : Bool) → eqb st.run.job.cells 0 ≡ t → t ≡ false
    by false b = refl
    by true b = absurd (no_answer (only 15) s (ap (λ (x : Line). first_line st.run.job.stock.stamp.edition x st.cells st.rings) (sym c) ∙ sym (pick_true _ _ _ b) ∙ (demanded _ _ _ _ e).1))

-- ---- lines that are cuts

-- the number of lines taken, after so many more
unfoldable lines_after : ℕ → ℕ → ℕ
lines_after zero n = n
lines_after (suc k) n = lines_after k ((n + 1) % 2 ^ 64)

-- Lines that are cuts: a run of calls over the job's own n cells, whose commits ask nothing again. All else is as it was, but for the number of lines.
record CutsMade (n : ℕ) (st : State) (ls : List (List ℕ)) (m : State) : Type 0 where
  ran : RanUnasked st.run.job.stock.spec st.run.job.stock.stamp.edition st.run.job.stock.rings n (own_of st) (map line_cutter ls) (own_of m)
  job : m.run.job ≡ record { stock = stock_with st.run.job.stock st.run.job.stock.rings (own_of m).generation; cells = st.run.job.cells }
  lines : m.run.lines ≡ lines_after (length ls) st.run.lines
  refused : m.run.refused ≡ 0
  cells : drop (4 * st.run.job.cells) m.cells ≡ drop (4 * st.run.job.cells) st.cells
  rings : m.rings ≡ st.rings

-- the run after a cut that left these cells and this generation
abbrev after_cut : State → Committed → State
after_cut st k =
    run.state
    (record { job = record { stock = stock_with st.run.job.stock st.run.job.stock.rings k.generation; cells = st.run.job.cells }; lines = next st.run; refused = 0 })
    (over k.cells st.cells)
    st.rings

-- one more before
cut-more : (n : ℕ) (st m : State) (l : List ℕ) (ls : List (List ℕ)) (s : Stand) (c : CutMade st l s) → cells_of st.run.job.stock.spec ≡ answers n → CutsMade n (after_cut st c.left) ls m → CutsMade n st (l ∷ ls) m
unfolding lines_after
cut-more n st m l ls s c count w =
    let a = 4 * st.run.job.cells in
    let k = c.left in
    let long = commit-long st.run.job.stock.spec (own_of st).cells (own_of st).generation c.changes k c.commit in
    let f : own_of (after_cut st k) ≡ k = λ i. record { cells = front-is a k.cells st.cells long i; generation = k.generation } in
    record {
      ran = rule-unasked count full_room c.changes k c.preview c.commit (subst (λ (x : Committed). RanUnasked st.run.job.stock.spec st.run.job.stock.stamp.edition st.run.job.stock.rings n x (map line_cutter ls) (own_of m)) f w.ran);
      job = w.job;
      lines = w.lines;
      refused = w.refused;
      cells = w.cells ∙ rest-is a k.cells st.cells long;
      rings = w.rings;
    }

cuts-made : (n : ℕ) (ls : List (List ℕ)) (st m : State) → cells_of st.run.job.stock.spec ≡ answers n → st.run.refused ≡ 0 → eqb st.run.job.cells 0 ≡ false → Each IsCut ls → lines_on st ls ≡ answers m → CutsMade n st ls m
unfolding lines_on lines_after run.answered
cuts-made n [] st m count g b cs e = subst (CutsMade n st []) (same_answer e) (record { ran = none-asked; job = refl; lines = refl; refused = g; cells = refl; rings = refl })
cuts-made n (l ∷ ls) st m count g b cs e =
    let a = answered (line_in st l) _ m e in
    let c = cut-made st l a.value cs.0 b a.first in
    let f = subst (λ (x : Stand). lines_on (run.answered st (answers x)) ls ≡ answers m) c.stood a.then in
    cut-more n st m l ls a.value c count (cuts-made n ls (after_cut st c.left) m count refl b cs.1 f)

-- ---- two orders

module _ (st m m' : State) (ls ls' : List (List ℕ)) (d : Permᴰ ls ls') (hs : HeldSpec st.run.job.stock.spec) (hc : HeldList (own_of st).cells) (σ : TurnSide) (os : ToolsOf st.run.job.stock.spec σ (map line_cutter ls)) (n : ℕ) (e : stock_of st.run.job.stock.spec (own_of st).cells ≡ answers n) (c : CutsMade n st ls m) (c' : CutsMade n st ls' m') where
  -- the job's own cells stand first, and the rest is as it was
  cells_are : (x : State) (n : ℕ) → x.run.job.cells ≡ n → x.cells ≡ (own_of x).cells ++ drop (4 * n) x.cells
  cells_are x n e = sym (take-append-drop (4 * n) x.cells) ∙ ap (λ (k : ℕ). take (4 * k) x.cells ++ drop (4 * n) x.cells) (sym e)

  same-states : m ≡ m'
  same-states =
      let b = stock-good hs hc e in
      let own = run-any-order hs hc e (lines-held ls) (unasked-ran hs (lines-held ls) b c.ran) (Permᴰ.map line_cutter d) (unasked-ran hs (lines-held ls') b c'.ran) σ os in
      let a = st.run.job.cells in
      let job = c.job ∙ ap (λ (k : Committed). record { stock = stock_with st.run.job.stock st.run.job.stock.rings k.generation; cells = a }) own ∙ sym c'.job in
      let lines = c.lines ∙ ap (λ (k : ℕ). lines_after k st.run.lines) (perm-length d) ∙ sym c'.lines in
      let refused = c.refused ∙ sym c'.refused in
      let cells =
      cells_are m a (ap (λ (j : Job). j.cells) c.job)
      ∙ ap₂ (λ (k : Committed) (r : List Float). k.cells ++ r) own (c.cells ∙ sym c'.cells)
      ∙ sym (cells_are m' a (ap (λ (j : Job). j.cells) c'.job)) in
      let rings = c.rings ∙ sym c'.rings in
      λ i. run.state (record { job = job i; lines = lines i; refused = refused i }) (cells i) (rings i)

no_lines : {A : Type 0} (l : List A) → 0 ≡ length l → l ≡ []
no_lines [] e = refl
no_lines (x ∷ l) e = absurd (omega arith)

-- LINES THAT ARE CUTS OF ONE SIDE, IN ANY ORDER, all of them carried out, leave the same run: job, cells, rings and number of lines. The numbers in lent memory are values of f64.
pub cuts-any-order : (st m m' : State) (ls ls' : List (List ℕ)) → Permᴰ ls ls' → st.run.refused ≡ 0 → HeldSpec st.run.job.stock.spec → HeldList (own_of st).cells → Each IsCut ls
    → (σ : TurnSide) → ToolsOf st.run.job.stock.spec σ (map line_cutter ls) → lines_on st ls ≡ answers m → lines_on st ls' ≡ answers m' → m ≡ m'
unfolding lines_on
cuts-any-order st m m' [] ls' d g hs hc cs σ os e e' = same_answer (sym e ∙ ap (lines_on st) (sym (no_lines ls' (perm-length d))) ∙ e')
cuts-any-order st m m' (l ∷ ls) ls' d g hs hc cs σ os e e' =
    let a = answered (line_in st l) _ m e in
    let b = cut_later st l a.value cs.0 a.first in
    let c = cut-made st l a.value cs.0 b a.first in
    let s = preview-is st.run.job.stock.spec (line_cutter l) (own_of st).cells full_room c.changes c.preview in
    let count = (stocked st.run.job.stock.spec (own_of st).cells s.0 s.1).count in
    same-states st m m' (l ∷ ls) ls' d hs hc σ os s.0 s.1 (cuts-made s.0 (l ∷ ls) st m count g b cs e) (cuts-made s.0 ls' st m' count g b (each-perm IsCut d cs) e')

-- ---- a whole job

-- lines behind others
lines_split : (ks bs : List (List ℕ)) (st : State) → lines_on st (ks ++ bs) ≡ onward (lines_on st ks) (λ m. lines_on m bs)
unfolding lines_on onward
lines_split [] bs st = refl
lines_split (l ∷ ks) bs st = go (line_in st l) (λ s. lines_split ks bs (run.answered st (answers s)))
  where
    go : (p : Paper Stand) → ((s : Stand) → lines_on (run.answered st (answers s)) (ks ++ bs) ≡ onward (lines_on (run.answered st (answers s)) ks) (λ m. lines_on m bs))
        → onward p (λ s. lines_on (run.answered st (answers s)) (ks ++ bs)) ≡ onward (onward p (λ s. lines_on (run.answered st (answers s)) ks)) (λ m. lines_on m bs)
    go (answers s) f = f s
    go (refuses n) f = refl

-- where lines before are all carried out, those behind are, from what they leave
lines-behind : (ks bs : List (List ℕ)) (st m end : State) → lines_on st ks ≡ answers m → lines_on st (ks ++ bs) ≡ answers end → lines_on m bs ≡ answers end
lines-behind ks bs st m end e f = sym (onward-answers m (λ x. lines_on x bs)) ∙ ap (λ (p : Paper State). onward p (λ x. lines_on x bs)) (sym e) ∙ sym (lines_split ks bs st) ∙ f

-- THE DEMAND: two jobs that differ in the order of lines one after the other that are cuts of one side, neither of them refused, write the same bytes. `reached` is the run where those lines begin.
module _ (st reached : State) (before ls ls' after : List (List ℕ)) (s s' : List ℕ) (end end' : State) (o : NoneOffends st (pieces_of s) end) (o' : NoneOffends st (pieces_of s') end')
    (e : o.lines ≡ before ++ (ls ++ after)) (e' : o'.lines ≡ before ++ (ls' ++ after)) (d : Permᴰ ls ls') (g : st.run.refused ≡ 0) (b : lines_on st before ≡ answers reached) where
  pub job-any-order : reached.run.refused ≡ 0 → HeldSpec reached.run.job.stock.spec → HeldList (own_of reached).cells → Each IsCut ls → (σ : TurnSide) → ToolsOf reached.run.job.stock.spec σ (map line_cutter ls)
      → output_of (job_of st s) ≡ output_of (job_of st s')
  job-any-order r hs hc cs σ os =
      let f = lines-behind before (ls ++ after) st reached end b (ap (lines_on st) (sym e) ∙ o.carried) in
      let f' = lines-behind before (ls' ++ after) st reached end' b (ap (lines_on st) (sym e') ∙ o'.carried) in
      let a = answered (lines_on reached ls) _ end (sym (lines_split ls after reached) ∙ f) in
      let a' = answered (lines_on reached ls') _ end' (sym (lines_split ls' after reached) ∙ f') in
      let m = cuts-any-order reached a.value a'.value ls ls' d r hs hc cs σ os a.first a'.first in
      let same : end ≡ end' = same_answer (sym a.then ∙ ap (λ (x : State). lines_on x after) m ∙ a'.then) in
      ap output_of ((job-answered st s g end o).0 ∙ same ∙ sym (job-answered st s' g end' o').0)
