-- THE CUTS OF A CHECK, as cuts by name made in turn (Req 13): the cells after them fit, so that the kept numbers match on yes (`blocks-match`), and a cut fails with 13, 5 or 12 and with no other number (`fails_by`, `never-six`). Assumes nothing.
use Rattle.std.specs.Prelude.{Ok}
use mathlib.Core.Path.{◌≡◌, refl, sym, ap, ap₂, ◌∙◌, subst}
use mathlib.Core.Bool.{Bool, true, false, not, ◌&&◌, false≢true}
use mathlib.Core.List.{List, [], ◌∷◌, ◌++◌}
use mathlib.Core.Logic.{◌⊎◌, inl, inr}
use Prim.Native.Nat.{ℕ, zero, suc, ◌+◌, ◌*◌, ◌≤◌, ◌<◌}
use native.Mathlib.Nat.{add-zero}
use native.Mathlib.Omega.{arith}
use borrow.Author.Tests.{ltb-true, ltb-false}
use lib.Dec.{T, ltb, eqb}
use lib.ListN.{length, get_or, take, drop, length-append, length-take, get_or-eq_default}
use lib.Seq.{get_or-take, get_or-drop}
use lib.Ieee.{Float, binary64, fits, nan}
use Rattle.refusals.specs.Paper.{Paper, Reason, answers, refuses, only, demand, placed, onward, demand-true, demand-false, onward-answers, onward-refuses}
use Rattle.refusals.specs.Limits.{cell_limit, last_generation}
use Rattle.floats.specs.Each.{Each}
use Rattle.floats.specs.Pick.{pick}
use Rattle.floats.proofs.Folds.{each_append}
use Rattle.stock.specs.declared.TurnStockSpec.{TurnStockSpec}
use Rattle.stock.specs.declared.TurnStock.{TurnStock}
use Rattle.stock.specs.declared.TurnChange.{TurnChange}
use Rattle.stock.specs.Spec.{clean_spec}
use Rattle.stock.specs.Cell.{number_at, cell_at, stock_of}
use Rattle.stock.proofs.Count.{no_answer, same_answer, demanded, and_both, checked}
use Rattle.stock.proofs.Bins.{HeldSpec, HeldList}
use Rattle.blocks.specs.Block.{blocks_in, matches_of}
use Rattle.reach.specs.Reach.{act_cell}
use Rattle.reach.proofs.Removes.{Removes}
use Rattle.nose.specs.Nose.{segments_good, nose_act}
use Rattle.polygon.specs.Polygon.{polygon_good, polygon_act}
use Rattle.changes.specs.Change.{changes_to}
use Rattle.changes.specs.Commit.{Committed, put_all, own_commit}
use Rattle.changes.proofs.Stamped.{Matching}
use Rattle.changes.proofs.Stocks.{Good, stock-good, good-stock}
use Rattle.changes.proofs.Accepted.{commit-is, put-good, good-bins}
use Rattle.changes.proofs.Proposal.{act-cuts}
use Rattle.cuts.specs.declared.Cut.{Cut}
use Rattle.cuts.specs.declared.Cut.TheVariants.{Line, Thread, ThreadInner, Drill, Arc}
use Rattle.cuts.specs.declared.Tool.{Tool}
use Rattle.cuts.specs.declared.Tool.TheVariants.{Single, Nose, Polygon}
use Rattle.cuts.specs.Cut.{is_arc, clean_cut, cut_good, cut_act}
use Rattle.cuts.specs.Preview.{proposed, preview_cut, preview_of}
use Rattle.cuts.specs.Tool.{tool_act, tool_inside, tool_good, preview_tool}
use Rattle.moves.proofs.Answered.{answered, unplaced}
use Rattle.passes.specs.Cuts.{Cuts, Pass, number_of, has_part, part_of, is_swept, tool_of, standing, pass_at, pass_turned, turned_to}
use Rattle.passes.specs.declared.Verdict.TheVariants as is
use Rattle.passes.specs.Check.{targets_good, cuts_good, accepted, cut_at, checkable_of, check_of, Checks}
use Rattle.demands.specs.Tool.{Cutter, cutter_act, cutter_good, HeldTool, HeldCutter}
use Rattle.demands.proofs.Tools.{tool-sound, good-accepted, accepted-good}
use Rattle.demands.proofs.Matched.{own-matching}
use Rattle.demands.proofs.Passes.{same-refusal, yes-exactly, cut-exactly, yes-leaves}

-- ---- the cuts of the lists, by name

-- cut k
abbrev pub cutter_at : Cuts → ℕ → Cutter
cutter_at ls k = record { tool = (pass_at ls k).tool; beside = (pass_at ls k).beside }

-- the first k
unfoldable pub cutters_to : Cuts → ℕ → List Cutter
cutters_to ls zero = []
cutters_to ls (suc k) = cutters_to ls k ++ (cutter_at ls k ∷ [])

-- all of them
abbrev pub cutters_of : Cuts → List Cutter
cutters_of ls = cutters_to ls (length ls.kinds)

pub cutters-long : (ls : Cuts) (k : ℕ) → length (cutters_to ls k) ≡ k
unfolding cutters_to
cutters-long ls zero = refl
cutters-long ls (suc k) = length-append (cutters_to ls k) (cutter_at ls k ∷ []) ∙ (let h = cutters-long ls k in omega arith)

-- their numbers are values of f64
pub record HeldCuts (ls : Cuts) : Type 0 where
  pub numbers : HeldList ls.numbers
  pub lists : HeldList ls.lists

-- a NaN is a value of f64
nan-held : T (fits binary64 nan)
unfolding fits
nan-held = tt

-- what holds of both that a test picks from holds of what it picks
pub pick-by : {A : Type 0} (P : A → Type 0) (t : Bool) (a b : A) → (t ≡ true → P a) → (t ≡ false → P b) → P (pick t a b)
unfolding pick
pick-by P true a b f g = f refl
pick-by P false a b f g = g refl

-- a tool with these numbers beside it
abbrev Beside : List Float → Tool → Type 0
Beside ys t = HeldTool t ys

tool-held : (kind : ℕ) (x : ℕ → Float) → ((j : ℕ) → T (fits binary64 (x j))) → (ys : List Float) → HeldList ys → HeldTool (tool_of kind x) ys
unfolding tool_of
tool-held kind x h ys hy =
    pick-by (Beside ys) (eqb kind 0) _ _ (λ _. (h 0, h 1, h 2, h 3, h 4, h 5)) (λ _.
    pick-by (Beside ys) (eqb kind 1) _ _ (λ _. (h 0, h 1, h 2)) (λ _.
    pick-by (Beside ys) (eqb kind 2) _ _ (λ _. (h 0, hy)) (λ _.
    pick-by (Beside ys) (eqb kind 3) _ _ (λ _. (h 0, hy)) (λ _.
    pick-by (Beside ys) (eqb kind 4) _ _ (λ _. (h 0, h 1, h 2, h 3, h 4, h 5)) (λ _.
    pick-by (Beside ys) (eqb kind 5) _ _ (λ _. (h 0, h 1, h 2)) (λ _.
    pick-by (Beside ys) (eqb kind 6) _ _ (λ _. (h 0, hy)) (λ _.
    pick-by (Beside ys) (eqb kind 7) _ _ (λ _. (h 0, hy)) (λ _.
    pick-by (Beside ys) (eqb kind 8) _ _ (λ _. (h 0, h 1, h 2)) (λ _.
    pick-by (Beside ys) (eqb kind 9) _ _ (λ _. tt) (λ _. (nan-held, hy)))))))))))

-- a part of a list
part_held : (xs : List Float) → HeldList xs → (a b : ℕ) → HeldList (take a (drop b xs))
part_held xs h a b i = go (ltb i a) refl
  where
    go : (t : Bool) → ltb i a ≡ t → T (fits binary64 (number_at (take a (drop b xs)) i))
    go true e = subst (λ (x : Float). T (fits binary64 x)) (sym (get_or-take a (drop b xs) i nan (ltb-true i a e) ∙ get_or-drop b xs i nan)) (h (b + i))
    go false e = let l = length-take a (drop b xs) in subst (λ (x : Float). T (fits binary64 x)) (sym (get_or-eq_default (take a (drop b xs)) nan (let g = ltb-false i a e in omega arith))) nan-held

pub cut-held : (ls : Cuts) → HeldCuts ls → (k : ℕ) → HeldCutter (cutter_at ls k)
unfolding pass_at
cut-held ls h k =
    let kind = get_or ls.kinds k 0 in
    let ours : (ys : List Float) → HeldList ys → HeldTool (tool_of kind (number_of ls k)) ys = tool-held kind (number_of ls k) (λ j. h.numbers (6 * k + j)) in
    let none_beside : HeldList [] = λ i. nan-held in
    pick-by (λ (p : Pass). HeldTool p.tool p.beside) (is_swept kind) _ _
    (λ _. pick-by (λ (p : Pass). HeldTool p.tool p.beside) (has_part ls k) _ _ (λ _. ours (part_of ls k) (part_held ls.lists h.lists (get_or ls.parts (2 * k + 1) 0) (get_or ls.parts (2 * k) 0))) (λ _. (nan-held, none_beside)))
    (λ _. ours [] none_beside)

pub cuts-held : (ls : Cuts) → HeldCuts ls → (m : ℕ) → Each HeldCutter (cutters_to ls m)
unfolding cutters_to
cuts-held ls h zero = tt
cuts-held ls h (suc m) = each_append HeldCutter (cutters_to ls m) (cutter_at ls m ∷ []) (cuts-held ls h m) (cut-held ls h m, tt)

-- ---- with which number a cut can fail

abbrev arc_tool : Tool → Bool
arc_tool (Single u) = is_arc (clean_cut u)
arc_tool (Nose side rn) = false
arc_tool (Polygon side excess) = false

arc-cut : (u : Cut) → is_arc (clean_cut u) ≡ true → ◌≡◌ {A = Tool} (Single u) (Single Arc)
unfolding clean_cut
arc-cut (Line side rn sag ar az br bz) e = absurd (false≢true e)
arc-cut (Thread z0 z1 r) e = absurd (false≢true e)
arc-cut (ThreadInner z0 z1 r) e = absurd (false≢true e)
arc-cut (Drill tip r cone) e = absurd (false≢true e)
arc-cut Arc e = refl

arc-is : (t : Tool) → arc_tool t ≡ true → t ≡ Single Arc
arc-is (Single u) e = arc-cut u e
arc-is (Nose side rn) e = absurd (false≢true e)
arc-is (Polygon side excess) e = absurd (false≢true e)

-- what is good is no arc, and in its domain
good-is : (t : Tool) (ys : List Float) → tool_good t ys ≡ (not (arc_tool t) && tool_inside t ys)
unfolding tool_good tool_inside
good-is (Single u) ys = refl
good-is (Nose side rn) ys = refl
good-is (Polygon side excess) ys = refl

-- a preview on a stock that is not refused: 13, then 5, then 6
preview-asks : (spec : TurnStockSpec) (cs : List Float) (n : ℕ) → stock_of spec cs ≡ answers n → (t : Tool) (ys : List Float) (room : ℕ) → preview_tool spec cs t ys room ≡ demand (not (arc_tool t)) 13 (demand (tool_inside t ys) 5 (proposed (tool_act (clean_spec spec) t ys) cs room n))
unfolding preview_tool preview_cut preview_of tool_inside tool_act demand
preview-asks spec cs n e (Single u) ys room = ap (λ (p : Paper ℕ). onward p (λ m. demand (not (is_arc (clean_cut u))) 13 (demand (cut_good (clean_cut u)) 5 (proposed (cut_act (clean_spec spec) (clean_cut u)) cs room m)))) e ∙ onward-answers n _
preview-asks spec cs n e (Nose side rn) ys room = ap (λ (p : Paper ℕ). onward p (λ m. demand (segments_good rn ys) 5 (proposed (nose_act (clean_spec spec) side rn ys) cs room m))) e ∙ onward-answers n _
preview-asks spec cs n e (Polygon side excess) ys room = ap (λ (p : Paper ℕ). onward p (λ m. demand (polygon_good ys excess) 5 (proposed (polygon_act (clean_spec spec) side excess ys) cs room m))) e ∙ onward-answers n _

-- a cut fails with 13 because it is an arc, with 5 because it is not in its domain, with 12 because the generation is the last
pub data Fails (t : Pass) (generation q : ℕ) : Type 0 where
  an-arc : q ≡ 13 → t.tool ≡ Single Arc → Fails t generation q
  beyond : q ≡ 5 → tool_inside t.tool t.beside ≡ false → Fails t generation q
  spent : q ≡ 12 → tool_good t.tool t.beside ≡ true → last_generation ≤ generation → Fails t generation q

same_number : {A : Type 0} (p : Paper A) (q r : Reason) → p ≡ refuses q → p ≡ refuses r → r.number ≡ q.number
same_number p q r e f = ap (λ (x : Reason). x.number) (same-refusal (sym f ∙ e))

module _ (spec : TurnStockSpec) (n : ℕ) (hs : HeldSpec spec) (t : Pass) (ht : HeldTool t.tool t.beside) (d : Committed) (b : Good spec n d.cells) where
  abbrev cutter : Cutter
  cutter = record { tool = t.tool; beside = t.beside }

  abbrev after : Committed
  after = record { cells = put_all d.cells (changes_to (act_cell (cutter_act spec cutter)) d.cells n); generation = d.generation + 1 }

  few : n ≤ cell_limit
  few = (checked spec n b.count).few

  -- a good cut, previewed and committed, is refused only where the generation is the last
  pub good-turned : tool_good t.tool t.beside ≡ true → pass_turned spec t d ≡ demand (ltb d.generation last_generation) 12 (answers after)
  unfolding pass_turned
  good-turned g =
      let s = tool-sound spec n hs b.count cutter ht g in
      ap (λ (p : Paper (List TurnChange)). onward p (λ l. own_commit spec d.cells d.generation l)) (good-accepted spec n cutter d.cells cell_limit (good-stock b) few g)
      ∙ onward-answers _ _
      ∙ commit-is b (act_cell (cutter_act spec cutter)) (act-cuts b (cutter_act spec cutter) s.plain) d.generation

  -- one that is not is refused by its preview
  abbrev own : List TurnChange → Paper Committed
  own l = own_commit spec d.cells d.generation l

  asks : pass_turned spec t d ≡ onward (demand (not (arc_tool t.tool)) 13 (demand (tool_inside t.tool t.beside) 5 (proposed (cutter_act spec cutter) d.cells cell_limit n))) own
  unfolding pass_turned
  asks = ap (λ (p : Paper (List TurnChange)). onward p own) (preview-asks spec d.cells n (good-stock b) t.tool t.beside cell_limit)

  arc-refused : arc_tool t.tool ≡ true → pass_turned spec t d ≡ refuses (only 13)
  arc-refused a = asks ∙ ap (λ (p : Paper (List TurnChange)). onward p own) (demand-false _ _ _ (ap not a)) ∙ onward-refuses (only 13) own

  beyond-refused : arc_tool t.tool ≡ false → tool_inside t.tool t.beside ≡ false → pass_turned spec t d ≡ refuses (only 5)
  beyond-refused a h = asks ∙ ap (λ (p : Paper (List TurnChange)). onward p own) (demand-true _ _ _ (ap not a) ∙ demand-false _ _ _ h) ∙ onward-refuses (only 5) own

  module _ (r : Reason) (e : pass_turned spec t d ≡ refuses r) where
    late : (u : Bool) → ltb d.generation last_generation ≡ u → tool_good t.tool t.beside ≡ true → Fails t d.generation r.number
    late true h g = absurd (no_answer r after (sym e ∙ good-turned g ∙ demand-true _ _ _ h))
    late false h g = spent (same_number (pass_turned spec t d) (only 12) r (good-turned g ∙ demand-false _ _ _ h) e) g (ltb-false _ _ h)

    within : (u : Bool) → tool_inside t.tool t.beside ≡ u → arc_tool t.tool ≡ false → Fails t d.generation r.number
    within true h a = late (ltb d.generation last_generation) refl (good-is t.tool t.beside ∙ ap₂ (λ (x y : Bool). not x && y) a h)
    within false h a = beyond (same_number (pass_turned spec t d) (only 5) r (beyond-refused a h) e) h

    either : (u : Bool) → arc_tool t.tool ≡ u → Fails t d.generation r.number
    either true a = an-arc (same_number (pass_turned spec t d) (only 13) r (arc-refused a) e) (arc-is t.tool a)
    either false a = within (tool_inside t.tool t.beside) refl a

    -- THE NUMBER OF A CUT THAT FAILS, and why it fails
    pub turn-fails : Fails t d.generation r.number
    turn-fails = either (arc_tool t.tool) refl

  -- one that is accepted is good, the cells afterwards fit, and the generation is one more
  pub record Taken (d' : Committed) : Type 0 where
    pub good : tool_good t.tool t.beside ≡ true
    pub fits_on : Good spec n d'.cells
    pub generation : d'.generation ≡ d.generation + 1
    pub spare : d.generation < last_generation
    pub removes : (i : ℕ) → i < n → Removes (cell_at d.cells i) (cell_at d'.cells i)

  pub turn-taken : (d' : Committed) → pass_turned spec t d ≡ answers d' → Taken d'
  unfolding pass_turned
  turn-taken d' e =
      let a = answered (preview_tool spec d.cells t.tool t.beside cell_limit) (λ l. own_commit spec d.cells d.generation l) d' e in
      let g = accepted-good spec cutter d.cells cell_limit a.value a.first in
      let s = tool-sound spec n hs b.count cutter ht g in
      let f = act_cell (cutter_act spec cutter) in
      let cuts = act-cuts b (cutter_act spec cutter) s.plain in
      let w = demanded (ltb d.generation last_generation) 12 (answers after) d' (sym (good-turned g) ∙ e) in
      let same : after ≡ d' = same_answer w.1 in
      record {
        good = g;
        fits_on = subst (λ (x : Committed). Good spec n x.cells) same (put-good b f cuts);
        generation = sym (ap (λ (x : Committed). x.generation) same);
        spare = ltb-true _ _ w.0;
        removes = λ i h. subst (λ (x : Committed). Removes (cell_at d.cells i) (cell_at x.cells i)) same (subst (Removes (cell_at d.cells i)) (sym (good-bins b f cuts i h)) (cuts i h).removes);
      }

-- ---- cuts in turn
module _ (spec : TurnStockSpec) (n : ℕ) (hs : HeldSpec spec) (ls : Cuts) (hl : HeldCuts ls) (c : Committed) (b : Good spec n c.cells) where
  -- the first m are accepted, and leave d: they are good, the cells fit, and the generation is m more
  pub record InTurn (m : ℕ) (d : Committed) : Type 0 where
    pub fits-then : Good spec n d.cells
    pub each : Each (λ (t : Cutter). cutter_good t ≡ true) (cutters_to ls m)
    pub generation : d.generation ≡ c.generation + m
    pub spare : c.generation ≤ last_generation → c.generation + m ≤ last_generation

  one_more : (m : ℕ) (e d : Committed) → InTurn m e → pass_turned spec (pass_at ls m) e ≡ answers d → InTurn (suc m) d
  unfolding cutters_to
  one_more m e d w h =
      let s = turn-taken spec n hs (pass_at ls m) (cut-held ls hl m) e w.fits-then d h in
      let g = w.generation in
      let g' = s.generation in
      let p = s.spare in
      record {
        fits-then = s.fits_on;
        each = each_append (λ (t : Cutter). cutter_good t ≡ true) (cutters_to ls m) (cutter_at ls m ∷ []) w.each (s.good, tt);
        generation = omega arith;
        spare = λ _. omega arith;
      }

  pub taken-in-turn : (m : ℕ) (d : Committed) → turned_to spec ls c m ≡ answers d → InTurn m d
  unfolding turned_to cutters_to
  taken-in-turn zero d e =
      let same : c ≡ d = same_answer e in
      subst (InTurn zero) same (record { fits-then = b; each = tt; generation = sym (add-zero c.generation); spare = λ h. omega arith })
  taken-in-turn (suc m) d e =
      let a = answered (turned_to spec ls c m) (λ x. placed m (pass_turned spec (pass_at ls m) x)) d e in
      one_more m a.value d (taken-in-turn m a.value a.first) (unplaced m (pass_turned spec (pass_at ls m) a.value) d a.then)

  -- WITH A CUT MORE outer bounds only fall (and inner bounds only rise): so a bin under its target is not mended by cutting on
  pub more-cuts : (m : ℕ) (d d' : Committed) → turned_to spec ls c m ≡ answers d → turned_to spec ls c (suc m) ≡ answers d' → (i : ℕ) → i < n → Removes (cell_at d.cells i) (cell_at d'.cells i)
  unfolding turned_to
  more-cuts m d d' e e' i h =
      let a = answered (turned_to spec ls c m) (λ x. placed m (pass_turned spec (pass_at ls m) x)) d' e' in
      let p = unplaced m (pass_turned spec (pass_at ls m) a.value) d' a.then in
      let same : a.value ≡ d = same_answer (sym a.first ∙ e) in
      let w = turn-taken spec n hs (pass_at ls m) (cut-held ls hl m) a.value (taken-in-turn m a.value a.first).fits-then d' p in
      subst (λ (x : Committed). Removes (cell_at x.cells i) (cell_at d'.cells i)) same (w.removes i h)

-- ---- what is asked first, test by test

-- two tests that hold hold together
pub and-of : (a b : Bool) → a ≡ true → b ≡ true → (a && b) ≡ true
and-of a b p q = rw (p, q)

module _ (spec : TurnStockSpec) (cs bs ts : List Float) (room numbers : ℕ) where
  pub record Allowed (kinds : List ℕ) (n : ℕ) : Type 0 where
    pub stock : stock_of spec cs ≡ answers n
    pub room-is : eqb room (4 * n) ≡ true
    pub matched : matches_of (clean_spec spec) n cs bs ≡ true
    pub numbers-are : eqb numbers (2 * blocks_in n) ≡ true
    pub cuts : cuts_good kinds ≡ true
    pub targets : targets_good ts n ≡ true

  abbrev rest : List ℕ → ℕ → Paper ℕ
  rest kinds n = demand (eqb room (4 * n)) 3 (demand (matches_of (clean_spec spec) n cs bs) 20 (demand (eqb numbers (2 * blocks_in n)) 20 (demand (cuts_good kinds && targets_good ts n) 25 (answers n))))

  pub allowed : (kinds : List ℕ) (n : ℕ) → checkable_of spec cs bs ts kinds room numbers ≡ answers n → Allowed kinds n
  unfolding checkable_of
  allowed kinds n e =
      let w = answered (stock_of spec cs) (rest kinds) n e in
      let m = w.value in
      let a = demanded (eqb room (4 * m)) 3 _ n w.then in
      let b = demanded (matches_of (clean_spec spec) m cs bs) 20 _ n a.1 in
      let c = demanded (eqb numbers (2 * blocks_in m)) 20 _ n b.1 in
      let d = demanded (cuts_good kinds && targets_good ts m) 25 (answers m) n c.1 in
      let g = and_both (cuts_good kinds) (targets_good ts m) d.0 in
      subst (Allowed kinds) (same_answer d.1) (record { stock = w.first; room-is = a.0; matched = b.0; numbers-are = c.0; cuts = g.0; targets = g.1 })

  pub allows : (kinds : List ℕ) (n : ℕ) → Allowed kinds n → checkable_of spec cs bs ts kinds room numbers ≡ answers n
  unfolding checkable_of
  allows kinds n w =
      ap (λ (p : Paper ℕ). onward p (rest kinds)) w.stock
      ∙ onward-answers n (rest kinds)
      ∙ demand-true _ _ _ w.room-is
      ∙ demand-true _ _ _ w.matched
      ∙ demand-true _ _ _ w.numbers-are
      ∙ demand-true _ _ _ (and-of (cuts_good kinds) (targets_good ts n) w.cuts w.targets)

-- ---- of a check. The numbers handed over are values of f64.
module _ (k : TurnStock) (cs bs ts : List Float) (ls : Cuts) (room numbers : ℕ) (hs : HeldSpec k.spec) (hc : HeldList cs) (hl : HeldCuts ls) where
  -- a stock that is not refused
  pub good_start : (n : ℕ) → checkable_of k.spec cs bs ts ls.kinds room numbers ≡ answers n → Good k.spec n cs
  good_start n e = stock-good hs hc (allowed k.spec cs bs ts room numbers ls.kinds n e).stock

  -- a yes is of as many generations as there are cuts
  pub yes-generation : (c : Committed) → check_of k cs bs ts ls room numbers ≡ answers (accepted c) → c.generation ≡ k.stamp.generation + length ls.kinds
  yes-generation c e =
      let y = (yes-exactly k cs bs ts ls room numbers c).0 e in
      (taken-in-turn k.spec y.bins hs ls hl (standing k cs) (good_start y.bins y.asked) (length ls.kinds) c y.turned).generation

  -- the cells after a yes are a stock of as many bins, so that 1, 2 and 3 cannot follow
  pub yes-stock : (c : Committed) → check_of k cs bs ts ls room numbers ≡ answers (accepted c) → (n : ℕ) → checkable_of k.spec cs bs ts ls.kinds room numbers ≡ answers n → stock_of k.spec c.cells ≡ answers n
  yes-stock c e n a =
      let y = (yes-exactly k cs bs ts ls room numbers c).0 e in
      good-stock (taken-in-turn k.spec n hs ls hl (standing k cs) (good_start n a) (length ls.kinds) c y.turned).fits-then

  -- THE KEPT NUMBERS MATCH after a yes, so that 20 cannot follow: those that the call left are of the cells that it left
  pub blocks-match : (s : TurnStock) (es es' fs fs' : List Float) → Checks k cs (check_of k cs bs ts ls room numbers) (Ok (is.Yes s)) es es' fs fs' → Matching k.spec es' fs'
  blocks-match s es es' fs fs' w =
      let v = yes-leaves k cs es es' fs fs' (check_of k cs bs ts ls room numbers) s w in
      let c = v.0 in
      let y = (yes-exactly k cs bs ts ls room numbers c).0 v.1 in
      let t = taken-in-turn k.spec y.bins hs ls hl (standing k cs) (good_start y.bins y.asked) (length ls.kinds) c y.turned in
      subst (λ (x : List Float). Matching k.spec x fs') (sym v.3) (subst (Matching k.spec c.cells) (sym v.4) (own-matching hs t.fits-then))

  -- THE NUMBER OF A CUT THAT IS NAMED: the cuts before j leave d, in as many generations, and cut j fails over it
  pub fails_by : (j q : ℕ) → check_of k cs bs ts ls room numbers ≡ answers (cut_at j q) → (d : Committed) × (turned_to k.spec ls (standing k cs) j ≡ answers d) × (d.generation ≡ k.stamp.generation + j) × Fails (pass_at ls j) d.generation q
  fails_by j q e =
      let w = (cut-exactly k cs bs ts ls room numbers j q).0 e in
      let s = w.stopped in
      let t = taken-in-turn k.spec w.bins hs ls hl (standing k cs) (good_start w.bins w.asked) j s.before s.turned in
      let f = turn-fails k.spec w.bins hs (pass_at ls j) (cut-held ls hl j) s.before t.fits-then w.reason s.refused in
      (s.before, s.turned, t.generation, subst (Fails (pass_at ls j) s.before.generation) w.number f)

  -- NEVER SIX, nor any other number than 13, 5 and 12: what a preview with room for every cell proposes is accepted
  pub never-six : (j q : ℕ) → check_of k cs bs ts ls room numbers ≡ answers (cut_at j q) → (q ≡ 13) ⊎ ((q ≡ 5) ⊎ (q ≡ 12))
  never-six j q e = go (fails_by j q e).3
    where
      go : {g : ℕ} → Fails (pass_at ls j) g q → (q ≡ 13) ⊎ ((q ≡ 5) ⊎ (q ≡ 12))
      go (an-arc h a) = inl h
      go (beyond h a) = inr (inl h)
      go (spent h a l) = inr (inr h)
