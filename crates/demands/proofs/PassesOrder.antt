-- THE ORDER OF PROPOSED CUTS DOES NOT SHOW (Req 13, by demand 3): where all cuts are accepted, in any order they are, with the same cells and generation, and the same verdict (`yes-any-order`, `bin-any-order`);
-- each bin is then left with the closed form of its outer pair, and its inner pair as it was (`yes-closed`, `yes-inner`). Assumes nothing.
use Rattle.std.specs.Prelude.{Option, None, Some, Result, Ok}
use mathlib.Core.Path.{◌≡◌, refl, sym, ap, ◌∙◌, subst}
use mathlib.Core.Bool.{Bool, true, false, not, ◌&&◌, false≢true}
use mathlib.Core.List.Permᴰ
use mathlib.Core.List.{List, [], ◌∷◌, ◌++◌, map, map-append, foldl, foldl-append, Permᴰ}
use Prim.Native.Nat.{ℕ, zero, suc, ◌+◌, ◌*◌, ◌≤◌, ◌<◌}
use native.Mathlib.Omega.{arith}
use borrow.Author.Tests.{eqb-true}
use lib.Dec.{eqb, leb}
use lib.ListN.{length, get_or}
use lib.Ieee.{Float, nan, lt, le, eq, neg}
use Rattle.refusals.specs.declared.Refusal.{Refusal}
use Rattle.refusals.specs.Paper.{Paper, answers, refuses, placed, onward}
use Rattle.refusals.specs.Limits.{cell_limit, segment_limit, last_generation}
use Rattle.floats.specs.Each.{Each}
use Rattle.floats.specs.Numbers.{zero64, million, usable}
use Rattle.floats.specs.Pick.{pick, pick_true, pick-false}
use Rattle.floats.proofs.Folds.{each-perm, each_append}
use Rattle.stock.specs.declared.TurnStockSpec.{TurnStockSpec}
use Rattle.stock.specs.declared.TurnStock.{TurnStock}
use Rattle.stock.specs.declared.TurnCell.{TurnCell}
use Rattle.stock.specs.declared.TurnSide.{TurnSide}
use Rattle.stock.specs.declared.TurnSide.TheVariants.{Outer, Inner}
use Rattle.stock.specs.Spec.{clean_spec}
use Rattle.stock.specs.Cell.{cell_at}
use Rattle.stock.proofs.Count.{and_both, same_answer, checked, stocked}
use Rattle.stock.proofs.Bins.{HeldSpec, HeldList}
use Rattle.reach.specs.declared.Reach.{Reach}
use Rattle.reach.specs.Reach.{with_pair, Act}
use Rattle.reach.specs.Kinds.{PlainAct, OnSide, OnlyAt}
use Rattle.reach.specs.Closed.{closed, owns_at}
use Rattle.nose.specs.Nose.{good_to, segment_count, segments_good, nose_act}
use Rattle.polygon.specs.Polygon.{polygon_act}
use Rattle.changes.specs.Commit.{Committed}
use Rattle.cuts.specs.declared.Tool.{Tool}
use Rattle.cuts.specs.Cut.{clean_cut}
use Rattle.cuts.specs.Tool.{tool_act, tool_good}
use Rattle.passes.specs.Cuts.{Cuts, Pass, pass_limit, number_of, has_part, part_of, no_tool, is_swept, tool_of, is_inside, standing, pass_at, pass_turned, turned_to}
use Rattle.passes.specs.declared.Verdict as verdict
use Rattle.passes.specs.declared.Verdict.TheVariants as is
use Rattle.passes.specs.Check.{outside_to, Verdict, accepted, cut_at, bin_at, verdict_of, checkable_of, check_of, Checks}
use Rattle.demands.specs.Job.{Step, turned, turned_all}
use Rattle.demands.specs.Tool.{Cutter, cutter_act, cutter_good, step_of, turned_tools, ToolsOf, ToolsJob}
use Rattle.demands.proofs.InTurn.{start-ordered, job-plain}
use Rattle.demands.proofs.Third.{all-sides, perm-length}
use Rattle.demands.proofs.Tools.{acts-are, tools-each, job_of, tools-leave, tools-any-order}
use Rattle.demands.proofs.Calls.{LeftDeepest, left-deepest, acts-plain}
use Rattle.demands.proofs.Passes.{asked-then, yes-exactly, bin-exactly, yes-leaves, yes-answered}
use Rattle.demands.proofs.PassesTurned.{and-of, cutter_at, cutters_to, cutters_of, cutters-long, HeldCuts, pick-by, cuts-held, InTurn, taken-in-turn, allowed, allows, good_start}

-- ---- the side of a cut that is good: inside for the kinds of inside cuts, else outside

abbrev side_for : ℕ → TurnSide
side_for kind = pick (is_inside kind) Inner Outer

-- a tool with no radius is not good
no_number : (y : Float) → le nan y ≡ false
unfolding le lt eq
no_number y = refl

no-tool : (ys : List Float) → tool_good no_tool ys ≡ true → ⊥
unfolding tool_good segments_good
no-tool ys g =
    let count = segment_count ys in
    let a = (and_both (eqb (5 * count) (length ys) && leb count segment_limit) (usable nan && le zero64 nan && good_to ys count) g).1 in
    let b = (and_both (usable nan && le zero64 nan) (good_to ys count) a).0 in
    let c = (and_both (usable nan) (le zero64 nan) b).0 in
    false≢true (sym (no_number million) ∙ (and_both (le (neg million) nan) (le nan million) c).1)

-- the kind m is of that side
by-outer : (kind m : ℕ) → is_inside m ≡ false → eqb kind m ≡ true → Outer ≡ side_for kind
by-outer kind m i e = sym (pick-false (is_inside kind) Inner Outer (ap is_inside (eqb-true kind m e) ∙ i))

by-inner : (kind m : ℕ) → is_inside m ≡ true → eqb kind m ≡ true → Inner ≡ side_for kind
by-inner kind m i e = sym (pick_true (is_inside kind) Inner Outer (ap is_inside (eqb-true kind m e) ∙ i))

-- a good tool is of its kind's side
abbrev Sided : TurnStockSpec → List Float → ℕ → Tool → Type 0
Sided s ys kind t = tool_good t ys ≡ true → (tool_act s t ys).side ≡ side_for kind

tool-side : (s : TurnStockSpec) (ys : List Float) (kind : ℕ) (x : ℕ → Float) → Sided s ys kind (tool_of kind x)
unfolding tool_of tool_act clean_cut nose_act polygon_act
tool-side s ys kind x =
    pick-by (Sided s ys kind) (eqb kind 0) _ _ (λ e _. by-outer kind 0 refl e) (λ _.
    pick-by (Sided s ys kind) (eqb kind 1) _ _ (λ e _. by-outer kind 1 refl e) (λ _.
    pick-by (Sided s ys kind) (eqb kind 2) _ _ (λ e _. by-outer kind 2 refl e) (λ _.
    pick-by (Sided s ys kind) (eqb kind 3) _ _ (λ e _. by-outer kind 3 refl e) (λ _.
    pick-by (Sided s ys kind) (eqb kind 4) _ _ (λ e _. by-inner kind 4 refl e) (λ _.
    pick-by (Sided s ys kind) (eqb kind 5) _ _ (λ e _. by-inner kind 5 refl e) (λ _.
    pick-by (Sided s ys kind) (eqb kind 6) _ _ (λ e _. by-inner kind 6 refl e) (λ _.
    pick-by (Sided s ys kind) (eqb kind 7) _ _ (λ e _. by-inner kind 7 refl e) (λ _.
    pick-by (Sided s ys kind) (eqb kind 8) _ _ (λ e _. by-inner kind 8 refl e) (λ _.
    pick-by (Sided s ys kind) (eqb kind 9) _ _ (λ e _. by-outer kind 9 refl e) (λ _ g. absurd (no-tool ys g)))))))))))

-- and so is a good cut of the lists
abbrev SidedPass : TurnStockSpec → ℕ → Pass → Type 0
SidedPass s kind p = Sided s p.beside kind p.tool

cut-side : (spec : TurnStockSpec) (ls : Cuts) (k : ℕ) → SidedPass (clean_spec spec) (get_or ls.kinds k 0) (pass_at ls k)
unfolding pass_at
cut-side spec ls k =
    let kind = get_or ls.kinds k 0 in
    let s = clean_spec spec in
    pick-by (SidedPass s kind) (is_swept kind) _ _
    (λ _. pick-by (SidedPass s kind) (has_part ls k) _ _ (λ _. tool-side s (part_of ls k) kind (number_of ls k)) (λ _ g. absurd (no-tool [] g)))
    (λ _. tool-side s [] kind (number_of ls k))

outer-kind : (t : Bool) → pick t Inner Outer ≡ Outer → not t ≡ true
unfolding pick
outer-kind true e = let z : ◌≡◌ {A = ℕ} 0 1 = cc in absurd (omega arith)
outer-kind false e = refl

kind-outer : (t : Bool) → not t ≡ true → pick t Inner Outer ≡ Outer
unfolding pick
kind-outer true e = absurd (false≢true e)
kind-outer false e = refl

-- what holds of each of a list and one more holds of both
each-split : {A : Type 0} (P : A → Type 0) (l : List A) (x : A) → Each P (l ++ (x ∷ [])) → Each P l × P x
each-split P [] x ps = (tt, ps.0)
each-split P (y ∷ l) x ps = let r = each-split P l x ps.1 in ((ps.0, r.0), r.1)

module _ (spec : TurnStockSpec) (ls : Cuts) where
  -- cuts of which none is inside are outside cuts
  outer-cuts : (m : ℕ) → Each (λ (t : Cutter). cutter_good t ≡ true) (cutters_to ls m) → outside_to ls.kinds m ≡ true → ToolsOf spec Outer (cutters_to ls m)
  unfolding cutters_to outside_to
  outer-cuts zero gs e = tt
  outer-cuts (suc m) gs e =
      let g = each-split (λ (t : Cutter). cutter_good t ≡ true) (cutters_to ls m) (cutter_at ls m) gs in
      let b = and_both (outside_to ls.kinds m) (not (is_inside (get_or ls.kinds m 0))) e in
      each_append (λ (t : Cutter). OnSide Outer (cutter_act spec t)) (cutters_to ls m) (cutter_at ls m ∷ []) (outer-cuts m g.0 b.0) (cut-side spec ls m g.1 ∙ kind-outer (is_inside (get_or ls.kinds m 0)) b.1, tt)

  -- and the other way
  cuts-outer : (m : ℕ) → Each (λ (t : Cutter). cutter_good t ≡ true) (cutters_to ls m) → ToolsOf spec Outer (cutters_to ls m) → outside_to ls.kinds m ≡ true
  unfolding cutters_to outside_to
  cuts-outer zero gs os = refl
  cuts-outer (suc m) gs os =
      let g = each-split (λ (t : Cutter). cutter_good t ≡ true) (cutters_to ls m) (cutter_at ls m) gs in
      let o = each-split (λ (t : Cutter). OnSide Outer (cutter_act spec t)) (cutters_to ls m) (cutter_at ls m) os in
      let a = cuts-outer m g.0 o.0 in
      let b = outer-kind (is_inside (get_or ls.kinds m 0)) (sym (cut-side spec ls m g.1) ∙ o.1) in
      and-of (outside_to ls.kinds m) (not (is_inside (get_or ls.kinds m 0))) a b

-- ---- cuts in turn are cuts by name in turn

-- what is answered, if anything is
abbrev value_of : Paper Committed → Option Committed
value_of (answers d) = Some d
value_of (refuses r) = None

value-is : (p : Paper Committed) (d : Committed) → value_of p ≡ Some d → p ≡ answers d
value-is (answers e) d h = let same : e ≡ d = cc in ap answers same
value-is (refuses r) d h = let z : ◌≡◌ {A = ℕ} 0 1 = cc in absurd (omega arith)

placed_same : (k : ℕ) (p : Paper Committed) → value_of (placed k p) ≡ value_of p
unfolding placed
placed_same k (answers d) = refl
placed_same k (refuses r) = refl

onward-same : (k : ℕ) (f : Committed → Paper Committed) (p q : Paper Committed) → value_of p ≡ value_of q → value_of (onward p (λ d. placed k (f d))) ≡ value_of (onward q f)
unfolding onward
onward-same k f (answers a) (answers b) e = let same : a ≡ b = cc in placed_same k (f a) ∙ ap (λ (x : Committed). value_of (f x)) same
onward-same k f (answers a) (refuses r) e = let z : ◌≡◌ {A = ℕ} 0 1 = cc in absurd (omega arith)
onward-same k f (refuses r) (answers b) e = let z : ◌≡◌ {A = ℕ} 0 1 = cc in absurd (omega arith)
onward-same k f (refuses r) (refuses s) e = refl

module _ (spec : TurnStockSpec) (c : Committed) where
  -- one more cut by name
  tools-more : (l : List Cutter) (t : Cutter) → turned_tools spec cell_limit c (l ++ (t ∷ [])) ≡ onward (turned_tools spec cell_limit c l) (turned spec cell_limit (step_of spec t))
  unfolding turned_all
  tools-more l t =
      ap (foldl (λ (p : Paper Committed) (u : Step). onward p (turned spec cell_limit u)) (answers c)) (map-append (step_of spec) l (t ∷ []))
      ∙ foldl-append (λ (p : Paper Committed) (u : Step). onward p (turned spec cell_limit u)) (answers c) (map (step_of spec) l) (step_of spec t ∷ [])

  turn_is : (ls : Cuts) (m : ℕ) (d : Committed) → turned spec cell_limit (step_of spec (cutter_at ls m)) d ≡ pass_turned spec (pass_at ls m) d
  unfolding turned pass_turned
  turn_is ls m d = refl

  pub same-turns : (ls : Cuts) (m : ℕ) → value_of (turned_to spec ls c m) ≡ value_of (turned_tools spec cell_limit c (cutters_to ls m))
  unfolding turned_to cutters_to turned_all turned pass_turned
  same-turns ls zero = refl
  same-turns ls (suc m) =
      onward-same m (pass_turned spec (pass_at ls m)) (turned_to spec ls c m) (turned_tools spec cell_limit c (cutters_to ls m)) (same-turns ls m)
      ∙ ap value_of (sym (tools-more (cutters_to ls m) (cutter_at ls m)))

-- the closed form of an outer pair leaves the inner pair
closed-inner : (c : TurnCell) (own : List Reach) → (closed Outer c own).inner ≡ c.inner
unfolding closed with_pair
closed-inner c own = refl

-- a yes names no cut, and a bin is none
no-yes : (c : Committed) (j q : ℕ) → accepted c ≡ cut_at j q → ⊥
no-yes c j q e = let z : ◌≡◌ {A = ℕ} 0 1 = cc in omega arith

no-bin : (i j q : ℕ) → bin_at i ≡ cut_at j q → ⊥
no-bin i j q e = let z : ◌≡◌ {A = ℕ} 0 1 = cc in omega arith

-- ---- THE ORDER. Two lists of cuts, of which the one is the other in another order; the numbers handed over are values of f64, and the generation of u64.
module _ (k : TurnStock) (cs bs ts : List Float) (room numbers : ℕ) (hs : HeldSpec k.spec) (hc : HeldList cs) (hg : k.stamp.generation ≤ last_generation) where
  abbrev start : Committed
  start = standing k cs

  abbrev checkable : Cuts → Paper ℕ
  checkable ls = checkable_of k.spec cs bs ts ls.kinds room numbers

  module _ (ls : Cuts) (hl : HeldCuts ls) (n : ℕ) (e : checkable ls ≡ answers n) (c : Committed) (t : turned_to k.spec ls start (length ls.kinds) ≡ answers c) where
    in-turn : InTurn k.spec n hs ls hl start (good_start k cs bs ts ls room numbers hs hc hl n e) (length ls.kinds) c
    in-turn = taken-in-turn k.spec n hs ls hl start (good_start k cs bs ts ls room numbers hs hc hl n e) (length ls.kinds) c t

    -- cuts that are all accepted are a job of cuts by name
    job : ToolsJob k.spec cell_limit n start (cutters_of ls)
    job =
        let a = allowed k.spec cs bs ts room numbers ls.kinds n e in
        let s = in-turn.spare hg in
        record {
          spec_held = hs;
          cells_held = hc;
          tools_held = cuts-held ls hl (length ls.kinds);
          stock = a.stock;
          good = in-turn.each;
          space = (checked k.spec n (stocked k.spec cs n a.stock).count).few;
          spare = subst (λ (m : ℕ). k.stamp.generation + m ≤ last_generation) (sym (cutters-long ls (length ls.kinds))) s;
        }

    -- all outside
    sides : ToolsOf k.spec Outer (cutters_of ls)
    sides =
        let a = allowed k.spec cs bs ts room numbers ls.kinds n e in
        outer-cuts k.spec ls (length ls.kinds) in-turn.each (and_both (leb (length ls.kinds) pass_limit) (outside_to ls.kinds (length ls.kinds)) a.cuts).1

    tools-answer : turned_tools k.spec cell_limit start (cutters_of ls) ≡ answers c
    tools-answer = value-is _ c (sym (same-turns k.spec start ls (length ls.kinds)) ∙ ap value_of t)

    module _ (ls' : Cuts) (d : Permᴰ (cutters_of ls) (cutters_of ls')) where
      same_count : length ls.kinds ≡ length ls'.kinds
      same_count = sym (cutters-long ls (length ls.kinds)) ∙ perm-length d ∙ cutters-long ls' (length ls'.kinds)

      -- in another order they are asked for the same, and leave the same
      pub turned-any-order : turned_to k.spec ls' start (length ls'.kinds) ≡ answers c
      turned-any-order = value-is _ c (same-turns k.spec start ls' (length ls'.kinds) ∙ ap value_of (sym (tools-any-order d job Outer sides) ∙ tools-answer))

      pub asked-any-order : checkable ls' ≡ answers n
      asked-any-order =
          let a = allowed k.spec cs bs ts room numbers ls.kinds n e in
          let few = (and_both (leb (length ls.kinds) pass_limit) (outside_to ls.kinds (length ls.kinds)) a.cuts).0 in
          let out = cuts-outer k.spec ls' (length ls'.kinds) (each-perm (λ (x : Cutter). cutter_good x ≡ true) d in-turn.each) (each-perm (λ (x : Cutter). OnSide Outer (cutter_act k.spec x)) d sides) in
          let few' : leb (length ls'.kinds) pass_limit ≡ true = subst (λ (m : ℕ). leb m pass_limit ≡ true) same_count few in
          allows k.spec cs bs ts room numbers ls'.kinds n (record { stock = a.stock; room-is = a.room-is; matched = a.matched; numbers-are = a.numbers-are; cuts = and-of (leb (length ls'.kinds) pass_limit) (outside_to ls'.kinds (length ls'.kinds)) few' out; targets = a.targets })

  module _ (ls ls' : Cuts) (hl : HeldCuts ls) (d : Permᴰ (cutters_of ls) (cutters_of ls')) where
    -- YES IN ANY ORDER, with the same cells and generation
    pub yes-any-order : (c : Committed) → check_of k cs bs ts ls room numbers ≡ answers (accepted c) → check_of k cs bs ts ls' room numbers ≡ answers (accepted c)
    yes-any-order c e =
        let y = (yes-exactly k cs bs ts ls room numbers c).0 e in
        (yes-exactly k cs bs ts ls' room numbers c).1 (record { bins = y.bins; asked = asked-any-order ls hl y.bins y.asked c y.turned ls' d; turned = turned-any-order ls hl y.bins y.asked c y.turned ls' d; met = y.met })

    -- THE SAME BIN IN ANY ORDER, where all cuts are accepted and a bin misses its target
    pub bin-any-order : (i : ℕ) → check_of k cs bs ts ls room numbers ≡ answers (bin_at i) → check_of k cs bs ts ls' room numbers ≡ answers (bin_at i)
    bin-any-order i e =
        let y = (bin-exactly k cs bs ts ls room numbers i).0 e in
        (bin-exactly k cs bs ts ls' room numbers i).1 (record { bins = y.bins; asked = asked-any-order ls hl y.bins y.asked y.left y.turned ls' d; left = y.left; turned = turned-any-order ls hl y.bins y.asked y.left y.turned ls' d; missed = y.missed })

    -- by the promises of the two calls: where one answers yes the other answers the same, with the same cells and kept numbers, whatever its lists held
    pub calls-any-order : (s : TurnStock) (r : Result verdict.Verdict Refusal) (es es' fs fs' gs gs' js js' : List Float) → Checks k cs (check_of k cs bs ts ls room numbers) (Ok (is.Yes s)) es es' fs fs' → Checks k cs (check_of k cs bs ts ls' room numbers) r gs gs' js js' → (r ≡ Ok (is.Yes s)) × (gs' ≡ es') × (js' ≡ fs')
    calls-any-order s r es es' fs fs' gs gs' js js' w w' =
        let v = yes-leaves k cs es es' fs fs' (check_of k cs bs ts ls room numbers) s w in
        let a = yes-answered k cs gs gs' js js' (check_of k cs bs ts ls' room numbers) v.0 r (yes-any-order v.0 v.1) w' in
        (a.0 ∙ ap (λ (x : TurnStock). Ok (is.Yes x)) (sym v.2), a.1 ∙ sym v.3, a.2 ∙ sym v.4)

  -- so the answer is yes for both orders or for neither
  pub yes_both : (ls ls' : Cuts) → HeldCuts ls → HeldCuts ls' → Permᴰ (cutters_of ls) (cutters_of ls') → (c : Committed)
      → (check_of k cs bs ts ls room numbers ≡ answers (accepted c) → check_of k cs bs ts ls' room numbers ≡ answers (accepted c)) × (check_of k cs bs ts ls' room numbers ≡ answers (accepted c) → check_of k cs bs ts ls room numbers ≡ answers (accepted c))
  yes_both ls ls' hl hl' d c = (yes-any-order ls ls' hl d c, yes-any-order ls' ls hl' (Permᴰ.symm d) c)

  -- WHICH CUT FAILS FIRST depends on the order; that one fails does not, where the other order too is asked no 25
  pub cut-any-order : (ls ls' : Cuts) → HeldCuts ls' → Permᴰ (cutters_of ls) (cutters_of ls') → (n j q : ℕ) → checkable ls' ≡ answers n → check_of k cs bs ts ls room numbers ≡ answers (cut_at j q)
      → (j' : ℕ) × (q' : ℕ) × (check_of k cs bs ts ls' room numbers ≡ answers (cut_at j' q'))
  cut-any-order ls ls' hl' d n j q a e = go (verdict_of k cs n ts ls') (asked-then k cs bs ts ls' room numbers n a)
    where
      go : (v : Verdict) → check_of k cs bs ts ls' room numbers ≡ answers v → (j' : ℕ) × (q' : ℕ) × (check_of k cs bs ts ls' room numbers ≡ answers (cut_at j' q'))
      go (accepted c) f = absurd (no-yes c j q (same_answer (sym (yes-any-order ls' ls hl' (Permᴰ.symm d) c f) ∙ e)))
      go (cut_at j' q') f = (j', q', f)
      go (bin_at i) f = absurd (no-bin i j q (same_answer (sym (bin-any-order ls' ls hl' (Permᴰ.symm d) i f) ∙ e)))

  -- ---- THE CLOSED FORM
  module _ (ls : Cuts) (hl : HeldCuts ls) (c : Committed) (e : check_of k cs bs ts ls room numbers ≡ answers (accepted c)) (n : ℕ) (a : checkable ls ≡ answers n) where
    made : turned_to k.spec ls start (length ls.kinds) ≡ answers c
    made = ((yes-exactly k cs bs ts ls room numbers c).0 e).turned

    -- what the cuts do, one after the other
    abbrev acts : List Act
    acts = map (cutter_act k.spec) (cutters_of ls)

    outside : Each (OnSide Outer) acts
    outside = tools-each k.spec (OnSide Outer) (cutters_of ls) (sides ls hl n a c made)

    -- on yes each cell is the closed form of the old one: each bound of its outer pair the least of its start and the cuts' own bounds, the pair then ordered
    pub yes-closed : (i : ℕ) → i < n → cell_at c.cells i ≡ closed Outer (cell_at cs i) (owns_at Outer (cell_at cs i) i acts)
    yes-closed i h =
        let w = tools-leave k.spec cell_limit n start (cutters_of ls) (job ls hl n a c made) in
        let same : w.cells ≡ c.cells = ap (λ (x : Committed). x.cells) (same_answer (sym w.answer ∙ tools-answer ls hl n a c made)) in
        let are = acts-are k.spec (cutters_of ls) in
        ap (λ (x : List Float). cell_at x i) (sym same)
        ∙ w.bins Outer i h (subst (Each (OnlyAt Outer i)) (sym are) (all-sides Outer i acts outside))
        ∙ ap (λ (x : List Act). closed Outer (cell_at cs i) (owns_at Outer (cell_at cs i) i x)) are

    -- in words: each of the two bounds is one of its start and the cuts' own bounds, and none of those is less
    pub yes-deepest : (i : ℕ) → i < n → LeftDeepest Outer (cell_at cs i) (owns_at Outer (cell_at cs i) i acts) (cell_at c.cells i)
    yes-deepest i h =
        let o = start-ordered (good_start k cs bs ts ls room numbers hs hc hl n a) Outer i h in
        let plain = subst (Each (PlainAct n)) (acts-are k.spec (cutters_of ls)) (job-plain (job_of (job ls hl n a c made))) in
        left-deepest Outer (cell_at cs i) (owns_at Outer (cell_at cs i) i acts) (cell_at c.cells i) o (acts-plain Outer n i h (cell_at cs i) o.limit acts plain) (yes-closed i h)

    -- and its inner pair is as it was
    pub yes-inner : (i : ℕ) → i < n → (cell_at c.cells i).inner ≡ (cell_at cs i).inner
    yes-inner i h = ap (λ (x : TurnCell). x.inner) (yes-closed i h) ∙ closed-inner (cell_at cs i) (owns_at Outer (cell_at cs i) i acts)
