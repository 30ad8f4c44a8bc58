-- The third demand over the calls themselves: what their promises say of a run of previews and commits through lent lists. Assumes nothing.
use Rattle.std.specs.Prelude.{Ok}
use mathlib.Core.Path.{◌≡◌, refl, sym, ap, ◌∙◌, subst}
use mathlib.Core.Bool.{Bool, true, false}
use mathlib.Core.List.Permᴰ
use mathlib.Core.List.{List, [], ◌∷◌, map, foldl, Memᴰ, Permᴰ}
use Prim.Native.Nat.{ℕ, ◌+◌, ◌<◌}
use native.Mathlib.Nat.{add-zero}
use lib.Dec.{ltb}
use lib.ListN.{length}
use lib.Ieee.{Float, binary64}
use Rattle.refusals.specs.Paper.{Paper, answers, refuses, only, demand}
use Rattle.refusals.specs.Limits.{last_generation}
use Rattle.floats.specs.Each.{Each}
use Rattle.floats.specs.Kinds.{Plain}
use Rattle.floats.proofs.Folds.{each-perm}
use Rattle.stock.specs.declared.TurnStockSpec.{TurnStockSpec}
use Rattle.stock.specs.declared.TurnCell.{TurnCell}
use Rattle.stock.specs.declared.TurnChange.{TurnChange}
use Rattle.stock.specs.declared.TurnSide.{TurnSide}
use Rattle.stock.specs.Cell.{cell_at, stock_of}
use Rattle.stock.proofs.Count.{no_answer, same_answer}
use Rattle.stock.proofs.Bins.{HeldSpec, HeldList}
use Rattle.stock.proofs.Stored.{same-cells}
use Rattle.reach.specs.declared.Reach.{Reach}
use Rattle.reach.specs.Reach.{deeper, deep_of, sure_of, limit_of, with_pair, Act, act_cell}
use Rattle.reach.specs.Kinds.{PlainReach, PlainAct, OnSide, OnlyAt}
use Rattle.reach.specs.Closed.{gather, lows_of, highs_of, closed, owns_at}
use Rattle.reach.proofs.Sides.{Ordered}
use Rattle.reach.proofs.Deepest.{Deepest, deepest}
use Rattle.reach.proofs.OneByOne.{cell_after, cuts-of-bin, plain-lows, plain-highs, own-plain}
use Rattle.reach.proofs.AnyOrder.{mem-map, bin-any-order, bin-however-often}
use Rattle.stock.specs.declared.TurnStock.{TurnStock}
use Rattle.stock.specs.declared.Stamp.{Stamp}
use Rattle.stock.specs.Stock.{stamp_of, stock_from}
use Rattle.changes.specs.declared.ChangeList.{ChangeList}
use Rattle.changes.specs.Change.{changes_to, room_of, count_of, stamped, Proposed}
use Rattle.changes.proofs.Proposals.{same-listing}
use Rattle.cuts.specs.Preview.{proposed}
use Rattle.changes.specs.Commit.{put_all, Committed, apply_of, Applies}
use Rattle.changes.proofs.Written.{same_outcome}
use Rattle.changes.proofs.Stocks.{Good, stock-good, good-stock}
use Rattle.changes.proofs.Accepted.{commit-is, put-good, good-bins}
use Rattle.changes.proofs.Proposal.{lent_is, act-cuts}
use Rattle.demands.specs.Tool.{Cutter, cutter_act, cutter_preview, HeldCutter, ToolsOf, ToolsAt}
use Rattle.demands.specs.Run.{Ran, start, cut}
use Rattle.demands.proofs.Matched.{apply-matching}
use Rattle.demands.proofs.InTurn.{next, start-ordered}
use Rattle.demands.proofs.Third.{all-sides, perm-length}
use Rattle.demands.proofs.Tools.{tool-sound, accepted-good, tools-each}

-- ---- one cut by two calls

-- a proposal that answered with a list answered with changes
pub answered : (st : Stamp) (p : Paper (List TurnChange)) (c : ChangeList) → answers c ≡ stamped st (count_of p) → (l : List TurnChange) × (p ≡ answers l)
answered st (answers l) c e = (l, refl)
answered st (refuses r) c e = absurd (no_answer r c (sym e))

-- what is left where a commit that could only be refused for its generation was accepted
record Kept (k : Committed) (g : ℕ) (cs' : List Float) : Type 0 where
  cells : cs' ≡ k.cells
  generation : g ≡ k.generation

kept : (spec : TurnStockSpec) (edition rings gen : ℕ) (t : Bool) (k : Committed) (g : ℕ) (cs cs' : List Float) → Applies (stock_from spec edition rings gen) (demand t 12 (answers k)) (Ok (stock_from spec edition rings g)) cs cs' → Kept k g cs'
unfolding demand
kept spec edition rings gen true k g cs cs' a = record { cells = a.cells; generation = ap (λ (x : TurnStock). x.stamp.generation) (same_answer a.answer) }
kept spec edition rings gen false k g cs cs' a = absurd (no_answer (only 12) (stock_from spec edition rings g) (sym a.answer))

-- the cut is in its domain, the cells afterwards fit, each is what the cut makes of it, and the generation is one more
pub record Called (spec : TurnStockSpec) (n : ℕ) (t : Cutter) (cs cs' : List Float) (gen g : ℕ) : Type 0 where
  pub good : Good spec n cs'
  pub bins : (i : ℕ) → i < n → cell_at cs' i ≡ act_cell (cutter_act spec t) i (cell_at cs i)
  pub plain : PlainAct n (cutter_act spec t)
  pub generation : g ≡ gen + 1

pub called : {spec : TurnStockSpec} {edition rings n : ℕ} → HeldSpec spec → (t : Cutter) → HeldCutter t → {cs cs' : List Float} (bs : List Float) → Good spec n cs → (gen g : ℕ) (list : ChangeList) (is is' : List ℕ) (xs xs' : List Float)
    → Proposed (stamp_of edition gen) (cutter_preview spec t cs (room_of (length is) (length xs))) (Ok list) is is' xs xs'
    → Applies (stock_from spec edition rings gen) (apply_of (stock_from spec edition rings gen) cs bs list is' xs') (Ok (stock_from spec edition rings g)) cs cs' → Called spec n t cs cs' gen g
called {spec} {edition} {rings} {n} hs t ht {cs} {cs'} bs b gen g list is is' xs xs' p a =
    let stock = stock_from spec edition rings gen in
    let room = room_of (length is) (length xs) in
    let f = act_cell (cutter_act spec t) in
    let l : List TurnChange = changes_to f cs n in
    let y = answered (stamp_of edition gen) (cutter_preview spec t cs room) list p.answer in
    let s = tool-sound spec n hs b.count t ht (accepted-good spec t cs room y.0 y.1) in
    let cuts = act-cuts b (cutter_act spec t) s.plain in
    let q = same-listing (stamp_of edition gen) (proposed (cutter_act spec t) cs room n) (cutter_preview spec t cs room) (Ok list) is is' xs xs' (sym (s.rule cs room (good-stock b))) p in
    let e = lent_is stock cs bs (apply-matching stock (stock_from spec edition rings g) cs cs' bs list is' xs' a) list l is is' xs xs' q ∙ commit-is b f cuts gen in
    let k : Committed = record { cells = put_all cs l; generation = gen + 1 } in
    let w = kept spec edition rings gen (ltb gen last_generation) k g cs cs' (same_outcome stock (demand (ltb gen last_generation) 12 (answers k)) (apply_of stock cs bs list is' xs') (Ok (stock_from spec edition rings g)) cs cs' (sym e) a) in
    record {
      good = subst (Good spec n) (sym w.cells) (put-good b f cuts);
      bins = λ i h. ap (λ (xs : List Float). cell_at xs i) w.cells ∙ good-bins b f cuts i h;
      plain = s.plain;
      generation = w.generation;
    }

-- ---- a run of them
record After (spec : TurnStockSpec) (n : ℕ) (k : Committed) (l : List Cutter) (m : Committed) : Type 0 where
  good : Good spec n m.cells
  bins : (i : ℕ) → i < n → cell_at m.cells i ≡ cell_after i (cell_at k.cells i) (map (cutter_act spec) l)
  plain : Each (PlainAct n) (map (cutter_act spec) l)
  generation : m.generation ≡ k.generation + length l

after : {spec : TurnStockSpec} {edition rings n : ℕ} → HeldSpec spec → {k m : Committed} {l : List Cutter} → Ran spec edition rings k l m → Each HeldCutter l → Good spec n k.cells → After spec n k l m
after hs {k} start ht b = record { good = b; bins = λ i h. refl; plain = tt; generation = sym (add-zero k.generation) }
after {spec} hs (cut {t} {l} {cs} {cs'} {bs} {bs'} {gen} {g} {list} {is} {is'} {xs} {xs'} {m} p a r) ht b =
    let w = called hs t ht.0 bs b gen g list is is' xs xs' p a.left in
    let v = after hs r ht.1 w.good in
    record {
      good = v.good;
      bins = λ i h. v.bins i h ∙ ap (λ (x : TurnCell). cell_after i x (map (cutter_act spec) l)) (w.bins i h);
      plain = (w.plain, v.plain);
      generation = v.generation ∙ ap (λ (x : ℕ). x + length l) w.generation ∙ next gen (length l);
    }

-- ---- the closed form in words

-- c' is c with two bounds of a side: the deepest of its deep bound and the lows, brought to the other where that lies deeper; and the deepest of its sure bound and the highs
pub record LeftDeepest (σ : TurnSide) (c : TurnCell) (own : List Reach) (c' : TurnCell) : Type 0 where
  pub deep : Float
  pub sure : Float
  pub deepest-low : Deepest σ (deep_of σ c) (gather lows_of own) deep
  pub deepest-high : Deepest σ (sure_of σ c) (gather highs_of own) sure
  pub pair : c' ≡ with_pair σ (deeper σ deep sure) sure c

pub left-deepest : (σ : TurnSide) (c : TurnCell) (own : List Reach) (c' : TurnCell) → Ordered σ c → Each PlainReach own → c' ≡ closed σ c own → LeftDeepest σ c own c'
unfolding closed
left-deepest σ c own c' o ps e = record {
  deep = foldl (deeper σ) (deep_of σ c) (gather lows_of own);
  sure = foldl (deeper σ) (sure_of σ c) (gather highs_of own);
  deepest-low = deepest σ (gather lows_of own) (plain-lows own ps) (deep_of σ c) o.deep;
  deepest-high = deepest σ (gather highs_of own) (plain-highs own ps) (sure_of σ c) o.sure;
  pair = e;
}

pub acts-plain : (σ : TurnSide) (n i : ℕ) → i < n → (c : TurnCell) → Plain binary64 (limit_of σ c) → (l : List Act) → Each (PlainAct n) l → Each PlainReach (owns_at σ c i l)
acts-plain σ n i h c q [] ps = tt
acts-plain σ n i h c q (a ∷ l) ps = (own-plain σ c (a.at i) q (ps.0 i h), acts-plain σ n i h c q l ps.1)

-- ---- THE DEMAND, over calls. The numbers handed over are values of f64, and the stock at the start is not refused.
module _ {spec : TurnStockSpec} {edition rings n : ℕ} {k m : Committed} {l : List Cutter} (hs : HeldSpec spec) (hc : HeldList k.cells) (e : stock_of spec k.cells ≡ answers n) (ht : Each HeldCutter l) (r : Ran spec edition rings k l m) where
  good : Good spec n k.cells
  good = stock-good hs hc e

  -- the cells at its end fit
  pub run-good : Good spec n m.cells
  run-good = (after hs r ht good).good

  -- THE CLOSED FORM: a run leaves it in each bin that one side only reaches
  pub run-leaves : (σ : TurnSide) (i : ℕ) → i < n → ToolsAt spec σ i l → cell_at m.cells i ≡ closed σ (cell_at k.cells i) (owns_at σ (cell_at k.cells i) i (map (cutter_act spec) l))
  run-leaves σ i h os =
      let a = after hs r ht good in
      a.bins i h ∙ cuts-of-bin σ n i h (cell_at k.cells i) (map (cutter_act spec) l) (start-ordered good σ i h) a.plain (tools-each spec (OnlyAt σ i) l os)

  -- in 01's words: each bound of the side is one of its start and the cuts' own bounds, and none of those lies deeper (outside: is less; inside: is greater); then the pair is ordered
  pub run-deepest : (σ : TurnSide) (i : ℕ) → i < n → ToolsAt spec σ i l → LeftDeepest σ (cell_at k.cells i) (owns_at σ (cell_at k.cells i) i (map (cutter_act spec) l)) (cell_at m.cells i)
  run-deepest σ i h os =
      let c = cell_at k.cells i in
      let o = start-ordered good σ i h in
      left-deepest σ c (owns_at σ c i (map (cutter_act spec) l)) (cell_at m.cells i) o (acts-plain σ n i h c o.limit (map (cutter_act spec) l) (after hs r ht good).plain) (run-leaves σ i h os)

  bin_same : {m' : Committed} {l' : List Cutter} → Permᴰ l l' → Ran spec edition rings k l' m' → (σ : TurnSide) (i : ℕ) → i < n → Each (OnlyAt σ i) (map (cutter_act spec) l) → cell_at m.cells i ≡ cell_at m'.cells i
  bin_same d r' σ i h os =
      let a = after hs r ht good in
      let b = after hs r' (each-perm HeldCutter d ht) good in
      a.bins i h ∙ bin-any-order σ n i h (cell_at k.cells i) (start-ordered good σ i h) (Permᴰ.map (cutter_act spec) d) a.plain os ∙ sym (b.bins i h)

  -- ANY ORDER, of cuts of both sides: two runs leave the same cell in each bin that one side only reaches
  pub run-any-order-bin : {m' : Committed} {l' : List Cutter} → Permᴰ l l' → Ran spec edition rings k l' m' → (σ : TurnSide) (i : ℕ) → i < n → ToolsAt spec σ i l → cell_at m.cells i ≡ cell_at m'.cells i
  run-any-order-bin d r' σ i h os = bin_same d r' σ i h (tools-each spec (OnlyAt σ i) l os)

  -- ANY ORDER, of cuts of one side: two runs leave the same cells and the same generation
  pub run-any-order : {m' : Committed} {l' : List Cutter} → Permᴰ l l' → Ran spec edition rings k l' m' → (σ : TurnSide) → ToolsOf spec σ l → m ≡ m'
  run-any-order {m'} d r' σ os =
      let a = after hs r ht good in
      let b = after hs r' (each-perm HeldCutter d ht) good in
      let ec = same-cells n m.cells m'.cells a.good.long b.good.long (λ i h. bin_same d r' σ i h (all-sides σ i (map (cutter_act spec) l) (tools-each spec (OnSide σ) l os))) in
      let eg = a.generation ∙ ap (λ (x : ℕ). k.generation + x) (perm-length d) ∙ sym b.generation in
      λ i. record { cells = ec i; generation = eg i }

  -- HOWEVER OFTEN: two runs of the same cuts of one side, each made as often as one likes, leave the same cells
  pub run-however-often : {m' : Committed} {l' : List Cutter} → Each HeldCutter l' → Ran spec edition rings k l' m' → ((t : Cutter) → Memᴰ t l → Memᴰ t l') → ((t : Cutter) → Memᴰ t l' → Memᴰ t l) → (σ : TurnSide) → ToolsOf spec σ l → ToolsOf spec σ l' → m.cells ≡ m'.cells
  run-however-often {m'} {l'} ht' r' h h' σ os os' =
      let a = after hs r ht good in
      let b = after hs r' ht' good in
      let as₀ = map (cutter_act spec) l in
      let as₁ = map (cutter_act spec) l' in
      same-cells n m.cells m'.cells a.good.long b.good.long (λ i p.
      a.bins i p
      ∙ bin-however-often σ n i p (cell_at k.cells i) (start-ordered good σ i p) as₀ as₁ (mem-map (cutter_act spec) l l' h) (mem-map (cutter_act spec) l' l h') a.plain b.plain (all-sides σ i as₀ (tools-each spec (OnSide σ) l os)) (all-sides σ i as₁ (tools-each spec (OnSide σ) l' os'))
      ∙ sym (b.bins i p))
