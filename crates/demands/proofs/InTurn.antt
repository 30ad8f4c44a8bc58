-- What a preview proposes a commit on the same stock accepts, while generations last; and cuts, each previewed and committed in turn, leave the closed form. Assumes nothing.
use Rattle.std.specs.Prelude.{Ok}
use mathlib.Core.Path.{◌≡◌, refl, sym, ap, ◌∙◌}
use mathlib.Core.Bool.{Bool, true}
use mathlib.Core.List.{List, [], ◌∷◌, foldl}
use Prim.Native.Nat.{ℕ, suc, ◌+◌, ◌≤◌, ◌<◌}
use native.Mathlib.Nat.{add-zero}
use native.Mathlib.Omega.{arith}
use borrow.Author.Tests.{le-leb}
use lib.Dec.{leb}
use lib.ListN.{length}
use lib.Ieee.{Float}
use Rattle.refusals.specs.Paper.{Paper, answers, refuses, demand, onward, demand-true, onward-answers, papers}
use Rattle.refusals.specs.Limits.{last_generation}
use Rattle.floats.specs.Each.{Each}
use Rattle.stock.specs.declared.TurnStockSpec.{TurnStockSpec}
use Rattle.stock.specs.declared.TurnCell.{TurnCell}
use Rattle.stock.specs.declared.TurnChange.{TurnChange}
use Rattle.stock.specs.Spec.{clean_spec}
use Rattle.stock.specs.Cell.{cell_at, stock_of}
use Rattle.stock.proofs.Count.{demanded, no_answer, same_answer}
use Rattle.stock.proofs.Bins.{HeldSpec, HeldList}
use Rattle.reach.specs.Reach.{Act, act_cell}
use Rattle.reach.specs.Kinds.{PlainAct}
use Rattle.stock.specs.declared.TurnSide.{TurnSide}
use Rattle.reach.proofs.Sides.{Ordered}
use Rattle.reach.proofs.Removes.{ordered}
use Rattle.reach.proofs.OneByOne.{cell_after, cuts-of-bin}
use Rattle.stock.specs.declared.TurnStock.{TurnStock}
use Rattle.changes.specs.declared.ChangeList.{ChangeList}
use Rattle.changes.specs.Change.{changes_to, room_of, Proposed}
use Rattle.changes.proofs.Rising.{at_most}
use Rattle.changes.proofs.Proposals.{of-stock, same-listing}
use Rattle.cuts.specs.Preview.{proposed, preview_of}
use Rattle.changes.specs.Commit.{put_all, Committed, commit_of, own_commit, apply_of}
use Rattle.changes.proofs.Stamped.{Matching, own-commit}
use Rattle.changes.proofs.Stocks.{Good, stock-good, good-stock}
use Rattle.changes.proofs.Accepted.{commit-accepts, put-good, good-bins}
use Rattle.changes.proofs.Proposal.{wrote, lent_is, lent-accepts, act-cuts}
use Rattle.demands.specs.Job.{Step, turned, turned_all, act_step, acts_of, Sound, Job, Leaves}

-- ---- a preview, committed

-- the commit of a cut in turn asks for the list's stamp and for the kept numbers too; the list has the stock's stamp, and the numbers match
pub turned-asks : (k : TurnStock) (room : ℕ) (u : Step) (cs bs : List Float) → Matching k.spec cs bs → turned k.spec room u (record { cells = cs; generation = k.stamp.generation }) ≡ onward (u.preview cs room) (λ l. commit_of k cs bs k.stamp l)
unfolding turned onward
turned-asks k room u cs bs m = go (u.preview cs room)
  where
    go : (p : Paper (List TurnChange)) → onward p (λ l. own_commit k.spec cs k.stamp.generation l) ≡ onward p (λ l. commit_of k cs bs k.stamp l)
    go (answers l) = sym (own-commit k cs bs l m)
    go (refuses r) = refl

-- by the rule of a stock's own list
own-commits : {spec : TurnStockSpec} {n : ℕ} {u : Step} → Sound spec n u → HeldSpec spec → (cs : List Float) → HeldList cs → stock_of spec cs ≡ answers n → (room : ℕ) (l : List TurnChange) → u.preview cs room ≡ answers l
    → (gen : ℕ) → gen < last_generation → own_commit spec cs gen l ≡ answers (record { cells = put_all cs l; generation = gen + 1 })
own-commits {spec} {n} {u} s hs cs hc e room l p gen h =
    let g = stock-good hs hc e in
    let m : List TurnChange = changes_to (act_cell u.act) cs n in
    let q : m ≡ l = same_answer (demanded (leb (length m) room) 6 (answers m) l (sym (s.rule cs room e) ∙ p)).1 in
    rw (← q) (commit-accepts g (act_cell u.act) (act-cuts g u.act s.plain) gen h)

-- WHAT A PREVIEW PROPOSES, A COMMIT ON THE SAME STOCK ACCEPTS, while generations last: where the preview of a sound cut answers with changes l, the commit of l, with the stock's stamp
-- and with kept numbers that match the cells, answers with the cells that have every after-cell in its bin, and the next generation.
pub preview-commits : (k : TurnStock) {n : ℕ} {u : Step} → Sound k.spec n u → HeldSpec k.spec → (cs bs : List Float) → HeldList cs → Matching k.spec cs bs → stock_of k.spec cs ≡ answers n → (room : ℕ) (l : List TurnChange) → u.preview cs room ≡ answers l
    → k.stamp.generation < last_generation → commit_of k cs bs k.stamp l ≡ answers (record { cells = put_all cs l; generation = k.stamp.generation + 1 })
preview-commits k s hs cs bs hc m e room l p h = own-commit k cs bs l m ∙ own-commits s hs cs hc e room l p k.stamp.generation h

-- The same through the lent lists. A preview answered a list and left is', xs' in the lists that it was lent; a commit of that list to the stock is then `turned`:
-- the preview and the commit by the rules alone, refused or accepted.
pub lent-turned : (k : TurnStock) {n : ℕ} {u : Step} → Sound k.spec n u → (cs bs : List Float) → Matching k.spec cs bs → stock_of k.spec cs ≡ answers n
    → (list : ChangeList) (is is' : List ℕ) (xs xs' : List Float) → Proposed k.stamp (u.preview cs (room_of (length is) (length xs))) (Ok list) is is' xs xs'
    → apply_of k cs bs list is' xs' ≡ turned k.spec (room_of (length is) (length xs)) u (record { cells = cs; generation = k.stamp.generation })
unfolding turned
lent-turned k {n} {u} s cs bs m e list is is' xs xs' p =
    let spec = k.spec in
    let gen = k.stamp.generation in
    let room = room_of (length is) (length xs) in
    let l : List TurnChange = changes_to (act_cell u.act) cs n in
    let q = same-listing k.stamp (proposed u.act cs room n) (u.preview cs room) (Ok list) is is' xs xs' (sym (s.rule cs room e)) p in
    let r : u.preview cs room ≡ answers l = s.rule cs room e ∙ demand-true _ _ _ (le-leb (length l) room (wrote l list.count is is' xs xs' (of-stock k.stamp (proposed u.act cs room n) list is is' xs xs' q).tally).room) in
    lent_is k cs bs m list l is is' xs xs' q ∙ sym (ap (λ (x : Paper (List TurnChange)). onward x (λ y. own_commit spec cs gen y)) r ∙ onward-answers _ _)

-- And it is accepted while generations last: each cell is what the cut makes of it.
pub lent-commits : (k : TurnStock) {n : ℕ} {u : Step} → Sound k.spec n u → HeldSpec k.spec → (cs bs : List Float) → HeldList cs → Matching k.spec cs bs → stock_of k.spec cs ≡ answers n
    → (list : ChangeList) (is is' : List ℕ) (xs xs' : List Float) → k.stamp.generation < last_generation → Proposed k.stamp (u.preview cs (room_of (length is) (length xs))) (Ok list) is is' xs xs'
    → apply_of k cs bs list is' xs' ≡ answers (record { cells = put_all cs (changes_to (act_cell u.act) cs n); generation = k.stamp.generation + 1 })
lent-commits k {n} {u} s hs cs bs hc m e list is is' xs xs' h p =
    let g = stock-good hs hc e in
    let room = room_of (length is) (length xs) in
    lent-accepts k bs m g (act_cell u.act) (act-cuts g u.act s.plain) list is is' xs xs' h
    (same-listing k.stamp (proposed u.act cs room n) (u.preview cs room) (Ok list) is is' xs xs' (sym (s.rule cs room e)) p)

-- ---- an act in its domain, whose numbers are plain, is sound
-- the preview of an act in its domain proposes its changes
pub act-rule : (spec : TurnStockSpec) (n : ℕ) (good : Bool) (a : Act) → good ≡ true → (cs : List Float) (room : ℕ) → stock_of spec cs ≡ answers n → preview_of spec cs good a room ≡ proposed a cs room n
unfolding preview_of
act-rule spec n good a g cs room e = simp (papers, e, g)

pub act-sound : (spec : TurnStockSpec) (n : ℕ) (good : Bool) (a : Act) → good ≡ true → PlainAct n a → Sound spec n (act_step spec good a)
act-sound spec n good a g p = record { rule = act-rule spec n good a g; plain = p }

-- and a preview of an act that answers is of one in its domain
pub act-accepted : (spec : TurnStockSpec) (cs : List Float) (good : Bool) (a : Act) (room : ℕ) (l : List TurnChange) → preview_of spec cs good a room ≡ answers l → good ≡ true
unfolding preview_of onward
act-accepted spec cs good a room l e = go (stock_of spec cs) e
  where
    go : (p : Paper ℕ) → onward p (λ n. demand good 5 (proposed a cs room n)) ≡ answers l → good ≡ true
    go (answers n) h = (demanded good 5 (proposed a cs room n) l h).0
    go (refuses r) h = absurd (no_answer r l h)

-- ---- one cut in turn
record Turned (spec : TurnStockSpec) (room n : ℕ) (u : Step) (k : Committed) : Type 0 where
  cells : List Float
  good : Good spec n cells
  answer : turned spec room u k ≡ answers (record { cells = cells; generation = k.generation + 1 })
  bins : (i : ℕ) → i < n → cell_at cells i ≡ act_cell u.act i (cell_at k.cells i)

cut-turned : (spec : TurnStockSpec) (room n : ℕ) (u : Step) (k : Committed) → Good spec n k.cells → Sound spec n u → n ≤ room → k.generation < last_generation → Turned spec room n u k
unfolding turned
cut-turned spec room n u k g s r h =
    let f = act_cell u.act in
    let l : List TurnChange = changes_to f k.cells n in
    let cuts = act-cuts g u.act s.plain in
    let few = at_most f k.cells n in
    let e : u.preview k.cells room ≡ answers l = s.rule k.cells room (good-stock g) ∙ demand-true _ _ _ (le-leb (length l) room (omega arith)) in
    record {
      cells = put_all k.cells l;
      good = put-good g f cuts;
      answer = ap (λ (p : Paper (List TurnChange)). onward p (λ x. own_commit spec k.cells k.generation x)) e ∙ onward-answers _ _ ∙ commit-accepts g f cuts k.generation h;
      bins = good-bins g f cuts;
    }

-- ---- cuts in turn
pub record TurnedAll (spec : TurnStockSpec) (room n : ℕ) (k : Committed) (l : List Step) : Type 0 where
  pub cells : List Float
  pub good : Good spec n cells
  pub answer : turned_all spec room k l ≡ answers (record { cells = cells; generation = k.generation + length l })
  pub bins : (i : ℕ) → i < n → cell_at cells i ≡ cell_after i (cell_at k.cells i) (acts_of l)

-- one more
pub next : (a b : ℕ) → a + 1 + b ≡ a + suc b
next a b = omega arith

turn-each : (spec : TurnStockSpec) (room n : ℕ) → n ≤ room → (l : List Step) → Each (Sound spec n) l → (k : Committed) → Good spec n k.cells → k.generation + length l ≤ last_generation → TurnedAll spec room n k l
unfolding turned_all
turn-each spec room n r [] ss k g h = record {
  cells = k.cells;
  good = g;
  answer = ap (λ (j : ℕ). answers (record { cells = k.cells; generation = j })) (sym (add-zero k.generation));
  bins = λ i q. refl;
}
turn-each spec room n r (u ∷ l) ss k g h =
    let t = cut-turned spec room n u k g ss.0 r (omega arith) in
    let k' : Committed = record { cells = t.cells; generation = k.generation + 1 } in
    let v = turn-each spec room n r l ss.1 k' t.good (omega arith) in
    record {
      cells = v.cells;
      good = v.good;
      answer =
          ap (λ (p : Paper Committed). foldl (λ (x : Paper Committed) (w : Step). onward x (turned spec room w)) p l) (onward-answers k (turned spec room u) ∙ t.answer)
          ∙ v.answer
          ∙ ap (λ (j : ℕ). answers (record { cells = v.cells; generation = j })) (next k.generation (length l));
      bins = λ i q. v.bins i q ∙ ap (λ (c : TurnCell). cell_after i c (acts_of l)) (t.bins i q);
    }

each-plain : (spec : TurnStockSpec) (n : ℕ) (l : List Step) → Each (Sound spec n) l → Each (PlainAct n) (acts_of l)
each-plain spec n [] ss = tt
each-plain spec n (u ∷ l) ss = (ss.0.plain, each-plain spec n l ss.1)

-- the cuts of a job reach plain numbers
pub job-plain : {spec : TurnStockSpec} {room n : ℕ} {k : Committed} {l : List Step} → Job spec room n k l → Each (PlainAct n) (acts_of l)
job-plain {spec} {room} {n} {k} {l} j = each-plain spec n l j.sound

-- the cells at its start fit
pub job_good : {spec : TurnStockSpec} {room n : ℕ} {k : Committed} {l : List Step} → Job spec room n k l → Good spec n k.cells
job_good j = stock-good j.spec_held j.cells_held j.stock

-- none is refused, and each cell is what they make of it one after the other
pub in-turn : {spec : TurnStockSpec} {room n : ℕ} {k : Committed} {l : List Step} → Job spec room n k l → TurnedAll spec room n k l
in-turn {spec} {room} {n} {k} {l} j = turn-each spec room n j.space l j.sound k (job_good j) j.spare

-- the pair of a bin's cell at the start, on a side
pub start-ordered : {spec : TurnStockSpec} {n : ℕ} {cs : List Float} → Good spec n cs → (σ : TurnSide) (i : ℕ) → i < n → Ordered σ (cell_at cs i)
start-ordered {spec} {cs = cs} g σ i h = ordered (clean_spec spec) σ (cell_at cs i) (g.fit i h)

-- THE CLOSED FORM: no cut of a job is refused, and what they leave in each bin that one side only reaches is the closed form of its cell
pub leaves : (spec : TurnStockSpec) (room n : ℕ) (k : Committed) (l : List Step) → Job spec room n k l → Leaves spec room n k l
leaves spec room n k l j =
    let t = in-turn j in
    record {
      cells = t.cells;
      answer = t.answer;
      long = t.good.long;
      stock = good-stock t.good;
      bins = λ σ i h os. t.bins i h ∙ cuts-of-bin σ n i h (cell_at k.cells i) (acts_of l) (start-ordered (job_good j) σ i h) (job-plain j) os;
    }
