-- What is written by a proposal: outside lines, no more than there may be. So a check of it is never refused with 25 for its cuts. Assumes nothing.
use Rattle.std.specs.Prelude.{Ok}
use mathlib.Core.Path.{◌≡◌, refl, ap, ◌∙◌}
use mathlib.Core.Bool.{Bool, true, false}
use mathlib.Core.List.{List, []}
use Prim.Native.Nat.{ℕ, zero, suc, ◌≤◌, ◌<◌, min}
use native.Mathlib.Omega.{arith}
use lib.ListN.{length, take, drop, get_or, replicate, length-take, length-replicate, get_or-replicate}
use lib.Seq.{take_at}
use lib.Ieee.{Float}
use borrow.Author.Tests.{le-leb}
use Rattle.refusals.specs.Paper.{Paper, answers, refuses, demand, onward}
use Rattle.refusals.specs.Lent.{over}
use Rattle.floats.specs.Numbers.{clean_of}
use Rattle.floats.specs.Pick.{pick_true, pick-false}
use Rattle.stock.specs.declared.TurnStockSpec.{TurnStockSpec}
use Rattle.stock.specs.declared.TurnSide.TheVariants.{Outer}
use Rattle.stock.specs.Spec.{clean_spec}
use Rattle.stock.specs.Cell.{stock_of}
use Rattle.cuts.specs.declared.Cut.TheVariants.{Line}
use Rattle.cuts.specs.declared.Tool.{Tool}
use Rattle.cuts.specs.declared.Tool.TheVariants.{Single}
use Rattle.passes.specs.Cuts.{Cuts, pass_limit, number_of, tool_of, pass_at}
use Rattle.passes.specs.Check.{targets_good, outside_to, cuts_good}
use Rattle.passes.specs.declared.propose.Level.{Level}
use Rattle.passes.specs.Propose.{open_to, passes_of, nose_good, propose_of, pass_count, passes_in, Proposes}

-- ---- outside lines are good cuts

outside-to : (m j : ℕ) → j ≤ m → outside_to (replicate m 0) j ≡ true
unfolding outside_to
outside-to m zero h = refl
outside-to m (suc j) h = simp (outside-to m j (omega arith), get_or-replicate {A = ℕ} m j 0 0 h)

lines-good : (k : ℕ) → k ≤ pass_limit → cuts_good (replicate k 0) ≡ true
lines-good k h = simp (length-replicate {A = ℕ} k 0, le-leb k pass_limit h, outside-to k k (omega arith))

-- ---- no more than there may be

few-asked : (a b : Bool) (l : List Level) → length l ≤ pass_limit → length (passes_in (demand a 25 (demand b 5 (answers l)))) ≤ pass_limit
unfolding demand
few-asked false b l h = omega arith
few-asked true false l h = omega arith
few-asked true true l h = h

few-onward : (spec : TurnStockSpec) (cs ts : List Float) (rn : Float) (room : ℕ) (p : Paper ℕ) → length (passes_in (onward p (λ n. demand (targets_good ts n) 25 (demand (nose_good (clean_of rn)) 5 (answers (passes_of spec n cs ts rn room)))))) ≤ pass_limit
unfolding onward
few-onward spec cs ts rn room (refuses q) = omega arith
few-onward spec cs ts rn room (answers n) =
    let t = length-take (min pass_limit room) (open_to (clean_spec spec) n ts (clean_of rn) cs n).passes in
    few-asked (targets_good ts n) (nose_good (clean_of rn)) (passes_of spec n cs ts rn room) (omega arith)

pub few : (spec : TurnStockSpec) (cs ts : List Float) (rn : Float) (room : ℕ) → length (passes_in (propose_of spec cs ts rn room)) ≤ pass_limit
unfolding propose_of
few spec cs ts rn room = few-onward spec cs ts rn room (stock_of spec cs)

-- the count that is answered is that of the passes
counts : (p : Paper (List Level)) (k : ℕ) → answers k ≡ pass_count p → k ≡ length (passes_in p)
counts (answers l) k e = cc
counts (refuses q) k e = cc

-- ---- the first k kinds, where k passes were proposed
module _ (spec : TurnStockSpec) (cs ts : List Float) (rn : Float) (room k : ℕ) (ks ks' : List ℕ) (xs xs' : List Float) (ps ps' : List ℕ) (g : Proposes (propose_of spec cs ts rn room) (Ok k) ks ks' xs xs' ps ps') where
  count-is : k ≡ length (passes_in (propose_of spec cs ts rn room))
  count-is = counts (propose_of spec cs ts rn room) k g.answer

  -- are outside lines
  pub proposed-kinds : take k ks' ≡ replicate k 0
  unfolding over
  proposed-kinds = rw (g.kinds, ← count-is) (take_at (replicate k 0) (drop (length (replicate k 0)) ks) k (length-replicate k 0))

  -- and good cuts: no more than there may be, none inside
  pub proposed-outside : cuts_good (take k ks') ≡ true
  proposed-outside = rw proposed-kinds (lines-good k (let f = few spec cs ts rn room in let c = count-is in omega arith))

  -- cut j of them, whatever lists stand beside it
  pub proposed-line : (ls : Cuts) (j : ℕ) → ls.kinds ≡ take k ks' → j < k → pass_at ls j ≡ record { tool = Single (Line Outer (number_of ls j 0) (number_of ls j 1) (number_of ls j 2) (number_of ls j 3) (number_of ls j 4) (number_of ls j 5)); beside = [] }
  unfolding pass_at tool_of
  proposed-line ls j e h =
      let z : get_or ls.kinds j 0 ≡ 0 = ap (λ (l : List ℕ). get_or l j 0) (e ∙ proposed-kinds) ∙ get_or-replicate {A = ℕ} k j 0 0 h in
      rw z (pick-false _ _ _ refl ∙ ap (λ (t : Tool). record { tool = t; beside = [] }) (pick_true _ _ _ refl))
