-- PROPOSED PASSES ARE ACCEPTED (Req 13), as far as that is promised: a proposed cut whose numbers are at most 1e6 in size is in its domain (`proposed-inside`), so that a check does not name it while generations last (`proposed-accepted`).
-- That a proposal is a list of outside lines, no more than there may be, and so never refused with 25, has crate `passes` (proofs/Proposed). Assumes nothing.
use Rattle.std.specs.Prelude.{Ok}
use mathlib.Core.Path.{◌≡◌, refl, sym, ap, ◌∙◌, subst}
use mathlib.Core.Bool.{true}
use mathlib.Core.List.{List, [], ◌∷◌, ◌++◌}
use Prim.Native.Nat.{ℕ, zero, suc, ◌+◌, ◌*◌, ◌<◌, min}
use native.Mathlib.Nat.{not-suc-le-zero, le_of_suc-le-suc}
use native.Mathlib.Omega.{arith}
use borrow.Author.Tests.{lt-ltb}
use lib.ListN.{length, get_or, take, drop, get_or-append}
use lib.Seq.{get_or-append-add}
use lib.Ieee.{Float, of_bits, nan, le}
use Rattle.refusals.specs.Paper.{Paper, answers, refuses, demand, demand-true}
use Rattle.refusals.specs.Limits.{last_generation}
use Rattle.refusals.specs.Lent.{over}
use Rattle.floats.specs.Each.{Each}
use Rattle.floats.specs.Numbers.{zero64, clean_of, usable}
use Rattle.floats.proofs.Folds.{each_append, each_at}
use Rattle.stock.specs.declared.TurnStockSpec.{TurnStockSpec}
use Rattle.stock.specs.declared.TurnSide.TheVariants.{Outer}
use Rattle.stock.specs.Spec.{clean_spec}
use Rattle.stock.specs.Cell.{number_at, stock_of}
use Rattle.stock.proofs.Count.{no_answer, same_answer, demanded, and_both}
use Rattle.stock.proofs.Bins.{HeldSpec}
use Rattle.nose.specs.Nose.{segment_good, good_to, segments_good}
use Rattle.changes.specs.Commit.{Committed}
use Rattle.changes.proofs.Stocks.{Good}
use Rattle.cuts.specs.declared.Cut.TheVariants.{Line}
use Rattle.cuts.specs.declared.Tool.TheVariants.{Single}
use Rattle.cuts.specs.Cut.{clean_cut, cut_good}
use Rattle.cuts.specs.Tool.{tool_good}
use Rattle.moves.proofs.Answered.{answered}
use Rattle.passes.specs.Cuts.{Cuts, Pass, pass_limit, number_of, pass_at, pass_turned}
use Rattle.passes.specs.Check.{targets_good}
use Rattle.passes.specs.declared.propose.Level.{Level}
use Rattle.passes.specs.Propose.{pass_start, pass_end, level_over, levels_over, Open, last_of_run, with_bin, open_to, passes_of, nose_good, propose_of, pass_count, passes_in, six_of, sixes, Proposes}
use Rattle.passes.proofs.Levels.{length-sixes}
use Rattle.passes.proofs.Proposed.{proposed-line}
use Rattle.demands.proofs.PassesTurned.{HeldCuts, pick-by, cut-held, good-turned}

-- ---- every pass has the nose's radius that was asked for

each_take : {A : Type 0} (P : A → Type 0) (m : ℕ) (l : List A) → Each P l → Each P (take m l)
each_take P zero l ps = tt
each_take P (suc m) [] ps = tt
each_take P (suc m) (x ∷ l) ps = (ps.0, each_take P m l ps.1)

module _ (s : TurnStockSpec) (n : ℕ) (ts : List Float) (rn : Float) (cs : List Float) where
  abbrev Nosed : Level → Type 0
  Nosed p = p.rn ≡ rn

  over-nosed : (i j : ℕ) → Each Nosed (levels_over s n ts rn i j)
  over-nosed i j = pick-by (Each Nosed) (le (pass_start s ts rn i) (pass_end s n ts rn j)) (level_over s n ts rn i j ∷ []) [] (λ _. (refl, tt)) (λ _. tt)

  bin-nosed : (o : Open) (i : ℕ) → Each Nosed o.passes → Each Nosed (with_bin s n ts rn cs o i).passes
  unfolding with_bin
  bin-nosed o i ps =
      pick-by (λ (x : Open). Each Nosed x.passes) (last_of_run ts n i) _ _
      (λ _. each_append Nosed o.passes _ ps (pick-by (Each Nosed) _ (levels_over s n ts rn o.first i) [] (λ _. over-nosed o.first i) (λ _. tt)))
      (λ _. ps)

  all-nosed : (m : ℕ) → Each Nosed (open_to s n ts rn cs m).passes
  unfolding open_to
  all-nosed zero = tt
  all-nosed (suc m) = bin-nosed (open_to s n ts rn cs m) m (all-nosed m)

-- ---- a number of the list of sixes

abbrev no_level : Level
no_level = record { rn = nan; r = nan; a = nan; b = nan }

six-at : (l : List Level) (j i : ℕ) → i < 6 → j < length l → get_or (sixes l) (6 * j + i) nan ≡ get_or (six_of (get_or l j no_level)) i nan
unfolding sixes
six-at [] j i h g = absurd (not-suc-le-zero g)
six-at (p ∷ l) zero i h g = let z : 6 * 0 + i ≡ i = omega arith in ap (λ (x : ℕ). get_or (six_of p ++ sixes l) x nan) z ∙ get_or-append (six_of p) (sixes l) nan i h
six-at (p ∷ l) (suc j) i h g = let z : 6 * suc j + i ≡ 6 + (6 * j + i) = omega arith in ap (λ (x : ℕ). get_or (six_of p ++ sixes l) x nan) z ∙ get_or-append-add (six_of p) (sixes l) (6 * j + i) nan ∙ six-at l j i h (le_of_suc-le-suc g)

number-at : (l : List Level) (xs : List Float) (j i : ℕ) → i < 6 → j < length l → number_at (over (sixes l) xs) (6 * j + i) ≡ get_or (six_of (get_or l j no_level)) i nan
unfolding over
number-at l xs j i h g = let s = length-sixes l in get_or-append (sixes l) (drop (length (sixes l)) xs) nan (6 * j + i) (omega arith) ∙ six-at l j i h g

zero-least : le zero64 zero64 ≡ true
unfolding le of_bits
zero-least = refl

-- ---- a line of usable numbers, whose nose and sag are not below zero, is in its domain
line-good : (a b c d e f : Float) → usable a ≡ true → le zero64 a ≡ true → usable b ≡ true → le zero64 b ≡ true → usable c ≡ true → usable d ≡ true → usable e ≡ true → usable f ≡ true → tool_good (Single (Line Outer a b c d e f)) [] ≡ true
unfolding tool_good clean_cut cut_good segments_good good_to segment_good
line-good a b c d e f ua za ub zb uc ud ue uf = rw (ua, za, uc, ud, ue, uf, ub, zb)

-- ---- what a proposal that answered says

record Answers (spec : TurnStockSpec) (cs ts : List Float) (rn : Float) (room : ℕ) (l : List Level) : Type 0 where
  nose : le zero64 (clean_of rn) ≡ true
  each : Each (λ (p : Level). p.rn ≡ clean_of rn) l

answers_by : (spec : TurnStockSpec) (cs ts : List Float) (rn : Float) (room : ℕ) (l : List Level) → propose_of spec cs ts rn room ≡ answers l → Answers spec cs ts rn room l
unfolding propose_of
answers_by spec cs ts rn room l e =
    let w = answered (stock_of spec cs) (λ n. demand (targets_good ts n) 25 (demand (nose_good (clean_of rn)) 5 (answers (passes_of spec n cs ts rn room)))) l e in
    let n = w.value in
    let a = demanded (targets_good ts n) 25 _ l w.then in
    let b = demanded (nose_good (clean_of rn)) 5 (answers (passes_of spec n cs ts rn room)) l a.1 in
    record {
      nose = (and_both (usable (clean_of rn)) (le zero64 (clean_of rn)) b.0).1;
      each = subst (Each (λ (p : Level). p.rn ≡ clean_of rn)) (same_answer b.1) (each_take (λ (p : Level). p.rn ≡ clean_of rn) (min pass_limit room) (open_to (clean_spec spec) n ts (clean_of rn) cs n).passes (all-nosed (clean_spec spec) n ts (clean_of rn) cs n));
    }

counted : (p : Paper (List Level)) (k : ℕ) → answers k ≡ pass_count p → (l : List Level) × (p ≡ answers l) × (k ≡ length l)
counted (answers l) k e = (l, refl, same_answer e)
counted (refuses q) k e = absurd (no_answer q k (sym e))

-- ---- THE CUTS OF A PROPOSAL of k passes, as a check is handed them: the first k kinds, and the numbers
module _ (spec : TurnStockSpec) (cs ts : List Float) (rn : Float) (room k : ℕ) (ks ks' : List ℕ) (xs xs' : List Float) (ps ps' : List ℕ) (g : Proposes (propose_of spec cs ts rn room) (Ok k) ks ks' xs xs' ps ps')
    (ls : Cuts) (ek : ls.kinds ≡ take k ks') (en : ls.numbers ≡ xs') (j : ℕ) (h : j < k) where
  nose-sag : (le zero64 (number_of ls j 0) ≡ true) × (le zero64 (number_of ls j 1) ≡ true)
  nose-sag =
      let c = counted (propose_of spec cs ts rn room) k g.answer in
      let l = c.0 in
      let w = answers_by spec cs ts rn room l c.1 in
      let inside : j < length l = let q = c.2 in omega arith in
      let numbers : ls.numbers ≡ over (sixes l) xs = en ∙ g.numbers ∙ ap (λ (p : Paper (List Level)). over (sixes (passes_in p)) xs) c.1 in
      let at : (i : ℕ) → i < 6 → number_of ls j i ≡ get_or (six_of (get_or l j no_level)) i nan = λ i q. ap (λ (x : List Float). number_at x (6 * j + i)) numbers ∙ number-at l xs j i q inside in
      let nose : number_of ls j 0 ≡ clean_of rn = at 0 (omega arith) ∙ each_at (λ (p : Level). p.rn ≡ clean_of rn) l j no_level inside w.each in
      let sag : number_of ls j 1 ≡ zero64 = at 1 (omega arith) in
      (ap (le zero64) nose ∙ w.nose, ap (le zero64) sag ∙ zero-least)

  -- a cut whose numbers are at most 1e6 in size is in its domain
  pub proposed-inside : ((i : ℕ) → i < 6 → usable (number_of ls j i) ≡ true) → tool_good (pass_at ls j).tool (pass_at ls j).beside ≡ true
  proposed-inside u =
      let e = proposed-line spec cs ts rn room k ks ks' xs xs' ps ps' g ls j ek h in
      ap (λ (p : Pass). tool_good p.tool p.beside) e
      ∙ line-good (number_of ls j 0) (number_of ls j 1) (number_of ls j 2) (number_of ls j 3) (number_of ls j 4) (number_of ls j 5) (u 0 (omega arith)) nose-sag.0 (u 1 (omega arith)) nose-sag.1 (u 2 (omega arith)) (u 3 (omega arith)) (u 4 (omega arith)) (u 5 (omega arith))

  -- and on any cells that fit it is accepted while generations last
  pub proposed-accepted : (n : ℕ) (hs : HeldSpec spec) (hl : HeldCuts ls) (d : Committed) (b : Good spec n d.cells) → ((i : ℕ) → i < 6 → usable (number_of ls j i) ≡ true) → d.generation < last_generation → (d' : Committed) × (pass_turned spec (pass_at ls j) d ≡ answers d')
  proposed-accepted n hs hl d b u q = (_, good-turned spec n hs (pass_at ls j) (cut-held ls hl j) d b (proposed-inside u) ∙ demand-true _ _ _ (lt-ltb _ _ q))
