-- What an accepted move says of its rule, and what it leaves. Assumes nothing.
use mathlib.Core.Path.{◌≡◌, refl, sym, ap, ◌∙◌}
use mathlib.Core.Bool.{true, ◌||◌}
use mathlib.Core.List.{List, map, Permᴰ}
use Prim.Native.Nat.{ℕ, ◌+◌, ◌/◌, ◌≤◌}
use native.Mathlib.Omega.{arith}
use borrow.Author.Tests.{leb-true}
use lib.ListN.{length}
use lib.Ieee.{Float}
use Rattle.refusals.specs.Paper.{answers}
use Rattle.refusals.specs.Limits.{last_generation}
use Rattle.floats.specs.Pick.{pick}
use Rattle.stock.specs.declared.TurnStock.{TurnStock}
use Rattle.stock.specs.Stock.{same_stamp}
use Rattle.changes.specs.declared.ChangeList.{ChangeList}
use Rattle.stock.specs.Spec.{clean_spec}
use Rattle.stock.specs.Cell.{stock_of}
use Rattle.stock.proofs.Count.{demanded, checked, stocked}
use Rattle.blocks.specs.Block.{matches_of}
use Rattle.changes.specs.Change.{room_of, changes_from}
use Rattle.rings.specs.declared.Ring.{Ring}
use Rattle.rings.specs.Ring.{covered, filled, clip}
use Rattle.rings.specs.Points.{Disjoint}
use Rattle.rings.specs.Store.{bar_ring, rings_of, store_as, store_fits, count_fits, rings_good, raised_by}
use Rattle.rings.specs.Remove.{remove_rings}
use Rattle.rings.proofs.Flat.{rings-stored}
use Rattle.rings.proofs.Fitting.{store-disjoint}
use Rattle.rings.proofs.Taken.{rings-pass, rings-pass-again, rings-cover, rings-either-order}
use Rattle.changes.specs.Commit.{pass_all, put_all}
use Rattle.moves.specs.Move.{Left, generation_after, move_of}
use Rattle.moves.proofs.Answered.{answered}
use Rattle.moves.proofs.Taking.{taken_in}
use Rattle.moves.proofs.Cells.{passed-stock}

-- ---- lent rings that pass refusal 4's test at the front of a list
-- no two of them share a point
pub passed-disjoint : (e : Ring) (xs : List Float) (l : List Ring) → count_fits e (store_as xs l) (length l) ≡ true → Disjoint l
passed-disjoint e xs l f = store-disjoint e l (sym (ap (store_fits e) (rings-stored xs l)) ∙ rings-pass e (store_as xs l) (length l) f)

-- ---- a move
-- what an accepted move says of the rule
pub record Taken (stock : TurnStock) (cs bs xs : List Float) (list : ChangeList) (is : List ℕ) (ys : List Float) (removed : List Float) (a : Left) : Type 0 where
  pub bins : ℕ
  pub counted : stock_of stock.spec cs ≡ answers bins
  pub room : list.count ≤ room_of (length is) (length ys)
  pub fits : count_fits (bar_ring (clean_spec stock.spec)) xs stock.rings ≡ true
  pub own : same_stamp list.stamp stock.stamp ≡ true
  pub matched : matches_of (clean_spec stock.spec) bins cs bs ≡ true
  pub good : rings_good removed ≡ true
  pub pass : pass_all (clean_spec stock.spec) bins cs (changes_from is ys list.count) ≡ answers tt
  pub last : generation_after stock.spec stock.stamp.generation removed ≤ last_generation
  pub rule : remove_rings stock.spec xs stock.rings removed ≡ answers a.rings
  pub cells : a.cells ≡ put_all cs (changes_from is ys list.count)
  pub rises : a.generation ≡ generation_after stock.spec stock.stamp.generation removed

-- a turn of the rings keeps how many are not empty after clipping
pub raised-turns : (e : Ring) {l m : List Ring} → Permᴰ l m → raised_by e l ≡ raised_by e m
unfolding raised_by
raised-turns e Permᴰ.nil = refl
raised-turns e (Permᴰ.cons {b = b} {l₁ = l} q d) = ap (λ (p : Ring). pick (filled (clip e p)) 1 0 + raised_by e l) q ∙ ap (λ (n : ℕ). pick (filled (clip e b)) 1 0 + n) (raised-turns e d)
raised-turns e (Permᴰ.swap {a = a} {b = b} {a' = a'} {l = l} p q) =
    swap (pick (filled (clip e a)) 1 0) (pick (filled (clip e b)) 1 0) (raised_by e l) ∙ ap (λ (x : Ring). pick (filled (clip e x)) 1 0 + (pick (filled (clip e a)) 1 0 + raised_by e l)) q
    ∙ ap (λ (x : Ring). pick (filled (clip e a')) 1 0 + (pick (filled (clip e x)) 1 0 + raised_by e l)) p
  where
    swap : (x y w : ℕ) → x + (y + w) ≡ y + (x + w)
    swap x y w = omega arith
raised-turns e (Permᴰ.trans d d') = raised-turns e d ∙ raised-turns e d'

module _ (stock : TurnStock) (cs bs xs : List Float) (list : ChangeList) (is : List ℕ) (ys : List Float) where
  pub taken : (removed : List Float) (a : Left) → move_of stock cs bs xs list is ys removed ≡ answers a → Taken stock cs bs xs list is ys removed a
  unfolding move_of
  taken removed a h =
      let s = answered _ _ _ h in
      let d6 = demanded _ _ _ _ s.then in
      let t = taken_in stock s.value cs bs xs list.stamp (changes_from is ys list.count) removed a d6.1 in
      record {
        bins = s.value;
        counted = s.first;
        room = leb-true list.count (room_of (length is) (length ys)) d6.0;
        fits = t.fits;
        own = t.own;
        matched = t.matched;
        good = t.good;
        pass = t.pass;
        last = t.last;
        rule = t.rule;
        cells = t.cells;
        rises = t.rises;
      }

  module _ (removed : List Float) (a : Left) (h : move_of stock cs bs xs list is ys removed ≡ answers a) where
    -- the stock afterwards has as many cells, and they fit
    pub move-stock : stock_of stock.spec a.cells ≡ stock_of stock.spec cs
    move-stock =
        let t = taken removed a h in
        ap (stock_of stock.spec) t.cells ∙ passed-stock stock.spec cs t.bins (changes_from is ys list.count) t.counted t.pass ∙ sym t.counted

    -- its rings pass refusal 4's test again
    pub move-passes : count_fits (bar_ring (clean_spec stock.spec)) (store_as xs a.rings) (length a.rings) ≡ true
    move-passes =
        let t = taken removed a h in
        rings-pass-again stock.spec xs stock.rings t.fits removed a.rings (checked stock.spec t.bins (stocked stock.spec cs t.bins t.counted).count).good t.good t.rule

    -- no two of them share a point
    pub move-disjoint : Disjoint a.rings
    move-disjoint = passed-disjoint (bar_ring (clean_spec stock.spec)) xs a.rings move-passes

    -- they cover what was covered and what the clipped rings of the move cover, and nothing else
    pub move-covers : (z r : Float) → covered a.rings z r ≡ (covered (rings_of stock.rings xs) z r || covered (map (clip (bar_ring (clean_spec stock.spec))) (rings_of (length removed / 4) removed)) z r)
    move-covers = let t = taken removed a h in rings-cover stock.spec xs stock.rings t.fits removed a.rings t.rule

  -- two orders of the rings of a move, both accepted: the same cells, the same generation, and the same points covered
  module _ (removed removed' : List Float) (a a' : Left) (turn : Permᴰ (rings_of (length removed / 4) removed) (rings_of (length removed' / 4) removed')) (h : move_of stock cs bs xs list is ys removed ≡ answers a) (h' : move_of stock cs bs xs list is ys removed' ≡ answers a') where
    pub either-cells : a.cells ≡ a'.cells
    either-cells = (taken removed a h).cells ∙ sym (taken removed' a' h').cells

    pub either-generation : a.generation ≡ a'.generation
    unfolding generation_after
    either-generation = (taken removed a h).rises ∙ ap (λ (n : ℕ). stock.stamp.generation + 1 + n) (raised-turns (bar_ring (clean_spec stock.spec)) turn) ∙ sym (taken removed' a' h').rises

    pub either-covers : (z r : Float) → covered a.rings z r ≡ covered a'.rings z r
    either-covers = rings-either-order stock.spec xs stock.rings (taken removed a h).fits removed removed' a.rings a'.rings turn (taken removed a h).rule (taken removed' a' h').rule
