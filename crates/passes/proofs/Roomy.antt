-- A preview with room for a change in every cell is that with the most room. Assumes nothing.
use mathlib.Core.Path.{◌≡◌, refl, sym, ap, ◌∙◌}
use mathlib.Core.Bool.{not}
use mathlib.Core.List.{List}
use Prim.Native.Nat.{ℕ, ◌*◌, ◌≤◌, min}
use native.Mathlib.Omega.{arith}
use lib.Dec.{leb}
use lib.ListN.{length}
use lib.Ieee.{Float}
use borrow.Author.Tests.{le-leb}
use Rattle.refusals.specs.Paper.{Paper, answers, refuses, demand, onward, demand-true}
use Rattle.refusals.specs.Limits.{cell_limit}
use Rattle.stock.specs.declared.TurnStockSpec.{TurnStockSpec}
use Rattle.stock.specs.declared.TurnChange.{TurnChange}
use Rattle.stock.specs.Spec.{clean_spec}
use Rattle.stock.specs.Cell.{stock_of}
use Rattle.stock.proofs.Count.{stocked, checked, stock-length}
use Rattle.reach.specs.Reach.{Act, act_cell}
use Rattle.nose.specs.Nose.{segments_good, nose_act}
use Rattle.polygon.specs.Polygon.{polygon_good, polygon_act}
use Rattle.changes.specs.Change.{changes_to, settled}
use Rattle.changes.proofs.Rising.{at_most}
use Rattle.cuts.specs.Cut.{clean_cut, cut_good, is_arc, cut_act}
use Rattle.cuts.specs.Preview.{proposed, preview_of, preview_cut}
use Rattle.cuts.specs.declared.Tool.{Tool}
use Rattle.cuts.specs.declared.Tool.TheVariants.{Single, Nose, Polygon}
use Rattle.cuts.specs.Tool.{preview_tool}

settled_same : (a b : ℕ) (l : List TurnChange) → length l ≤ a → length l ≤ b → settled a l ≡ settled b l
settled_same a b l h k = demand-true (leb (length l) a) 6 (answers l) (le-leb (length l) a h) ∙ sym (demand-true (leb (length l) b) 6 (answers l) (le-leb (length l) b k))

module _ (spec : TurnStockSpec) (cs : List Float) (room : ℕ) (h : min (length cs) (4 * cell_limit) ≤ 4 * room) where
  changes-same : (a : Act) (n : ℕ) → stock_of spec cs ≡ answers n → proposed a cs room n ≡ proposed a cs cell_limit n
  changes-same a n e =
      let m = at_most (act_cell a) cs n in
      let f = (checked spec n (stocked spec cs n e).count).few in
      let s = stock-length spec cs n e in
      settled_same room cell_limit (changes_to (act_cell a) cs n) (omega arith) (omega arith)

  onward-same : (p : Paper ℕ) → stock_of spec cs ≡ p → (f g : ℕ → Paper (List TurnChange)) → ((n : ℕ) → stock_of spec cs ≡ answers n → f n ≡ g n) → onward p f ≡ onward p g
  unfolding onward
  onward-same (answers n) e f g k = k n e
  onward-same (refuses r) e f g k = refl

  -- of each tool
  pub room-same : (t : Tool) (ys : List Float) → preview_tool spec cs t ys room ≡ preview_tool spec cs t ys cell_limit
  unfolding preview_tool preview_cut preview_of
  room-same (Single cut) ys =
      let u = clean_cut cut in
      onward-same (stock_of spec cs) refl _ _ (λ n e. ap (λ (p : Paper (List TurnChange)). demand (not (is_arc u)) 13 (demand (cut_good u) 5 p)) (changes-same (cut_act (clean_spec spec) u) n e))
  room-same (Nose side rn) ys =
      onward-same (stock_of spec cs) refl _ _ (λ n e. ap (λ (p : Paper (List TurnChange)). demand (segments_good rn ys) 5 p) (changes-same (nose_act (clean_spec spec) side rn ys) n e))
  room-same (Polygon side excess) ys =
      onward-same (stock_of spec cs) refl _ _ (λ n e. ap (λ (p : Paper (List TurnChange)). demand (polygon_good ys excess) 5 p) (changes-same (polygon_act (clean_spec spec) side excess ys) n e))
