-- Both bounds of the volume, one bin, one ring or one sum further, as the loops go. Assumes nothing.
use mathlib.Core.Path.{◌≡◌, sym, ap, ap₂, ◌∙◌}
use mathlib.Core.Bool.{true, false}
use mathlib.Core.List.{List}
use Prim.Native.Nat.{ℕ, ◌+◌}
use native.Mathlib.Numerals.{add-one}
use lib.Ieee.{Float, le}
use Rattle.refusals.specs.Paper.{answers, demand-true, onward-answers}
use Rattle.floats.specs.Pick.{pick_true, pick-false}
use Rattle.floats.specs.Numbers.{◌+₆₄◌, ◌-₆₄◌, zero64, least_of, greatest_of}
use Rattle.stock.specs.declared.TurnStockSpec.{TurnStockSpec}
use Rattle.stock.specs.declared.TurnCell.{TurnCell}
use Rattle.stock.specs.declared.ZRange.{ZRange}
use Rattle.stock.specs.Spec.{clean_spec}
use Rattle.stock.specs.Bin.{bin_of}
use Rattle.stock.specs.Cell.{cell_at, stock_of}
use Rattle.rings.specs.declared.Ring.{Ring}
use Rattle.rings.specs.Store.{bar_ring, ring_at, count_fits}
use Rattle.queries.specs.declared.Band.{Band}
use Rattle.queries.specs.declared.Volumes.{Volumes}
use Rattle.queries.specs.Material.{sure_of, most_of}
use Rattle.queries.specs.Volume.{held_in, height_of, less_band, less_in, sum_of, less_ring, less_rings, remains, volume_of}
use Rattle.queries.specs.Pass.{sums_of, less_bin, less_bins, less_all}

abbrev both : Float → Float → Volumes
both a b = record { least = a; greatest = b }

pub same-volumes : {a b a' b' : Float} → a ≡ a' → b ≡ b' → both a b ≡ both a' b'
same-volumes p q = λ i. both (p i) (q i)

-- ---- one band in one bin
-- a height of 0 or less
skipped : (b : Band) (z : ZRange) (q : Ring) (v : Float) → le (height_of z q) zero64 ≡ true → v ≡ less_in b z q v
unfolding less_in
skipped b z q v e = sym (pick_true _ _ _ e)

-- a height above 0
reached : (b : Band) (z : ZRange) (q : Ring) (v : Float) → le (height_of z q) zero64 ≡ false → less_band b q (height_of z q) v ≡ less_in b z q v
unfolding less_in
reached b z q v e = sym (pick-false _ _ _ e)

-- ---- of one stock
module _ (s : TurnStockSpec) (cs : List Float) where
  -- a bin and its bands summed
  module _ (of : TurnCell → Band) (i : ℕ) (v x : Float) (c : TurnCell) (b : Band) (z : ZRange) where
    pub sum_more : v ≡ sum_of of s cs i → c ≡ cell_at cs i → b ≡ of c → z ≡ bin_of s i → x ≡ held_in b z → v +₆₄ x ≡ sum_of of s cs (i + 1)
    unfolding sum_of
    sum_more ev ec eb ez ex =
        ap₂ (λ (a d : Float). a +₆₄ d) ev (ex ∙ ap₂ held_in (eb ∙ ap of ec) ez) ∙ ap (sum_of of s cs) (sym (add-one i))

  -- a bin's height in common with a ring
  module _ (q : Ring) (i : ℕ) (v : Volumes) (z : ZRange) (l g : Float) (ez : z ≡ bin_of s i) (el : l ≡ least_of z.zb q.z1) (eg : g ≡ greatest_of z.za q.z0) where
    height : height_of (bin_of s i) q ≡ l -₆₄ g
    height = sym (ap₂ (λ (a b : Float). a -₆₄ b) (el ∙ ap (λ (y : ZRange). least_of y.zb q.z1) ez) (eg ∙ ap (λ (y : ZRange). greatest_of y.za q.z0) ez))

    -- a bin without one is passed over
    pub bin-skipped : le (l -₆₄ g) zero64 ≡ true → v ≡ less_bin s cs q i v
    bin-skipped e =
        let t = ap (λ (h : Float). le h zero64) height ∙ e in
        same-volumes (skipped (sure_of (cell_at cs i)) (bin_of s i) q v.least t) (skipped (most_of (cell_at cs i)) (bin_of s i) q v.greatest t)

    -- a bin with one loses it from both bounds
    pub bin-less : (c : TurnCell) (b d : Band) (x y : Float) → le (l -₆₄ g) zero64 ≡ false → c ≡ cell_at cs i → b ≡ sure_of c → d ≡ most_of c
        → x ≡ less_band b q (l -₆₄ g) v.least → y ≡ less_band d q (l -₆₄ g) v.greatest → both x y ≡ less_bin s cs q i v
    bin-less c b d x y e ec eb ed ex ey =
        let t = ap (λ (h : Float). le h zero64) height ∙ e in
        same-volumes
        (ex ∙ ap₂ (λ (k : Band) (h : Float). less_band k q h v.least) (eb ∙ ap sure_of ec) (sym height) ∙ reached (sure_of (cell_at cs i)) (bin_of s i) q v.least t)
        (ey ∙ ap₂ (λ (k : Band) (h : Float). less_band k q h v.greatest) (ed ∙ ap most_of ec) (sym height) ∙ reached (most_of (cell_at cs i)) (bin_of s i) q v.greatest t)

  -- one bin more
  pub bin-more : (q : Ring) (v l w : Volumes) (i : ℕ) → l ≡ less_bins s cs q v i → w ≡ less_bin s cs q i l → w ≡ less_bins s cs q v (i + 1)
  unfolding less_ring
  bin-more q v l w i el ew = ew ∙ ap (less_bin s cs q i) el ∙ ap (less_bins s cs q v) (sym (add-one i))

  -- one ring more
  pub ring-more : (n : ℕ) (xs : List Float) (q : Ring) (v l w : Volumes) (k : ℕ) → l ≡ less_all s cs n xs v k → q ≡ ring_at xs k → w ≡ less_bins s cs q l n → w ≡ less_all s cs n xs v (k + 1)
  unfolding less_rings
  ring-more n xs q v l w k el eq ew = ew ∙ ap₂ (λ (p : Ring) (u : Volumes). less_bins s cs p u n) eq el ∙ ap (less_all s cs n xs v) (sym (add-one k))

-- ---- the whole
pub measured : (spec : TurnStockSpec) (cs xs : List Float) (k n : ℕ) (s : TurnStockSpec) (all left : Volumes) (a b : Float)
    → stock_of spec cs ≡ answers n → count_fits (bar_ring (clean_spec spec)) xs k ≡ true
    → s ≡ clean_spec spec → all ≡ sums_of s cs n → left ≡ less_all s cs n xs all k → a ≡ greatest_of left.least zero64 → b ≡ greatest_of left.greatest zero64
    → answers (both a b) ≡ volume_of spec cs xs k
unfolding volume_of remains
measured spec cs xs k n s all left a b es ef ec ea el eu ev =
    let m : left ≡ less_all (clean_spec spec) cs n xs (sums_of (clean_spec spec) cs n) k = el ∙ ap₂ (λ (t : TurnStockSpec) (u : Volumes). less_all t cs n xs u k) ec (ea ∙ ap (λ (t : TurnStockSpec). sums_of t cs n) ec) in
    sym (rw (es, onward-answers) (demand-true _ _ _ ef ∙ ap answers (sym (same-volumes (eu ∙ ap (λ (u : Volumes). greatest_of u.least zero64) m) (ev ∙ ap (λ (u : Volumes). greatest_of u.greatest zero64) m)))))
