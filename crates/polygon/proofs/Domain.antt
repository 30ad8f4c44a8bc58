-- In 01's domain, on a stock that is not refused, every number that a polygon reaches in a bin is finite and not -0.0. Assumes nothing.
use mathlib.Core.Path.{◌≡◌}
use mathlib.Core.Bool.{true}
use mathlib.Core.List.{List}
use Prim.Native.Nat.{ℕ, ◌<◌}
use lib.Dec.{T}
use lib.Ieee.{Float, binary64, fits}
use Rattle.floats.specs.Kinds.{Plain, Finite}
use Rattle.floats.proofs.Within.{finite-within}
use Rattle.stock.specs.declared.TurnStockSpec.{TurnStockSpec}
use Rattle.stock.specs.declared.TurnSide.{TurnSide}
use Rattle.stock.specs.Spec.{clean_spec}
use Rattle.stock.proofs.Count.{Checked}
use Rattle.stock.proofs.Bins.{Sized, HeldSpec, HeldList, bin-within}
use Rattle.reach.specs.Kinds.{ReachOf}
use Rattle.reach.proofs.Reaches.{reach-map}
use Rattle.polygon.specs.Polygon.{polygon_good, polygon_act}
use Rattle.polygon.proofs.Plain.{polygon-sized}

module _ {spec : TurnStockSpec} {n : ℕ} (held : HeldSpec spec) (ok : Checked spec n) (ps : List Float) (excess : Float) (held-points : HeldList ps) (held-excess : T (fits binary64 excess)) (good : polygon_good ps excess ≡ true) (side : TurnSide) (i : ℕ) (below : i < n) where
  reached : ReachOf (Sized 23) ((polygon_act (clean_spec spec) side excess ps).at i)
  reached = polygon-sized ps excess held-points held-excess good side (clean_spec spec) i (finite-within (bin-within held ok i below).za.within) (finite-within (bin-within held ok i below).zb.within)

  -- no NaN and no -0.0
  pub polygon-plain : ReachOf (Plain binary64) ((polygon_act (clean_spec spec) side excess ps).at i)
  polygon-plain = reach-map (λ x w. w.plain) ((polygon_act (clean_spec spec) side excess ps).at i) reached

  -- no infinity either
  pub polygon-finite : ReachOf (Finite binary64) ((polygon_act (clean_spec spec) side excess ps).at i)
  polygon-finite = reach-map (λ x w. finite-within w.within) ((polygon_act (clean_spec spec) side excess ps).at i) reached
