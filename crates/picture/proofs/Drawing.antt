-- What a bin shows, as the functions work it out. Assumes nothing.
use Prim.Native.Nat.{ℕ, ◌+◌, ◌-◌, ◌≤◌, ◌<◌}
use native.Mathlib.Omega.{arith}
use mathlib.Core.Path.{◌≡◌, refl, sym, ap, ap₂, ◌∙◌}
use mathlib.Core.Bool.{Bool, true, false, not, true≢false, false≢true}
use mathlib.Core.List.{List}
use lib.Ieee.{Float}
use borrow.Author.Tests.{lt-ltb, le-ltb}
use Rattle.floats.specs.Pick.{pick, pick_true, pick-false}
use Rattle.floats.specs.Numbers.{◌-₆₄◌}
use Rattle.stock.specs.declared.TurnCell.{TurnCell}
use Rattle.stock.specs.declared.TurnSide.{TurnSide}
use Rattle.stock.specs.declared.TurnSide.TheVariants.{Outer, Inner}
use Rattle.stock.specs.declared.TurnStockSpec.{TurnStockSpec}
use Rattle.stock.specs.declared.ZRange.{ZRange}
use Rattle.stock.specs.Bin.{bin_of}
use Rattle.stock.specs.Cell.{cell_at}
use Rattle.queries.specs.declared.Band.{Band}
use Rattle.picture.specs.declared.Look.{Look}
use Rattle.picture.specs.declared.Stretch.{Stretch}
use Rattle.picture.specs.Drawn.{common_of, band_of, metal_in, metal_at, looks_so, looks_at}
use Rattle.picture.specs.Steps.{long_of, bin_on, edge_of, far_end}

pub common-of : {x y u v r : Band} → x ≡ u → y ≡ v → r ≡ common_of x y → r ≡ common_of u v
common-of ex ey er = er ∙ ap₂ (λ (x y : Band). common_of x y) ex ey

-- a band, by the look that is known
pub band-at : {look known : Look} {r : Band} (a b : TurnCell) → look ≡ known → r ≡ band_of known a b → r ≡ band_of look a b
band-at a b e f = f ∙ ap (λ (l : Look). band_of l a b) (sym e)

pub band-known : {look known : Look} {r : Band} (a b : TurnCell) → look ≡ known → r ≡ band_of look a b → r ≡ band_of known a b
band-known a b e f = f ∙ ap (λ (l : Look). band_of l a b) e

pub metal-at : {x y : Band} {r : Bool} (z : ZRange) → x ≡ y → r ≡ metal_at z x → r ≡ metal_at z y
metal-at z e f = f ∙ ap (λ (b : Band). metal_at z b) e

pub gone-in : {x y : Band} → x ≡ y → not (metal_in x) ≡ not (metal_in y)
gone-in e = ap (λ (b : Band). not (metal_in b)) e

pub looks-so : {look known : Look} {r : Bool} (z : ZRange) (a b : TurnCell) → look ≡ known → r ≡ looks_so known z a b → r ≡ looks_so look z a b
looks-so z a b e f = f ∙ ap (λ (l : Look). looks_so l z a b) (sym e)

-- the look of bin j
pub looks-at : {r : Bool} (look : Look) (s : TurnStockSpec) (cs ds : List Float) (j : ℕ) (z : ZRange) (a b : TurnCell) → z ≡ bin_of s j → a ≡ cell_at cs j → b ≡ cell_at ds j
    → r ≡ looks_so look z a b → r ≡ looks_at look s cs ds j
looks-at look s cs ds j z a b ez ea eb er =
    er
    ∙ (ap (λ (x : ZRange). looks_so look x a b) ez
    ∙ (ap (λ (x : TurnCell). looks_so look (bin_of s j) x b) ea
    ∙ ap (λ (x : TurnCell). looks_so look (bin_of s j) (cell_at cs j) x) eb))

-- two answers that agree are the same
pub agree_same : (a b : Bool) → pick a b (not b) ≡ true → a ≡ b
unfolding pick
agree_same true true e = refl
agree_same true false e = absurd (false≢true e)
agree_same false true e = absurd (false≢true e)
agree_same false false e = refl

pub agree-other : (a b : Bool) → pick a b (not b) ≡ false → a ≡ b → ⊥
unfolding pick
agree-other true true e f = true≢false e
agree-other true false e f = true≢false f
agree-other false true e f = false≢true f
agree-other false false e f = true≢false e

-- ---- bin k of a stretch

pub bin-past : (side : TurnSide) (s : Stretch) (k n : ℕ) → n ≡ long_of s → n ≤ k → s.from ≡ bin_on side s k
unfolding bin_on
bin-past Outer s k n e h = sym (pick-false _ _ _ (le-ltb k (long_of s) (omega arith)))
bin-past Inner s k n e h = sym (pick-false _ _ _ (le-ltb k (long_of s) (omega arith)))

pub bin-outer : {side : TurnSide} (s : Stretch) (k n : ℕ) → side ≡ Outer → n ≡ long_of s → k < n → s.from + k ≡ bin_on side s k
unfolding bin_on
bin-outer s k n g e h = sym (ap (λ (x : TurnSide). bin_on x s k) g ∙ pick_true _ _ _ (lt-ltb k (long_of s) (omega arith)))

pub bin-inner : {side : TurnSide} (s : Stretch) (k n : ℕ) → side ≡ Inner → n ≡ long_of s → k < n → s.to - 1 - k ≡ bin_on side s k
unfolding bin_on
bin-inner s k n g e h = sym (ap (λ (x : TurnSide). bin_on x s k) g ∙ pick_true _ _ _ (lt-ltb k (long_of s) (omega arith)))

-- ---- its radius and its end, by the side that is known

module _ {side known : TurnSide} (s : Stretch) (k i : ℕ) (e : side ≡ known) (f : i ≡ bin_on side s k) where
  known-bin : i ≡ bin_on known s k
  known-bin = f ∙ ap (λ (x : TurnSide). bin_on x s k) e

  band-on : (look : Look) (cs ds : List Float) (a b : TurnCell) (r : Band) → a ≡ cell_at cs i → b ≡ cell_at ds i → r ≡ band_of look a b → r ≡ band_of look (cell_at cs (bin_on known s k)) (cell_at ds (bin_on known s k))
  band-on look cs ds a b r ea eb er =
      er
      ∙ (ap₂ (λ (x y : TurnCell). band_of look x y) ea eb
      ∙ ap (λ (x : ℕ). band_of look (cell_at cs x) (cell_at ds x)) known-bin)

  bin-on : (spec : TurnStockSpec) (z : ZRange) → z ≡ bin_of spec i → z ≡ bin_of spec (bin_on known s k)
  bin-on spec z g = g ∙ ap (bin_of spec) known-bin

module _ {side : TurnSide} (look : Look) (cs ds : List Float) (s : Stretch) (k i : ℕ) (a b : TurnCell) (r : Band) (f : i ≡ bin_on side s k) (ea : a ≡ cell_at cs i) (eb : b ≡ cell_at ds i) (er : r ≡ band_of look a b) where
  pub edge-outer : side ≡ Outer → r.outer ≡ edge_of look side cs ds s k
  unfolding edge_of
  edge-outer e = ap (λ (x : Band). x.outer) (band-on s k i e f look cs ds a b r ea eb er) ∙ ap (λ (x : TurnSide). edge_of look x cs ds s k) (sym e)

  pub edge-inner : side ≡ Inner → r.bore ≡ edge_of look side cs ds s k
  unfolding edge_of
  edge-inner e = ap (λ (x : Band). x.bore) (band-on s k i e f look cs ds a b r ea eb er) ∙ ap (λ (x : TurnSide). edge_of look x cs ds s k) (sym e)

module _ {side : TurnSide} (spec : TurnStockSpec) (s : Stretch) (k i : ℕ) (z : ZRange) (f : i ≡ bin_on side s k) (g : z ≡ bin_of spec i) where
  pub far-outer : side ≡ Outer → z.zb -₆₄ spec.z_min_mm ≡ far_end side spec s k
  unfolding far_end
  far-outer e = ap (λ (x : ZRange). x.zb -₆₄ spec.z_min_mm) (bin-on s k i e f spec z g) ∙ ap (λ (x : TurnSide). far_end x spec s k) (sym e)

  pub far-inner : side ≡ Inner → z.za -₆₄ spec.z_min_mm ≡ far_end side spec s k
  unfolding far_end
  far-inner e = ap (λ (x : ZRange). x.za -₆₄ spec.z_min_mm) (bin-on s k i e f spec z g) ∙ ap (λ (x : TurnSide). far_end x spec s k) (sym e)
