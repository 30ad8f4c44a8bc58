-- A cut of a cell that fits leaves a cell that fits, and adds no material. One law for both sides. Assumes nothing.
use lib.Dec.{T}
use lib.Ieee.{Float, binary64, le}
use Rattle.floats.specs.Kinds.{Number, Plain}
use Rattle.floats.proofs.Order.{number-of, le-self}
use Rattle.stock.specs.declared.TurnStockSpec.{TurnStockSpec}
use Rattle.stock.specs.declared.TurnCell.{TurnCell}
use Rattle.stock.specs.declared.TurnSide.{TurnSide}
use Rattle.stock.specs.declared.TurnSide.TheVariants.{Outer, Inner}
use Rattle.reach.specs.declared.Reach.{Reach}
use Rattle.reach.specs.declared.Reach.TheVariants.{Passed, Low, Both}
use Rattle.reach.specs.Reach.{deeper, shallower, deep_of, sure_of, limit_of, with_pair, own_of, cut_by, cut_cell}
use Rattle.reach.specs.Kinds.{PlainReach, AsDeep}
use Rattle.reach.proofs.Sides.{deep-self, deep-trans, deeper-l, deeper-r, deeper-over, deeper-plain, deeper-is, shallower-r, shallower-plain, Ordered}
use Rattle.reach.proofs.Fit.{CellFit}

abbrev P : Float → Type 0
P = Plain binary64

-- nothing is added: outer bounds only fall, inner bounds only rise
pub record Removes (c c' : TurnCell) : Type 0 where
  pub outer-upper : T (le c'.outer.upper_mm c.outer.upper_mm)
  pub outer-lower : T (le c'.outer.lower_mm c.outer.lower_mm)
  pub inner-lower : T (le c.inner.lower_mm c'.inner.lower_mm)
  pub inner-upper : T (le c.inner.upper_mm c'.inner.upper_mm)

-- ---- a cell that fits, seen from a side

-- where a side's cuts end at the latest: the bore outside, the outer radius inside
core_of : TurnSide → TurnStockSpec → Float
core_of Outer s = s.bore_radius_mm
core_of Inner s = s.outer_radius_mm

-- and where the uncut surface lies
skin_of : TurnSide → TurnStockSpec → Float
skin_of Outer s = s.outer_radius_mm
skin_of Inner s = s.bore_radius_mm

record SideFit (s : TurnStockSpec) (σ : TurnSide) (d u : Float) : Type 0 where
  deep : P d
  sure : P u
  end : AsDeep σ (core_of σ s) d
  order : AsDeep σ d u
  start : AsDeep σ u (skin_of σ s)

side-fit : (s : TurnStockSpec) (σ : TurnSide) (c : TurnCell) → CellFit s c → SideFit s σ (deep_of σ c) (sure_of σ c)
unfolding AsDeep deep_of sure_of core_of skin_of
side-fit s Outer c f = record { deep = f.outer.lower; sure = f.outer.upper; end = f.outer.from-bore; order = f.outer.in_order; start = f.outer.to-outer }
side-fit s Inner c f = record { deep = f.inner.upper; sure = f.inner.lower; end = f.inner.to-outer; order = f.inner.in_order; start = f.inner.from-bore }

core-number : (s : TurnStockSpec) (σ : TurnSide) (c : TurnCell) → CellFit s c → Number binary64 (core_of σ s)
unfolding core_of
core-number s Outer c f = f.bore
core-number s Inner c f = f.bar

skin-number : (s : TurnStockSpec) (σ : TurnSide) (c : TurnCell) → CellFit s c → Number binary64 (skin_of σ s)
unfolding skin_of
skin-number s Outer c f = f.bar
skin-number s Inner c f = f.bore

limit-plain : (s : TurnStockSpec) (σ : TurnSide) (c : TurnCell) → CellFit s c → P (limit_of σ c)
unfolding limit_of
limit-plain s Outer c f = f.inner.lower
limit-plain s Inner c f = f.outer.upper

-- floor and ceiling lie within the bar
core-limit : (s : TurnStockSpec) (σ : TurnSide) (c : TurnCell) → CellFit s c → AsDeep σ (core_of σ s) (limit_of σ c)
unfolding AsDeep core_of limit_of
core-limit s Outer c f = f.inner.from-bore
core-limit s Inner c f = f.outer.to-outer

-- its pair on a side is plain and in order
pub ordered : (s : TurnStockSpec) (σ : TurnSide) (c : TurnCell) → CellFit s c → Ordered σ c
ordered s σ c f =
    let F = side-fit s σ c f in
    record { deep = F.deep; sure = F.sure; limit = limit-plain s σ c f; order = deeper-is σ F.deep F.sure F.order }

-- ---- the pair after a cut
record Taken (s : TurnStockSpec) (σ : TurnSide) (d u d' u' : Float) : Type 0 where
  fit : SideFit s σ d' u'
  deep : AsDeep σ d' d
  sure : AsDeep σ u' u

module _ (s : TurnStockSpec) (σ : TurnSide) {d u l : Float} (core : Number binary64 (core_of σ s)) (skin : Number binary64 (skin_of σ s)) (F : SideFit s σ d u) (L : P l) (h : AsDeep σ (core_of σ s) l) where
  -- an own bound lies within the bar
  own-end : {x : Float} → P x → AsDeep σ (core_of σ s) (shallower σ x l)
  own-end p = deep-trans σ core (number-of L) (number-of (shallower-plain σ p L)) h (shallower-r (number-of p) (number-of L) σ)

  taken-low : {x : Float} → P x → Taken s σ d u (deeper σ d (shallower σ x l)) u
  taken-low p =
      let X = shallower-plain σ p L in
      let nd = number-of F.deep in
      let nx = number-of X in
      let D = deeper-plain σ F.deep X in
      let under = deeper-l nd nx σ in
      record {
        fit = record { deep = D; sure = F.sure; end = deeper-over nd nx σ core F.end (own-end p); order = deep-trans σ (number-of D) nd (number-of F.sure) under F.order; start = F.start };
        deep = under;
        sure = deep-self σ (number-of F.sure);
      }

  taken-both : {x y : Float} → P x → P y → Taken s σ d u (deeper σ (deeper σ d (shallower σ x l)) (deeper σ u (shallower σ y l))) (deeper σ u (shallower σ y l))
  taken-both p q =
      let X = shallower-plain σ p L in
      let Y = shallower-plain σ q L in
      let nd = number-of F.deep in
      let nu = number-of F.sure in
      let U = deeper-plain σ F.sure Y in
      let W = deeper-plain σ F.deep X in
      let D = deeper-plain σ W U in
      let above = deeper-l nu (number-of Y) σ in
      let end-u = deeper-over nu (number-of Y) σ core (deep-trans σ core nd nu F.end F.order) (own-end q) in
      let end-w = deeper-over nd (number-of X) σ core F.end (own-end p) in
      record {
        fit = record {
          deep = D;
          sure = U;
          end = deeper-over (number-of W) (number-of U) σ core end-w end-u;
          order = deeper-r (number-of W) (number-of U) σ;
          start = deep-trans σ (number-of U) nu skin above F.start;
        };
        deep = deep-trans σ (number-of D) (number-of W) nd (deeper-l (number-of W) (number-of U) σ) (deeper-l nd (number-of X) σ);
        sure = above;
      }

-- ---- the cell with that pair
pub record Cuts (s : TurnStockSpec) (c c' : TurnCell) : Type 0 where
  pub fit : CellFit s c'
  pub removes : Removes c c'

cut-with : (s : TurnStockSpec) (σ : TurnSide) (c : TurnCell) (d u : Float) → CellFit s c → Taken s σ (deep_of σ c) (sure_of σ c) d u → Cuts s c (with_pair σ d u c)
unfolding AsDeep deep_of sure_of with_pair core_of skin_of
cut-with s Outer c d u f t = record {
  fit = record { bore = f.bore; bar = f.bar; inner = f.inner; outer = record { lower = t.fit.deep; upper = t.fit.sure; from-bore = t.fit.end; in_order = t.fit.order; to-outer = t.fit.start } };
  removes = record { outer-upper = t.sure; outer-lower = t.deep; inner-lower = le-self (number-of f.inner.lower); inner-upper = le-self (number-of f.inner.upper) };
}
cut-with s Inner c d u f t = record {
  fit = record { bore = f.bore; bar = f.bar; outer = f.outer; inner = record { lower = t.fit.sure; upper = t.fit.deep; from-bore = t.fit.start; in_order = t.fit.order; to-outer = t.fit.end } };
  removes = record { outer-upper = le-self (number-of f.outer.upper); outer-lower = le-self (number-of f.outer.lower); inner-lower = t.sure; inner-upper = t.deep };
}

-- THE CUT: over a cell that fits, and whatever plain numbers it reaches, it leaves a cell that fits and adds nothing
pub cut-cuts : (s : TurnStockSpec) (σ : TurnSide) (c : TurnCell) (r : Reach) → CellFit s c → PlainReach r → Cuts s c (cut_cell σ c r)
unfolding cut_cell cut_by own_of
cut-cuts s σ c Passed f p = record {
  fit = f;
  removes = record { outer-upper = le-self (number-of f.outer.upper); outer-lower = le-self (number-of f.outer.lower); inner-lower = le-self (number-of f.inner.lower); inner-upper = le-self (number-of f.inner.upper) };
}
cut-cuts s σ c (Low x) f p =
    cut-with s σ c _ _ f (taken-low s σ (core-number s σ c f) (skin-number s σ c f) (side-fit s σ c f) (limit-plain s σ c f) (core-limit s σ c f) p)
cut-cuts s σ c (Both x y) f p =
    cut-with s σ c _ _ f (taken-both s σ (core-number s σ c f) (skin-number s σ c f) (side-fit s σ c f) (limit-plain s σ c f) (core-limit s σ c f) p.0 p.1)
