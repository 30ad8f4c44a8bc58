-- `cuts::polygon_rows::fill` meets its contract. Assumes nothing.
use mathlib.Core.Path.{◌≡◌, sym, ap, ◌∙◌}
use native.Mathlib.Omega.{arith}
use Rattle.stock.specs.declared.BinRange.{BinRange}
use Rattle.polygon.specs.Polygon.{bins_of}
use Rattle.polygon.proofs.Visits.{visits-range, spanned}
use Rattle.cuts.proofs.Crossings.{says_none, says-crossed}
use Rattle.cuts.proofs.polygon_rows.fill.Goals as goal

pub returns-in_default : goal.returns-in_default
returns-in_default c = says_none _ _ _ _ _ (sym c.extent_of-extent.ensures ∙ c.in_default.is)

pub sweep-requires : goal.sweep-requires
sweep-requires c = let a = c.args in
    let p = c.requires in
    let lo = c.in-Some.field-0.lo in
    let hi = c.in-Some.field-0.hi in
    let w = visits-range a.s lo hi a.n in
    let f : c.index_range-bins.result.from ≡ (bins_of a.s lo hi a.n).from = ap (λ (z : BinRange). z.from) c.index_range-bins.ensures in
    let t : c.index_range-bins.result.to ≡ (bins_of a.s lo hi a.n).to = ap (λ (z : BinRange). z.to) c.index_range-bins.ensures in
    let o = w.ordered in
    let few = w.few in
    let p1 = p.1.numbers in
    let p2 = p.1.flags in (
      sym c.extent_of-extent.ensures ∙ c.in-Some.is,
      λ j h l. spanned a.s lo hi a.n j (omega arith) (omega arith),
      omega arith,
      omega (arith, p.0),
      record { numbers = omega arith; flags = omega arith },
      λ j h l. p.2 j (omega arith) (omega arith),
    )

pub returns : goal.returns
returns c = says-crossed _ _ _ _ _ _ _ (sym c.extent_of-extent.ensures ∙ c.in-Some.is) _ c.clean-raise.ensures _ c.index_range-bins.ensures c.sweep.ensures
