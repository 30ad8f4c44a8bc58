-- A cell that fits is the same as itself. Assumes nothing.
use Rattle.std.proofs.Common.{◌≡◌, ℕ, ◌*◌, Bool, true, false, not, ◌&&◌, refl, eq-eqb}
use mathlib.Core.Bool.{false≢true}
use lib.Ieee.{Float, nan, inf, fin, up, down, level, lt, le, eq}
use Rattle.floats.specs.Numbers.{minus_zero}
use Rattle.stock.specs.declared.TurnStockSpec.{TurnStockSpec}
use Rattle.stock.specs.declared.RadiusBounds.{RadiusBounds}
use Rattle.stock.specs.declared.TurnCell.{TurnCell}
use Rattle.stock.specs.Cell.{pair_fits_in, cell_fits, same_cell}
use Rattle.stock.proofs.Count.{and_both}

level-self : (s : Bool) (m : ℕ) → level s m s m ≡ true
level-self true m = rw (eq-eqb m m refl) refl
level-self false m = rw (eq-eqb m m refl) refl

-- what is at most another is no NaN, so that it equals itself
pub at-most-self : (x y : Float) → le x y ≡ true → eq x x ≡ true
unfolding le lt eq
at-most-self nan y e = absurd (false≢true e)
at-most-self (inf true) y e = refl
at-most-self (inf false) y e = refl
at-most-self (fin s m d) y e = level-self s (m * up d * down d)

pair-self : (s : TurnStockSpec) (b : RadiusBounds) → pair_fits_in s b ≡ true → (eq b.lower_mm b.lower_mm ≡ true) × (eq b.upper_mm b.upper_mm ≡ true)
pair-self s b e =
    let A = le s.bore_radius_mm b.lower_mm in
    let B = le b.lower_mm b.upper_mm in
    let C = le b.upper_mm s.outer_radius_mm in
    let D = not (minus_zero b.lower_mm) in
    let E = not (minus_zero b.upper_mm) in
    let p = and_both (A && B) C (and_both (A && B && C) D (and_both (A && B && C && D) E e).0).0 in
    (at-most-self b.lower_mm b.upper_mm (and_both A B p.0).1, at-most-self b.upper_mm s.outer_radius_mm p.1)

pub fits-same : (s : TurnStockSpec) (c : TurnCell) → cell_fits s c ≡ true → same_cell c c ≡ true
unfolding cell_fits
fits-same s c e =
    let p = and_both (pair_fits_in s c.outer) (pair_fits_in s c.inner) e in
    let o = pair-self s c.outer p.0 in
    let i = pair-self s c.inner p.1 in
    rw (o.0, o.1, i.0, i.1) refl
