-- A cell that passes its comparisons in a spec whose bore is not below zero: none of its bounds is below zero, and it fits unless one is -0.0. Assumes nothing.
use Rattle.std.proofs.Common.{◌≡◌, Bool, true, false, not, ◌&&◌, ◌||◌, T, sym, refl, subst}
use mathlib.Core.Bool.{false≢true}
use lib.Ieee.{Float, nan, inf, fin, binary64, lt, eq, le, fits, is_nan}
use lib.Ieee.Bits.{is_true}
use Rattle.floats.specs.Numbers.{zero64, minus_zero}
use Rattle.floats.specs.Kinds.{Number}
use Rattle.floats.proofs.Order.{number-of, le_trans}
use Rattle.floats.proofs.Cleared.{plain-zero64}
use Rattle.floats.proofs.Signs.{clear-number}
use Rattle.stock.specs.declared.TurnStockSpec.{TurnStockSpec}
use Rattle.stock.specs.declared.TurnCell.{TurnCell}
use Rattle.stock.specs.Cell.{between, cell_fits}
use Rattle.stock.proofs.Count.{and_both}

-- ---- at or above zero

-- what is at or above a value is a number
over-number : (a b : Float) → le a b ≡ true → T (not (is_nan b))
unfolding le lt eq is_nan
over-number nan nan t = absurd (false≢true t)
over-number (inf s) nan t = absurd (false≢true t)
over-number (fin s m e) nan t = absurd (false≢true t)
over-number a (inf s) t = tt
over-number a (fin s m e) t = tt

-- what is at or above one that is not below zero
over-clear : (a b : Float) → T (fits binary64 a) → T (fits binary64 b) → le zero64 a ≡ true → le a b ≡ true → le zero64 b ≡ true
over-clear a b ha hb z t =
    let na : Number binary64 a = record { held = ha; number = clear-number a z } in
    let nb : Number binary64 b = record { held = hb; number = over-number a b t } in
    is_true _ (le_trans (number-of plain-zero64) na nb (subst T (sym z) tt) (subst T (sym t) tt))

-- the format holds the bounds of a cell
pub record HeldCell (c : TurnCell) : Type 0 where
  pub outer-lower : T (fits binary64 c.outer.lower_mm)
  pub outer-upper : T (fits binary64 c.outer.upper_mm)
  pub inner-lower : T (fits binary64 c.inner.lower_mm)
  pub inner-upper : T (fits binary64 c.inner.upper_mm)

-- none of its bounds is below zero
pub record Clear (c : TurnCell) : Type 0 where
  pub outer-lower : le zero64 c.outer.lower_mm ≡ true
  pub outer-upper : le zero64 c.outer.upper_mm ≡ true
  pub inner-lower : le zero64 c.inner.lower_mm ≡ true
  pub inner-upper : le zero64 c.inner.upper_mm ≡ true

-- ---- the tests of a cell, by cases

unsigned : (a b c d e f p q r t : Bool) → (a && b && c && d && e && f) ≡ true → not (p || q || r || t) ≡ ((a && b && c && not p && not q) && (d && e && f && not r && not t))
unsigned false b c d e f p q r t h = absurd (false≢true h)
unsigned true false c d e f p q r t h = absurd (false≢true h)
unsigned true true false d e f p q r t h = absurd (false≢true h)
unsigned true true true false e f p q r t h = absurd (false≢true h)
unsigned true true true true false f p q r t h = absurd (false≢true h)
unsigned true true true true true false p q r t h = absurd (false≢true h)
unsigned true true true true true true true q r t h = refl
unsigned true true true true true true false true r t h = refl
unsigned true true true true true true false false true t h = refl
unsigned true true true true true true false false false true h = refl
unsigned true true true true true true false false false false h = refl

not-all : (a b c d e f p q r t : Bool) → (a && b && c && d && e && f) ≡ false → false ≡ ((a && b && c && not p && not q) && (d && e && f && not r && not t))
not-all false b c d e f p q r t h = refl
not-all true false c d e f p q r t h = refl
not-all true true false d e f p q r t h = refl
not-all true true true d e f true q r t h = refl
not-all true true true d e f false true r t h = refl
not-all true true true false e f false false r t h = refl
not-all true true true true false f false false r t h = refl
not-all true true true true true false false false r t h = refl
not-all true true true true true true false false r t h = absurd (false≢true (sym h))

each : (a b c d e f : Bool) → (a && b && c && d && e && f) ≡ true → (a ≡ true) × (b ≡ true) × (d ≡ true) × (e ≡ true)
each a b c d e f h =
    let h4 = and_both (a && b && c && d) e (and_both (a && b && c && d && e) f h).0 in
    let h3 = and_both (a && b && c) d h4.0 in
    let h1 = and_both a b (and_both (a && b) c h3.0).0 in
    (h1.0, h1.1, h3.1, h4.1)

module _ (s : TurnStockSpec) (c : TurnCell) where
  abbrev bore : Float
  bore = s.bore_radius_mm

  abbrev most : Float
  most = s.outer_radius_mm

  abbrev ol : Float
  ol = c.outer.lower_mm

  abbrev ou : Float
  ou = c.outer.upper_mm

  abbrev il : Float
  il = c.inner.lower_mm

  abbrev iu : Float
  iu = c.inner.upper_mm

  pub clear : T (fits binary64 bore) → HeldCell c → le zero64 bore ≡ true → between s c ≡ true → Clear c
  unfolding between
  clear hb h z t =
      let e = each (le bore ol) (le ol ou) (le ou most) (le bore il) (le il iu) (le iu most) t in
      let zo = over-clear bore ol hb h.outer-lower z e.0 in
      let zi = over-clear bore il hb h.inner-lower z e.2 in
      record {
        outer-lower = zo;
        outer-upper = over-clear ol ou h.outer-lower h.outer-upper zo e.1;
        inner-lower = zi;
        inner-upper = over-clear il iu h.inner-lower h.inner-upper zi e.3;
      }

  -- one that passes fits unless one of its bounds is -0.0
  pub fits-unsigned : between s c ≡ true → not (minus_zero ol || minus_zero ou || minus_zero il || minus_zero iu) ≡ cell_fits s c
  unfolding between cell_fits
  fits-unsigned t = unsigned (le bore ol) (le ol ou) (le ou most) (le bore il) (le il iu) (le iu most) (minus_zero ol) (minus_zero ou) (minus_zero il) (minus_zero iu) t

  -- one that does not pass does not fit
  pub no-fit : between s c ≡ false → false ≡ cell_fits s c
  unfolding between cell_fits
  no-fit t = not-all (le bore ol) (le ol ou) (le ou most) (le bore il) (le il iu) (le iu most) (minus_zero ol) (minus_zero ou) (minus_zero il) (minus_zero iu) t
