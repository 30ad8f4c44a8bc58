-- What it says of a cell that it fits its stock: its numbers are plain, each pair is in order, and all lies from the bore to the outer radius. Assumes nothing.
use mathlib.Core.Path.{◌≡◌, sym, subst}
use mathlib.Core.Bool.{true, not, ◌&&◌}
use mathlib.Core.List.{List}
use Prim.Native.Nat.{ℕ, ◌+◌, ◌*◌}
use lib.Dec.{T}
use lib.Ieee.{Float, binary64, le, eq, fits}
use lib.Ieee.Bits.{is_true}
use lib.Ieee.Fits.{and_i, and_l, and_r}
use Rattle.floats.specs.Numbers.{minus_zero}
use Rattle.floats.specs.Kinds.{Number, Plain}
use Rattle.floats.proofs.Order.{number-of, eq_self, eq-unique}
use Rattle.floats.proofs.Within.{number-l, number-r}
use Rattle.stock.specs.declared.TurnStockSpec.{TurnStockSpec}
use Rattle.stock.specs.declared.RadiusBounds.{RadiusBounds}
use Rattle.stock.specs.declared.TurnCell.{TurnCell}
use Rattle.stock.specs.Cell.{cell_at, pair_fits_in, cell_fits, same_cell}
use Rattle.stock.proofs.Bins.{HeldList}
use Rattle.stock.proofs.Stored.{cell-path}
use Rattle.stock.proofs.Passes.{HeldCell}

-- two bounds that fit
pub record PairFit (s : TurnStockSpec) (b : RadiusBounds) : Type 0 where
  pub lower : Plain binary64 b.lower_mm
  pub upper : Plain binary64 b.upper_mm
  pub from-bore : T (le s.bore_radius_mm b.lower_mm)
  pub in_order : T (le b.lower_mm b.upper_mm)
  pub to-outer : T (le b.upper_mm s.outer_radius_mm)

-- a cell that fits
pub record CellFit (s : TurnStockSpec) (c : TurnCell) : Type 0 where
  pub bore : Number binary64 s.bore_radius_mm
  pub bar : Number binary64 s.outer_radius_mm
  pub outer : PairFit s c.outer
  pub inner : PairFit s c.inner

-- ---- from the facts to the test
pair-test : (s : TurnStockSpec) (b : RadiusBounds) → PairFit s b → T (pair_fits_in s b)
pair-test s b f =
    let A = le s.bore_radius_mm b.lower_mm in
    let B = le b.lower_mm b.upper_mm in
    let C = le b.upper_mm s.outer_radius_mm in
    let D = not (minus_zero b.lower_mm) in
    let E = not (minus_zero b.upper_mm) in
    and_i (A && B && C && D) E (and_i (A && B && C) D (and_i (A && B) C (and_i A B f.from-bore f.in_order) f.to-outer) f.lower.unsigned) f.upper.unsigned

-- a cell with these facts passes the test
pub fit-test : (s : TurnStockSpec) (c : TurnCell) → CellFit s c → cell_fits s c ≡ true
unfolding cell_fits
fit-test s c f = is_true (pair_fits_in s c.outer && pair_fits_in s c.inner) (and_i (pair_fits_in s c.outer) (pair_fits_in s c.inner) (pair-test s c.outer f.outer) (pair-test s c.inner f.inner))

-- ---- from the test to the facts, of numbers that are values of f64

-- the numbers of each cell of a list of values of f64 are such values
pub held_at : (cs : List Float) → HeldList cs → (i : ℕ) → HeldCell (cell_at cs i)
held_at cs h i = record { outer-lower = h (4 * i); outer-upper = h (4 * i + 1); inner-lower = h (4 * i + 2); inner-upper = h (4 * i + 3) }

pair_of : (s : TurnStockSpec) (b : RadiusBounds) → T (fits binary64 b.lower_mm) → T (fits binary64 b.upper_mm) → T (pair_fits_in s b) → PairFit s b
pair_of s b hl hu t =
    let A = le s.bore_radius_mm b.lower_mm in
    let B = le b.lower_mm b.upper_mm in
    let C = le b.upper_mm s.outer_radius_mm in
    let D = not (minus_zero b.lower_mm) in
    let E = not (minus_zero b.upper_mm) in
    let t4 = and_l (A && B && C && D) E t in
    let t3 = and_l (A && B && C) D t4 in
    let t2 = and_l (A && B) C t3 in
    let o = and_r A B t2 in
    record {
      lower = record { held = hl; number = (number-l b.lower_mm b.upper_mm hl o).number; unsigned = and_r (A && B && C) D t4 };
      upper = record { held = hu; number = (number-r b.lower_mm b.upper_mm hu o).number; unsigned = and_r (A && B && C && D) E t };
      from-bore = and_l A B t2;
      in_order = o;
      to-outer = and_r (A && B) C t3;
    }

-- a cell that passes the test has these facts
pub fit_of : (s : TurnStockSpec) (c : TurnCell) → T (fits binary64 s.bore_radius_mm) → T (fits binary64 s.outer_radius_mm) → HeldCell c → cell_fits s c ≡ true → CellFit s c
unfolding cell_fits
fit_of s c hb ho h e =
    let t : T (pair_fits_in s c.outer && pair_fits_in s c.inner) = subst T (sym e) tt in
    let O = pair_of s c.outer h.outer-lower h.outer-upper (and_l (pair_fits_in s c.outer) (pair_fits_in s c.inner) t) in
    let I = pair_of s c.inner h.inner-lower h.inner-upper (and_r (pair_fits_in s c.outer) (pair_fits_in s c.inner) t) in
    record {
      bore = number-l s.bore_radius_mm c.outer.lower_mm hb O.from-bore;
      bar = number-r c.outer.upper_mm s.outer_radius_mm ho O.to-outer;
      outer = O;
      inner = I;
    }

-- ---- cells that fit are the same as numbers exactly where they are the same
-- a cell that fits is the same as itself
pub same_test : (s : TurnStockSpec) (c : TurnCell) → CellFit s c → same_cell c c ≡ true
same_test s c f =
    let o = f.outer in
    let i = f.inner in
    let A = eq c.outer.lower_mm c.outer.lower_mm in
    let B = eq c.outer.upper_mm c.outer.upper_mm in
    let C = eq c.inner.lower_mm c.inner.lower_mm in
    let D = eq c.inner.upper_mm c.inner.upper_mm in
    is_true (A && B && C && D)
    (and_i (A && B && C) D (and_i (A && B) C (and_i A B (eq_self (number-of o.lower)) (eq_self (number-of o.upper))) (eq_self (number-of i.lower))) (eq_self (number-of i.upper)))

-- and two that are the same as numbers are one
pub same-cell : (s : TurnStockSpec) (c c' : TurnCell) → CellFit s c → CellFit s c' → same_cell c c' ≡ true → c ≡ c'
same-cell s c c' f g e =
    let A = eq c.outer.lower_mm c'.outer.lower_mm in
    let B = eq c.outer.upper_mm c'.outer.upper_mm in
    let C = eq c.inner.lower_mm c'.inner.lower_mm in
    let D = eq c.inner.upper_mm c'.inner.upper_mm in
    let t : T (A && B && C && D) = subst T (sym e) tt in
    let t3 = and_l (A && B && C) D t in
    let t2 = and_l (A && B) C t3 in
    cell-path
    (eq-unique f.outer.lower g.outer.lower (and_l A B t2))
    (eq-unique f.outer.upper g.outer.upper (and_r A B t2))
    (eq-unique f.inner.lower g.inner.lower (and_r (A && B) C t3))
    (eq-unique f.inner.upper g.inner.upper (and_r (A && B && C) D t))
