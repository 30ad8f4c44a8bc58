-- The numbers of a stock that 1 to 4 accept can be kept: they are of the format, as lent numbers are, and none is -0.0. Assumes nothing.
use Prim.Native.Nat.{ℕ, zero, suc, ◌*◌, ◌≤◌, ◌<◌}
use native.Mathlib.Omega.{arith}
use native.Mathlib.Nat.{eq-or-lt_of_le}
use mathlib.Core.Logic.{◌⊎◌, inl, inr}
use mathlib.Core.Path.{◌≡◌, refl, sym, ap, ◌∙◌, subst}
use mathlib.Core.Bool.{Bool, true, not, ◌&&◌}
use mathlib.Core.List.{List}
use lib.Dec.{T, eqb, leb}
use lib.ListN.{length, get_or}
use lib.Ieee.{Float, nan, binary64, fits, to_bits, of_bits, of_fields, odd, le}
use Rattle.refusals.specs.Paper.{answers}
use Rattle.floats.specs.Numbers.{minus_zero, clean_of}
use Rattle.floats.proofs.Cleared.{clean-keeps}
use Rattle.floats.proofs.Exact.{plain-zero}
use Rattle.stock.specs.declared.TurnStockSpec.{TurnStockSpec}
use Rattle.stock.specs.declared.RadiusBounds.{RadiusBounds}
use Rattle.stock.specs.Spec.{clean_spec}
use Rattle.stock.specs.Cell.{cell_at, cell_fits, pair_fits_in, fit_to, cells_fit, stock_of}
use Rattle.stock.proofs.Count.{checked, stocked, and_both}
use Rattle.stock.proofs.EachFits.{fit-below}
use Rattle.rings.specs.declared.Ring.{Ring}
use Rattle.rings.specs.Store.{ring_at, rings_of, bar_ring, room_for_rings, ring_fits, apart_all, store_fits, count_fits}
use Rattle.rings.proofs.Prefix.{store_fits-snoc}
use Rattle.rings.proofs.Fitting.{fits-of}
use Rattle.floats.proofs.Bounding.{clean-unsigned}
use Rattle.text.proofs.Reading.{plus-bits}
use Rattle.stock_lines.proofs.Forms.{Keeps, none, more}
use Rattle.stock_lines.specs.Form.{Counts, written_form}
use Rattle.stock_lines.specs.First.{CanSay}
use Rattle.stock_lines.proofs.Steps.{written-says, each-cell}
use Rattle.stock_file.specs.Read.{spec_of, stocked_of, read_of}
use Rattle.stock_file.specs.Write.{bar_of, opening, file_of}
use Rattle.stock_file.proofs.Lined.{rings-few}
use Rattle.stock_file.proofs.ReadBack.{four_at, Kept}
use Rattle.stock_file.proofs.Accepted.{accepted-back}

minus_is : minus_zero (of_bits binary64 0x8000000000000000) ≡ true
unfolding minus_zero of_bits of_fields odd
minus_is = refl

pub plus : (x : Float) → T (fits binary64 x) → T (not (minus_zero x)) → to_bits binary64 x ≡ 0x8000000000000000 → ⊥
plus x h u = plus-bits x h (λ e. let q : minus_zero x ≡ true = ap minus_zero e ∙ minus_is in subst (λ (t : Bool). T (not t)) q u)

pub holds : {t : Bool} → t ≡ true → T t
holds e = subst T (sym e) tt

-- ---- cells

last-two : (a b c d e : Bool) → (a && b && c && d && e) ≡ true → T d × T e
last-two a b c d e t =
    let u = and_both (a && b && c && d) e t in
    (holds (and_both (a && b && c) d u.0).1, holds u.1)

pair-unsigned : (s : TurnStockSpec) (p : RadiusBounds) → pair_fits_in s p ≡ true → T (not (minus_zero p.lower_mm)) × T (not (minus_zero p.upper_mm))
pair-unsigned s p t =
    last-two (le s.bore_radius_mm p.lower_mm) (le p.lower_mm p.upper_mm) (le p.upper_mm s.outer_radius_mm) (not (minus_zero p.lower_mm)) (not (minus_zero p.upper_mm)) t

cell-keeps : (s : TurnStockSpec) (cs : List Float) (i : ℕ) → ((k : ℕ) → T (fits binary64 (get_or cs k nan))) → cell_fits s (cell_at cs i) ≡ true → Keeps (four_at cs i)
unfolding cell_fits
cell-keeps s cs i f t =
    let b = and_both (pair_fits_in s (cell_at cs i).outer) (pair_fits_in s (cell_at cs i).inner) t in
    let o = pair-unsigned s (cell_at cs i).outer b.0 in
    let n = pair-unsigned s (cell_at cs i).inner b.1 in
    more (f _) (plus _ (f _) o.0) (more (f _) (plus _ (f _) o.1) (more (f _) (plus _ (f _) n.0) (more (f _) (plus _ (f _) n.1) none)))

-- ---- rings

pub ring-below : (e : Ring) (xs : List Float) (k : ℕ) → store_fits e (rings_of k xs) ≡ true → (i : ℕ) → i < k → ring_fits e (ring_at xs i) ≡ true
unfolding rings_of
ring-below e xs zero t i h = absurd (omega arith)
ring-below e xs (suc k) t i h =
    let b = and_both (store_fits e (rings_of k xs)) (ring_fits e (ring_at xs k) && apart_all (rings_of k xs) (ring_at xs k)) (sym (store_fits-snoc e (rings_of k xs) (ring_at xs k)) ∙ t) in
    go (eq-or-lt_of_le (omega arith)) (and_both (ring_fits e (ring_at xs k)) (apart_all (rings_of k xs) (ring_at xs k)) b.1).0 (ring-below e xs k b.0 i)
  where
    go : (i ≡ k) ⊎ (i < k) → ring_fits e (ring_at xs k) ≡ true → (i < k → ring_fits e (ring_at xs i) ≡ true) → ring_fits e (ring_at xs i) ≡ true
    go (inl q) u r = subst (λ (j : ℕ). ring_fits e (ring_at xs j) ≡ true) (sym q) u
    go (inr q) u r = r q

ring-keeps : (e : Ring) (xs : List Float) (i : ℕ) → ((k : ℕ) → T (fits binary64 (get_or xs k nan))) → ring_fits e (ring_at xs i) ≡ true → Keeps (four_at xs i)
ring-keeps e xs i f t =
    let w = fits-of e (ring_at xs i) (holds t) in
    more (f _) (plus _ (f _) w.u0) (more (f _) (plus _ (f _) w.u1) (more (f _) (plus _ (f _) w.u2) (more (f _) (plus _ (f _) w.u3) none)))

-- ---- the bar

clean-fits : (x : Float) → T (fits binary64 x) → T (fits binary64 (clean_of x))
clean-fits x h = clean-keeps (λ (y : Float). T (fits binary64 y)) (plain-zero binary64).held h

clean-plus : (x : Float) → T (fits binary64 x) → to_bits binary64 (clean_of x) ≡ 0x8000000000000000 → ⊥
clean-plus x h = plus (clean_of x) (clean-fits x h) (subst (λ (t : Bool). T (not t)) (sym (clean-unsigned x)) tt)

-- numbers as they are lent: of the format
pub record Lent64 (spec : TurnStockSpec) (cs rs : List Float) : Type 0 where
  pub z-min : T (fits binary64 spec.z_min_mm)
  pub z-max : T (fits binary64 spec.z_max_mm)
  pub outer : T (fits binary64 spec.outer_radius_mm)
  pub bore : T (fits binary64 spec.bore_radius_mm)
  pub cell : T (fits binary64 spec.cell_mm)
  pub cells : (k : ℕ) → T (fits binary64 (get_or cs k nan))
  pub rings : (k : ℕ) → T (fits binary64 (get_or rs k nan))

pub stock-kept : (form edition : ℕ) (spec : TurnStockSpec) (cs rs : List Float) (n m : ℕ) → CanSay form edition → Counts form n → stock_of spec cs ≡ answers n → count_fits (bar_ring (clean_spec spec)) rs m ≡ true → Lent64 spec cs rs → Kept (opening form edition (bar_of spec)) cs n rs m
unfolding clean_spec cells_fit count_fits
stock-kept form edition spec cs rs n m says counts e f g =
    let s = stocked spec cs n e in
    let c = (and_both (eqb (length cs) (4 * n)) (fit_to (clean_spec spec) cs n) s.fit).1 in
    let r = (and_both (leb m (room_for_rings (length rs))) (store_fits (bar_ring (clean_spec spec)) (rings_of m rs)) f).1 in
    record {
      says = says;
      bar = more (clean-fits _ g.z-min) (clean-plus _ g.z-min) (more (clean-fits _ g.z-max) (clean-plus _ g.z-max) (more (clean-fits _ g.outer) (clean-plus _ g.outer) (more (clean-fits _ g.bore) (clean-plus _ g.bore) (more (clean-fits _ g.cell) (clean-plus _ g.cell) none))));
      cells = λ i h. cell-keeps (clean_spec spec) cs i g.cells (fit-below (clean_spec spec) cs n c i h);
      rings = λ i h. ring-keeps (bar_ring (clean_spec spec)) rs i g.rings (ring-below (bar_ring (clean_spec spec)) rs m r i h);
      counts = counts;
      few-rings = rings-few (bar_ring (clean_spec spec)) rs m f;
    }

-- READ AFTER WRITE: the file of a stock that 1 to 4 accept, in each form that can say its edition and has so many cell lines, tells that stock at generation 0, to a reader with room and limit for it
pub stock-back : (form edition : ℕ) (spec : TurnStockSpec) (cs rs : List Float) (n m most : ℕ) → CanSay form edition → Counts form n → stock_of spec cs ≡ answers n → count_fits (bar_ring (clean_spec spec)) rs m ≡ true → Lent64 spec cs rs → n ≤ most
    → (room space : List Float) → 4 * n ≤ length room → 4 * m ≤ length space
    → read_of most room space (file_of (opening form edition (bar_of spec)) cs n rs m) ≡ answers (stocked_of (spec_of (bar_of spec) most) edition n m)
stock-back form edition spec cs rs n m most says counts e f g h room space wide deep = accepted-back form edition spec cs rs n m most e f h (stock-kept form edition spec cs rs n m says counts e f g) room space wide deep

-- and so the file that is written, of any edition
pub written_back : (edition : ℕ) (spec : TurnStockSpec) (cs rs : List Float) (n m most : ℕ) → edition < 4294967296 → stock_of spec cs ≡ answers n → count_fits (bar_ring (clean_spec spec)) rs m ≡ true → Lent64 spec cs rs → n ≤ most
    → (room space : List Float) → 4 * n ≤ length room → 4 * m ≤ length space
    → read_of most room space (file_of (opening (written_form n) edition (bar_of spec)) cs n rs m) ≡ answers (stocked_of (spec_of (bar_of spec) most) edition n m)
written_back edition spec cs rs n m most small e f g h room space wide deep =
    stock-back (written_form n) edition spec cs rs n m most (written-says n edition small) (each-cell n (checked spec n (stocked spec cs n e).count).few) e f g h room space wide deep
