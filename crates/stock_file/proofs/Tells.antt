-- A file that tells a stock: what 1 to 4 asked, and so that in its form it is the only file of that stock. Assumes nothing.
use Rattle.std.specs.Prelude.{Option, Some, None}
use Prim.Native.Nat.{ℕ, ◌+◌, ◌*◌, ◌/◌, ◌^◌, ◌≤◌, ◌<◌}
use native.Mathlib.Omega.{arith}
use native.Mathlib.Nat.{min-le_left, min-le_right}
use mathlib.Core.Logic.{◌⊎◌, inl, inr}
use mathlib.Core.Path.{◌≡◌, refl, sym, ap, ◌∙◌, subst}
use mathlib.Core.Bool.{Bool, true, false, not, ◌&&◌, false≢true}
use mathlib.Core.List.{List, [], ◌∷◌}
use lib.Dec.{T, eqb, leb}
use lib.ListN.{length, take}
use lib.Seq.{get_or-take, length-take-le}
use lib.Ieee.{Float, nan, inf, fin, is_nan, le, lt, eq, neg}
use borrow.Author.Tests.{leb-true, leb-false}
use Rattle.refusals.specs.Paper.{Paper, answers, refuses, demand, onward, at, demand_at-true, demand_at-false}
use Rattle.floats.specs.Pick.{pick}
use Rattle.floats.specs.Numbers.{clean_of, usable, million, minus_zero}
use Rattle.stock.specs.declared.TurnStockSpec.{TurnStockSpec}
use Rattle.stock.specs.declared.RadiusBounds.{RadiusBounds}
use Rattle.stock.specs.Spec.{clean_spec, spec_good}
use Rattle.stock.specs.Cell.{cell_at, cell_fits, pair_fits_in, fit_to, cells_fit, stock_of}
use Rattle.stock.proofs.Count.{same_answer, no_answer, demanded, checked, stocked, stock-length, and_both}
use Rattle.stock.proofs.EachFits.{fit-below}
use Rattle.rings.specs.declared.Ring.{Ring}
use Rattle.rings.specs.Store.{ring_at, rings_of, bar_ring, room_for_rings, ring_fits, store_fits, count_fits}
use Rattle.rings.proofs.Removing.{fits-within}
use Rattle.rings.proofs.Fitting.{fits-of}
use Rattle.lines.specs.File.{pieces_of}
use Rattle.stock_lines.specs.Form.{few_cells, written_form, bar_numbers, four}
use Rattle.stock_lines.proofs.Steps.{form-told}
use Rattle.stock_lines.specs.Reading.{State}
use Rattle.stock_lines.proofs.Forms.{NoNan, none, more}
use Rattle.stock_file.specs.declared.Kept.{Kept}
use Rattle.stock_file.specs.Read.{stopped, spec_of, front_of, stocked_of, stock_in, told_as, file_in, read_of}
use Rattle.stock_file.specs.Write.{opening, file_of}
use Rattle.stock_file.proofs.Ends.{front-short, front_long}
use Rattle.stock_file.proofs.ReadBack.{four_at}
use Rattle.stock_file.proofs.Keepable.{holds, ring-below}
use Rattle.stock_file.proofs.Rewritten.{Sound, IsFile, bytes-spelled}

-- ---- what is compared is a number

le-number : (x y : Float) → le x y ≡ true → T (not (is_nan x))
unfolding le is_nan
le-number nan y e = absurd (false≢true e)
le-number (inf s) y e = tt
le-number (fin s m d) y e = tt

lt-number : (x y : Float) → lt x y ≡ true → T (not (is_nan x))
unfolding lt is_nan
lt-number nan y e = absurd (false≢true e)
lt-number (inf s) y e = tt
lt-number (fin s m d) y e = tt

true_of : (t : Bool) → T t → t ≡ true
true_of true u = refl
true_of false u = absurd u

clean-number : (x : Float) → T (not (is_nan (clean_of x))) → T (not (is_nan x))
unfolding clean_of is_nan eq pick
clean-number nan h = h
clean-number (inf s) h = tt
clean-number (fin s m d) h = tt

usable-number : (x : Float) → usable (clean_of x) ≡ true → T (not (is_nan x))
usable-number x e = clean-number x (le-number (clean_of x) million (and_both (le (neg million) (clean_of x)) (le (clean_of x) million) e).1)

-- ---- the cells and the rings

pair-numbers : (s : TurnStockSpec) (p : RadiusBounds) → pair_fits_in s p ≡ true → T (not (is_nan p.lower_mm)) × T (not (is_nan p.upper_mm))
pair-numbers s p t =
    let a = and_both (le s.bore_radius_mm p.lower_mm && le p.lower_mm p.upper_mm && le p.upper_mm s.outer_radius_mm && not (minus_zero p.lower_mm)) (not (minus_zero p.upper_mm)) t in
    let b = and_both (le s.bore_radius_mm p.lower_mm && le p.lower_mm p.upper_mm && le p.upper_mm s.outer_radius_mm) (not (minus_zero p.lower_mm)) a.0 in
    let c = and_both (le s.bore_radius_mm p.lower_mm && le p.lower_mm p.upper_mm) (le p.upper_mm s.outer_radius_mm) b.0 in
    let d = and_both (le s.bore_radius_mm p.lower_mm) (le p.lower_mm p.upper_mm) c.0 in
    (le-number p.lower_mm p.upper_mm d.1, le-number p.upper_mm s.outer_radius_mm c.1)

cell-numbers : (s : TurnStockSpec) (cs : List Float) (i : ℕ) → cell_fits s (cell_at cs i) ≡ true → NoNan (four_at cs i)
unfolding cell_fits
cell-numbers s cs i t =
    let b = and_both (pair_fits_in s (cell_at cs i).outer) (pair_fits_in s (cell_at cs i).inner) t in
    let o = pair-numbers s (cell_at cs i).outer b.0 in
    let n = pair-numbers s (cell_at cs i).inner b.1 in
    more o.0 (more o.1 (more n.0 (more n.1 none)))

ring-numbers : (e : Ring) (xs : List Float) (i : ℕ) → ring_fits e (ring_at xs i) ≡ true → NoNan (four_at xs i)
ring-numbers e xs i t =
    let w = fits-of e (ring_at xs i) (holds t) in
    more (lt-number _ _ (true_of _ w.z-full)) (more (le-number _ _ (true_of _ w.z_high)) (more (lt-number _ _ (true_of _ w.r-full)) (more (le-number _ _ (true_of _ w.r_high)) none)))

front-four : (cs : List Float) (n i : ℕ) → i < n → four_at (take (4 * n) cs) i ≡ four_at cs i
front-four cs n i h =
    λ j. get_or-take (4 * n) cs (4 * i) nan (omega arith) j ∷ get_or-take (4 * n) cs (4 * i + 1) nan (omega arith) j ∷ get_or-take (4 * n) cs (4 * i + 2) nan (omega arith) j ∷ get_or-take (4 * n) cs (4 * i + 3) nan (omega arith) j ∷ []

-- ---- what an answer says

pub record Told (st : State) (most : ℕ) (k : Kept) : Type 0 where
  pub goes : stopped st ≡ false
  pub count : ℕ
  pub stock : stock_of (spec_of st.reading.bar most) (front_of st.reading.cells st.cells) ≡ answers count
  pub fits : count_fits (bar_ring (clean_spec (spec_of st.reading.bar most))) st.rings st.reading.rings ≡ true
  pub told : stocked_of (spec_of st.reading.bar most) st.reading.edition count st.reading.rings ≡ k

pub tells : (st : State) (most : ℕ) (k : Kept) → told_as st.reading most st.cells st.rings ≡ answers k → Told st most k
unfolding told_as stock_in onward
tells st most k e = by (stopped st) refl
  where
    s : TurnStockSpec
    s = spec_of st.reading.bar most

    rest : (p : Paper ℕ) → stock_of s (front_of st.reading.cells st.cells) ≡ p → stopped st ≡ false
        → onward p (λ n. demand (count_fits (bar_ring (clean_spec s)) st.rings st.reading.rings) 4 (answers (stocked_of s st.reading.edition n st.reading.rings))) ≡ answers k → Told st most k
    rest (answers n) q g f =
        let d = demanded (count_fits (bar_ring (clean_spec s)) st.rings st.reading.rings) 4 _ k f in
        record { goes = g; count = n; stock = q; fits = d.0; told = same_answer d.1 }
    rest (refuses w) q g f = absurd (no_answer w k f)

    by : (t : Bool) → stopped st ≡ t → Told st most k
    by true g = absurd (no_answer (at 16 st.reading.lines) k (sym (demand_at-false _ _ _ _ (ap not g)) ∙ e))
    by false g = rest (stock_of s (front_of st.reading.cells st.cells)) refl g (sym (demand_at-true _ _ _ _ (ap not g)) ∙ e)

module _ (st : State) (most : ℕ) (k : Kept) (t : Told st most k) where
  abbrev spec : TurnStockSpec
  spec = spec_of st.reading.bar most

  front-is : (st.reading.cells ≤ length st.cells / 4) × (front_of st.reading.cells st.cells ≡ take (4 * st.reading.cells) st.cells)
  front-is = by (leb st.reading.cells (length st.cells / 4)) refl
    where
      by : (u : Bool) → leb st.reading.cells (length st.cells / 4) ≡ u → (st.reading.cells ≤ length st.cells / 4) × (front_of st.reading.cells st.cells ≡ take (4 * st.reading.cells) st.cells)
      by true f = (leb-true _ _ f, sym (front_long _ _ (leb-true _ _ f)))
      by false f =
          let z : 0 ≡ length (front_of st.reading.cells st.cells) = ap length (front-short st.reading.cells st.cells (leb-false _ _ f)) in
          let l = stock-length spec (front_of st.reading.cells st.cells) t.count t.stock in
          let c = checked spec t.count (stocked spec _ t.count t.stock).count in
          absurd (omega (arith, z, l, c.some-cells))

  whole-count : st.reading.cells ≡ t.count
  whole-count =
      let l = stock-length spec (front_of st.reading.cells st.cells) t.count t.stock in
      let m = length-take-le (4 * st.reading.cells) st.cells (omega (arith, front-is.0)) in
      let q : length (front_of st.reading.cells st.cells) ≡ length (take (4 * st.reading.cells) st.cells) = ap length front-is.1 in
      omega (arith, l, m, q)

  -- the stock that is told is that of the reading
  pub told-stocked : k ≡ stocked_of spec st.reading.edition st.reading.cells st.reading.rings
  told-stocked = sym t.told ∙ ap (λ (n : ℕ). stocked_of spec st.reading.edition n st.reading.rings) (sym whole-count)

  five : (a b c d e f g h i : Bool) → (a && b && c && d && e && f && g && h && i) ≡ true → (a ≡ true) × (b ≡ true) × (c ≡ true) × (d ≡ true) × (e ≡ true)
  five a b c d e f g h i u =
      let u8 = (and_both (a && b && c && d && e && f && g && h) i u).0 in
      let u7 = (and_both (a && b && c && d && e && f && g) h u8).0 in
      let u6 = (and_both (a && b && c && d && e && f) g u7).0 in
      let u5 = (and_both (a && b && c && d && e) f u6).0 in
      let u4 = and_both (a && b && c && d) e u5 in
      let u3 = and_both (a && b && c) d u4.0 in
      let u2 = and_both (a && b) c u3.0 in
      let u1 = and_both a b u2.0 in
      (u1.0, u1.1, u2.1, u3.1, u4.1)

  pub bar-numbers : NoNan (bar_numbers st.reading.bar)
  unfolding spec_good clean_spec
  bar-numbers =
      let b = st.reading.bar in
      let c = checked spec t.count (stocked spec _ t.count t.stock).count in
      let s = clean_spec spec in
      let g = five (usable s.z_min_mm) (usable s.z_max_mm) (usable s.outer_radius_mm) (usable s.bore_radius_mm) (usable s.cell_mm) _ _ _ _ c.good in
      more (usable-number b.z_min_mm g.0) (more (usable-number b.z_max_mm g.1) (more (usable-number b.outer_radius_mm g.2) (more (usable-number b.bore_radius_mm g.3) (more (usable-number b.cell_mm g.4) none))))

  pub told-sound : Sound st
  unfolding cells_fit count_fits
  told-sound =
      let n = st.reading.cells in
      let m = st.reading.rings in
      let e = bar_ring (clean_spec spec) in
      let front : List Float = take (4 * n) st.cells in
      let f : fit_to (clean_spec spec) front t.count ≡ true =
      ap (λ (x : List Float). fit_to (clean_spec spec) x t.count) (sym front-is.1) ∙ (and_both (eqb (length (front_of n st.cells)) (4 * t.count)) (fit_to (clean_spec spec) (front_of n st.cells) t.count) (stocked spec _ t.count t.stock).fit).1 in
      let r = (and_both (leb m (room_for_rings (length st.rings))) (store_fits e (rings_of m st.rings)) t.fits).1 in
      let w = fits-within e st.rings m t.fits in
      record {
        goes = t.goes;
        cells = λ i h. subst NoNan (front-four st.cells n i h) (cell-numbers (clean_spec spec) front i (fit-below (clean_spec spec) front t.count f i (subst (λ (x : ℕ). i < x) whole-count h)));
        rings = λ i h. ring-numbers e st.rings i (ring-below e st.rings m r i h);
        room = omega (arith, front-is.0);
        space = omega (arith, w, min-le_left (length st.rings / 4) 256);
        few = omega (arith, w, min-le_right (length st.rings / 4) 256);
      }

-- the file of what was left, in a form
abbrev pub file_as : ℕ → State → List ℕ
file_as form st = file_of (opening form st.reading.edition st.reading.bar) st.cells st.reading.cells st.rings st.reading.rings

-- bytes that tell a stock, of fewer than 2^64 lines, are the bytes of its file in the form that they name, which can say its edition
pub told-in-form : (most : ℕ) (C R : List Float) (s : List ℕ) (k : Kept) → read_of most C R s ≡ answers k → length (pieces_of s) < 2 ^ 64 → IsFile (file_in C R s) s
told-in-form most C R s k e few =
    let t = tells (file_in C R s) most k e in
    bytes-spelled C R s (told-sound (file_in C R s) most k t) (bar-numbers (file_in C R s) most k t) few

-- WRITE AFTER READ: they are its file in the form that its number of cells determines, or, where it is of edition 0 and few cells, its file in form 1, and there is no third
pub told-spelled : (most : ℕ) (C R : List Float) (s : List ℕ) (k : Kept) → read_of most C R s ≡ answers k → length (pieces_of s) < 2 ^ 64
    → (s ≡ file_as (written_form (file_in C R s).reading.cells) (file_in C R s)) ⊎ (((file_in C R s).reading.edition ≡ 0) × ((file_in C R s).reading.cells ≤ few_cells) × (s ≡ file_as 1 (file_in C R s)))
told-spelled most C R s k e few =
    let w = told-in-form most C R s k e few in
    by w.text (form-told (file_in C R s).reading.form (file_in C R s).reading.edition (file_in C R s).reading.cells w.says w.counts)
  where
    fin : State
    fin = file_in C R s

    by : s ≡ file_as fin.reading.form fin → (fin.reading.form ≡ written_form fin.reading.cells) ⊎ ((fin.reading.form ≡ 1) × (fin.reading.edition ≡ 0) × (fin.reading.cells ≤ few_cells))
        → (s ≡ file_as (written_form fin.reading.cells) fin) ⊎ ((fin.reading.edition ≡ 0) × (fin.reading.cells ≤ few_cells) × (s ≡ file_as 1 fin))
    by t (inl f) = inl (t ∙ ap (λ (x : ℕ). file_as x fin) f)
    by t (inr f) = inr (f.1, f.2, t ∙ ap (λ (x : ℕ). file_as x fin) f.0)

-- SO NO TWO FILES OF A FORM tell the same: two that leave the same form, edition, bar, counts and numbers, ring order counted, are the same bytes
pub told-unique : (most : ℕ) (C R : List Float) (s u : List ℕ) (k j : Kept) → read_of most C R s ≡ answers k → read_of most C R u ≡ answers j → length (pieces_of s) < 2 ^ 64 → length (pieces_of u) < 2 ^ 64
    → (file_in C R s).reading.form ≡ (file_in C R u).reading.form → (file_in C R s).reading.edition ≡ (file_in C R u).reading.edition
    → (file_in C R s).reading.bar ≡ (file_in C R u).reading.bar → (file_in C R s).cells ≡ (file_in C R u).cells → (file_in C R s).reading.cells ≡ (file_in C R u).reading.cells → (file_in C R s).rings ≡ (file_in C R u).rings
    → (file_in C R s).reading.rings ≡ (file_in C R u).reading.rings → s ≡ u
told-unique most C R s u k j e f a b v d p q n r m =
    (told-in-form most C R s k e a).text ∙ (λ i. file_of (opening (v i) (d i) (p i)) (q i) (n i) (r i) (m i)) ∙ sym (told-in-form most C R u j f b).text
