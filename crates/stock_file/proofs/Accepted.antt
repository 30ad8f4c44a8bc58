-- Read after write of a stock that 1 to 4 accept: it reads as that stock. Assumes nothing.
use Prim.Native.Nat.{ℕ, zero, suc, ◌+◌, ◌*◌, ◌/◌, ◌≤◌, ◌<◌}
use native.Mathlib.Omega.{arith}
use native.Mathlib.Nat.{min-le_left, min-le_right, le-min}
use mathlib.Core.Path.{◌≡◌, refl, sym, ap, ◌∙◌}
use mathlib.Core.Bool.{Bool, true, false, not, ◌&&◌}
use mathlib.Core.List.{List, [], ◌∷◌, ◌++◌, append_assoc}
use lib.Dec.{eqb, leb}
use lib.ListN.{length, take, drop, get_or, get_or-append}
use lib.Seq.{take-suc, take_all, take-append_seam, get_or-take}
use lib.Ieee.{Float, nan, eq}
use borrow.Author.Tests.{le-leb, ne_eqb}
use Rattle.refusals.specs.Lent.{over}
use Rattle.refusals.specs.Limits.{cell_limit}
use Rattle.refusals.specs.Paper.{answers, demand, demand-true}
use Rattle.refusals.proofs.Written.{length_over}
use Rattle.floats.specs.Pick.{pick, pick_true, pick-false}
use Rattle.floats.specs.Numbers.{zero64, clean_of}
use Rattle.numbers.specs.Whole.{whole_up}
use Rattle.stock.specs.declared.TurnStockSpec.{TurnStockSpec}
use Rattle.stock.specs.Spec.{clean_spec, spec_good, quotient, counted, cells_of}
use Rattle.stock.specs.Cell.{cell_at, cell_fits, fit_to, cells_fit, stock_of}
use Rattle.stock.proofs.Count.{checked, stocked, stock-is, stock-length, and_both}
use Rattle.rings.specs.declared.Ring.{Ring}
use Rattle.rings.specs.Store.{ring_at, rings_of, bar_ring, room_for_rings, store_fits, count_fits}
use Rattle.rings.proofs.Removing.{fits-within}
use Rattle.stock_lines.specs.Reading.{State}
use Rattle.stock_file.specs.Read.{spec_of, front_of, stocked_of, told_as, read_of}
use Rattle.stock_file.specs.Write.{bar_of, opening, file_of}
use Rattle.stock_file.proofs.Ends.{front_long, told-stock}
use Rattle.stock_file.proofs.LineSteps.{reading}
use Rattle.stock_file.proofs.ReadBack.{fours_to, fours-long, Kept, reads-back}

-- ---- the spec that is read is the clean one, with the reader's limit

clean-zero : clean_of zero64 ≡ zero64
unfolding clean_of
clean-zero = by (eq zero64 zero64)
  where
    by : (t : Bool) → pick t zero64 zero64 ≡ zero64
    by true = pick_true _ _ _ refl
    by false = pick-false _ _ _ refl

clean-twice : (x : Float) → clean_of (clean_of x) ≡ clean_of x
unfolding clean_of
clean-twice x = by (eq x zero64) refl
  where
    by : (t : Bool) → eq x zero64 ≡ t → clean_of (clean_of x) ≡ clean_of x
    by true e = let q : clean_of x ≡ zero64 = pick_true _ _ _ e in ap clean_of q ∙ clean-zero ∙ sym q
    by false e = ap clean_of (pick-false _ _ _ e)

-- the clean spec with another limit
abbrev with_most : TurnStockSpec → ℕ → TurnStockSpec
with_most s most = record { z_min_mm = s.z_min_mm; z_max_mm = s.z_max_mm; outer_radius_mm = s.outer_radius_mm; bore_radius_mm = s.bore_radius_mm; cell_mm = s.cell_mm; max_cells = most }

module _ (spec : TurnStockSpec) (most : ℕ) where
  abbrev again : TurnStockSpec
  again = spec_of (bar_of spec) most

  pub clean-again : clean_spec again ≡ with_most (clean_spec spec) most
  unfolding clean_spec
  clean-again = λ j. record {
    z_min_mm = clean-twice spec.z_min_mm j;
    z_max_mm = clean-twice spec.z_max_mm j;
    outer_radius_mm = clean-twice spec.outer_radius_mm j;
    bore_radius_mm = clean-twice spec.bore_radius_mm j;
    cell_mm = clean-twice spec.cell_mm j;
    max_cells = most;
  }

  module _ (n : ℕ) (e : cells_of spec ≡ answers n) (h : n ≤ most) where
    count-again : cells_of again ≡ answers n
    unfolding cells_of spec_good
    count-again =
        let c = checked spec n e in
        let some-cells : not (eqb n 0) ≡ true = ap not (ne_eqb n 0 (λ z. omega (arith, c.some-cells))) in
        let all : (not (eqb n 0) && leb n most) ≡ true = ap (λ (t : Bool). t && leb n most) some-cells ∙ le-leb n most h in
        ap (λ (s : TurnStockSpec). demand (spec_good s) 1 (counted s.max_cells (whole_up (quotient s) cell_limit))) clean-again
        ∙ demand-true _ _ _ c.good
        ∙ ap (counted most) c.whole
        ∙ demand-true _ _ _ all

    fits-again : (cs : List Float) (i : ℕ) → fit_to (with_most (clean_spec spec) most) cs i ≡ fit_to (clean_spec spec) cs i
    unfolding fit_to cell_fits
    fits-again cs zero = refl
    fits-again cs (suc i) = ap (λ (t : Bool). t && cell_fits (clean_spec spec) (cell_at cs i)) (fits-again cs i)

    stock-again : (cs : List Float) → cells_fit (clean_spec spec) cs n ≡ true → stock_of again cs ≡ answers n
    unfolding cells_fit
    stock-again cs f =
        stock-is again cs n count-again
        ∙ demand-true _ _ _ (ap (λ (s : TurnStockSpec). cells_fit s cs n) clean-again ∙ ap (λ (t : Bool). eqb (length cs) (4 * n) && t) (fits-again cs n) ∙ f)

-- ---- the numbers that are found

four-more : (xs : List Float) (t : ℕ) → t + 4 ≤ length xs → take (suc (suc (suc (suc t)))) xs ≡ take t xs ++ (get_or xs t nan ∷ get_or xs (suc t) nan ∷ get_or xs (suc (suc t)) nan ∷ get_or xs (suc (suc (suc t))) nan ∷ [])
four-more xs t h =
    take-suc xs (suc (suc (suc t))) nan (omega arith)
    ∙ ap (λ (y : List Float). y ++ (get_or xs (suc (suc (suc t))) nan ∷ [])) (take-suc xs (suc (suc t)) nan (omega arith) ∙ ap (λ (y : List Float). y ++ (get_or xs (suc (suc t)) nan ∷ [])) (take-suc xs (suc t) nan (omega arith) ∙ ap (λ (y : List Float). y ++ (get_or xs (suc t) nan ∷ [])) (take-suc xs t nan (omega arith))))
    ∙ simp append_assoc

fours-take : (xs : List Float) (i : ℕ) → 4 * i ≤ length xs → fours_to xs i ≡ take (4 * i) xs
unfolding fours_to
fours-take xs zero h = refl
fours-take xs (suc i) h =
    let e1 : 4 * i + 1 ≡ suc (4 * i) = omega arith in
    let e2 : 4 * i + 2 ≡ suc (suc (4 * i)) = omega arith in
    let e3 : 4 * i + 3 ≡ suc (suc (suc (4 * i))) = omega arith in
    let e4 : suc (suc (suc (suc (4 * i)))) ≡ 4 * suc i = omega arith in
    (λ j. fours-take xs i (omega arith) j ++ (get_or xs (4 * i) nan ∷ get_or xs (e1 j) nan ∷ get_or xs (e2 j) nan ∷ get_or xs (e3 j) nan ∷ []))
    ∙ sym (four-more xs (4 * i) (omega arith))
    ∙ ap (λ (k : ℕ). take k xs) e4

front-again : (xs b : List Float) (n : ℕ) → length xs ≡ 4 * n → 4 * n ≤ length b → xs ≡ front_of n (over (fours_to xs n) b)
unfolding over
front-again xs b n e h =
    let l = fours-long xs n in
    let w : n ≤ length (over (fours_to xs n) b) / 4 = omega (arith, length_over (fours_to xs n) b (omega (arith, l))) in
    sym (fours-take xs n (omega arith) ∙ take_all (4 * n) xs (omega arith))
    ∙ sym (take-append_seam (fours_to xs n) (drop (length (fours_to xs n)) b))
    ∙ ap (λ (k : ℕ). take k (over (fours_to xs n) b)) l
    ∙ front_long n (over (fours_to xs n) b) w

found-again : (xs b : List Float) (m i : ℕ) → 4 * m ≤ length xs → i < 4 * m → get_or (over (fours_to xs m) b) i nan ≡ get_or xs i nan
unfolding over
found-again xs b m i h k =
    get_or-append (fours_to xs m) (drop (length (fours_to xs m)) b) nan i (omega (arith, fours-long xs m))
    ∙ ap (λ (y : List Float). get_or y i nan) (fours-take xs m h)
    ∙ get_or-take (4 * m) xs i nan k

rings-again : (xs b : List Float) (m i : ℕ) → 4 * m ≤ length xs → i ≤ m → rings_of i (over (fours_to xs m) b) ≡ rings_of i xs
unfolding rings_of
rings-again xs b m zero h k = refl
rings-again xs b m (suc i) h k =
    let q0 : get_or (over (fours_to xs m) b) (4 * i) nan ≡ get_or xs (4 * i) nan = found-again xs b m (4 * i) h (omega arith) in
    let q1 : get_or (over (fours_to xs m) b) (4 * i + 1) nan ≡ get_or xs (4 * i + 1) nan = found-again xs b m (4 * i + 1) h (omega arith) in
    let q2 : get_or (over (fours_to xs m) b) (4 * i + 2) nan ≡ get_or xs (4 * i + 2) nan = found-again xs b m (4 * i + 2) h (omega arith) in
    let q3 : get_or (over (fours_to xs m) b) (4 * i + 3) nan ≡ get_or xs (4 * i + 3) nan = found-again xs b m (4 * i + 3) h (omega arith) in
    let r : ring_at (over (fours_to xs m) b) i ≡ ring_at xs i = λ j. record { z0 = q0 j; z1 = q1 j; r0 = q2 j; r1 = q3 j } in
    (λ j. rings-again xs b m i h (omega arith) j ++ (r j ∷ []))

store-again : (e : Ring) (xs b : List Float) (m : ℕ) → count_fits e xs m ≡ true → 4 * m ≤ length b → count_fits e (over (fours_to xs m) b) m ≡ true
unfolding count_fits
store-again e xs b m f h =
    let w = fits-within e xs m f in
    let v : m ≤ length xs / 4 = omega (arith, w, min-le_left (length xs / 4) 256) in
    let u : m ≤ 256 = omega (arith, w, min-le_right (length xs / 4) 256) in
    let l = length_over (fours_to xs m) b (omega (arith, fours-long xs m)) in
    let o : m ≤ length (over (fours_to xs m) b) / 4 = omega (arith, l) in
    let r : leb m (room_for_rings (length (over (fours_to xs m) b))) ≡ true = le-leb _ _ (le-min o u) in
    ap (λ (t : Bool). t && store_fits e (rings_of m (over (fours_to xs m) b))) r
    ∙ ap (store_fits e) (rings-again xs b m m (omega arith) (omega arith))
    ∙ (and_both (leb m (room_for_rings (length xs))) (store_fits e (rings_of m xs)) f).1

-- READ AFTER WRITE: a stock that 1 to 4 accept, of numbers that can be kept, reads back in each form that can say its edition as the same clean spec, with the reader's limit, as that edition at generation 0, and as the same counts, in a room that reaches and where the limit does
pub accepted-back : (form edition : ℕ) (spec : TurnStockSpec) (cs rs : List Float) (n m most : ℕ) → stock_of spec cs ≡ answers n → count_fits (bar_ring (clean_spec spec)) rs m ≡ true → n ≤ most → Kept (opening form edition (bar_of spec)) cs n rs m
    → (room space : List Float) → 4 * n ≤ length room → 4 * m ≤ length space
    → read_of most room space (file_of (opening form edition (bar_of spec)) cs n rs m) ≡ answers (stocked_of (spec_of (bar_of spec) most) edition n m)
unfolding clean_spec
accepted-back form edition spec cs rs n m most e f h kept room space wide deep =
    let s = stocked spec cs n e in
    let D : List Float = over (fours_to cs n) room in
    let S : List Float = over (fours_to rs m) space in
    let c : count_fits (bar_ring (clean_spec (spec_of (bar_of spec) most))) S m ≡ true =
    ap (λ (x : TurnStockSpec). count_fits (bar_ring x) S m) (clean-again spec most) ∙ store-again (bar_ring (clean_spec spec)) rs space m f deep in
    ap (λ (x : State). told_as x.reading most x.cells x.rings) (reads-back (opening form edition (bar_of spec)) cs n rs m kept room space wide deep)
    ∙ sym (told-stock (reading (opening form edition (bar_of spec)) 2 n m (n + m + 2)) most D S cs (spec_of (bar_of spec) most) refl refl (front-again cs room n (stock-length spec cs n e) wide) n _ (stock-again spec most n s.count h cs s.fit) c refl)
