-- What is read of a list of cells and written into one. Assumes nothing.
use Rattle.std.proofs.Common.{◌≡◌, ℕ, zero, suc, ◌+◌, ◌*◌, ◌/◌, ◌<◌, ◌≤◌, ◌&&◌, List, length, sym, refl, ap, ◌∙◌, add-one, arith, length-append, le-ltb, lt-ltb}
use lib.ListN.{get_or-eq_default}
use lib.Seq.{sets}
use lib.Ieee.{Float, nan}
use Rattle.refusals.specs.Lent.{over}
use Rattle.refusals.proofs.Written.{length_over, over-more}
use Rattle.floats.specs.Pick.{pick_true, pick-false}
use Rattle.stock.specs.declared.TurnStockSpec.{TurnStockSpec}
use Rattle.stock.specs.declared.TurnCell.{TurnCell}
use Rattle.stock.specs.Cell.{cell_from, cell_at, cell_of_none, four_of, put_cell, cell_fits, fit_to, cells_like}

-- past the end of a list there is no cell
pub no_cell : (xs : List Float) (at : ℕ) → length xs ≤ at → cell_from xs at ≡ cell_of_none
no_cell xs at h =
    let a : length xs ≤ at + 1 = omega arith in
    let b : length xs ≤ at + 2 = omega arith in
    let d : length xs ≤ at + 3 = omega arith in
    simp (get_or-eq_default xs nan h, get_or-eq_default xs nan a, get_or-eq_default xs nan b, get_or-eq_default xs nan d)

-- a list that has the bin takes the cell, and one that has it not stays
pub put-room : (xs : List Float) (i : ℕ) (c : TurnCell) → 4 * i + 4 ≤ length xs → put_cell xs i c ≡ sets xs (4 * i) (four_of c)
unfolding put_cell
put-room xs i c h = pick_true _ _ _ (lt-ltb i (length xs / 4) (omega arith))

pub put-none : (xs : List Float) (i : ℕ) (c : TurnCell) → length xs < 4 * i + 4 → put_cell xs i c ≡ xs
unfolding put_cell
put-none xs i c h = pick-false _ _ _ (le-ltb i (length xs / 4) (omega arith))

-- one cell more fits
pub fit-more : (s : TurnStockSpec) (cs : List Float) (i : ℕ) → fit_to s cs (i + 1) ≡ (fit_to s cs i && cell_fits s (cell_at cs i))
unfolding fit_to
fit-more s cs i = rw (add-one i)

pub length-like : (c : TurnCell) (n : ℕ) → length (cells_like c n) ≡ 4 * n
unfolding cells_like
length-like c zero = refl
length-like c (suc n) = let h = length-like c n in length-append (cells_like c n) (four_of c) ∙ (omega arith)

-- one cell more, written behind i like it
pub like-more : (c : TurnCell) (cs cs₀ : List Float) (i : ℕ) → cs ≡ over (cells_like c i) cs₀ → 4 * i + 4 ≤ length cs₀ → sets cs (4 * i) (four_of c) ≡ over (cells_like c (i + 1)) cs₀
unfolding cells_like
like-more c cs cs₀ i e h =
    let l = length-like c i in
    rw (add-one i, e) (ap (λ (k : ℕ). sets (over (cells_like c i) cs₀) k (four_of c)) (sym l) ∙ over-more (cells_like c i) (four_of c) cs₀ (omega arith))

-- a list of which the first cells are like c is as long as it was
pub length-liked : (c : TurnCell) (cs cs₀ : List Float) (i : ℕ) → cs ≡ over (cells_like c i) cs₀ → 4 * i ≤ length cs₀ → length cs ≡ length cs₀
length-liked c cs cs₀ i e h = ap length e ∙ length_over (cells_like c i) cs₀ (omega (arith, length-like c i))
