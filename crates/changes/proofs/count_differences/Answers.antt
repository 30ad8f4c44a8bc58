-- `changes::count_differences` meets its contract. The loop's invariant: k differ among the cells passed. Assumes nothing.
use mathlib.Core.Path.{◌≡◌, refl, sym, ap, ap₂, ◌∙◌}
use mathlib.Core.List.{[], ◌∷◌}
use Prim.Native.Nat.{ℕ, ◌+◌}
use native.Mathlib.Omega.{arith}
use borrow.Author.Rules.{rules}
use lib.ListN.{length, length-append}
use Rattle.stock.specs.Cell.{same_cell}
use Rattle.changes.specs.Change.{change_of, changes_to}
use Rattle.changes.proofs.Rising.{kept, made}
use Rattle.changes.specs.Difference.{other_cell}
use Rattle.changes.proofs.count_differences.Goals as goal
use Rattle.changes.proofs.count_differences.Goals.{then-not-same_cell, else-not-same_cell}

pub loop-i-init : goal.loop-i-init
unfolding changes_to
loop-i-init c = (search rules, search rules, refl)

pub loop-i-preserved : goal.loop-i-preserved
loop-i-preserved c = let f = other_cell c.args.after.now in
    let same = ap₂ same_cell (sym c.cell_at-a.ensures) (sym c.cell_at-b.ensures) ∙ sym c.same_cell.ensures in
    elim c.if-not-same_cell.branch [
      | then-not-same_cell w ↦ (omega arith, omega arith, w.k-is ∙ (ap (λ (j : ℕ). j + 1) c.loop-i.invariant.2 ∙ sym (ap length (made f c.args.cells.now c.loop-i.i (same ∙ w.if-not-same_cell.true)) ∙ length-append (changes_to f c.args.cells.now c.loop-i.i) (change_of f c.args.cells.now c.loop-i.i ∷ []))))
      | else-not-same_cell w ↦ (omega arith, omega arith, w.k-is ∙ (c.loop-i.invariant.2 ∙ sym (ap length (kept f c.args.cells.now c.loop-i.i (same ∙ w.if-not-same_cell.false)))))
    ]

pub returns : goal.returns
returns c = let e : c.loop-i.i ≡ c.args.n = omega arith in
    c.loop-i.invariant.2 ∙ ap (λ (j : ℕ). length (changes_to (other_cell c.args.after.now) c.args.cells.now j)) e
