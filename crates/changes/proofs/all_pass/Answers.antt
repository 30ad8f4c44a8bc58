-- `changes::all_pass` meets its contract. The loop's invariant: where the changes passed by all pass, so says the rule. Assumes nothing.
use mathlib.Core.Path.{◌≡◌, refl, sym, ap, ◌∙◌}
use mathlib.Core.Bool.{◌&&◌}
use Prim.Native.Nat.{ℕ}
use native.Mathlib.Omega.{arith}
use borrow.Author.Rules.{rules}
use Rattle.stock.proofs.Count.{and_both}
use Rattle.changes.specs.Change.{changes_from}
use Rattle.changes.specs.Commit.{each_from}
use Rattle.changes.proofs.Decided.{each-passes}
use Rattle.changes.proofs.all_pass.Goals as goal

pub loop-i-init : goal.loop-i-init
unfolding changes_from each_from
loop-i-init c = (search rules, search rules, λ t. refl)

pub loop-i-preserved : goal.loop-i-preserved
loop-i-preserved c = let a = c.args in
    let fits = c.cell_fits-fits.result in
    let applies = c.applies_to.result in (
      omega arith,
      omega arith,
      λ t.
          let u = and_both (c.loop-i.ok && fits) applies t in
          let v = and_both c.loop-i.ok fits u.0 in
          each-passes a.cells.now a.s a.n a.indices.now a.records.now c.loop-i.i _ (c.loop-i.invariant.2 v.0) (omega arith) c.change_at-change.ensures (sym c.cell_fits-fits.ensures ∙ v.1) (sym c.applies_to.ensures ∙ u.1),
    )

pub returns : goal.returns
returns c t = let a = c.args in
    let e : c.loop-i.i ≡ a.k = omega arith in
    ap (λ (j : ℕ). each_from a.s a.n a.cells.now 0 (changes_from a.indices.now a.records.now j)) (sym e) ∙ c.loop-i.invariant.2 t
