-- `changes::first_found` meets its contract. The loop's invariant: the changes passed by all pass. Assumes nothing.
use mathlib.Core.Path.{◌≡◌, refl, sym, ap, ◌∙◌}
use Prim.Native.Nat.{ℕ, ◌+◌}
use native.Mathlib.Omega.{arith}
use borrow.Author.Rules.{rules}
use Rattle.refusals.specs.Number.{reason_in, placed_of}
use Rattle.refusals.specs.Paper.{answers, onward-answers}
use Rattle.refusals.proofs.Exits.{placed_exit}
use Rattle.changes.specs.Change.{changes_from}
use Rattle.changes.specs.Commit.{each_from}
use Rattle.changes.proofs.Decided.{each_next, each-stops}
use Rattle.changes.proofs.first_found.Goals as goal

pub loop-i-init : goal.loop-i-init
unfolding changes_from each_from
loop-i-init c = (search rules, refl)

pub returns-in_err-passes_at : goal.returns-in_err-passes_at
returns-in_err-passes_at c = let a = c.args in
    let e = c.in_err-passes_at.field-0.0 in
    let on = each_next a.cells.now a.s a.n a.indices.now a.records.now c.loop-i.i (answers tt) _ _ (sym c.loop-i.invariant.1) (omega arith) c.change_at-change.ensures (c.passes_at.ensures ∙ sym (onward-answers tt _)) in
    placed_exit _ e c.from_residual.ensures.1
    ∙ sym (each-stops a.cells.now a.s a.n a.indices.now a.records.now (c.loop-i.i + 1) a.k (reason_in e) (omega arith) (sym on ∙ ap placed_of c.in_err-passes_at.was))

pub loop-i-preserved : goal.loop-i-preserved
loop-i-preserved c = let a = c.args in
    let on = each_next a.cells.now a.s a.n a.indices.now a.records.now c.loop-i.i (answers tt) _ _ (sym c.loop-i.invariant.1) (omega arith) c.change_at-change.ensures (c.passes_at.ensures ∙ sym (onward-answers tt _)) in
    (c.loop-i.invariant.0, sym on ∙ ap placed_of c.in_ok-passes_at.was)

pub returns : goal.returns
returns c = let a = c.args in
    let e : c.loop-i.i ≡ a.k = omega arith in
    sym c.loop-i.invariant.1 ∙ ap (λ (j : ℕ). each_from a.s a.n a.cells.now 0 (changes_from a.indices.now a.records.now j)) e
