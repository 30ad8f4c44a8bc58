-- `changes::commit_unasked` meets its contract. Assumes nothing.
use mathlib.Core.Path.{refl, sym, ap, ◌∙◌}
use Prim.Native.Nat.{min}
use lib.ListN.{length}
use Rattle.refusals.specs.Number.{placed_of}
use Rattle.refusals.specs.Paper.{Paper}
use Rattle.refusals.proofs.Exits.{placed_exit}
use Rattle.stock.specs.declared.TurnStockSpec.{TurnStockSpec}
use Rattle.stock.specs.Spec.{clean_spec}
use Rattle.changes.specs.Change.{room_of, changes_from}
use Rattle.changes.specs.Commit.{stock_at, first_refusal}
use Rattle.changes.specs.Decide.{raised_of}
use Rattle.changes.proofs.Decided.{raised-in, puts-in, written, refused, handed_on}
use Rattle.changes.proofs.commit_unasked.Goals as goal

pub returns-in_err-after : goal.returns-in_err-after
returns-in_err-after c = let a = c.args in
    let k = a.stock in
    let g = k.stamp.generation in
    let s = clean_spec k.spec in
    refused k _ a.cells.now _
    (placed_exit _ c.in_err-after.field-0.0 c.from_residual.ensures.1
    ∙ ap placed_of (sym c.in_err-after.was)
    ∙ c.raised.ensures
    ∙ ap (λ (p : Paper (Unit {0})). stock_at k (raised_of p g)) (c.first_refusal-found.ensures ∙ ap (λ (x : TurnStockSpec). first_refusal x a.n a.cells.now a.indices.now a.records.now a.k) c.clean_spec-s.ensures)
    ∙ ap (stock_at k) (raised-in s a.n a.cells.now g _))
    (handed_on _ _ c.from_residual.ensures.1)

pub returns : goal.returns
returns c = let a = c.args in
    let k = a.stock in
    let g = k.stamp.generation in
    let s = clean_spec k.spec in
    let l = changes_from a.indices.now a.records.now (min a.k (room_of (length a.indices.now) (length a.records.now))) in
    written k _ a.cells.now _
    (ap placed_of (sym c.in_ok-after.was)
    ∙ c.raised.ensures
    ∙ ap (λ (p : Paper (Unit {0})). stock_at k (raised_of p g)) (c.first_refusal-found.ensures ∙ ap (λ (x : TurnStockSpec). first_refusal x a.n a.cells.now a.indices.now a.records.now a.k) c.clean_spec-s.ensures)
    ∙ ap (stock_at k) (raised-in s a.n a.cells.now g l))
    g l (puts-in a.cells.now g l s a.n) refl _ c.put_after.ensures
