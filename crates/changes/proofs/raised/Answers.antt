-- `changes::raised` meets its contract. Assumes nothing.
use mathlib.Core.Path.{sym, ap, ◌∙◌}
use native.Mathlib.Omega.{arith}
use Rattle.std.specs.Prelude.{Result}
use Rattle.refusals.specs.declared.Refused.{Refused}
use Rattle.refusals.specs.Number.{reason_in, placed_of}
use Rattle.refusals.specs.Paper.{answers, refuses}
use Rattle.refusals.proofs.Exits.{placed_exit}
use Rattle.stock.specs.declared.TurnStock.{TurnStock}
use Rattle.changes.specs.Commit.{stock_at}
use Rattle.changes.specs.Decide.{raised_of}
use Rattle.changes.proofs.Decided.{raised-stops, raised-spent, raised-next}
use Rattle.changes.proofs.raised.Goals as goal

pub returns-in_err-found : goal.returns-in_err-found
returns-in_err-found c = let k = c.args.stock in
    let g = k.stamp.generation in
    let e = c.in_err-found.field-0.0 in
    placed_exit _ e c.from_residual.ensures.1 ∙ sym (ap (stock_at k) (ap (λ (f : Result (Unit {0}) Refused). raised_of (placed_of f) g) c.in_err-found.was ∙ raised-stops (reason_in e) g))

pub returns-then-generation : goal.returns-then-generation
returns-then-generation c = let k = c.args.stock in
    let g = k.stamp.generation in
    ap (λ (x : Refused). refuses (reason_in x)) c.from.ensures ∙ sym (ap (stock_at k) (ap (λ (f : Result (Unit {0}) Refused). raised_of (placed_of f) g) c.in_ok-found.was ∙ raised-spent g c.if-generation.true))

pub overflow_add-generation : goal.overflow_add-generation
overflow_add-generation c = omega (arith, c.if-generation.false, c.well_formed)

pub returns : goal.returns
returns c = let k = c.args.stock in
    let g = k.stamp.generation in
    ap (λ (x : TurnStock). answers x) c.stock_with.ensures
    ∙ sym (ap (stock_at k) (ap (λ (f : Result (Unit {0}) Refused). raised_of (placed_of f) g) c.in_ok-found.was ∙ raised-next g (omega (arith, c.if-generation.false, c.well_formed))))
