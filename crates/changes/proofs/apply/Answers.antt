-- `changes::apply` meets its contract. Assumes nothing.
use mathlib.Core.Path.{sym, ap, ◌∙◌}
use native.Mathlib.Omega.{arith}
use borrow.Author.Rules.{rules}
use Rattle.refusals.specs.Number.{reason_in, paper_of}
use Rattle.refusals.specs.Paper.{refuses}
use Rattle.refusals.specs.declared.Refused.{Refused}
use Rattle.refusals.proofs.Exits.{plain_exit}
use Rattle.stock.proofs.Bins.{HeldSpec}
use Rattle.changes.proofs.Written.{apply-refused, apply-short, left_at}
use Rattle.changes.proofs.Kept.{kept-refused, apply-keeps}
use Rattle.changes.proofs.apply.Goals as goal

pub returns-then-room-list : goal.returns-then-room-list
returns-then-room-list c = let a = c.args in
    let e = apply-short a.stock a.cells.now a.blocks.now a.list a.indices.now a.records.now _ (sym c.asked_cells.ensures ∙ ap paper_of c.in_ok-n.was) (omega (arith, c.room.ensures)) in
    kept-refused _ _ _ _ _ _ e (left_at _ _ _ _ _ (ap (λ (x : Refused). refuses (reason_in x)) c.from.ensures) e)

pub returns-in_err-n : goal.returns-in_err-n
returns-in_err-n c = let e = apply-refused _ _ _ _ _ _ _ (sym c.asked_cells.ensures ∙ ap paper_of c.in_err-n.was) in
    kept-refused _ _ _ _ _ _ e (left_at _ _ _ _ _ (plain_exit _ _ c.from_residual.ensures.1) e)

pub returns : goal.returns
returns c = let g = c.well_formed.0 in
    let held : HeldSpec c.args.stock.spec = record { z-min = search (rules, g); z-max = search (rules, g); outer = search (rules, g); bore = search (rules, g); cell = search (rules, g.1.1.0) } in
    apply-keeps _ _ _ _ _ _ _ held c.slice_known-1.given c.slice_known-2-1.given (sym c.asked_cells.ensures ∙ ap paper_of c.in_ok-n.was) (omega (arith, c.room.ensures)) _ _ _ c.commit_kept.ensures
