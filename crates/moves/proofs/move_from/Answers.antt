-- `moves::move_from` meets its contract. Assumes nothing.
use mathlib.Core.Path.{sym, ap, ◌∙◌}
use native.Mathlib.Omega.{arith}
use borrow.Author.Rules.{rules}
use Rattle.refusals.specs.declared.Refused.{Refused}
use Rattle.refusals.specs.Number.{reason_in, paper_of}
use Rattle.refusals.specs.Paper.{refuses}
use Rattle.refusals.proofs.Exits.{plain_exit}
use Rattle.stock.proofs.Bins.{HeldSpec}
use Rattle.moves.proofs.Moving.{move-refused, move-short}
use Rattle.moves.proofs.Kept.{kept-refused, move-keeps}
use Rattle.moves.proofs.move_from.Goals as goal

pub returns-then-room-list : goal.returns-then-room-list
returns-then-room-list c = let a = c.args in
    kept-refused _ _ _ _ _ _ _ (ap (λ (r : Refused). refuses (reason_in r)) c.from.ensures)
    (move-short a.stock a.cells.now a.blocks.now a.rings.now a.list a.indices.now a.records.now a.removed.now _ (sym c.cells_fit.ensures ∙ ap paper_of c.in_ok-n.was) (omega (arith, c.room.ensures)))

pub returns-in_err-n : goal.returns-in_err-n
returns-in_err-n c = kept-refused _ _ _ _ _ _ _ (plain_exit _ _ c.from_residual.ensures.1) (move-refused _ _ _ _ _ _ _ _ _ (sym c.cells_fit.ensures ∙ ap paper_of c.in_err-n.was))

pub returns : goal.returns
returns c = let a = c.args in
    let g = c.well_formed.0 in
    let held : HeldSpec a.stock.spec = record { z-min = search (rules, g); z-max = search (rules, g); outer = search (rules, g); bore = search (rules, g.1.1.0); cell = search (rules, g.1.1.0) } in
    move-keeps a.stock a.cells.now a.blocks.now a.rings.now a.list a.indices.now a.records.now a.removed.now _ held c.slice_known-1.given c.slice_known-2-1.given
    (sym c.cells_fit.ensures ∙ ap paper_of c.in_ok-n.was) (omega (arith, c.room.ensures, c.if-room-list.false)) _ _ _ _ c.move_in.ensures
