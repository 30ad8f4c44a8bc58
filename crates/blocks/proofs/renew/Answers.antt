-- `blocks::renew` meets its contract. Assumes nothing.
use mathlib.Core.Path.{refl, sym, ap, ◌∙◌}
use Rattle.refusals.specs.Number.{paper_of}
use Rattle.refusals.proofs.Exits.{same_exit}
use Rattle.refusals.specs.Paper.{only}
use Rattle.stock.specs.declared.TurnStockSpec.{TurnStockSpec}
use Rattle.blocks.specs.Block.{blocks_of}
use Rattle.blocks.proofs.Renewing.{renew-refused, renew-count, renew-goes, stays, made}
use Rattle.blocks.proofs.renew.Goals as goal

pub returns-then-blocks-count : goal.returns-then-blocks-count
returns-then-blocks-count c = stays _ _ _ _ (only 20) refl (renew-count _ _ _ c.in_ok-n.n _ (sym c.cells_fit.ensures ∙ ap paper_of c.in_ok-n.was) c.blocks_in-count.ensures c.if-blocks-count.true)

pub returns-in_err-n : goal.returns-in_err-n
returns-in_err-n c = stays _ _ _ _ _ (same_exit _ _ c.from_residual.ensures.1) (renew-refused _ _ _ _ (sym c.cells_fit.ensures ∙ ap paper_of c.in_err-n.was))

pub returns : goal.returns
returns c = made _ _ _ _ c.in_ok-n.n
    (renew-goes _ _ _ c.in_ok-n.n _ (sym c.cells_fit.ensures ∙ ap paper_of c.in_ok-n.was) c.blocks_in-count.ensures c.if-blocks-count.false)
    (c.write_all.ensures ∙ ap (λ (s : TurnStockSpec). blocks_of s c.in_ok-n.n c.args.cells.now) c.clean_spec.ensures)
