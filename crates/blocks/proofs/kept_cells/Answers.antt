-- `blocks::kept_cells` meets its contract. Assumes nothing.
use mathlib.Core.Path.{sym, ap, ◌∙◌}
use Rattle.refusals.specs.Number.{paper_of}
use Rattle.refusals.proofs.Exits.{same_exit}
use Rattle.stock.specs.declared.TurnStockSpec.{TurnStockSpec}
use Rattle.blocks.specs.Block.{matches_of}
use Rattle.blocks.proofs.Stocks.{kept-refused, kept-unmatched, kept-matched}
use Rattle.blocks.proofs.kept_cells.Goals as goal

pub returns-then-matches : goal.returns-then-matches
returns-then-matches c = let args = c.args in
    kept-matched args.spec args.cells.now args.blocks.now c.in_ok-n.n (sym c.cells_fit.ensures ∙ ap paper_of c.in_ok-n.was)
    (ap (λ (x : TurnStockSpec). matches_of x c.in_ok-n.n args.cells.now args.blocks.now) (sym c.clean_spec.ensures) ∙ sym c.matches.ensures ∙ c.if-matches.true)

pub returns-in_err-n : goal.returns-in_err-n
returns-in_err-n c = same_exit _ _ c.from_residual.ensures.1 ∙ kept-refused _ _ _ _ (sym c.cells_fit.ensures ∙ ap paper_of c.in_err-n.was)

pub returns : goal.returns
returns c = let args = c.args in
    kept-unmatched args.spec args.cells.now args.blocks.now c.in_ok-n.n (sym c.cells_fit.ensures ∙ ap paper_of c.in_ok-n.was)
    (ap (λ (x : TurnStockSpec). matches_of x c.in_ok-n.n args.cells.now args.blocks.now) (sym c.clean_spec.ensures) ∙ sym c.matches.ensures ∙ c.if-matches.false)
