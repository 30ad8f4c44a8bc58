-- `moves::store_parts` meets its contract. Assumes nothing.
use mathlib.Core.Path.{sym, ap, ◌∙◌}
use Rattle.refusals.specs.Number.{paper_of}
use Rattle.refusals.proofs.Exits.{plain_exit}
use Rattle.moves.proofs.Parting.{parts-refused, parts-count, parts-stored}
use Rattle.moves.proofs.store_parts.Goals as goal

pub returns-then-len-blocks_in : goal.returns-then-len-blocks_in
returns-then-len-blocks_in c = parts-count _ _ _ _ _ _ _ (sym c.cells_fit.ensures ∙ ap paper_of c.in_ok-n.was) c.blocks_in.ensures _ c.from.ensures c.if-len-blocks_in.true

pub returns-in_err-n : goal.returns-in_err-n
returns-in_err-n c = parts-refused _ _ _ _ _ _ _ (plain_exit _ _ c.from_residual.ensures.1) (sym c.cells_fit.ensures ∙ ap paper_of c.in_err-n.was)

pub returns : goal.returns
returns c = parts-stored _ _ _ _ _ _ _ (sym c.cells_fit.ensures ∙ ap paper_of c.in_ok-n.was) c.blocks_in.ensures _ _ c.if-len-blocks_in.false c.store_given.ensures
