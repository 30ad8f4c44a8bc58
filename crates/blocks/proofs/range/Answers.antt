-- `blocks::range` meets its contract. Assumes nothing.
use mathlib.Core.Path.{sym, ap, ◌∙◌}
use Rattle.refusals.specs.Number.{paper_of}
use Rattle.refusals.proofs.Exits.{same_exit}
use Rattle.blocks.proofs.Ranges.{range-refused}
use Rattle.blocks.proofs.range.Goals as goal

pub returns-in_err-n : goal.returns-in_err-n
returns-in_err-n c = same_exit _ _ c.from_residual.ensures.1 ∙ range-refused _ _ _ _ _ _ (sym c.kept_cells.ensures ∙ ap paper_of c.in_err-n.was)

pub returns : goal.returns
returns c = c.range_kept.ensures.ruled (sym c.kept_cells.ensures ∙ ap paper_of c.in_ok-n.was)
