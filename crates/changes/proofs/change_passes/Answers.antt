-- `changes::change_passes` meets its contract. Assumes nothing.
use mathlib.Core.Path.{sym, ◌∙◌}
use Rattle.refusals.specs.Paper.{papers}
use Rattle.floats.specs.Pick.{picks}
use Rattle.changes.specs.Commit.{passes}
use Rattle.changes.proofs.Decided.{at_once}
use Rattle.changes.proofs.change_passes.Goals as goal

pub returns-then-not-cell_fits : goal.returns-then-not-cell_fits
unfolding passes
returns-then-not-cell_fits c = search (papers, picks, ← c.cell_fits.ensures)

pub returns-then-applies_to : goal.returns-then-applies_to
unfolding passes
returns-then-applies_to c = search (papers, picks, ← c.cell_fits.ensures, at_once _ _ _ (sym c.applies_to.ensures ∙ c.if-applies_to.true))

pub returns : goal.returns
unfolding passes
returns c = search (papers, picks, c.asked.ensures, ← c.cell_fits.ensures)
