-- `turning::sweeps_c::polygon_by` meets its contract. Assumes nothing.
use mathlib.Core.Path.{sym, ◌∙◌}
use Rattle.changes.proofs.Proposals.{same-listing}
use Rattle.turning.proofs.Given.{by-some, by-none, no-list}
use Rattle.turning.proofs.sweeps_c.polygon_by.Goals as goal

pub returns-in-Some : goal.returns-in-Some
returns-in-Some c = same-listing _ _ _ _ _ _ _ _ (by-some _ _ _ _ c.in-Some.s (sym c.side_of.ensures ∙ c.in-Some.is)) c.preview_polygon.ensures

pub returns-in-None : goal.returns-in-None
returns-in-None c = no-list _ _ _ _ _ (by-none _ _ _ _ (sym c.side_of.ensures ∙ c.in-None.is) ∙ c.no_side.ensures)
