-- `queries::envelope_at` meets its contract. Assumes nothing.
use mathlib.Core.Path.{sym, ap, ◌∙◌}
use Rattle.refusals.specs.Number.{paper_of}
use Rattle.refusals.specs.Paper.{papers}
use Rattle.refusals.proofs.Exits.{same_exit}
use Rattle.stock.proofs.Count.{stocked, checked}
use Rattle.queries.specs.Envelope.{envelope_at}
use Rattle.queries.proofs.envelope_at.Goals as goal

pub seen_at-requires : goal.seen_at-requires
seen_at-requires c = let found = sym c.cells_fit.ensures ∙ ap paper_of c.in_ok-n.was in
    (checked _ _ (stocked _ _ _ found).count).some-cells

pub returns-in_err-n : goal.returns-in_err-n
unfolding envelope_at
returns-in_err-n c = search (papers, same_exit _ _ c.from_residual.ensures.1, c.in_err-n.was, ← c.cells_fit.ensures)

pub returns : goal.returns
unfolding envelope_at
returns c = search (papers, ← c.cells_fit.ensures, c.in_ok-n.was, ← c.seen_at.ensures, ← c.clean.ensures, ← c.clean_spec.ensures)
