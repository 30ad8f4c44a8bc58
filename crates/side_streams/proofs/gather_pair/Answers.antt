-- `side_streams::gather_pair` meets its contract. Assumes nothing.
use mathlib.Core.Path.{sym, ap, ◌∙◌}
use Rattle.refusals.specs.Number.{paper_of}
use Rattle.side_streams.proofs.Told.{pair-chunks, pair-refused}
use Rattle.side_streams.proofs.gather_pair.Goals as goal

pub returns-in-Ok : goal.returns-in-Ok
returns-in-Ok g c = pair-chunks _ _ _ _ _ _ _ (sym (ap paper_of c.in-Ok.is) ∙ c.compare-compared.ensures) c.gather_chunks.ensures

pub returns-in-Err : goal.returns-in-Err
returns-in-Err g c = pair-refused _ _ _ _ _ (ap paper_of c.in-Err.is) c.compare-compared.ensures c.gather_refused.ensures
