-- `envelope::within_refusal` meets its contract. Assumes nothing.
use Rattle.refusals.specs.Paper.{papers}
use Rattle.refusals.proofs.Exits.{same_exit}
use Rattle.envelope.specs.Envelope.{within_refusal_of}
use Rattle.envelope.proofs.within_refusal.Goals as goal

pub returns-in_err-within_span : goal.returns-in_err-within_span
unfolding within_refusal_of
returns-in_err-within_span c = search (papers, same_exit _ _ c.from_residual.ensures.1, c.in_err-within_span.was, ← c.within_span.ensures)

pub returns : goal.returns
unfolding within_refusal_of
returns c = search (papers, c.in_ok-within_span.was, ← c.within_span.ensures)
