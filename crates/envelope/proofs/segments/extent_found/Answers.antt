-- `envelope::segments::extent_found` meets its contract. Assumes nothing.
use mathlib.Core.Path.{sym}
use Rattle.envelope.proofs.Aside.{found_none, found_some}
use Rattle.envelope.proofs.segments.extent_found.Goals as goal

pub returns-then-found-eq0 : goal.returns-then-found-eq0
returns-then-found-eq0 c = sym (found_none c.args.found c.if-found-eq0.true)

pub returns : goal.returns
returns c = sym (found_some c.args.found c.if-found-eq0.false)
