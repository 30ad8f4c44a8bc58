-- `nose::ends_on` meets its contract. Assumes nothing.
use Rattle.std.specs.Prelude.{Option}
use mathlib.Core.Path.{sym, ap, ◌∙◌}
use lib.Ieee.{Float}
use Rattle.floats.specs.Pick.{picks}
use Rattle.reach.specs.Low.{lower_of}
use Rattle.nose.specs.Track.{end_on}
use Rattle.nose.proofs.ends_on.Goals as goal

pub returns-then-hidden : goal.returns-then-hidden
returns-then-hidden c = let w = c.args.w in
    let l = c.args.c in
    sym (c.hidden.ensures c.if-hidden.true w.rn) ∙ ap (λ (o : Option Float). lower_of (end_on w.a w.rn w.rr l) o) c.end_on-x.ensures

pub returns : goal.returns
returns c = search (picks, ← c.lower.ensures, ← c.end_on.ensures, ← c.end_on-x.ensures)
