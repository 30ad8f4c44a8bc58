-- `rings::fit::all_fit` meets its contract. The loop's invariant: where all is well so far, each ring passed fits. Assumes nothing.
use native.Mathlib.Omega.{arith}
use mathlib.Core.Path.{◌≡◌, sym, ap, ◌∙◌}
use mathlib.Core.Bool.{true}
use Rattle.rings.specs.Store.{ring_at, ring_fits}
use Rattle.rings.proofs.Sweeping.{both, more}
use Rattle.rings.proofs.fit.all_fit.Goals as goal

pub loop-i-init : goal.loop-i-init
loop-i-init c = λ e. record { each = λ j l. absurd (omega arith) }

pub loop-i-preserved : goal.loop-i-preserved
loop-i-preserved c = let loop = c.loop-i in
    λ e. let g = both _ _ e in record { each = more (λ j. ring_fits c.args.e (ring_at c.args.stored.rings.now j) ≡ true) loop.i (loop.invariant g.0).each (ap (ring_fits c.args.e) (sym c.at.ensures) ∙ sym c.ring_fits-ok.ensures ∙ g.1) }

pub returns : goal.returns
returns c = λ e. record { each = λ j l. (c.loop-i.invariant e).each j (omega arith) }
