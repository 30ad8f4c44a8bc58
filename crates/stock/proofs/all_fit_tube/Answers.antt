-- `stock::all_fit_tube` meets its contract. The loop's invariant: what is found so far is said of the cells passed. Assumes nothing.
use Rattle.std.proofs.Common.{◌≡◌, refl, arith}
use Rattle.stock.specs.Cell.{fit_to}
use Rattle.stock.proofs.Cells.{fit-more}
use Rattle.stock.proofs.all_fit_tube.Goals as goal

pub loop-i-init : goal.loop-i-init
unfolding fit_to
loop-i-init c = refl

pub loop-i-preserved : goal.loop-i-preserved
loop-i-preserved c = simp (fit-more, c.fits_tube-ok.ensures, c.cell_from.ensures, c.loop-i.invariant)

pub returns : goal.returns
returns c = let e : c.loop-i.i ≡ c.args.n = omega arith in
    rw (← e) c.loop-i.invariant
