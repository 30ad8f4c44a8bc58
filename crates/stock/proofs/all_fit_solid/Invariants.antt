-- `stock::all_fit_solid` meets its contract. The loop's invariant: what is gathered so far says whether the cells passed fit. Assumes nothing.
use Rattle.std.proofs.Common.{◌≡◌, ◌&&◌, ltb}
use Rattle.stock.specs.Cell.{fit_to}
use Rattle.stock.specs.Signs.{sign_bit}
use Rattle.stock.proofs.all_fit_solid.Given as goal

abbrev pub invariant-loop-i : goal.invariant-loop-i
invariant-loop-i l = ((l.ok && ltb l.bits sign_bit) ≡ fit_to l.s l.cells l.i)
