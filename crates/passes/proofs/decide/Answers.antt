-- `passes::decide` meets its contract. Assumes nothing.
use Rattle.std.proofs.Common.{◌≡◌, ℕ, Option, Some, None, unwrap_or}
use mathlib.Core.Path.{refl, sym, ap}
use Rattle.refusals.specs.Paper.{place_or}
use Rattle.refusals.specs.Number.{reason_in, placed_of}
use Rattle.passes.specs.Cuts.{cuts_of}
use Rattle.passes.proofs.Verdicts.{decided-cut, decided-bins}
use Rattle.passes.proofs.decide.Goals as goal

-- a place, or 0 where none is
or_first : (o : Option ℕ) (j : ℕ) → j ≡ unwrap_or o 0 → place_or 0 o ≡ j
or_first None j e = sym e
or_first (Some k) j e = sym e

pub returns-in-Err : goal.returns-in-Err
returns-in-Err c = let a = c.args in
    decided-cut a.stock a.cells.now a.n a.targets.now (cuts_of a.kinds.now a.numbers.now a.parts.now a.lists.now) _ _ _ c.copy.ensures _ c.make_all-applied.ensures (reason_in c.in-Err.e) c.in-Err.e.why c.unwrap_or.result (ap placed_of c.in-Err.is) refl (or_first c.in-Err.e.place _ c.unwrap_or.ensures) c.copy-in-Err.ensures

pub returns-in-Ok : goal.returns-in-Ok
returns-in-Ok c = let a = c.args in
    decided-bins a.stock a.cells.now a.n a.targets.now (cuts_of a.kinds.now a.numbers.now a.parts.now a.lists.now) _ _ _ c.copy.ensures _ c.make_all-applied.ensures c.in-Ok.s _ c.in-Ok.is c.judge.ensures
