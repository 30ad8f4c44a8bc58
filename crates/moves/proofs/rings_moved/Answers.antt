-- `moves::rings_moved` meets its contract. Assumes nothing.
use mathlib.Core.Path.{refl, ap}
use native.Mathlib.Omega.{arith}
use Rattle.refusals.specs.declared.Refused.{Refused}
use Rattle.refusals.specs.Number.{reason_in, placed_of}
use Rattle.refusals.specs.Paper.{refuses}
use Rattle.refusals.proofs.Exits.{placed_exit}
use Rattle.moves.proofs.Moving.{takes_none, refuses-12, refuses-11, takes_all}
use Rattle.moves.proofs.rings_moved.Goals as goal

pub overflow_sub-generation : goal.overflow_sub-generation
overflow_sub-generation c = omega (arith, c.well_formed.0)

pub returns-then-generation-raised : goal.returns-then-generation-raised
returns-then-generation-raised c = takes_none _ _ _ _ _ (ap (λ (r : Refused). refuses (reason_in r)) c.from.ensures) (refuses-12 _ _ _ _ c.raised_by-raised.ensures (omega (arith, c.well_formed.0)) c.if-generation-raised.true) refl

pub returns-in_err-stored : goal.returns-in_err-stored
returns-in_err-stored c = refuses-11 _ _ _ _ c.raised_by-raised.ensures c.if-generation-raised.false _ _ c.remove_rings.ensures _ _ (placed_exit _ _ c.from_residual.ensures.1) (ap placed_of c.in_err-stored.was)

pub returns : goal.returns
returns c = takes_all _ _ _ _ c.raised_by-raised.ensures c.if-generation-raised.false _ _ c.remove_rings.ensures _ c.in_ok-stored.was
