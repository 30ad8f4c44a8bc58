-- `moves::take_rings` meets its contract. Assumes nothing.
use mathlib.Core.Path.{refl, sym, ap, ◌∙◌}
use Rattle.refusals.specs.Number.{placed_of}
use Rattle.refusals.proofs.Exits.{placed_exit}
use Rattle.moves.proofs.Moving.{takes_none, taken-stops, taken-change, taken_is, same-rings}
use Rattle.moves.proofs.take_rings.Goals as goal

pub returns-in_err-movable : goal.returns-in_err-movable
returns-in_err-movable c = takes_none _ _ _ _ _ (placed_exit _ _ c.from_residual.ensures.1) (taken-stops _ _ _ _ _ _ _ _ _ (sym c.movable.ensures ∙ ap placed_of c.in_err-movable.was)) refl

pub returns-in_err-found : goal.returns-in_err-found
returns-in_err-found c = takes_none _ _ _ _ _ (placed_exit _ _ c.from_residual-in_err-found.ensures.1)
    (taken-change _ _ _ _ _ _ _ _ _ (sym c.movable.ensures ∙ ap placed_of c.in_ok-movable.was) (ap placed_of c.in_err-found.was)) refl

pub returns : goal.returns
returns c = same-rings _ _ _ _ _
    (taken_is _ _ _ _ _ _ _ _ (sym c.movable.ensures ∙ ap placed_of c.in_ok-movable.was) (ap placed_of c.in_ok-found.was))
    c.rings_moved.ensures
