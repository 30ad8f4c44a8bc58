-- `moves::store_given` meets its contract. Assumes nothing.
use mathlib.Core.Path.{sym, ◌∙◌}
use Rattle.moves.proofs.Parting.{given-outside, given-stored}
use Rattle.moves.proofs.store_given.Goals as goal

pub returns-in-Some : goal.returns-in-Some
returns-in-Some c = given-outside _ _ _ c.in-Some.at _ c.at.ensures (sym c.first_bad_ring.ensures ∙ c.in-Some.is)

pub returns : goal.returns
returns c = given-stored _ _ _ _ _ (sym c.first_bad_ring.ensures ∙ c.in_default.is) c.remove_rings.ensures
