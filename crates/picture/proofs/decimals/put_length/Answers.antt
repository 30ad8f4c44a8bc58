-- `picture::decimals::put_length` meets its contract. Assumes nothing.
use mathlib.Core.Path.{sym}
use Rattle.text.proofs.Sets.{room}
use Rattle.picture.proofs.Texts.{length-put}
use borrow.Author.Rules.{rules}
use Rattle.picture.proofs.decimals.put_length.Goals as goal

pub slice_bounds-front-end : goal.slice_bounds-front-end
slice_bounds-front-end c = sym (room c.put_units-n.ensures.wrote)

pub returns : goal.returns
returns c = length-put _ (search rules) c.units.ensures c.put_units-n.ensures c.front.ensures c.put.ensures
