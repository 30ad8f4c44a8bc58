-- `side_streams::gather_file` meets its contract. Assumes nothing.
use mathlib.Core.Path.{sym}
use Rattle.text.proofs.Sets.{room}
use Rattle.side_streams.proofs.Gathered.{line-put}
use borrow.Author.Rules.{rules}
use Rattle.side_streams.proofs.gather_file.Goals as goal

pub slice_bounds-front-end : goal.slice_bounds-front-end
slice_bounds-front-end g c = sym (room c.file_refused-n.ensures.wrote)

pub returns : goal.returns
returns g c = line-put (search rules) c.file_refused-n.ensures c.front.ensures c.fresh.ensures.0 c.put.ensures
