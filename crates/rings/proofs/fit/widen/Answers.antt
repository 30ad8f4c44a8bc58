-- `rings::fit::widen` meets its contract. Assumes nothing.
use mathlib.Core.Path.{ap, ◌∙◌}
use lib.Dec.{eqb}
use Prim.Native.Nat.{◌/◌, ◌%◌}
use Rattle.rings.specs.declared.Ring.{Ring}
use Rattle.rings.specs.Store.{write}
use Rattle.rings.specs.Block.{box_with, boxes_with}
use Rattle.rings.proofs.fit.widen.Goals as goal

pub returns : goal.returns
unfolding boxes_with
returns c = let i = c.args.i in
    let q = c.args.q in
    let boxes = c.args.boxes.now in
    c.write_ring.ensures ∙ ap (λ (b : Ring). write boxes (i / 16) b) (c.widened-b.ensures ∙ ap (λ (b : Ring). box_with (eqb (i % 16) 0) b q) c.ring_at.ensures)
