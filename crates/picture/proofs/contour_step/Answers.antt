-- `picture::contour_step` meets its contract. Assumes nothing.
use Rattle.picture.proofs.Contours.{no_text, its-text}
use Rattle.picture.proofs.contour_step.Goals as goal

pub returns-then-next-k : goal.returns-then-next-k
returns-then-next-k c = let a = c.args in
    let run = c.run_end-next.ensures in
    record { run = run; text = no_text a.look a.side a.spec a.cells1.now a.cells2.now a.s a.k run c.if-next-k.true }

pub put_along-requires : goal.put_along-requires
put_along-requires c = c.put_turn-e.ensures.1

pub returns : goal.returns
returns c = let a = c.args in
    let run = c.run_end-next.ensures in
    record { run = run; text = its-text a.look a.side a.spec a.cells1.now a.cells2.now a.s a.k run c.if-next-k.false c.edge-r.ensures c.put_turn-e.ensures.0 c.far_end.ensures c.put_along.ensures }
