-- `insert::edges::edge_at` meets its contract. Assumes nothing.
use Rattle.envelope.specs.Envelope.{u_at, v_at}
use Rattle.insert.proofs.Steps.{edge_beside, edge-upright, edge-across}
use Rattle.insert.proofs.edges.edge_at.Goals as goal

pub returns-then-u-least : goal.returns-then-u-least
unfolding u_at
returns-then-u-least c = let a = c.args in
    edge_beside a.w a.polygon.now a.i a.j a.u c.clean-pu.ensures c.clean-qu.ensures c.least.ensures c.greatest.ensures c.if-u-least.true

pub returns-then-qu-pu : goal.returns-then-qu-pu
unfolding u_at v_at
returns-then-qu-pu c = let a = c.args in
    edge-upright a.w a.polygon.now a.i a.j a.u c.clean-pu.ensures c.clean-qu.ensures c.least.ensures c.greatest.ensures
    c.clean-pv.ensures c.clean-qv.ensures c.if-u-least.false c.if-qu-pu.true c.chosen.ensures

pub returns : goal.returns
unfolding u_at v_at
returns c = let a = c.args in
    edge-across a.w a.polygon.now a.i a.j a.u c.clean-pu.ensures c.clean-qu.ensures c.least.ensures c.greatest.ensures
    c.clean-pv.ensures c.clean-qv.ensures c.if-u-least.false c.if-qu-pu.false
