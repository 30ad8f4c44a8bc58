-- `rings::hand::split_into` meets its contract. Assumes nothing.
use mathlib.Core.Path.{◌∙◌, sym}
use Rattle.rings.proofs.InHand.{grows-whole, grows-around}
use Rattle.rings.proofs.hand.split_into.Goals as goal

pub returns-then-is_apart : goal.returns-then-is_apart
returns-then-is_apart c = grows-whole c.args.p c.args.k (sym c.is_apart.ensures ∙ c.if-is_apart.true) c.push.ensures

pub returns : goal.returns
returns c = let overlap = c.overlap-o in
    grows-around c.args.p c.args.k overlap.result overlap.ensures (sym c.is_apart.ensures ∙ c.if-is_apart.false)
    c.put-a.ensures c.put-b.ensures c.put-c.ensures c.put.ensures
