-- `rings::hand::put` meets its contract. Assumes nothing.
use mathlib.Core.Path.{◌∙◌, sym}
use Rattle.rings.proofs.InHand.{grows-kept, grows-dropped}
use Rattle.rings.proofs.hand.put.Goals as goal

pub returns-then-is_filled : goal.returns-then-is_filled
returns-then-is_filled c = grows-kept c.args.q (sym c.is_filled.ensures ∙ c.if-is_filled.true) c.push.ensures

pub returns : goal.returns
returns c = grows-dropped _ _ _ (sym c.is_filled.ensures ∙ c.if-is_filled.false)
