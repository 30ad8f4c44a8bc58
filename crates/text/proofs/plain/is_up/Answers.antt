-- `text::plain::is_up` meets its contract. Assumes nothing.
use Rattle.text.proofs.Nine.{up-other, up-half}
use Rattle.text.proofs.plain.is_up.Goals as goal

pub returns-then-high : goal.returns-then-high
returns-then-high c = up-other _ _ _ c.requires c.if-high.true

pub returns : goal.returns
returns c = up-half _ _ _ c.if-high.false
