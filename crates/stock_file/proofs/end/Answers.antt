-- `stock_file::end` meets its contract. Assumes nothing.
use mathlib.Core.Path.{◌∙◌}
use Rattle.stock_file.proofs.Ends.{ended-stopped, ended-cut, ended-missing, ended-whole}
use Rattle.stock_file.proofs.end.Goals as goal

pub returns-then-reading : goal.returns-then-reading
returns-then-reading c = ended-stopped _ _ c.if-reading.true

pub returns-then-len-ne0 : goal.returns-then-len-ne0
returns-then-len-ne0 c = c.refuse.ensures ∙ ended-cut _ _ c.if-reading.false c.if-len-ne0.true

pub returns-then-reading-lt2 : goal.returns-then-reading-lt2
returns-then-reading-lt2 c = c.refuse-then-reading-lt2.ensures ∙ ended-missing _ _ c.if-reading.false c.if-len-ne0.false c.if-reading-lt2.true

pub returns : goal.returns
returns c = ended-whole _ _ c.if-reading.false c.if-len-ne0.false c.if-reading-lt2.false
