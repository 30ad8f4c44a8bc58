-- `chop_lines::scan::finish` meets its contract. Assumes nothing.
use Rattle.std.proofs.Common.{◌∙◌}
use Rattle.chop_lines.proofs.Taking.{finish-stopped, finish-cut, finish-empty, finish-done}
use Rattle.chop_lines.proofs.scan.finish.Goals as goal

pub returns-then-scan-ne0 : goal.returns-then-scan-ne0
returns-then-scan-ne0 c = finish-stopped _ _ c.if-scan-ne0.true

pub returns-then-len-ne0 : goal.returns-then-len-ne0
returns-then-len-ne0 c = c.refuse.ensures ∙ finish-cut _ _ c.if-scan-ne0.false c.if-len-ne0.true

pub returns-then-scan-eq0 : goal.returns-then-scan-eq0
returns-then-scan-eq0 c = c.refuse-then-scan-eq0.ensures ∙ finish-empty _ _ c.if-scan-ne0.false c.if-len-ne0.false c.if-scan-eq0.true

pub returns : goal.returns
returns c = finish-done _ _ c.if-scan-ne0.false c.if-len-ne0.false c.if-scan-eq0.false
