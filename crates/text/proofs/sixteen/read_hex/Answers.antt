-- `text::sixteen::read_hex` meets its contract. Assumes nothing.
use Rattle.std.proofs.Common.{◌∙◌, arith}
use Rattle.text.proofs.Reading.{tab-field, no-tab, field-short}
use Rattle.text.proofs.sixteen.read_hex.Goals as goal

pub returns-then-n-lt17 : goal.returns-then-n-lt17
returns-then-n-lt17 c = let a = c.args in field-short a.s.now a.at (omega arith)

pub returns-then-n-at : goal.returns-then-n-at
returns-then-n-at c = let a = c.args in field-short a.s.now a.at (omega arith)

pub returns-then-s-at-eq9 : goal.returns-then-s-at-eq9
returns-then-s-at-eq9 c = let a = c.args in c.hex_at.ensures ∙ tab-field a.s.now a.at c.if-s-at-eq9.true

pub returns : goal.returns
returns c = let a = c.args in no-tab a.s.now a.at c.if-s-at-eq9.false
