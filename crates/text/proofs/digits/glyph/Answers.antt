-- `text::digits::glyph` meets its contract. Assumes nothing.
use Rattle.std.proofs.Common.{arith}
use Rattle.text.proofs.Spelling.{glyph-low, glyph-high}
use Rattle.text.proofs.digits.glyph.Goals as goal

pub returns-then-d-lt10 : goal.returns-then-d-lt10
returns-then-d-lt10 c = omega (arith, glyph-low c.args.d c.if-d-lt10.true)

pub returns-else-d-lt10 : goal.returns-else-d-lt10
returns-else-d-lt10 c = omega (arith, glyph-high c.args.d c.if-d-lt10.false)
