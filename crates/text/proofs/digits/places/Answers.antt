-- `text::digits::places` meets its contract. Assumes nothing.
use Rattle.std.proofs.Common.{◌-◌, arith, rules}
use Rattle.text.proofs.Spelling.{more-none, more-end, places-step}
use Rattle.text.proofs.digits.places.Goals as goal

pub loop-k-init : goal.loop-k-init
loop-k-init c = omega arith

pub returns-then-rest-eq0 : goal.returns-then-rest-eq0
returns-then-rest-eq0 c = (omega (arith, more-none (19 - c.loop-k.k) c.loop-k.rest c.if-rest-eq0.true), search rules)

pub loop-k-preserved : goal.loop-k-preserved
loop-k-preserved c = (omega (arith, places-step c.loop-k.k c.loop-k.rest c.loop-k-test.true c.if-rest-eq0.false))

pub returns : goal.returns
returns c = (omega (arith, more-end (19 - c.loop-k.k) c.loop-k.rest (omega arith)), search rules)
