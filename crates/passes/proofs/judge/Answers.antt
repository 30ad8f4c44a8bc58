-- `passes::judge` meets its contract. Assumes nothing.
use Rattle.passes.proofs.Verdicts.{judged-missed, judged-met}
use Rattle.passes.proofs.judge.Goals as goal

pub returns-then-i-n : goal.returns-then-i-n
returns-then-i-n c = judged-missed c.args.s _ _ _ _ _ (c.first_miss-i.ensures.missed c.if-i-n.true) c.copy.ensures

pub returns : goal.returns
returns c = judged-met c.args.s _ _ _ (c.first_miss-i.ensures.met c.if-i-n.false)
