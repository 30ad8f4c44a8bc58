-- `text::read_whole` meets its contract. Assumes nothing.
use Rattle.std.proofs.Common.{sym, ◌∙◌, arith, rules}
use Rattle.text.proofs.Wholes.{whole-empty, whole_long, whole-start, whole-low, whole-high, whole-step, whole-over, whole-end}
use Rattle.text.proofs.read_whole.Goals as goal

pub returns-then-s-lt1 : goal.returns-then-s-lt1
returns-then-s-lt1 c = sym (whole-empty _ c.if-s-lt1.true)

pub returns-then-s-gt10 : goal.returns-then-s-gt10
returns-then-s-gt10 c = sym (whole_long _ c.if-s-gt10.true)

pub loop-b-init : goal.loop-b-init
loop-b-init c = (search rules, whole-start _ c.if-s-lt1.false c.if-s-gt10.false)

pub returns-then-b-lt48 : goal.returns-then-b-lt48
returns-then-b-lt48 c = sym (c.loop-b.invariant.1 ∙ whole-low _ _ _ c.loop-b-test.true c.if-b-lt48.true)

pub returns-then-b-gt57 : goal.returns-then-b-gt57
returns-then-b-gt57 c = sym (c.loop-b.invariant.1 ∙ whole-high _ _ _ c.loop-b-test.true c.if-b-gt57.true)

pub returns-then-v-gt-LARGEST : goal.returns-then-v-gt-LARGEST
returns-then-v-gt-LARGEST c = sym (c.loop-b.invariant.1 ∙ whole-step _ _ _ _ c.loop-b-test.true c.if-b-lt48.false c.if-b-gt57.false c.from.ensures ∙ whole-over _ _ c.if-v-gt-LARGEST.true)

pub loop-b-preserved : goal.loop-b-preserved
loop-b-preserved c = (search rules, c.loop-b.invariant.1 ∙ whole-step _ _ _ _ c.loop-b-test.true c.if-b-lt48.false c.if-b-gt57.false c.from.ensures)

pub returns : goal.returns
returns c = sym (c.loop-b.invariant.1 ∙ whole-end _ _ _ c.loop-b-test.false (omega arith) c.loop-b.invariant.0)
