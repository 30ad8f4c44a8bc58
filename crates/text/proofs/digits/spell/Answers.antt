-- `text::digits::spell` meets its contract. Assumes nothing.
use Rattle.std.proofs.Common.{◌<◌, sym, refl, ◌∙◌, mod-lt, arith}
use Rattle.text.proofs.Spelling.{digits-length, spell-step, spell-end}
use Rattle.text.proofs.digits.spell.Goals as goal

pub loop-i-init : goal.loop-i-init
loop-i-init c = refl

pub glyph-requires : goal.glyph-requires
glyph-requires c = let b : 0 < c.args.base = omega arith in omega (arith, mod-lt c.loop-i.rest b)

pub loop-i-preserved : goal.loop-i-preserved
loop-i-preserved c = sym (spell-step _ _ _ _ _ _ c.loop-i-test.true c.glyph.ensures) ∙ c.loop-i.invariant

pub returns : goal.returns
returns c = record { text = sym (spell-end _ _ _ _ _ c.loop-i-test.false) ∙ c.loop-i.invariant; end = omega (arith, digits-length c.args.base c.args.k c.args.n) }
