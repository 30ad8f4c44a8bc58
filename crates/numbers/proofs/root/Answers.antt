-- `numbers::root` meets its contract (`Answer.antt`). Assumes nothing.
use Rattle.std.proofs.Common.{◌≡◌, true, T, sym, ap, ◌∙◌, subst, rules}
use lib.Ieee.{Float, binary64, fits}
use Rattle.refusals.specs.Paper.{Paper, answers, refuses}
use Rattle.numbers.proofs.Answer.{above-number, above-bits, above_root, above-refused, zero-root, below-refused}
use Rattle.numbers.proofs.root.Goals as goal

-- what owning an `f64` tells: the format holds it
held : (x : Float) → fits binary64 x ≡ true → T (fits binary64 x)
held x e = subst T (sym e) tt

pub float_to_bits-b : goal.float_to_bits-b
float_to_bits-b c = above-number c.args.x c.if-x.true

pub root_bits-requires : goal.root_bits-requires
root_bits-requires c = (above-bits c.args.x (held _ c.well_formed.0.1) c.if-x.true, c.if-b-lt9218868437227405312.true)

pub returns-then-b-lt9218868437227405312 : goal.returns-then-b-lt9218868437227405312
returns-then-b-lt9218868437227405312 c = ap answers c.root_bits.ensures.value ∙ sym (above_root c.args.x (held _ c.well_formed.0.1) c.if-x.true c.if-b-lt9218868437227405312.true)

pub returns-then-x : goal.returns-then-x
returns-then-x c = sym (above-refused c.args.x (held _ c.well_formed.0.1) c.if-x.true c.if-b-lt9218868437227405312.false)

pub returns-then-x-2 : goal.returns-then-x-2
returns-then-x-2 c = zero-root c.args.x c.if-x-2.true

pub returns : goal.returns
returns c = below-refused c.args.x c.if-x.false c.if-x-2.false
