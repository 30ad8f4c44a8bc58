-- `numbers::root_bits` meets its contract (`Shift.antt`). Assumes nothing.
use Rattle.std.proofs.Common.{sym, subst, rules}
use Rattle.numbers.specs.RootBits.{Pattern}
use Rattle.numbers.proofs.Shift.{pattern-full, pattern-least}
use Rattle.numbers.proofs.root_bits.Goals as goal

pub returns-then-b-ge4503599627370496 : goal.returns-then-b-ge4503599627370496
returns-then-b-ge4503599627370496 c = subst (Pattern c.args.b) (sym c.aligned_root.ensures) (pattern-full c.args.b c.requires.1 c.if-b-ge4503599627370496.true)

pub returns : goal.returns
returns c = let z = c.full_shift-z in
    subst (Pattern c.args.b) (sym c.aligned_root-2.ensures)
    (pattern-least c.args.b z.result c.requires.0 c.if-b-ge4503599627370496.false z.ensures.0 z.ensures.1 z.ensures.2)
