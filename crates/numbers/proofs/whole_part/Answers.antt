-- `numbers::whole_part` meets its contract (`Wholes.antt`). Assumes nothing.
use Rattle.std.proofs.Common.{◌≡◌, ◌&&◌, true, T, sym, subst}
use lib.Ieee.{Float, binary64, fits, lt, neg, of_bits}
use lib.Ieee.Fits.{and_l, and_r}
use Rattle.floats.specs.Numbers.{one64}
use Rattle.numbers.proofs.Wholes.{two64, part-over, part_none}
use Rattle.numbers.proofs.whole_part.Goals as goal

-- what owning an `f64` tells: the format holds it
held : (x : Float) → fits binary64 x ≡ true → T (fits binary64 x)
held x e = subst T (sym e) tt

pub truncating_f64_to_u64-requires : goal.truncating_f64_to_u64-requires
unfolding of_bits neg
truncating_f64_to_u64-requires c = let q = c.args.q in
    let t : T (lt (neg one64) q && lt q two64) = subst T (sym c.if-q.true) tt in
    record { lower_bound = and_l (lt (neg one64) q) (lt q two64) t; upper_bound = and_r (lt (neg one64) q) (lt q two64) t }

pub returns-then-q : goal.returns-then-q
returns-then-q c = c.truncating_f64_to_u64.ensures

pub returns-then-q-2 : goal.returns-then-q-2
returns-then-q-2 c = part-over c.args.q (held _ c.well_formed.0.1) c.if-q-2.true

pub returns : goal.returns
returns c = part_none c.args.q (held _ c.well_formed.0.1) c.if-q.false c.if-q-2.false
