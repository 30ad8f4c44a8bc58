-- A drill behind its point has its whole radius, and the quotient need not be worked out. Assumes nothing.
use mathlib.Core.Path.{◌≡◌, sym}
use mathlib.Core.Bool.{true, false, ◌&&◌}
use lib.Dec.{T}
use lib.Ieee.{Float, binary64, fits, lt, le, of_bits, of_fields, odd}
use lib.Ieee.Fits.{sub-fits}
use Rattle.floats.specs.Pick.{picks}
use Rattle.floats.specs.Numbers.{◌-₆₄◌, ◌*₆₄◌, ◌/₆₄◌, zero64, least_of, greatest_of, usable}
use Rattle.floats.proofs.Within.{finite-within}
use Rattle.floats.proofs.Ratio.{cone_of, cone-full}
use Rattle.stock.proofs.Count.{and_both}
use Rattle.polygon.proofs.Sizes.{usable-within}
use Rattle.cuts.specs.Cut.{drill_at}
use Rattle.cuts.specs.Source.{is_past}
use Rattle.floats.proofs.Bools.{so}

past-full : (a r cone : Float) → T (fits binary64 a) → T (fits binary64 r) → T (fits binary64 cone) → is_past a r cone ≡ true → least_of (greatest_of (a /₆₄ cone *₆₄ r) zero64) r ≡ r
unfolding cone_of of_bits of_fields odd
past-full a r cone A R C h =
    let t5 = and_both (usable a && usable r && usable cone && lt zero64 r && lt zero64 cone) (le cone a) h in
    let t4 = and_both (usable a && usable r && usable cone && lt zero64 r) (lt zero64 cone) t5.0 in
    let t3 = and_both (usable a && usable r && usable cone) (lt zero64 r) t4.0 in
    let t2 = and_both (usable a && usable r) (usable cone) t3.0 in
    let t1 = and_both (usable a) (usable r) t2.0 in
    cone-full (finite-within (usable-within cone C t2.1)) (so t4.1) (finite-within (usable-within r R t1.1)) (so t3.1) (finite-within (usable-within a A t1.0)) (so t5.1)

-- so the radius at z is the drill's
pub drill-past : (z tip r cone : Float) → T (fits binary64 r) → T (fits binary64 cone) → lt z tip ≡ false → le cone zero64 ≡ false → is_past (z -₆₄ tip) r cone ≡ true → r ≡ drill_at z tip r cone
unfolding drill_at
drill-past z tip r cone R C e d h = sym (simp (picks, e, d, past-full (z -₆₄ tip) r cone (sub-fits binary64 z tip) R C h))
