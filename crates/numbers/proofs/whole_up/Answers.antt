-- `numbers::whole_up` meets its contract (`Wholes.antt`). Assumes nothing.
use Rattle.std.proofs.Common.{◌≡◌, true, T, sym, ap, ◌∙◌, subst, arith, rules}
use lib.Ieee.{Float, binary64, fits, lt}
use Rattle.numbers.proofs.Wholes.{above, in-range, up-zero, up-minus, up-over, up_next, up-full, up_same, up-beyond}
use Rattle.numbers.proofs.whole_up.Goals as goal

-- what owning an `f64` tells: the format holds it
held : (x : Float) → fits binary64 x ≡ true → T (fits binary64 x)
held x e = subst T (sym e) tt

pub returns-then-q-2 : goal.returns-then-q-2
returns-then-q-2 c = up-zero c.args.q c.args.limit (held _ c.well_formed.0.1) c.if-q.true c.if-q-2.true

pub returns-then-q : goal.returns-then-q
returns-then-q c = up-minus c.args.q c.args.limit c.if-q.true c.if-q-2.false

pub truncating_f64_to_u64-t-requires : goal.truncating_f64_to_u64-t-requires
truncating_f64_to_u64-t-requires c =
    let h = in-range c.args.q (held _ c.well_formed.0.1) (above c.args.q (held _ c.well_formed.0.1) c.if-q.false c.if-q-3.true) in
    record { lower_bound = h.0; upper_bound = h.1 }

pub returns-then-limit-t : goal.returns-then-limit-t
returns-then-limit-t c = up-over c.args.q (held _ c.well_formed.0.1) (above c.args.q (held _ c.well_formed.0.1) c.if-q.false c.if-q-3.true) c.args.limit c.truncating_f64_to_u64-t.result c.truncating_f64_to_u64-t.ensures c.if-limit-t.true

pub returns-then-t-limit : goal.returns-then-t-limit
returns-then-t-limit c = let t = c.truncating_f64_to_u64-t in
    up_next c.args.q (held _ c.well_formed.0.1) (above c.args.q (held _ c.well_formed.0.1) c.if-q.false c.if-q-3.true) c.args.limit t.result t.ensures
    (ap (λ (x : Float). lt x c.args.q) (sym c.nearest_u64_to_f64.ensures) ∙ c.if-nearest_u64_to_f64-q.true)
    c.if-t-limit.true

pub returns-then-nearest_u64_to_f64-q : goal.returns-then-nearest_u64_to_f64-q
returns-then-nearest_u64_to_f64-q c = let t = c.truncating_f64_to_u64-t in
    up-full c.args.q (held _ c.well_formed.0.1) (above c.args.q (held _ c.well_formed.0.1) c.if-q.false c.if-q-3.true) c.args.limit t.result t.ensures
    (ap (λ (x : Float). lt x c.args.q) (sym c.nearest_u64_to_f64.ensures) ∙ c.if-nearest_u64_to_f64-q.true)
    c.if-t-limit.false

pub returns-then-q-3 : goal.returns-then-q-3
returns-then-q-3 c = let t = c.truncating_f64_to_u64-t in
    up_same c.args.q (held _ c.well_formed.0.1) (above c.args.q (held _ c.well_formed.0.1) c.if-q.false c.if-q-3.true) c.args.limit t.result t.ensures
    (ap (λ (x : Float). lt x c.args.q) (sym c.nearest_u64_to_f64.ensures) ∙ c.if-nearest_u64_to_f64-q.false)
    c.if-limit-t.false

pub returns : goal.returns
returns c = up-beyond c.args.q c.args.limit (held _ c.well_formed.0.1) c.ranges.limit.fits c.if-q.false c.if-q-3.false
