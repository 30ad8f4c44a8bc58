-- `cuts::polygon_rows::cross` meets its contract. Assumes nothing.
use Rattle.std.specs.Prelude.{Option}
use mathlib.Core.Path.{ap, ◌∙◌}
use lib.Ieee.{Float}
use Rattle.polygon.specs.Polygon.{lowest_of}
use Rattle.cuts.proofs.Crossings.{cross-skipped, cross-swept}
use Rattle.cuts.proofs.polygon_rows.cross.Goals as goal

pub returns-then-bin-lo : goal.returns-then-bin-lo
returns-then-bin-lo c = let p = c.requires in
    (p.2, cross-skipped _ _ _ _ _ _ p.0 _ _ c.bin_of-bin.ensures c.if-bin-lo.true p.5)

pub returns : goal.returns
returns c = let p = c.requires in
    let at : Float → Option Float = λ z. lowest_of c.args.points.now c.args.side z in (
      c.lowest-stop.ensures,
      cross-swept _ _ _ _ _ _ p.0 _ _ c.bin_of-bin.ensures p.1 c.if-bin-lo.false _ _ _ (c.kept-start.ensures ∙ ap at c.greatest-za.ensures) (c.lowest-stop.ensures ∙ ap at c.least-zb.ensures) c.swept_in-swept.ensures c.put_row.ensures,
    )
