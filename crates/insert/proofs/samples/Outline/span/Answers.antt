-- `insert::samples::Outline::span` meets its contract. Assumes nothing.
use mathlib.Core.Path.{◌∙◌}
use mir.Syntax.{w8}
use mir.Facts.{to_z-of_z}
use Prim.Native.Nat.{◌≤◌}
use native.Mathlib.Omega.{arith}
use Rattle.envelope.specs.Envelope.{count}
use Rattle.envelope.proofs.Kept.{span_fits}
use Rattle.insert.proofs.samples.Outline.span.Goals as goal

pub returns-clause-ruled : goal.returns-clause-ruled
returns-clause-ruled c = let o = c.args.self.now in
    c.span_over.ensures.ruled o.looks.good (to_z-of_z {w = w8} (record { sfits = omega arith }) ∙ o.looks.order)

pub returns-clause-room : goal.returns-clause-room
returns-clause-room c = let ps = c.args.self.now.points.now in
    let h : c.span_over.result.end ≤ count ps = rw c.span_over.ensures.found (span_fits ps _ _ _).1 in
    omega arith
