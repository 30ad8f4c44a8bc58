-- `insert::samples::bore_at` meets its contract. Assumes nothing.
use Rattle.std.specs.Prelude.{Some}
use mathlib.Core.Path.{ap, ◌∙◌}
use mir.Syntax.{w8}
use mir.Facts.{to_z-of_z}
use native.Mathlib.Omega.{arith}
use Rattle.insert.proofs.Steps.{bore-none, bore-front, bore-deep, bore-found}
use Rattle.insert.proofs.samples.bore_at.Goals as goal

pub returns-then-points-eq0 : goal.returns-then-points-eq0
returns-then-points-eq0 c = bore-none c.args.points.now c.args.u c.requires.front c.requires.deepest c.if-points-eq0.true

pub returns-then-l-u : goal.returns-then-l-u
returns-then-l-u c = bore-front c.args.points.now c.args.u c.requires.front c.requires.deepest c.if-points-eq0.false c.if-l-u.true

pub returns-then-u-l : goal.returns-then-u-l
returns-then-u-l c = bore-deep c.args.points.now c.args.u c.requires.front c.requires.deepest c.if-points-eq0.false c.if-l-u.false c.if-u-l.true

pub returns : goal.returns
returns c =
    ap Some c.unwrap_or.ensures
    ∙ bore-found c.args.points.now c.args.u c.requires.front c.requires.deepest c.if-points-eq0.false c.if-l-u.false c.if-u-l.false
    (c.highest.ensures.ruled c.requires.good (to_z-of_z {w = w8} (record { sfits = omega arith }) ∙ c.requires.order))
