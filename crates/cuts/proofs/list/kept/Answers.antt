-- `cuts::list::kept` meets its contract. Assumes nothing.
use mathlib.Core.Path.{sym, ap, ◌∙◌}
use borrow.Author.Rules.{rules}
use lib.Ieee.{Float}
use Rattle.nose.proofs.Tracks.{alike_same}
use Rattle.cuts.specs.Cut.{drill_at}
use Rattle.cuts.proofs.list.kept.Goals as goal

pub returns-then-alike : goal.returns-then-alike
returns-then-alike c = let a = c.args in
    c.requires ∙ ap (λ (x : Float). drill_at x a.tip a.radius a.cone) (alike_same a.d.at a.z (search rules) (search rules) (sym c.alike.ensures ∙ c.if-alike.true))

pub returns : goal.returns
returns c = c.drill_at.ensures
