-- `passes::lists::tool_of` meets its contract. Assumes nothing.
use mathlib.Core.Path.{◌∙◌}
use Rattle.passes.proofs.Decoded.{is-line, is-thread, is-nose, is-polygon, is-arc}
use Rattle.passes.proofs.lists.tool_of.Goals as goal

pub returns-then-kind-eq0 : goal.returns-then-kind-eq0
returns-then-kind-eq0 c = c.line.ensures ∙ is-line _ _ _ _ _ _ _ c.if-kind-eq0.true

pub returns-then-kind-eq1 : goal.returns-then-kind-eq1
returns-then-kind-eq1 c = let a = c.args in
    is-thread a.kind a.a a.b a.c a.d a.e a.f c.if-kind-eq1.true

pub returns-then-kind-eq2 : goal.returns-then-kind-eq2
returns-then-kind-eq2 c = let a = c.args in
    is-nose a.kind a.a a.b a.c a.d a.e a.f c.if-kind-eq2.true

pub returns-then-kind-eq3 : goal.returns-then-kind-eq3
returns-then-kind-eq3 c = let a = c.args in
    is-polygon a.kind a.a a.b a.c a.d a.e a.f c.if-kind-eq3.true

pub returns-then-kind-eq9 : goal.returns-then-kind-eq9
returns-then-kind-eq9 c = let a = c.args in
    is-arc a.kind a.a a.b a.c a.d a.e a.f c.if-kind-eq9.true
