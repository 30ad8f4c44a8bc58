-- `passes::lists::inside_tool` meets its contract. Assumes nothing.
use mathlib.Core.Path.{◌∙◌}
use native.Mathlib.Omega.{arith}
use Rattle.passes.proofs.Decoded.{is-inner-line, is-inner-thread, is-inner-nose, is-inner-polygon, is-drill, is_none}
use Rattle.passes.proofs.lists.inside_tool.Goals as goal

pub returns-then-kind-eq4 : goal.returns-then-kind-eq4
returns-then-kind-eq4 c = c.line.ensures ∙ is-inner-line _ _ _ _ _ _ _ c.if-kind-eq4.true

pub returns-then-kind-eq5 : goal.returns-then-kind-eq5
returns-then-kind-eq5 c = let a = c.args in
    is-inner-thread a.kind a.a a.b a.c a.d a.e a.f c.if-kind-eq5.true

pub returns-then-kind-eq6 : goal.returns-then-kind-eq6
returns-then-kind-eq6 c = let a = c.args in
    is-inner-nose a.kind a.a a.b a.c a.d a.e a.f c.if-kind-eq6.true

pub returns-then-kind-eq7 : goal.returns-then-kind-eq7
returns-then-kind-eq7 c = let a = c.args in
    is-inner-polygon a.kind a.a a.b a.c a.d a.e a.f c.if-kind-eq7.true

pub returns-then-kind-eq8 : goal.returns-then-kind-eq8
returns-then-kind-eq8 c = let a = c.args in
    is-drill a.kind a.a a.b a.c a.d a.e a.f c.if-kind-eq8.true

pub returns : goal.returns
returns c = let a = c.args in
    c.no_tool.ensures ∙ is_none a.kind a.a a.b a.c a.d a.e a.f (omega arith)
