-- `cuts::tally_tool` meets its contract. Assumes nothing.
use mathlib.Core.Path.{sym, ap, ◌∙◌}
use borrow.Author.Rules.{rules}
use borrow.Author.Tests.{not-true, not-false}
use Rattle.refusals.specs.Number.{paper_of}
use Rattle.refusals.proofs.Exits.{same_exit}
use Rattle.stock.proofs.Bins.{HeldSpec}
use Rattle.changes.proofs.Proposals.{left, left_at, same-proposal}
use Rattle.cuts.proofs.Previews.{ready}
use Rattle.cuts.proofs.Tools.{tool-refused, tool-outside, tool-is}
use Rattle.cuts.proofs.tally_tool.Goals as goal

pub returns-in_err-n : goal.returns-in_err-n
returns-in_err-n c = left_at _ _ _ _ _ (same_exit _ _ c.from_residual.ensures.1) (tool-refused _ _ _ _ _ _ (sym c.cells_fit.ensures ∙ ap paper_of c.in_err-n.was))

pub returns-then-not-tool_inside : goal.returns-then-not-tool_inside
returns-then-not-tool_inside c = left _ _ _ _ (tool-outside _ _ _ _ _ _ (sym c.cells_fit.ensures ∙ ap paper_of c.in_ok-n.was) (sym c.tool_inside.ensures ∙ not-true _ c.if-not-tool_inside.true-raw))

pub tool_in-requires : goal.tool_in-requires
tool_in-requires c = let a = c.args in
    let g = c.well_formed.0 in
    let held : HeldSpec a.spec = record { z-min = search (rules, g); z-max = search (rules, g); outer = search (rules, g); bore = search (rules, g.1.1.1.1); cell = search (rules, g.1.1.1.1) } in
    ready a.spec _ _ _ held c.clean_spec.ensures (sym c.cells_fit.ensures ∙ ap paper_of c.in_ok-n.was)

pub returns : goal.returns
returns c = let a = c.args in
    same-proposal _ _ _ _ _ _ _
    (tool-is _ _ _ _ _ _ (sym c.cells_fit.ensures ∙ ap paper_of c.in_ok-n.was) _ c.clean_spec.ensures (sym c.tool_inside.ensures ∙ not-false _ c.if-not-tool_inside.false-raw))
    c.tool_in.ensures
