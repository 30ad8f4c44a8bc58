-- `test_forms::preview_cut` meets its contract. A single cut has no numbers beside it, and the cells stand for them. Assumes nothing.
use Rattle.std.proofs.Common.{List, length, subst}
use Rattle.refusals.specs.Paper.{Paper}
use Rattle.stock.specs.declared.TurnChange.{TurnChange}
use Rattle.cuts.proofs.Tools.{single-is}
use Rattle.change_slices.specs.Proposal.{Written}
use Rattle.test_forms.proofs.preview_cut.Goals as goal

pub returns : goal.returns
returns c = let a = c.args in
    subst (λ (p : Paper (List TurnChange)). Written a.stock.stamp p c.propose.result a.changes.now c.propose.new.changes)
    (single-is a.stock.spec a.cells.now c.single-tool.result a.cells.now (length a.changes.now) c.single-tool.ensures) c.propose.ensures
