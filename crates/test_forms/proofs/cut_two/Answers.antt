-- `test_forms::cut_two` meets its contract. Assumes nothing.
use Rattle.std.proofs.Common.{List, subst}
use Rattle.stock.specs.declared.TurnChange.{TurnChange}
use Rattle.changes.specs.Commit.{commit_of, AppliesKept}
use Rattle.test_forms.proofs.cut_two.Goals as goal

pub returns : goal.returns
returns c = let a = c.args in
    subst (λ (l : List TurnChange). AppliesKept a.stock (commit_of a.stock a.cells.now a.blocks.now a.other.stamp l) c.apply.result a.cells.now c.apply.new.cells a.blocks.now c.apply.new.blocks)
    c.preview_cut.ensures.records c.apply.ensures
