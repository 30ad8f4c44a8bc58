-- `change_slices::decide` meets its contract. Assumes nothing.
use Rattle.std.proofs.Common.{◌≡◌, ◌≤◌, ◌∙◌, ap, length, sym, arith}
use Rattle.std.proofs.lemmas.List.{at_drop_all}
use Rattle.refusals.specs.Limits.{last_place}
use Rattle.changes.specs.Decide.{deciding_paper, on_cells, steps_of, outcome_of}
use Rattle.changes.proofs.Decided.{outcome-is}
use Rattle.change_slices.proofs.decide.Goals as goal

pub returns : goal.returns
returns c = let a = c.args in
    let few : length a.changes.now ≤ last_place = omega arith in
    let all : steps_of a.cells.now (on_cells a.s a.n) a.changes.now ≡ deciding_paper c.loop-change.st = sym c.loop-change.invariant ∙ at_drop_all (steps_of a.cells.now (deciding_paper c.loop-change.st)) a.changes.now c.loop-change.change-index (omega arith) in
    c.outcome.ensures ∙ (ap outcome_of (sym all) ∙ outcome-is a.cells.now a.s a.n a.changes.now few)
