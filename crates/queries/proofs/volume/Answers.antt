-- `queries::volume` meets its contract. Assumes nothing.
use mathlib.Core.Path.{sym, ap, ◌∙◌}
use Rattle.refusals.specs.Number.{paper_of}
use native.Mathlib.Nat.{le_of_eq}
use borrow.Author.Tests.{not-true, not-false}
use Rattle.refusals.specs.Paper.{papers}
use Rattle.refusals.proofs.Exits.{same_exit}
use Rattle.stock.proofs.Count.{stock-length}
use Rattle.queries.specs.Volume.{volume_of}
use Rattle.queries.proofs.Passes.{measured}
use Rattle.queries.proofs.Stored.{rings-held}
use Rattle.queries.proofs.volume.Goals as goal

pub returns-then-not-rings_fit : goal.returns-then-not-rings_fit
unfolding volume_of
returns-then-not-rings_fit c = search (papers, ← c.cells_fit.ensures, c.in_ok-n.was, sym c.rings_fit.ensures ∙ not-true _ c.if-not-rings_fit.true-raw)

pub sums-all-requires : goal.sums-all-requires
sums-all-requires c = le_of_eq (sym (stock-length _ _ _ (sym c.cells_fit.ensures ∙ ap paper_of c.in_ok-n.was)))

pub less_rings-left-requires : goal.less_rings-left-requires
less_rings-left-requires c = rings-held _ _ _ (sym c.rings_fit.ensures ∙ not-false _ c.if-not-rings_fit.false-raw)

pub returns-in_err-n : goal.returns-in_err-n
unfolding volume_of
returns-in_err-n c = search (papers, same_exit _ _ c.from_residual.ensures.1, c.in_err-n.was, ← c.cells_fit.ensures)

pub returns : goal.returns
returns c = let args = c.args in
    measured args.spec args.cells.now args.rings.now args.count _ _ _ _ _ _
    (sym c.cells_fit.ensures ∙ ap paper_of c.in_ok-n.was)
    (sym c.rings_fit.ensures ∙ not-false _ c.if-not-rings_fit.false-raw)
    c.clean_spec-s.ensures
    c.sums-all.ensures
    c.less_rings-left.ensures
    c.greatest.ensures
    c.greatest-2.ensures
