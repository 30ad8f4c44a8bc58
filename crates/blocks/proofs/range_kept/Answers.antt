-- `blocks::range_kept` meets its contract. Assumes nothing.
use borrow.Author.Rules.{rules}
use Rattle.stock.proofs.Bins.{HeldSpec}
use Rattle.blocks.proofs.Ranges.{kept-promise}
use Rattle.blocks.proofs.range_kept.Goals as goal

pub returns : goal.returns
returns c = let args = c.args in
    let g = c.well_formed.0 in
    let held : HeldSpec args.spec = record { z-min = search (rules, g); z-max = search (rules, g); outer = search (rules, g); bore = search (rules, g.1.1.1.1); cell = search (rules, g.1.1.1.1) } in
    kept-promise args.spec args.n args.cells.now args.blocks.now args.lo args.hi _ _ _ _
    held
    c.shared_slice_known-1.given
    c.shared_slice_known-2-1.given
    c.clean_spec.ensures
    c.clean.ensures
    c.clean-2.ensures
    c.kept_between.ensures
