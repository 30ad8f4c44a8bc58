-- `blocks::bins_match` meets its contract. Assumes nothing.
use mathlib.Core.Path.{ap, ◌∙◌}
use Prim.Native.Nat.{◌-◌}
use Rattle.blocks.specs.declared.matching.Met.{Met}
use Rattle.blocks.specs.Tested.{met_from, all_met}
use Rattle.blocks.proofs.Tested.{tested-same}
use Rattle.blocks.proofs.bins_match.Goals as goal

pub returns : goal.returns
returns c = let args = c.args in
    ap all_met (c.met_over-met.ensures ∙ ap (λ (x : Met). met_from args.kept x args.bins.now.cells.now args.bins.now.a (args.bins.now.e - args.bins.now.a)) c.met_none.ensures)
    ∙ tested-same args.s args.kept args.bins.now.cells.now args.bins.now.a (args.bins.now.e - args.bins.now.a)
