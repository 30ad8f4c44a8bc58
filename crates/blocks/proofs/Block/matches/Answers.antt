-- `blocks::Block::matches` meets its contract. Assumes nothing.
use mathlib.Core.Path.{refl, sym, ap, ◌∙◌}
use Rattle.queries.specs.declared.Band.{Band}
use Rattle.blocks.specs.Block.{same_block}
use Rattle.blocks.proofs.Lots.{block-is}
use Rattle.blocks.proofs.Block.matches.Goals as goal

pub returns-then-cells-to : goal.returns-then-cells-to
returns-then-cells-to c = ap (λ (x : Band). same_block c.args.kept x) c.band-found.ensures

pub returns-then-to-from-eq-BLOCK : goal.returns-then-to-from-eq-BLOCK
returns-then-to-from-eq-BLOCK c = let args = c.args in
    c.whole_matches.ensures ∙ block-is args.self.now.of.now.s args.self.now.of.now.n args.self.now.of.now.cells.now args.kept args.self.now.j _ 64 c.end-to.ensures (sym c.if-to-from-eq-BLOCK.true)

pub returns : goal.returns
returns c = let args = c.args in
    c.bins_match.ensures ∙ block-is args.self.now.of.now.s args.self.now.of.now.n args.self.now.of.now.cells.now args.kept args.self.now.j _ _ c.end-to.ensures refl
