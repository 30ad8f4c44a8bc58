-- `cuts::preview` meets its contract: it is that of the tool's preview. Assumes nothing.
use Rattle.cuts.specs.Tool.{preview_tool}
use Rattle.cuts.proofs.preview.Goals as goal

pub returns : goal.returns
unfolding preview_tool
returns c = c.preview_tool.ensures
