-- `stock_streams::gather_lines` meets its contract. Assumes nothing.
use Rattle.stock_file.specs.Write.{line_for, lines_to}
use Rattle.stock_streams.specs.Write.{text_in, AllPut}
use Rattle.stock_streams.proofs.gather_lines.Given as goal

abbrev pub invariant-loop-k : goal.invariant-loop-k
invariant-loop-k g l = AllPut (lines_to (λ i. text_in (line_for l.stock l.cells l.rings i)) l.k) l.out l.gathered
