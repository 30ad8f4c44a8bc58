-- `side_streams::gather_chunks` meets its contract. Assumes nothing.
use mathlib.Core.Path.{◌≡◌}
use lib.ListN.{length}
use Rattle.stock_file.specs.Write.{lines_to}
use Rattle.stock_streams.specs.Write.{AllPut}
use Rattle.side_by_side.specs.Compared.{side, chunk_of}
use Rattle.side_streams.proofs.gather_chunks.Given as goal

abbrev pub invariant-loop-c : goal.invariant-loop-c
invariant-loop-c g l = (length l.part ≡ 18688) × AllPut (lines_to (chunk_of (side l.cells1 l.rings1 l.count1) (side l.cells2 l.rings2 l.count2)) l.c) l.out l.gathered
