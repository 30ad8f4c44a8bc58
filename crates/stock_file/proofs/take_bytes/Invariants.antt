-- `stock_file::take_bytes` meets its contract. Assumes nothing.
use mathlib.Core.Path.{◌≡◌}
use Prim.Native.Nat.{◌≤◌, ◌-◌}
use lib.ListN.{length, take, drop}
use Rattle.text.specs.Wrote.{line_room}
use Rattle.stock_lines.specs.Reading.{state}
use Rattle.stock_file.specs.Read.{taking}
use Rattle.stock_file.proofs.take_bytes.Given as goal

abbrev pub invariant-loop-i : goal.invariant-loop-i
invariant-loop-i l = (l.i ≤ length l.bytes) × (length l.cells ≡ length l.initial.cells) × (length l.rings ≡ length l.initial.rings) × (length l.line ≡ length l.initial.line) × (length l.line ≡ line_room) × (l.n ≤ 127) × (taking (state l.initial.k l.initial.cells l.initial.rings) (take l.len l.initial.line) l.bytes ≡ taking (state l.k l.cells l.rings) (take l.n l.line) (drop l.i l.bytes))

abbrev pub decreases-loop-i : goal.decreases-loop-i
decreases-loop-i l = length l.bytes - l.i
