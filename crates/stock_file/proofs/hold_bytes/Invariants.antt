-- `stock_file::hold_bytes` meets its contract. Assumes nothing.
use Rattle.std.proofs.Common.{◌≡◌, length}
use Rattle.stock_file.specs.Read.{HoldsOn}
use Rattle.stock_file.proofs.hold_bytes.Given as goal

abbrev pub invariant-loop-m : goal.invariant-loop-m
invariant-loop-m l = (length l.line ≡ length l.initial.line) × HoldsOn l.len l.initial.line l.bytes l.from l.m l.line
