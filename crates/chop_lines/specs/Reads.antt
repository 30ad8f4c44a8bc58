-- A profile read from a reader; need not be believed: what is read is `scan_of` of some bytes (`ChopsSome`). Assumes nothing.
use Rattle.std.specs.Prelude.{◌≡◌, ℕ, ◌≤◌, Bool, true, false, List, Float}
use Rattle.refusals.specs.Lent.{Lent}
use Rattle.lines.specs.Hands.{Hand}
use Rattle.chop_lines.specs.declared.scan.Taken.{Taken}
use Rattle.chop_lines.specs.Scan.{State, found, left, bytes_to, scan_of}

-- k is h after some bytes more
pub record After (h k : Hand State) : Type 0 where
  pub bytes : List ℕ
  pub same : k ≡ bytes_to h bytes

pub record ReadsOn (t : Taken) (numbers : Lent Float) (line : Lent ℕ) (u : Taken) : Type 0 where
  pub after : After (found t numbers line) (left u numbers line)
  pub within : u.len ≤ 127

-- the scan of some bytes
pub record ReadsSome (st : State) : Type 0 where
  pub bytes : List ℕ
  pub same : st ≡ scan_of bytes
