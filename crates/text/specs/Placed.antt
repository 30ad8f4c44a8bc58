-- The place after what was put into a buffer. Assumes nothing.
use Rattle.std.specs.Prelude.{ℕ, ◌+◌, ◌-◌, ◌≤◌}

-- r is a place in a room of so many bytes, not before `at`, or before as many as `at` lies past its end
pub record Placed (room at r : ℕ) : Type 0 where
  pub within : r ≤ room
  pub after : at ≤ r + (at - room)
