-- `stock_lines::room::store` meets its contract. Assumes nothing.
use Rattle.stock_lines.proofs.Rooms.{taken-numbers, taken_none, stored-numbers, stored-none}
use Rattle.std.proofs.Common.{◌∙◌}
use Rattle.stock_lines.proofs.room.store.Goals as goal

pub returns-in-Some : goal.returns-in-Some
returns-in-Some c = record { value = taken-numbers _ _ c.in-Some.is; list_after = c.keep.ensures ∙ stored-numbers _ _ _ _ _ c.in-Some.is }

pub returns-in-None : goal.returns-in-None
returns-in-None c = record { value = taken_none _ c.in-None.is; list_after = stored-none _ _ _ _ c.in-None.is }
