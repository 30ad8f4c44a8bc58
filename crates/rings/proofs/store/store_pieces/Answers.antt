-- `rings::store::store_pieces` meets its contract. Assumes nothing.
use native.Mathlib.Omega.{arith}
use mathlib.Core.Path.{refl}
use Rattle.rings.proofs.Adding.{stores-past, stores-pieces}
use Rattle.rings.proofs.store.store_pieces.Goals as goal

pub returns-then-room-count : goal.returns-then-room-count
returns-then-room-count c = record { stores = stores-past _ _ _ _ _ c.if-room-count.true; tests = tt }

pub copy_rings-requires : goal.copy_rings-requires
copy_rings-requires c = (omega arith, omega arith)

pub returns : goal.returns
returns c = record { stores = stores-pieces _ _ _ _ _ _ c.if-room-count.false c.copy_rings.ensures; tests = refl }
