-- `rings::store::add_few_pieces` meets its contract. Assumes nothing.
use native.Mathlib.Omega.{arith}
use mathlib.Core.Path.{refl}
use Rattle.rings.proofs.Adding.{added-pieces, adds-as}
use Rattle.rings.proofs.Tested.{all-counted}
use Rattle.rings.proofs.store.add_few_pieces.Goals as goal

pub cut_ring-cut-requires : goal.cut_ring-cut-requires
cut_ring-cut-requires c = (omega arith, omega arith)

pub returns-then-cut-gt-FEW : goal.returns-then-cut-gt-FEW
returns-then-cut-gt-FEW c = c.add_pieces.ensures

pub store_pieces-requires : goal.store_pieces-requires
store_pieces-requires c = let s = c.cut_ring-cut.ensures.pieces.size in
    (omega arith, omega arith, omega arith, omega arith)

pub returns : goal.returns
returns c = let cut-ring = c.cut_ring-cut in
    adds-as (added-pieces c.args.room c.args.count 16 c.args.c c.args.rings.now _ cut-ring.result.left cut-ring.ensures.pieces c.if-cut-gt-FEW.false (omega arith))
    (all-counted 16 c.args.count c.args.c c.args.rings.now _ cut-ring.result cut-ring.ensures c.if-cut-gt-FEW.false (omega arith) (omega arith)) c.store_pieces.ensures
