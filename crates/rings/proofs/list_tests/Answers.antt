-- `rings::list_tests` meets its contract. Assumes nothing.
use native.Mathlib.Omega.{arith}
use Rattle.rings.proofs.Listed.{tells_none, tells-over, tells-in}
use Rattle.rings.proofs.list_tests.Goals as goal

pub returns-then-tests-eq0 : goal.returns-then-tests-eq0
returns-then-tests-eq0 c = tells_none c.args.spec c.args.rings.now c.args.count c.args.removed.now c.args.tests.now c.if-tests-eq0.true

pub returns-then-room-count : goal.returns-then-room-count
returns-then-room-count c = tells-over c.args.spec c.args.rings.now c.args.count c.args.removed.now c.args.tests.now c.room_of-room.result c.room_of-room.ensures c.if-room-count.true

pub list_tests_in-requires : goal.list_tests_in-requires
list_tests_in-requires c = let r = c.room_of-room.ensures in
    (c.if-room-count.false, omega arith, omega arith)

pub returns : goal.returns
returns c = tells-in c.args.spec c.args.rings.now c.args.count c.args.removed.now c.args.tests.now _ c.room_of-room.result c.extent.result c.room_of-room.ensures c.extent.ensures c.if-room-count.false c.list_tests_in.ensures
