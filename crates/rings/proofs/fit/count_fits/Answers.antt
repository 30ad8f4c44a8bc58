-- `rings::fit::count_fits` meets its contract. Assumes nothing.
use native.Mathlib.Omega.{arith}
use mathlib.Core.Path.{sym}
use mathlib.Core.Bool.{true}
use Rattle.rings.proofs.Removing.{count-over, count-within}
use Rattle.rings.proofs.fit.count_fits.Goals as goal

pub returns-then-room_of-count : goal.returns-then-room_of-count
returns-then-room_of-count c = let room_of = c.room_of in
    count-over c.args.e c.args.rings.now c.args.count room_of.result room_of.ensures c.if-room_of-count.true

pub returns-then-sweep_fits : goal.returns-then-sweep_fits
returns-then-sweep_fits c = let room_of = c.room_of in
    count-within c.args.e c.args.rings.now c.args.count room_of.result true room_of.ensures c.if-room_of-count.false (sym (c.sweep_fits.ensures c.if-sweep_fits.true))

pub returns : goal.returns
returns c = let room_of = c.room_of in
    count-within c.args.e c.args.rings.now c.args.count room_of.result c.store_fits.result room_of.ensures c.if-room_of-count.false c.store_fits.ensures
