-- `stock_streams::read_stock` meets its contract. Assumes nothing.
use Rattle.streams.specs.declared.Got.TheVariants.{Cut}
use Rattle.stock_streams.proofs.Taking.{none_yet, some_more, done}
use mathlib.Core.Path.{refl}
use borrow.Author.Rules.{rules}
use Rattle.stock_streams.proofs.read_stock.Goals as goal

pub loop-init : goal.loop-init
loop-init g c = (search rules, search rules, none_yet _ _ _ _ c.fresh-reading.ensures)

pub returns-then-not-may_be_more : goal.returns-then-not-may_be_more
returns-then-not-may_be_more g c = let i = c.loop.invariant in
    done _ _ (some_more i.2 c.take_some-t.ensures) c.take_some-t.result.got _ refl c.end_by.ensures

pub loop-preserved : goal.loop-preserved
loop-preserved g c = (search rules, search rules, some_more c.loop.invariant.2 c.take_some-t.ensures)

pub returns : goal.returns
returns g c = done _ _ c.loop.invariant.2 Cut _ refl c.end_by-2.ensures
