-- `chop_lines::read_profile` meets its contract. Assumes nothing.
use Rattle.std.proofs.Common.{refl, rules}
use Rattle.streams.specs.declared.Got.TheVariants.{Cut}
use Rattle.chop_lines.specs.Scan.{fresh_scan}
use Rattle.chop_lines.proofs.Taking.{after-fresh, after_more, done}
use Rattle.chop_lines.proofs.read_profile.Goals as goal

pub loop-init : goal.loop-init
loop-init g c = (search rules, rw c.fresh-taken.ensures (after-fresh fresh_scan c.args.numbers.now c.args.line.now refl))

pub take_some-t-requires : goal.take_some-t-requires
take_some-t-requires g c = (record { numbers = search rules; line = search rules }, c.loop.invariant.0)

pub returns-then-not-may_be_more : goal.returns-then-not-may_be_more
returns-then-not-may_be_more g c = let o = c.take_some-t.ensures in
    rw c.end_by.ensures.1
    (done c.take_some-t.result.got c.take_some-t.new.numbers c.take_some-t.result.taken.points c.take_some-t.result.taken.len c.take_some-t.new.line
    (after_more c.loop.invariant.1 o.after) o.within (search rules) c.end_by.ensures.0)

pub loop-preserved : goal.loop-preserved
loop-preserved g c = let o = c.take_some-t.ensures in
    (o.within, after_more c.loop.invariant.1 o.after)

pub returns : goal.returns
returns g c =
    rw c.end_by-2.ensures.1
    (done Cut c.loop.numbers c.loop.taken.points c.loop.taken.len c.loop.line
    c.loop.invariant.1 c.loop.invariant.0 (search rules) c.end_by-2.ensures.0)
