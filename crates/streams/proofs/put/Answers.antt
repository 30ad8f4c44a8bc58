-- `streams::put` meets its contract. Assumes nothing.
use mathlib.Core.Path.{refl}
use borrow.Author.Rules.{rules}
use Rattle.streams.proofs.Gathered.{stops, keeps, turns, empties}
use Rattle.streams.proofs.put.Goals as goal

pub returns-then-out : goal.returns-then-out
returns-then-out g c = stops c.if-out.true

pub returns-then-n-len : goal.returns-then-n-len
returns-then-n-len g c = keeps c.args.gathered.now c.args.bytes.now c.if-out.false c.at_most-len.result (c.at_most-len.ensures.1 c.args.gathered.now (search rules)) c.copy_in.ensures

pub returns-then-not-write_front : goal.returns-then-not-write_front
returns-then-not-write_front g c = stops refl

pub returns-then-n-le-GATHERED : goal.returns-then-n-le-GATHERED
returns-then-n-le-GATHERED g c = turns c.args.gathered.now c.args.bytes.now c.if-out.false c.copy_in-then-n-le-GATHERED.new.gathered c.copy_in-then-n-le-GATHERED.ensures

pub returns : goal.returns
returns g c = empties c.args.gathered.now c.args.bytes.now c.if-out.false
