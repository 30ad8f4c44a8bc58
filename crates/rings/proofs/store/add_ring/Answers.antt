-- `rings::store::add_ring` meets its contract. Assumes nothing.
use mathlib.Core.Path.{◌∙◌, sym}
use borrow.Author.Tests.{not-true, not-false}
use Rattle.rings.proofs.Adding.{adds_none, adds-full, adds-whole}
use Rattle.rings.proofs.Tested.{tests-empty, tests-whole}
use Rattle.rings.proofs.store.add_ring.Goals as goal

pub returns-then-not-is_filled : goal.returns-then-not-is_filled
returns-then-not-is_filled c = let empty = sym c.is_filled.ensures ∙ not-true _ c.if-not-is_filled.true-raw in
    record { stores = adds_none c.args.rings.now c.args.room c.args.count c.args.c c.requires.0 c.requires.1 empty; tests = sym (tests-empty c.args.c _ empty) }

pub returns-then-not-apart_from : goal.returns-then-not-apart_from
returns-then-not-apart_from c = c.add_few_pieces.ensures

pub returns-then-room-count : goal.returns-then-room-count
returns-then-room-count c = record {
  stores = adds-full c.args.rings.now c.args.room c.args.count c.args.c c.requires.0 c.requires.1 (sym c.is_filled.ensures ∙ c.if-not-is_filled.false) (sym c.apart_from.ensures ∙ not-false _ c.if-not-apart_from.false-raw) c.if-room-count.true;
  tests = tt;
}

pub returns : goal.returns
returns c = let full = sym c.is_filled.ensures ∙ c.if-not-is_filled.false in
    let apart = sym c.apart_from.ensures ∙ not-false _ c.if-not-apart_from.false-raw in
    let k = adds-whole c.args.rings.now c.args.room c.args.count c.args.c c.requires.0 c.requires.1 full apart c.if-room-count.false in
    record {
      stores = record { answer = k.answer; store = c.write_ring.ensures ∙ k.store };
      tests = tests-whole c.args.c c.args.rings.now c.args.count full apart;
    }
