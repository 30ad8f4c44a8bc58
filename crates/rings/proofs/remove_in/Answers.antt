-- `rings::remove_in` meets its contract. Assumes nothing.
use Rattle.std.specs.Prelude.{Result}
use Rattle.refusals.specs.declared.Refusal.{Refusal}
use native.Mathlib.Omega.{arith}
use mathlib.Core.Path.{◌∙◌, sym, ap}
use borrow.Author.Tests.{not-true, not-false}
use Rattle.refusals.specs.Number.{placed_of}
use Rattle.rings.specs.declared.Added.{Added}
use Rattle.rings.specs.Ring.{filled}
use Rattle.rings.specs.Store.{rings_of}
use Rattle.rings.specs.Counted.{stored_by}
use Rattle.rings.proofs.Removing.{took-refused, fits-within, refuses-4, refuses-10, keeps-all, refuses-12, refuses-11, stores-ring}
use Rattle.rings.proofs.Tested.{for-empty, for-added}
use Rattle.rings.proofs.remove_in.Goals as goal

pub returns-then-not-count_fits : goal.returns-then-not-count_fits
returns-then-not-count_fits c = record { takes = refuses-4 c.args.e c.args.rings.now c.args.count c.args.generation c.args.ring _ c.from.ensures (sym c.count_fits.ensures ∙ not-true _ c.if-not-count_fits.true-raw); tests = tt }

pub returns-then-not-is_finite_ring : goal.returns-then-not-is_finite_ring
returns-then-not-is_finite_ring c = record {
  takes = refuses-10 c.args.e c.args.rings.now c.args.count c.args.generation c.args.ring (sym c.count_fits.ensures ∙ not-false _ c.if-not-count_fits.false-raw) _ c.at.ensures (sym c.is_finite_ring.ensures ∙ not-true _ c.if-not-is_finite_ring.true-raw);
  tests = tt;
}

pub returns-then-not-is_filled : goal.returns-then-not-is_filled
returns-then-not-is_filled c = let empty = ap filled (sym c.clipped-c.ensures) ∙ sym c.is_filled.ensures ∙ not-true _ c.if-not-is_filled.true-raw in
    record {
      takes = keeps-all c.args.e c.args.rings.now c.args.count c.args.generation c.args.ring (sym c.count_fits.ensures ∙ not-false _ c.if-not-count_fits.false-raw) (sym c.is_finite_ring.ensures ∙ not-false _ c.if-not-is_finite_ring.false-raw) empty;
      tests = for-empty c.args.e (rings_of c.args.count c.args.rings.now) c.args.ring empty;
    }

pub returns-then-generation-ge-LAST_GENERATION : goal.returns-then-generation-ge-LAST_GENERATION
returns-then-generation-ge-LAST_GENERATION c = record {
  takes = refuses-12 c.args.e c.args.rings.now c.args.count c.args.generation c.args.ring (sym c.count_fits.ensures ∙ not-false _ c.if-not-count_fits.false-raw) (sym c.is_finite_ring.ensures ∙ not-false _ c.if-not-is_finite_ring.false-raw) (ap filled (sym c.clipped-c.ensures) ∙ sym c.is_filled.ensures ∙ not-false _ c.if-not-is_filled.false-raw) _ c.from-then-generation-ge-LAST_GENERATION.ensures c.if-generation-ge-LAST_GENERATION.true;
  tests = tt;
}

pub add_ring-requires : goal.add_ring-requires
add_ring-requires c = let h = fits-within c.args.e c.args.rings.now c.args.count (sym c.count_fits.ensures ∙ not-false _ c.if-not-count_fits.false-raw) in
    let r = c.room_of.ensures in
    (omega arith, omega arith, omega arith)

pub returns-in_err-added : goal.returns-in_err-added
returns-in_err-added c = let clipped = c.clipped-c in
    let room_of = c.room_of in
    let add-ring = c.add_ring in
    let x = took-refused _ _ c.from_residual.ensures.1 in
    record {
      takes = refuses-11 c.args.e c.args.rings.now c.args.count c.args.generation c.args.ring (sym c.count_fits.ensures ∙ not-false _ c.if-not-count_fits.false-raw) (sym c.is_finite_ring.ensures ∙ not-false _ c.if-not-is_finite_ring.false-raw) (ap filled (sym clipped.ensures) ∙ sym c.is_filled.ensures ∙ not-false _ c.if-not-is_filled.false-raw) c.if-generation-ge-LAST_GENERATION.false clipped.result clipped.ensures room_of.result room_of.ensures (stored_by add-ring.result) _ add-ring.ensures.stores _ _ x.0 (ap (λ (a : Result Added Refusal). placed_of (stored_by a)) c.in_err-added.was);
      tests = x.1 _;
    }

pub returns : goal.returns
returns c = let clipped = c.clipped-c in
    let room_of = c.room_of in
    let add-ring = c.add_ring in
    record {
      takes = stores-ring c.args.e c.args.rings.now c.args.count c.args.generation c.args.ring (sym c.count_fits.ensures ∙ not-false _ c.if-not-count_fits.false-raw) (sym c.is_finite_ring.ensures ∙ not-false _ c.if-not-is_finite_ring.false-raw) (ap filled (sym clipped.ensures) ∙ sym c.is_filled.ensures ∙ not-false _ c.if-not-is_filled.false-raw) c.if-generation-ge-LAST_GENERATION.false clipped.result clipped.ensures room_of.result room_of.ensures (stored_by add-ring.result) _ add-ring.ensures.stores _ (ap stored_by c.in_ok-added.was);
      tests = for-added c.args.e c.args.ring clipped.result (rings_of c.args.count c.args.rings.now) add-ring.result _ clipped.ensures c.in_ok-added.was add-ring.ensures.tests;
    }
