-- `passes::lists::beside_at` meets its contract. Assumes nothing.
use mathlib.Core.Path.{sym, ap₂, ◌∙◌}
use mathlib.Core.Bool.{Bool, ◌&&◌}
use mathlib.Core.List.{[]}
use native.Mathlib.Omega.{arith}
use lib.ListN.{length}
use Rattle.stock.proofs.Count.{and_both}
use Rattle.passes.specs.Cuts.{cuts_of}
use Rattle.passes.proofs.Decoded.{lies, beside-is, beside_none}
use Rattle.passes.proofs.lists.beside_at.Goals as goal

pub bounds-parts-k : goal.bounds-parts-k
bounds-parts-k c = let w = lies c.args.parts.now (length c.args.lists.now) c.args.k (sym c.part_lies.ensures ∙ (and_both c.is_swept.result c.part_lies.result c.if-is_swept-part_lies.true).1) in
    omega (arith, w.there)

pub bounds-parts-k-then-is_swept-part_lies : goal.bounds-parts-k-then-is_swept-part_lies
bounds-parts-k-then-is_swept-part_lies c = let w = lies c.args.parts.now (length c.args.lists.now) c.args.k (sym c.part_lies.ensures ∙ (and_both c.is_swept.result c.part_lies.result c.if-is_swept-part_lies.true).1) in
    omega (arith, w.there)

pub part-requires : goal.part-requires
part-requires c = let w = lies c.args.parts.now (length c.args.lists.now) c.args.k (sym c.part_lies.ensures ∙ (and_both c.is_swept.result c.part_lies.result c.if-is_swept-part_lies.true).1) in
    omega (arith, w.start, w.count)

pub returns-then-is_swept-part_lies : goal.returns-then-is_swept-part_lies
returns-then-is_swept-part_lies c = let a = c.args in
    c.part.ensures ∙ sym (beside-is (cuts_of a.kinds.now [] a.parts.now a.lists.now) a.k (ap₂ (λ (s t : Bool). s && t) (sym c.is_swept.ensures) (sym c.part_lies.ensures) ∙ c.if-is_swept-part_lies.true))

pub returns : goal.returns
returns c = let a = c.args in
    c.part-2.ensures ∙ sym (beside_none (cuts_of a.kinds.now [] a.parts.now a.lists.now) a.k (ap₂ (λ (s t : Bool). s && t) (sym c.is_swept.ensures) (sym c.part_lies.ensures) ∙ c.if-is_swept-part_lies.false))
