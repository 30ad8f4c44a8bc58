-- `passes::lists::part_lies` meets its contract. Assumes nothing.
use mathlib.Core.Path.{sym, ap, ap₂}
use mathlib.Core.Bool.{Bool, ◌&&◌}
use Prim.Native.Nat.{◌+◌, ◌*◌, ◌-◌}
use borrow.Author.Tests.{lt-ltb, le-ltb, lt-leb, le-leb}
use lib.Dec.{leb}
use lib.ListN.{length, get_or}
use Rattle.passes.proofs.lists.part_lies.Goals as goal

pub returns-then-parts-at : goal.returns-then-parts-at
returns-then-parts-at c = let a = c.args in
    let ps = a.parts.now in
    sym (ap (λ (t : Bool). t && leb (get_or ps (2 * a.k) 0) a.len && leb (get_or ps (2 * a.k + 1) 0) (a.len - get_or ps (2 * a.k) 0)) (le-ltb (2 * a.k + 1) (length ps) c.if-parts-at.true))

pub returns-then-len-start : goal.returns-then-len-start
returns-then-len-start c = let a = c.args in
    let ps = a.parts.now in
    sym (ap₂ (λ (s t : Bool). s && t && leb (get_or ps (2 * a.k + 1) 0) (a.len - get_or ps (2 * a.k) 0)) (lt-ltb (2 * a.k + 1) (length ps) c.if-parts-at.false) (lt-leb (get_or ps (2 * a.k) 0) a.len c.if-len-start.true))

pub returns : goal.returns
returns c = let a = c.args in
    let ps = a.parts.now in
    sym (ap₂ (λ (s t : Bool). s && t && leb (get_or ps (2 * a.k + 1) 0) (a.len - get_or ps (2 * a.k) 0)) (lt-ltb (2 * a.k + 1) (length ps) c.if-parts-at.false) (le-leb (get_or ps (2 * a.k) 0) a.len c.if-len-start.false))
