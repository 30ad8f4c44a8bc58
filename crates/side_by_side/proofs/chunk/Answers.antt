-- `side_by_side::chunk` meets its contract. Assumes nothing.
use native.Mathlib.Omega.{arith}
use Prim.Native.Nat.{◌-◌, ◌≤◌}
use mathlib.Core.Path.{refl}
use Rattle.text.proofs.Sets.{retext}
use Rattle.side_by_side.proofs.Texts.{by-bin, by_first, by-second, by-none}
use Rattle.side_by_side.proofs.chunk.Goals as goal

pub returns-then-c-n : goal.returns-then-c-n
returns-then-c-n c = let n = c.bin_count-n in
    let a = c.args in
    retext (by-bin a.cells1.now a.cells2.now a.rings1.now a.rings2.now a.count1 a.count2 n.result 0 0 a.c n.ensures c.if-c-n.true) c.put_bin.ensures

pub returns-then-k-m : goal.returns-then-k-m
returns-then-k-m c = let p = c.lent_of-m in
    let n = c.bin_count-n in
    let a = c.args in
    let l : n.result ≤ a.c = omega (arith, c.if-c-n.false) in
    retext
    (by_first a.cells1.now a.cells2.now a.rings1.now a.rings2.now a.count1 a.count2 n.result p.result 0 a.c n.ensures p.ensures l c.if-k-m.true _ c.ring_at.ensures)
    c.put_left.ensures

pub returns-then-j-lent_of : goal.returns-then-j-lent_of
returns-then-j-lent_of c = let o = c.lent_of in
    let p = c.lent_of-m in
    let n = c.bin_count-n in
    let a = c.args in
    let l : n.result ≤ a.c = omega (arith, c.if-c-n.false) in
    let m : p.result ≤ a.c - n.result = omega (arith, c.if-k-m.false) in
    retext
    (by-second a.cells1.now a.cells2.now a.rings1.now a.rings2.now a.count1 a.count2 n.result p.result o.result a.c n.ensures p.ensures o.ensures l m c.if-j-lent_of.true _ c.ring_at-then-j-lent_of.ensures)
    c.put_left-then-j-lent_of.ensures

pub returns : goal.returns
returns c = let o = c.lent_of in
    let p = c.lent_of-m in
    let n = c.bin_count-n in
    let a = c.args in
    let l : n.result ≤ a.c = omega (arith, c.if-c-n.false) in
    let m : p.result ≤ a.c - n.result = omega (arith, c.if-k-m.false) in
    let k : o.result ≤ a.c - n.result - p.result = omega (arith, c.if-j-lent_of.false) in
    retext (by-none a.cells1.now a.cells2.now a.rings1.now a.rings2.now a.count1 a.count2 n.result p.result o.result a.c n.ensures p.ensures o.ensures l m k) (record { text = refl; end = refl })
