-- However the bytes of a file are cut into parts, what `take_part` leaves of them one after the other and `finish` at the end is that of the whole file. Assumes nothing.
use Rattle.std.specs.Prelude.{Result}
use Rattle.refusals.specs.Number.{placed_of}
use Rattle.refusals.specs.declared.Refused.{Refused}
use Prim.Native.Nat.{ℕ, ◌≤◌, ◌<◌, min}
use native.Mathlib.Omega.{arith}
use native.Mathlib.Nat.{min-eq_left}
use mathlib.Core.Path.{◌≡◌, refl, sym, ap, ◌∙◌, subst}
use mathlib.Core.Bool.{Bool, true, false}
use mathlib.Core.List.{List, [], ◌∷◌, ◌++◌}
use lib.Dec.{eqb, ltb}
use lib.ListN.{length, take, drop, length-append}
use lib.Seq.{take-append_seam}
use lib.Ieee.{Float}
use borrow.Author.Tests.{ltb-true}
use Rattle.refusals.specs.Lent.{over}
use Rattle.floats.specs.Pick.{pick}
use Rattle.text.proofs.Chosen.{yes, no}
use Rattle.lines.specs.File.{joined}
use Rattle.lines.specs.File as file
use Rattle.lines.specs.Hands.{Hand, hand, byte_on, takes, in_turn}
use Rattle.lines.proofs.AnyCut.{any-cut}
use Rattle.stock_lines.specs.declared.Reading.{Reading}
use Rattle.stock_lines.specs.Reading.{State, state, refusing, on_line}
use Rattle.stock_file.specs.declared.Kept.{Kept}
use Rattle.stock_file.specs.Read.{fresh_reading, stopped, on_long, on_end, held_in, taking, ended, told_as, file_in, read_of}
use Rattle.stock_file.specs.InParts.{Took, start, part, Finished}

pub long-stops : (st : State) → stopped (on_long st) ≡ true
unfolding refusing
long-stops st = refl

-- ---- no more than 127 bytes are held

byte-few : (j : Hand State) (b : ℕ) → length j.held ≤ 127 → length (byte_on stopped on_line on_long j b).held ≤ 127
unfolding byte_on
byte-few j b w = by (stopped j.job) refl (eqb b 10) refl (ltb (length j.held) 127) refl
  where
    by : (t : Bool) → stopped j.job ≡ t → (u : Bool) → eqb b 10 ≡ u → (v : Bool) → ltb (length j.held) 127 ≡ v → length (byte_on stopped on_line on_long j b).held ≤ 127
    by true e u f v g = simp (e, yes) w
    by false e true f v g = simp (e, f, no, yes) (omega arith)
    by false e false f true g = let r : length j.held < 127 = ltb-true _ _ g in simp (e, f, g, no, yes) (omega (arith, r, length-append j.held (b ∷ [])))
    by false e false f false g = simp (e, f, g, no) (omega arith)

pub takes-few : (s : List ℕ) (j : Hand State) → length j.held ≤ 127 → length (takes stopped on_line on_long j s).held ≤ 127
unfolding takes
takes-few [] j w = w
takes-few (b ∷ s) j w = takes-few s (byte_on stopped on_line on_long j b) (byte-few j b w)

-- what is held over is found again
pub found-again : (h l : List ℕ) (n : ℕ) → length h ≤ 127 → n ≡ length h → held_in n (over h l) ≡ h
unfolding over
found-again h l n w e =
    ap (λ (k : ℕ). take (min k 127) (h ++ drop (length h) l)) e
    ∙ ap (λ (k : ℕ). take k (h ++ drop (length h) l)) (min-eq_left w)
    ∙ take-append_seam h (drop (length h) l)

-- the calls are the parts taken one after the other
pub took-parts : {j k : Hand State} {ps : List (List ℕ)} → Took j ps k → length j.held ≤ 127 → k ≡ in_turn stopped on_line on_long j ps
unfolding in_turn
took-parts start w = refl
took-parts (part {reading} {len} {cells} {rings} {line} {p = p} {ps = ps} {r = r} t u) w =
    let o : Hand State = taking (state reading cells.entry.now rings.entry.now) (held_in len line.entry.now) p in
    let f : length o.held ≤ 127 = takes-few p _ w in
    let h : held_in r.len line.exit.now ≡ o.held = ap (held_in r.len) t.keeps ∙ found-again o.held line.entry.now r.len f t.holds in
    let q : hand (state r.reading cells.exit.now rings.exit.now) (held_in r.len line.exit.now) ≡ o = ap (λ (x : State). hand x (held_in r.len line.exit.now)) t.reads ∙ ap (λ (x : List ℕ). hand o.job x) h in
    took-parts u (subst (λ (x : List ℕ). length x ≤ 127) (sym h) f) ∙ ap (λ (x : Hand State). in_turn stopped on_line on_long x ps) q

-- ---- the end

pub end_is : (r : Reading) (cs rs : List Float) (h : List ℕ) → state (ended r (length h)) cs rs ≡ file.ended stopped on_long on_end (state r cs rs) h
unfolding ended file.ended
end_is r cs rs h = by r.refused refl (eqb (length h) 0) refl (ltb r.stage 2) refl
  where
    by : (t : Bool) → r.refused ≡ t → (u : Bool) → eqb (length h) 0 ≡ u → (v : Bool) → ltb r.stage 2 ≡ v
        → state (pick r.refused r (pick (eqb (length h) 0) (pick (ltb r.stage 2) (refusing r) r) (refusing r))) cs rs
        ≡ pick r.refused (state r cs rs) (pick (eqb (length h) 0) (pick (ltb r.stage 2) (state (refusing r) cs rs) (state r cs rs)) (state (refusing r) cs rs))
    by true e u f v g = simp (e, yes)
    by false e true f true g = simp (e, f, g, yes, no)
    by false e true f false g = simp (e, f, g, yes, no)
    by false e false f v g = simp (e, f, no)

-- HOWEVER A FILE IS CUT INTO PARTS, also with nothing in some or inside a number: what is left at its end is what the whole file leaves, and `finish` tells what the whole file tells.
pub however-cut : {most : ℕ} {cs rs : List Float} {ps : List (List ℕ)} {r : Result Kept Refused} (f : Finished most cs rs ps r)
    → (placed_of r ≡ read_of most cs rs (joined ps)) × (f.left.job.cells ≡ (file_in cs rs (joined ps)).cells) × (f.left.job.rings ≡ (file_in cs rs (joined ps)).rings)
however-cut {most} {cs} {rs} {ps} {r} f =
    let k = f.left in
    let e : state (ended k.job.reading (length k.held)) k.job.cells k.job.rings ≡ file_in cs rs (joined ps) =
    end_is k.job.reading k.job.cells k.job.rings k.held
    ∙ ap (λ (j : Hand State). file.ended stopped on_long on_end j.job j.held) (took-parts f.took (omega arith))
    ∙ any-cut stopped on_line on_long on_end long-stops ps (state fresh_reading cs rs) in
    (f.told ∙ ap (λ (x : State). told_as x.reading most x.cells x.rings) e, ap (λ (x : State). x.cells) e, ap (λ (x : State). x.rings) e)
