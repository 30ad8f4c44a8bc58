-- Texts put one after the other, where all of them find room. Assumes nothing.
use Rattle.std.proofs.Common.{◌≡◌, ℕ, ◌+◌, ◌≤◌, true, leb, List, refl, arith, leb-true}
use lib.Ieee.{Float}
use Rattle.text.specs.Lines.{newline, field, four_fields}
use Rattle.text.specs.Wrote.{Wrote, line_room, Put}
use Rattle.text.proofs.Sets.{and_then, put_whole, put-wrote}
use Rattle.text.proofs.Spelling.{field-long, four-long}

-- a field, and where it ends
record OneMore (l : List ℕ) (i : ℕ) (t : List ℕ) (m : List ℕ) (j k : ℕ) : Type 0 where
  wrote : Wrote l i t m j
  end : j ≡ i + k

one_more : {l m : List ℕ} {i j : ℕ} (x : Float) → i + 17 ≤ line_room → Put l i (field x) m j → OneMore l i (field x) m j 17
one_more x h p =
    let w = put-wrote 17 (field-long x) h p in
    record { wrote = w; end = omega (arith, w.end, field-long x) }

-- four fields and a newline
pub four-put : {l m₁ m₂ m₃ m₄ o : List ℕ} {at e₁ e₂ e₃ e₄ r : ℕ} (a b c d : Float) → leb (at + 69) line_room ≡ true
    → Put l at (field a) m₁ e₁ → Put m₁ e₁ (field b) m₂ e₂ → Put m₂ e₂ (field c) m₃ e₃ → Put m₃ e₃ (field d) m₄ e₄ → Put m₄ e₄ newline o r
    → Put l at (four_fields a b c d) o r
four-put {at = at} a b c d h pa pb pc pd pn =
    let g : at + 69 ≤ line_room = leb-true _ _ h in
    let wa = one_more a (omega arith) pa in
    let wb = one_more b (omega arith) pb in
    let wc = one_more c (omega arith) pc in
    let wd = one_more d (omega arith) pd in
    let wn = put-wrote 1 refl (omega arith) pn in
    put_whole 69 (four-long a b c d) h (and_then wa.wrote (and_then wb.wrote (and_then wc.wrote (and_then wd.wrote wn))))
