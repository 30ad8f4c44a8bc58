-- Bytes of a stock file taken in turn, and what they tell at the end. Assumes nothing.
use Prim.Native.Nat.{ℕ, ◌≤◌}
use native.Mathlib.Omega.{arith}
use mathlib.Core.Path.{◌≡◌, refl, sym, ap, ◌∙◌, subst}
use mathlib.Core.Bool.{Bool, true, false}
use mathlib.Core.List.{List, [], ◌∷◌, ◌++◌}
use lib.Dec.{ltb}
use lib.ListN.{length, take, length-append}
use lib.Ieee.{Float}
use borrow.Author.Tests.{ne_eqb}
use Rattle.std.specs.Prelude.{Result}
use Rattle.refusals.specs.Number.{placed_of}
use Rattle.refusals.specs.declared.Refused.{Refused}
use Rattle.refusals.specs.Lent.{Lent, over}
use Rattle.text.proofs.Chosen.{yes, no}
use Rattle.streams.specs.declared.Got.{Got}
use Rattle.streams.specs.declared.Got.TheVariants as got
use Rattle.streams.specs.Brought.{brought_by, held_by}
use Rattle.lines.specs.File as file
use Rattle.lines.specs.Hands.{Hand, hand, byte_on, takes}
use Rattle.lines.proofs.Parts.{parts}
use Rattle.lines.proofs.OneFile.{whole-file}
use Rattle.stock_lines.specs.declared.Reading.{Reading}
use Rattle.stock_lines.specs.Reading.{State, state, refusing, on_line}
use Rattle.stock_file.specs.declared.Taken.{Taken}
use Rattle.stock_file.specs.declared.Kept.{Kept}
use Rattle.stock_file.specs.Read.{TakesPart, fresh_reading, stopped, on_long, on_end, held_in, taking, ended, told_as, file_in}
use Rattle.stock_file.proofs.Cut.{long-stops, takes-few, found-again, end_is}
use Rattle.stock_streams.specs.Read.{ReadsOn, ReadsPart, StockOfSome}

-- some bytes from before the first on
abbrev pub came : List Float → List Float → List ℕ → Hand State
came cs rs s = taking (state fresh_reading cs rs) [] s

few : (cs rs : List Float) (s : List ℕ) → length (came cs rs s).held ≤ 127
few cs rs s = takes-few s (hand (state fresh_reading cs rs) []) (omega arith)

-- a reading is what the bytes that came make of it
pub record SoFar (cs rs : List Float) (reading : Reading) (len : ℕ) (cells rings : List Float) (line : List ℕ) : Type 0 where
  pub bytes : List ℕ
  pub reads : state reading cells rings ≡ (came cs rs bytes).job
  pub holds : len ≡ length (came cs rs bytes).held
  pub keeps : held_in len line ≡ (came cs rs bytes).held

-- before the first
pub none_yet : (cs rs : List Float) (reading : Reading) (line : List ℕ) → reading ≡ fresh_reading → SoFar cs rs reading 0 cs rs line
unfolding takes
none_yet cs rs reading line e = record { bytes = []; reads = ap (λ (x : Reading). state x cs rs) e; holds = refl; keeps = refl }

-- the bytes that a read brought, taken
pub read_once : {reading : Reading} {len : ℕ} {cells rings : Lent Float} {line : Lent ℕ} (g : Got) (part s : List ℕ) (k : ℕ) (r : Taken)
    → TakesPart reading len cells rings line s r → s ≡ take k part → k ≡ brought_by g → ReadsPart reading len cells rings line g part r.reading r.len
read_once {reading} {len} {cells} {rings} {line} g part s k r t e f =
    subst (λ (b : List ℕ). TakesPart reading len cells rings line b (record { reading = r.reading; len = r.len })) (e ∙ ap (λ (n : ℕ). take n part) f)
    (record { room = t.room; reads = t.reads; holds = t.holds; keeps = t.keeps })

-- and on from there
pub some_more : {cs rs : List Float} {reading r : Reading} {len n : ℕ} {cells rings : Lent Float} {line : Lent ℕ}
    → SoFar cs rs reading len cells.entry.now rings.entry.now line.entry.now → ReadsOn reading len cells rings line r n
    → SoFar cs rs r n cells.exit.now rings.exit.now line.exit.now
some_more {cs} {rs} {reading} {r} {len} {n} {cells} {rings} {line} a o =
    let t = o.takes in
    let s = a.bytes ++ o.bytes in
    let all : taking (state reading cells.entry.now rings.entry.now) (held_in len line.entry.now) o.bytes ≡ came cs rs s =
    ap (λ (x : State). taking x (held_in len line.entry.now) o.bytes) a.reads
    ∙ ap (λ (h : List ℕ). taking (came cs rs a.bytes).job h o.bytes) a.keeps
    ∙ sym (parts stopped on_line on_long a.bytes o.bytes (hand (state fresh_reading cs rs) [])) in
    let held : n ≡ length (came cs rs s).held = t.holds ∙ ap (λ (j : Hand State). length j.held) all in
    record {
      bytes = s;
      reads = t.reads ∙ ap (λ (j : Hand State). j.job) all;
      holds = held;
      keeps = ap (held_in n) (t.keeps ∙ ap (λ (j : Hand State). over j.held line.entry.now) all) ∙ found-again (came cs rs s).held line.entry.now n (few cs rs s) held;
    }

-- what the end makes of a hand
abbrev is_at_end : Hand State → State
is_at_end j = file.ended stopped on_long on_end j.job j.held

-- cut off: one byte more that is no newline, and then the end
one_more : (r : Reading) (cs rs : List Float) (h : List ℕ) → state (ended r 1) cs rs ≡ is_at_end (byte_on stopped on_line on_long (hand (state r cs rs) h) 0)
unfolding byte_on ended refusing file.ended
one_more r cs rs h = by r.refused refl (ltb (length h) 127) refl
  where
    by : (t : Bool) → r.refused ≡ t → (v : Bool) → ltb (length h) 127 ≡ v → state (ended r 1) cs rs ≡ is_at_end (byte_on stopped on_line on_long (hand (state r cs rs) h) 0)
    by true e v f = simp (e, yes)
    by false e true f = simp (e, f, yes, no, ne_eqb (length (h ++ (0 ∷ []))) 0 (λ q. omega (arith, q, length-append h (0 ∷ []))))
    by false e false f = simp (e, f, yes, no)

module _ {reading : Reading} {len : ℕ} {cs cs' rs rs' : List Float} {line : List ℕ} (most : ℕ) (r : Result Kept Refused) (a : SoFar cs rs reading len cs' rs' line) where
  hands : hand (state reading cs' rs') (came cs rs a.bytes).held ≡ came cs rs a.bytes
  hands = ap (λ (x : State). hand x (came cs rs a.bytes).held) a.reads

  whole : (s : List ℕ) → is_at_end (came cs rs s) ≡ file_in cs rs s
  whole s = whole-file stopped on_line on_long on_end long-stops s (state fresh_reading cs rs)

  told-by : (k : ℕ) (s : List ℕ) → state (ended reading k) cs' rs' ≡ file_in cs rs s → placed_of r ≡ told_as (ended reading k) most cs' rs' → StockOfSome most r cs cs' rs rs'
  told-by k s e p = record {
    bytes = s;
    told = p ∙ ap (λ (x : State). told_as x.reading most x.cells x.rings) e;
    cells = ap (λ (x : State). x.cells) e;
    rings = ap (λ (x : State). x.rings) e;
  }

  cut : placed_of r ≡ told_as (ended reading 1) most cs' rs' → StockOfSome most r cs cs' rs rs'
  unfolding takes
  cut p =
      told-by 1 (a.bytes ++ (0 ∷ []))
      (one_more reading cs' rs' (came cs rs a.bytes).held
      ∙ ap (λ (j : Hand State). is_at_end (byte_on stopped on_line on_long j 0)) hands
      ∙ ap is_at_end (sym (parts stopped on_line on_long a.bytes (0 ∷ []) (hand (state fresh_reading cs rs) [])))
      ∙ whole (a.bytes ++ (0 ∷ [])))
      p

  -- the input is at its end
  pub done : (g : Got) (k : ℕ) → k ≡ held_by g len → placed_of r ≡ told_as (ended reading k) most cs' rs' → StockOfSome most r cs cs' rs rs'
  done got.End k e p =
      told-by k a.bytes
      (ap (λ (i : ℕ). state (ended reading i) cs' rs') (e ∙ a.holds)
      ∙ end_is reading cs' rs' (came cs rs a.bytes).held
      ∙ ap is_at_end hands
      ∙ whole a.bytes)
      p
  done got.Cut k e p = cut (p ∙ ap (λ (i : ℕ). told_as (ended reading i) most cs' rs') e)
  done (got.Bytes n) k e p = cut (p ∙ ap (λ (i : ℕ). told_as (ended reading i) most cs' rs') e)
