-- The unfinished line, held in the first bytes of a line. Assumes nothing.
use Prim.Native.Nat.{ℕ, ◌+◌, ◌-◌, ◌≤◌, ◌<◌, min}
use native.Mathlib.Omega.{arith}
use native.Mathlib.Nat.{min-le_right}
use native.Mathlib.Numerals.{add-one}
use mathlib.Core.Path.{◌≡◌, sym, ap, ap₂, ◌∙◌}
use mathlib.Core.Bool.{true, false}
use mathlib.Core.List.{List, [], ◌∷◌, ◌++◌}
use lib.ListN.{length, take, drop, set, get_or, drop_of_length-le, length-set}
use lib.Seq.{sets-eq, drop-cons, length-take-le, take-suc-set}
use borrow.Author.Tests.{eq-eqb, ne_eqb, lt-ltb, le-ltb}
use Rattle.refusals.specs.Lent.{over}
use Rattle.text.specs.Wrote.{line_room, Put}
use Rattle.text.proofs.Sets.{put-wrote, reput}
use Rattle.lines.specs.Hands.{Hand, hand, byte_on, takes}
use Rattle.lines.proofs.Parts.{stopped-takes, byte-newline, byte-held, byte-long}
use Rattle.stock_lines.specs.declared.Reading.{Reading}
use Rattle.stock_lines.specs.Reading.{State, state, refusing, on_line}
use Rattle.stock_lines.proofs.Steps.{wrote-front}
use Rattle.stock_file.specs.Read.{stopped, on_long, held_in, taking, HoldsOn}

module _ (st : State) (l : List ℕ) (n b : ℕ) (few : n ≤ 127) (room : length l ≡ line_room) where
  long : length (take n l) ≡ n
  long = length-take-le n l (omega (arith, room))

  pub taken-stopped : st.reading.refused ≡ true → hand st (take n l) ≡ byte_on stopped on_line on_long (hand st (take n l)) b
  unfolding takes
  taken-stopped e = sym (stopped-takes stopped on_line on_long (b ∷ []) st (take n l) e)

  pub taken-line : (st' : State) (l' : List ℕ) → st.reading.refused ≡ false → b ≡ 10 → st' ≡ on_line st (take n l)
      → hand st' (take 0 l') ≡ byte_on stopped on_line on_long (hand st (take n l)) b
  taken-line st' l' e f q =
      ap (λ (x : State). hand x []) q ∙ sym (byte-newline stopped on_line on_long st (take n l) b e (eq-eqb _ _ f))

  pub taken-held : (l' : List ℕ) → st.reading.refused ≡ false → (b ≡ 10 → ⊥) → n < 127 → l' ≡ set l n b
      → hand st (take (n + 1) l') ≡ byte_on stopped on_line on_long (hand st (take n l)) b
  taken-held l' e f h q =
      let w : length (take n l) < 127 = omega (arith, long) in
      ap (λ (x : List ℕ). hand st (take (n + 1) x)) q
      ∙ ap (λ (k : ℕ). hand st (take k (set l n b))) (add-one n)
      ∙ ap (λ (x : List ℕ). hand st x) (take-suc-set l n b (omega (arith, room)))
      ∙ sym (byte-held stopped on_line on_long st (take n l) b e (ne_eqb _ _ f) (lt-ltb _ _ w))

  pub taken-long : (r : Reading) (l' : List ℕ) → st.reading.refused ≡ false → (b ≡ 10 → ⊥) → 127 ≤ n → r ≡ refusing st.reading
      → hand (state r st.cells st.rings) (take 0 l') ≡ byte_on stopped on_line on_long (hand st (take n l)) b
  taken-long r l' e f h q =
      let w : 127 ≤ length (take n l) = omega (arith, long) in
      ap (λ (x : Reading). hand (state x st.cells st.rings) []) q
      ∙ sym (byte-long stopped on_line on_long st (take n l) b e (ne_eqb _ _ f) (le-ltb _ _ w))

-- ---- bytes one after the other

pub bytes-step : (s : List ℕ) (i : ℕ) (j k : Hand State) → i < length s → k ≡ byte_on stopped on_line on_long j (get_or s i 0)
    → takes stopped on_line on_long j (drop i s) ≡ takes stopped on_line on_long k (drop (i + 1) s)
unfolding takes
bytes-step s i j k l e = rw (add-one i, drop-cons s i 0 l, e)

pub bytes-end : (s : List ℕ) (i : ℕ) (j : Hand State) → length s ≤ i → takes stopped on_line on_long j (drop i s) ≡ j
unfolding takes
bytes-end s i j l = rw (drop_of_length-le s l)

-- ---- bytes that are held, up to a newline

pub none-held : (len : ℕ) (l s : List ℕ) (from : ℕ) → len ≤ 127 → length l ≡ line_room → from ≤ length s → HoldsOn len l s from 0 l
none-held len l s from few room reach =
    let e : len ≡ len + 0 = omega arith in
    let f : from ≡ from + 0 = omega arith in
    record { same = λ st _. ap₂ (λ (n i : ℕ). taking st (take n l) (drop i s)) e f; few = omega arith; room = room; reach = omega arith }

pub one-held : (len : ℕ) (l s : List ℕ) (from m : ℕ) (k k' : List ℕ) → HoldsOn len l s from m k → m < 127 - len → from + m < length s → (get_or s (from + m) 0 ≡ 10 → ⊥) → k' ≡ set k (len + m) (get_or s (from + m) 0) → HoldsOn len l s from (m + 1) k'
one-held len l s from m k k' h few more plain e =
    let w : len + m < 127 = omega (arith, h.few) in
    let a : len + m + 1 ≡ len + (m + 1) = omega arith in
    let b : from + m + 1 ≡ from + (m + 1) = omega arith in
    record {
      same = λ st f. h.same st f
          ∙ bytes-step s (from + m) (hand st (take (len + m) k)) (hand st (take (len + m + 1) k')) more (taken-held st k (len + m) (get_or s (from + m) 0) h.few h.room k' f plain w e)
          ∙ ap₂ (λ (n i : ℕ). taking st (take n k') (drop i s)) a b;
      few = omega arith;
      room = ap length e ∙ length-set k (len + m) (get_or s (from + m) 0) ∙ h.room;
      reach = omega arith;
    }

-- a reading that is refused goes on as it is
pub run-stopped : (st : State) (l s : List ℕ) (n i j : ℕ) → stopped st ≡ true → taking st (take n l) (drop i s) ≡ taking st (take n l) (drop j s)
run-stopped st l s n i j e = stopped-takes stopped on_line on_long (drop i s) st (take n l) e ∙ sym (stopped-takes stopped on_line on_long (drop j s) st (take n l) e)

-- ---- a part

-- the held bytes, copied to the front of another line
pub copied : {l m : List ℕ} {e : ℕ} (n : ℕ) (s : List ℕ) → n ≤ 127 → length s ≡ line_room → length l ≡ line_room → Put l 0 (take n s) m e → take n m ≡ take n s
copied {l} {m} {e} n s h a b p =
    let w = put-wrote n (length-take-le n s (omega (arith, a))) (omega arith) p in
    let q : e ≡ n = omega (arith, w.end, length-take-le n s (omega (arith, a))) in
    ap (λ (k : ℕ). take k m) (sym q) ∙ wrote-front w (omega (arith, q, b))

-- and back: over the front
pub put-over : {l m : List ℕ} {e : ℕ} (n : ℕ) (s : List ℕ) → n ≤ 127 → length s ≡ line_room → length l ≡ line_room → Put l 0 (take n s) m e → m ≡ over (take n s) l
unfolding over
put-over {l} {m} {e} n s h a b p =
    let k = length-take-le n s (omega (arith, a)) in
    let w = put-wrote n k (omega arith) p in
    let z : 0 + length (take n s) ≡ length (take n s) = omega arith in
    w.text ∙ sets-eq (take n s) l 0 (omega (arith, k, b)) ∙ ap (λ (i : ℕ). take n s ++ drop i l) z

pub few-held : (len n : ℕ) → n ≡ min len 127 → n ≤ 127
few-held len n e = omega (arith, e, min-le_right len 127)

-- what a part leaves: the reading and the room, and the unfinished line over the front of the lent one
pub record Left (st : State) (held s : List ℕ) (st' : State) (n : ℕ) (l l' : List ℕ) : Type 0 where
  pub reads : st' ≡ (taking st held s).job
  pub holds : n ≡ length (taking st held s).held
  pub keeps : l' ≡ over (taking st held s).held l

-- a part taken in a line of its own, and the unfinished line put back
pub part-taken : (st st' : State) (len n k : ℕ) (s l l' a a' : List ℕ) {z t v : List ℕ} {e f : ℕ}
    → n ≡ min len 127 → length l ≡ line_room → length z ≡ line_room → t ≡ take n l → Put z 0 t a e
    → hand st' (take k a') ≡ taking st (take n a) s → k ≤ 127 → length a' ≡ line_room
    → v ≡ take k a' → Put l 0 v l' f
    → Left st (held_in len l) s st' k l l'
part-taken st st' len n k s l l' a a' en room wide et p b few here ev q =
    let c : take n a ≡ held_in len l = copied n l (few-held len n en) room wide (reput et p) ∙ ap (λ (i : ℕ). take i l) en in
    let j : hand st' (take k a') ≡ taking st (held_in len l) s = b ∙ ap (λ (x : List ℕ). taking st x s) c in
    let g : take k a' ≡ (taking st (held_in len l) s).held = ap (λ (x : Hand State). x.held) j in
    record {
      reads = ap (λ (x : Hand State). x.job) j;
      holds = sym (length-take-le k a' (omega arith)) ∙ ap length g;
      keeps = put-over k a' few here room (reput ev q) ∙ ap (λ (x : List ℕ). over x l) g;
    }
