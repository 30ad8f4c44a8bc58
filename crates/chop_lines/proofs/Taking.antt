-- Bytes of a profile taken in turn, and the scan that they are. Assumes nothing.
use Rattle.std.proofs.Common.{◌≡◌, ℕ, ◌+◌, ◌*◌, ◌<◌, ◌≤◌, Bool, true, false, not, eqb, ltb, List, [], ◌∷◌, ◌++◌, length, get_or, take, drop, set, sym, refl, ap, ◌∙◌, add-one, arith, length-append, drop_of_length-le, length-take, length-take-le, drop-cons, take-suc-set, le-ltb, lt-ltb, eq-eqb, ne_eqb}
use lib.Ieee.{Float}
use Rattle.floats.specs.Pick.{pick}
use Rattle.text.proofs.Chosen.{yes, no}
use Rattle.streams.specs.declared.Got.{Got}
use Rattle.streams.specs.declared.Got.TheVariants as got
use Rattle.lines.specs.File.{ended}
use Rattle.lines.specs.Hands.{Hand, hand, byte_on, takes}
use Rattle.lines.proofs.Parts.{parts, byte-newline, byte-held, byte-long}
use Rattle.lines.proofs.OneFile.{whole-file}
use Rattle.chop_lines.specs.declared.scan.Scan.{Scan}
use Rattle.chop_lines.specs.Scan.{State, state, fresh_scan, fresh, refusing, on_line, on_long, on_end, stopped, scan_of, in_hand, byte_to, bytes_to, is_at_end, finish_of}
use Rattle.streams.specs.Brought.{held_by}
use Rattle.chop_lines.specs.Reads.{After, ReadsSome}

-- ---- a byte

pub byte-stopped : (j : Hand State) (b : ℕ) → (j.job.scan.refused ≡ 0 → ⊥) → j ≡ byte_to j b
unfolding byte_on
byte-stopped j b h = simp (ne_eqb _ _ h, yes)

module _ (a : State) (l : List ℕ) (len b : ℕ) (goes : a.scan.refused ≡ 0) where
  going : stopped a ≡ false
  going = ap not (eq-eqb _ _ goes)

  pub byte-ends : (after : State) (l' : List ℕ) (n : ℕ) → b ≡ 10 → after ≡ on_line a (take len l) → n ≡ 0 → hand after (take n l') ≡ byte_to (hand a (take len l)) b
  byte-ends after l' n eb e en =
      ap (λ (k : ℕ). hand after (take k l')) en
      ∙ ap (λ (x : State). hand x []) e
      ∙ sym (byte-newline stopped on_line on_long a (take len l) b going (eq-eqb _ _ eb))

  pub byte-goes : (b ≡ 10 → ⊥) → len < 127 → length l ≡ 128 → hand a (take (len + 1) (set l len b)) ≡ byte_to (hand a (take len l)) b
  byte-goes eb h w =
      let t : length (take len l) ≡ len = length-take-le len l (omega (arith, h, w)) in
      let u : length (take len l) < 127 = omega (arith, t, h) in
      ap (λ (x : List ℕ). hand a x) (ap (λ (k : ℕ). take k (set l len b)) (add-one len) ∙ take-suc-set l len b (omega (arith, h, w)))
      ∙ sym (byte-held stopped on_line on_long a (take len l) b going (ne_eqb _ _ eb) (lt-ltb _ _ u))

  pub byte-over : (r : Scan) → (b ≡ 10 → ⊥) → 127 ≤ len → length l ≡ 128 → r ≡ refusing a.scan → hand (state r a.points) (take 0 l) ≡ byte_to (hand a (take len l)) b
  byte-over r eb h w e =
      let u : 127 ≤ length (take len l) = long in
      ap (λ (x : Scan). hand (state x a.points) []) e
      ∙ sym (byte-long stopped on_line on_long a (take len l) b going (ne_eqb _ _ eb) (le-ltb _ _ u))
    where
      long : 127 ≤ length (take len l)
      long = omega (arith, length-take len l, h, w)

-- ---- bytes

pub bytes-step : (s : List ℕ) (i : ℕ) (h k : Hand State) → i < length s → k ≡ byte_to h (get_or s i 0) → bytes_to h (drop i s) ≡ bytes_to k (drop (i + 1) s)
unfolding takes
bytes-step s i h k l e = rw (add-one i, drop-cons s i 0 l, e)

pub bytes-end : (s : List ℕ) (i : ℕ) (h : Hand State) → length s ≤ i → bytes_to h (drop i s) ≡ h
unfolding takes
bytes-end s i h l = rw (drop_of_length-le s l)

-- ---- the end

pub finish-stopped : (s : Scan) (n : ℕ) → (s.refused ≡ 0 → ⊥) → s ≡ finish_of s n
unfolding finish_of
finish-stopped s n h = simp (ne_eqb _ _ h, yes)

pub finish-cut : (s : Scan) (n : ℕ) → s.refused ≡ 0 → (n ≡ 0 → ⊥) → refusing s ≡ finish_of s n
unfolding finish_of
finish-cut s n h k = simp (eq-eqb _ _ h, ne_eqb _ _ k, no, yes)

pub finish-empty : (s : Scan) (n : ℕ) → s.refused ≡ 0 → n ≡ 0 → s.lines ≡ 0 → refusing s ≡ finish_of s n
unfolding finish_of
finish-empty s n h k l = simp (eq-eqb _ _ h, eq-eqb _ _ k, eq-eqb _ _ l, no, yes)

pub finish-done : (s : Scan) (n : ℕ) → s.refused ≡ 0 → n ≡ 0 → (s.lines ≡ 0 → ⊥) → s ≡ finish_of s n
unfolding finish_of
finish-done s n h k l = simp (eq-eqb _ _ h, eq-eqb _ _ k, ne_eqb _ _ l, no)

-- by the number of bytes that are held
finish-ended : (s : Scan) (ps : List Float) (h : List ℕ) (n : ℕ) → n ≡ length h → state (finish_of s n) ps ≡ ended stopped on_long on_end (state s ps) h
unfolding finish_of ended
finish-ended s ps h n e = rw e (by (not (eqb s.refused 0)) refl (eqb (length h) 0) refl (eqb s.lines 0) refl)
  where
    by : (t : Bool) → not (eqb s.refused 0) ≡ t → (u : Bool) → eqb (length h) 0 ≡ u → (v : Bool) → eqb s.lines 0 ≡ v
        → state (pick (not (eqb s.refused 0)) s (pick (not (eqb (length h) 0)) (refusing s) (pick (eqb s.lines 0) (refusing s) s))) ps
        ≡ pick (not (eqb s.refused 0)) (state s ps) (pick (eqb (length h) 0) (pick (eqb s.lines 0) (state (refusing s) ps) (state s ps)) (state (refusing s) ps))
    by true e u f v g = simp (e, yes)
    by false e true f true g = simp (e, f, g, yes, no)
    by false e true f false g = simp (e, f, g, yes, no)
    by false e false f v g = simp (e, f, yes, no)

-- cut off: one byte more that is no newline, and then the end
one_more : (s : Scan) (ps : List Float) (h : List ℕ) → state (finish_of s 1) ps ≡ is_at_end (byte_to (hand (state s ps) h) 0)
unfolding byte_on finish_of ended
one_more s ps h = by (stopped (state s ps)) refl (ltb (length h) 127) refl
  where
    by : (t : Bool) → stopped (state s ps) ≡ t → (v : Bool) → ltb (length h) 127 ≡ v → state (finish_of s 1) ps ≡ is_at_end (byte_to (hand (state s ps) h) 0)
    by true e v f = simp (e, yes)
    by false e true f = simp (e, f, yes, no, ne_eqb (length (h ++ (0 ∷ []))) 0 (λ q. omega (arith, q, length-append h (0 ∷ []))))
    by false e false f = simp (e, f, yes, no)

-- ---- reads

pub after-fresh : (s : Scan) (xs : List Float) (l : List ℕ) → s ≡ fresh_scan → After (hand fresh []) (in_hand s xs 0 l 0)
unfolding takes
after-fresh s xs l e = record { bytes = []; same = ap (λ (x : Scan). hand (state x []) []) e }

pub after_more : {h k m : Hand State} → After h k → After k m → After h m
after_more {h} a b = record {
  bytes = a.bytes ++ b.bytes;
  same = b.same ∙ ap (λ (x : Hand State). bytes_to x b.bytes) a.same ∙ sym (parts stopped on_line on_long a.bytes b.bytes h);
}

whole : (s : List ℕ) → is_at_end (bytes_to (hand fresh []) s) ≡ scan_of s
whole s = whole-file stopped on_line on_long on_end (λ a. refl) s fresh

-- the input is at its end
pub done : {s r : Scan} (g : Got) (xs : List Float) (p n : ℕ) (l : List ℕ) → After (hand fresh []) (in_hand s xs p l n) → n ≤ 127 → length l ≡ 128 → r ≡ finish_of s (held_by g n) → ReadsSome (state r (take (3 * p) xs))
unfolding takes
done {s} {r} g xs p n l a w h e = by g refl
  where
    cut : held_by g n ≡ 1 → ReadsSome (state r (take (3 * p) xs))
    cut q = record {
      bytes = a.bytes ++ (0 ∷ []);
      same =
          ap (λ (x : Scan). state x (take (3 * p) xs)) (e ∙ ap (finish_of s) q)
          ∙ one_more s (take (3 * p) xs) (take n l)
          ∙ ap (λ (j : Hand State). is_at_end (byte_to j 0)) a.same
          ∙ ap is_at_end (sym (parts stopped on_line on_long a.bytes (0 ∷ []) (hand fresh [])))
          ∙ whole (a.bytes ++ (0 ∷ []));
    }

    by : (x : Got) → g ≡ x → ReadsSome (state r (take (3 * p) xs))
    by got.End q = record {
      bytes = a.bytes;
      same =
          ap (λ (x : Scan). state x (take (3 * p) xs)) (e ∙ ap (λ (y : Got). finish_of s (held_by y n)) q)
          ∙ finish-ended s (take (3 * p) xs) (take n l) n (sym (length-take-le n l (omega (arith, w, h))))
          ∙ ap is_at_end a.same
          ∙ whole a.bytes;
    }
    by got.Cut q = cut (ap (λ (y : Got). held_by y n) q)
    by (got.Bytes k) q = cut (ap (λ (y : Got). held_by y n) q)
