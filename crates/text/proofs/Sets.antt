-- Texts put after one another. Assumes nothing.
use Rattle.std.proofs.Common.{◌≡◌, ℕ, suc, ◌+◌, ◌-◌, ◌<◌, ◌≤◌, Bool, true, false, leb, List, [], ◌∷◌, ◌++◌, length, take, drop, drop-drop, append_assoc, set, sym, refl, ap, ◌∙◌, subst, add-one, arith, length-append, le-leb, leb-false, leb-true}
use lib.Seq.{sets, sets-eq, length-sets, set_comm}
use borrow.Rule.Slice.PartMut.{put_mid}
use borrow.Author.Tests.{lt-leb}
use Rattle.floats.specs.Pick.{pick_true, pick-false}
use Rattle.text.specs.Wrote.{Wrote, line_room, Put}

-- a store past a text commutes with it
pub set-sets : (vs l : List ℕ) (i j a : ℕ) → i + length vs ≤ j → set (sets l i vs) j a ≡ sets (set l j a) i vs
set-sets [] l i j a h = refl
set-sets (v ∷ vs) l i j a h =
    set-sets vs (set l i v) (suc i) j a (omega arith) ∙ ap (λ (x : List ℕ). sets x (suc i) vs) (set_comm l i j v a (λ e. omega arith))

pub sets-append : (s t l : List ℕ) (i : ℕ) → sets l i (s ++ t) ≡ sets (sets l i s) (i + length s) t
sets-append [] t l i = let e : i ≡ i + 0 = omega arith in ap (λ (n : ℕ). sets l n t) e
sets-append (v ∷ s) t l i =
    let e : suc i + length s ≡ i + suc (length s) = omega arith in
    sets-append s t (set l i v) (suc i) ∙ ap (λ (n : ℕ). sets (sets (set l i v) (suc i) s) n t) e

-- one text and then another is the two joined
pub and_then : {l m o s t : List ℕ} {i j k : ℕ} → Wrote l i s m j → Wrote m j t o k → Wrote l i (s ++ t) o k
and_then {l} {m} {o} {s} {t} {i} {j} {k} u v = record {
  text = v.text ∙ ap (λ (x : List ℕ). sets x j t) u.text ∙ ap (λ (n : ℕ). sets (sets l i s) n t) u.end ∙ sym (sets-append s t l i);
  end = omega (arith, u.end, v.end, length-append s t);
}

-- a text over as many bytes at a place
pub put_over : (g s : List ℕ) (at : ℕ) → at + length s ≤ length g → put_mid at (at + length s - at) g s ≡ sets g at s
put_over g s at h = sym (sets-eq s g at h ∙ append_assoc (take at g) s (drop (at + length s) g) ∙ ap (λ (r : List ℕ). take at g ++ (s ++ r)) rest)
  where
    rest : drop (at + length s) g ≡ drop (at + length s - at) (drop at g)
    rest = let e : at + length s ≡ at + (at + length s - at) = omega arith in ap (λ (n : ℕ). drop n g) e ∙ sym (drop-drop (at + length s - at) at g)

-- the same text under another name
pub retext : {l m s t : List ℕ} {i j : ℕ} → s ≡ t → Wrote l i s m j → Wrote l i t m j
retext {l} {m} {s} {t} {i} {j} e w = subst (λ (x : List ℕ). Wrote l i x m j) e w

-- a byte and then a text
pub byte-then : {l m t : List ℕ} {i j a : ℕ} → Wrote (set l i a) (i + 1) t m j → Wrote l i (a ∷ t) m j
byte-then {l} {m} {t} {i} {j} {a} w = record { text = w.text ∙ ap (λ (n : ℕ). sets (set l i a) n t) (add-one i); end = omega (arith, w.end) }

-- a buffer keeps its length
pub room : {l m t : List ℕ} {i j : ℕ} → Wrote l i t m j → length m ≡ length l
room {l} {m} {t} {i} {j} w = ap length w.text ∙ length-sets l i t

-- ---- a text of k bytes put whole or not at all

-- room as it is asked for
pub room_in : (i k : ℕ) → i ≤ line_room → leb k (line_room - i) ≡ leb (i + k) line_room
room_in i k h = by (leb k (line_room - i)) refl
  where
    by : (t : Bool) → leb k (line_room - i) ≡ t → t ≡ leb (i + k) line_room
    by true e = let g : k ≤ line_room - i = leb-true _ _ e in let f : i + k ≤ line_room = omega arith in sym (le-leb _ _ f)
    by false e = let g : line_room - i < k = leb-false _ _ e in let f : line_room < i + k = omega arith in sym (lt-leb _ _ f)

pub room-past : (i k : ℕ) → line_room < i → false ≡ leb (i + k) line_room
room-past i k h = let f : line_room < i + k = omega arith in sym (lt-leb _ _ f)

-- and as it is found
pub room-found : (i k : ℕ) {t : Bool} → t ≡ leb (i + k) line_room → t ≡ true → i + k ≤ line_room
room-found i k e h = leb-true _ _ (sym e ∙ h)

module _ {l m t : List ℕ} {i j : ℕ} (k : ℕ) (e : length t ≡ k) where
  pub put_whole : leb (i + k) line_room ≡ true → Wrote l i t m j → Put l i t m j
  put_whole h w =
      let g : leb (i + length t) line_room ≡ true = rw e h in
      record { text = w.text ∙ sym (pick_true _ _ _ g); end = w.end ∙ sym (pick_true _ _ _ g) }

  -- what finds room is written
  pub put-wrote : i + k ≤ line_room → Put l i t m j → Wrote l i t m j
  put-wrote h p =
      let g : leb (i + length t) line_room ≡ true = rw e (le-leb _ _ h) in
      record { text = p.text ∙ pick_true _ _ _ g; end = p.end ∙ pick_true _ _ _ g }

pub put-none : {l t : List ℕ} {i : ℕ} (k : ℕ) → length t ≡ k → leb (i + k) line_room ≡ false → Put l i t l i
put-none {l} {t} {i} k e h =
    let g : leb (i + length t) line_room ≡ false = rw e h in
    record { text = sym (pick-false _ _ _ g); end = sym (pick-false _ _ _ g) }

-- the same text under another name
pub reput : {l m s t : List ℕ} {i j : ℕ} → s ≡ t → Put l i s m j → Put l i t m j
reput {l} {m} {s} {t} {i} {j} e p = subst (λ (x : List ℕ). Put l i x m j) e p

pub put-room : {l m t : List ℕ} {i j : ℕ} → Put l i t m j → length m ≡ length l
put-room {l} {m} {t} {i} {j} p = by (leb (i + length t) line_room) refl
  where
    by : (b : Bool) → leb (i + length t) line_room ≡ b → length m ≡ length l
    by true e = ap length (p.text ∙ pick_true _ _ _ e) ∙ length-sets l i t
    by false e = ap length (p.text ∙ pick-false _ _ _ e)
