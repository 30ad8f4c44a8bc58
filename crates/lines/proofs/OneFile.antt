-- The bytes as they come, and the whole file. Assumes nothing.
use Prim.Native.Nat.{ℕ, ◌≤◌, ◌<◌}
use native.Mathlib.Omega.{arith}
use mathlib.Core.Path.{◌≡◌, refl, sym, ap, ◌∙◌}
use mathlib.Core.Bool.{Bool, true, false}
use mathlib.Core.List.{List, [], ◌∷◌, ◌++◌, append_assoc, append-nil}
use lib.Dec.{eqb, ltb}
use lib.ListN.{length, length-append}
use borrow.Author.Tests.{ne_eqb, lt-ltb, le-ltb, ltb-true, ltb-false}
use Rattle.text.proofs.Chosen.{yes, no}
use Rattle.lines.specs.File.{pieces_of, ended, line_on_bytes, over_pieces}
use Rattle.lines.specs.Hands.{Hand, hand, takes}
use Rattle.text.specs.Parts.{into_first}
use Rattle.text.proofs.Parting.{parted-end, parted-here, parted-on, some}
use Rattle.lines.proofs.Parts.{stopped-takes, byte-newline, byte-held, byte-long}

-- h before the first piece
unfoldable onto : List ℕ → List (List ℕ) → List (List ℕ)
onto h [] = []
onto h (p ∷ ps) = (h ++ p) ∷ ps

onto-nil : (ps : List (List ℕ)) → onto [] ps ≡ ps
unfolding onto
onto-nil [] = refl
onto-nil (p ∷ ps) = refl

onto-into : (h : List ℕ) (b : ℕ) (ps : List (List ℕ)) → onto h (into_first b ps) ≡ onto (h ++ (b ∷ [])) ps
unfolding onto into_first
onto-into h b [] = refl
onto-into h b (p ∷ ps) = ap (λ (x : List ℕ). x ∷ ps) (sym (append_assoc h (b ∷ []) p))

module _ {A : Type 0} (stopped : A → Bool) (on_line : A → List ℕ → A) (on_long : A → A) (on_end : A → A) where
  stopped-ended : (a : A) (l : List ℕ) → stopped a ≡ true → ended stopped on_long on_end a l ≡ a
  unfolding ended
  stopped-ended a l e = simp (e, yes)

  stopped-line : (a : A) (l : List ℕ) → stopped a ≡ true → line_on_bytes stopped on_line on_long a l ≡ a
  unfolding line_on_bytes
  stopped-line a l e = simp (e, yes)

  stopped-over : (ps : List (List ℕ)) (a : A) → stopped a ≡ true → over_pieces stopped on_line on_long on_end a ps ≡ a
  unfolding over_pieces
  stopped-over [] a e = refl
  stopped-over (l ∷ []) a e = stopped-ended a l e
  stopped-over (l ∷ m ∷ ls) a e = rw (stopped-line a l e) (stopped-over (m ∷ ls) a e)

  over-next : (l : List ℕ) (ps : List (List ℕ)) (a : A) → 0 < length ps
      → over_pieces stopped on_line on_long on_end a (l ∷ ps) ≡ over_pieces stopped on_line on_long on_end (line_on_bytes stopped on_line on_long a l) ps
  unfolding over_pieces
  over-next l [] a h = absurd (omega arith)
  over-next l (m ∷ ls) a h = refl

  line-is : (a : A) (l : List ℕ) → stopped a ≡ false → length l < 128 → line_on_bytes stopped on_line on_long a l ≡ on_line a l
  unfolding line_on_bytes
  line-is a l e h = simp (e, no, lt-ltb _ _ h, yes)

  line-long : (a : A) (l : List ℕ) → stopped a ≡ false → 128 ≤ length l → line_on_bytes stopped on_line on_long a l ≡ on_long a
  unfolding line_on_bytes
  line-long a l e h = simp (e, no, le-ltb _ _ h)

  ended-long : (a : A) (l : List ℕ) → stopped a ≡ false → 128 ≤ length l → ended stopped on_long on_end a l ≡ on_long a
  unfolding ended
  ended-long a l e h = simp (e, no, ne_eqb (length l) 0 (λ q. omega arith))

  -- a first piece that is too long decides
  long-over : (l : List ℕ) (ps : List (List ℕ)) (a : A) → stopped a ≡ false → stopped (on_long a) ≡ true → 128 ≤ length l
      → over_pieces stopped on_line on_long on_end a (l ∷ ps) ≡ on_long a
  unfolding over_pieces
  long-over l [] a e k h = ended-long a l e h
  long-over l (m ∷ ls) a e k h = rw (line-long a l e h) (stopped-over (m ∷ ls) (on_long a) k)

  long-onto : (h : List ℕ) (b : ℕ) (ps : List (List ℕ)) (a : A) → stopped a ≡ false → stopped (on_long a) ≡ true → 127 ≤ length h → 0 < length ps
      → over_pieces stopped on_line on_long on_end a (onto h (into_first b ps)) ≡ on_long a
  unfolding onto into_first
  long-onto h b [] a e k m w = absurd (omega arith)
  long-onto h b (p ∷ ps) a e k m w = long-over (h ++ (b ∷ p)) ps a e k (omega (arith, length-append h (b ∷ p)))

  abbrev ends : Hand A → A
  ends j = ended stopped on_long on_end j.job j.held

  -- the job after the last byte is the job of the whole file
  goes : ((a : A) → stopped (on_long a) ≡ true) → (s h : List ℕ) (a : A) → length h ≤ 127
      → ends (takes stopped on_line on_long (hand a h) s) ≡ over_pieces stopped on_line on_long on_end a (onto h (pieces_of s))
  unfolding takes onto over_pieces
  goes k [] h a m = rw (parted-end 10, append-nil h)
  goes k (b ∷ s) h a m = by (stopped a) refl (eqb b 10) refl (ltb (length h) 127) refl
      (goes k s (h ++ (b ∷ [])) a) (goes k s [] (on_line a h) (omega arith))
    where
      by : (v : Bool) → stopped a ≡ v → (t : Bool) → eqb b 10 ≡ t → (u : Bool) → ltb (length h) 127 ≡ u
          → (length (h ++ (b ∷ [])) ≤ 127 → ends (takes stopped on_line on_long (hand a (h ++ (b ∷ []))) s) ≡ over_pieces stopped on_line on_long on_end a (onto (h ++ (b ∷ [])) (pieces_of s)))
          → ends (takes stopped on_line on_long (hand (on_line a h) []) s) ≡ over_pieces stopped on_line on_long on_end (on_line a h) (onto [] (pieces_of s))
          → ends (takes stopped on_line on_long (hand a h) (b ∷ s)) ≡ over_pieces stopped on_line on_long on_end a (onto h (pieces_of (b ∷ s)))
      by true v t f u g r q =
          ap ends (stopped-takes stopped on_line on_long (b ∷ s) a h v) ∙ stopped-ended a h v ∙ sym (stopped-over (onto h (pieces_of (b ∷ s))) a v)
      by false v true f u g r q =
          ap (λ (j : Hand A). ends (takes stopped on_line on_long j s)) (byte-newline stopped on_line on_long a h b v f)
          ∙ q
          ∙ ap (over_pieces stopped on_line on_long on_end (on_line a h)) (onto-nil (pieces_of s))
          ∙ sym (ap (λ (x : A). over_pieces stopped on_line on_long on_end x (pieces_of s)) (line-is a h v (omega arith)))
          ∙ sym (over-next h (pieces_of s) a (some 10 s))
          ∙ ap (λ (x : List ℕ). over_pieces stopped on_line on_long on_end a (x ∷ pieces_of s)) (sym (append-nil h))
          ∙ sym (ap (λ (x : List (List ℕ)). over_pieces stopped on_line on_long on_end a (onto h x)) (parted-here 10 b s f))
      by false v false f true g r q =
          ap (λ (j : Hand A). ends (takes stopped on_line on_long j s)) (byte-held stopped on_line on_long a h b v f g)
          ∙ r (let w : length h < 127 = ltb-true _ _ g in omega (arith, length-append h (b ∷ [])))
          ∙ sym (ap (over_pieces stopped on_line on_long on_end a) (onto-into h b (pieces_of s)))
          ∙ sym (ap (λ (x : List (List ℕ)). over_pieces stopped on_line on_long on_end a (onto h x)) (parted-on 10 b s f))
      by false v false f false g r q =
          ap (λ (j : Hand A). ends (takes stopped on_line on_long j s)) (byte-long stopped on_line on_long a h b v f g)
          ∙ ap ends (stopped-takes stopped on_line on_long s (on_long a) [] (k a))
          ∙ stopped-ended (on_long a) [] (k a)
          ∙ sym (long-onto h b (pieces_of s) a v (k a) (ltb-false _ _ g) (some 10 s))
          ∙ sym (ap (λ (x : List (List ℕ)). over_pieces stopped on_line on_long on_end a (onto h x)) (parted-on 10 b s f))

  pub whole-file : ((a : A) → stopped (on_long a) ≡ true) → (s : List ℕ) (a : A)
      → ended stopped on_long on_end (takes stopped on_line on_long (hand a []) s).job (takes stopped on_line on_long (hand a []) s).held
      ≡ over_pieces stopped on_line on_long on_end a (pieces_of s)
  whole-file k s a = goes k s [] a (omega arith) ∙ ap (over_pieces stopped on_line on_long on_end a) (onto-nil (pieces_of s))
