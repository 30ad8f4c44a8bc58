-- The chunks by their numbers, and the lines that a chunk is put together of. Assumes nothing.
use Prim.Native.Nat.{ℕ, zero, suc, ◌+◌, ◌-◌, ◌*◌, ◌/◌, ◌≤◌, ◌<◌, min}
use native.Mathlib.Nat.{eq-or-lt_of_le}
use native.Mathlib.Omega.{arith}
use mathlib.Core.Path.{◌≡◌, refl, sym, ap, ap₂, ◌∙◌, subst}
use mathlib.Core.Logic.{inl, inr}
use mathlib.Core.Bool.{Bool, true, false, ◌&&◌}
use mathlib.Core.List.{List, [], ◌∷◌, ◌++◌, append-nil, append_assoc}
use lib.ListN.{length, get_or, take, length-append, get_or-append, get_or-eq_default}
use lib.Seq.{get_or-append_seam, get_or-append-add}
use lib.Ieee.{Float}
use Rattle.refusals.specs.Limits.{piece_limit}
use Rattle.rings.specs.declared.Ring.{Ring}
use Rattle.rings.specs.Ring.{kept, in_hand}
use Rattle.rings.specs.Store.{ring_at, rings_of}
use Rattle.rings.specs.Remove.{lent_rings, leaves}
use Rattle.rings.proofs.Flat.{rings-next, length-rings}
use Rattle.text.specs.Lines.{four_fields, ring_line}
use Rattle.text.specs.Wrote.{Wrote, WroteLine}
use Rattle.text.proofs.Spelling.{four-long}
use Rattle.text.proofs.Sets.{and_then, retext}
use Rattle.stock_lines.proofs.Steps.{wrote-front}
use Rattle.side_by_side.specs.Compared.{Side, bin_text, bin_texts, bin_count, ring_texts, pieces_text, left_texts, each_in_hand, chunks_of, chunk_of}

-- ---- ring lines

pub ring_long : (a b c d : Float) → length (ring_line a b c d) ≡ 73
unfolding ring_line
ring_long a b c d = omega (arith, length-append (114 ∷ 105 ∷ 110 ∷ 103 ∷ []) (four_fields a b c d), four-long a b c d)

abbrev pub line_of : Ring → List ℕ
line_of q = ring_line q.z0 q.z1 q.r0 q.r1

pub rings-texts : (l m : List Ring) → ring_texts (l ++ m) ≡ ring_texts l ++ ring_texts m
unfolding ring_texts
rings-texts [] m = refl
rings-texts (p ∷ l) m = ap (λ (x : List ℕ). line_of p ++ x) (rings-texts l m) ∙ sym (append_assoc (line_of p) (ring_texts l) (ring_texts m))

one-text : (q : Ring) → ring_texts (q ∷ []) ≡ line_of q
unfolding ring_texts
one-text q = append-nil (line_of q)

texts-next : (xs : List Float) (i : ℕ) → ring_texts (rings_of (i + 1) xs) ≡ ring_texts (rings_of i xs) ++ line_of (ring_at xs i)
texts-next xs i = ap ring_texts (rings-next xs i) ∙ rings-texts (rings_of i xs) (ring_at xs i ∷ []) ∙ ap (λ (x : List ℕ). ring_texts (rings_of i xs) ++ x) (one-text (ring_at xs i))

-- the lines of the first i rings at the front of a buffer, 73 bytes each
pub record RingsPut (xs : List Float) (i : ℕ) (l m : List ℕ) (e : ℕ) : Type 0 where
  pub wrote : Wrote l 0 (ring_texts (rings_of i xs)) m e
  pub size : e ≡ 73 * i

pub rings-none : (xs : List Float) (l : List ℕ) → RingsPut xs 0 l l 0
unfolding ring_texts rings_of
rings-none xs l = record { wrote = record { text = refl; end = refl }; size = refl }

pub rings-more : {xs : List Float} {i : ℕ} {l m o : List ℕ} {e f : ℕ} {q : Ring} → RingsPut xs i l m e → q ≡ ring_at xs i → Wrote m e (line_of q) o f → RingsPut xs (i + 1) l o f
rings-more {xs} {i} {l} {m} {o} {e} {f} {q} p h w =
    let v : Wrote m e (line_of (ring_at xs i)) o f = subst (λ (k : Ring). Wrote m e (line_of k) o f) h w in
    record {
      wrote = retext (sym (texts-next xs i)) (and_then p.wrote v);
      size = omega (arith, p.size, w.end, ring_long q.z0 q.z1 q.r0 q.r1);
    }

pub rings-done : {xs : List Float} {i n : ℕ} {l m : List ℕ} {e : ℕ} → RingsPut xs i l m e → i ≡ n → Wrote l 0 (ring_texts (rings_of n xs)) m e
rings-done {xs} {i} {n} {l} {m} {e} p h = subst (λ (j : ℕ). Wrote l 0 (ring_texts (rings_of j xs)) m e) h p.wrote

-- ---- in hand

each-in-hand-append : (ks l m : List Ring) → each_in_hand ks (l ++ m) ≡ (each_in_hand ks l && each_in_hand ks m)
unfolding each_in_hand
each-in-hand-append ks [] m = refl
each-in-hand-append ks (q ∷ l) m = go (in_hand piece_limit (kept q) ks) (each-in-hand-append ks l m)
  where
    go : (b : Bool) → each_in_hand ks (l ++ m) ≡ (each_in_hand ks l && each_in_hand ks m) → (b && each_in_hand ks (l ++ m)) ≡ ((b && each_in_hand ks l) && each_in_hand ks m)
    go true e = e
    go false e = refl

pub each_start : (ks : List Ring) (xs : List Float) → true ≡ each_in_hand ks (rings_of 0 xs)
unfolding each_in_hand rings_of
each_start ks xs = refl

one-in-hand : (ks : List Ring) (q : Ring) → each_in_hand ks (q ∷ []) ≡ in_hand piece_limit (kept q) ks
unfolding each_in_hand
one-in-hand ks q = go (in_hand piece_limit (kept q) ks)
  where
    go : (b : Bool) → (b && true) ≡ b
    go true = refl
    go false = refl

pub each_next : (ks : List Ring) (xs : List Float) (i : ℕ) (q : Ring) (s t : Bool) → s ≡ each_in_hand ks (rings_of i xs) → q ≡ ring_at xs i → t ≡ in_hand piece_limit (kept q) ks → (s && t) ≡ each_in_hand ks (rings_of (i + 1) xs)
each_next ks xs i q s t e h f =
    ap₂ ◌&&◌ e (f ∙ ap (λ (k : Ring). in_hand piece_limit (kept k) ks) h ∙ sym (one-in-hand ks (ring_at xs i)))
    ∙ sym (each-in-hand-append ks (rings_of i xs) (ring_at xs i ∷ [])) ∙ sym (ap (each_in_hand ks) (rings-next xs i))

-- ---- the chunks by number

length-bins : (all : ℕ) (cs ds : List Float) (n : ℕ) → length (bin_texts all cs ds n) ≡ n
unfolding bin_texts
length-bins all cs ds zero = refl
length-bins all cs ds (suc n) = omega (arith, length-append (bin_texts all cs ds n) (bin_text all cs ds n ∷ []), length-bins all cs ds n)

bin-text : (all : ℕ) (cs ds : List Float) (n c : ℕ) → c < n → get_or (bin_texts all cs ds n) c [] ≡ bin_text all cs ds c
unfolding bin_texts
bin-text all cs ds zero c h = absurd (omega arith)
bin-text all cs ds (suc n) c h =
    elim (eq-or-lt_of_le (let k : c ≤ n = omega arith in k)) [
      | inl e ↦ ap (λ (k : ℕ). get_or (bin_texts all cs ds n ++ (bin_text all cs ds n ∷ [])) k []) (e ∙ sym (length-bins all cs ds n)) ∙ get_or-append_seam (bin_texts all cs ds n) (bin_text all cs ds n) [] [] ∙ ap (bin_text all cs ds) (sym e)
      | inr k ↦ get_or-append (bin_texts all cs ds n) (bin_text all cs ds n ∷ []) [] c (let f : c < length (bin_texts all cs ds n) = omega (arith, length-bins all cs ds n) in f) ∙ bin-text all cs ds n c k
    ]

length-left : (ks qs : List Ring) → length (left_texts ks qs) ≡ length qs
unfolding left_texts
length-left ks [] = refl
length-left ks (q ∷ qs) = ap suc (length-left ks qs)

left-append : (ks l m : List Ring) → left_texts ks (l ++ m) ≡ left_texts ks l ++ left_texts ks m
unfolding left_texts
left-append ks [] m = refl
left-append ks (q ∷ l) m = ap (λ (x : List (List ℕ)). pieces_text (leaves ks q) ∷ x) (left-append ks l m)

left-of-lent : (ks : List Ring) (xs : List Float) (n : ℕ) → length (left_texts ks (rings_of n xs)) ≡ n
left-of-lent ks xs n = length-left ks (rings_of n xs) ∙ length-rings n xs

left_one : (ks : List Ring) (q : Ring) → left_texts ks (q ∷ []) ≡ pieces_text (leaves ks q) ∷ []
unfolding left_texts
left_one ks q = refl

left-text : (ks : List Ring) (xs : List Float) (n k : ℕ) → k < n → get_or (left_texts ks (rings_of n xs)) k [] ≡ pieces_text (leaves ks (ring_at xs k))
unfolding rings_of
left-text ks xs zero k h = absurd (omega arith)
left-text ks xs (suc n) k h = ap (λ (l : List (List ℕ)). get_or l k []) (left-append ks (rings_of n xs) (ring_at xs n ∷ [])) ∙ go (λ f. left-text ks xs n k f)
  where
    go : (k < n → get_or (left_texts ks (rings_of n xs)) k [] ≡ pieces_text (leaves ks (ring_at xs k))) → get_or (left_texts ks (rings_of n xs) ++ left_texts ks (ring_at xs n ∷ [])) k [] ≡ pieces_text (leaves ks (ring_at xs k))
    go before =
        elim (eq-or-lt_of_le (let e : k ≤ n = omega arith in e)) [
          | inl e ↦ ap₂ (λ (j : ℕ) (t : List (List ℕ)). get_or (left_texts ks (rings_of n xs) ++ t) j []) (e ∙ sym (left-of-lent ks xs n)) (left_one ks (ring_at xs n)) ∙ get_or-append_seam (left_texts ks (rings_of n xs)) (pieces_text (leaves ks (ring_at xs n))) [] [] ∙ ap (λ (j : ℕ). pieces_text (leaves ks (ring_at xs j))) (sym e)
          | inr f ↦ get_or-append (left_texts ks (rings_of n xs)) (left_texts ks (ring_at xs n ∷ [])) [] k (let g : k < length (left_texts ks (rings_of n xs)) = omega (arith, left-of-lent ks xs n) in g) ∙ before f
        ]

module _ (cs ds : List Float) (xs ys : List Float) (m k : ℕ) where
  abbrev one : Side
  one = record { cells = cs; rings = lent_rings xs m }

  abbrev two : Side
  two = record { cells = ds; rings = lent_rings ys k }

  abbrev firsts : List (List ℕ)
  firsts = left_texts (lent_rings ys k) (lent_rings xs m)

  abbrev seconds : List (List ℕ)
  seconds = left_texts (lent_rings xs m) (lent_rings ys k)

  length-firsts : length firsts ≡ min m (length xs / 4)
  length-firsts = left-of-lent (lent_rings ys k) xs (min m (length xs / 4))

  length-seconds : length seconds ≡ min k (length ys / 4)
  length-seconds = left-of-lent (lent_rings xs m) ys (min k (length ys / 4))

  pub chunk_count : length (chunks_of one two) ≡ bin_count cs ds + (min m (length xs / 4) + min k (length ys / 4))
  unfolding chunks_of
  chunk_count =
      omega (arith, length-append (bin_texts (bin_count cs ds) cs ds (bin_count cs ds)) (firsts ++ seconds), length-append firsts seconds, length-bins (bin_count cs ds) cs ds (bin_count cs ds), length-firsts, length-seconds)

  -- a bin's
  pub chunk-bin : (c : ℕ) → c < bin_count cs ds → bin_text (bin_count cs ds) cs ds c ≡ chunk_of one two c
  unfolding chunks_of
  chunk-bin c h =
      sym (get_or-append (bin_texts (bin_count cs ds) cs ds (bin_count cs ds)) (firsts ++ seconds) [] c (let f : c < length (bin_texts (bin_count cs ds) cs ds (bin_count cs ds)) = omega (arith, length-bins (bin_count cs ds) cs ds (bin_count cs ds)) in f) ∙ bin-text (bin_count cs ds) cs ds (bin_count cs ds) c h)

  -- behind the bins
  behind : (c j : ℕ) → c ≡ bin_count cs ds + j → chunk_of one two c ≡ get_or (firsts ++ seconds) j []
  unfolding chunks_of
  behind c j e =
      let f : c ≡ length (bin_texts (bin_count cs ds) cs ds (bin_count cs ds)) + j = omega (arith, length-bins (bin_count cs ds) cs ds (bin_count cs ds)) in
      ap (λ (x : ℕ). get_or (bin_texts (bin_count cs ds) cs ds (bin_count cs ds) ++ (firsts ++ seconds)) x []) f ∙ get_or-append-add (bin_texts (bin_count cs ds) cs ds (bin_count cs ds)) (firsts ++ seconds) j []

  -- a ring's of the first
  pub chunk-first : (c j : ℕ) → c ≡ bin_count cs ds + j → j < min m (length xs / 4) → pieces_text (leaves (lent_rings ys k) (ring_at xs j)) ≡ chunk_of one two c
  chunk-first c j e h =
      sym (behind c j e ∙ get_or-append firsts seconds [] j (let f : j < length firsts = omega (arith, length-firsts) in f) ∙ left-text (lent_rings ys k) xs (min m (length xs / 4)) j h)

  -- a ring's of the second
  pub chunk-second : (c j : ℕ) → c ≡ bin_count cs ds + (min m (length xs / 4) + j) → j < min k (length ys / 4) → pieces_text (leaves (lent_rings xs m) (ring_at ys j)) ≡ chunk_of one two c
  chunk-second c j e h =
      let f : min m (length xs / 4) + j ≡ length firsts + j = omega (arith, length-firsts) in
      sym (behind c (min m (length xs / 4) + j) e ∙ ap (λ (x : ℕ). get_or (firsts ++ seconds) x []) f ∙ get_or-append-add firsts seconds j [] ∙ left-text (lent_rings xs m) ys (min k (length ys / 4)) j h)

  -- and none behind them
  pub chunk-none : (c : ℕ) → bin_count cs ds + (min m (length xs / 4) + min k (length ys / 4)) ≤ c → [] ≡ chunk_of one two c
  chunk-none c h = sym (get_or-eq_default (chunks_of one two) [] (let f : length (chunks_of one two) ≤ c = omega (arith, chunk_count) in f))

  -- ---- the same by what the code found: n bins, then p rings of the first and o of the second
  module _ (n p o c : ℕ) (bins : n ≡ bin_count cs ds) where
    pub by-bin : c < n → bin_text n cs ds c ≡ chunk_of one two c
    by-bin h = ap (λ (x : ℕ). bin_text x cs ds c) bins ∙ chunk-bin c (subst (λ (x : ℕ). c < x) bins h)

    pub by_first : p ≡ min m (length xs / 4) → n ≤ c → c - n < p → (q : Ring) → q ≡ ring_at xs (c - n) → pieces_text (leaves (lent_rings ys k) q) ≡ chunk_of one two c
    by_first e l h q r =
        let d : c ≡ n + (c - n) = omega arith in
        ap (λ (x : Ring). pieces_text (leaves (lent_rings ys k) x)) r ∙ chunk-first c (c - n) (d ∙ ap (λ (x : ℕ). x + (c - n)) bins) (subst (λ (x : ℕ). c - n < x) e h)

    pub by-second : p ≡ min m (length xs / 4) → o ≡ min k (length ys / 4) → n ≤ c → p ≤ c - n → c - n - p < o → (q : Ring) → q ≡ ring_at ys (c - n - p) → pieces_text (leaves (lent_rings xs m) q) ≡ chunk_of one two c
    by-second e f l g h q r =
        let d : c ≡ n + (p + (c - n - p)) = omega arith in
        ap (λ (x : Ring). pieces_text (leaves (lent_rings xs m) x)) r
        ∙ chunk-second c (c - n - p) (d ∙ ap₂ (λ (x y : ℕ). x + (y + (c - n - p))) bins e) (subst (λ (x : ℕ). c - n - p < x) f h)

    pub by-none : p ≡ min m (length xs / 4) → o ≡ min k (length ys / 4) → n ≤ c → p ≤ c - n → o ≤ c - n - p → [] ≡ chunk_of one two c
    by-none e f l g h =
        let d : n + (p + o) ≤ c = omega arith in
        chunk-none c (subst (λ (x : ℕ). x ≤ c) (ap₂ (λ (x y : ℕ). x + y) bins (ap₂ ◌+◌ e f)) d)

    pub by_count : p ≡ min m (length xs / 4) → o ≡ min k (length ys / 4) → n + (p + o) ≡ length (chunks_of one two)
    by_count e f = ap₂ ◌+◌ bins (ap₂ ◌+◌ e f) ∙ sym chunk_count

-- ---- a line that was written is the front of its buffer
line-front : {l m t : List ℕ} {r : ℕ} → length l ≡ 128 → WroteLine l t m r → take r m ≡ t
line-front h w = wrote-front w.wrote (omega (arith, w.within))

-- so a line behind others
pub line-put : {l m t b u v : List ℕ} {r i j : ℕ} → length l ≡ 128 → WroteLine l t m r → b ≡ take r m → Wrote u i b v j → Wrote u i t v j
line-put h w f p = retext (f ∙ line-front h w) p

pub line-length : {l m t b : List ℕ} {r : ℕ} → length l ≡ 128 → WroteLine l t m r → b ≡ take r m → length b ≡ length t
line-length h w f = ap length (f ∙ line-front h w)

pub cell-short : {l m t : List ℕ} {r : ℕ} → WroteLine l t m r → length t ≤ 128
cell-short w = omega (arith, w.within, w.wrote.end)
