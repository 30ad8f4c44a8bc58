-- Rings in a list of numbers, four each: what was written is read, and a list is its rings and the rest. Assumes nothing.
use Prim.Native.Nat.{ℕ, zero, suc, ◌+◌, ◌*◌, ◌≤◌, ◌<◌}
use native.Mathlib.Omega.{arith}
use native.Mathlib.Numerals.{add-one}
use mathlib.Core.Path.{◌≡◌, refl, sym, ◌∙◌, ap, ap₂}
use mathlib.Core.List.{List, [], ◌∷◌, ◌++◌, append_assoc, append-nil}
use lib.ListN.{get_or, set, drop, length, length-append}
use lib.Seq.{sets, drop-cons}
use lib.Ieee.{Float, nan}
use Rattle.refusals.specs.Lent.{over}
use Rattle.refusals.proofs.Written.{length_over, over-more}
use Rattle.rings.specs.declared.Ring.{Ring}
use Rattle.rings.specs.Ring.{ring}
use Rattle.rings.specs.Store.{ring_at, rings_of, flat_of, store_as, write}

pub same-ring : {a b c d a' b' c' d' : Float} → a ≡ a' → b ≡ b' → c ≡ c' → d ≡ d' → ring a b c d ≡ ring a' b' c' d'
same-ring p q r s = λ i. ring (p i) (q i) (r i) (s i)

-- ---- one ring more
pub rings-next : (xs : List Float) (i : ℕ) → rings_of (i + 1) xs ≡ rings_of i xs ++ (ring_at xs i ∷ [])
unfolding rings_of
rings-next xs i = ap (λ (n : ℕ). rings_of n xs) (add-one i)

pub length-snoc : (l : List Ring) (q : Ring) → length (l ++ (q ∷ [])) ≡ length l + 1
length-snoc l q = length-append l (q ∷ [])

pub length-rings : (n : ℕ) (xs : List Float) → length (rings_of n xs) ≡ n
unfolding rings_of
length-rings zero xs = refl
length-rings (suc n) xs = length-snoc (rings_of n xs) (ring_at xs n) ∙ add-one (length (rings_of n xs)) ∙ ap suc (length-rings n xs)

-- ---- the numbers of rings
pub length-flat : (l : List Ring) → length (flat_of l) ≡ 4 * length l
unfolding flat_of
length-flat [] = refl
length-flat (q ∷ l) = let e = length-flat l in omega arith

flat_append : (s t : List Ring) → flat_of (s ++ t) ≡ flat_of s ++ flat_of t
unfolding flat_of
flat_append [] t = refl
flat_append (q ∷ s) t = ap (λ (l : List Float). q.z0 ∷ q.z1 ∷ q.r0 ∷ q.r1 ∷ l) (flat_append s t)

-- four numbers before a list are a ring before its rings
ring-after : (q : Ring) (xs : List Float) (n : ℕ) → ring_at (q.z0 ∷ q.z1 ∷ q.r0 ∷ q.r1 ∷ xs) (suc n) ≡ ring_at xs n
ring-after q xs n =
    same-ring (at (4 * suc n) (4 * n) (omega arith)) (at (4 * suc n + 1) (4 * n + 1) (omega arith)) (at (4 * suc n + 2) (4 * n + 2) (omega arith)) (at (4 * suc n + 3) (4 * n + 3) (omega arith))
  where
    at : (m j : ℕ) → m ≡ suc (suc (suc (suc j))) → get_or (q.z0 ∷ q.z1 ∷ q.r0 ∷ q.r1 ∷ xs) m nan ≡ get_or xs j nan
    at m j e = ap (λ (k : ℕ). get_or (q.z0 ∷ q.z1 ∷ q.r0 ∷ q.r1 ∷ xs) k nan) e

rings-after : (q : Ring) (xs : List Float) (n : ℕ) → rings_of (suc n) (q.z0 ∷ q.z1 ∷ q.r0 ∷ q.r1 ∷ xs) ≡ q ∷ rings_of n xs
unfolding rings_of
rings-after q xs zero = refl
rings-after q xs (suc n) = ap₂ (λ (l : List Ring) (p : Ring). l ++ (p ∷ [])) (rings-after q xs n) (ring-after q xs n)

pub rings-flat : (l : List Ring) (xs : List Float) → rings_of (length l) (flat_of l ++ xs) ≡ l
unfolding rings_of flat_of
rings-flat [] xs = refl
rings-flat (q ∷ l) xs = rings-after q (flat_of l ++ xs) (length l) ∙ ap (λ (s : List Ring). q ∷ s) (rings-flat l xs)

-- the rings that were stored are read
pub rings-stored : (xs : List Float) (l : List Ring) → rings_of (length l) (store_as xs l) ≡ l
unfolding store_as over
rings-stored xs l = rings-flat l (drop (length (flat_of l)) xs)

-- ---- a list is its rings and the rest
four-on : (xs : List Float) (k : ℕ) → k + 4 ≤ length xs → drop k xs ≡ get_or xs k nan ∷ get_or xs (k + 1) nan ∷ get_or xs (k + 2) nan ∷ get_or xs (k + 3) nan ∷ drop (k + 4) xs
four-on xs k h =
    one k (k + 1) (omega arith) (omega arith) ∙ ap (λ (l : List Float). get_or xs k nan ∷ l) (one (k + 1) (k + 2) (omega arith) (omega arith))
    ∙ ap (λ (l : List Float). get_or xs k nan ∷ get_or xs (k + 1) nan ∷ l) (one (k + 2) (k + 3) (omega arith) (omega arith))
    ∙ ap (λ (l : List Float). get_or xs k nan ∷ get_or xs (k + 1) nan ∷ get_or xs (k + 2) nan ∷ l) (one (k + 3) (k + 4) (omega arith) (omega arith))
  where
    one : (i j : ℕ) → i < length xs → j ≡ suc i → drop i xs ≡ get_or xs i nan ∷ drop j xs
    one i j h e = drop-cons xs i nan h ∙ ap (λ (n : ℕ). get_or xs i nan ∷ drop n xs) (sym e)

pub stored_same : (xs : List Float) (n : ℕ) → 4 * n ≤ length xs → store_as xs (rings_of n xs) ≡ xs
unfolding store_as over flat_of rings_of
stored_same xs n h = ap (λ (m : ℕ). flat_of (rings_of n xs) ++ drop m xs) (length-flat (rings_of n xs) ∙ ap (λ (m : ℕ). 4 * m) (length-rings n xs)) ∙ go n h
  where
    go : (n : ℕ) → 4 * n ≤ length xs → flat_of (rings_of n xs) ++ drop (4 * n) xs ≡ xs
    go zero h = refl
    go (suc n) h =
        let e : 4 * suc n ≡ 4 * n + 4 = omega arith in
        ap (λ (l : List Float). l ++ drop (4 * suc n) xs) (flat_append (rings_of n xs) (ring_at xs n ∷ []))
        ∙ append_assoc (flat_of (rings_of n xs)) (flat_of (ring_at xs n ∷ [])) (drop (4 * suc n) xs)
        ∙ ap (λ (m : ℕ). flat_of (rings_of n xs) ++ (get_or xs (4 * n) nan ∷ get_or xs (4 * n + 1) nan ∷ get_or xs (4 * n + 2) nan ∷ get_or xs (4 * n + 3) nan ∷ drop m xs)) e
        ∙ ap (λ (l : List Float). flat_of (rings_of n xs) ++ l) (sym (four-on xs (4 * n) (omega arith)))
        ∙ go n (omega arith)

pub length-stored : (xs : List Float) (l : List Ring) → 4 * length l ≤ length xs → length (store_as xs l) ≡ length xs
unfolding store_as
length-stored xs l h = length_over (flat_of l) xs (let e = length-flat l in omega arith)

-- ---- one ring written behind those stored
write-sets : (xs : List Float) (n : ℕ) (q : Ring) → write xs n q ≡ sets xs (4 * n) (q.z0 ∷ q.z1 ∷ q.r0 ∷ q.r1 ∷ [])
write-sets xs n q =
    at (4 * n + 1) (suc (4 * n)) (4 * n + 2) (suc (suc (4 * n))) (4 * n + 3) (suc (suc (suc (4 * n)))) (omega arith) (omega arith) (omega arith)
  where
    at : (a a' b b' c c' : ℕ) → a ≡ a' → b ≡ b' → c ≡ c' → set (set (set (set xs (4 * n) q.z0) a q.z1) b q.r0) c q.r1 ≡ set (set (set (set xs (4 * n) q.z0) a' q.z1) b' q.r0) c' q.r1
    at a a' b b' c c' e f g = λ i. set (set (set (set xs (4 * n) q.z0) (e i) q.z1) (f i) q.r0) (g i) q.r1

pub write-next : (xs : List Float) (l : List Ring) (n : ℕ) (q : Ring) → length l ≡ n → 4 * n + 4 ≤ length xs → write (store_as xs l) n q ≡ store_as xs (l ++ (q ∷ []))
unfolding store_as flat_of
write-next xs l n q e h =
    let four = q.z0 ∷ q.z1 ∷ q.r0 ∷ q.r1 ∷ [] in
    let f : length (flat_of l) ≡ 4 * n = length-flat l ∙ ap (λ (m : ℕ). 4 * m) e in
    write-sets (store_as xs l) n q
    ∙ ap (λ (k : ℕ). sets (store_as xs l) k four) (sym f)
    ∙ over-more (flat_of l) four xs (omega arith)
    ∙ ap (λ (s : List Float). over s xs) (sym (flat_append l (q ∷ [])))

-- a ring written behind the first n rings
pub write-behind : (xs : List Float) (n : ℕ) (q : Ring) → 4 * n + 4 ≤ length xs → write xs n q ≡ store_as xs (rings_of n xs ++ (q ∷ []))
write-behind xs n q h = ap (λ (ys : List Float). write ys n q) (sym (stored_same xs n (omega arith))) ∙ write-next xs (rings_of n xs) n q (length-rings n xs) h

pub rings-written : (xs : List Float) (n : ℕ) (q : Ring) → 4 * n + 4 ≤ length xs → rings_of (n + 1) (write xs n q) ≡ rings_of n xs ++ (q ∷ [])
rings-written xs n q h =
    let l = rings_of n xs ++ (q ∷ []) in
    let e : n + 1 ≡ length l = (let f = length-snoc (rings_of n xs) q in let g = length-rings n xs in omega arith) in
    ap₂ rings_of e (write-behind xs n q h) ∙ rings-stored xs l

-- ---- rings copied behind others
pub copied-start : (xs from : List Float) (at : ℕ) → 4 * at ≤ length xs → xs ≡ store_as xs (rings_of at xs ++ rings_of 0 from)
unfolding rings_of
copied-start xs from at h = sym (stored_same xs at h) ∙ ap (store_as xs) (sym (append-nil (rings_of at xs)))

pub copied_next : (xs ys from : List Float) (at i : ℕ) (q : Ring) → 4 * (at + i) + 4 ≤ length xs → q ≡ ring_at from i → ys ≡ store_as xs (rings_of at xs ++ rings_of i from)
    → write ys (at + i) q ≡ store_as xs (rings_of at xs ++ rings_of (i + 1) from)
copied_next xs ys from at i q h e f =
    let l = rings_of at xs ++ rings_of i from in
    let n : length l ≡ at + i = length-append (rings_of at xs) (rings_of i from) ∙ ap₂ ◌+◌ (length-rings at xs) (length-rings i from) in
    ap₂ (λ (zs : List Float) (p : Ring). write zs (at + i) p) f e
    ∙ write-next xs l (at + i) (ring_at from i) n h
    ∙ ap (store_as xs) (append_assoc (rings_of at xs) (rings_of i from) (ring_at from i ∷ []) ∙ ap (λ (s : List Ring). rings_of at xs ++ s) (sym (rings-next from i)))

-- what was copied to the front is read
pub rings-copied : (xs from : List Float) (n : ℕ) → rings_of n (store_as xs (rings_of 0 xs ++ rings_of n from)) ≡ rings_of n from
unfolding rings_of
rings-copied xs from n = ap (λ (m : ℕ). rings_of m (store_as xs (rings_of n from))) (sym (length-rings n from)) ∙ rings-stored xs (rings_of n from)
