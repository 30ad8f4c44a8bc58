-- What each loop adds: one bin, one kept block, one block written, one number cleared. Assumes nothing.
use mathlib.Core.Path.{◌≡◌, refl, sym, ap, ◌∙◌, subst}
use mathlib.Core.Bool.{Bool, true, false, ◌&&◌}
use mathlib.Core.List.{List, [], ◌∷◌, ◌++◌, map, map-append}
use Prim.Native.Nat.{ℕ, zero, suc, ◌+◌, ◌*◌, ◌-◌, ◌/◌, ◌≤◌, ◌<◌, min}
use native.Mathlib.Nat.{le_trans, le_of_eq}
use native.Mathlib.Numerals.{add-one}
use native.Mathlib.Omega.{arith}
use lib.Dec.{eqb, ltb}
use lib.ListN.{length, get_or, set, take, length-append, length-map}
use lib.Seq.{sets, length-sets, length-take-le, take-suc, take_all, take-length, get_or-append-add, get_or-drop}
use lib.Ieee.{Float, nan, lt}
use borrow.Author.Tests.{lt-ltb, le-ltb, ltb-true, ltb-false, eq-eqb, ne_eqb}
use Rattle.refusals.specs.Limits.{block_bins}
use Rattle.refusals.specs.Lent.{over}
use Rattle.refusals.proofs.Written.{length_over, over-more}
use Rattle.floats.specs.Pick.{pick, pick_true, pick-false}
use Rattle.floats.specs.Numbers.{least_of, greatest_of, clean_of}
use Rattle.floats.proofs.Folds.{fold_next}
use Rattle.stock.specs.declared.TurnStockSpec.{TurnStockSpec}
use Rattle.stock.specs.Cell.{number_at, cell_at}
use Rattle.queries.specs.declared.Band.{Band}
use Rattle.queries.specs.Material.{band, most_of}
use Rattle.queries.specs.Envelope.{join_of}
use Rattle.blocks.specs.Block.{no_material, block_with, fold_from, block_to, blocks_in, block_end, block_of, blocks_to, blocks_of, two_of, block_at, same_block, match_to, matches_of}
use Rattle.blocks.specs.Way.{join_from, kept_over}
use Rattle.blocks.specs.Renew.{renewed_all, put_block, renew_at, Open, leave_for, open_after, renew_over, renewed_for, LeavesBlocks}

-- ---- one bin, with no branch
chosen-same : (t : Bool) (x : Float) → pick t x x ≡ x
unfolding pick
chosen-same true x = refl
chosen-same false x = refl

pub with-chosen : (k b : Band) (x y x' y' : Float) → x ≡ pick (lt b.bore b.outer) b.bore k.bore → x' ≡ least_of k.bore x → y ≡ pick (lt b.bore b.outer) b.outer k.outer → y' ≡ greatest_of k.outer y → band x' y' ≡ block_with k b
unfolding block_with least_of greatest_of pick
with-chosen k b x y x' y' ex ex' ey ey' =
    (λ i. band ((ex' ∙ ap (λ (z : Float). least_of k.bore z) ex) i) ((ey' ∙ ap (λ (z : Float). greatest_of k.outer z) ey) i)) ∙ go (lt b.bore b.outer)
  where
    go : (t : Bool) → band (least_of k.bore (pick t b.bore k.bore)) (greatest_of k.outer (pick t b.outer k.outer)) ≡ pick t (join_of k b) k
    go true = refl
    go false = let u = chosen-same (lt k.bore k.bore) k.bore in let v = chosen-same (lt k.outer k.outer) k.outer in (λ i. band (u i) (v i))

-- bin i behind those from a
pub fold_more : (k₀ : Band) (cs : List Float) (a i : ℕ) (k r b : Band) → a ≤ i → k ≡ fold_from k₀ cs a (i - a) → b ≡ most_of (cell_at cs i) → r ≡ block_with k b → r ≡ fold_from k₀ cs a (i + 1 - a)
unfolding fold_from
fold_more k₀ cs a i k r b h ek eb er =
    let e1 : i + 1 - a ≡ suc (i - a) = omega arith in
    let e2 : a + (i - a) ≡ i = omega arith in
    er ∙ (λ j. block_with (ek j) (eb j))
    ∙ ap (λ (m : ℕ). block_with (fold_from k₀ cs a (i - a)) (most_of (cell_at cs m))) (sym e2)
    ∙ ap (λ (m : ℕ). fold_from k₀ cs a m) (sym e1)

-- kept block j behind those from a
pub join_more : (k₀ : Band) (bs : List Float) (a i : ℕ) (k r b : Band) → a ≤ i → k ≡ join_from k₀ bs a (i - a) → b ≡ block_at bs i → r ≡ join_of k b → r ≡ join_from k₀ bs a (i + 1 - a)
unfolding join_from
join_more k₀ bs a i k r b h ek eb er =
    let e1 : i + 1 - a ≡ suc (i - a) = omega arith in
    let e2 : a + (i - a) ≡ i = omega arith in
    er ∙ (λ j. join_of (ek j) (eb j))
    ∙ ap (λ (m : ℕ). join_of (join_from k₀ bs a (i - a)) (block_at bs m)) (sym e2)
    ∙ ap (λ (m : ℕ). join_from k₀ bs a m) (sym e1)

-- a loop that does not start has done nothing
pub fold-none : (k : Band) (cs : List Float) (a m : ℕ) → m ≡ 0 → k ≡ fold_from k cs a m
unfolding fold_from
fold-none k cs a m e = ap (λ (x : ℕ). fold_from k cs a x) (sym e)

pub join-none : (k : Band) (bs : List Float) (a m : ℕ) → m ≡ 0 → k ≡ join_from k bs a m
unfolding join_from
join-none k bs a m e = ap (λ (x : ℕ). join_from k bs a x) (sym e)

-- one block more matches
pub match-more : (s : TurnStockSpec) (n : ℕ) (cs bs : List Float) (j : ℕ) → match_to s n cs bs (j + 1) ≡ (match_to s n cs bs j && same_block (block_at bs j) (block_of s n cs j))
unfolding match_to
match-more s n cs bs j = rw (add-one j)

-- a block is the fold of its bins
pub block-is : (s : TurnStockSpec) (n : ℕ) (cs : List Float) (j e : ℕ) (k r : Band) → k ≡ no_material s → e ≡ block_end n j → r ≡ fold_from k cs (block_bins * j) (e - block_bins * j) → r ≡ block_of s n cs j
unfolding block_of
block-is s n cs j e k r ek ee er = er ∙ (λ i. fold_from (ek i) cs (block_bins * j) (ee i - block_bins * j))

-- as many numbers as the blocks have
pub match-short : (s : TurnStockSpec) (n : ℕ) (cs bs : List Float) (b : ℕ) → b ≡ blocks_in n → (length bs ≡ 2 * b → ⊥) → false ≡ matches_of s n cs bs
unfolding matches_of
match-short s n cs bs b e h = sym (rw (ne_eqb (length bs) (2 * blocks_in n) (λ k. h (k ∙ ap (λ (m : ℕ). 2 * m) (sym e)))) refl)

pub match-all : (s : TurnStockSpec) (n : ℕ) (cs bs : List Float) (b : ℕ) (r : Bool) → b ≡ blocks_in n → length bs ≡ 2 * b → r ≡ match_to s n cs bs b → r ≡ matches_of s n cs bs
unfolding matches_of
match-all s n cs bs b r e h er = er ∙ ap (λ (m : ℕ). match_to s n cs bs m) e ∙ sym (rw (eq-eqb (length bs) (2 * blocks_in n) (h ∙ ap (λ (m : ℕ). 2 * m) e)) refl)

-- ---- the way over the kept numbers
module _ (s : TurnStockSpec) (cs bs : List Float) (a e p : ℕ) (n₀ : Band) (ep : p ≡ blocks_in a) (en : n₀ ≡ no_material s) where
  -- where some block is whole
  pub kept_whole : (x y z : Band) → p < e / block_bins → x ≡ fold_from n₀ cs a (block_bins * p - a) → y ≡ join_from x bs p (e / block_bins - p) → z ≡ fold_from y cs (block_bins * (e / block_bins)) (e - block_bins * (e / block_bins)) → z ≡ kept_over s cs bs a e
  unfolding kept_over
  kept_whole x y z h ex ey ez =
      let ex' : x ≡ block_to s cs a (block_bins * blocks_in a - a) = ex ∙ (λ j. fold_from (en j) cs a (block_bins * ep j - a)) in
      let ey' : y ≡ join_from (block_to s cs a (block_bins * blocks_in a - a)) bs (blocks_in a) (e / block_bins - blocks_in a) = ey ∙ (λ j. join_from (ex' j) bs (ep j) (e / block_bins - ep j)) in
      ez ∙ ap (λ (k : Band). fold_from k cs (block_bins * (e / block_bins)) (e - block_bins * (e / block_bins))) ey' ∙ sym (pick_true _ _ _ (lt-ltb (blocks_in a) (e / block_bins) (omega arith)))

  -- and where none is
  pub kept-cells : (z : Band) → e / block_bins ≤ p → z ≡ fold_from n₀ cs a (e - a) → z ≡ kept_over s cs bs a e
  unfolding kept_over
  kept-cells z h ez = ez ∙ ap (λ (k : Band). fold_from k cs a (e - a)) en ∙ sym (pick-false _ _ _ (le-ltb (blocks_in a) (e / block_bins) (omega arith)))

-- ---- reading

-- a block that the list has
pub block-there : (bs : List Float) (j : ℕ) (x y : Float) → j < length bs / 2 → x ≡ clean_of (number_at bs (2 * j + 1)) → y ≡ clean_of (number_at bs (2 * j)) → band x y ≡ block_at bs j
unfolding block_at
block-there bs j x y h ex ey = (λ i. band (ex i) (ey i)) ∙ sym (pick_true _ _ _ (lt-ltb j (length bs / 2) h))

-- ---- writing

-- a list that has the block takes it, and one that has it not stays
pub put-room : (bs : List Float) (j : ℕ) (b : Band) → 2 * j + 2 ≤ length bs → put_block bs j b ≡ sets bs (2 * j) (two_of b)
unfolding put_block
put-room bs j b h = pick_true _ _ _ (lt-ltb j (length bs / 2) (omega arith))

pub put-none : (bs : List Float) (j : ℕ) (b : Band) → length bs < 2 * j + 2 → put_block bs j b ≡ bs
unfolding put_block
put-none bs j b h = pick-false _ _ _ (le-ltb j (length bs / 2) (omega arith))

module _ (s : TurnStockSpec) (n : ℕ) (cs : List Float) where
  pub length-blocks : (b : ℕ) → length (blocks_to s n cs b) ≡ 2 * b
  unfolding blocks_to
  length-blocks zero = refl
  length-blocks (suc b) = let h = length-blocks b in length-append (blocks_to s n cs b) (two_of (block_of s n cs b)) ∙ (omega arith)

  -- one block more, written behind those before it
  pub blocks_more : (bs bs₀ : List Float) (j : ℕ) (b : Band) → bs ≡ over (blocks_to s n cs j) bs₀ → b ≡ block_of s n cs j → 2 * j + 2 ≤ length bs₀ → put_block bs j b ≡ over (blocks_to s n cs (j + 1)) bs₀
  unfolding blocks_to
  blocks_more bs bs₀ j b e eb h =
      let l = length-blocks j in
      let r : 2 * j + 2 ≤ length bs = subst (λ (xs : List Float). 2 * j + 2 ≤ length xs) (sym e) (le_trans h (le_of_eq (sym (length_over (blocks_to s n cs j) bs₀ (omega arith))))) in
      put-room bs j b r
      ∙ rw (add-one j, e, eb) (ap (λ (k : ℕ). sets (over (blocks_to s n cs j) bs₀) k (two_of (block_of s n cs j))) (sym l) ∙ over-more (blocks_to s n cs j) (two_of (block_of s n cs j)) bs₀ (omega arith))

-- all blocks where the lent numbers are as many, else nothing
pub all-renewed : (s : TurnStockSpec) (n : ℕ) (cs bs bs' : List Float) (b : ℕ) → b ≡ blocks_in n → length bs ≡ 2 * b → bs' ≡ blocks_of s n cs → bs' ≡ renewed_all s n cs bs
unfolding renewed_all
all-renewed s n cs bs bs' b e h q = q ∙ sym (pick_true _ _ _ (eq-eqb (length bs) (2 * blocks_in n) (h ∙ ap (λ (m : ℕ). 2 * m) e)))

pub none-renewed : (s : TurnStockSpec) (n : ℕ) (cs bs : List Float) (b : ℕ) → b ≡ blocks_in n → (length bs ≡ 2 * b → ⊥) → bs ≡ renewed_all s n cs bs
unfolding renewed_all
none-renewed s n cs bs b e h = sym (pick-false _ _ _ (ne_eqb (length bs) (2 * blocks_in n) (λ k. h (k ∙ ap (λ (m : ℕ). 2 * m) (sym e)))))

-- ---- -0.0 read as +0.0, number by number

-- the first m numbers cleared
abbrev pub clear_to : List Float → ℕ → List Float
clear_to bs m = map clean_of (take m bs)

pub length-clear : (bs : List Float) (m : ℕ) → m ≤ length bs → length (clear_to bs m) ≡ m
length-clear bs m h = length-map (take m bs) clean_of ∙ length-take-le m bs h

-- number i behind those that are cleared is as it was
pub clear_next : (bs bs₀ : List Float) (i : ℕ) → bs ≡ over (clear_to bs₀ i) bs₀ → i ≤ length bs₀ → number_at bs i ≡ number_at bs₀ i
unfolding over
clear_next bs bs₀ i e h =
    let l = length-clear bs₀ i h in
    let e0 : i ≡ length (clear_to bs₀ i) + 0 = omega arith in
    ap (λ (xs : List Float). get_or xs i nan) e
    ∙ ap (λ (m : ℕ). get_or (over (clear_to bs₀ i) bs₀) m nan) e0
    ∙ get_or-append-add (clear_to bs₀ i) _ 0 nan
    ∙ get_or-drop (length (clear_to bs₀ i)) bs₀ 0 nan
    ∙ ap (λ (m : ℕ). get_or bs₀ m nan) (sym e0)

pub clear-more : (bs bs₀ : List Float) (i : ℕ) (v : Float) → bs ≡ over (clear_to bs₀ i) bs₀ → v ≡ clean_of (number_at bs i) → i < length bs₀ → set bs i v ≡ over (clear_to bs₀ (i + 1)) bs₀
clear-more bs bs₀ i v e ev h =
    let l = length-clear bs₀ i (omega arith) in
    let w = ev ∙ ap clean_of (clear_next bs bs₀ i e (omega arith)) in
    let one : clear_to bs₀ i ++ (clean_of (number_at bs₀ i) ∷ []) ≡ clear_to bs₀ (i + 1) = sym (rw (add-one i, take-suc bs₀ i nan, map-append) refl) in
    rw (e, w) (ap (λ (k : ℕ). sets (over (clear_to bs₀ i) bs₀) k (clean_of (number_at bs₀ i) ∷ [])) (sym l) ∙ over-more (clear_to bs₀ i) (clean_of (number_at bs₀ i) ∷ []) bs₀ (omega arith) ∙ ap (λ (xs : List Float). over xs bs₀) one)

-- ---- the touched blocks
module _ (s : TurnStockSpec) (n : ℕ) (cs : List Float) where
  pub no_block : (bs : List Float) (b j : ℕ) → b ≡ blocks_in n → b ≤ j → bs ≡ renew_at s n cs bs j
  unfolding renew_at
  no_block bs b j e h = sym (pick-false _ _ _ (le-ltb j (blocks_in n) (omega arith)))

  pub new-block : (bs bs' : List Float) (b j : ℕ) (k : Band) → b ≡ blocks_in n → j < b → k ≡ block_of s n cs j → bs' ≡ put_block bs j k → bs' ≡ renew_at s n cs bs j
  unfolding renew_at
  new-block bs bs' b j k e h ek eb = eb ∙ ap (λ (x : Band). put_block bs j x) ek ∙ sym (pick_true _ _ _ (lt-ltb j (blocks_in n) (omega arith)))

  -- a bin in the open block
  pub stays_open : (bs : List Float) (o i : ℕ) → i / block_bins ≡ o → LeavesBlocks s n cs (record { numbers = bs; block = o }) i (i / block_bins) bs
  unfolding leave_for
  stays_open bs o i e = record { block = refl; numbers = sym (pick_true _ _ _ (eq-eqb o (i / block_bins) (sym e))) }

  -- a bin in another
  pub leaves-open : (bs bs' : List Float) (o i : ℕ) → (i / block_bins ≡ o → ⊥) → bs' ≡ renew_at s n cs bs o → LeavesBlocks s n cs (record { numbers = bs; block = o }) i (i / block_bins) bs'
  unfolding leave_for
  leaves-open bs bs' o i h e = record { block = refl; numbers = e ∙ sym (pick-false _ _ _ (ne_eqb o (i / block_bins) (λ k. h (sym k)))) }

  -- one bin more of a list
  pub open_more : (bs₀ : List Float) (is : List ℕ) (i : ℕ) (bs bs' : List Float) (o r : ℕ) → i < length is → bs ≡ (open_after s n cs bs₀ (take i is)).numbers → o ≡ (open_after s n cs bs₀ (take i is)).block
      → LeavesBlocks s n cs (record { numbers = bs; block = o }) (get_or is i 0) r bs' → (bs' ≡ (open_after s n cs bs₀ (take (i + 1) is)).numbers) × (r ≡ (open_after s n cs bs₀ (take (i + 1) is)).block)
  open_more bs₀ is i bs bs' o r h eb eo l =
      let same : record { numbers = bs; block = o } ≡ open_after s n cs bs₀ (take i is) = (λ j. record { numbers = eb j; block = eo j }) in
      let next : leave_for s n cs (record { numbers = bs; block = o }) (get_or is i 0) ≡ open_after s n cs bs₀ (take (i + 1) is) =
      ap (λ (p : Open). leave_for s n cs p (get_or is i 0)) same ∙ sym (fold_next (leave_for s n cs) (record { numbers = bs₀; block = blocks_in n }) is i 0 h) in
      (l.numbers ∙ ap (λ (p : Open). p.numbers) next, l.block ∙ ap (λ (p : Open). p.block) next)

  -- and the last open block
  pub over_done : (bs₀ : List Float) (is : List ℕ) (bs bs' : List Float) (o : ℕ) → bs ≡ (open_after s n cs bs₀ is).numbers → o ≡ (open_after s n cs bs₀ is).block → bs' ≡ renew_at s n cs bs o → bs' ≡ renew_over s n cs bs₀ is
  unfolding renew_over
  over_done bs₀ is bs bs' o eb eo e = e ∙ (λ j. renew_at s n cs (eb j) (eo j))

-- as many bins as a list has, k at most
take-held : (is : List ℕ) (k : ℕ) → take (min k (length is)) is ≡ take k is
take-held is k = go (ltb k (length is)) refl
  where
    go : (t : Bool) → ltb k (length is) ≡ t → take (min k (length is)) is ≡ take k is
    go true e = let w = ltb-true k (length is) e in let q : min k (length is) ≡ k = omega arith in ap (λ (m : ℕ). take m is) q
    go false e =
        let w = ltb-false k (length is) e in
        let q : min k (length is) ≡ length is = omega arith in
        ap (λ (m : ℕ). take m is) q ∙ take-length is ∙ sym (take_all k is w)

pub changed-done : (s : TurnStockSpec) (n : ℕ) (cs bs bs₁ bs' : List Float) (is : List ℕ) (k m : ℕ) → bs₁ ≡ map clean_of bs → m ≡ min k (length is) → bs' ≡ renew_over s n cs bs₁ (take m is) → bs' ≡ renewed_for s n cs is k bs
changed-done s n cs bs bs₁ bs' is k m eb em e = e ∙ (λ j. renew_over s n cs (eb j) (take (em j) is)) ∙ ap (renew_over s n cs (map clean_of bs)) (take-held is k)

-- ---- the numbers stay as many
pub put-length : (bs : List Float) (b : ℕ) (k : Band) → length (put_block bs b k) ≡ length bs
unfolding put_block pick
put-length bs b k = go (ltb b (length bs / 2))
  where
    go : (t : Bool) → length (pick t (sets bs (2 * b) (two_of k)) bs) ≡ length bs
    go true = length-sets bs (2 * b) (two_of k)
    go false = refl

pub at_length : (s : TurnStockSpec) (n : ℕ) (cs bs : List Float) (j : ℕ) → length (renew_at s n cs bs j) ≡ length bs
unfolding renew_at pick
at_length s n cs bs j = go (ltb j (blocks_in n))
  where
    go : (t : Bool) → length (pick t (put_block bs j (block_of s n cs j)) bs) ≡ length bs
    go true = put-length bs j (block_of s n cs j)
    go false = refl

pub leave-length : (s : TurnStockSpec) (n : ℕ) (cs : List Float) (o : Open) (i : ℕ) → length (leave_for s n cs o i).numbers ≡ length o.numbers
unfolding leave_for pick
leave-length s n cs o i = go (eqb o.block (i / block_bins))
  where
    go : (t : Bool) → length (pick t o.numbers (renew_at s n cs o.numbers o.block)) ≡ length o.numbers
    go true = refl
    go false = at_length s n cs o.numbers o.block
