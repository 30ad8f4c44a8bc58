-- The touched blocks renewed: all blocks are then those of the cells afterwards. Assumes nothing.
use mathlib.Core.Path.{◌≡◌, refl, sym, ap, ◌∙◌, subst}
use mathlib.Core.Logic.{◌⊎◌, inl, inr}
use mathlib.Core.Bool.{Bool, true, false}
use mathlib.Core.List.{List, [], ◌∷◌, foldl, map}
use Prim.Native.Nat.{ℕ, suc, ◌+◌, ◌*◌, ◌/◌, ◌≤◌, ◌<◌}
use native.Mathlib.Numerals.{add-one}
use native.Mathlib.Omega.{arith}
use borrow.Author.Tests.{eqb-true, eqb-false, lt-ltb, ltb-true}
use lib.Dec.{eqb, ltb}
use lib.ListN.{length, get_or, set, length-set}
use lib.Seq.{get_or-set_same, get_or-set_other}
use lib.Ieee.{Float, nan}
use Rattle.refusals.specs.Limits.{block_bins}
use Rattle.floats.specs.Pick.{pick, pick_true, pick-false}
use Rattle.floats.specs.Each.{Each}
use Rattle.stock.specs.declared.TurnStockSpec.{TurnStockSpec}
use Rattle.stock.specs.declared.TurnChange.{TurnChange}
use Rattle.stock.specs.Cell.{put_cell}
use Rattle.queries.specs.declared.Band.{Band}
use Rattle.queries.specs.Material.{band}
use Rattle.blocks.specs.Block.{blocks_in, block_of, blocks_of}
use Rattle.blocks.specs.Renew.{put_block, renew_at, Open, leave_for, open_after, renew_over}
use Rattle.blocks.proofs.Steps.{put-room, length-blocks, at_length, leave-length}
use Rattle.blocks.proofs.Kept.{raw_at, raw_of, same_blocks}
use Rattle.blocks.proofs.Afresh.{Outside, blocks-left}

-- ---- a block put into a list that has it
module _ (bs : List Float) (b : ℕ) (k : Band) (room : 2 * b + 2 ≤ length bs) where
  put_same : raw_at (put_block bs b k) b ≡ k
  put_same =
      let l1 = set bs (2 * b) k.outer in
      let y = get_or-set_other l1 (suc (2 * b)) (2 * b) k.bore nan (omega arith) ∙ get_or-set_same bs (2 * b) k.outer nan (omega arith) in
      let x = ap (λ (m : ℕ). get_or (set l1 (suc (2 * b)) k.bore) m nan) (add-one (2 * b)) ∙ get_or-set_same l1 (suc (2 * b)) k.bore nan (omega (arith, length-set bs (2 * b) k.outer)) in
      ap (λ (l : List Float). raw_at l b) (put-room bs b k room) ∙ (λ i. band (x i) (y i))

  put_other : (j : ℕ) → (j ≡ b → ⊥) → raw_at (put_block bs b k) j ≡ raw_at bs j
  put_other j h =
      let l1 = set bs (2 * b) k.outer in
      let y = get_or-set_other l1 (suc (2 * b)) (2 * j) k.bore nan (λ e. h (omega arith)) ∙ get_or-set_other bs (2 * b) (2 * j) k.outer nan (λ e. h (omega arith)) in
      let x = get_or-set_other l1 (suc (2 * b)) (2 * j + 1) k.bore nan (λ e. h (omega arith)) ∙ get_or-set_other bs (2 * b) (2 * j + 1) k.outer nan (λ e. h (omega arith)) in
      ap (λ (l : List Float). raw_at l j) (put-room bs b k room) ∙ (λ i. band (x i) (y i))

-- ---- one block worked out of the cells cs
module _ (s : TurnStockSpec) (n : ℕ) (cs : List Float) where
  renew-here : (xs : List Float) (j : ℕ) → length xs ≡ 2 * blocks_in n → j < blocks_in n → raw_at (renew_at s n cs xs j) j ≡ block_of s n cs j
  unfolding renew_at
  renew-here xs j l h = ap (λ (ys : List Float). raw_at ys j) (pick_true _ _ _ (lt-ltb j (blocks_in n) h)) ∙ put_same xs j (block_of s n cs j) (omega arith)

  renew-there : (xs : List Float) (b j : ℕ) → length xs ≡ 2 * blocks_in n → (j ≡ b → ⊥) → raw_at (renew_at s n cs xs b) j ≡ raw_at xs j
  unfolding renew_at pick
  renew-there xs b j l h = go (ltb b (blocks_in n)) refl
    where
      go : (t : Bool) → ltb b (blocks_in n) ≡ t → raw_at (pick t (put_block xs b (block_of s n cs b)) xs) j ≡ raw_at xs j
      go true q = let w = ltb-true b (blocks_in n) q in put_other xs b (block_of s n cs b) (omega arith) j h
      go false q = refl

  -- ---- a list of bins in turn, and then the last open block
  module _ (j : ℕ) (here : j < blocks_in n) where
    finish : Open → List ℕ → List Float
    finish o is = renew_at s n cs (foldl (leave_for s n cs) o is).numbers (foldl (leave_for s n cs) o is).block

    Fresh : List Float → Type 0
    Fresh xs = raw_at xs j ≡ block_of s n cs j

    Long : Open → Type 0
    Long o = length o.numbers ≡ 2 * blocks_in n

    long-on : (o : Open) (i : ℕ) → Long o → Long (leave_for s n cs o i)
    unfolding Long
    long-on o i l = leave-length s n cs o i ∙ l

    -- block j and another one worked out
    fresh_at : (xs : List Float) (b : ℕ) → length xs ≡ 2 * blocks_in n → Fresh xs → Fresh (renew_at s n cs xs b)
    unfolding Fresh
    fresh_at xs b l f = go (eqb j b) refl
      where
        go : (t : Bool) → eqb j b ≡ t → raw_at (renew_at s n cs xs b) j ≡ block_of s n cs j
        go true q = subst (λ (x : ℕ). raw_at (renew_at s n cs xs x) j ≡ block_of s n cs j) (eqb-true j b q) (renew-here xs j l here)
        go false q = renew-there xs b j l (eqb-false j b q) ∙ f

    fresh_on : (o : Open) (i : ℕ) → Long o → Fresh o.numbers → Fresh (leave_for s n cs o i).numbers
    unfolding leave_for pick Long
    fresh_on o i l f = go (eqb o.block (i / block_bins))
      where
        go : (t : Bool) → Fresh (pick t o.numbers (renew_at s n cs o.numbers o.block))
        go true = f
        go false = fresh_at o.numbers o.block l f

    -- a fresh block stays fresh
    stays-fresh : (is : List ℕ) (o : Open) → Long o → Fresh o.numbers → Fresh (finish o is)
    unfolding finish Long
    stays-fresh [] o l f = fresh_at o.numbers o.block l f
    stays-fresh (i ∷ is) o l f = stays-fresh is (leave_for s n cs o i) (long-on o i l) (fresh_on o i l f)

    -- the open block becomes fresh
    open-fresh : (is : List ℕ) (o : Open) → Long o → o.block ≡ j → Fresh (finish o is)
    unfolding finish Long Fresh leave_for
    open-fresh [] o l e = subst (λ (x : ℕ). raw_at (renew_at s n cs o.numbers x) j ≡ block_of s n cs j) (sym e) (renew-here o.numbers j l here)
    open-fresh (i ∷ is) o l e = go (eqb o.block (i / block_bins)) refl (open-fresh is)
      where
        go : (t : Bool) → eqb o.block (i / block_bins) ≡ t → ((p : Open) → Long p → p.block ≡ j → Fresh (finish p is)) → Fresh (finish (leave_for s n cs o i) is)
        go true q next = next (leave_for s n cs o i) (long-on o i l) (sym (eqb-true o.block (i / block_bins) q) ∙ e)
        go false q next = stays-fresh is (leave_for s n cs o i) (long-on o i l) (worked q)
          where
            worked : eqb o.block (i / block_bins) ≡ false → raw_at (leave_for s n cs o i).numbers j ≡ block_of s n cs j
            worked q = ap (λ (xs : List Float). raw_at xs j) (pick-false _ _ _ q) ∙ subst (λ (x : ℕ). raw_at (renew_at s n cs o.numbers x) j ≡ block_of s n cs j) (sym e) (renew-here o.numbers j l here)

    -- each block is fresh, or as it was with no bin in it
    Either : Open → List ℕ → Type 0
    Either o is = (raw_at (finish o is) j ≡ block_of s n cs j) ⊎ ((raw_at (finish o is) j ≡ raw_at o.numbers j) × Each (Outside j) is)

    each-block : (is : List ℕ) (o : Open) → Long o → Either o is
    unfolding Either finish Long Fresh leave_for pick
    each-block [] o l = go (eqb j o.block) refl
      where
        go : (t : Bool) → eqb j o.block ≡ t → Either o []
        go true q = inl (open-fresh [] o l (sym (eqb-true j o.block q)))
        go false q = inr (renew-there o.numbers o.block j l (eqb-false j o.block q), tt)
    each-block (i ∷ is) o l = go (eqb (i / block_bins) j) refl (eqb j o.block) refl (each-block is (leave_for s n cs o i) (long-on o i l))
      where
        same : (t : Bool) → (j ≡ o.block → ⊥) → raw_at (pick t o.numbers (renew_at s n cs o.numbers o.block)) j ≡ raw_at o.numbers j
        same true h = refl
        same false h = renew-there o.numbers o.block j l h

        go : (t : Bool) → eqb (i / block_bins) j ≡ t → (u : Bool) → eqb j o.block ≡ u → Either (leave_for s n cs o i) is → Either o (i ∷ is)
        go true q u r next = inl (open-fresh is (leave_for s n cs o i) (long-on o i l) (eqb-true (i / block_bins) j q))
        go false q true r next = inl (open-fresh (i ∷ is) o l (sym (eqb-true j o.block r)))
        go false q false r (inl f) = inl f
        go false q false r (inr f) = inr (f.0 ∙ same (eqb o.block (i / block_bins)) (eqb-false j o.block r), (eqb-false (i / block_bins) j q, f.1))

  -- where each block without a bin was that of the cells, all are
  pub touched-afresh : (bs : List Float) (is : List ℕ) → length bs ≡ 2 * blocks_in n → ((j : ℕ) → j < blocks_in n → Each (Outside j) is → raw_at bs j ≡ block_of s n cs j) → renew_over s n cs bs is ≡ blocks_of s n cs
  unfolding renew_over Either finish Long
  touched-afresh bs is l old =
      same_blocks (blocks_in n) (renew_over s n cs bs is) (blocks_of s n cs) (at_length s n cs (open_after s n cs bs is).numbers (open_after s n cs bs is).block ∙ long is (record { numbers = bs; block = blocks_in n }) l) (length-blocks s n cs (blocks_in n))
      (λ j h. go j h (each-block j h is (record { numbers = bs; block = blocks_in n }) l) ∙ sym (raw_of s n cs (blocks_in n) j h))
    where
      long : (xs : List ℕ) (o : Open) → length o.numbers ≡ 2 * blocks_in n → length (foldl (leave_for s n cs) o xs).numbers ≡ 2 * blocks_in n
      long [] o e = e
      long (i ∷ xs) o e = long xs (leave_for s n cs o i) (leave-length s n cs o i ∙ e)

      go : (j : ℕ) (h : j < blocks_in n) → Either j h (record { numbers = bs; block = blocks_in n }) is → raw_at (renew_over s n cs bs is) j ≡ block_of s n cs j
      go j h (inl f) = f
      go j h (inr f) = f.0 ∙ old j h f.1

-- ---- a list of changes: none lies in a block that no index touches

-- the cells after changes, as `put_all` of crate `changes` has them
abbrev pub put_each : List Float → List TurnChange → List Float
put_each cs l = foldl (λ (x : List Float) (c : TurnChange). put_cell x c.index c.after) cs l

-- their bins
abbrev pub bins_of : List TurnChange → List ℕ
bins_of l = map (λ (c : TurnChange). c.index) l

changes-outside : (j : ℕ) (l : List TurnChange) → Each (Outside j) (bins_of l) → Each (λ (c : TurnChange). Outside j c.index) l
changes-outside j [] e = tt
changes-outside j (c ∷ l) e = (e.0, changes-outside j l e.1)

-- from the blocks of the cells before, the touched blocks renewed are all those of the cells afterwards
pub edited-afresh : (s : TurnStockSpec) (n : ℕ) (cs : List Float) (l : List TurnChange) → renew_over s n (put_each cs l) (blocks_of s n cs) (bins_of l) ≡ blocks_of s n (put_each cs l)
edited-afresh s n cs l =
    touched-afresh s n (put_each cs l) (blocks_of s n cs) (bins_of l) (length-blocks s n cs (blocks_in n))
    (λ j h u. raw_of s n cs (blocks_in n) j h ∙ sym (blocks-left s n j l cs (changes-outside j l u)))
