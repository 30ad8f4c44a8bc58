-- Lent numbers that match are those of the cells, with -0.0 read as +0.0; and the numbers of the cells match. Assumes nothing.
use mathlib.Core.Path.{◌≡◌, refl, sym, ap, ◌∙◌, subst}
use mathlib.Core.Logic.{◌⊎◌, inl, inr}
use mathlib.Core.Bool.{true, not, ◌&&◌, false≢true}
use mathlib.Core.List.{List, ◌++◌}
use Prim.Native.Nat.{ℕ, zero, suc, ◌+◌, ◌*◌, ◌-◌, ◌/◌, ◌%◌, ◌≤◌, ◌<◌}
use native.Mathlib.Nat.{eq-or-lt_of_le, add-zero}
use native.Mathlib.Omega.{arith}
use borrow.Author.Tests.{lt-ltb, eqb-true, eq-eqb}
use lib.Dec.{T, eqb}
use lib.ListN.{length, get_or, get_or-append}
use lib.Seq.{get_or-append-add, ext_get_or}
use lib.Ieee.{Float, nan, inf, fin, binary64, fits, is_nan, eq}
use lib.Ieee.Bits.{is_true}
use lib.Ieee.Fits.{and_i}
use Rattle.floats.specs.Pick.{pick, pick_true}
use Rattle.floats.specs.Numbers.{clean_of}
use Rattle.floats.specs.Kinds.{Number, Plain}
use Rattle.floats.proofs.Order.{number-of, eq_self, eq-unique}
use Rattle.floats.proofs.Cleared.{clean-plain, clean-same}
use Rattle.refusals.specs.Limits.{block_bins}
use Rattle.stock.specs.declared.TurnStockSpec.{TurnStockSpec}
use Rattle.stock.specs.Cell.{number_at, cell_at}
use Rattle.stock.proofs.Bins.{HeldList}
use Rattle.stock.proofs.Count.{and_both}
use Rattle.reach.proofs.Fit.{CellFit}
use Rattle.queries.specs.declared.Band.{Band}
use Rattle.queries.specs.Material.{band}
use Rattle.blocks.specs.Block.{no_material, blocks_in, block_end, block_of, blocks_to, blocks_of, two_of, block_at, same_block, match_to, matches_of}
use Rattle.blocks.proofs.Steps.{length-blocks}
use Rattle.blocks.proofs.Split.{Ends, Fair, none-fair, fold-fair}

-- a block's two numbers as they stand
abbrev pub raw_at : List Float → ℕ → Band
raw_at bs j = band (number_at bs (2 * j + 1)) (number_at bs (2 * j))

-- as it is read
pub read-raw : (bs : List Float) (j : ℕ) → 2 * j + 2 ≤ length bs → block_at bs j ≡ band (clean_of (raw_at bs j).bore) (clean_of (raw_at bs j).outer)
unfolding block_at
read-raw bs j h = pick_true _ _ _ (lt-ltb j (length bs / 2) (omega arith))

-- ---- two lists with the same blocks are the same
pub same_blocks : (b : ℕ) (xs ys : List Float) → length xs ≡ 2 * b → length ys ≡ 2 * b → ((j : ℕ) → j < b → raw_at xs j ≡ raw_at ys j) → xs ≡ ys
same_blocks b xs ys lx ly h = ext_get_or nan xs ys (lx ∙ sym ly) (λ m p. at m (m / 2) (m % 2) (omega arith) (omega arith) (omega arith))
  where
    at : (m j r : ℕ) → r < 2 → m ≡ 2 * j + r → j < b → get_or xs m nan ≡ get_or ys m nan
    at m j zero q e p = subst (λ (i : ℕ). get_or xs i nan ≡ get_or ys i nan) (sym (e ∙ add-zero (2 * j))) (ap (λ (k : Band). k.outer) (h j p))
    at m j (suc zero) q e p = subst (λ (i : ℕ). get_or xs i nan ≡ get_or ys i nan) (sym e) (ap (λ (k : Band). k.bore) (h j p))
    at m j (suc (suc r)) q e p = absurd (omega arith)

-- ---- the numbers of the cells, read back
module _ (s : TurnStockSpec) (n : ℕ) (cs : List Float) where
  behind : (xs : List Float) (b : ℕ) (k : Band) → length xs ≡ 2 * b → raw_at (xs ++ two_of k) b ≡ k
  behind xs b k l =
      let e0 : 2 * b ≡ length xs + 0 = omega arith in
      let e1 : 2 * b + 1 ≡ length xs + 1 = omega arith in
      let x = ap (λ (i : ℕ). get_or (xs ++ two_of k) i nan) e1 ∙ get_or-append-add xs (two_of k) 1 nan in
      let y = ap (λ (i : ℕ). get_or (xs ++ two_of k) i nan) e0 ∙ get_or-append-add xs (two_of k) 0 nan in
      (λ i. band (x i) (y i))

  pub raw_of : (b j : ℕ) → j < b → raw_at (blocks_to s n cs b) j ≡ block_of s n cs j
  unfolding blocks_to
  raw_of zero j h = absurd (none j h)
    where
      none : (i : ℕ) → i < 0 → ⊥
      none i p = omega arith
  raw_of (suc b) j h = go (eq-or-lt_of_le (omega arith)) (raw_of b j)
    where
      go : (j ≡ b) ⊎ (j < b) → (j < b → raw_at (blocks_to s n cs b) j ≡ block_of s n cs j) → raw_at (blocks_to s n cs b ++ two_of (block_of s n cs b)) j ≡ block_of s n cs j
      go (inl q) r = subst (λ (i : ℕ). raw_at (blocks_to s n cs b ++ two_of (block_of s n cs b)) i ≡ block_of s n cs i) (sym q) (behind (blocks_to s n cs b) b (block_of s n cs b) (length-blocks s n cs b))
      go (inr q) r =
          let l = length-blocks s n cs b in
          let x = get_or-append (blocks_to s n cs b) (two_of (block_of s n cs b)) nan (2 * j + 1) (omega arith) in
          let y = get_or-append (blocks_to s n cs b) (two_of (block_of s n cs b)) nan (2 * j) (omega arith) in
          (λ i. band (x i) (y i)) ∙ r q

-- ---- a value that equals another
eq_number : (x y : Float) → eq x y ≡ true → T (not (is_nan x))
unfolding eq is_nan
eq_number nan y h = absurd (false≢true h)
eq_number (inf s) y h = tt
eq_number (fin s m e) y h = tt

pub nan-stays : clean_of nan ≡ nan
unfolding clean_of pick eq
nan-stays = refl

clean-number : (x : Float) → T (fits binary64 x) → T (not (is_nan (clean_of x))) → Number binary64 x
unfolding is_nan
clean-number nan h t = absurd (subst (λ (y : Float). T (not (is_nan y))) nan-stays t)
clean-number (inf s) h t = record { held = h; number = tt }
clean-number (fin s m e) h t = record { held = h; number = tt }

-- what equals a plain value is that value, with -0.0 read as +0.0
pub clean_is : (x y : Float) → T (fits binary64 x) → Plain binary64 y → eq (clean_of x) y ≡ true → clean_of x ≡ y
clean_is x y h p e = eq-unique (clean-plain (clean-number x h (eq_number (clean_of x) y e))) p (subst T (sym e) tt)

-- ---- n cells that fit
module _ (s : TurnStockSpec) (E : Ends s) (n : ℕ) (cs : List Float) (fit : (i : ℕ) → i < n → CellFit s (cell_at cs i)) where
  pub block-fair : (j : ℕ) → j < blocks_in n → Fair s (block_of s n cs j)
  unfolding block_of
  block-fair j h = fold-fair s E (no_material s) cs (block_bins * j) (block_end n j - block_bins * j) (none-fair s E) (λ i p. fit (block_bins * j + i) (omega arith))

  -- the numbers of the cells are read as they are
  pub own-kept : (j : ℕ) → j < blocks_in n → block_at (blocks_of s n cs) j ≡ block_of s n cs j
  own-kept j h =
      let l = length-blocks s n cs (blocks_in n) in
      let r = raw_of s n cs (blocks_in n) j h in
      let f = block-fair j h in
      let x = ap (λ (b : Band). clean_of b.bore) r ∙ clean-same f.bore in
      let y = ap (λ (b : Band). clean_of b.outer) r ∙ clean-same f.outer in
      read-raw (blocks_of s n cs) j (omega arith) ∙ (λ i. band (x i) (y i))

  match-below : (bs : List Float) (b : ℕ) → match_to s n cs bs b ≡ true → (j : ℕ) → j < b → same_block (block_at bs j) (block_of s n cs j) ≡ true
  unfolding match_to
  match-below bs zero t j h = absurd (none j h)
    where
      none : (i : ℕ) → i < 0 → ⊥
      none i p = omega arith
  match-below bs (suc b) t j h = let w = and_both (match_to s n cs bs b) (same_block (block_at bs b) (block_of s n cs b)) t in go (eq-or-lt_of_le (omega arith)) w.1 (match-below bs b w.0 j)
    where
      go : (j ≡ b) ⊎ (j < b) → same_block (block_at bs b) (block_of s n cs b) ≡ true → (j < b → same_block (block_at bs j) (block_of s n cs j) ≡ true) → same_block (block_at bs j) (block_of s n cs j) ≡ true
      go (inl q) e r = subst (λ (i : ℕ). same_block (block_at bs i) (block_of s n cs i) ≡ true) (sym q) e
      go (inr q) e r = r q

  -- lent numbers that match are as many as the blocks have
  pub match-length : (bs : List Float) → matches_of s n cs bs ≡ true → length bs ≡ 2 * blocks_in n
  unfolding matches_of
  match-length bs t = eqb-true (length bs) (2 * blocks_in n) (and_both (eqb (length bs) (2 * blocks_in n)) (match_to s n cs bs (blocks_in n)) t).0

  -- and are read as those of the cells
  pub match-kept : (bs : List Float) → HeldList bs → matches_of s n cs bs ≡ true → (j : ℕ) → j < blocks_in n → block_at bs j ≡ block_of s n cs j
  unfolding matches_of
  match-kept bs held t j h =
      let l = match-length bs t in
      let m = match-below bs (blocks_in n) (and_both (eqb (length bs) (2 * blocks_in n)) (match_to s n cs bs (blocks_in n)) t).1 j h in
      let f = block-fair j h in
      let r = read-raw bs j (omega arith) in
      let e = ap (λ (b : Band). same_block b (block_of s n cs j)) (sym r) ∙ m in
      let w = and_both (eq (clean_of (raw_at bs j).outer) (block_of s n cs j).outer) (eq (clean_of (raw_at bs j).bore) (block_of s n cs j).bore) e in
      let x = clean_is (raw_at bs j).bore (block_of s n cs j).bore (held (2 * j + 1)) f.bore w.1 in
      let y = clean_is (raw_at bs j).outer (block_of s n cs j).outer (held (2 * j)) f.outer w.0 in
      r ∙ (λ i. band (x i) (y i))

  match-up : (b : ℕ) → b ≤ blocks_in n → match_to s n cs (blocks_of s n cs) b ≡ true
  unfolding match_to
  match-up zero h = refl
  match-up (suc b) h =
      let f = block-fair b (omega arith) in
      let O = eq (block_of s n cs b).outer (block_of s n cs b).outer in
      let B = eq (block_of s n cs b).bore (block_of s n cs b).bore in
      let e = ap (λ (x : Band). same_block x (block_of s n cs b)) (own-kept b (omega arith)) ∙ is_true (O && B) (and_i O B (eq_self (number-of f.outer)) (eq_self (number-of f.bore))) in
      (λ i. match-up b (omega arith) i && e i)

  -- the numbers of the cells match
  pub own-match : matches_of s n cs (blocks_of s n cs) ≡ true
  unfolding matches_of
  own-match = (λ i. eq-eqb (length (blocks_of s n cs)) (2 * blocks_in n) (length-blocks s n cs (blocks_in n)) i && match-up (blocks_in n) (omega arith) i)
