-- What accepted parts say of their rule, and what they leave. Assumes nothing.
use mathlib.Core.Path.{◌≡◌, ap}
use mathlib.Core.Bool.{Bool, true, ◌&&◌}
use mathlib.Core.List.{List, map, Permᴰ}
use Prim.Native.Nat.{ℕ, ◌*◌, ◌/◌}
use native.Mathlib.Omega.{arith}
use borrow.Author.Tests.{le-leb, eqb-true}
use lib.ListN.{length}
use lib.Ieee.{Float}
use Rattle.refusals.specs.Paper.{answers}
use Rattle.stock.specs.declared.TurnStockSpec.{TurnStockSpec}
use Rattle.stock.specs.Spec.{clean_spec}
use Rattle.stock.specs.Cell.{stock_of}
use Rattle.stock.proofs.Count.{demanded, none-demanded, checked, stocked}
use Rattle.blocks.specs.Block.{blocks_in}
use Rattle.blocks.specs.Renew.{renew_of}
use Rattle.rings.specs.declared.Ring.{Ring}
use Rattle.rings.specs.Ring.{covered, clip}
use Rattle.rings.specs.Points.{Disjoint}
use Rattle.rings.specs.Store.{bar_ring, rings_of, room_for_rings, store_as, store_fits, count_fits, rings_good}
use Rattle.rings.specs.Remove.{remove_rings}
use Rattle.rings.proofs.Bad.{none-good}
use Rattle.rings.proofs.Taken.{rings-pass-again, rings-cover, rings-either-order}
use Rattle.moves.specs.Move.{given_of, parts_of}
use Rattle.moves.proofs.Answered.{answered}
use Rattle.moves.proofs.Accepted.{passed-disjoint}

-- an empty store passes refusal 4's test
none-fits : (e : Ring) (xs : List Float) → count_fits e xs 0 ≡ true
unfolding count_fits store_fits rings_of
none-fits e xs = ap (λ (b : Bool). b && true) (le-leb 0 (room_for_rings (length xs)) (omega arith))

-- what accepted parts say of the rule
pub record Parts (spec : TurnStockSpec) (cs : List Float) (len : ℕ) (given xs : List Float) (l : List Ring) : Type 0 where
  pub bins : ℕ
  pub stock : stock_of spec cs ≡ answers bins
  pub numbers : len ≡ 2 * blocks_in bins
  pub good : rings_good given ≡ true
  pub rule : remove_rings spec xs 0 given ≡ answers l

module _ (spec : TurnStockSpec) (cs : List Float) (len : ℕ) (xs : List Float) where
  pub parts : (given : List Float) (l : List Ring) → parts_of spec cs len given xs ≡ answers l → Parts spec cs len given xs l
  unfolding parts_of given_of renew_of
  parts given l h =
      let s = answered _ _ _ h in
      let k = answered _ _ _ s.first in
      let d20 = demanded _ _ _ _ k.then in
      let d10 = none-demanded _ _ _ _ s.then in
      record { bins = k.value; stock = k.first; numbers = eqb-true len (2 * blocks_in k.value) d20.0; good = none-good given d10.0; rule = d10.1 }

  module _ (given : List Float) (l : List Ring) (h : parts_of spec cs len given xs ≡ answers l) where
    -- the rings pass refusal 4's test
    pub parts-pass : count_fits (bar_ring (clean_spec spec)) (store_as xs l) (length l) ≡ true
    parts-pass = let t = parts given l h in rings-pass-again spec xs 0 (none-fits (bar_ring (clean_spec spec)) xs) given l (checked spec t.bins (stocked spec cs t.bins t.stock).count).good t.good t.rule

    -- no two of them share a point
    pub parts-disjoint : Disjoint l
    parts-disjoint = passed-disjoint (bar_ring (clean_spec spec)) xs l parts-pass

    -- they cover what the clipped rings given cover, and nothing else
    pub parts-cover : (z r : Float) → covered l z r ≡ covered (map (clip (bar_ring (clean_spec spec))) (rings_of (length given / 4) given)) z r
    unfolding covered rings_of
    parts-cover = rings-cover spec xs 0 (none-fits (bar_ring (clean_spec spec)) xs) given l (parts given l h).rule

  -- two orders of the rings given, both accepted, cover the same points
  pub parts-either-order : (given given' : List Float) (l l' : List Ring) → Permᴰ (rings_of (length given / 4) given) (rings_of (length given' / 4) given') → parts_of spec cs len given xs ≡ answers l
      → parts_of spec cs len given' xs ≡ answers l' → (z r : Float) → covered l z r ≡ covered l' z r
  parts-either-order given given' l l' d h h' = rings-either-order spec xs 0 (none-fits (bar_ring (clean_spec spec)) xs) given given' l l' d (parts given l h).rule (parts given' l' h').rule
