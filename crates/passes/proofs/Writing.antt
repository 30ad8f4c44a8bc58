-- The passes of the bins below i, written as far as there is room. Assumes nothing.
use mathlib.Core.Path.{◌≡◌, refl}
use mathlib.Core.Bool.{Bool, ◌&&◌, ◌||◌}
use mathlib.Core.List.{List, []}
use Prim.Native.Nat.{ℕ, ◌+◌}
use lib.ListN.{take}
use lib.Ieee.{Float}
use Rattle.stock.specs.declared.TurnStockSpec.{TurnStockSpec}
use Rattle.passes.specs.declared.propose.Level.{Level}
use Rattle.passes.specs.Propose.{level_over, last_of_run, stands_over, open_to, room_in, ListLevel, Listing}
use Rattle.passes.proofs.Runs.{Reached, passes-next}
use Rattle.passes.proofs.Levels.{begun, listing-next}

module _ (s : TurnStockSpec) (n : ℕ) (ts : List Float) (rn : Float) (cs : List Float) where
  -- of no bin
  pub written_none : (ks : List ℕ) (xs : List Float) (ps : List ℕ) → Listing (take (room_in ks xs ps) (open_to s n ts rn cs 0).passes) 0 ks ks xs xs ps ps
  unfolding open_to
  written_none ks xs ps = begun (room_in ks xs ps) [] ks xs ps refl

  -- with one bin more
  pub written_next : (i first : ℕ) (high over ends : Bool) (p : Level) (k k' : ℕ) (ks₀ ks ks' : List ℕ) (xs₀ xs xs' : List Float) (ps₀ ps ps' : List ℕ) → Reached (open_to s n ts rn cs i) i first high → over ≡ (high || stands_over ts cs i) → ends ≡ last_of_run ts n i → p ≡ level_over s n ts rn first i → Listing (take (room_in ks₀ xs₀ ps₀) (open_to s n ts rn cs i).passes) k ks₀ ks xs₀ xs ps₀ ps → ListLevel (over && ends) p k k' ks ks' xs xs' ps ps' → Listing (take (room_in ks₀ xs₀ ps₀) (open_to s n ts rn cs (i + 1)).passes) k' ks₀ ks' xs₀ xs' ps₀ ps'
  written_next i first high over ends p k k' ks₀ ks ks' xs₀ xs xs' ps₀ ps ps' g eo ee ep w q =
      rw (passes-next s n ts rn cs i first high over ends g eo ee p ep)
      (listing-next (open_to s n ts rn cs i).passes p (over && ends) k k' ks₀ ks ks' xs₀ xs xs' ps₀ ps ps' w q)
