-- The two sides as one order: which of two radii lies deeper, what the deeper and the shallower of two are, and the bounds of a cell on a side.
-- Each law is one over the side. Assumes nothing.
use mathlib.Core.Path.{◌≡◌, refl}
use lib.Ieee.{Float, binary64}
use Rattle.floats.specs.Each.{Gathers, Semilattice}
use Rattle.floats.specs.Kinds.{Number, Plain}
use Rattle.floats.proofs.Order.{number-of, le-self, le_trans, le_antisym}
use Rattle.floats.proofs.Lattice.{least-plain, greatest-plain, least-le-l, least-le-r, least-ge, greatest-ge-l, greatest-ge-r, greatest-le}
use Rattle.floats.proofs.Folds.{gathers, least-semilattice, greatest-semilattice}
use Rattle.stock.specs.declared.TurnCell.{TurnCell}
use Rattle.stock.specs.declared.TurnSide.{TurnSide}
use Rattle.stock.specs.declared.TurnSide.TheVariants.{Outer, Inner}
use Rattle.reach.specs.Reach.{deeper, shallower, deep_of, sure_of, limit_of, with_pair}
use Rattle.reach.specs.Kinds.{AsDeep}

abbrev N : Float → Type 0
N = Number binary64

abbrev P : Float → Type 0
P = Plain binary64

-- ---- the order
-- a radius lies as deep as itself
pub deep-self : (σ : TurnSide) {x : Float} → Number binary64 x → AsDeep σ x x
unfolding AsDeep
deep-self Outer p = le-self p
deep-self Inner p = le-self p

-- as deep as one that lies as deep as a third is as deep as the third
pub deep-trans : (σ : TurnSide) {x y z : Float} → N x → N y → N z → AsDeep σ x y → AsDeep σ y z → AsDeep σ x z
unfolding AsDeep
deep-trans Outer p q r h k = le_trans p q r h k
deep-trans Inner p q r h k = le_trans r q p k h

-- two that lie as deep as each other are the same
pub deep-antisym : (σ : TurnSide) {x y : Float} → P x → P y → AsDeep σ x y → AsDeep σ y x → x ≡ y
unfolding AsDeep
deep-antisym Outer p q h k = le_antisym p q h k
deep-antisym Inner p q h k = le_antisym p q k h

-- ---- the deeper of two lies as deep as each, and no deeper than what lies as deep as both
module _ {a b : Float} (p : N a) (q : N b) where
  pub deeper-l : (σ : TurnSide) → AsDeep σ (deeper σ a b) a
  unfolding AsDeep deeper
  deeper-l Outer = least-le-l p q
  deeper-l Inner = greatest-ge-l p q

  pub deeper-r : (σ : TurnSide) → AsDeep σ (deeper σ a b) b
  unfolding AsDeep deeper
  deeper-r Outer = least-le-r p q
  deeper-r Inner = greatest-ge-r p q

  pub deeper-over : (σ : TurnSide) {c : Float} → N c → AsDeep σ c a → AsDeep σ c b → AsDeep σ c (deeper σ a b)
  unfolding AsDeep deeper
  deeper-over Outer r h k = least-ge p q r h k
  deeper-over Inner r h k = greatest-le p q r h k

  -- the second of two lies as deep as the shallower
  pub shallower-r : (σ : TurnSide) → AsDeep σ b (shallower σ a b)
  unfolding AsDeep shallower
  shallower-r Outer = greatest-ge-r p q
  shallower-r Inner = least-le-r p q

-- ---- on plain radii, the deeper is associative, commutative and idempotent
pub deeper-lattice : (σ : TurnSide) → Semilattice P (deeper σ)
unfolding deeper
deeper-lattice Outer = least-semilattice binary64
deeper-lattice Inner = greatest-semilattice binary64

-- so a fold of it turns neither on the order of a list nor on how often a radius is in it
pub deeper-gathers : (σ : TurnSide) → Gathers P P (deeper σ)
deeper-gathers σ = gathers (deeper-lattice σ)

-- the deeper of two plain radii is plain
pub deeper-plain : (σ : TurnSide) {a b : Float} → P a → P b → P (deeper σ a b)
deeper-plain σ p q = (deeper-lattice σ).keeps p q

-- and so is the shallower
pub shallower-plain : (σ : TurnSide) {a b : Float} → P a → P b → P (shallower σ a b)
unfolding shallower
shallower-plain Outer p q = greatest-plain p q
shallower-plain Inner p q = least-plain p q

-- the deeper of two is the first, where that lies as deep as the second
pub deeper-is : (σ : TurnSide) {a b : Float} → P a → P b → AsDeep σ a b → deeper σ a b ≡ a
deeper-is σ p q h = deep-antisym σ (deeper-plain σ p q) p (deeper-l (number-of p) (number-of q) σ) (deeper-over (number-of p) (number-of q) σ (number-of p) (deep-self σ (number-of p)) h)

-- ---- the fields of a cell with another pair
module _ (d u : Float) (c : TurnCell) where
  pub deep-with : (σ : TurnSide) → deep_of σ (with_pair σ d u c) ≡ d
  unfolding deep_of with_pair
  deep-with Outer = refl
  deep-with Inner = refl

  pub sure-with : (σ : TurnSide) → sure_of σ (with_pair σ d u c) ≡ u
  unfolding sure_of with_pair
  sure-with Outer = refl
  sure-with Inner = refl

  -- the limit of a side stays
  pub limit-with : (σ : TurnSide) → limit_of σ (with_pair σ d u c) ≡ limit_of σ c
  unfolding limit_of with_pair
  limit-with Outer = refl
  limit-with Inner = refl

  -- a later pair takes the place of an earlier
  pub with-with : (σ : TurnSide) (d' u' : Float) → with_pair σ d' u' (with_pair σ d u c) ≡ with_pair σ d' u' c
  unfolding with_pair
  with-with Outer d' u' = refl
  with-with Inner d' u' = refl

-- the pair that it has
pub with-own : (σ : TurnSide) (c : TurnCell) → with_pair σ (deep_of σ c) (sure_of σ c) c ≡ c
unfolding with_pair deep_of sure_of
with-own Outer c = refl
with-own Inner c = refl

-- ---- the two bounds of a side, plain and in order; and the limit of its cuts
pub record Ordered (σ : TurnSide) (c : TurnCell) : Type 0 where
  pub deep : P (deep_of σ c)
  pub sure : P (sure_of σ c)
  pub limit : P (limit_of σ c)
  pub order : deeper σ (deep_of σ c) (sure_of σ c) ≡ deep_of σ c
