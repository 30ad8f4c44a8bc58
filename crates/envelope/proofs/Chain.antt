-- A chain of numbers that has an order: what a test against a bound says of the places in the order, and that where one point passes, every point before it does. Assumes nothing.
use mathlib.Core.Path.{◌≡◌, refl, sym, ◌∙◌}
use mathlib.Core.Bool.{Bool, true, false, ◌&&◌, false≢true}
use mathlib.Core.Logic.{◌⊎◌, inl, inr, ◌↔◌}
use mathlib.Core.List.{List}
use Prim.Native.Nat.{ℕ, zero, suc, ◌+◌, ◌-◌, ◌≤◌, ◌<◌}
use native.Mathlib.Nat.{add-zero, eq-or-lt_of_le, le_refl, le_trans}
use native.Mathlib.Omega.{arith}
use lib.Dec.{T}
use lib.Ieee.{Float, nan, inf, fin, binary64, le, lt, eq, fits, is_nan}
use Rattle.floats.specs.Numbers.{all_to}
use Rattle.floats.specs.Kinds.{Number}
use Rattle.floats.proofs.Keys.{key, lt-key, le-key}
use Rattle.envelope.specs.declared.Test.{Test}
use Rattle.envelope.specs.declared.Test.TheVariants.{Below, AtMost, Above, AtLeast}
use Rattle.envelope.specs.Envelope.{u_at, count, rises_to, falls_to, rises, falls, passes}
use Rattle.floats.proofs.Bools.{so}

-- ---- Bools
pub both : (a b : Bool) → (a && b) ≡ true → (a ≡ true) × (b ≡ true)
both true b e = (refl, e)
both false b e = (e, absurd (false≢true e))

pub is : (b : Bool) → T b → b ≡ true
is true t = refl
is false t = absurd t

-- what holds of every number below k holds of i
pub all-at : (test : ℕ → Bool) (k i : ℕ) → all_to test k ≡ true → i < k → test i ≡ true
unfolding all_to
all-at test zero i e h = absurd (no_less i h)
  where
    no_less : (i : ℕ) → i < 0 → ⊥
    no_less i l = omega arith
all-at test (suc k) i e h =
    let f = both (all_to test k) (test k) e in
    go (eq-or-lt_of_le (omega arith)) f.1 (all-at test k i f.0)
  where
    go : (i ≡ k) ⊎ (i < k) → test k ≡ true → (i < k → test i ≡ true) → test i ≡ true
    go (inl g) p q = rw g p
    go (inr g) p q = q g

-- what holds from each of n to the next holds from each to any later
along : (R : ℕ → ℕ → Type 0) → ((a : ℕ) → R a a) → ((a b c : ℕ) → R a b → R b c → R a c) → (f : ℕ → ℕ) (n : ℕ) → ((i : ℕ) → i < n - 1 → R (f i) (f (i + 1)))
    → (i d : ℕ) → i + d < n → R (f i) (f (i + d))
along R r t f n s i zero h = rw (add-zero i) (r (f i))
along R r t f n s i (suc d) h =
    let e : i + suc d ≡ i + d + 1 = omega arith in
    rw e (t (f i) (f (i + d)) (f (i + d + 1)) (along R r t f n s i d (omega arith)) (s (i + d) (omega arith)))

-- ---- a test, by places in the order
abbrev pub Holds : Test → ℕ → ℕ → Type 0
Holds Below u x = u < x
Holds AtMost u x = u ≤ x
Holds Above u x = x < u
Holds AtLeast u x = x ≤ u

pub test-key : (t : Test) {u x : Float} → Number binary64 u → Number binary64 x → T (passes t u x) ↔ Holds t (key binary64 u) (key binary64 x)
test-key Below {u} {x} p q = lt-key binary64 u x p q
test-key AtMost {u} {x} p q = le-key binary64 u x p q
test-key Above {u} {x} p q = lt-key binary64 x u q p
test-key AtLeast {u} {x} p q = le-key binary64 x u q p

-- the order of a chain in which the points that pass stand first
abbrev pub runs : Test → List Float → Bool
runs Below ps = rises ps
runs AtMost ps = rises ps
runs Above ps = falls ps
runs AtLeast ps = falls ps

-- from which place to which such a chain goes
abbrev Leads : Test → ℕ → ℕ → Type 0
Leads Below a b = a ≤ b
Leads AtMost a b = a ≤ b
Leads Above a b = b ≤ a
Leads AtLeast a b = b ≤ a

before : (t : Test) (a b x : ℕ) → Leads t a b → Holds t b x → Holds t a x
before Below a b x l h = omega arith
before AtMost a b x l h = omega arith
before Above a b x l h = omega arith
before AtLeast a b x l h = omega arith

-- no u passes a test against a nan
nan-passes : (t : Test) (u : Float) → passes t u nan ≡ false
unfolding le lt eq
nan-passes Below nan = refl
nan-passes Below (inf s) = refl
nan-passes Below (fin s m e) = refl
nan-passes AtMost nan = refl
nan-passes AtMost (inf s) = refl
nan-passes AtMost (fin s m e) = refl
nan-passes Above u = refl
nan-passes AtLeast u = refl

module _ (ps : List Float) (num : (i : ℕ) → i < count ps → Number binary64 (u_at ps i)) where
  -- the place of point i
  abbrev pub K : ℕ → ℕ
  K i = key binary64 (u_at ps i)

  ups : rises ps ≡ true → (i d : ℕ) → i + d < count ps → K i ≤ K (i + d)
  unfolding rises_to
  ups e = along (λ a b. a ≤ b) le_refl (λ a b c. le_trans) K (count ps)
      (λ i h. (le-key binary64 (u_at ps i) (u_at ps (i + 1)) (num i (omega arith)) (num (i + 1) (omega arith))).0 (so (all-at (λ i. le (u_at ps i) (u_at ps (i + 1))) (count ps - 1) i e h)))

  downs : falls ps ≡ true → (i d : ℕ) → i + d < count ps → K (i + d) ≤ K i
  unfolding falls_to
  downs e = along (λ a b. b ≤ a) le_refl (λ a b c p q. le_trans q p) K (count ps)
      (λ i h. (le-key binary64 (u_at ps (i + 1)) (u_at ps i) (num (i + 1) (omega arith)) (num i (omega arith))).0 (so (all-at (λ i. le (u_at ps (i + 1)) (u_at ps i)) (count ps - 1) i e h)))

  leads : (t : Test) → runs t ps ≡ true → (i d : ℕ) → i + d < count ps → Leads t (K i) (K (i + d))
  leads Below = ups
  leads AtMost = ups
  leads Above = downs
  leads AtLeast = downs

  -- a point before one that passes does too
  pub closed : (t : Test) {x : Float} → Number binary64 x → runs t ps ≡ true → (i j : ℕ) → i ≤ j → j < count ps → passes t (u_at ps j) x ≡ true → passes t (u_at ps i) x ≡ true
  closed t {x} nx e i j h m p =
      let g : i + (j - i) ≡ j = omega arith in
      let l = rw g at (leads t e i (j - i) (omega arith)) in
      is (passes t (u_at ps i) x) ((test-key t (num i (omega arith)) nx).1 (before t (K i) (K j) (key binary64 x) l ((test-key t (num j m) nx).0 (so p))))

  -- and a nan as a bound passes none
  pub closed-any : (t : Test) (x : Float) → T (fits binary64 x) → runs t ps ≡ true → (i j : ℕ) → i ≤ j → j < count ps → passes t (u_at ps j) x ≡ true → passes t (u_at ps i) x ≡ true
  unfolding is_nan
  closed-any t nan f e i j h m p = absurd (false≢true (sym (nan-passes t (u_at ps j)) ∙ p))
  closed-any t (inf s) f e i j h m p = closed t (record { held = f; number = tt }) e i j h m p
  closed-any t (fin s n d) f e i j h m p = closed t (record { held = f; number = tt }) e i j h m p
