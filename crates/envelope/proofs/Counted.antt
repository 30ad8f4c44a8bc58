-- In a chain that has the order, halving finds how many points pass, and the span that it narrows to is the one found by counting: exactly the points with lo <= u <= hi. Assumes nothing.
use mathlib.Core.Path.{◌≡◌, refl, sym, ap₂, ◌∙◌}
use mathlib.Core.Bool.{Bool, true, false, false≢true}
use mathlib.Core.Logic.{◌⊎◌, inl, inr, ◌↔◌}
use mathlib.Core.List.{List}
use Prim.Native.Nat.{ℕ, zero, suc, ◌+◌, ◌-◌, ◌≤◌, ◌<◌}
use native.Mathlib.Nat.{le_refl}
use native.Mathlib.Decide.{dec_le}
use native.Mathlib.Omega.{arith}
use lib.Dec.{T}
use lib.IntN.{pos, negsuc}
use lib.Ieee.{Float, binary64, le, fits}
use Rattle.floats.specs.Pick.{pick}
use Rattle.floats.specs.Kinds.{Number}
use Rattle.floats.proofs.Keys.{key, le-key}
use Rattle.envelope.specs.declared.Test.{Test}
use Rattle.envelope.specs.declared.Test.TheVariants.{Below, AtMost, Above, AtLeast}
use Rattle.envelope.specs.Envelope.{u_at, count, rises, falls, order_of, passes, count_to, how_many, span, all_points, span_of}
use Rattle.envelope.specs.Halving.{halve, split_of, is_z, halved_span}
use Rattle.envelope.proofs.Halves.{mid, done, step, split-le}
use Rattle.envelope.proofs.Kept.{Lies, order-mixed}
use Rattle.envelope.proofs.Chain.{K, Holds, test-key, runs, closed, closed-any, is}
use Rattle.floats.proofs.Bools.{so}

not-le : {a b : ℕ} → (a ≤ b → ⊥) → b < a
not-le h = omega arith

not-lt : {a b : ℕ} → (a < b → ⊥) → b ≤ a
not-lt h = omega arith

not-both : {a b : ℕ} → b ≤ a → a < b → ⊥
not-both h g = omega arith

either : (b : Bool) → (b ≡ true) ⊎ (b ≡ false)
either true = inl refl
either false = inr refl

-- ---- halving
-- where one point passes, so does every point before it
abbrev pub Closed : List Float → Test → Float → Type 0
Closed ps t x = (i j : ℕ) → i ≤ j → j < count ps → passes t (u_at ps j) x ≡ true → passes t (u_at ps i) x ≡ true

-- the first r pass, and no later one
pub record Parted (ps : List Float) (t : Test) (x : Float) (r : ℕ) : Type 0 where
  pub pass : (i : ℕ) → i < r → i < count ps → passes t (u_at ps i) x ≡ true
  pub fail : (i : ℕ) → r ≤ i → i < count ps → passes t (u_at ps i) x ≡ false

module _ (ps : List Float) (t : Test) (x : Float) (closed : Closed ps t x) where
  stop : (k a b : ℕ) → b ≤ a → ((i : ℕ) → i < a → i < count ps → passes t (u_at ps i) x ≡ true) → ((i : ℕ) → b ≤ i → i < count ps → passes t (u_at ps i) x ≡ false) → Parted ps t x (halve ps t x k a b)
  stop k a b h p q = rw (done ps t x k a b h) (record { pass = p; fail = λ i l m. q i (omega arith) m })

  not_after : (m i : ℕ) → m ≤ i → i < count ps → passes t (u_at ps m) x ≡ false → passes t (u_at ps i) x ≡ false
  not_after m i l h e = go (either (passes t (u_at ps i) x))
    where
      go : (passes t (u_at ps i) x ≡ true) ⊎ (passes t (u_at ps i) x ≡ false) → passes t (u_at ps i) x ≡ false
      go (inl g) = absurd (false≢true (sym e ∙ closed m i l h g))
      go (inr g) = g

  turn : (k a b : ℕ) → b ≤ count ps → ((i : ℕ) → i < a → i < count ps → passes t (u_at ps i) x ≡ true) → ((i : ℕ) → b ≤ i → i < count ps → passes t (u_at ps i) x ≡ false)
      → Dec (b ≤ a) → (passes t (u_at ps (mid a b)) x ≡ true) ⊎ (passes t (u_at ps (mid a b)) x ≡ false)
      → (a < b → passes t (u_at ps (mid a b)) x ≡ true → Parted ps t x (halve ps t x k (mid a b + 1) b))
      → (a < b → passes t (u_at ps (mid a b)) x ≡ false → Parted ps t x (halve ps t x k a (mid a b)))
      → Parted ps t x (halve ps t x (suc k) a b)
  unfolding pick
  turn k a b hb p q (yes e) c f g = stop (suc k) a b e p q
  turn k a b hb p q (no n) (inl c) f g =
      let ab : a < b = omega arith in
      rw (step ps t x k a b ab, c) (f ab c)
  turn k a b hb p q (no n) (inr c) f g =
      let ab : a < b = omega arith in
      rw (step ps t x k a b ab, c) (g ab c)

  parts : (k a b : ℕ) → b - a ≤ k → b ≤ count ps → ((i : ℕ) → i < a → i < count ps → passes t (u_at ps i) x ≡ true) → ((i : ℕ) → b ≤ i → i < count ps → passes t (u_at ps i) x ≡ false) → Parted ps t x (halve ps t x k a b)
  parts zero a b h hb p q = stop zero a b (omega arith) p q
  parts (suc k) a b h hb p q =
      turn k a b hb p q (dec_le b a) (either (passes t (u_at ps (mid a b)) x))
      (λ ab c. parts k (mid a b + 1) b (omega arith) hb (λ i l m. closed i (mid a b) (omega arith) (omega arith) c) q)
      (λ ab c. parts k a (mid a b) (omega arith) (omega arith) p (λ i l m. not_after (mid a b) i l m c))

  pub split-parted : Parted ps t x (split_of ps t x)
  unfolding split_of
  split-parted = parts (count ps) 0 (count ps) (omega arith) (omega arith) (λ i l m. absurd (nothing i l)) (λ i l m. absurd (never i l m))
    where
      nothing : (i : ℕ) → i < 0 → ⊥
      nothing i l = omega arith

      never : (i : ℕ) → count ps ≤ i → i < count ps → ⊥
      never i l m = omega arith

-- ---- counting
module _ (ps : List Float) (t : Test) (x : Float) (r : ℕ) (top : r ≤ count ps) (d : Parted ps t x r) where
  -- of the first k points all pass, or the first r
  counts : (k : ℕ) → k ≤ count ps → ((k ≤ r) × (count_to ps t x k ≡ k)) ⊎ ((r ≤ k) × (count_to ps t x k ≡ r))
  unfolding count_to pick
  counts zero h = inl (omega arith, refl)
  counts (suc k) h = go (dec_le r k) (counts k (omega arith))
    where
      go : Dec (r ≤ k) → ((k ≤ r) × (count_to ps t x k ≡ k)) ⊎ ((r ≤ k) × (count_to ps t x k ≡ r)) → ((suc k ≤ r) × (count_to ps t x k + pick (passes t (u_at ps k) x) 1 0 ≡ suc k)) ⊎ ((r ≤ suc k) × (count_to ps t x k + pick (passes t (u_at ps k) x) 1 0 ≡ r))
      go (yes l) (inl c) = rw (d.fail k l (omega arith)) (inr (omega arith, omega arith))
      go (yes l) (inr c) = rw (d.fail k l (omega arith)) (inr (omega arith, omega arith))
      go (no n) (inl c) = rw (d.pass k (omega arith) (omega arith)) (inl (omega arith, omega arith))
      go (no n) (inr c) = rw (d.pass k (omega arith) (omega arith)) (inl (omega arith, omega arith))

  -- so r is how many pass
  pub counted : r ≡ count_to ps t x (count ps)
  counted = go (counts (count ps) (omega arith))
    where
      go : ((count ps ≤ r) × (count_to ps t x (count ps) ≡ count ps)) ⊎ ((r ≤ count ps) × (count_to ps t x (count ps) ≡ r)) → r ≡ count_to ps t x (count ps)
      go (inl c) = omega arith
      go (inr c) = omega arith

-- ---- the span of a query
module _ (ps : List Float) (num : (i : ℕ) → i < count ps → Number binary64 (u_at ps i)) where
  module _ (t : Test) {x : Float} (nx : Number binary64 x) (e : runs t ps ≡ true) where
    parted : Parted ps t x (split_of ps t x)
    parted = split-parted ps t x (closed ps num t nx e)

    pub split-counted : split_of ps t x ≡ how_many ps t x
    split-counted = counted ps t x (split_of ps t x) (split-le ps t x) parted

    many-parted : Parted ps t x (how_many ps t x)
    many-parted = rw (← split-counted) parted

    -- the points that pass come first, and no other passes
    pub many-pass : (i : ℕ) → i < how_many ps t x → i < count ps → Holds t (K ps num i) (key binary64 x)
    many-pass i h m = (test-key t (num i m) nx).0 (so (many-parted.pass i h m))

    pub many-fail : (i : ℕ) → how_many ps t x ≤ i → i < count ps → Holds t (K ps num i) (key binary64 x) → ⊥
    many-fail i h m l = false≢true (sym (many-parted.fail i h m) ∙ is (passes t (u_at ps i) x) ((test-key t (num i m) nx).1 l))

    pub many-le : how_many ps t x ≤ count ps
    many-le = rw (← split-counted) (split-le ps t x)

  -- a nan as a bound passes no point, and halving finds none
  module _ (t : Test) (x : Float) (f : T (fits binary64 x)) (e : runs t ps ≡ true) where
    pub any-counted : split_of ps t x ≡ how_many ps t x
    any-counted = counted ps t x (split_of ps t x) (split-le ps t x) (split-parted ps t x (closed-any ps num t x f e))

  -- halving finds what counting does, whatever the bounds
  pub span-any : (lo hi : Float) → T (fits binary64 lo) → T (fits binary64 hi) → halved_span ps (order_of ps) lo hi ≡ span_of ps lo hi
  unfolding halved_span span_of is_z order_of pick
  span-any lo hi flo fhi = go (rises ps) (falls ps) refl refl
    where
      go : (a b : Bool) → rises ps ≡ a → falls ps ≡ b → halved_span ps (pick a (pos 1) (pick b (negsuc 0) (pos 0))) lo hi ≡ pick a (span (how_many ps Below lo) (how_many ps AtMost hi)) (pick b (span (how_many ps Above hi) (how_many ps AtLeast lo)) (all_points ps))
      go true b e f = ap₂ span (any-counted Below lo flo e) (any-counted AtMost hi fhi e)
      go false true e f = ap₂ span (any-counted Above hi fhi f) (any-counted AtLeast lo flo f)
      go false false e f = refl

  -- a span from where the points stop to pass one test to where they stop to pass another: its points fail the first, and pass the second
  module _ (s t : Test) {x y : Float} (nx : Number binary64 x) (ny : Number binary64 y) (es : runs s ps ≡ true) (et : runs t ps ≡ true) where
    points-between : (i : ℕ) → i < count ps → ((how_many ps s x ≤ i) × (i < how_many ps t y)) ↔ ((Holds s (K ps num i) (key binary64 x) → ⊥) × Holds t (K ps num i) (key binary64 y))
    points-between i m = (
      λ h. (many-fail s nx es i h.0 m, many-pass t ny et i h.1 m),
      λ h. (not-lt (λ l. h.0 (many-pass s nx es i l m)), not-le (λ l. many-fail t ny et i l m h.1)),
    )

    -- where what passes the first passes the second too, it is not turned about
    between-lies : ((k : ℕ) → Holds s k (key binary64 x) → Holds t k (key binary64 y)) → Lies (span (how_many ps s x) (how_many ps t y)) (count ps)
    between-lies f =
        let n = many-le s nx es in
        (not-lt (λ l. many-fail t ny et (how_many ps t y) (le_refl (how_many ps t y)) (omega arith) (f (K ps num (how_many ps t y)) (many-pass s nx es (how_many ps t y) l (omega arith)))), many-le t ny et)

  module _ (lo hi : Float) (nlo : Number binary64 lo) (nhi : Number binary64 hi) where
    pub span-counted : halved_span ps (order_of ps) lo hi ≡ span_of ps lo hi
    span-counted = span-any lo hi nlo.held nhi.held

    -- where lo <= hi it is not turned about
    pub span-lies : le lo hi ≡ true → Lies (span_of ps lo hi) (count ps)
    unfolding span_of pick
    span-lies h = go (rises ps) (falls ps) refl refl ((le-key binary64 lo hi nlo nhi).0 (so h))
      where
        up : (klo khi k : ℕ) → klo ≤ khi → k < klo → k ≤ khi
        up klo khi k l h = omega arith

        down : (klo khi k : ℕ) → klo ≤ khi → khi < k → klo ≤ k
        down klo khi k l h = omega arith

        go : (a b : Bool) → rises ps ≡ a → falls ps ≡ b → key binary64 lo ≤ key binary64 hi → Lies (pick a (span (how_many ps Below lo) (how_many ps AtMost hi)) (pick b (span (how_many ps Above hi) (how_many ps AtLeast lo)) (all_points ps))) (count ps)
        go true b e f l = between-lies Below AtMost nlo nhi e e (λ k. up (key binary64 lo) (key binary64 hi) k l)
        go false true e f l = between-lies Above AtLeast nhi nlo f f (λ k. down (key binary64 lo) (key binary64 hi) k l)
        go false false e f l = (omega arith, omega arith)

    -- in a chain that has an order a point is in the span exactly where lo <= u <= hi
    pub span-exactly : (order_of ps ≡ pos 0 → ⊥) → (i : ℕ) → i < count ps → (((span_of ps lo hi).start ≤ i) × (i < (span_of ps lo hi).end)) ↔ (T (le lo (u_at ps i)) × T (le (u_at ps i) hi))
    unfolding span_of pick
    span-exactly h i m = go (rises ps) (falls ps) refl refl
      where
        at_least : T (le lo (u_at ps i)) ↔ (key binary64 lo ≤ K ps num i)
        at_least = le-key binary64 lo (u_at ps i) nlo (num i m)

        at_most : T (le (u_at ps i) hi) ↔ (K ps num i ≤ key binary64 hi)
        at_most = le-key binary64 (u_at ps i) hi (num i m) nhi

        go : (a b : Bool) → rises ps ≡ a → falls ps ≡ b
            → let s = pick a (span (how_many ps Below lo) (how_many ps AtMost hi)) (pick b (span (how_many ps Above hi) (how_many ps AtLeast lo)) (all_points ps)) in
            ((s.start ≤ i) × (i < s.end)) ↔ (T (le lo (u_at ps i)) × T (le (u_at ps i) hi))
        go true b e f =
            let x = points-between Below AtMost nlo nhi e e i m in
            (λ p. (at_least.1 (not-lt (x.0 p).0), at_most.1 (x.0 p).1), λ q. x.1 (not-both (at_least.0 q.0), at_most.0 q.1))
        go false true e f =
            let x = points-between Above AtLeast nhi nlo f f i m in
            (λ p. (at_least.1 (x.0 p).1, at_most.1 (not-lt (x.0 p).0)), λ q. x.1 (not-both (at_most.0 q.1), at_least.0 q.0))
        go false false e f = absurd (h (sym (order-mixed ps e f)))
