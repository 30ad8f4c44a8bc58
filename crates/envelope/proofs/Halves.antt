-- Halving, by one turn of the loop; enough halvings are enough, and what is found is a number of points. Assumes nothing.
use mathlib.Core.Path.{◌≡◌, refl, sym, ap, ap₂, ◌∙◌}
use mathlib.Core.Bool.{Bool, true, false}
use mathlib.Core.List.{List}
use Prim.Native.Nat.{ℕ, zero, suc, ◌+◌, ◌-◌, ◌/◌, ◌≤◌, ◌<◌}
use native.Mathlib.Decide.{dec_le}
use native.Mathlib.Omega.{arith}
use lib.Ieee.{Float}
use borrow.Author.Tests.{le-ltb, lt-ltb}
use Rattle.floats.specs.Pick.{pick}
use Rattle.envelope.specs.declared.Test.{Test}
use Rattle.envelope.specs.Envelope.{u_at, count, passes}
use Rattle.envelope.specs.Halving.{halve, split_of}

abbrev pub mid : ℕ → ℕ → ℕ
mid a b = a + (b - a) / 2

module _ (ps : List Float) (t : Test) (x : Float) where
  pub done : (k a b : ℕ) → b ≤ a → halve ps t x k a b ≡ a
  unfolding halve pick
  done zero a b h = refl
  done (suc k) a b h = rw (le-ltb a b h)

  pub step : (k a b : ℕ) → a < b → halve ps t x (suc k) a b ≡ pick (passes t (u_at ps (mid a b)) x) (halve ps t x k (mid a b + 1) b) (halve ps t x k a (mid a b))
  unfolding halve pick
  step k a b h = rw (lt-ltb a b h)

  fuel-go : (k l a b : ℕ) → Dec (b ≤ a) → (a < b → halve ps t x k (mid a b + 1) b ≡ halve ps t x l (mid a b + 1) b) → (a < b → halve ps t x k a (mid a b) ≡ halve ps t x l a (mid a b)) → halve ps t x (suc k) a b ≡ halve ps t x (suc l) a b
  fuel-go k l a b (yes e) f g = done (suc k) a b e ∙ sym (done (suc l) a b e)
  fuel-go k l a b (no n) f g =
      let ab : a < b = omega arith in
      step k a b ab ∙ (ap₂ (λ p q. pick (passes t (u_at ps (mid a b)) x) p q) (f ab) (g ab) ∙ sym (step l a b ab))

  -- enough halvings are enough
  pub fuel : (k l a b : ℕ) → b - a ≤ k → b - a ≤ l → halve ps t x k a b ≡ halve ps t x l a b
  fuel zero l a b h g = done zero a b (omega arith) ∙ sym (done l a b (omega arith))
  fuel (suc k) zero a b h g = done (suc k) a b (omega arith) ∙ sym (done zero a b (omega arith))
  fuel (suc k) (suc l) a b h g =
      fuel-go k l a b (dec_le b a) (λ ab. fuel k l (mid a b + 1) b (omega arith) (omega arith)) (λ ab. fuel k l a (mid a b) (omega arith) (omega arith))

  -- a turn of the loop
  turn : (a b : ℕ) (r : Bool) → a < b → passes t (u_at ps (mid a b)) x ≡ r → halve ps t x (b - a) a b ≡ pick r (halve ps t x (b - a - 1) (mid a b + 1) b) (halve ps t x (b - a - 1) a (mid a b))
  turn a b r h e = fuel (b - a) (suc (b - a - 1)) a b (omega arith) (omega arith) ∙ (step (b - a - 1) a b h ∙ ap (λ q. pick q (halve ps t x (b - a - 1) (mid a b + 1) b) (halve ps t x (b - a - 1) a (mid a b))) e)

  pub right : (a b : ℕ) → a < b → passes t (u_at ps (mid a b)) x ≡ true → halve ps t x (b - a) a b ≡ halve ps t x (b - (mid a b + 1)) (mid a b + 1) b
  unfolding pick
  right a b h e = turn a b true h e ∙ fuel (b - a - 1) (b - (mid a b + 1)) (mid a b + 1) b (omega arith) (omega arith)

  pub left : (a b : ℕ) → a < b → passes t (u_at ps (mid a b)) x ≡ false → halve ps t x (b - a) a b ≡ halve ps t x (mid a b - a) a (mid a b)
  unfolding pick
  left a b h e = turn a b false h e ∙ fuel (b - a - 1) (mid a b - a) a (mid a b) (omega arith) (omega arith)

  pub whole : split_of ps t x ≡ halve ps t x (count ps - 0) 0 (count ps)
  unfolding split_of
  whole = fuel (count ps) (count ps - 0) 0 (count ps) (omega arith) (omega arith)

  between-go : (k a b : ℕ) (r : Bool) → a ≤ b → Dec (b ≤ a) → passes t (u_at ps (mid a b)) x ≡ r → (a < b → halve ps t x k (mid a b + 1) b ≤ b) → (a < b → halve ps t x k a (mid a b) ≤ mid a b) → halve ps t x (suc k) a b ≤ b
  unfolding pick
  between-go k a b r h (yes e) p f g = rw (done (suc k) a b e) h
  between-go k a b true h (no n) p f g =
      let ab : a < b = omega arith in
      rw (step k a b ab, p) (f ab)
  between-go k a b false h (no n) p f g =
      let ab : a < b = omega arith in
      let q = g ab in
      rw (step k a b ab, p) (omega arith)

  nought : (a b : ℕ) → halve ps t x zero a b ≡ a
  unfolding halve pick
  nought a b = refl

  -- what it finds lies between
  pub between : (k a b : ℕ) → a ≤ b → halve ps t x k a b ≤ b
  between zero a b h = rw (nought a b) h
  between (suc k) a b h =
      between-go k a b (passes t (u_at ps (mid a b)) x) h (dec_le b a) refl (λ ab. between k (mid a b + 1) b (omega arith)) (λ ab. between k a (mid a b) (omega arith))

  pub split-le : split_of ps t x ≤ count ps
  unfolding split_of
  split-le = between (count ps) 0 (count ps) (omega arith)
