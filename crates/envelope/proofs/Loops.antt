-- What is gathered over the points or the segments of a chain, or of a part of it, is a loop over numbered steps; of such a loop the steps that change nothing can be left out. Assumes nothing.
use mathlib.Core.Path.{◌≡◌, refl, sym, ap, ap₂, ◌∙◌}
use mathlib.Core.List.{List, [], ◌∷◌, foldl}
use Prim.Native.Nat.{ℕ, zero, suc, ◌+◌, ◌-◌, ◌*◌, ◌≤◌, ◌<◌}
use native.Mathlib.Nat.{add-zero, zero-add, add-suc}
use native.Mathlib.Omega.{arith}
use lib.ListN.{drop, length-take, length-drop}
use lib.Seq.{get_or-take, get_or-drop}
use lib.Ieee.{Float, nan}
use Rattle.refusals.specs.Paper.{answers}
use Rattle.envelope.specs.declared.segments.Point.{Point}
use Rattle.envelope.specs.declared.Span.{Span}
use Rattle.envelope.specs.Envelope.{u_at, v_at, point_at, count, part_numbers}
use Rattle.envelope.specs.Full.{points_of, Segment, neighbours, segments_of}

-- ---- a loop over numbered steps, from a on
unfoldable pub loop : {A : Type 0} → (A → ℕ → A) → A → ℕ → ℕ → A
loop f z a zero = z
loop f z a (suc k) = f (loop f z a k) (a + k)

-- the first step, and then those after it
first_step : {A : Type 0} (f : A → ℕ → A) (z : A) (k : ℕ) → loop f z 0 (suc k) ≡ loop (λ r i. f r (suc i)) (f z 0) 0 k
unfolding loop
first_step f z zero = refl
first_step f z (suc k) =
    let e : 0 + suc k ≡ suc (0 + k) = omega arith in
    ap₂ f (first_step f z k) e

-- two loops whose steps are alike
alike : {A : Type 0} (f g : A → ℕ → A) (z : A) (a b k : ℕ) → ((j : ℕ) → j < k → (r : A) → f r (a + j) ≡ g r (b + j)) → loop f z a k ≡ loop g z b k
unfolding loop
alike f g z a b zero h = refl
alike f g z a b (suc k) h = h k (omega arith) (loop f z a k) ∙ ap (λ r. g r (b + k)) (alike f g z a b k (λ j l. h j (omega arith)))

-- steps that change nothing can be left out
module _ {A : Type 0} (f : A → ℕ → A) (z : A) where
  none_before : (m : ℕ) → ((j : ℕ) → j < m → (r : A) → f r j ≡ r) → loop f z 0 m ≡ z
  unfolding loop
  none_before zero h = refl
  none_before (suc m) h = rw (zero-add m) (h m (omega arith) (loop f z 0 m) ∙ none_before m (λ j l. h j (omega arith)))

  skip-before : (a k : ℕ) → ((j : ℕ) → j < a → (r : A) → f r j ≡ r) → loop f z 0 (a + k) ≡ loop f z a k
  unfolding loop
  skip-before a zero h = rw (add-zero a) (none_before a h)
  skip-before a (suc k) h = rw (add-suc a k, zero-add (a + k)) (ap (λ (r : A). f r (a + k)) (skip-before a k h))

  skip-after : (a k d : ℕ) → ((j : ℕ) → a + k ≤ j → j < a + k + d → (r : A) → f r j ≡ r) → loop f z a (k + d) ≡ loop f z a k
  unfolding loop
  skip-after a k zero h = rw (add-zero k) refl
  skip-after a k (suc d) h = rw (add-suc k d) (h (a + (k + d)) (omega arith) (omega arith) (loop f z a (k + d)) ∙ skip-after a k d (λ j l m. h j l (omega arith)))

  -- of n steps the k from a on
  pub narrowed : (n a k : ℕ) → a + k ≤ n → ((j : ℕ) → j < a → (r : A) → f r j ≡ r) → ((j : ℕ) → a + k ≤ j → j < n → (r : A) → f r j ≡ r) → loop f z a k ≡ loop f z 0 n
  narrowed n a k h p q =
      let e : a + (k + (n - a - k)) ≡ n = omega arith in
      sym (ap (loop f z 0) (sym e) ∙ (skip-before a (k + (n - a - k)) p ∙ skip-after a k (n - a - k) (λ j l m. q j l (omega arith))))

-- ---- a list of points or of segments, gathered from one to the next, is such a loop
abbrev pub segment : List Float → ℕ → Segment
segment ps i = record { from = point_at ps i; to = point_at ps (i + 1) }

point-next : (u v : Float) (ps : List Float) (i : ℕ) → point_at (u ∷ v ∷ ps) (suc i) ≡ point_at ps i
unfolding u_at v_at
point-next u v ps i =
    let e : 2 * suc i ≡ suc (suc (2 * i)) = omega arith in
    let g : suc (suc (2 * i)) + 1 ≡ suc (suc (2 * i + 1)) = omega arith in
    rw (e, g) refl

module _ {A : Type 0} where
  pub points-loop : (f : A → Point → A) (ps : List Float) (z : A) → foldl f z (points_of ps) ≡ loop (λ r i. f r (point_at ps i)) z 0 (count ps)
  unfolding points_of loop u_at v_at
  points-loop f [] z = refl
  points-loop f (u ∷ []) z = refl
  points-loop f (u ∷ v ∷ ps) z =
      let e : count (u ∷ v ∷ ps) ≡ suc (count ps) = omega arith in
      rw e (points-loop f ps (f z (point_at (u ∷ v ∷ ps) 0)) ∙ (alike (λ r i. f r (point_at ps i)) (λ r i. f r (point_at (u ∷ v ∷ ps) (suc i))) _ 0 0 (count ps) (λ j l r. ap (f r) (sym (point-next u v ps (0 + j)))) ∙ sym (first_step (λ r i. f r (point_at (u ∷ v ∷ ps) i)) z (count ps))))

  pub segments-loop : (f : A → Segment → A) (ps : List Float) (z : A) → foldl f z (segments_of ps) ≡ loop (λ r i. f r (segment ps i)) z 0 (count ps - 1)
  unfolding segments_of neighbours points_of loop u_at v_at
  segments-loop f [] z = refl
  segments-loop f (u ∷ []) z = refl
  segments-loop f (u ∷ v ∷ []) z = refl
  segments-loop f (u ∷ v ∷ w ∷ []) z = refl
  segments-loop f (u ∷ v ∷ w ∷ x ∷ ps) z =
      let e : count (u ∷ v ∷ w ∷ x ∷ ps) - 1 ≡ suc (count (w ∷ x ∷ ps) - 1) = omega arith in
      rw e (segments-loop f (w ∷ x ∷ ps) (f z (segment (u ∷ v ∷ w ∷ x ∷ ps) 0)) ∙ (alike (λ r i. f r (segment (w ∷ x ∷ ps) i)) (λ r i. f r (segment (u ∷ v ∷ w ∷ x ∷ ps) (suc i))) _ 0 0 (count (w ∷ x ∷ ps) - 1) (λ j l r. ap (f r) (segment-next j)) ∙ sym (first_step (λ r i. f r (segment (u ∷ v ∷ w ∷ x ∷ ps) i)) z (count (w ∷ x ∷ ps) - 1))))
    where
      segment-next : (j : ℕ) → segment (w ∷ x ∷ ps) (0 + j) ≡ segment (u ∷ v ∷ w ∷ x ∷ ps) (suc (0 + j))
      segment-next j =
          let e : suc (0 + j) + 1 ≡ suc (0 + j + 1) = omega arith in
          rw e (ap₂ (λ (p q : Point). record { from = p; to = q }) (sym (point-next u v (w ∷ x ∷ ps) (0 + j))) (sym (point-next u v (w ∷ x ∷ ps) (0 + j + 1))))

-- ---- the part that a span has of the points
module _ (ps : List Float) (s : Span) where
  abbrev pub part : List Float
  part = part_numbers ps (answers s)

  part_count : s.end ≤ count ps → count part ≡ s.end - s.start
  unfolding part_numbers
  part_count h = rw (length-take (2 * (s.end - s.start)) (drop (2 * s.start) ps), length-drop (2 * s.start) ps) (omega arith)

  part-point : (i : ℕ) → i < s.end - s.start → point_at part i ≡ point_at ps (s.start + i)
  unfolding part_numbers u_at v_at
  part-point i h =
      let e : 2 * s.start + 2 * i ≡ 2 * (s.start + i) = omega arith in
      let g : 2 * s.start + (2 * i + 1) ≡ 2 * (s.start + i) + 1 = omega arith in
      rw (get_or-take (2 * (s.end - s.start)) (drop (2 * s.start) ps) (2 * i) nan (omega arith), get_or-take (2 * (s.end - s.start)) (drop (2 * s.start) ps) (2 * i + 1) nan (omega arith), get_or-drop (2 * s.start) ps (2 * i) nan, get_or-drop (2 * s.start) ps (2 * i + 1) nan, e, g) refl

  module _ {A : Type 0} (h : s.end ≤ count ps) where
    pub part-points : (f : A → Point → A) (z : A) → foldl f z (points_of part) ≡ loop (λ r i. f r (point_at ps i)) z s.start (s.end - s.start)
    part-points f z =
        points-loop f part z ∙ (ap (loop (λ r i. f r (point_at part i)) z 0) (part_count h) ∙ alike _ _ z 0 s.start (s.end - s.start) (λ j l r. ap (f r) (rw (zero-add j) (part-point j l))))

    pub part-segments : (f : A → Segment → A) (z : A) → foldl f z (segments_of part) ≡ loop (λ r i. f r (segment ps i)) z s.start (s.end - s.start - 1)
    part-segments f z =
        segments-loop f part z ∙ (ap (λ n. loop (λ r i. f r (segment part i)) z 0 (n - 1)) (part_count h) ∙ alike _ _ z 0 s.start (s.end - s.start - 1) (λ j l r. ap (f r) (part-segment j l)))
      where
        part-segment : (j : ℕ) → j < s.end - s.start - 1 → segment part (0 + j) ≡ segment ps (s.start + j)
        part-segment j l =
            let e : s.start + j + 1 ≡ s.start + (j + 1) = omega arith in
            rw (zero-add j, e) (ap₂ (λ (p q : Point). record { from = p; to = q }) (part-point j (omega arith)) (part-point (j + 1) (omega arith)))
