-- The parts between the bytes p, found from the left. Assumes nothing.
use Rattle.std.proofs.Common.{◌≡◌, ℕ, suc, ◌+◌, ◌-◌, ◌<◌, ◌≤◌, Bool, true, false, cond, eqb, List, [], ◌∷◌, length, get_or, take, drop, sym, refl, ap, ◌∙◌, add-one, arith, length-drop, drop_of_length-le, drop-cons, drop-drop, eq-eqb, ne_eqb}
use Rattle.std.specs.List.{count_by}
use Rattle.std.proofs.lemmas.List.Sums.{sum_by-cons}
use Rattle.text.proofs.Chosen.{yes, no}
use Rattle.text.specs.Parts.{into_first, parted_at}

module _ (p : ℕ) where
  -- the first part
  abbrev pub first : List ℕ → List ℕ
  first l = get_or (parted_at p l) 0 []

  into-first : (b : ℕ) (fs : List (List ℕ)) → 0 < length fs → get_or (into_first b fs) 0 [] ≡ b ∷ get_or fs 0 []
  unfolding into_first
  into-first b [] h = absurd (omega arith)
  into-first b (f ∷ fs) h = refl

  into-later : (b : ℕ) (fs : List (List ℕ)) (i : ℕ) → get_or (into_first b fs) (suc i) [] ≡ get_or fs (suc i) []
  unfolding into_first
  into-later b [] i = refl
  into-later b (f ∷ fs) i = refl

  pub into-length : (b : ℕ) (fs : List (List ℕ)) → length (into_first b fs) ≡ length fs
  unfolding into_first
  into-length b [] = refl
  into-length b (f ∷ fs) = refl

  pub parted-here : (b : ℕ) (l : List ℕ) → eqb b p ≡ true → parted_at p (b ∷ l) ≡ [] ∷ parted_at p l
  unfolding parted_at
  parted-here b l e = simp (e, yes)

  pub parted-on : (b : ℕ) (l : List ℕ) → eqb b p ≡ false → parted_at p (b ∷ l) ≡ into_first b (parted_at p l)
  unfolding parted_at
  parted-on b l e = simp (e, no)

  pub parted-end : parted_at p [] ≡ [] ∷ []
  unfolding parted_at
  parted-end = refl

  pub some : (l : List ℕ) → 0 < length (parted_at p l)
  some [] = rw parted-end (omega arith)
  some (b ∷ l) = by (eqb b p) refl (some l)
    where
      by : (t : Bool) → eqb b p ≡ t → 0 < length (parted_at p l) → 0 < length (parted_at p (b ∷ l))
      by true e h = rw (parted-here b l e) (omega arith)
      by false e h = rw (parted-on b l e, into-length b (parted_at p l)) h

  first_byte : (b : ℕ) (l : List ℕ) → eqb b p ≡ false → first (b ∷ l) ≡ b ∷ first l
  first_byte b l e = rw (parted-on b l e) (into-first b (parted_at p l) (some l))

  first-tab : (b : ℕ) (l : List ℕ) → eqb b p ≡ true → first (b ∷ l) ≡ []
  first-tab b l e = rw (parted-here b l e)

  first-take : (l : List ℕ) → take (length (first l)) l ≡ first l
  first-take [] = rw parted-end
  first-take (b ∷ l) = by (eqb b p) refl (first-take l)
    where
      by : (t : Bool) → eqb b p ≡ t → take (length (first l)) l ≡ first l → take (length (first (b ∷ l))) (b ∷ l) ≡ first (b ∷ l)
      by true e h = rw (first-tab b l e)
      by false e h = rw (first_byte b l e) (ap (λ (x : List ℕ). b ∷ x) h)

  first-le : (l : List ℕ) → length (first l) ≤ length l
  first-le [] = rw parted-end (omega arith)
  first-le (b ∷ l) = by (eqb b p) refl (first-le l)
    where
      by : (t : Bool) → eqb b p ≡ t → length (first l) ≤ length l → length (first (b ∷ l)) ≤ length (b ∷ l)
      by true e h = rw (first-tab b l e) (omega arith)
      by false e h = rw (first_byte b l e) (omega arith)

  -- past the first field's tab
  later : (l : List ℕ) (j : ℕ) → length (first l) < length l
      → get_or (parted_at p l) (suc j) [] ≡ get_or (parted_at p (drop (suc (length (first l))) l)) j []
  later [] j h = absurd (omega arith)
  later (b ∷ l) j h = by (eqb b p) refl (later l j)
    where
      by : (t : Bool) → eqb b p ≡ t
          → (length (first l) < length l → get_or (parted_at p l) (suc j) [] ≡ get_or (parted_at p (drop (suc (length (first l))) l)) j [])
          → get_or (parted_at p (b ∷ l)) (suc j) [] ≡ get_or (parted_at p (drop (suc (length (first (b ∷ l)))) (b ∷ l))) j []
      by true e r = rw (first-tab b l e, parted-here b l e)
      by false e r =
          let k : length (first l) < length l = omega (arith, ap length (first_byte b l e)) in
          rw (first_byte b l e, parted-on b l e, into-later b (parted_at p l) j) (r k)

  -- a line that is one field
  none : (l : List ℕ) (j : ℕ) → length l ≤ length (first l) → get_or (parted_at p l) (suc j) [] ≡ []
  none [] j h = rw parted-end
  none (b ∷ l) j h = by (eqb b p) refl (none l j)
    where
      by : (t : Bool) → eqb b p ≡ t → (length l ≤ length (first l) → get_or (parted_at p l) (suc j) [] ≡ []) → get_or (parted_at p (b ∷ l)) (suc j) [] ≡ []
      by true e r = absurd (omega (arith, ap length (first-tab b l e)))
      by false e r =
          let k : length l ≤ length (first l) = omega (arith, ap length (first_byte b l e)) in
          rw (parted-on b l e, into-later b (parted_at p l) j) (r k)

  pub end-tab : (s : List ℕ) (i : ℕ) → i < length s → get_or s i 0 ≡ p → length (first (drop i s)) ≡ 0
  end-tab s i h e = rw (drop-cons s i 0 h, first-tab (get_or s i 0) (drop (suc i) s) (eq-eqb _ _ e))

  pub end-byte : (s : List ℕ) (i : ℕ) → i < length s → (get_or s i 0 ≡ p → ⊥) → length (first (drop i s)) ≡ suc (length (first (drop (i + 1) s)))
  end-byte s i h e = rw (add-one i, drop-cons s i 0 h, first_byte (get_or s i 0) (drop (suc i) s) (ne_eqb _ _ e))

  pub end-end : (s : List ℕ) (i : ℕ) → length s ≤ i → length (first (drop i s)) ≡ 0
  end-end s i h = rw (drop_of_length-le s h, parted-end)

  pub end-within : (s : List ℕ) (a : ℕ) → a ≤ length s → a + length (first (drop a s)) ≤ length s
  end-within s a h = omega (arith, first-le (drop a s), length-drop a s)

  pub field-none : (s : List ℕ) (a i k e : ℕ) → k < i → a ≤ length s → e ≡ a + length (first (drop a s)) → length s ≤ e
      → get_or (parted_at p (drop a s)) (i - k) [] ≡ []
  field-none s a i k e h l q m =
      let n : i - k ≡ suc (i - (k + 1)) = omega arith in
      rw n (none (drop a s) (i - (k + 1)) (rw (length-drop a s) (omega arith)))

  pub field_next : (s : List ℕ) (a i k e : ℕ) → k < i → a ≤ length s → e ≡ a + length (first (drop a s)) → e < length s
      → get_or (parted_at p (drop a s)) (i - k) [] ≡ get_or (parted_at p (drop (e + 1) s)) (i - (k + 1)) []
  field_next s a i k e h l q m =
      let n : i - k ≡ suc (i - (k + 1)) = omega arith in
      let o : a + suc (length (first (drop a s))) ≡ e + 1 = omega arith in
      rw n (later (drop a s) (i - (k + 1)) (rw (length-drop a s) (omega arith))
      ∙ ap (λ (x : List ℕ). get_or (parted_at p x) (i - (k + 1)) []) (drop-drop (suc (length (first (drop a s)))) a s ∙ ap (λ (x : ℕ). drop x s) o))

  pub field_is : (s : List ℕ) (a i k e : ℕ) → i ≤ k → e ≡ a + length (first (drop a s))
      → get_or (parted_at p (drop a s)) (i - k) [] ≡ take (e - a) (drop a s)
  field_is s a i k e h q =
      let n : i - k ≡ 0 = omega arith in
      let o : e - a ≡ length (first (drop a s)) = omega arith in
      rw (n, o) (sym (first-take (drop a s)))

  -- as many as there are, and one
  pub count-parts : (s : List ℕ) → count_by (λ b. eqb b p) s + 1 ≡ length (parted_at p s)
  count-parts [] = rw parted-end
  count-parts (b ∷ s) = by (eqb b p) refl (count-parts s)
    where
      first-counted : count_by (λ b. eqb b p) (b ∷ s) ≡ cond {A = ℕ} (eqb b p) 1 0 + count_by (λ b. eqb b p) s
      first-counted = sum_by-cons (λ b. cond {A = ℕ} (eqb b p) 1 0) b s

      by : (t : Bool) → eqb b p ≡ t → count_by (λ b. eqb b p) s + 1 ≡ length (parted_at p s) → count_by (λ b. eqb b p) (b ∷ s) + 1 ≡ length (parted_at p (b ∷ s))
      by true e h =
          let k : cond {A = ℕ} (eqb b p) 1 0 ≡ 1 = simp e in
          rw (parted-here b s e) (omega (arith, first-counted, k, h))
      by false e h =
          let k : cond {A = ℕ} (eqb b p) 1 0 ≡ 0 = simp e in
          rw (parted-on b s e, into-length b (parted_at p s)) (omega (arith, first-counted, k, h))

  pub field-start : (s : List ℕ) (i : ℕ) → get_or (parted_at p s) i [] ≡ get_or (parted_at p (drop 0 s)) (i - 0) []
  field-start s i = let e : i ≡ i - 0 = omega arith in ap (λ (n : ℕ). get_or (parted_at p s) n []) e
