-- Bytes parted at a byte: a line at its tabs, a job at its newlines. Assumes nothing.
use Rattle.std.specs.Prelude.{ℕ, List, [], ◌∷◌, ◌==◌}
use Rattle.floats.specs.Pick.{pick}

-- b before the first part's bytes
unfoldable pub into_first : ℕ → List (List ℕ) → List (List ℕ)
into_first b [] = []
into_first b (f ∷ fs) = (b ∷ f) ∷ fs

-- the parts between the bytes p: one more than there are
unfoldable pub parted_at : ℕ → List ℕ → List (List ℕ)
parted_at p [] = [] ∷ []
parted_at p (b ∷ s) = pick (b == p) ([] ∷ parted_at p s) (into_first b (parted_at p s))
