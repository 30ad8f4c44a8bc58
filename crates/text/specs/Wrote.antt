-- What a write leaves: the text from its place on, and the place after it. Assumes nothing.
use Rattle.std.specs.Prelude.{◌≡◌, ℕ, ◌+◌, ◌≤◌, Bool, List, length, nat_le}
use Rattle.std.proofs.lemmas.List.Edits.{sets}
use Rattle.refusals.specs.Lent.{Lent}
use Rattle.floats.specs.Pick.{pick}

-- the text t at i of a buffer, which held l before and holds m after; j is the place after t
pub record Wrote (l : List ℕ) (i : ℕ) (t : List ℕ) (m : List ℕ) (j : ℕ) : Type 0 where
  pub text : m ≡ sets l i t
  pub end : j ≡ i + length t

-- a line is put together in so many bytes
abbrev pub line_room : ℕ
line_room = 128

-- all of t finds room from i on
abbrev pub has_room : ℕ → List ℕ → Bool
has_room i t = nat_le (i + length t) line_room

-- the text t put at i, whole or not at all: where it finds no room the buffer and the place stay
pub record Put (l : List ℕ) (i : ℕ) (t : List ℕ) (m : List ℕ) (j : ℕ) : Type 0 where
  pub text : m ≡ pick (has_room i t) (sets l i t) l
  pub end : j ≡ pick (has_room i t) (i + length t) i

-- a line at the front of a buffer, and its length, for which there is room
pub record WroteLine (l line m : List ℕ) (r : ℕ) : Type 0 where
  pub wrote : Wrote l 0 line m r
  pub within : r ≤ line_room

-- ---- the same of a lent buffer

abbrev pub PutsIn : Lent ℕ → ℕ → List ℕ → ℕ → Type 0
PutsIn out i t r = Put out.entry.now i t out.exit.now r

abbrev pub WritesLine : Lent ℕ → List ℕ → ℕ → Type 0
WritesLine out line r = WroteLine out.entry.now line out.exit.now r
