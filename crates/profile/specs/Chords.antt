-- The chords of arcs, by halving. Each operation of f64 stands in its order. Assumes nothing.
use Rattle.std.specs.Prelude.{◌≡◌, List, [], ◌∷◌, ◌++◌, ℕ, zero, suc, ◌+◌, ◌-◌, ◌*◌, ◌/◌, leb, length, set, Float, Option, None, Some, Err, Ok, Result}
use Rattle.std.specs.Float.{nan, binary64}
use Rattle.std.specs.Float.Ieee.{of_bits, neg, le}
use Rattle.refusals.specs.declared.Refusal.{Refusal}
use Rattle.refusals.specs.Paper.{Paper, answers, refuses, only, demand}
use Rattle.refusals.specs.Number.{reason_of, paper_of}
use Rattle.refusals.specs.Lent.{Lent, over}
use Rattle.floats.specs.Pick.{pick}
use Rattle.floats.specs.Numbers.{◌+₆₄◌, ◌-₆₄◌, ◌*₆₄◌, ◌/₆₄◌, one64, size_of, clean_of}
use Rattle.numbers.specs.Root.{root_of}
use Rattle.numbers.specs.Length.{length_of}
use Rattle.profile.specs.declared.Point.{Point}
use Rattle.profile.specs.Profile.{point_at, bulge_at, point_count, profile_good}

-- 2
abbrev pub two64 : Float
two64 = of_bits binary64 0x4000000000000000

-- ---- an arc from a to b
-- the bulge's size times half the chord's length; no number where there is no length, which does not arise
abbrev pub sag_by : Float → Paper Float → Float
sag_by bulge (answers l) = size_of (clean_of bulge) *₆₄ (l /₆₄ two64)
sag_by bulge (refuses n) = nan

unfoldable pub sag_of : Point → Point → Float → Float
sag_of a b bulge = sag_by bulge (length_of (b.z -₆₄ a.z) (b.r -₆₄ a.r))

-- the arc's middle: the chord's, moved across it by the sag
unfoldable pub middle_of : Point → Point → Float → Point
middle_of a b bulge =
    let dz = b.z -₆₄ a.z in
    let dr = b.r -₆₄ a.r in
    let h = bulge /₆₄ two64 in
    record {
      r = clean_of ((a.r +₆₄ b.r) /₆₄ two64 +₆₄ h *₆₄ neg dz);
      z = clean_of ((a.z +₆₄ b.z) /₆₄ two64 +₆₄ h *₆₄ dr);
    }

-- the bulge of either half; no number where there is no root, which does not arise
abbrev pub half_by : Float → Paper Float → Float
half_by bulge (answers x) = bulge /₆₄ (one64 +₆₄ x)
half_by bulge (refuses n) = nan

unfoldable pub half_of : Float → Float
half_of bulge = half_by bulge (root_of (one64 +₆₄ bulge *₆₄ bulge))

-- ---- the chords
pub record Chord : Type 0 where
  pub a : Point
  pub b : Point
  pub sag : Float

-- the one chord of an arc
abbrev pub one : Point → Point → Float → List Chord
one a b bulge = record { a = a; b = b; sag = sag_of a b bulge } ∷ []

-- the chords of two arcs, none if either has none
unfoldable pub joined : Option (List Chord) → Option (List Chord) → Option (List Chord)
joined None ys = None
joined (Some xs) None = None
joined (Some xs) (Some ys) = Some (xs ++ ys)

-- the chord where its sag is at most the tolerance; else those of both halves, while there are levels left
unfoldable pub chords_of : Point → Point → Float → Float → ℕ → Option (List Chord)
chords_of a b bulge tol zero = pick (le (sag_of a b bulge) tol) (Some (one a b bulge)) None
chords_of a b bulge tol (suc l) =
    pick (le (sag_of a b bulge) tol) (Some (one a b bulge))
    (joined (chords_of a (middle_of a b bulge) (half_of bulge) tol l) (chords_of (middle_of a b bulge) b (half_of bulge) tol l))

-- those of the first k segments of a profile, ten halvings each
unfoldable pub chords_to : List Float → Float → ℕ → Option (List Chord)
chords_to xs tol zero = Some []
chords_to xs tol (suc k) = joined (chords_to xs tol k) (chords_of (point_at xs k) (point_at xs (k + 1)) (bulge_at xs k) tol 10)

-- those of a profile
unfoldable pub profile_chords : List Float → Float → Option (List Chord)
profile_chords xs tol = chords_to xs (clean_of tol) (point_count xs - 1)

-- ---- as they are lent, five numbers each: radius and z of a, those of b, the sag
unfoldable pub flat_of : List Chord → List Float
flat_of [] = []
flat_of (c ∷ l) = c.a.r ∷ c.a.z ∷ c.b.r ∷ c.b.z ∷ c.sag ∷ flat_of l

-- ---- what is answered
-- the chords, if there is room for them; else 18
unfoldable pub room_for : ℕ → Option (List Chord) → Paper (List Chord)
room_for room None = refuses (only 18)
room_for room (Some l) = demand (leb (length l) room) 18 (answers l)

-- 17, else 18, else the chords
unfoldable pub segments_of : List Float → Float → ℕ → Paper (List Chord)
segments_of xs tol room = demand (profile_good xs tol) 17 (room_for room (profile_chords xs tol))

-- the chords that are written: none on a refusal
unfoldable pub written_of : Paper (List Chord) → List Chord
written_of (answers l) = l
written_of (refuses n) = []

-- how many there are, or the refusal
unfoldable pub count_of : Paper (List Chord) → Paper ℕ
count_of (answers l) = answers (length l)
count_of (refuses n) = refuses n

-- the answer, and the lent numbers with the chords over their beginning
pub record Segmented (xs : List Float) (tol : Float) (r : Result ℕ Refusal) (before after : List Float) : Type 0 where
  pub answer : paper_of r ≡ count_of (segments_of xs tol (length before / 5))
  pub out : after ≡ over (flat_of (written_of (segments_of xs tol (length before / 5)))) before

-- the same of the numbers that are lent to the call
abbrev pub Segments : List Float → Float → (Result ℕ Refusal) → Lent Float → Type 0
Segments xs tol r out = Segmented xs tol r out.entry.now out.exit.now

-- ---- what one pass does. No reader has to believe the rest: `Segmented` follows from it.
unfoldable pub put_chord : List Float → ℕ → Point → Point → Float → List Float
put_chord xs k a b s =
    pick (leb (length xs / 5) k) xs
    (set (set (set (set (set xs (5 * k) a.r) (5 * k + 1) a.z) (5 * k + 2) b.r) (5 * k + 3) b.z) (5 * k + 4) s)

unfoldable pub put_all : List Float → ℕ → List Chord → List Float
put_all xs k [] = xs
put_all xs k (c ∷ l) = put_all (put_chord xs k c.a c.b c.sag) (k + 1) l

-- the place behind the chords, if there is room for them
unfoldable pub placed : ℕ → ℕ → Option (List Chord) → Option ℕ
placed room k None = None
placed room k (Some l) = pick (leb (k + length l) room) (Some (k + length l)) None

-- where there is room, the chords from the place on
pub record Chops (p : Option (List Chord)) (room k : ℕ) (r : Option ℕ) (xs ys : List Float) : Type 0 where
  pub answer : r ≡ placed room k p
  pub out : (n : ℕ) → r ≡ Some n → (l : List Chord) → p ≡ Some l → ys ≡ put_all xs k l

abbrev pub ChopsInto : Option (List Chord) → ℕ → ℕ → (Option ℕ) → Lent Float → Type 0
ChopsInto p room k r out = Chops p room k r out.entry.now out.exit.now
