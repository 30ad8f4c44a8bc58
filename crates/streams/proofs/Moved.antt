-- A read or a write that says how many bytes it moved moved no more than were lent to it. Assumes nothing.
use mathlib.Core.Path.{◌≡◌, subst}
use mathlib.Core.List.{List}
use Prim.Native.Nat.{ℕ, ◌≤◌}
use lib.ListN.{length}
use Rattle.io.specs.Counts.{IsPrefixLen}
use Rattle.streams.specs.Moves.{Reads, Takes}
use Rattle.streams.specs.declared.Got.{Got}
use Rattle.streams.specs.declared.Got.TheVariants as got
use Rattle.streams.specs.declared.Took.{Took}
use Rattle.streams.specs.declared.Took.TheVariants as took

pub brought : (buf : List ℕ) {g : Got} {n : ℕ} → g ≡ got.Bytes n → Reads g buf → IsPrefixLen n buf
brought buf e h = subst (λ (g : Got). Reads g buf) e h

pub taken : (bytes : List ℕ) {t : Took} {n : ℕ} → t ≡ took.Bytes n → Takes t bytes → n ≤ length bytes
taken bytes e h = subst (λ (t : Took). Takes t bytes) e h
