-- Whether an insert touches, said of the calls: what is answered is finite and not -0.0. Assumes nothing.
use Rattle.std.specs.Prelude.{Ok, Some}
use mathlib.Core.Path.{◌≡◌, sym}
use mathlib.Core.List.{List}
use Prim.Native.Nat.{ℕ}
use lib.Dec.{T}
use lib.ListN.{get_or}
use lib.Ieee.{Float, nan, binary64, fits}
use Rattle.refusals.specs.Number.{paper_of}
use Rattle.envelope.proofs.Finite.{Sized}
use Rattle.insert.specs.declared.Which.{Which}
use Rattle.insert.specs.Insert.{touched, eroded_of}
use Rattle.insert.proofs.Finite.{touch-finite, eroded-finite}

-- every list that a call is lent, and every number, is one of values of the format
module _ (ps : List Float) (held : (i : ℕ) → T (fits binary64 (get_or ps i nan))) where
  -- excess (`Greatest`) and penetration (`Least`): at most 2 ^ 24 in size
  pub touch-sized : (w : Which) (gs : List Float) (shaped : (i : ℕ) → T (fits binary64 (get_or gs i nan))) (t : Float) → T (fits binary64 t) → (x : Float) → paper_of (Ok (Some x)) ≡ touched w ps gs t → Sized 24 x
  touch-sized w gs shaped t ft x e = touch-finite ps gs held shaped w t ft x (sym e)

  -- eroded: at most 2 ^ 23
  pub eroded-sized : (u t : Float) → T (fits binary64 u) → T (fits binary64 t) → (x : Float) → paper_of (Ok (Some x)) ≡ eroded_of ps u t → Sized 23 x
  eroded-sized u t fu ft x e = eroded-finite ps held u t fu ft x (sym e)
