-- A step of a contour: its run and its text. Assumes nothing.
use Prim.Native.Nat.{ℕ, ◌-◌, ◌≤◌, ◌<◌}
use native.Mathlib.Omega.{arith}
use mathlib.Core.Path.{◌≡◌, refl, sym, ap₂, ◌∙◌}
use mathlib.Core.List.{List, ◌++◌}
use lib.Ieee.{Float}
use borrow.Author.Tests.{lt-ltb, le-ltb}
use Rattle.floats.specs.Pick.{pick_true, pick-false}
use Rattle.stock.specs.declared.TurnSide.{TurnSide}
use Rattle.stock.specs.declared.TurnStockSpec.{TurnStockSpec}
use Rattle.text.specs.Wrote.{Wrote, WroteLine}
use Rattle.text.proofs.Sets.{and_then, retext}
use Rattle.picture.specs.declared.Look.{Look}
use Rattle.picture.specs.declared.Stretch.{Stretch}
use Rattle.picture.specs.Runs.{RunEnds}
use Rattle.picture.specs.Steps.{long_of, edge_of, far_end, turn_text, along_text, step_text}
use Rattle.picture.proofs.Runs.{run_past, run-before}

module _ (look : Look) (side : TurnSide) (spec : TurnStockSpec) (cs ds : List Float) (s : Stretch) (k : ℕ) {e : ℕ} (run : RunEnds (edge_of look side cs ds s) (long_of s) k e) where
  pub no_text : {l : List ℕ} → e ≤ k → WroteLine l (step_text look side spec cs ds s k e) l 0
  unfolding step_text
  no_text h =
      record {
        wrote = retext (sym (pick-false _ _ _ (le-ltb k (long_of s) (run_past _ k _ e run h)))) (record { text = refl; end = refl });
        within = omega arith;
      }

  pub its-text : {l m o : List ℕ} {a r : ℕ} {x y : Float} → k < e → x ≡ edge_of look side cs ds s k → Wrote l 0 (turn_text side spec s k x) m a → y ≡ far_end side spec s (e - 1) → Wrote m a (along_text y) o r × (r ≤ 128)
      → WroteLine l (step_text look side spec cs ds s k e) o r
  unfolding step_text
  its-text h ex w ey v =
      record {
        wrote = retext
            (ap₂ (λ (u z : Float). turn_text side spec s k u ++ along_text z) ex ey ∙ sym (pick_true _ _ _ (lt-ltb k (long_of s) (run-before _ k _ e run h))))
            (and_then w v.0);
        within = v.1;
      }
