-- However the input is cut, also with nothing in a part, the job is that of the whole file. Assumes nothing.
use Prim.Native.Nat.{ℕ}
use mathlib.Core.Path.{◌≡◌, sym, ap, ◌∙◌}
use mathlib.Core.Bool.{Bool, true}
use mathlib.Core.List.{List, [], ◌∷◌}
use Rattle.lines.specs.File.{pieces_of, ended, over_pieces, joined}
use Rattle.lines.specs.Hands.{Hand, hand, takes, in_turn}
use Rattle.lines.proofs.Parts.{parts, nothing}
use Rattle.lines.proofs.OneFile.{whole-file}

module _ {A : Type 0} (stopped : A → Bool) (on_line : A → List ℕ → A) (on_long : A → A) (on_end : A → A) where
  -- parts in turn are the whole
  pub in-turn : (ps : List (List ℕ)) (j : Hand A) → in_turn stopped on_line on_long j ps ≡ takes stopped on_line on_long j (joined ps)
  unfolding in_turn joined
  in-turn [] j = sym (nothing stopped on_line on_long j)
  in-turn (p ∷ ps) j = in-turn ps (takes stopped on_line on_long j p) ∙ sym (parts stopped on_line on_long p (joined ps) j)

  -- two ways to cut the same bytes
  pub same_bytes : (ps qs : List (List ℕ)) (j : Hand A) → joined ps ≡ joined qs → in_turn stopped on_line on_long j ps ≡ in_turn stopped on_line on_long j qs
  same_bytes ps qs j e = in-turn ps j ∙ ap (takes stopped on_line on_long j) e ∙ sym (in-turn qs j)

  pub any-cut : ((a : A) → stopped (on_long a) ≡ true) → (ps : List (List ℕ)) (a : A)
      → ended stopped on_long on_end (in_turn stopped on_line on_long (hand a []) ps).job (in_turn stopped on_line on_long (hand a []) ps).held
      ≡ over_pieces stopped on_line on_long on_end a (pieces_of (joined ps))
  any-cut k ps a =
      ap (λ (j : Hand A). ended stopped on_long on_end j.job j.held) (in-turn ps (hand a []))
      ∙ whole-file stopped on_line on_long on_end k (joined ps) a
