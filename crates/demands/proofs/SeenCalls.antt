-- What an answer of `envelope_at` says of the bins that are looked at (Req 05): the laws of crate `queries`, `proofs/Sights`, said of the rule that the call promises. Of any stock and any height. Assumes nothing.
use Rattle.std.specs.Prelude.{Option, None, Some}
use mathlib.Core.Path.{◌≡◌, sym, ap, ◌∙◌}
use mathlib.Core.Bool.{true, false}
use mathlib.Core.List.{List}
use mathlib.Core.Logic.{◌⊎◌, inl, inr}
use Prim.Native.Nat.{ℕ, ◌+◌, ◌-◌, ◌<◌}
use native.Mathlib.Omega.{arith}
use lib.Dec.{T}
use lib.Ieee.{Float, le}
use Rattle.refusals.specs.Paper.{answers}
use Rattle.floats.specs.Numbers.{clean_of}
use Rattle.stock.specs.declared.TurnStockSpec.{TurnStockSpec}
use Rattle.stock.specs.Spec.{clean_spec}
use Rattle.stock.specs.Bin.{bin_of}
use Rattle.stock.specs.Cell.{cell_at, stock_of}
use Rattle.stock.proofs.Count.{same_answer}
use Rattle.queries.specs.declared.Band.{Band}
use Rattle.queries.specs.Material.{most_of}
use Rattle.queries.specs.Envelope.{in_range, bin_at, holds_z, first_at, shown_of, seen_at, seen_once, envelope_at}
use Rattle.queries.specs.Looked.{Holds, Nested, Most}
use Rattle.queries.proofs.Envelopes.{at-clean}
use Rattle.queries.proofs.Looks.{case, nothing, found}
use Rattle.queries.proofs.Sights.{looked, BandFits, seen_most, seen_none, none_seen, seen_more, seen-none-once, seen_same, seen-edge, seen-band}

module _ (spec : TurnStockSpec) (cs : List Float) (n : ℕ) (e : stock_of spec cs ≡ answers n) (z : Float) where
  -- the rule reads every number without -0.0
  is_seen : (o : Option Band) → envelope_at spec cs z ≡ answers o → seen_at (clean_spec spec) n cs (clean_of z) ≡ o
  is_seen o f = same_answer (sym (at-clean spec cs z n e) ∙ f)

  is-answered : (o : Option Band) → seen_at (clean_spec spec) n cs (clean_of z) ≡ o → envelope_at spec cs z ≡ answers o
  is-answered o f = at-clean spec cs z n e ∙ ap answers f

  -- ---- exactly the most of the bins that are looked at

  -- AN ANSWER IS ATTAINED AND BOUNDS EVERY BIN: the height lies in the stock, some bin that is looked at has its bore, some has its outer radius, and each with material lies within it
  pub envelope-most : (b : Band) → envelope_at spec cs z ≡ answers (Some b) → let s = clean_spec spec in let x = clean_of z in (in_range s x ≡ true) × Most cs (first_at s n x) (looked s n x) b
  envelope-most b f = seen_most (clean_spec spec) n cs (clean_of z) b (is_seen (Some b) f)

  -- NOTHING IS ANSWERED within the stock only where none of them holds material
  pub envelope-none : envelope_at spec cs z ≡ answers None → let s = clean_spec spec in let x = clean_of z in in_range s x ≡ true → (i : ℕ) (c : Band) → Holds cs (first_at s n x) (looked s n x) i c → ⊥
  envelope-none f = seen_none (clean_spec spec) n cs (clean_of z) (is_seen None f)

  -- and where none does, and outside, nothing is
  pub none-envelope : let s = clean_spec spec in let x = clean_of z in (in_range s x ≡ true → (i : ℕ) (c : Band) → Holds cs (first_at s n x) (looked s n x) i c → ⊥) → envelope_at spec cs z ≡ answers None
  none-envelope h = is-answered None (none_seen (clean_spec spec) n cs (clean_of z) h)

  -- a bin with material that is looked at lies within the answer
  pub bin-within : let s = clean_spec spec in let x = clean_of z in in_range s x ≡ true → (i : ℕ) (c : Band) → Holds cs (first_at s n x) (looked s n x) i c → (b : Band) × (envelope_at spec cs z ≡ answers (Some b)) × Nested c b
  bin-within t i c h = elim (case (seen_at (clean_spec spec) n cs (clean_of z))) [
    | nothing p ↦ absurd (seen_none (clean_spec spec) n cs (clean_of z) p t i c h)
    | found b p ↦ (b, is-answered (Some b) p, (seen_most (clean_spec spec) n cs (clean_of z) b p).1.within i c h)
  ]

  -- A BAND OF THE STOCK: its outer radius above its bore, both within the spec's, neither -0.0
  pub envelope-band : (b : Band) → envelope_at spec cs z ≡ answers (Some b) → BandFits (clean_spec spec) b
  envelope-band b f = seen-band spec n cs e (clean_of z) b (is_seen (Some b) f)

  -- ---- beside 01's rule, the bin of z alone

  -- NEVER LESS than 01's rule answers
  pub envelope-more : (c : Band) → seen_once (clean_spec spec) n cs (clean_of z) ≡ Some c → (b : Band) × (envelope_at spec cs z ≡ answers (Some b)) × Nested c b
  envelope-more c f =
      let r = seen_more (clean_spec spec) n cs (clean_of z) c f in
      (r.0, is-answered (Some r.0) r.1, r.2)

  pub envelope-none-once : envelope_at spec cs z ≡ answers None → seen_once (clean_spec spec) n cs (clean_of z) ≡ None
  envelope-none-once f = seen-none-once (clean_spec spec) n cs (clean_of z) (is_seen None f)

  -- TO THE BIT 01'S ANSWER where neither neighbour holds z
  pub envelope-same : let s = clean_spec spec in let x = clean_of z in (0 < bin_at s n x → holds_z s (bin_at s n x - 1) x ≡ false) → (bin_at s n x + 1 < n → holds_z s (bin_at s n x + 1) x ≡ false)
      → envelope_at spec cs z ≡ answers (seen_once s n cs x)
  envelope-same p q = is-answered (seen_once (clean_spec spec) n cs (clean_of z)) (seen_same (clean_spec spec) n cs (clean_of z) p q)

  -- ---- on the edge between two bins

  -- BOTH BINS OF AN EDGE COUNT: where z is the end of bin i - 1 and the start of bin i, neither turned about, and the bin of z is one of the two, the material of each lies within the answer
  pub envelope-edge : let s = clean_spec spec in let x = clean_of z in in_range s x ≡ true → (i : ℕ) → 0 < i → i < n → x ≡ (bin_of s i).za → x ≡ (bin_of s (i - 1)).zb → T (le (bin_of s (i - 1)).za (bin_of s (i - 1)).zb)
      → T (le (bin_of s i).za (bin_of s i).zb) → (bin_at s n x ≡ i) ⊎ (bin_at s n x ≡ i - 1) → (j : ℕ) → (j ≡ i - 1) ⊎ (j ≡ i) → (c : Band) → shown_of (most_of (cell_at cs j)) ≡ Some c
      → (b : Band) × (envelope_at spec cs z ≡ answers (Some b)) × Nested c b
  envelope-edge t i p q a d f g h j (inl w) c m =
      let r = seen-edge (clean_spec spec) n cs (clean_of z) i p q a d f g h in
      bin-within t j c (record { from = omega (arith, r.0, w); to = omega (arith, r.0, r.1, w, p); shown = m })
  envelope-edge t i p q a d f g h j (inr w) c m =
      let r = seen-edge (clean_spec spec) n cs (clean_of z) i p q a d f g h in
      bin-within t j c (record { from = omega (arith, r.0, w, p); to = omega (arith, r.0, r.1, w, p); shown = m })
