-- One bin more, one segment more: a pass over the bins leaves in the rows what the rule says of a nose. Assumes nothing.
use mathlib.Core.Path.{◌≡◌, refl, sym, ap, ◌∙◌, subst}
use mathlib.Core.Bool.{Bool, true, false}
use mathlib.Core.List.{List}
use Prim.Native.Nat.{ℕ, ◌+◌, ◌≤◌, ◌<◌, min, max}
use native.Mathlib.Decide.{dec_le}
use native.Mathlib.Omega.{arith}
use borrow.Author.Tests.{not-true, not-false}
use lib.ListN.{length}
use lib.Ieee.{Float}
use Rattle.floats.specs.Pick.{pick}
use Rattle.floats.specs.Numbers.{clean_of}
use Rattle.stock.specs.declared.TurnStockSpec.{TurnStockSpec}
use Rattle.stock.specs.declared.TurnSide.{TurnSide}
use Rattle.stock.specs.declared.ZRange.{ZRange}
use Rattle.stock.specs.Bin.{bin_of}
use Rattle.reach.specs.declared.Swept.{Swept}
use Rattle.stock.specs.declared.BinRange.{BinRange}
use Rattle.nose.specs.declared.Track.{Track}
use Rattle.nose.specs.Nose.{segment_at, segment_count, nose_to, nose_act}
use Rattle.nose.specs.declared.Sample.{Sample}
use Rattle.nose.specs.Track.{sample_at, step_of, track_of, with_track}
use Rattle.nose.proofs.Tracks.{nose-more, nose-at, track-under, track-over, track-step}
use Rattle.cuts.specs.Rows.{PutRow, passed_of, Split, stepped, Stepped, Passed, no_row, Unfilled, RowFilled, Idle, Says}
use Rattle.cuts.proofs.Crossings.{says_nothing}

-- each row is as long as it was
pub record Even (xs : List Float) (is : List Bool) (ys : List Float) (js : List Bool) : Type 0 where
  pub numbers : length ys ≡ length xs
  pub flags : length js ≡ length is

pub stepped-none : (s : TurnStockSpec) (t : Track) (first : ℕ) (old : ℕ → Swept) → Stepped s t first first old old
stepped-none s t first old = record { inside = λ j a b. absurd (omega arith); under = λ j a. refl; over = λ j a. refl }

-- the next bin, by the samples at its ends
module _ {s : TurnStockSpec} {t : Track} {first i : ℕ} {old new next : ℕ → Swept} where
  more : first ≤ i → Stepped s t first i old new → PutRow new next i (stepped s t i (new i)) → Stepped s t first (i + 1) old next
  more f w u = record {
    inside = λ j a b. go j a (dec_le i j) b;
    under = λ j a. u.others j (λ e. omega arith) ∙ w.under j a;
    over = λ j a. u.others j (λ e. omega arith) ∙ w.over j (omega arith);
  }
    where
      go : (j : ℕ) → first ≤ j → Dec (i ≤ j) → j < i + 1 → next j ≡ stepped s t j (old j)
      go j a (yes p) b =
          let e : j ≡ i = omega arith in
          subst (λ (k : ℕ). next k ≡ stepped s t k (old k)) (sym e) (u.here ∙ ap (stepped s t i) (w.over i (omega arith)))
      go j a (no p) b = u.others j (λ e. p (omega arith)) ∙ w.inside j a (omega arith)

  pub stepped-more : (bin : ZRange) (a b : Sample) → bin ≡ bin_of s i → a ≡ sample_at t bin.za → b ≡ sample_at t bin.zb → first ≤ i → Stepped s t first i old new → PutRow new next i (step_of (new i) t.low t.shy bin a b) → Stepped s t first (i + 1) old next
  stepped-more bin a b eb ea ez f w u = more f w (record { here = u.here ∙ simp (ea, ez, eb); others = u.others })

-- ---- the bins that a segment does not reach
module _ (s : TurnStockSpec) (n : ℕ) (t : Track) (first last : ℕ) (A : Split (passed_of s t.from true true) n first) (B : Split (passed_of s t.to false true) n last) where
  -- a bin before the first, and one from the last on, is one that the rule passes over
  under-skips : (acc : Swept) (j : ℕ) → j < first → with_track acc t (bin_of s j) ≡ acc
  unfolding passed_of pick
  under-skips acc j h = track-over acc t (bin_of s j) (A.below j h)

  over-skips : (acc : Swept) (j : ℕ) → last ≤ j → j < n → with_track acc t (bin_of s j) ≡ acc
  unfolding passed_of pick
  over-skips acc j h l = track-under acc t (bin_of s j) (not-false _ (B.above j h l))

  reached : (acc : Swept) (j : ℕ) → first ≤ j → j < last → j < n → with_track acc t (bin_of s j) ≡ stepped s t j acc
  unfolding passed_of pick
  reached acc j p q l = track-step acc t (bin_of s j) (not-true _ (B.below j q)) (A.above j p l)

  pub none-reached : last ≤ first → (old : ℕ → Swept) → Passed s n t old old
  none-reached h old j l = go (dec_le first j)
    where
      go : Dec (first ≤ j) → old j ≡ with_track (old j) t (bin_of s j)
      go (yes p) = sym (over-skips (old j) j (omega arith) l)
      go (no p) = sym (under-skips (old j) j (omega arith))

  pub all-passed : {old new : ℕ → Swept} → Stepped s t first last old new → Passed s n t old new
  all-passed {old} {new} w j l = go (dec_le first j) (dec_le last j)
    where
      go : Dec (first ≤ j) → Dec (last ≤ j) → new j ≡ with_track (old j) t (bin_of s j)
      go (no p) d = w.under j (omega arith) ∙ sym (under-skips (old j) j (omega arith))
      go (yes p) (yes q) = w.over j q ∙ sym (over-skips (old j) j q l)
      go (yes p) (no q) = w.inside j p (omega arith) ∙ sym (reached (old j) j p (omega arith) l)

-- ---- one segment more
module _ (s : TurnStockSpec) (n : ℕ) (side : TurnSide) (rn : Float) (xs : List Float) where
  pub filled_none : (old : ℕ → Swept) → Unfilled 0 n old → RowFilled s n side rn xs 0 old
  unfolding nose_to
  filled_none old h j l = h j (omega arith) l

  pub filled_more : (k : ℕ) (t : Track) (old new : ℕ → Swept) → t ≡ track_of (segment_at xs k side) rn → RowFilled s n side rn xs k old → Passed s n t old new → RowFilled s n side rn xs (k + 1) new
  filled_more k t old new e f p j h = p j h ∙ (simp (e, f j h)) ∙ sym (nose-more side rn xs (bin_of s j) k)

-- ---- the bins that were visited
module _ {n : ℕ} {old new : ℕ → Swept} where
  -- one segment more
  pub idle-more : {s : TurnStockSpec} {t : Track} {first last : ℕ} (seen bins : BinRange) → last ≤ n → Idle n seen old → Stepped s t first last old new → bins.from ≡ min seen.from first → bins.to ≡ max seen.to last → Idle n bins new
  idle-more {s} {t} {first} {last} seen bins h w u ef el =
      let sw = w.within in
      record {
        within = omega (arith, el, sw);
        under = λ j a l. u.under j (omega (arith, ef)) ∙ w.under j (omega (arith, ef)) l;
        over = λ j a l. u.over j (omega (arith, el)) ∙ w.over j (omega (arith, el)) l;
      }

-- before the first segment
pub idle-none : (n : ℕ) (old : ℕ → Swept) → Unfilled 0 n old → Idle n (record { from = n; to = 0 }) old
idle-none n old h = record { within = omega arith; under = λ j a l. h j (omega arith) l; over = λ j a l. h j (omega arith) l }

-- none were
pub idle-all : {n : ℕ} {new : ℕ → Swept} (seen : BinRange) → Idle n seen new → seen.to < seen.from → Idle n (record { from = 0; to = 0 }) new
idle-all {n} {new} seen w h = record { within = omega arith; under = λ j a l. absurd (omega arith); over = λ j a l. go j l (dec_le seen.from j) }
  where
    go : (j : ℕ) → j < n → Dec (seen.from ≤ j) → new j ≡ no_row
    go j l (yes p) = w.over j (omega arith) l
    go j l (no p) = w.under j (omega arith) l

-- over all segments the rows say what the nose reaches
pub says-nose : (s : TurnStockSpec) (n : ℕ) (side : TurnSide) (rn : Float) (xs : List Float) (new : ℕ → Swept) (bins : BinRange) → RowFilled s n side (clean_of rn) xs (segment_count xs) new → Idle n bins new → bins.from ≤ bins.to → Says (nose_act s side rn xs) n bins.from bins.to new
unfolding nose_act
says-nose s n side rn xs new bins f w o =
    let h = w.within in
    record {
      ordered = o;
      within = h;
      under = λ j a l. sym (nose-at s side rn xs j (new j) (f j l)) ∙ says_nothing side (new j) (w.under j a l);
      inside = λ j a b. nose-at s side rn xs j (new j) (f j (omega arith));
      over = λ j a l. sym (nose-at s side rn xs j (new j) (f j l)) ∙ says_nothing side (new j) (w.over j a l);
    }
