-- What `left_of` promises, as a chunk and the decision take it. Assumes nothing.
use Rattle.std.specs.Prelude.{Err, Ok, Result, is_ok}
use Prim.Native.Nat.{ℕ, ◌≤◌}
use Rattle.refusals.specs.Number.{paper_of}
use native.Mathlib.Omega.{arith}
use mathlib.Core.Path.{◌≡◌, refl, sym, ap, ◌∙◌}
use mathlib.Core.Bool.{Bool, true, false}
use mathlib.Core.List.{List, []}
use lib.ListN.{length}
use lib.Ieee.{Float}
use Rattle.refusals.specs.declared.Refusal.{Refusal}
use Rattle.refusals.specs.Limits.{piece_limit}
use Rattle.refusals.specs.Paper.{Reason, answers, refuses, only, demand-true, demand-false}
use Rattle.stock.proofs.Count.{same_answer, no_answer}
use Rattle.rings.specs.declared.Ring.{Ring}
use Rattle.rings.specs.Ring.{kept, in_hand, left}
use Rattle.rings.specs.Store.{rings_of, store_as}
use Rattle.rings.specs.Remove.{count_of, store_after, leaves, LeavesOf}
use Rattle.refusals.specs.Paper.{onward}
use Rattle.rings.proofs.Flat.{rings-stored, length-stored}
use Rattle.rings.proofs.InHand.{kept-few, in-hand-few}
use Rattle.side_by_side.specs.Compared.{ring_texts, pieces_text}

pub leaves-yes : (ks : List Ring) (q : Ring) → in_hand piece_limit (kept q) ks ≡ true → leaves ks q ≡ answers (left ks q)
unfolding leaves
leaves-yes ks q e = demand-true (in_hand piece_limit (kept q) ks) 11 (answers (left ks q)) e

pub leaves-no : (ks : List Ring) (q : Ring) → in_hand piece_limit (kept q) ks ≡ false → leaves ks q ≡ refuses (only 11)
unfolding leaves
leaves-no ks q e = demand-false (in_hand piece_limit (kept q) ks) 11 (answers (left ks q)) e

pub few-left : (ks : List Ring) (q : Ring) → in_hand piece_limit (kept q) ks ≡ true → length (left ks q) ≤ 256
unfolding left
few-left ks q e = in-hand-few piece_limit (kept q) ks (let k = kept-few q in omega arith) e

count-refused : (x : Reason) → count_of (refuses x) ≡ refuses x
unfolding count_of onward
count-refused x = refl

count-answered : (l : List Ring) → count_of (answers l) ≡ answers (length l)
unfolding count_of onward
count-answered l = refl

module _ (ks : List Ring) (q : Ring) (ys zs : List Float) where
  pub pieces-in-hand : (r : Result ℕ Refusal) (n : ℕ) → r ≡ Ok n → LeavesOf ys (leaves ks q) r zs → in_hand piece_limit (kept q) ks ≡ true
  pieces-in-hand r n e w = go (in_hand piece_limit (kept q) ks) refl
    where
      go : (t : Bool) → in_hand piece_limit (kept q) ks ≡ t → in_hand piece_limit (kept q) ks ≡ true
      go true h = h
      go false h = absurd (no_answer _ _ (sym (ap paper_of (sym e) ∙ w.answer ∙ ap count_of (leaves-no ks q h) ∙ count-refused (only 11))))

  pub refused-in-hand : (r : Result ℕ Refusal) (c : Refusal) → r ≡ Err c → LeavesOf ys (leaves ks q) r zs → in_hand piece_limit (kept q) ks ≡ false
  refused-in-hand r c e w = go (in_hand piece_limit (kept q) ks) refl
    where
      go : (t : Bool) → in_hand piece_limit (kept q) ks ≡ t → in_hand piece_limit (kept q) ks ≡ false
      go true h = absurd (no_answer _ _ (ap paper_of (sym e) ∙ w.answer ∙ ap count_of (leaves-yes ks q h) ∙ count-answered (left ks q)))
      go false h = h

  pub in-hand-is : (r : Result ℕ Refusal) → LeavesOf ys (leaves ks q) r zs → is_ok r ≡ in_hand piece_limit (kept q) ks
  in-hand-is (Ok n) w = sym (pieces-in-hand (Ok n) n refl w)
  in-hand-is (Err c) w = sym (refused-in-hand (Err c) c refl w)

  -- pieces that are handed back
  pub record Held (n : ℕ) : Type 0 where
    pub few : n ≤ 256
    pub room : length ys ≡ 1024 → length zs ≡ 1024
    pub text : ring_texts (rings_of n zs) ≡ pieces_text (leaves ks q)

  pub pieces-held : (r : Result ℕ Refusal) (n : ℕ) → r ≡ Ok n → LeavesOf ys (leaves ks q) r zs → Held n
  pieces-held r n e w =
      let h = pieces-in-hand r n e w in
      let y = leaves-yes ks q h in
      let f = few-left ks q h in
      let m : n ≡ length (left ks q) = same_answer (ap paper_of (sym e) ∙ w.answer ∙ ap count_of y ∙ count-answered (left ks q)) in
      let s : zs ≡ store_as ys (left ks q) = w.store ∙ ap (store_after ys) y in
      record {
        few = omega arith;
        room = λ k. ap length s ∙ length-stored ys (left ks q) (omega arith) ∙ k;
        text = ap ring_texts (ap (λ (x : ℕ). rings_of x zs) m ∙ ap (rings_of (length (left ks q))) s ∙ rings-stored ys (left ks q)) ∙ sym (ap pieces_text y);
      }

  pub refused-text : (r : Result ℕ Refusal) (c : Refusal) → r ≡ Err c → LeavesOf ys (leaves ks q) r zs → [] ≡ pieces_text (leaves ks q)
  refused-text r c e w = sym (ap pieces_text (leaves-no ks q (refused-in-hand r c e w)))
