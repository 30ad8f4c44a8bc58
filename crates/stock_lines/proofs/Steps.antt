-- What the code of a line walks by. Assumes nothing.
use Rattle.std.proofs.Common.{◌≡◌, ℕ, suc, ◌+◌, ◌*◌, ◌<◌, ◌≤◌, Bool, true, false, T, eqb, leb, ◌⊎◌, List, [], ◌∷◌, ◌++◌, length, take, drop, sym, refl, ap, ◌∙◌, subst, inl, inr, arith, drop_of_length-le, drop-drop, eq-eqb, ne_eqb, eqb-true, le-leb, leb-false, leb-true, None, Option, Some}
use lib.Ieee.{Float}
use lib.Seq.{sets-eq, take-append_seam}
use borrow.Author.Tests.{lt-leb}
use Rattle.refusals.specs.Limits.{cell_limit}
use Rattle.floats.specs.Pick.{pick_true, pick-false}
use Rattle.text.specs.Same.{same_bytes}
use Rattle.text.specs.Wrote.{line_room, Wrote, Put, WroteLine}
use Rattle.text.proofs.Sets.{room, and_then, put-wrote}
use Rattle.text.proofs.Spelling.{digits-length, decimal-short}
use Rattle.text.specs.Hex.{field_of}
use Rattle.stock_lines.specs.declared.form.Form.{Form}
use Rattle.stock_lines.specs.First.{CanSay, one, two, three}
use Rattle.stock_lines.specs.Form.{Line, holds, other, with_first, fields_of, few_cells, form_of, Counts, written_form, begins_with, line_of, stock_prefix, cell_prefix, end_text}
use Rattle.stock_lines.proofs.Forms.{Parted, line-parted, line-long}
use Rattle.text.proofs.Compare.{same_self}

-- ---- one field after another

next : (k : ℕ) (s : List ℕ) (at to : ℕ) → to ≡ at + 17 → fields_of (suc k) (drop at s) ≡ with_first (field_of (drop at s)) (fields_of k (drop to s))
unfolding fields_of
next k s at to e = ap (λ (y : List ℕ). with_first (field_of (drop at s)) (fields_of k y)) (drop-drop 17 at s ∙ ap (λ (n : ℕ). drop n s) (sym e))

pub stops : (k : ℕ) (s : List ℕ) (at : ℕ) → field_of (drop at s) ≡ None → fields_of (suc k) (drop at s) ≡ other
unfolding with_first
stops k s at e = next k s at (at + 17) refl ∙ ap (λ (h : Option Float). with_first h (fields_of k (drop (at + 17) s))) e

pub goes : (k : ℕ) (s : List ℕ) (at to : ℕ) (x : Float) → field_of (drop at s) ≡ Some x → to ≡ at + 17 → fields_of k (drop to s) ≡ other → fields_of (suc k) (drop at s) ≡ other
unfolding with_first
goes k s at to x e f r = next k s at to f ∙ ap (λ (h : Option Float). with_first h (fields_of k (drop to s))) e ∙ ap (λ (l : Line). with_first (Some x) l) r

pub gives : (k : ℕ) (s : List ℕ) (at to : ℕ) (x : Float) (xs : List Float)
    → field_of (drop at s) ≡ Some x → to ≡ at + 17 → fields_of k (drop to s) ≡ holds xs → fields_of (suc k) (drop at s) ≡ holds (x ∷ xs)
unfolding with_first
gives k s at to x xs e f r = next k s at to f ∙ ap (λ (h : Option Float). with_first h (fields_of k (drop to s))) e ∙ ap (λ (l : Line). with_first (Some x) l) r

pub ends : (s : List ℕ) (at : ℕ) → length s ≤ at → fields_of 0 (drop at s) ≡ holds []
unfolding fields_of
ends s at h = ap (fields_of 0) (drop_of_length-le s h)

-- ---- the prefix

pub begins-not : (p : List ℕ) (n : ℕ) (s : List ℕ) → (length s ≡ length p + n → ⊥) → false ≡ begins_with p n s
unfolding begins_with
begins-not p n s e = sym (pick-false _ _ _ (ne_eqb _ _ e))

pub begins-same : (p : List ℕ) (n : ℕ) (s : List ℕ) → length s ≡ length p + n → same_bytes (take (length p) s) p ≡ begins_with p n s
unfolding begins_with
begins-same p n s e = sym (pick_true _ _ _ (eq-eqb _ _ e))

pub begins-long : (p : List ℕ) (n : ℕ) (s : List ℕ) → begins_with p n s ≡ true → length p + n ≡ length s
unfolding begins_with
begins-long p n s e = by (eqb (length s) (length p + n)) refl
  where
    by : (t : Bool) → eqb (length s) (length p + n) ≡ t → length p + n ≡ length s
    by true f = sym (eqb-true _ _ f)
    by false f = absurd (subst T (sym (sym (pick-false _ _ _ f) ∙ e)) tt)

pub line-begins : (p : List ℕ) (n k : ℕ) (s : List ℕ) → begins_with p n s ≡ true → line_of p k s ≡ fields_of k (drop (length p) s)
unfolding begins_with line_of
line-begins p n k s e = pick_true _ _ _ (begins-same p n s (sym (begins-long p n s e)) ∙ e)

pub line-begins-not : (p : List ℕ) (n k : ℕ) (s : List ℕ) → n ≡ 17 * k → begins_with p n s ≡ false → line_of p k s ≡ other
line-begins-not p n k s q e = by (line_of p k s) refl
  where
    by : (l : Line) → line_of p k s ≡ l → line_of p k s ≡ other
    by other f = f
    by (holds xs) f =
        let w : Parted p k s xs = line-parted p k s xs f in
        let m : length s ≡ length p + n = line-long p k s xs f ∙ ap (λ (y : ℕ). length p + y) (sym q) in
        let g : true ≡ false = sym (same_self p) ∙ ap (λ (y : List ℕ). same_bytes y p) (sym w.front) ∙ begins-same p n s m ∙ e in
        absurd (subst T g tt)

-- ---- what a form fixes

module _ (k : ℕ) where
  -- up to form 2 an index has four digits
  pub form-few : k < 3 → ◌≡◌ {A = Form} (record { digits = 4; least = 0; most = few_cells; edition = leb 2 k }) (form_of k)
  unfolding form_of
  form-few h =
      let e : leb 3 k ≡ false = lt-leb _ _ h in
      λ j. record { digits = sym (pick-false (leb 3 k) 5 4 e) j; least = sym (pick-false (leb 3 k) (few_cells + 1) 0 e) j; most = sym (pick-false (leb 3 k) 100000 few_cells e) j; edition = leb 2 k }

  -- from form 3 on it has five
  pub form-many : 3 ≤ k → ◌≡◌ {A = Form} (record { digits = 5; least = few_cells + 1; most = 100000; edition = leb 2 k }) (form_of k)
  unfolding form_of
  form-many h =
      let e : leb 3 k ≡ true = le-leb _ _ h in
      λ j. record { digits = sym (pick_true (leb 3 k) 5 4 e) j; least = sym (pick_true (leb 3 k) (few_cells + 1) 0 e) j; most = sym (pick_true (leb 3 k) 100000 few_cells e) j; edition = leb 2 k }

  -- what holds of both
  both-forms : (P : Form → Type 0) → P (record { digits = 4; least = 0; most = few_cells; edition = leb 2 k }) → P (record { digits = 5; least = few_cells + 1; most = 100000; edition = leb 2 k }) → P (form_of k)
  both-forms P u v = by (leb 3 k) refl
    where
      by : (t : Bool) → leb 3 k ≡ t → P (form_of k)
      by true e = subst P (form-many (leb-true _ _ e)) v
      by false e = subst P (form-few (leb-false _ _ e)) u

  -- an index has few digits
  pub few-digits : (form_of k).digits ≤ 5
  few-digits = both-forms (λ (f : Form). f.digits ≤ 5) (omega arith) (omega arith)

  -- cell lines are counted far below 2^64
  pub few-lines : (form_of k).most ≤ 100000
  few-lines = both-forms (λ (f : Form). f.most ≤ 100000) (omega arith) (omega arith)

  -- no form asks for more cell lines than it has
  pub least-most : (form_of k).least ≤ (form_of k).most
  least-most = both-forms (λ (f : Form). f.least ≤ f.most) (omega arith) (omega arith)

  -- nor for more than one over those of four digits
  pub few-least : (form_of k).least ≤ few_cells + 1
  few-least = both-forms (λ (f : Form). f.least ≤ few_cells + 1) (omega arith) (omega arith)

-- ---- the form that is written

pub counts-few : (k n : ℕ) → k < 3 → n ≤ few_cells → Counts k n
counts-few k n h g = record { least = subst (λ (f : Form). f.least ≤ n) (form-few k h) (omega arith); most = subst (λ (f : Form). n ≤ f.most) (form-few k h) g }

pub written-few : (n : ℕ) → n ≤ few_cells → 2 ≡ written_form n
unfolding written_form
written-few n h = sym (pick_true _ _ _ (le-leb _ _ h))

pub written-many : (n : ℕ) → few_cells < n → 3 ≡ written_form n
unfolding written_form
written-many n h = sym (pick-false _ _ _ (lt-leb _ _ h))

module _ (P : ℕ → Type 0) (n : ℕ) where
  -- what holds of form 2 and of form 3 where each is written
  pub written_is : (n ≤ few_cells → P 2) → (few_cells < n → P 3) → P (written_form n)
  written_is u v = by (leb n few_cells) refl
    where
      by : (t : Bool) → leb n few_cells ≡ t → P (written_form n)
      by true e = subst P (written-few n (leb-true _ _ e)) (u (leb-true _ _ e))
      by false e = subst P (written-many n (leb-false _ _ e)) (v (leb-false _ _ e))

-- it has an edition
pub written-edition : (n : ℕ) → (form_of (written_form n)).edition ≡ true
unfolding form_of
written-edition n = written_is (λ (k : ℕ). (form_of k).edition ≡ true) n (λ h. refl) (λ h. refl)

-- and can say any
pub written-says : (n e : ℕ) → e < 4294967296 → CanSay (written_form n) e
written-says n e h = written_is (λ (k : ℕ). CanSay k e) n (λ g. two h) (λ g. three h)

-- each cell of a stock has its line
pub each-cell : (n : ℕ) → n ≤ cell_limit → Counts (written_form n) n
each-cell n h =
    written_is (λ (k : ℕ). Counts k n) n (counts-few 2 n (omega arith))
    (λ g. record { least = subst (λ (f : Form). f.least ≤ n) (form-many 3 (omega arith)) (omega arith); most = subst (λ (f : Form). n ≤ f.most) (form-many 3 (omega arith)) (omega arith) })

-- THE FORM IS DETERMINED by the number of cell lines: it is the one that is written, or form 1, of edition 0 and few cells
pub form-told : (form edition n : ℕ) → CanSay form edition → Counts form n → (form ≡ written_form n) ⊎ ((form ≡ 1) × (edition ≡ 0) × (n ≤ few_cells))
form-told form edition n one c = inr (refl, refl, subst (λ (f : Form). n ≤ f.most) (sym (form-few 1 (omega arith))) c.most)
form-told form edition n (two h) c = inl (written-few n (subst (λ (f : Form). n ≤ f.most) (sym (form-few 2 (omega arith))) c.most))
form-told form edition n (three h) c =
    let g : few_cells + 1 ≤ n = subst (λ (f : Form). f.least ≤ n) (sym (form-many 3 (omega arith))) c.least in
    inl (written-many n (omega arith))

-- ---- a prefix put into a buffer

pub stock-long : (form : ℕ) → length (stock_prefix form) ≡ 7
stock-long form = ap (λ (n : ℕ). suc (suc (suc (suc (suc (suc n)))))) (digits-length 10 1 form)

pub cell-short : (form i : ℕ) → length (cell_prefix form i) ≤ 10
cell-short form i = omega (arith, digits-length 10 (form_of form).digits i, few-digits form)

pub end_short : (n : ℕ) → length (end_text n) ≤ 24
end_short n = omega (arith, decimal-short n)

-- some bytes, and then others
pub then-put : {l m o : List ℕ} {e f : ℕ} (p t : List ℕ) → length p + length t ≤ line_room → Put l 0 p m e → Put m e t o f → WroteLine l (p ++ t) o f
then-put p t h a b =
    let u = put-wrote (length p) refl (omega arith) a in
    let w = put-wrote (length t) refl (omega (arith, u.end)) b in
    record { wrote = and_then u w; within = omega (arith, u.end, w.end) }

-- ---- a text at the front of a buffer

pub wrote-front : {l m t : List ℕ} {j : ℕ} → Wrote l 0 t m j → j ≤ length l → take j m ≡ t
wrote-front {l} {m} {t} {j} w h =
    let f : 0 + length t ≤ length l = omega (arith, w.end) in
    let e : j ≡ length t = omega (arith, w.end) in
    ap (λ (n : ℕ). take n m) e ∙ ap (take (length t)) (w.text ∙ sets-eq t l 0 f) ∙ take-append_seam t (drop (0 + length t) l)

-- a line at the front of a line's buffer
module _ {l m t : List ℕ} {j : ℕ} (long : length l ≡ line_room) (w : WroteLine l t m j) where
  pub line-front : take j m ≡ t
  line-front = wrote-front w.wrote (omega (arith, w.within))

  pub line-fits : j ≤ length m
  line-fits = omega (arith, room w.wrote, w.within)

  pub line-length : j ≡ length (take j m)
  line-length = omega (arith, w.wrote.end, ap length line-front)
