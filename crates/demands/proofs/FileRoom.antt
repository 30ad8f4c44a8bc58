-- What the lent room holds after any read of a stock file, refused or not: of each cell's and each ring's line its numbers at its place, as far as the room reaches, and all else as it was. Assumes nothing.
use Rattle.std.specs.Prelude.{Option, None, Some}
use Prim.Native.Nat.{ℕ, suc, ◌+◌, ◌-◌, ◌*◌, ◌/◌, ◌^◌, ◌≤◌, ◌<◌, min}
use native.Mathlib.Omega.{arith}
use native.Mathlib.Nat.{min-le_left, min-le_right}
use mathlib.Core.Path.{◌≡◌, refl, sym, ap, ◌∙◌, subst}
use mathlib.Core.Bool.{Bool, true, false, false≢true}
use mathlib.Core.List.{List, [], ◌∷◌}
use lib.Dec.{eqb, ltb}
use lib.ListN.{length, get_or, set, length-set}
use lib.Seq.{sets, get_or-set_same, get_or-set_other}
use lib.Ieee.{Float, nan}
use borrow.Author.Tests.{eqb-true, eqb-false, ltb-true, ltb-false, lt-ltb}
use Rattle.floats.specs.Pick.{pick, pick_true, pick-false}
use Rattle.lines.specs.File.{pieces_of, ended, line_on_bytes, over_pieces}
use Rattle.stock_lines.specs.declared.Reading.{Reading}
use Rattle.stock_lines.specs.declared.form.Four.{Four}
use Rattle.stock_lines.specs.declared.form.First.{First}
use Rattle.stock_lines.specs.declared.room.Took.{Took}
use Rattle.stock_lines.specs.declared.room.Took.TheVariants.{Cell, Ring, End, NoLine}
use Rattle.stock_lines.specs.Form.{form_of, line_of, four, four_of, cell_prefix}
use Rattle.stock_lines.specs.First.{first_of}
use Rattle.stock_lines.specs.Room.{kept, stored, taken, cell_at, ring_at, ring_turn, took_of, rings_left_after}
use Rattle.stock_lines.specs.Reading.{State, state, next, count_to, refusing, begun, onward_to, went, on_body, on_line}
use Rattle.stock_lines.proofs.Readings.{line_first, line-body, line-behind, count-more, count-full, begun-is}
use Rattle.stock_file.specs.Read.{fresh_reading, stopped, on_long, file_in}
use Rattle.stock_file.specs.Write.{Opening, opening}
use Rattle.stock_file.proofs.LineSteps.{most, reading}
use Rattle.stock_file.proofs.Leaves.{Filled, Stays, line_stays, pieces-stay}
use Rattle.stock_file.proofs.Spelt.{walk, stopped-walk}
use Rattle.stock_file.proofs.WriteAfter as kinds

-- the four numbers at a place
abbrev pub four_in : List Float → ℕ → Option Four
four_in l i = four (get_or l (4 * i) nan) (get_or l (4 * i + 1) nan) (get_or l (4 * i + 2) nan) (get_or l (4 * i + 3) nan)

-- A file of these pieces left this: n cells' and m rings' lines, each in its turn behind the first line, in the form that this names, m counted to 257. Where the room reaches, their numbers stand at their places, and of rings the first 256; every other number is as it was lent.
pub record RoomHolds (cs rs : List Float) (ps : List (List ℕ)) (left : State) : Type 0 where
  pub cells : (i : ℕ) → i < left.reading.cells → i < length cs / 4 → four_of (line_of (cell_prefix left.reading.form i) 4 (get_or ps (1 + i) [])) ≡ four_in left.cells i
  pub rings : (i : ℕ) → i < left.reading.rings → i < min 256 (length rs / 4) → ring_at (get_or ps (1 + (left.reading.cells + i)) []) ≡ four_in left.rings i
  pub cells-behind : (i : ℕ) → 4 * left.reading.cells ≤ i → get_or left.cells i nan ≡ get_or cs i nan
  pub cells-beyond : (i : ℕ) → 4 * (length cs / 4) ≤ i → get_or left.cells i nan ≡ get_or cs i nan
  pub rings-behind : (i : ℕ) → 4 * left.reading.rings ≤ i → get_or left.rings i nan ≡ get_or rs i nan
  pub rings-beyond : (i : ℕ) → 4 * min 256 (length rs / 4) ≤ i → get_or left.rings i nan ≡ get_or rs i nan
  pub cells-long : length left.cells ≡ length cs
  pub rings-long : length left.rings ≡ length rs

-- ---- beyond what the limit and the room reach nothing is written

four-other : (l : List Float) (k i : ℕ) (a b c d : Float) → k + 4 ≤ i → get_or (sets l k (a ∷ b ∷ c ∷ d ∷ [])) i nan ≡ get_or l i nan
four-other l k i a b c d h =
    get_or-set_other (set (set (set l k a) (suc k) b) (suc (suc k)) c) (suc (suc (suc k))) i d nan (λ e. omega arith)
    ∙ get_or-set_other (set (set l k a) (suc k) b) (suc (suc k)) i c nan (λ e. omega arith)
    ∙ get_or-set_other (set l k a) (suc k) i b nan (λ e. omega arith)
    ∙ get_or-set_other l k i a nan (λ e. omega arith)

stored-beyond : (limit : ℕ) (l : List Float) (k : ℕ) (f : Option Four) (i : ℕ) → 4 * min limit (length l / 4) ≤ i → get_or (stored limit l k f) i nan ≡ get_or l i nan
unfolding stored kept
stored-beyond limit l k None i h = refl
stored-beyond limit l k (Some x) i h = by (ltb k limit) refl (ltb k (length l / 4)) refl
  where
    low : (x y : ℕ) → k < x → k < y → k < min x y
    low x y p q = omega (arith, p, q)

    by : (t : Bool) → ltb k limit ≡ t → (u : Bool) → ltb k (length l / 4) ≡ u → get_or (pick (ltb k limit) (pick (ltb k (length l / 4)) (sets l (4 * k) (x.a ∷ x.b ∷ x.c ∷ x.d ∷ [])) l) l) i nan ≡ get_or l i nan
    by true e true f =
        let m : k < min limit (length l / 4) = low limit (length l / 4) (ltb-true _ _ e) (ltb-true _ _ f) in
        ap (λ (x : List Float). get_or x i nan) (pick_true _ _ _ e ∙ pick_true _ _ _ f) ∙ four-other l (4 * k) i x.a x.b x.c x.d (omega arith)
    by true e false f = ap (λ (x : List Float). get_or x i nan) (pick_true _ _ _ e ∙ pick-false _ _ _ f)
    by false e u f = ap (λ (x : List Float). get_or x i nan) (pick-false _ _ _ e)

-- nor beyond what the room reaches, whatever the limit
room-beyond : (limit : ℕ) (l : List Float) (k : ℕ) (f : Option Four) (i : ℕ) → 4 * (length l / 4) ≤ i → get_or (stored limit l k f) i nan ≡ get_or l i nan
room-beyond limit l k f i h = stored-beyond limit l k f i (omega (arith, h, min-le_right limit (length l / 4)))

-- so it is after every line, and at the end
record Beyond (a b : State) : Type 0 where
  cells-long : length b.cells ≡ length a.cells
  rings-long : length b.rings ≡ length a.rings
  cells : (i : ℕ) → 4 * (length a.cells / 4) ≤ i → get_or b.cells i nan ≡ get_or a.cells i nan
  rings : (i : ℕ) → 4 * min 256 (length a.rings / 4) ≤ i → get_or b.rings i nan ≡ get_or a.rings i nan

here : (r : Reading) (st : State) → Beyond st (state r st.cells st.rings)
here r st = record { cells-long = refl; rings-long = refl; cells = λ i h. refl; rings = λ i h. refl }

further : {a b c : State} → Beyond a b → Beyond b c → Beyond a c
further {a} {b} {c} u v = record {
  cells-long = v.cells-long ∙ u.cells-long;
  rings-long = v.rings-long ∙ u.rings-long;
  cells = λ i h. v.cells i (subst (λ (n : ℕ). 4 * (n / 4) ≤ i) (sym u.cells-long) h) ∙ u.cells i h;
  rings = λ i h. v.rings i (subst (λ (n : ℕ). 4 * min 256 (n / 4) ≤ i) (sym u.rings-long) h) ∙ u.rings i h;
}

rings-beyond : (k n m : ℕ) (s : List ℕ) (l : List Float) (i : ℕ) → 4 * min 256 (length l / 4) ≤ i → get_or (rings_left_after k n m s l) i nan ≡ get_or l i nan
unfolding rings_left_after
rings-beyond k n m s l i h = by (taken (cell_at k n m s)) refl
  where
    by : (t : Bool) → taken (cell_at k n m s) ≡ t → get_or (pick (taken (cell_at k n m s)) l (stored 256 l m (ring_turn k n s))) i nan ≡ get_or l i nan
    by true e = ap (λ (x : List Float). get_or x i nan) (pick_true _ _ _ e)
    by false e = ap (λ (x : List Float). get_or x i nan) (pick-false _ _ _ e) ∙ stored-beyond 256 l m (ring_turn k n s) i h

line-beyond : (st : State) (s : List ℕ) → Beyond st (on_line st s)
unfolding on_body
line-beyond st s = by (eqb st.reading.stage 0) refl (eqb st.reading.stage 1) refl
  where
    r : Reading
    r = st.reading

    by : (t : Bool) → eqb st.reading.stage 0 ≡ t → (u : Bool) → eqb st.reading.stage 1 ≡ u → Beyond st (on_line st s)
    by true e u f = subst (Beyond st) (sym (line_first st s (eqb-true _ _ e))) (here _ st)
    by false e true f =
        let q = line-body st s (eqb-false _ _ e) (eqb-true _ _ f) in
        let w = line_stays st s in
        record {
          cells-long = w.cells.long;
          rings-long = w.rings.long;
          cells = λ i h. ap (λ (x : State). get_or x.cells i nan) q ∙ room-beyond (form_of r.form).most st.cells r.cells (cell_at r.form r.cells r.rings s) i h;
          rings = λ i h. ap (λ (x : State). get_or x.rings i nan) q ∙ rings-beyond r.form r.cells r.rings s st.rings i h;
        }
    by false e false f = subst (Beyond st) (sym (line-behind st s (eqb-false _ _ e) (eqb-false _ _ f))) (here _ st)

picked : {st a b : State} (t : Bool) → Beyond st a → Beyond st b → Beyond st (pick t a b)
picked {st} {a} {b} true u v = subst (Beyond st) (sym (pick_true true a b refl)) u
picked {st} {a} {b} false u v = subst (Beyond st) (sym (pick-false false a b refl)) v

pieces-beyond : (ls : List (List ℕ)) (st : State) → Beyond st (walk st ls)
unfolding over_pieces line_on_bytes ended
pieces-beyond [] st = here _ st
pieces-beyond (l ∷ []) st = picked (stopped st) (here _ st) (picked (eqb (length l) 0) (picked (ltb st.reading.stage 2) (here _ st) (here _ st)) (here _ st))
pieces-beyond (l ∷ k ∷ ls) st =
    further (picked (stopped st) (here _ st) (picked (ltb (length l) 128) (line-beyond st l) (here _ st))) (pieces-beyond (k ∷ ls) (line_on_bytes stopped on_line on_long st l))

-- ---- four numbers stand where they were put

record Here (l : List Float) (i : ℕ) (x y z w : Float) : Type 0 where
  first : get_or l i nan ≡ x
  second : get_or l (i + 1) nan ≡ y
  third : get_or l (i + 2) nan ≡ z
  fourth : get_or l (i + 3) nan ≡ w

put-here : (l : List Float) (i : ℕ) (x y z w : Float) → i + 4 ≤ length l → Here (sets l i (x ∷ y ∷ z ∷ w ∷ [])) i x y z w
put-here l i x y z w h =
    let a : List Float = set l i x in
    let b : List Float = set a (suc i) y in
    let c : List Float = set b (suc (suc i)) z in
    let la = length-set l i x in
    let lb = length-set a (suc i) y in
    let lc = length-set b (suc (suc i)) z in
    let e1 : i + 1 ≡ suc i = omega arith in
    let e2 : i + 2 ≡ suc (suc i) = omega arith in
    let e3 : i + 3 ≡ suc (suc (suc i)) = omega arith in
    record {
      first = get_or-set_other c (suc (suc (suc i))) i w nan (λ q. omega arith) ∙ get_or-set_other b (suc (suc i)) i z nan (λ q. omega arith) ∙ get_or-set_other a (suc i) i y nan (λ q. omega arith) ∙ get_or-set_same l i x nan (omega arith);
      second = ap (λ (k : ℕ). get_or (set c (suc (suc (suc i))) w) k nan) e1 ∙ get_or-set_other c (suc (suc (suc i))) (suc i) w nan (λ q. omega arith) ∙ get_or-set_other b (suc (suc i)) (suc i) z nan (λ q. omega arith) ∙ get_or-set_same a (suc i) y nan (omega (arith, la));
      third = ap (λ (k : ℕ). get_or (set c (suc (suc (suc i))) w) k nan) e2 ∙ get_or-set_other c (suc (suc (suc i))) (suc (suc i)) w nan (λ q. omega arith) ∙ get_or-set_same b (suc (suc i)) z nan (omega (arith, la, lb));
      fourth = ap (λ (k : ℕ). get_or (set c (suc (suc (suc i))) w) k nan) e3 ∙ get_or-set_same c (suc (suc (suc i))) w nan (omega (arith, la, lb, lc));
    }

-- and stay there to the end
stands : (limit n n' : ℕ) (l l' : List Float) (x y z w : Float) → n < limit → n < length l / 4 → Filled (n + 1) n' (stored limit l n (four x y z w)) l' → four x y z w ≡ four_in l' n
unfolding stored kept
stands limit n n' l l' x y z w h m f =
    let q : stored limit l n (four x y z w) ≡ sets l (4 * n) (x ∷ y ∷ z ∷ w ∷ []) = pick_true _ _ _ (lt-ltb _ _ h) ∙ pick_true _ _ _ (lt-ltb _ _ m) in
    let p = put-here l (4 * n) x y z w (omega arith) in
    let at : (i : ℕ) → i < 4 * (n + 1) → get_or (sets l (4 * n) (x ∷ y ∷ z ∷ w ∷ [])) i nan ≡ get_or l' i nan = λ i g. ap (λ (v : List Float). get_or v i nan) (sym q) ∙ sym (f.before i g) in
    let e1 = sym p.first ∙ at (4 * n) (omega arith) in
    let e2 = sym p.second ∙ at (4 * n + 1) (omega arith) in
    let e3 = sym p.third ∙ at (4 * n + 2) (omega arith) in
    let e4 = sym p.fourth ∙ at (4 * n + 3) (omega arith) in
    λ j. four (e1 j) (e2 j) (e3 j) (e4 j)

-- ---- lines behind the first

-- a refused line moves no count, and no form
went-refused : (r : Reading) (t : Took) → (went r t).refused ≡ true → ((went r t).cells ≡ r.cells) × ((went r t).rings ≡ r.rings) × ((went r t).form ≡ r.form)
unfolding went onward_to refusing
went-refused r Cell e = absurd (false≢true e)
went-refused r Ring e = absurd (false≢true e)
went-refused r End e = absurd (false≢true e)
went-refused r NoLine e = (refl, refl, refl)

module _ (left : State) where
  abbrev N : ℕ
  N = left.reading.cells

  abbrev M : ℕ
  M = left.reading.rings

  abbrev F : ℕ
  F = left.reading.form

  -- of the lines that follow n cells' and m rings' lines, in form k
  record Rest (k n m : ℕ) (cs rs : List Float) (ls : List (List ℕ)) : Type 0 where
    cells : (i : ℕ) → n ≤ i → i < N → i < length cs / 4 → four_of (line_of (cell_prefix k i) 4 (get_or ls (i - n) [])) ≡ four_in left.cells i
    rings : (i : ℕ) → m ≤ i → i < M → i < min 256 (length rs / 4) → ring_at (get_or ls (N - n + (i - m)) []) ≡ four_in left.rings i
    fixed : 0 < m → N ≡ n
    form : k ≡ F

  -- none more
  no_more : (k n m : ℕ) (cs rs : List Float) (ls : List (List ℕ)) → n ≡ N → m ≡ M → k ≡ F → Rest k n m cs rs ls
  no_more k n m cs rs ls e f q = record { cells = λ i h j g. absurd (omega arith); rings = λ i h j g. absurd (omega (arith, h, j)); fixed = λ h. sym e; form = q }

  -- the counts and the form of a state that is left
  record Same (st : State) : Type 0 where
    cells : st.reading.cells ≡ N
    rings : st.reading.rings ≡ M
    form : st.reading.form ≡ F

  counts : (st : State) → st ≡ left → Same st
  counts st e = record { cells = ap (λ (x : State). x.reading.cells) e; rings = ap (λ (x : State). x.reading.rings) e; form = ap (λ (x : State). x.reading.form) e }

  -- a refused line moves none of them
  long-counts : (st : State) → Same (on_long st) → Same st
  unfolding refusing
  long-counts st c = record { cells = c.cells; rings = c.rings; form = c.form }

  -- nor does the end
  ended-counts : (st : State) (p : List ℕ) → walk st (p ∷ []) ≡ left → Same st
  unfolding over_pieces ended
  ended-counts st p e = by (stopped st) refl (eqb (length p) 0) refl (ltb st.reading.stage 2) refl
    where
      by : (t : Bool) → stopped st ≡ t → (u : Bool) → eqb (length p) 0 ≡ u → (v : Bool) → ltb st.reading.stage 2 ≡ v → Same st
      by true f u g v h = counts st (sym (pick_true _ _ _ f) ∙ e)
      by false f true g true h = long-counts st (counts (on_long st) (sym (pick-false _ _ _ f ∙ pick_true _ _ _ g ∙ pick_true _ _ _ h) ∙ e))
      by false f true g false h = counts st (sym (pick-false _ _ _ f ∙ pick_true _ _ _ g ∙ pick-false _ _ _ h) ∙ e)
      by false f false g v h = long-counts st (counts (on_long st) (sym (pick-false _ _ _ f ∙ pick-false _ _ _ g) ∙ e))

  -- nor does what stands behind `end`
  done-counts : (st : State) (ls : List (List ℕ)) → 2 ≤ st.reading.stage → stopped st ≡ false → walk st ls ≡ left → Same st
  unfolding over_pieces line_on_bytes refusing
  done-counts st [] h g e = counts st e
  done-counts st (p ∷ []) h g e = ended-counts st p e
  done-counts st (p ∷ q ∷ ls) h g e = by (ltb (length p) 128) refl
    where
      by : (t : Bool) → ltb (length p) 128 ≡ t → Same st
      by true f =
          let k : line_on_bytes stopped on_line on_long st p ≡ on_long st = pick-false _ _ _ g ∙ pick_true _ _ _ f ∙ line-behind st p (λ z. omega arith) (λ z. omega arith) in
          long-counts st (counts (on_long st) (sym (ap (λ (x : State). walk x (q ∷ ls)) k ∙ stopped-walk (q ∷ ls) (on_long st) refl) ∙ e))
      by false f =
          let k : line_on_bytes stopped on_line on_long st p ≡ on_long st = pick-false _ _ _ g ∙ pick-false _ _ _ f in
          long-counts st (counts (on_long st) (sym (ap (λ (x : State). walk x (q ∷ ls)) k ∙ stopped-walk (q ∷ ls) (on_long st) refl) ∙ e))

  module _ (b : Opening) where
    abbrev Again : List (List ℕ) → Type 0
    Again ls = (n m l : ℕ) (cs rs : List Float) → l + length ls < 2 ^ 64 → walk (state (reading b 1 n m l) cs rs) ls ≡ left → Rest b.form n m cs rs ls

    module _ (n m l : ℕ) (cs rs : List Float) (p q : List ℕ) (ls : List (List ℕ)) (few : l + length (p ∷ q ∷ ls) < 2 ^ 64) (again : Again (q ∷ ls)) where
      abbrev st : State
      st = state (reading b 1 n m l) cs rs

      -- from the state that the line left
      on : (st' : State) → on_line st p ≡ st' → walk (on_line st p) (q ∷ ls) ≡ left → walk st' (q ∷ ls) ≡ left
      on st' k e = ap (λ (x : State). walk x (q ∷ ls)) (sym k) ∙ e

      later : (st' : State) → walk st' (q ∷ ls) ≡ left → Stays st' left
      later st' e = subst (Stays st') e (pieces-stay (q ∷ ls) st')

      shift : (i k : ℕ) → i ≡ suc k → get_or (p ∷ q ∷ ls) i [] ≡ get_or (q ∷ ls) k []
      shift i k e = ap (λ (x : ℕ). get_or (p ∷ q ∷ ls) x []) e

      at_first : (i : ℕ) → i ≡ 0 → get_or (p ∷ q ∷ ls) i [] ≡ p
      at_first i e = ap (λ (x : ℕ). get_or (p ∷ q ∷ ls) x []) e

      a-cell : (x y z w : Float) → m ≡ 0 → n < (most b) → four_of (line_of (cell_prefix b.form n) 4 p) ≡ four x y z w
          → on_line st p ≡ state (reading b 1 (n + 1) m (l + 1)) (stored (most b) cs n (four x y z w)) rs → walk (on_line st p) (q ∷ ls) ≡ left → Rest b.form n m cs rs (p ∷ q ∷ ls)
      a-cell x y z w em lt held k e =
          let st' : State = state (reading b 1 (n + 1) m (l + 1)) (stored (most b) cs n (four x y z w)) rs in
          let e' = on st' k e in
          let s = later st' e' in
          let g : n + 1 ≤ N = s.cells.grows in
          let long : length (stored (most b) cs n (four x y z w)) ≡ length cs = ap (λ (v : State). length v.cells) (sym k) ∙ (line_stays st p).cells.long in
          let r = again (n + 1) m (l + 1) _ rs (omega arith) e' in
          record {
            cells = λ i h v u. by-cell i (eqb i n) refl h v u s long r;
            rings = λ i h v u. let z : N - n + (i - m) ≡ suc (N - (n + 1) + (i - m)) = omega arith in ap ring_at (shift _ _ z) ∙ r.rings i h v u;
            fixed = λ h. absurd (omega arith);
            form = r.form;
          }
        where
          by-cell : (i : ℕ) (t : Bool) → eqb i n ≡ t → n ≤ i → i < N → i < length cs / 4 → Stays (state (reading b 1 (n + 1) m (l + 1)) (stored (most b) cs n (four x y z w)) rs) left → length (stored (most b) cs n (four x y z w)) ≡ length cs
              → Rest b.form (n + 1) m (stored (most b) cs n (four x y z w)) rs (q ∷ ls) → four_of (line_of (cell_prefix b.form i) 4 (get_or (p ∷ q ∷ ls) (i - n) [])) ≡ four_in left.cells i
          by-cell i true e h v u s long r =
              let j : n ≡ i = sym (eqb-true _ _ e) in
              let o : i - n ≡ 0 = omega arith in
              let first : four_of (line_of (cell_prefix b.form n) 4 p) ≡ four_in left.cells n = held ∙ stands (most b) n N cs left.cells x y z w lt (omega arith) s.cells in
              ap (λ (c : List ℕ). four_of (line_of (cell_prefix b.form i) 4 c)) (at_first (i - n) o) ∙ subst (λ (c : ℕ). four_of (line_of (cell_prefix b.form c) 4 p) ≡ four_in left.cells c) j first
          by-cell i false e h v u s long r =
              let d : i ≡ n → ⊥ = eqb-false _ _ e in
              let o : i - n ≡ suc (i - (n + 1)) = omega arith in
              ap (λ (c : List ℕ). four_of (line_of (cell_prefix b.form i) 4 c)) (shift _ _ o) ∙ r.cells i (omega arith) v (subst (λ (c : ℕ). i < c / 4) (sym long) u)

      a-ring : (x y z w : Float) → ring_at p ≡ four x y z w
          → on_line st p ≡ state (reading b 1 n (count_to 257 m) (l + 1)) cs (stored 256 rs m (four x y z w)) → walk (on_line st p) (q ∷ ls) ≡ left → Rest b.form n m cs rs (p ∷ q ∷ ls)
      a-ring x y z w held k e =
          let st' : State = state (reading b 1 n (count_to 257 m) (l + 1)) cs (stored 256 rs m (four x y z w)) in
          let e' = on st' k e in
          let s = later st' e' in
          let long : length (stored 256 rs m (four x y z w)) ≡ length rs = ap (λ (v : State). length v.rings) (sym k) ∙ (line_stays st p).rings.long in
          let r = again n (count_to 257 m) (l + 1) cs _ (omega arith) e' in
          let same : N ≡ n = r.fixed (some-ring m) in
          record {
            cells = λ i h v u. absurd (omega arith);
            rings = λ i h v u. by-ring i (eqb i m) refl h v u s long r same;
            fixed = λ h. same;
            form = r.form;
          }
        where
          some-ring : (m : ℕ) → 0 < count_to 257 m
          some-ring m = by (ltb m 257) refl
            where
              by : (t : Bool) → ltb m 257 ≡ t → 0 < count_to 257 m
              by true f = subst (λ (c : ℕ). 0 < c) (count-more 257 m (ltb-true _ _ f)) (omega arith)
              by false f = let g : 257 ≤ m = ltb-false _ _ f in subst (λ (c : ℕ). 0 < c) (count-full 257 m g) (omega arith)

          by-ring : (i : ℕ) (t : Bool) → eqb i m ≡ t → m ≤ i → i < M → i < min 256 (length rs / 4) → Stays (state (reading b 1 n (count_to 257 m) (l + 1)) cs (stored 256 rs m (four x y z w))) left
              → length (stored 256 rs m (four x y z w)) ≡ length rs → Rest b.form n (count_to 257 m) cs (stored 256 rs m (four x y z w)) (q ∷ ls) → N ≡ n → ring_at (get_or (p ∷ q ∷ ls) (N - n + (i - m)) []) ≡ four_in left.rings i
          by-ring i true e h v u s long r same =
              let j : m ≡ i = sym (eqb-true _ _ e) in
              let lt : m < 256 = omega (arith, u, min-le_left 256 (length rs / 4)) in
              let room : m < length rs / 4 = omega (arith, u, min-le_right 256 (length rs / 4)) in
              let one : m + 1 ≡ count_to 257 m = count-more 257 m (omega arith) in
              let o : N - n + (i - m) ≡ 0 = omega arith in
              let f : Filled (m + 1) M (stored 256 rs m (four x y z w)) left.rings = subst (λ (c : ℕ). Filled c M (stored 256 rs m (four x y z w)) left.rings) (sym one) s.rings in
              ap ring_at (at_first _ o) ∙ subst (λ (c : ℕ). ring_at p ≡ four_in left.rings c) j (held ∙ stands 256 m M rs left.rings x y z w lt room f)
          by-ring i false e h v u s long r same =
              let d : i ≡ m → ⊥ = eqb-false _ _ e in
              let lt : m < 257 = omega (arith, u, min-le_left 256 (length rs / 4)) in
              let one : m + 1 ≡ count_to 257 m = count-more 257 m lt in
              let o : N - n + (i - m) ≡ suc (N - n + (i - count_to 257 m)) = omega arith in
              ap ring_at (shift _ _ o) ∙ r.rings i (omega arith) v (subst (λ (c : ℕ). i < min 256 (c / 4)) (sym long) u)

      a-line : walk st (p ∷ q ∷ ls) ≡ left → Rest b.form n m cs rs (p ∷ q ∷ ls)
      unfolding over_pieces line_on_bytes on_body refusing
      a-line e = by (ltb (length p) 128) refl (stopped (on_line st p)) refl
        where
          kinds-of : walk (on_line st p) (q ∷ ls) ≡ left → kinds.Kind b n m l cs rs p → Rest b.form n m cs rs (p ∷ q ∷ ls)
          kinds-of f (kinds.cell x y z w em lt h k) = a-cell x y z w em lt h k f
          kinds-of f (kinds.ring x y z w enough h k) = a-ring x y z w h k f
          kinds-of f (kinds.end enough t k) = let c = done-counts (state (reading b 2 n m (l + 1)) cs rs) (q ∷ ls) (omega arith) refl (on _ k f) in no_more b.form n m cs rs _ c.cells c.rings c.form

          by : (t : Bool) → ltb (length p) 128 ≡ t → (u : Bool) → stopped (on_line st p) ≡ u → Rest b.form n m cs rs (p ∷ q ∷ ls)
          by false f u g =
              let k : line_on_bytes stopped on_line on_long st p ≡ on_long st = pick-false _ _ _ refl ∙ pick-false _ _ _ f in
              let c = long-counts st (counts (on_long st) (sym (ap (λ (x : State). walk x (q ∷ ls)) k ∙ stopped-walk (q ∷ ls) (on_long st) refl) ∙ e)) in
              no_more b.form n m cs rs _ c.cells c.rings c.form
          by true f true g =
              let k : line_on_bytes stopped on_line on_long st p ≡ on_line st p = pick-false _ _ _ refl ∙ pick_true _ _ _ f in
              let body : on_line st p ≡ on_body st p = line-body st p (λ z. omega arith) refl in
              let c = counts (on_line st p) (sym (ap (λ (x : State). walk x (q ∷ ls)) k ∙ stopped-walk (q ∷ ls) (on_line st p) g) ∙ e) in
              let w = went-refused (reading b 1 n m l) (took_of b.form n m l p) (ap stopped (sym body) ∙ g) in
              no_more b.form n m cs rs _ (sym w.0 ∙ ap (λ (x : State). x.reading.cells) (sym body) ∙ c.cells) (sym w.1 ∙ ap (λ (x : State). x.reading.rings) (sym body) ∙ c.rings) (sym w.2 ∙ ap (λ (x : State). x.reading.form) (sym body) ∙ c.form)
          by true f false g =
              let k : line_on_bytes stopped on_line on_long st p ≡ on_line st p = pick-false _ _ _ refl ∙ pick_true _ _ _ f in
              kinds-of (ap (λ (x : State). walk x (q ∷ ls)) (sym k) ∙ e) (kinds.kind b n m l cs rs p (omega arith) g)

    rest : (ls : List (List ℕ)) → Again ls
    unfolding over_pieces
    rest [] n m l cs rs few e = let c = counts (state (reading b 1 n m l) cs rs) e in no_more b.form n m cs rs [] c.cells c.rings c.form
    rest (p ∷ []) n m l cs rs few e = let c = ended-counts (state (reading b 1 n m l) cs rs) p e in no_more b.form n m cs rs _ c.cells c.rings c.form
    rest (p ∷ q ∷ ls) n m l cs rs few e = a-line n m l cs rs p q ls few (rest (q ∷ ls)) e

  -- from the first line on
  abbrev Whole : List Float → List Float → List (List ℕ) → Type 0
  Whole cs rs ps =
      ((i : ℕ) → i < N → i < length cs / 4 → four_of (line_of (cell_prefix F i) 4 (get_or ps (1 + i) [])) ≡ four_in left.cells i) × ((i : ℕ) → i < M → i < min 256 (length rs / 4) → ring_at (get_or ps (1 + (N + i)) []) ≡ four_in left.rings i)

  nothing : (cs rs : List Float) (ps : List (List ℕ)) → 0 ≡ N → 0 ≡ M → Whole cs rs ps
  nothing cs rs ps e f = ((λ i h k. absurd (omega arith)), (λ i h k. absurd (omega (arith, h))))

  first_rest : (cs rs : List Float) (ps : List (List ℕ)) → length ps + 1 < 2 ^ 64 → walk (state fresh_reading cs rs) ps ≡ left → Whole cs rs ps
  unfolding over_pieces line_on_bytes begun refusing
  first_rest cs rs [] few e = let c = counts (state fresh_reading cs rs) e in nothing cs rs [] c.cells c.rings
  first_rest cs rs (p ∷ []) few e = let c = ended-counts (state fresh_reading cs rs) p e in nothing cs rs (p ∷ []) c.cells c.rings
  first_rest cs rs (p ∷ q ∷ ls) few e = by (ltb (length p) 128) refl (first_of p) refl
    where
      refused : line_on_bytes stopped on_line on_long (state fresh_reading cs rs) p ≡ on_long (state fresh_reading cs rs) → Whole cs rs (p ∷ q ∷ ls)
      refused k =
          let c = long-counts (state fresh_reading cs rs) (counts (on_long (state fresh_reading cs rs)) (sym (ap (λ (x : State). walk x (q ∷ ls)) k ∙ stopped-walk (q ∷ ls) (on_long (state fresh_reading cs rs)) refl) ∙ e)) in
          nothing cs rs (p ∷ q ∷ ls) c.cells c.rings

      by : (t : Bool) → ltb (length p) 128 ≡ t → (f : Option First) → first_of p ≡ f → Whole cs rs (p ∷ q ∷ ls)
      by false g f h = refused (pick-false _ _ _ refl ∙ pick-false _ _ _ g)
      by true g None h = refused (pick-false _ _ _ refl ∙ pick_true _ _ _ g ∙ line_first (state fresh_reading cs rs) p refl ∙ ap (λ (x : Option First). state (begun fresh_reading x) cs rs) h)
      by true g (Some f) h =
          let d : Opening = opening f.form f.edition f.bar in
          let one : 1 ≡ next fresh_reading = omega arith in
          let k : line_on_bytes stopped on_line on_long (state fresh_reading cs rs) p ≡ state (reading d 1 0 0 1) cs rs =
          pick-false _ _ _ refl ∙ pick_true _ _ _ g ∙ line_first (state fresh_reading cs rs) p refl ∙ ap (λ (r : Reading). state r cs rs) (sym (begun-is fresh_reading (first_of p) f 1 h one)) in
          let r = rest d (q ∷ ls) 0 0 1 cs rs (omega arith) (ap (λ (u : State). walk u (q ∷ ls)) (sym k) ∙ e) in (
            (λ i a c. let o : 1 + i ≡ suc (i - 0) = omega arith in ap (λ (u : ℕ). four_of (line_of (cell_prefix F i) 4 (get_or (p ∷ q ∷ ls) u []))) o ∙ ap (λ (u : ℕ). four_of (line_of (cell_prefix u i) 4 (get_or (p ∷ q ∷ ls) (suc (i - 0)) []))) (sym r.form) ∙ r.cells i (omega arith) a c),
            (λ i a c. let o : 1 + (N + i) ≡ suc (N - 0 + (i - 0)) = omega arith in ap (λ (u : ℕ). ring_at (get_or (p ∷ q ∷ ls) u [])) o ∙ r.rings i (omega arith) a c),
          )

-- WHAT THE LENT ROOM HOLDS after any read, refused or not, of fewer than 2^64 - 1 lines
pub room-holds : (cs rs : List Float) (s : List ℕ) → length (pieces_of s) + 1 < 2 ^ 64 → RoomHolds cs rs (pieces_of s) (file_in cs rs s)
room-holds cs rs s few =
    let f = first_rest (file_in cs rs s) cs rs (pieces_of s) few refl in
    let w = pieces-stay (pieces_of s) (state fresh_reading cs rs) in
    let u = pieces-beyond (pieces_of s) (state fresh_reading cs rs) in
    record {
      cells = f.0;
      rings = f.1;
      cells-behind = w.cells.behind;
      cells-beyond = u.cells;
      rings-behind = w.rings.behind;
      rings-beyond = u.rings;
      cells-long = w.cells.long;
      rings-long = w.rings.long;
    }
