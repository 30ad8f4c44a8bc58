-- Write after read: the bytes of a file that is not refused are those of the file of what it left, where the room reached and no number is a NaN. Assumes nothing.
use Rattle.std.specs.Prelude.{Option, Some, None}
use Prim.Native.Nat.{ℕ, zero, suc, ◌+◌, ◌-◌, ◌*◌, ◌/◌, ◌^◌, ◌≤◌, ◌<◌}
use native.Mathlib.Omega.{arith}
use mathlib.Core.Path.{◌≡◌, refl, sym, ap, ◌∙◌, subst}
use mathlib.Core.Bool.{Bool, true, false, true≢false}
use mathlib.Core.List.{List, [], ◌∷◌, ◌++◌, append_assoc, append-nil}
use lib.Dec.{ltb}
use lib.ListN.{length, get_or, set, length-set}
use lib.Seq.{sets, length-sets, get_or-set_same, get_or-set_other}
use lib.Ieee.{Float, nan}
use borrow.Author.Tests.{ltb-true, ltb-false, lt-ltb}
use Rattle.floats.specs.Pick.{pick, pick_true, pick-false}
use Rattle.text.specs.Lines.{newline, ring_line}
use Rattle.text.proofs.Parting.{some}
use Rattle.lines.specs.File.{pieces_of}
use Rattle.stock_lines.specs.declared.Bar.{Bar}
use Rattle.stock_lines.specs.declared.Reading.{Reading}
use Rattle.stock_lines.specs.declared.form.First.{First}
use Rattle.stock_lines.specs.Form.{Counts, line_of, four_of, bar_numbers, cell_prefix, ring_prefix, end_line, kept_cell_line, four}
use Rattle.stock_lines.specs.First.{first_of, CanSay, first_says}
use Rattle.stock_lines.specs.Room.{kept, stored}
use Rattle.stock_lines.specs.Reading.{State, state, next, count_to, refusing, begun, on_line}
use Rattle.stock_lines.proofs.Forms.{NoNan}
use Rattle.stock_lines.proofs.EachLine.{cell-spelled, ring-spelled}
use Rattle.stock_lines.proofs.Firsts.{first-spelled}
use Rattle.stock_lines.proofs.Readings.{line_first, line-behind, begun-is, count-more, count-full}
use Rattle.stock_file.specs.Read.{fresh_reading, stopped, file_in}
use Rattle.stock_file.specs.Write.{Opening, opening, cell_at, ring_at, line_at, lines_to, file_of}
use Rattle.stock_file.proofs.Lined.{first-line, cell-line, ring-line, last_line}
use Rattle.stock_file.proofs.LineSteps.{most, least, reading}
use Rattle.stock_file.proofs.ReadBack.{four_at}
use Rattle.stock_file.proofs.Leaves.{Filled, Stays, pieces-stay}
use Rattle.stock_file.proofs.Spelt.{parted, pieces-all, walk, went_on, last-piece, next-piece}
use Rattle.stock_file.proofs.WriteAfter.{Kind, cell, ring, end, kind}

-- ---- four numbers stand where they were put

record Here (l : List Float) (i : ℕ) (x y z w : Float) : Type 0 where
  first : get_or l i nan ≡ x
  second : get_or l (i + 1) nan ≡ y
  third : get_or l (i + 2) nan ≡ z
  fourth : get_or l (i + 3) nan ≡ w

put-here : (l : List Float) (i : ℕ) (x y z w : Float) → i + 4 ≤ length l → Here (sets l i (x ∷ y ∷ z ∷ w ∷ [])) i x y z w
put-here l i x y z w h =
    let a : List Float = set l i x in
    let b : List Float = set a (suc i) y in
    let c : List Float = set b (suc (suc i)) z in
    let la = length-set l i x in
    let lb = length-set a (suc i) y in
    let lc = length-set b (suc (suc i)) z in
    let e1 : i + 1 ≡ suc i = omega arith in
    let e2 : i + 2 ≡ suc (suc i) = omega arith in
    let e3 : i + 3 ≡ suc (suc (suc i)) = omega arith in
    record {
      first = get_or-set_other c (suc (suc (suc i))) i w nan (λ q. omega arith) ∙ get_or-set_other b (suc (suc i)) i z nan (λ q. omega arith) ∙ get_or-set_other a (suc i) i y nan (λ q. omega arith) ∙ get_or-set_same l i x nan (omega arith);
      second = ap (λ (k : ℕ). get_or (set c (suc (suc (suc i))) w) k nan) e1 ∙ get_or-set_other c (suc (suc (suc i))) (suc i) w nan (λ q. omega arith) ∙ get_or-set_other b (suc (suc i)) (suc i) z nan (λ q. omega arith) ∙ get_or-set_same a (suc i) y nan (omega (arith, la));
      third = ap (λ (k : ℕ). get_or (set c (suc (suc (suc i))) w) k nan) e2 ∙ get_or-set_other c (suc (suc (suc i))) (suc (suc i)) w nan (λ q. omega arith) ∙ get_or-set_same b (suc (suc i)) z nan (omega (arith, la, lb));
      fourth = ap (λ (k : ℕ). get_or (set c (suc (suc (suc i))) w) k nan) e3 ∙ get_or-set_same c (suc (suc (suc i))) w nan (omega (arith, la, lb, lc));
    }

-- and stay there to the end
kept_here : (limit n n' : ℕ) (l l' : List Float) (x y z w : Float) → n < limit → n < n' → 4 * n' ≤ length l' → Filled (n + 1) n' (stored limit l n (four x y z w)) l' → length (stored limit l n (four x y z w)) ≡ length l
    → Here l' (4 * n) x y z w
unfolding stored kept
kept_here limit n n' l l' x y z w h k room f long =
    let m : n < length l / 4 = omega (arith, f.long) in
    let q : stored limit l n (four x y z w) ≡ sets l (4 * n) (x ∷ y ∷ z ∷ w ∷ []) = pick_true _ _ _ (lt-ltb _ _ h) ∙ pick_true _ _ _ (lt-ltb _ _ m) in
    let p = put-here l (4 * n) x y z w (omega arith) in
    let at : (i : ℕ) → i < 4 * (n + 1) → get_or l' i nan ≡ get_or (sets l (4 * n) (x ∷ y ∷ z ∷ w ∷ [])) i nan = λ i g. f.before i g ∙ ap (λ (v : List Float). get_or v i nan) q in
    record {
      first = at (4 * n) (omega arith) ∙ p.first;
      second = at (4 * n + 1) (omega arith) ∙ p.second;
      third = at (4 * n + 2) (omega arith) ∙ p.third;
      fourth = at (4 * n + 3) (omega arith) ∙ p.fourth;
    }

stored-long : (limit n : ℕ) (l : List Float) (x y z w : Float) → length (stored limit l n (four x y z w)) ≡ length l
unfolding stored kept
stored-long limit n l x y z w = by (ltb n limit) refl (ltb n (length l / 4)) refl
  where
    by : (t : Bool) → ltb n limit ≡ t → (u : Bool) → ltb n (length l / 4) ≡ u → length (pick (ltb n limit) (pick (ltb n (length l / 4)) (sets l (4 * n) (x ∷ y ∷ z ∷ w ∷ [])) l) l) ≡ length l
    by true e true f = ap length (pick_true _ _ _ e ∙ pick_true _ _ _ f) ∙ length-sets l (4 * n) (x ∷ y ∷ z ∷ w ∷ [])
    by true e false f = ap length (pick_true _ _ _ e ∙ pick-false _ _ _ f)
    by false e u f = ap length (pick-false _ _ _ e)

-- ---- lines from one on

unfoldable pub lines_from : (ℕ → List ℕ) → ℕ → ℕ → List ℕ
lines_from f k zero = []
lines_from f k (suc j) = f k ++ lines_from f (suc k) j

-- what the first line said
abbrev pub opening_in : State → Opening
opening_in st = opening st.reading.form st.reading.edition st.reading.bar

-- what a file is to have left: no NaN, in a room that reached
pub record Sound (fin : State) : Type 0 where
  pub goes : stopped fin ≡ false
  pub cells : (i : ℕ) → i < fin.reading.cells → NoNan (four_at fin.cells i)
  pub rings : (i : ℕ) → i < fin.reading.rings → NoNan (four_at fin.rings i)
  pub room : 4 * fin.reading.cells ≤ length fin.cells
  pub space : 4 * fin.reading.rings ≤ length fin.rings
  pub few : fin.reading.rings ≤ 256

module _ (b : Opening) (fin : State) (sound : Sound fin) where
  abbrev N : ℕ
  N = fin.reading.cells

  abbrev M : ℕ
  M = fin.reading.rings

  abbrev line : ℕ → List ℕ
  line k = line_at b fin.cells N fin.rings M k

  -- the lines that are left are those that are written
  pub record Rest (n m l : ℕ) (ls : List (List ℕ)) : Type 0 where
    pub many : ℕ
    pub count : l + many ≡ N + M + 2
    pub text : parted ls ≡ lines_from line l many
    pub fixed : 0 < m → N ≡ n
    pub kept-opening : opening_in fin ≡ b
    pub counts : Counts b.form N

  -- a line before those that are left
  before : (n m n' m' l : ℕ) (p q : List ℕ) (ls : List (List ℕ)) → Rest n' m' (l + 1) (q ∷ ls) → p ++ newline ≡ line l → (0 < m → N ≡ n) → Rest n m l (p ∷ q ∷ ls)
  unfolding parted lines_from
  before n m n' m' l p q ls r e f =
      let s : l + 1 ≡ suc l = omega arith in
      record {
        many = suc r.many;
        count = omega (arith, r.count);
        text = sym (append_assoc p newline (parted (q ∷ ls)))
            ∙ ap (λ (x : List ℕ). x ++ parted (q ∷ ls)) e
            ∙ ap (λ (x : List ℕ). line l ++ x) (r.text ∙ ap (λ (k : ℕ). lines_from line k r.many) s);
        fixed = f;
        kept-opening = r.kept-opening;
        counts = r.counts;
      }

  -- what is asked of the lines that are left
  abbrev Again : List (List ℕ) → Type 0
  Again ls = (n m l : ℕ) (cs rs : List Float) → walk (state (reading b 1 n m l) cs rs) ls ≡ fin → n ≤ most b → l ≡ n + m + 1 → l + length ls < 2 ^ 64 → Rest n m l ls

  module _ (n m l : ℕ) (cs rs : List Float) (p q : List ℕ) (ls : List (List ℕ)) (e : walk (state (reading b 1 n m l) cs rs) (p ∷ q ∷ ls) ≡ fin) (top : n ≤ most b) (el : l ≡ n + m + 1) (few : l + length (p ∷ q ∷ ls) < 2 ^ 64)
      (again : Again (q ∷ ls)) where
    abbrev st : State
    st = state (reading b 1 n m l) cs rs

    on : walk (on_line st p) (q ∷ ls) ≡ fin
    on = sym (next-piece p q ls st (ap stopped e ∙ sound.goes)) ∙ e

    -- from the state that the line left
    left : (st' : State) → on_line st p ≡ st' → walk st' (q ∷ ls) ≡ fin
    left st' k = ap (λ (s : State). walk s (q ∷ ls)) (sym k) ∙ on

    later : (st' : State) → walk st' (q ∷ ls) ≡ fin → Stays st' fin
    later st' k = subst (Stays st') k (pieces-stay (q ∷ ls) st')

    a-cell : (x y z w : Float) → m ≡ 0 → n < (most b) → four_of (line_of (cell_prefix b.form n) 4 p) ≡ four x y z w
        → on_line st p ≡ state (reading b 1 (n + 1) m (l + 1)) (stored (most b) cs n (four x y z w)) rs → Rest n m l (p ∷ q ∷ ls)
    a-cell x y z w em lt h k =
        let st' : State = state (reading b 1 (n + 1) m (l + 1)) (stored (most b) cs n (four x y z w)) rs in
        let e' = left st' k in
        let s = later st' e' in
        let g : n + 1 ≤ N = s.cells.grows in
        let below : n < N = omega arith in
        let here = kept_here (most b) n N cs fin.cells x y z w lt below sound.room s.cells (stored-long (most b) n cs x y z w) in
        let numbers : four_at fin.cells n ≡ x ∷ y ∷ z ∷ w ∷ [] = λ j. here.first j ∷ here.second j ∷ here.third j ∷ here.fourth j ∷ [] in
        let t : p ++ newline ≡ kept_cell_line b.form n x y z w = cell-spelled b.form x y z w n p (subst NoNan numbers (sound.cells n below)) h in
        let u : cell_at b.form fin.cells n ≡ kept_cell_line b.form n x y z w = λ j. kept_cell_line b.form n (here.first j) (here.second j) (here.third j) (here.fourth j) in
        let i : n ≡ l - 1 = omega arith in
        let v : l - 1 < N = omega arith in
        before n m (n + 1) m l p q ls (again (n + 1) m (l + 1) _ rs e' (omega arith) (omega arith) (omega arith))
        (t ∙ sym u ∙ ap (cell_at b.form fin.cells) i ∙ cell-line b fin.cells N fin.rings M l (λ z. omega arith) v)
        (λ z. absurd (omega arith))

    more-rings : count_to 257 m ≤ M → m + 1 ≡ count_to 257 m
    more-rings g = by (ltb m 257) refl
      where
        by : (t : Bool) → ltb m 257 ≡ t → m + 1 ≡ count_to 257 m
        by true f = count-more 257 m (ltb-true _ _ f)
        by false f =
            let w : 257 ≤ m = ltb-false _ _ f in
            let c : m ≡ count_to 257 m = count-full 257 m w in
            absurd (omega (arith, sound.few))

    a-ring : (x y z w : Float) → four_of (line_of ring_prefix 4 p) ≡ four x y z w
        → on_line st p ≡ state (reading b 1 n (count_to 257 m) (l + 1)) cs (stored 256 rs m (four x y z w)) → Rest n m l (p ∷ q ∷ ls)
    a-ring x y z w h k =
        let st' : State = state (reading b 1 n (count_to 257 m) (l + 1)) cs (stored 256 rs m (four x y z w)) in
        let e' = left st' k in
        let s = later st' e' in
        let g : count_to 257 m ≤ M = s.rings.grows in
        let c : m + 1 ≡ count_to 257 m = more-rings g in
        let below : m < M = omega arith in
        let lt : m < 256 = omega (arith, sound.few) in
        let here = kept_here 256 m M rs fin.rings x y z w lt below sound.space (subst (λ (i : ℕ). Filled i M (stored 256 rs m (four x y z w)) fin.rings) (sym c) s.rings) (stored-long 256 m rs x y z w) in
        let numbers : four_at fin.rings m ≡ x ∷ y ∷ z ∷ w ∷ [] = λ j. here.first j ∷ here.second j ∷ here.third j ∷ here.fourth j ∷ [] in
        let t : p ++ newline ≡ ring_line x y z w = ring-spelled x y z w p (subst NoNan numbers (sound.rings m below)) h in
        let u : ring_at fin.rings m ≡ ring_line x y z w = λ j. ring_line (here.first j) (here.second j) (here.third j) (here.fourth j) in
        let r = again n (count_to 257 m) (l + 1) cs _ e' top (omega arith) (omega arith) in
        let f : N ≡ n = r.fixed (omega arith) in
        let i : m ≡ l - 1 - N = omega arith in
        let v : l - 1 - N < M = omega arith in
        before n m n (count_to 257 m) l p q ls r
        (t ∙ sym u ∙ ap (ring_at fin.rings) i ∙ ring-line b fin.cells N fin.rings M l (λ z. omega arith) (omega arith) v)
        (λ z. f)

    an-end : least b ≤ n → p ++ newline ≡ end_line l → on_line st p ≡ state (reading b 2 n m (l + 1)) cs rs → Rest n m l (p ∷ q ∷ ls)
    unfolding parted lines_from refusing
    an-end enough t k = by ls (left (state (reading b 2 n m (l + 1)) cs rs) k)
      where
        by : (rs' : List (List ℕ)) → walk (state (reading b 2 n m (l + 1)) cs rs) (q ∷ rs') ≡ fin → Rest n m l (p ∷ q ∷ rs')
        by (r ∷ rs') f =
            let st2 : State = state (reading b 2 n m (l + 1)) cs rs in
            let h : stopped (walk st2 (q ∷ r ∷ rs')) ≡ false = ap stopped f ∙ sound.goes in
            let g : stopped (walk (on_line st2 q) (r ∷ rs')) ≡ false = ap stopped (sym (next-piece q r rs' st2 h)) ∙ h in
            absurd (true≢false (ap stopped (sym (line-behind st2 q (λ z. omega arith) (λ z. omega arith))) ∙ went_on (r ∷ rs') (on_line st2 q) g))
        by [] f =
            let st2 : State = state (reading b 2 n m (l + 1)) cs rs in
            let w = last-piece q st2 (ap stopped f ∙ sound.goes) in
            let g : st2 ≡ fin = sym w.same ∙ f in
            let gn : n ≡ N = ap (λ (s : State). s.reading.cells) g in
            let gm : m ≡ M = ap (λ (s : State). s.reading.rings) g in
            let v : l - 1 - N ≡ M = omega arith in
            record {
              many = 1;
              count = omega arith;
              text = ap (λ (x : List ℕ). p ++ (10 ∷ x)) w.nothing ∙ t ∙ last_line b fin.cells N fin.rings M l (λ z. omega arith) (omega arith) (omega arith) v ∙ sym (append-nil (line l));
              fixed = λ z. sym gn;
              kept-opening = sym (ap opening_in g);
              counts = record { least = subst (λ (i : ℕ). least b ≤ i) gn enough; most = subst (λ (i : ℕ). i ≤ most b) gn top };
            }

    a-line : Rest n m l (p ∷ q ∷ ls)
    a-line = by (kind b n m l cs rs p (omega arith) (went_on (q ∷ ls) (on_line st p) (ap stopped on ∙ sound.goes)))
      where
        by : Kind b n m l cs rs p → Rest n m l (p ∷ q ∷ ls)
        by (cell x y z w em lt h k) = a-cell x y z w em lt h k
        by (ring x y z w enough h k) = a-ring x y z w h k
        by (end enough t k) = an-end enough t k

  pub rest : (ls : List (List ℕ)) → 0 < length ls → Again ls
  rest [] h n m l cs rs e top el few = absurd (omega arith)
  rest (p ∷ []) h n m l cs rs e top el few =
      let w = last-piece p (state (reading b 1 n m l) cs rs) (ap stopped e ∙ sound.goes) in
      absurd (omega (arith, w.end))
  rest (p ∷ q ∷ ls) h n m l cs rs e top el few = a-line n m l cs rs p q ls e top el few (rest (q ∷ ls) (omega arith))

-- ---- from the first line on

-- lines from the first on are the lines to a number
lines-joined : (f : ℕ → List ℕ) (j k i : ℕ) → i ≡ k + j → lines_to f k ++ lines_from f k j ≡ lines_to f i
unfolding lines_to lines_from
lines-joined f zero k i e = let q : i ≡ k = omega arith in append-nil (lines_to f k) ∙ ap (lines_to f) (sym q)
lines-joined f (suc j) k i e = sym (append_assoc (lines_to f k) (f k) (lines_from f (suc k) j)) ∙ lines-joined f j (suc k) i (omega arith)

-- what the first line said
told : (f : Option First) (r : Reading) → (begun r f).refused ≡ false → (k : ℕ) × (e : ℕ) × (b : Bar) × (f ≡ first_says k e b)
unfolding begun refusing
told (Some f) r h = (f.form, f.edition, f.bar, refl)
told None r h = absurd (true≢false h)

-- bytes that are the file of what they left, in a form that can say its edition and has so many cell lines
pub record IsFile (fin : State) (s : List ℕ) : Type 0 where
  pub says : CanSay fin.reading.form fin.reading.edition
  pub counts : Counts fin.reading.form fin.reading.cells
  pub text : s ≡ file_of (opening_in fin) fin.cells fin.reading.cells fin.rings fin.reading.rings

-- WRITE AFTER READ: bytes that are not refused, of fewer than 2^64 lines, are the bytes of the file of what they left
pub bytes-spelled : (C R : List Float) (s : List ℕ) → Sound (file_in C R s) → NoNan (bar_numbers (file_in C R s).reading.bar) → length (pieces_of s) < 2 ^ 64 → IsFile (file_in C R s) s
unfolding file_of lines_to lines_from parted
bytes-spelled C R s sound numbers few = by (pieces_of s) refl (some 10 s)
  where
    fin : State
    fin = file_in C R s

    st : State
    st = state fresh_reading C R

    by : (ls : List (List ℕ)) → pieces_of s ≡ ls → 0 < length ls → IsFile fin s
    by [] e h = absurd (omega arith)
    by (p ∷ []) e h =
        let k : walk st (p ∷ []) ≡ fin = ap (walk st) (sym e) in
        let w = last-piece p st (ap stopped k ∙ sound.goes) in
        absurd (omega (arith, w.end))
    by (p ∷ q ∷ ls) e h =
        let k : walk st (p ∷ q ∷ ls) ≡ fin = ap (walk st) (sym e) in
        let n : walk (on_line st p) (q ∷ ls) ≡ fin = sym (next-piece p q ls st (ap stopped k ∙ sound.goes)) ∙ k in
        let f : on_line st p ≡ state (begun fresh_reading (first_of p)) C R = line_first st p refl in
        let g : stopped (on_line st p) ≡ false = went_on (q ∷ ls) (on_line st p) (ap stopped n ∙ sound.goes) in
        let t = told (first_of p) fresh_reading (ap stopped (sym f) ∙ g) in
        let b : Opening = opening t.0 t.1 t.2 in
        let one : 1 ≡ next fresh_reading = omega arith in
        let m : on_line st p ≡ state (reading b 1 0 0 1) C R = f ∙ ap (λ (r : Reading). state r C R) (sym (begun-is fresh_reading (first_of p) _ 1 t.3 one)) in
        let few' : 1 + length (q ∷ ls) < 2 ^ 64 = omega (arith, ap length e) in
        let r = rest b fin sound (q ∷ ls) (omega arith) 0 0 1 C R (ap (λ (x : State). walk x (q ∷ ls)) (sym m) ∙ n) (omega arith) refl few' in
        let w = first-spelled p t.0 t.1 t.2 t.3 in
        let o : NoNan (bar_numbers b.bar) = subst (λ (x : Opening). NoNan (bar_numbers x.bar)) r.kept-opening numbers in
        let line : ℕ → List ℕ = λ (i : ℕ). line_at b fin.cells fin.reading.cells fin.rings fin.reading.rings i in
        record {
          says = subst (λ (x : Opening). CanSay x.form x.edition) (sym r.kept-opening) w.says;
          counts = subst (λ (x : Opening). Counts x.form fin.reading.cells) (sym r.kept-opening) r.counts;
          text = sym (pieces-all s)
              ∙ ap parted e
              ∙ sym (append_assoc p newline (parted (q ∷ ls)))
              ∙ ap (λ (x : List ℕ). x ++ parted (q ∷ ls)) (w.text o ∙ first-line b fin.cells fin.reading.cells fin.rings fin.reading.rings 0 refl)
              ∙ ap (λ (x : List ℕ). line 0 ++ x) r.text
              ∙ lines-joined line r.many 1 (fin.reading.cells + fin.reading.rings + 2) (sym r.count)
              ∙ ap (λ (x : Opening). file_of x fin.cells fin.reading.cells fin.rings fin.reading.rings) (sym r.kept-opening);
        }
