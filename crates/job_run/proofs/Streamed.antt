-- What holds of a job in parts, said of the calls. Assumes nothing.
use Rattle.std.proofs.Common.{◌≡◌, ℕ, zero, suc, ◌+◌, ◌*◌, ◌/◌, ◌<◌, ◌≤◌, Bool, true, false, not, eqb, ltb, List, [], ◌∷◌, ◌++◌, length, get_or, take, drop, sym, refl, ap, ◌∙◌, subst, arith, drop_of_length-le, ltb-false, ltb-true, ne_eqb}
use mathlib.Core.List.{foldl}
use lib.Seq.{sets-eq, take-append_seam}
use lib.Ieee.{Float}
use Rattle.text.specs.Lines.{ring_line}
use Rattle.text.specs.Wrote.{line_room, WroteLine}
use Rattle.text.proofs.Chosen.{yes, no}
use Rattle.lines.specs.File.{joined}
use Rattle.job_answer.specs.Lines.{cell_line, gen_line, refused_line}
use Rattle.job_answer.specs.Answer.{cell_line_at, ring_line_at, lines_to, answer_of}
use Rattle.job_run.specs.declared.Run.{Run}
use Rattle.job_run.specs.Run.{State, state, fresh_run, stopped, Hold, byte_on, output_of, job_of}
use Rattle.job_run.specs.InParts.{Took, start, part, Told, last, line, Answered}
use Rattle.job_run.proofs.WholeFile.{take_parts, end_of, however-cut}
use Rattle.job_run.proofs.Room.{alike-job, alike-output, alike-fresh}

-- the calls are the parts taken one after the other
pub took-parts : {h k : Hold} {ps : List (List ℕ)} → Took h ps k → k ≡ take_parts h ps
took-parts start = refl
took-parts (part {p = p} {ps = ps} t r) = took-parts r ∙ ap (λ (x : Hold). take_parts x ps) t.same

-- ---- no more than 127 bytes are held

byte-at-most : (h : Hold) (b : ℕ) → h.len ≤ 127 → (byte_on h b).len ≤ 127
unfolding byte_on
byte-at-most h b w = by (stopped h.state) refl (eqb b 10) refl (ltb h.len 127) refl
  where
    by : (t : Bool) → stopped h.state ≡ t → (u : Bool) → eqb b 10 ≡ u → (v : Bool) → ltb h.len 127 ≡ v → (byte_on h b).len ≤ 127
    by true e u f v g = simp (e, yes) w
    by false e true f v g = simp (e, f, no, yes) (omega arith)
    by false e false f true g = let r : h.len < 127 = ltb-true _ _ g in simp (e, f, g, no, yes) (omega (arith, r))
    by false e false f false g = simp (e, f, g, no) (omega arith)

bytes-at-most : (s : List ℕ) (h : Hold) → h.len ≤ 127 → (foldl byte_on h s).len ≤ 127
bytes-at-most [] h w = w
bytes-at-most (b ∷ s) h w = bytes-at-most s (byte_on h b) (byte-at-most h b w)

-- ONLY THE UNFINISHED LINE IS HELD OVER, 127 bytes of it at most: whatever parts a run takes that holds no more.
pub held-at-most : {h k : Hold} {ps : List (List ℕ)} → Took h ps k → h.len ≤ 127 → k.len ≤ 127
held-at-most start w = w
held-at-most (part {p = p} t r) w = held-at-most r (subst (λ (x : Hold). x.len ≤ 127) (sym t.same) (bytes-at-most p _ w))

-- ---- a refused line is the last

byte-stays : (h : Hold) (b : ℕ) → stopped h.state ≡ true → byte_on h b ≡ h
unfolding byte_on
byte-stays h b e = simp (e, yes)

bytes-stay : (s : List ℕ) (h : Hold) → stopped h.state ≡ true → foldl byte_on h s ≡ h
bytes-stay [] h e = refl
bytes-stay (b ∷ s) h e = ap (λ (x : Hold). foldl byte_on x s) (byte-stays h b e) ∙ bytes-stay s h e

pub parts_stay : (ps : List (List ℕ)) (h : Hold) → stopped h.state ≡ true → take_parts h ps ≡ h
parts_stay [] h e = refl
parts_stay (p ∷ ps) h e = ap (λ (x : Hold). take_parts x ps) (bytes-stay p h e) ∙ parts_stay ps h e

-- AFTER A REFUSAL NO BYTE CHANGES ANYTHING: the run, its cells and rings and the line stay, whatever parts come.
pub refused-stays : {h k : Hold} {ps : List (List ℕ)} → Took h ps k → (h.state.run.refused ≡ 0 → ⊥) → k ≡ h
refused-stays {h} {k} {ps} t r = took-parts t ∙ parts_stay ps h (ap not (ne_eqb _ _ r))

-- ---- the lines that are put

-- a line that is put stands at the front of what was lent
told-front : {l t m : List ℕ} {j : ℕ} → length l ≡ line_room → WroteLine l t m j → take j m ≡ t
told-front {l} {t} {m} {j} h w =
    let k : j ≡ length t = omega (arith, w.wrote.end) in
    rw (k, w.wrote.text, sets-eq t l 0 (omega (arith, h, k, w.within))) (take-append_seam t (drop (0 + length t) l))

-- no line is empty
record Full (ls : List (List ℕ)) : Type 0 where
  each : (k : ℕ) → k < length ls → 0 < length (get_or ls k [])

full-one : (l : List ℕ) → 0 < length l → Full (l ∷ [])
full-one l h = record { each = at }
  where
    at : (k : ℕ) → k < 1 → 0 < length (get_or (l ∷ []) k [])
    at zero w = h
    at (suc k) w = absurd (omega arith)

full-append : (ls ms : List (List ℕ)) → Full ls → Full ms → Full (ls ++ ms)
full-append [] ms f g = g
full-append (l ∷ ls) ms f g = record { each = at (full-append ls ms (record { each = λ k w. f.each (suc k) (omega arith) }) g) }
  where
    at : Full (ls ++ ms) → (k : ℕ) → k < length (l ∷ (ls ++ ms)) → 0 < length (get_or (l ∷ (ls ++ ms)) k [])
    at rest zero w = f.each 0 (omega arith)
    at rest (suc k) w = rest.each k (omega arith)

full-lines : (f : ℕ → List ℕ) → ((i : ℕ) → 0 < length (f i)) → (n : ℕ) → Full (lines_to f n)
unfolding lines_to
full-lines f h zero = record { each = λ k w. absurd (omega arith) }
full-lines f h (suc n) = full-append (lines_to f n) (f n ∷ []) (full-lines f h n) (full-one (f n) (h n))

full-output : (st : State) → Full (output_of st)
unfolding output_of answer_of cell_line ring_line gen_line refused_line
full-output st = by (eqb st.run.refused 0) refl
  where
    xs : List Float
    xs = take (4 * st.run.job.cells) st.cells

    ys : List Float
    ys = take (4 * st.run.job.stock.rings) st.rings

    by : (t : Bool) → eqb st.run.refused 0 ≡ t → Full (answer_of st.run.refused st.run.lines st.run.job.stock.stamp.generation xs ys)
    by true e =
        simp (e, yes)
        (full-append (lines_to (cell_line_at xs) (length xs / 4)) (lines_to (ring_line_at ys) (length ys / 4) ++ (gen_line st.run.job.stock.stamp.generation ∷ []))
        (full-lines (cell_line_at xs) (λ i. omega arith) (length xs / 4))
        (full-append (lines_to (ring_line_at ys) (length ys / 4)) (gen_line st.run.job.stock.stamp.generation ∷ []) (full-lines (ring_line_at ys) (λ i. omega arith) (length ys / 4)) (full-one (gen_line st.run.job.stock.stamp.generation) (omega arith))))
    by false e = simp (e, no) (full-one (refused_line st.run.lines st.run.refused) (omega arith))

-- the bytes from a line on
joined-past : (ls : List (List ℕ)) (k : ℕ) → Full ls → get_or ls k [] ≡ [] → joined (drop k ls) ≡ []
unfolding joined
joined-past ls k f e = by (ltb k (length ls)) refl
  where
    by : (t : Bool) → ltb k (length ls) ≡ t → joined (drop k ls) ≡ []
    by true w = absurd (let z : length (get_or ls k []) ≡ 0 = ap length e in omega (arith, z, f.each k (ltb-true _ _ w)))
    by false w = ap joined (drop_of_length-le ls (ltb-false _ _ w))

joined-from : (ls : List (List ℕ)) (k : ℕ) → joined (drop k ls) ≡ get_or ls k [] ++ joined (drop (suc k) ls)
unfolding joined
joined-from [] zero = refl
joined-from [] (suc k) = refl
joined-from (l ∷ ls) zero = refl
joined-from (l ∷ ls) (suc k) = joined-from ls k

told-all : {st : State} {k : ℕ} {s : List ℕ} → Told st k s → s ≡ joined (drop k (output_of st))
told-all {st} (last {k = k} h w) = sym (joined-past (output_of st) k (full-output st) (sym (told-front h w)))
told-all {st} (line {k = k} {j = j} {m = m} h w p r) =
    ap (λ (x : List ℕ). take j m ++ x) (told-all r) ∙ ap (λ (x : List ℕ). x ++ joined (drop (suc k) (output_of st))) (told-front h w) ∙ sym (joined-from (output_of st) k)

-- ---- however the bytes are cut

-- HOWEVER A FILE IS CUT INTO PARTS, also with nothing in some, with none at all or inside a number: the run at the end is the job of the whole file, and the bytes that are put are those of its answer.
pub calls-however-cut : {edition : ℕ} {ps : List (List ℕ)} {s : List ℕ} (a : Answered edition ps s) → (state a.end a.left.state.cells a.left.state.rings ≡ job_of (state (fresh_run edition) a.cells a.rings) (joined ps))
    × (s ≡ joined (output_of (job_of (state (fresh_run edition) a.cells a.rings) (joined ps))))
calls-however-cut {edition} {ps} {s} a =
    let e : state a.end a.left.state.cells a.left.state.rings ≡ job_of (state (fresh_run edition) a.cells a.rings) (joined ps) =
    ap (λ (r : Run). state r a.left.state.cells a.left.state.rings) a.finished
    ∙ ap end_of (took-parts a.took)
    ∙ however-cut (state (fresh_run edition) a.cells a.rings) a.held ps (omega (arith, a.room.line)) in
    (e, told-all a.told ∙ ap (λ (x : State). joined (output_of x)) e)

-- WHAT THE ROOM HELD BEFORE THE FIRST BYTE DOES NOT SHOW, AND NO EDITION DOES: a file has one answer, whatever the lent cells and rings held and whatever edition its stock has.
pub fresh-room : (d e : ℕ) (cs ds rs ss : List Float) (s : List ℕ) → length cs ≡ length ds → length rs ≡ length ss → output_of (job_of (state (fresh_run d) cs rs) s) ≡ output_of (job_of (state (fresh_run e) ds ss) s)
fresh-room d e cs ds rs ss s ec er =
    let a = state (fresh_run d) cs rs in
    let b = state (fresh_run e) ds ss in
    alike-output _ _ (alike-job s a b (alike-fresh a b refl refl refl refl refl refl refl ec er))

-- THE SAME BYTES, CUT IN TWO WAYS and taken in two rooms, are answered with the same bytes.
pub same-file-same-answer : {d e : ℕ} {ps qs : List (List ℕ)} {s t : List ℕ} → Answered d ps s → Answered e qs t → joined ps ≡ joined qs → s ≡ t
same-file-same-answer {d} {e} {ps} {qs} {s} {t} a b same =
    (calls-however-cut a).1
    ∙ ap joined (fresh-room d e a.cells b.cells a.rings b.rings (joined ps) (a.room.cells ∙ sym b.room.cells) (a.room.rings ∙ sym b.room.rings))
    ∙ ap (λ (x : List ℕ). joined (output_of (job_of (state (fresh_run e) b.cells b.rings) x))) same
    ∙ sym (calls-however-cut b).1
