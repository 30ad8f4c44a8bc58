-- The lines of an answer put one behind the other. Assumes nothing.
use mathlib.Core.Path.{◌≡◌, refl, sym, ap, ◌∙◌, subst}
use mathlib.Core.Bool.{Bool, true, false}
use mathlib.Core.List.{List, [], ◌∷◌, ◌++◌, append_assoc, append-nil}
use Prim.Native.Nat.{ℕ, zero, suc, ◌+◌, ◌≤◌}
use native.Mathlib.Numerals.{add-one}
use native.Mathlib.Omega.{arith}
use lib.ListN.{length, take, drop, get_or}
use lib.Seq.{sets-eq, take_all}
use Rattle.text.specs.Wrote.{Wrote, WroteLine}
use Rattle.streams.specs.declared.Out.{Out}
use Rattle.streams.specs.Moves.{Gathers, Puts}
use Rattle.lines.specs.File.{joined}
use Rattle.job_run.specs.Run.{most_lines}
use Rattle.job_streams.specs.Write.{PutsLine, AllPut}

-- a text at the front of a buffer
take-front : (t s : List ℕ) → take (length t) (t ++ s) ≡ t
take-front [] s = refl
take-front (b ∷ t) s = ap (λ (x : List ℕ). b ∷ x) (take-front t s)

pub wrote-front : {l t m : List ℕ} {j : ℕ} → length t ≤ length l → Wrote l 0 t m j → take j m ≡ t
wrote-front {l} {t} {m} {j} h w = let k : j ≡ length t = omega (arith, w.end) in rw (k, w.text, sets-eq t l 0 (omega (arith, h))) (take-front t (drop (0 + length t) l))

-- the bytes of a line put behind what is gathered
pub put-line : {ls : List (List ℕ)} {k j : ℕ} {out r : Out} {buf buf' l m : List ℕ} → length ls ≤ most_lines → j ≤ length l → WroteLine l (get_or ls k []) m j → Puts out buf (take j m) r buf' → PutsLine ls k out buf r buf'
put-line {ls} {k} {j} {out} {r} {buf} {buf'} most h w p = record {
  most = most;
  puts = subst (λ (t : List ℕ). Puts out buf t r buf') (wrote-front (omega (arith, h, w.wrote.end)) w.wrote) p;
}

-- the bytes of one line more
joined-more : (ls : List (List ℕ)) (k : ℕ) → joined (take (suc k) ls) ≡ joined (take k ls) ++ get_or ls k []
unfolding joined
joined-more [] zero = refl
joined-more [] (suc k) = refl
joined-more (l ∷ ls) zero = append-nil l
joined-more (l ∷ ls) (suc k) = ap (λ (x : List ℕ). l ++ x) (joined-more ls k) ∙ sym (append_assoc l (joined (take k ls)) (get_or ls k []))

-- bytes put behind those that were put
gathers-more : {a b p p' : List ℕ} → Gathers [] a p → Gathers p b p' → Gathers [] (a ++ b) p'
gathers-more {a} {b} {p} {p'} g h = record {
  handed = g.handed ++ h.handed;
  split = append_assoc g.handed h.handed p' ∙ ap (λ (x : List ℕ). g.handed ++ x) h.split ∙ sym (append_assoc g.handed p b) ∙ ap (λ (x : List ℕ). x ++ b) g.split;
}

-- a write that failed stays failed
not-failed : (a b : Bool) → (a ≡ true → b ≡ true) → b ≡ false → a ≡ false
not-failed true b h e = sym (h refl) ∙ e
not-failed false b h e = refl

-- nothing yet
pub put-none : (out : Out) (buf : List ℕ) → out.len ≡ 0 → AllPut [] out buf
unfolding joined
put-none out buf e = record { all = λ f. record { handed = []; split = ap (λ (n : ℕ). take n buf) e } }

-- one line more
pub put-more : (ls : List (List ℕ)) {k : ℕ} {out r : Out} {buf buf' : List ℕ} → AllPut (take k ls) out buf → PutsLine ls k out buf r buf' → AllPut (take (k + 1) ls) r buf'
put-more ls {k} {out} {r} {buf} {buf'} a p = record {
  all = λ f. rw (add-one k, joined-more ls k) (gathers-more (a.all (not-failed out.failed r.failed p.puts.stopped f)) (p.puts.gathers f));
}

-- as many lines as there are
pub put_all : (ls : List (List ℕ)) {k : ℕ} {out : Out} {buf : List ℕ} → AllPut (take k ls) out buf → length ls ≤ k → AllPut ls out buf
put_all ls {k} {out} {buf} a h = subst (λ (x : List (List ℕ)). AllPut x out buf) (take_all k ls h) a
