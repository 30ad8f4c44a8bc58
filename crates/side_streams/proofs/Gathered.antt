-- What is gathered from the first byte on: a line, or all chunks. Assumes nothing.
use Prim.Native.Nat.{ℕ, zero, suc, ◌+◌, ◌≤◌}
use native.Mathlib.Omega.{arith}
use mathlib.Core.Path.{◌≡◌, refl, sym, ap, ◌∙◌, subst}
use mathlib.Core.List.{List, [], ◌∷◌, ◌++◌, append_assoc, append-nil}
use lib.ListN.{length, take, get_or}
use Rattle.text.specs.Wrote.{Wrote, WroteLine, line_room}
use Rattle.stock_lines.proofs.Steps.{wrote-front}
use Rattle.streams.specs.declared.Out.{Out}
use Rattle.streams.specs.Moves.{Gathers, Puts}
use Rattle.lines.specs.File.{joined}
use Rattle.stock_file.specs.Write.{lines_to}
use Rattle.stock_streams.specs.Write.{AllPut}
use Rattle.stock_streams.proofs.Putting.{put-more}
use Rattle.side_by_side.specs.Compared.{Side, chunk_of}
use Rattle.side_streams.proofs.Short.{chunk-short}

-- a text put where nothing is gathered yet
put_first : {t : List ℕ} {out r : Out} {buf buf' : List ℕ} → out.len ≡ 0 → Puts out buf t r buf' → AllPut t r buf'
put_first {t} {out} {r} {buf} {buf'} e p = record {
  all = λ f. subst (λ (n : ℕ). Gathers (take n buf) t (take r.len buf')) e (p.gathers f);
}

-- a line
pub line-put : {l m t s : List ℕ} {n : ℕ} {out r : Out} {buf buf' : List ℕ} → length l ≡ line_room → WroteLine l t m n → s ≡ take n m → out.len ≡ 0 → Puts out buf s r buf' → AllPut t r buf'
line-put {l} {m} {t} {s} {n} {out} {r} {buf} {buf'} room w f e p =
    let g : n ≤ length l = omega (arith, room, w.within) in
    put_first e (subst (λ (x : List ℕ). Puts out buf x r buf') (f ∙ wrote-front w.wrote g) p)

-- one chunk more
pub chunk-put : (a b : Side) (c : ℕ) {l m s : List ℕ} {n : ℕ} {out r : Out} {buf buf' : List ℕ} → length l ≡ 18688 → AllPut (lines_to (chunk_of a b) c) out buf
    → Wrote l 0 (chunk_of a b c) m n → s ≡ take n m → Puts out buf s r buf' → AllPut (lines_to (chunk_of a b) (c + 1)) r buf'
chunk-put a b c {l} {m} {s} {n} {out} {r} {buf} {buf'} room h w f p =
    let g : n ≤ length l = omega (arith, room, w.end, chunk-short a b c) in
    put-more (chunk_of a b) c h (subst (λ (x : List ℕ). Puts out buf x r buf') (f ∙ wrote-front w g) p)

-- ---- chunks by number are the chunks joined

lines_after : (t : List ℕ) (l : List (List ℕ)) (n : ℕ) → lines_to (λ c. get_or (t ∷ l) c []) (suc n) ≡ t ++ lines_to (λ c. get_or l c []) n
unfolding lines_to
lines_after t l zero = sym (append-nil t)
lines_after t l (suc n) = ap (λ (x : List ℕ). x ++ get_or l n []) (lines_after t l n) ∙ append_assoc t (lines_to (λ c. get_or l c []) n) (get_or l n [])

pub lines-joined : (l : List (List ℕ)) → lines_to (λ c. get_or l c []) (length l) ≡ joined l
unfolding lines_to joined
lines-joined [] = refl
lines-joined (t ∷ l) = lines_after t l (length l) ∙ ap (λ (x : List ℕ). t ++ x) (lines-joined l)
