-- What the files told, and what is put of them. Assumes nothing.
use Prim.Native.Nat.{ℕ, ◌*◌}
use mathlib.Core.Path.{◌≡◌, refl, sym, ap, ◌∙◌, subst}
use mathlib.Core.List.{List, []}
use lib.ListN.{length, take}
use lib.Ieee.{Float}
use Rattle.std.specs.Prelude.{Result, Err, Ok}
use Rattle.refusals.specs.declared.Refused.{Refused}
use Rattle.refusals.specs.declared.Refusal.TheVariants.{FileMalformed}
use Rattle.refusals.specs.Number.{placed_of, reason_in, refused_at}
use Rattle.refusals.specs.Limits.{cell_limit, ring_limit}
use Rattle.refusals.specs.Paper.{Paper, Reason, answers, refuses, demand, demand_at, onward}
use Rattle.floats.specs.Pick.{pick}
use Rattle.text.specs.Parts.{parted_at}
use Rattle.stock.specs.declared.TurnStockSpec.{TurnStockSpec}
use Rattle.stock.proofs.Count.{demanded, same_answer, no_answer}
use Rattle.streams.specs.declared.Out.{Out}
use Rattle.lines.specs.File.{ended, over_pieces, joined}
use Rattle.stock_lines.specs.Reading.{refusing}
use Rattle.stock_file.specs.declared.Kept.{Kept}
use Rattle.stock_file.specs.Read.{told_as, read_of, file_in}
use Rattle.stock_file.specs.Write.{lines_to}
use Rattle.stock_streams.specs.Read.{StockOfSome}
use Rattle.stock_streams.specs.Write.{AllPut}
use Rattle.side_by_side.specs.Compared.{Side, side, same_bar, both_in_hand, chunks_of, chunk_of, compared_of, chunk_count}
use Rattle.side_by_side.specs.Refused.{file_refused, pair_refused}
use Rattle.side_by_side.specs.Files.{Told, compared_text, second_text, first_text}
use Rattle.side_streams.specs.Put.{SomeFile, told_by, SecondPut, FilesPut}
use Rattle.side_streams.proofs.Gathered.{lines-joined}

-- ---- two stocks

-- what is compared are the chunks
compared-chunks : (s t : TurnStockSpec) (a b : Side) (l : List (List ℕ)) → compared_of s a t b ≡ answers l → l ≡ chunks_of a b
unfolding compared_of
compared-chunks s t a b l h =
    let d = demanded (same_bar s t) 24 (demand (both_in_hand a b) 11 (answers (chunks_of a b))) l h in
    sym (same_answer (demanded (both_in_hand a b) 11 (answers (chunks_of a b)) l d.1).1)

pub pair-chunks : (s t : TurnStockSpec) (a b : Side) (n : ℕ) (out : Out) (buf : List ℕ) → answers n ≡ chunk_count (compared_of s a t b) → AllPut (lines_to (chunk_of a b) n) out buf → AllPut (compared_text (compared_of s a t b)) out buf
unfolding chunk_count onward
pair-chunks s t a b n out buf e p = go (compared_of s a t b) refl e
  where
    go : (q : Paper (List (List ℕ))) → compared_of s a t b ≡ q → answers n ≡ onward q (λ l. answers (length l)) → AllPut (compared_text q) out buf
    go (answers l) h f =
        let c = compared-chunks s t a b l h in
        let m : n ≡ length (chunks_of a b) = same_answer f ∙ ap length c in
        subst (λ (x : List ℕ). AllPut x out buf) (ap (lines_to (chunk_of a b)) m ∙ lines-joined (chunks_of a b) ∙ ap joined (sym c)) p
    go (refuses r) h f = absurd (no_answer r n (sym f))

pub pair-refused : (p : Paper (List (List ℕ))) (q : Paper ℕ) (r : Reason) (out : Out) (buf : List ℕ) → q ≡ refuses r → q ≡ chunk_count p → AllPut (pair_refused q) out buf → AllPut (compared_text p) out buf
unfolding chunk_count onward
pair-refused (answers l) q r out buf e f a = absurd (no_answer r (length l) (sym e ∙ f))
pair-refused (refuses s) q r out buf e f a = subst (λ (x : Paper ℕ). AllPut (pair_refused x) out buf) f a

-- ---- a file

-- one that cannot be opened has no bytes: its first line is missing
pub no-file : (r : Refused) (cs rs : List Float) → r ≡ refused_at FileMalformed 1 → StockOfSome cell_limit (Err r) cs cs rs rs
unfolding parted_at over_pieces ended refusing told_as demand_at pick
no-file r cs rs e = record { bytes = []; told = ap (λ (x : Refused). refuses (reason_in x)) e; cells = refl; rings = refl }

-- one that was read in a room of that length
module _ {r : Result Kept Refused} {cs cs' rs rs' : List Float} (hc : length cs ≡ 4 * cell_limit) (hr : length rs ≡ 4 * ring_limit) (s : StockOfSome cell_limit r cs cs' rs rs') where
  file : SomeFile
  file = record { bytes = s.bytes; cells = cs; rings = rs; cell_room = hc; ring_room = hr }

  abbrev told-as : Paper Kept → List Float → List Float → Told
  told-as p xs ys = record { tells = p; cells = xs; rings = ys }

  -- it is refused
  module _ (x : Reason) (e : placed_of r ≡ refuses x) (out : Out) (buf : List ℕ) where
    refused_as : (n : ℕ) → AllPut (file_refused n (placed_of r)) out buf → AllPut (file_refused n (refuses x)) out buf
    refused_as n a = subst (λ (p : Paper Kept). AllPut (file_refused n p) out buf) e a

    pub second-refused : (k : Kept) (xs ys : List Float) → AllPut (file_refused 2 (placed_of r)) out buf → SecondPut k xs ys out buf
    unfolding file
    second-refused k xs ys a = record {
      second = file;
      put = subst (λ (p : Paper Kept). AllPut (second_text k (told-as (answers k) xs ys) p (told_by file)) out buf) (sym e ∙ s.told) (refused_as 2 a);
    }

    pub first-refused : AllPut (file_refused 1 (placed_of r)) out buf → FilesPut out buf
    unfolding file
    first-refused a = record {
      first = file;
      second = file;
      put = subst (λ (p : Paper Kept). AllPut (first_text p (told_by file) (told_by file)) out buf) (sym e ∙ s.told) (refused_as 1 a);
    }

  -- it tells a stock
  module _ (here : Kept) (e : r ≡ Ok here) (out : Out) (buf : List ℕ) where
    tells : answers here ≡ read_of cell_limit cs rs s.bytes
    tells = sym (ap placed_of e) ∙ s.told

    pub second-stock : (k : Kept) (xs ys a b : List Float) → a ≡ take (4 * k.cells) xs → b ≡ take (4 * here.cells) cs'
        → AllPut (compared_text (compared_of k.stock.spec (side a ys k.stock.rings) here.stock.spec (side b rs' here.stock.rings))) out buf → SecondPut k xs ys out buf
    unfolding file
    second-stock k xs ys a b f g p =
        let text : List Float → List Float → List Float → List ℕ = λ u v w. compared_text (compared_of k.stock.spec (side u ys k.stock.rings) here.stock.spec (side v w here.stock.rings)) in
        let t : text a b rs' ≡ text (take (4 * k.cells) xs) (take (4 * here.cells) (file_in cs rs s.bytes).cells) (file_in cs rs s.bytes).rings =
        ap (λ (u : List Float). text u b rs') f
        ∙ ap (λ (v : List Float). text (take (4 * k.cells) xs) v rs') (g ∙ ap (take (4 * here.cells)) s.cells)
        ∙ ap (text (take (4 * k.cells) xs) (take (4 * here.cells) (file_in cs rs s.bytes).cells)) s.rings in
        record {
          second = file;
          put = subst (λ (q : Paper Kept). AllPut (second_text k (told-as (answers k) xs ys) q (told_by file)) out buf) tells (subst (λ (x : List ℕ). AllPut x out buf) t p);
        }

    pub first-stock : SecondPut here cs' rs' out buf → FilesPut out buf
    unfolding file
    first-stock p =
        let g = told_by p.second in
        let t : told-as (answers here) cs' rs' ≡ told_by file =
        ap (λ (q : Paper Kept). told-as q cs' rs') tells
        ∙ ap (λ (x : List Float). told-as (read_of cell_limit cs rs s.bytes) x rs') s.cells
        ∙ ap (told-as (read_of cell_limit cs rs s.bytes) (file_in cs rs s.bytes).cells) s.rings in
        record {
          first = file;
          second = p.second;
          put = subst (λ (q : Paper Kept). AllPut (first_text q (told_by file) g) out buf) tells (subst (λ (f : Told). AllPut (second_text here f g.tells g) out buf) t p.put);
        }
