-- The third demand over other runs of calls: over records, over commits that ask nothing again, and over calls whose answers are not known beforehand. Each is a run of
-- `Ran`, so every law of proofs/Calls is of it too. Assumes nothing.
use Rattle.std.specs.Prelude.{Ok, Result}
use mathlib.Core.Path.{◌≡◌, refl, sym, ap, ap₂, ◌∙◌, subst}
use mathlib.Core.Bool.{true}
use mathlib.Core.List.{List, [], ◌∷◌, ◌++◌, Permᴰ}
use Prim.Native.Nat.{ℕ, ◌+◌, ◌*◌, ◌≤◌, ◌<◌, min}
use Rattle.refusals.specs.declared.Refused.{Refused}
use Rattle.refusals.specs.Number.{paper_of, placed_of}
use Rattle.refusals.specs.declared.Refusal.{Refusal}
use native.Mathlib.Omega.{arith}
use lib.ListN.{length, take, drop, replicate, length-replicate}
use lib.Ieee.{Float}
use Rattle.refusals.specs.Lent.{over}
use Rattle.refusals.specs.Paper.{Paper, answers, refuses, onward, onward-answers}
use Rattle.refusals.specs.Limits.{last_generation}
use Rattle.floats.specs.Each.{Each}
use Rattle.floats.specs.Numbers.{zero64}
use Rattle.floats.proofs.Folds.{each-perm}
use Rattle.stock.specs.declared.TurnStockSpec.{TurnStockSpec}
use Rattle.stock.specs.declared.TurnChange.{TurnChange}
use Rattle.stock.specs.declared.TurnSide.{TurnSide}
use Rattle.stock.specs.Cell.{cell_at, stock_of}
use Rattle.stock.proofs.Count.{no_answer, same_answer, stocked}
use Rattle.stock.proofs.Bins.{HeldSpec, HeldList}
use Rattle.reach.specs.Reach.{act_cell}
use Rattle.stock.specs.declared.TurnStock.{TurnStock}
use Rattle.stock.specs.declared.Stamp.{Stamp}
use Rattle.stock.specs.Spec.{clean_spec, cells_of}
use Rattle.stock.specs.Stock.{stamp_of, stock_from, stock_with}
use Rattle.changes.specs.declared.ChangeList.{ChangeList}
use Rattle.changes.specs.Change.{changes_from, changes_to, room_of, settled, stamped, count_of, written_of, indices_of, numbers_of, Proposed}
use Rattle.changes.proofs.Proposals.{listed, of-stock, same-listing}
use Rattle.changes.proofs.Accepted.{commit-accepts, put-good}
use Rattle.changes.specs.Commit.{Committed, put_all, commit_in, asked_stock, commit_of, own_commit, commit_held, apply_of, generation_of, stock_at, cells_after, Applies, numbers_kept, kept_after, AppliesKept}
use Rattle.changes.proofs.Stamped.{Matching, own-commit}
use Rattle.cuts.specs.Preview.{proposed}
use Rattle.changes.proofs.Proposal.{wrote, room-kept, held-is, lent_is, lent-accepts, act-cuts}
use Rattle.changes.proofs.Written.{asked_is, apply-is, same_outcome}
use Rattle.stock.proofs.Stamps.{own-stamp}
use Rattle.changes.proofs.Stocks.{Good, stock-good, good-stock}
use Rattle.change_slices.specs.Proposal.{Written}
use Rattle.demands.specs.Tool.{Cutter, cutter_act, cutter_preview, cutter_good, HeldCutter, ToolsOf, ToolsJob}
use Rattle.demands.specs.Run.{Ran, start, cut, RanRecords, no-records, records-cut, RanUnasked, none-asked, unasked-cut, Tried, all_made, not-previewed, not-committed, made}
use Rattle.demands.proofs.Tools.{tool-rule, accepted-good, good-accepted, tool-sound}
use Rattle.demands.proofs.Matched.{commit-matching, kept-own, own-matching}
use Rattle.demands.proofs.Calls.{answered, called, run-any-order}
use Rattle.demands.proofs.Third.{perm-length}
use Rattle.demands.proofs.Second.{preview-is}

-- ---- a preview and a commit by their rules are two calls

-- what an accepted preview lists finds room, and so is settled
preview-settled : (spec : TurnStockSpec) (t : Cutter) (cs : List Float) (room : ℕ) (l : List TurnChange) → cutter_preview spec t cs room ≡ answers l → settled room l ≡ answers l
preview-settled spec t cs room l e =
    let p = preview-is spec t cs room l e in
    let rule = tool-rule spec p.0 t (accepted-good spec t cs room l e) cs room p.1 in
    ap (settled room) p.2 ∙ sym rule ∙ e

-- lists with room for so many changes, whatever they hold
abbrev indices : ℕ → List ℕ
indices room = replicate room 0

abbrev numbers : ℕ → List Float
numbers room = replicate (8 * room) zero64

room-is : (room : ℕ) → room_of (length (indices room)) (length (numbers room)) ≡ room
room-is room = let a = length-replicate {A = ℕ} room 0 in let b = length-replicate {A = Float} (8 * room) zero64 in omega arith

module _ (spec : TurnStockSpec) (edition rings : ℕ) where
  -- the stock at a generation, and a list of so many changes of it
  abbrev stock : ℕ → TurnStock
  stock gen = stock_from spec edition rings gen

  abbrev list_at : ℕ → ℕ → ChangeList
  list_at gen c = record { count = c; stamp = stamp_of edition gen }

  applied-as : (p : Paper Committed) (gen : ℕ) (k : Committed) (cs : List Float) → p ≡ answers k → Applies (stock gen) p (Ok (stock k.generation)) cs k.cells
  applied-as p gen k cs e = record { answer = ap (λ (q : Paper Committed). stock_at (stock gen) (generation_of q)) (sym e); cells = ap (λ (q : Paper Committed). cells_after q cs) (sym e) }

  -- the same with its kept numbers
  applied-kept : (p : Paper Committed) (gen : ℕ) (k : Committed) (cs bs : List Float) → p ≡ answers k → AppliesKept (stock gen) p (Ok (stock k.generation)) cs k.cells bs (numbers_kept spec k.cells)
  applied-kept p gen k cs bs e = record { left = applied-as p gen k cs e; kept = ap (λ (q : Paper Committed). kept_after (stock gen) q bs) (sym e) }

  -- a commit that answered
  applied-is : (p : Paper Committed) (gen g : ℕ) (cs cs' : List Float) → Applies (stock gen) p (Ok (stock g)) cs cs' → p ≡ answers (record { cells = cs'; generation = g })
  applied-is (answers k) gen g cs cs' a = λ i. answers (record { cells = sym a.cells i; generation = sym (ap (λ (x : TurnStock). x.stamp.generation) (same_answer a.answer)) i })
  applied-is (refuses n) gen g cs cs' a = absurd (no_answer n (stock g) (sym a.answer))

-- a preview by its rule, into lists made for it: it is the call that proposes the changes, and that settles them
record Lists (spec : TurnStockSpec) (edition : ℕ) (t : Cutter) (cs : List Float) (gen room : ℕ) (changes : List TurnChange) : Type 0 where
  previewed : Proposed (stamp_of edition gen) (cutter_preview spec t cs (room_of (length (indices room)) (length (numbers room)))) (Ok (record { count = length changes; stamp = stamp_of edition gen })) (indices room) (over (indices_of changes) (indices room)) (numbers room) (over (numbers_of changes) (numbers room))
  settles : Proposed (stamp_of edition gen) (settled (room_of (length (indices room)) (length (numbers room))) changes) (Ok (record { count = length changes; stamp = stamp_of edition gen })) (indices room) (over (indices_of changes) (indices room)) (numbers room) (over (numbers_of changes) (numbers room))

lists : (spec : TurnStockSpec) (edition : ℕ) (t : Cutter) (cs : List Float) (gen room : ℕ) (changes : List TurnChange) → cutter_preview spec t cs room ≡ answers changes → Lists spec edition t cs gen room changes
lists spec edition t cs gen room changes e =
    let is = indices room in
    let xs = numbers room in
    let is' = over (indices_of changes) is in
    let xs' = over (numbers_of changes) xs in
    let st = stamp_of edition gen in
    record {
      previewed = listed st (cutter_preview spec t cs (room_of (length is) (length xs))) changes is is' xs xs' (ap (cutter_preview spec t cs) (room-is room) ∙ e) refl refl;
      settles = listed st (settled (room_of (length is) (length xs)) changes) changes is is' xs xs' (ap (λ (n : ℕ). settled n changes) (room-is room) ∙ preview-settled spec t cs room changes e) refl refl;
    }

-- a preview and a commit through lent lists with room for so many changes, with kept numbers bs, which leave k
record TwoCalls (spec : TurnStockSpec) (edition rings : ℕ) (t : Cutter) (cs bs : List Float) (gen room : ℕ) (k : Committed) : Type 0 where
  list : ChangeList
  first : List ℕ
  first_left : List ℕ
  second : List Float
  second_left : List Float
  space : room_of (length first) (length second) ≡ room
  previewed : Proposed (stamp_of edition gen) (cutter_preview spec t cs (room_of (length first) (length second))) (Ok list) first first_left second second_left
  committed : AppliesKept (stock_from spec edition rings gen) (apply_of (stock_from spec edition rings gen) cs bs list first_left second_left) (Ok (stock_from spec edition rings k.generation)) cs k.cells bs (numbers_kept spec k.cells)

two-calls : (spec : TurnStockSpec) (edition rings : ℕ) (t : Cutter) (cs bs : List Float) → Matching spec cs bs → (gen room : ℕ) (changes : List TurnChange) (k : Committed) → cutter_preview spec t cs room ≡ answers changes → own_commit spec cs gen changes ≡ answers k → TwoCalls spec edition rings t cs bs gen room k
two-calls spec edition rings t cs bs m gen room changes k e f =
    let is' = over (indices_of changes) (indices room) in
    let xs' = over (numbers_of changes) (numbers room) in
    let list = list_at spec edition rings gen (length changes) in
    let w = lists spec edition t cs gen room changes e in
    record {
      list = list;
      first = indices room;
      first_left = is';
      second = numbers room;
      second_left = xs';
      space = room-is room;
      previewed = w.previewed;
      committed = applied-kept spec edition rings (apply_of (stock_from spec edition rings gen) cs bs list is' xs') gen k cs bs (lent_is (stock_from spec edition rings gen) cs bs m list changes (indices room) is' (numbers room) xs' w.settles ∙ f);
    }

-- one cut more, previewed with room for so many changes and committed, by the rules
pub rule-ran : {spec : TurnStockSpec} {edition rings : ℕ} {t : Cutter} {l : List Cutter} {cs : List Float} {gen : ℕ} {m : Committed} (bs : List Float) → Matching spec cs bs → (room : ℕ) (changes : List TurnChange) (k : Committed) → cutter_preview spec t cs room ≡ answers changes
    → own_commit spec cs gen changes ≡ answers k → Ran spec edition rings k l m → Ran spec edition rings (record { cells = cs; generation = gen }) (t ∷ l) m
rule-ran {spec} {edition} {rings} {t} {l} {cs} {gen} {m} bs match room changes k e f r =
    let w = two-calls spec edition rings t cs bs match gen room changes k e f in
    cut {t = t} {cs = cs} {cs' = k.cells} {bs = bs} {bs' = numbers_kept spec k.cells} {gen = gen} {g = k.generation} {list = w.list} {is = w.first} {is' = w.first_left} {xs = w.second} {xs' = w.second_left} w.previewed w.committed r

-- ---- over records

take-front : {A : Type 0} (xs ys : List A) → take (length xs) (xs ++ ys) ≡ xs
take-front [] ys = refl
take-front (x ∷ xs) ys = ap (λ l. x ∷ l) (take-front xs ys)

take-over : {A : Type 0} (xs b : List A) → take (length xs) (over xs b) ≡ xs
unfolding over
take-over xs b = take-front xs (drop (length xs) b)

-- what was proposed: the changes, and the records that hold them; the list has the stamp of its stock
record Holds (st : Stamp) (p : Paper (List TurnChange)) (list : ChangeList) (rs rs' : List TurnChange) : Type 0 where
  changes : List TurnChange
  answer : p ≡ answers changes
  stamp : list.stamp ≡ st
  records : take list.count rs' ≡ changes

holds : (st : Stamp) (p : Paper (List TurnChange)) (list : ChangeList) (rs rs' : List TurnChange) → Written st p (Ok list) rs rs' → Holds st p list rs rs'
holds st (refuses n) list rs rs' w = absurd (no_answer n list (sym w.answer))
holds st (answers l) list rs rs' w =
    let e : list ≡ record { count = length l; stamp = st } = same_answer w.answer in
    record { changes = l; answer = refl; stamp = ap (λ (x : ChangeList). x.stamp) e; records = ap₂ (λ (x : ChangeList) (y : List TurnChange). take x.count y) e w.records ∙ take-over l rs }

-- A RUN OVER RECORDS is a run of calls through lent lists: what is said of the one holds of the other.
pub records-ran : {spec : TurnStockSpec} {edition rings : ℕ} {k m : Committed} {l : List Cutter} → RanRecords spec edition rings k l m → Ran spec edition rings k l m
records-ran no-records = start
records-ran {spec} {edition} {rings} (records-cut {t} {l} {cs} {cs'} {bs} {bs'} {gen} {g} {list} {rs} {rs'} w a r) =
    let s = stock_from spec edition rings gen in
    let h = holds (stamp_of edition gen) (cutter_preview spec t cs (length rs)) list rs rs' w in
    let m = commit-matching s (stock_from spec edition rings g) cs cs' bs list.stamp (take list.count rs') a.left in
    rule-ran bs m (length rs) h.changes (record { cells = cs'; generation = g }) h.answer
    (sym (own-commit s cs bs h.changes m)
    ∙ ap₂ (commit_of s cs bs) (sym h.stamp) (sym h.records)
    ∙ applied-is spec edition rings (commit_of s cs bs list.stamp (take list.count rs')) gen g cs cs' a.left)
    (records-ran r)

-- ---- where each commit is `commit_unasked`

-- a preview that answered with a list: of how many cells, and that the lists hold as many changes
record Asked (spec : TurnStockSpec) (st : Stamp) (cs : List Float) (list : ChangeList) (is' : List ℕ) (xs' : List Float) : Type 0 where
  bins : ℕ
  counted : stock_of spec cs ≡ answers bins
  stamp : list.stamp ≡ st
  room : list.count ≤ room_of (length is') (length xs')

asked : (spec : TurnStockSpec) (st : Stamp) (t : Cutter) (cs : List Float) (list : ChangeList) (is is' : List ℕ) (xs xs' : List Float) → Proposed st (cutter_preview spec t cs (room_of (length is) (length xs))) (Ok list) is is' xs xs' → Asked spec st cs list is' xs'
asked spec st t cs list is is' xs xs' p =
    let room = room_of (length is) (length xs) in
    let y = answered st (cutter_preview spec t cs room) list p.answer in
    let q = preview-is spec t cs room y.0 y.1 in
    let o = of-stock st (settled room y.0) list is is' xs xs' (same-listing st (settled room y.0) (cutter_preview spec t cs room) (Ok list) is is' xs xs' (preview-settled spec t cs room y.0 y.1 ∙ sym y.1) p) in
    let w = wrote y.0 list.count is is' xs xs' o.tally in
    record { bins = q.0; counted = q.1; stamp = o.stamp; room = rw (w.count, w.indices, w.numbers) (room-kept y.0 is xs w.room) }

-- the rule of the whole commit of such a list, with numbers that match, is that of the commit that asks nothing again
unasked-is : (spec : TurnStockSpec) (edition rings gen n : ℕ) (cs bs : List Float) → Matching spec cs bs → (list : ChangeList) (is' : List ℕ) (xs' : List Float) → stock_of spec cs ≡ answers n → list.stamp ≡ stamp_of edition gen → list.count ≤ room_of (length is') (length xs')
    → apply_of (stock_from spec edition rings gen) cs bs list is' xs' ≡ commit_held (clean_spec spec) n cs gen is' xs' list.count
unasked-is spec edition rings gen n cs bs m list is' xs' e f h =
    let s = stock_from spec edition rings gen in
    let held : list.count ≡ min list.count (room_of (length is') (length xs')) = omega arith in
    apply-is s cs bs list is' xs' n (ap (asked_stock s cs bs) f ∙ asked_is s cs bs (stamp_of edition gen) n e (own-stamp (stamp_of edition gen)) (m n e)) h
    ∙ ap (λ (j : ℕ). commit_in (clean_spec spec) n cs gen (changes_from is' xs' j)) held

-- one cut more whose commit asks nothing again, by the rules
pub rule-unasked : {spec : TurnStockSpec} {edition rings n : ℕ} {t : Cutter} {l : List Cutter} {cs : List Float} {gen : ℕ} {m : Committed} → cells_of spec ≡ answers n → (room : ℕ) (changes : List TurnChange) (k : Committed) → cutter_preview spec t cs room ≡ answers changes
    → own_commit spec cs gen changes ≡ answers k → RanUnasked spec edition rings n k l m → RanUnasked spec edition rings n (record { cells = cs; generation = gen }) (t ∷ l) m
unfolding own_commit
rule-unasked {spec} {edition} {rings} {n} {t} {l} {cs} {gen} count room changes k e f r =
    let p = preview-is spec t cs room changes e in
    let s : p.0 ≡ n = same_answer (sym (stocked spec cs p.0 p.1).count ∙ count) in
    let is' = over (indices_of changes) (indices room) in
    let xs' = over (numbers_of changes) (numbers room) in
    let w = lists spec edition t cs gen room changes e in
    let stock : stock_of spec cs ≡ answers n = p.1 ∙ ap answers s in
    let c : commit_held (clean_spec spec) n cs gen is' xs' (length changes) ≡ answers k =
    held-is (stamp_of edition gen) (list_at spec edition rings gen (length changes)) changes (indices room) is' (numbers room) xs' w.settles (clean_spec spec) n cs gen
    ∙ sym (ap (λ (q : Paper ℕ). onward q (λ j. commit_in (clean_spec spec) j cs gen changes)) stock ∙ onward-answers n _)
    ∙ f in
    unasked-cut {list = list_at spec edition rings gen (length changes)} {is = indices room} {is' = is'} {xs = numbers room} {xs' = xs'} w.previewed (applied-as spec edition rings (commit_held (clean_spec spec) n cs gen is' xs' (length changes)) gen k cs c) r

-- A RUN OF COMMITS THAT ASK NOTHING AGAIN, on the n cells of a stock that is not refused, is a run of calls: with the numbers of the cells kept beside them.
pub unasked-ran : {spec : TurnStockSpec} {edition rings n : ℕ} {k m : Committed} {l : List Cutter} → HeldSpec spec → Each HeldCutter l → Good spec n k.cells → RanUnasked spec edition rings n k l m → Ran spec edition rings k l m
unasked-ran hs ht b none-asked = start
unasked-ran {spec} {edition} {rings} {n} hs ht b (unasked-cut {t} {l} {cs} {cs'} {gen} {g} {list} {is} {is'} {xs} {xs'} p a r) =
    let w = asked spec (stamp_of edition gen) t cs list is is' xs xs' p in
    let stock = stock_from spec edition rings gen in
    let bs = numbers_kept spec cs in
    let f = unasked-is spec edition rings gen n cs bs (own-matching hs b) list is' xs' (good-stock b) w.stamp w.room in
    let c = same_outcome stock (apply_of stock cs bs list is' xs') (commit_held (clean_spec spec) n cs gen is' xs' list.count) (Ok (stock_from spec edition rings g)) cs cs' f a in
    let v = called hs t ht.0 bs b gen g list is is' xs xs' p c in
    cut {bs = bs} {bs' = kept_after stock (apply_of stock cs bs list is' xs') bs} p (record { left = c; kept = refl }) (unasked-ran hs ht.1 v.good r)

-- ---- calls whose answers are not known beforehand: none is refused

-- A PREVIEW IS ACCEPTED: whatever meets its promise, with room for every cell and the cut in its domain.
pub preview-call-accepted : (st : Stamp) (spec : TurnStockSpec) (n : ℕ) (t : Cutter) (cs : List Float) (r : Result ChangeList Refusal) (is is' : List ℕ) (xs xs' : List Float) → stock_of spec cs ≡ answers n → n ≤ room_of (length is) (length xs) → cutter_good t ≡ true
    → Proposed st (cutter_preview spec t cs (room_of (length is) (length xs))) r is is' xs xs' → paper_of r ≡ answers (record { count = length (changes_to (act_cell (cutter_act spec t)) cs n); stamp = st })
preview-call-accepted st spec n t cs r is is' xs xs' e h g p = p.answer ∙ ap (λ (q : Paper (List TurnChange)). stamped st (count_of q)) (good-accepted spec n t cs (room_of (length is) (length xs)) e h g)

-- A COMMIT IS ACCEPTED: whatever meets its promise, of what a preview of the same stock left in the lists, with kept numbers that match, while generations last.
pub commit-call-accepted : (k : TurnStock) (n : ℕ) (t : Cutter) → HeldSpec k.spec → HeldCutter t → (cs cs' bs : List Float) → Matching k.spec cs bs → Good k.spec n cs → (list : ChangeList) (r : Result TurnStock Refused) (is is' : List ℕ) (xs xs' : List Float) → k.stamp.generation < last_generation
    → Proposed k.stamp (cutter_preview k.spec t cs (room_of (length is) (length xs))) (Ok list) is is' xs xs' → Applies k (apply_of k cs bs list is' xs') r cs cs' → placed_of r ≡ answers (stock_with k k.rings (k.stamp.generation + 1))
commit-call-accepted k n t hs ht cs cs' bs m b list r is is' xs xs' h p a =
    let spec = k.spec in
    let room = room_of (length is) (length xs) in
    let y = answered k.stamp (cutter_preview spec t cs room) list p.answer in
    let s = tool-sound spec n hs b.count t ht (accepted-good spec t cs room y.0 y.1) in
    let act = cutter_act spec t in
    let q = same-listing k.stamp (proposed act cs room n) (cutter_preview spec t cs room) (Ok list) is is' xs xs' (sym (s.rule cs room (good-stock b))) p in
    a.answer ∙ ap (λ (x : Paper Committed). stock_at k (generation_of x)) (lent-accepts k bs m b (act_cell act) (act-cuts b act s.plain) list is is' xs xs' h q)

-- WHATEVER IS CALLED IS ACCEPTED, cut after cut: on a stock that is not refused, from kept numbers that match it, with cuts in their domain, room for every cell and generations to spare. So it is a run.
pub tried-accepted : {spec : TurnStockSpec} {edition rings n : ℕ} {k : Committed} {bs : List Float} {l : List Cutter} {p : Paper Committed} → HeldSpec spec → Good spec n k.cells → Matching spec k.cells bs → Each HeldCutter l → Each (λ (t : Cutter). cutter_good t ≡ true) l
    → k.generation + length l ≤ last_generation → Tried spec edition rings n k bs l p → (m : Committed) × (p ≡ answers m) × Ran spec edition rings k l m
tried-accepted {k = k} hs b mt ht gs h all_made = (k, refl, start)
tried-accepted {spec} {edition} {rings} {n} hs b mt ht gs h (not-previewed {t} {l} {cs} {bs} {gen} {r} {is} {is'} {xs} {xs'} room p) =
    absurd (no_answer _ _ (preview-call-accepted (stamp_of edition gen) spec n t cs _ is is' xs xs' (good-stock b) room gs.0 p))
tried-accepted {spec} {edition} {rings} {n} hs b mt ht gs h (not-committed {t} {l} {cs} {cs'} {bs} {bs'} {gen} {list} {a} {r} {is} {is'} {xs} {xs'} room p w e) =
    absurd (no_answer _ _ (sym e ∙ commit-call-accepted (stock_from spec edition rings gen) n t hs ht.0 cs cs' bs mt b list a is is' xs xs' (omega arith) p w.left))
tried-accepted {spec} {edition} {rings} {n} hs b mt ht gs h (made {t} {l} {cs} {cs'} {bs} {bs'} {gen} {g} {list} {is} {is'} {xs} {xs'} room p a r) =
    let w = called hs t ht.0 bs b gen g list is is' xs xs' p a.left in
    let e = w.generation in
    let stock = stock_from spec edition rings gen in
    let mt' = subst (Matching spec cs') (sym (kept-own stock (stock_from spec edition rings g) (apply_of stock cs bs list is' xs') cs cs' bs bs' a)) (own-matching hs w.good) in
    let v = tried-accepted hs w.good mt' ht.1 gs.1 (omega arith) r in
    (v.0, v.1, cut p a v.2)

-- ANY ORDER, of cuts of one side: called in whatever order, all are accepted, and they leave the same cells and the same generation.
pub tried-any-order : {spec : TurnStockSpec} {edition rings n : ℕ} {k : Committed} {bs bs' : List Float} {l l' : List Cutter} {p p' : Paper Committed} → HeldSpec spec → HeldList k.cells → stock_of spec k.cells ≡ answers n → Matching spec k.cells bs → Matching spec k.cells bs' → Each HeldCutter l → Each (λ (t : Cutter). cutter_good t ≡ true) l
    → k.generation + length l ≤ last_generation → (σ : TurnSide) → ToolsOf spec σ l → Permᴰ l l' → Tried spec edition rings n k bs l p → Tried spec edition rings n k bs' l' p' → (m : Committed) × (p ≡ answers m) × (p' ≡ answers m)
tried-any-order {spec} {edition} {rings} {n} {k} {bs} {bs'} {l} {l'} hs hc e mt mt' ht gs h σ os d r r' =
    let b = stock-good hs hc e in
    let v = tried-accepted hs b mt ht gs h r in
    let v' = tried-accepted hs b mt' (each-perm HeldCutter d ht) (each-perm (λ (t : Cutter). cutter_good t ≡ true) d gs) (subst (λ (j : ℕ). k.generation + j ≤ last_generation) (perm-length d) h) r' in
    (v.0, v.1, v'.1 ∙ ap answers (sym (run-any-order hs hc e ht v.2 d v'.2 σ os)))

-- ---- there are such runs: every job that the demand is about has one of each kind, whatever the edition and the rings of its stock

pub record Runs (spec : TurnStockSpec) (edition rings n : ℕ) (k : Committed) (l : List Cutter) : Type 0 where
  pub left : Committed
  pub ran : Ran spec edition rings k l left
  pub tried : Tried spec edition rings n k (numbers_kept spec k.cells) l (answers left)
  pub unasked : RanUnasked spec edition rings n k l left
  pub records : RanRecords spec edition rings k l left

-- one cut more
more-runs : (spec : TurnStockSpec) (edition rings n room : ℕ) (t : Cutter) (l : List Cutter) (cs : List Float) → Matching spec cs (numbers_kept spec cs) → (gen : ℕ) (changes : List TurnChange) (k : Committed) → stock_of spec cs ≡ answers n → n ≤ room → cutter_preview spec t cs room ≡ answers changes
    → own_commit spec cs gen changes ≡ answers k → Runs spec edition rings n k l → Runs spec edition rings n (record { cells = cs; generation = gen }) (t ∷ l)
more-runs spec edition rings n room t l cs mt gen changes k s h e f r =
    let bs = numbers_kept spec cs in
    let w = two-calls spec edition rings t cs bs mt gen room changes k e f in
    let stock = stock_from spec edition rings gen in
    let list = list_at spec edition rings gen (length changes) in
    let is' = w.first_left in
    let xs' = w.second_left in
    let q = asked spec (stamp_of edition gen) t cs w.list w.first is' w.second xs' w.previewed in
    let rs : List TurnChange = replicate {A = TurnChange} room (record { index = 0; before = cell_at cs 0; after = cell_at cs 0 }) in
    let e' = ap (cutter_preview spec t cs) (length-replicate {A = TurnChange} room _) ∙ e in
    record {
      left = r.left;
      ran = cut w.previewed w.committed r.ran;
      tried = made (subst (λ (x : ℕ). n ≤ x) (sym w.space) h) w.previewed w.committed r.tried;
      unasked = unasked-cut w.previewed
          (same_outcome stock (commit_held (clean_spec spec) n cs gen is' xs' w.list.count) (apply_of stock cs bs w.list is' xs') (Ok (stock_from spec edition rings k.generation)) cs k.cells
          (sym (unasked-is spec edition rings gen n cs bs mt w.list is' xs' s q.stamp q.room)) w.committed.left)
          r.unasked;
      records = records-cut {list = list} {rs = rs} {rs' = over changes rs}
          (record { answer = ap (λ (p : Paper (List TurnChange)). stamped (stamp_of edition gen) (count_of p)) (sym e'); records = ap (λ (p : Paper (List TurnChange)). over (written_of p) rs) (sym e') })
          (applied-kept spec edition rings (commit_of stock cs bs (stamp_of edition gen) (take (length changes) (over changes rs))) gen k cs bs (own-commit stock cs bs (take (length changes) (over changes rs)) mt ∙ ap (own_commit spec cs gen) (take-over changes rs) ∙ f))
          r.records;
    }

runs-from : (spec : TurnStockSpec) (edition rings n room : ℕ) → HeldSpec spec → n ≤ room → (l : List Cutter) → Each HeldCutter l → Each (λ (t : Cutter). cutter_good t ≡ true) l → (k : Committed) → Good spec n k.cells → k.generation + length l ≤ last_generation → Runs spec edition rings n k l
runs-from spec edition rings n room hs h [] ht gs k b g = record { left = k; ran = start; tried = all_made; unasked = none-asked; records = no-records }
runs-from spec edition rings n room hs h (t ∷ l) ht gs k b g =
    let act = cutter_act spec t in
    let cs = k.cells in
    let changes : List TurnChange = changes_to (act_cell act) cs n in
    let s = tool-sound spec n hs b.count t ht.0 gs.0 in
    let cuts = act-cuts b act s.plain in
    let next : Committed = record { cells = put_all cs changes; generation = k.generation + 1 } in
    more-runs spec edition rings n room t l cs (own-matching hs b) k.generation changes next (good-stock b) h (good-accepted spec n t cs room (good-stock b) h gs.0) (commit-accepts b (act_cell act) cuts k.generation (omega arith))
    (runs-from spec edition rings n room hs h l ht.1 gs.1 next (put-good b (act_cell act) cuts) (omega arith))

pub job-runs : {spec : TurnStockSpec} {edition rings room n : ℕ} {k : Committed} {l : List Cutter} → ToolsJob spec room n k l → Runs spec edition rings n k l
job-runs {spec} {edition} {rings} {room} {n} {k} {l} j = runs-from spec edition rings n room j.spec_held j.space l j.tools_held j.good k (stock-good j.spec_held j.cells_held j.stock) j.spare
