-- What an accepted move on checked cells says of its rule. Assumes nothing.
use mathlib.Core.Path.{◌≡◌, sym, ap, ◌∙◌}
use mathlib.Core.Bool.{true}
use mathlib.Core.List.{List}
use Prim.Native.Nat.{ℕ, ◌≤◌}
use borrow.Author.Tests.{leb-true}
use lib.Ieee.{Float}
use Rattle.refusals.specs.Paper.{answers}
use Rattle.refusals.specs.Limits.{last_generation}
use Rattle.stock.specs.declared.TurnStock.{TurnStock}
use Rattle.stock.specs.declared.Stamp.{Stamp}
use Rattle.stock.specs.declared.TurnChange.{TurnChange}
use Rattle.stock.specs.Spec.{clean_spec}
use Rattle.stock.specs.Stock.{same_stamp}
use Rattle.stock.proofs.Count.{same_answer, demanded, none-demanded}
use Rattle.blocks.specs.Block.{matches_of}
use Rattle.changes.specs.Commit.{pass_all, put_all}
use Rattle.rings.specs.Store.{bar_ring, count_fits, rings_good}
use Rattle.rings.specs.Remove.{remove_rings}
use Rattle.rings.proofs.Bad.{none-good}
use Rattle.moves.specs.Move.{Left, RingsLeft, generation_after, movable_of, rings_moved, taken_of, move_in}
use Rattle.moves.proofs.Answered.{answered}

pub record TakenIn (k : TurnStock) (n : ℕ) (cs bs xs : List Float) (st : Stamp) (l : List TurnChange) (removed : List Float) (a : Left) : Type 0 where
  pub fits : count_fits (bar_ring (clean_spec k.spec)) xs k.rings ≡ true
  pub own : same_stamp st k.stamp ≡ true
  pub matched : matches_of (clean_spec k.spec) n cs bs ≡ true
  pub good : rings_good removed ≡ true
  pub pass : pass_all (clean_spec k.spec) n cs l ≡ answers tt
  pub last : generation_after k.spec k.stamp.generation removed ≤ last_generation
  pub rule : remove_rings k.spec xs k.rings removed ≡ answers a.rings
  pub cells : a.cells ≡ put_all cs l
  pub rises : a.generation ≡ generation_after k.spec k.stamp.generation removed

pub taken_in : (k : TurnStock) (n : ℕ) (cs bs xs : List Float) (st : Stamp) (l : List TurnChange) (removed : List Float) (a : Left) → move_in k n cs bs xs st l removed ≡ answers a → TakenIn k n cs bs xs st l removed a
unfolding move_in taken_of movable_of rings_moved
taken_in k n cs bs xs st l removed a h =
    let w = answered _ _ _ h in
    let m = answered _ _ _ w.first in
    let d4 = demanded _ _ _ _ m.first in
    let d19 = demanded _ _ _ _ d4.1 in
    let d20 = demanded _ _ _ _ d19.1 in
    let d10 = none-demanded _ _ _ _ d20.1 in
    let p = answered _ _ _ m.then in
    let d12 = demanded _ _ _ _ p.then in
    let r = answered _ _ _ d12.1 in
    let t : ◌≡◌ {A = RingsLeft} (record { rings = r.value; generation = generation_after k.spec k.stamp.generation removed }) w.value = same_answer r.then in
    let v : ◌≡◌ {A = Left} (record { cells = put_all cs l; rings = w.value.rings; generation = w.value.generation }) a = same_answer w.then in
    record {
      fits = d4.0;
      own = d19.0;
      matched = d20.0;
      good = none-good removed d10.0;
      pass = p.first;
      last = leb-true (generation_after k.spec k.stamp.generation removed) last_generation d12.0;
      rule = r.first ∙ ap (λ (x : RingsLeft). answers x.rings) t ∙ ap (λ (x : Left). answers x.rings) v;
      cells = sym (ap (λ (x : Left). x.cells) v);
      rises = sym (ap (λ (x : Left). x.generation) v) ∙ sym (ap (λ (x : RingsLeft). x.generation) t);
    }
