-- `rings::hand::push` meets its contract. Assumes nothing.
use Rattle.rings.proofs.InHand.{grows-written, grows-over}
use mathlib.Core.Path.{subst, sym}
use mathlib.Core.List.{List, [], ◌∷◌}
use lib.Ieee.{Float}
use Prim.Native.Nat.{◌+◌}
use Rattle.rings.specs.Hand.{Grows}
use Rattle.rings.proofs.hand.push.Goals as goal

pub returns-then-room-n : goal.returns-then-room-n
returns-then-room-n c = grows-over c.args.hand.now c.args.n c.args.q c.if-room-n.true

pub returns : goal.returns
returns c = subst (λ (ys : List Float). Grows c.args.hand.now c.args.n ys (c.args.n + 1) (c.args.q ∷ [])) (sym c.write_ring.ensures)
    (grows-written c.args.hand.now c.args.n c.args.q c.if-room-n.false)
