-- `insert::samples::Outline::hold` meets its contract. The loop's invariant: the samples of the points passed are held. Assumes nothing.
use Rattle.insert.specs.Insert.{HeldTo}
use Rattle.insert.proofs.samples.Outline.hold.Given as goal

abbrev pub invariant-loop-k : goal.invariant-loop-k
invariant-loop-k l = HeldTo l.self.w l.self.points.now l.held l.k
