-- The blocks, one by one: what each takes off goes into the base.
-- Assumes nothing.
use Prim.Native.Nat.{◌-◌}
use Rattle.nearest.proofs.Blocks.{Blocks}
use Rattle.nearest.proofs.Prices.forward.Given as goal

abbrev pub invariant-loop-t : goal.invariant-loop-t
invariant-loop-t l = Blocks l.self.top.price l.coded l.m l.marks l.base l.t

abbrev pub decreases-loop-t : goal.decreases-loop-t
decreases-loop-t l = 292 - l.t
