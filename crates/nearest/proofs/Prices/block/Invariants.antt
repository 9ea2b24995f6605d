-- The steps of a block, one by one.
-- Assumes nothing.
use Rattle.nearest.proofs.Pass.{Going}
use Rattle.nearest.proofs.Prices.block.Given as goal

abbrev pub invariant-loop-t : goal.invariant-loop-t
invariant-loop-t l = Going l.self.top.price l.coded l.from l.first l.m l.marks l.t
