-- The 32 butterflies of a step; the sums fit a byte.
-- Assumes nothing.
use Rattle.nearest.proofs.Fly.{Turn}
use Rattle.nearest.proofs.Prices.step.Given as goal

abbrev pub invariant-loop-j : goal.invariant-loop-j
invariant-loop-j l = Turn l.self.top.price l.x l.y l.m l.start l.m0 l.m1 l.k0 l.k1 l.j
