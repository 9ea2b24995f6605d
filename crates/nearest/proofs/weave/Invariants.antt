-- Both halves, put in by pairs.
-- Assumes nothing.
use Prim.Native.Nat.{ℕ, ◌*◌}
use lib.ListN.{replicate}
use Rattle.bits.proofs.Fill.{Put}
use Rattle.nearest.specs.Steps.{Halves}
use Rattle.nearest.proofs.weave.Given as goal

abbrev pub invariant-loop-j : goal.invariant-loop-j
invariant-loop-j l = (f : ℕ → ℕ) → Halves f 32 l.even l.odd → Put f 0 (2 * l.j) (replicate 64 0) l.woven
