-- The metrics so far, lowered, and the others as they were.
-- Assumes nothing.
use Rattle.std.proofs.Common.{◌≡◌, ℕ, ◌-◌, ◌<◌, ◌≤◌, length}
use Rattle.bits.specs.Lists.{at}
use Rattle.nearest.proofs.lower.Given as goal

abbrev pub invariant-loop-x : goal.invariant-loop-x
invariant-loop-x l = record {
  long : length l.x-items ≡ 64;
  done : (s : ℕ) → s < l.x-index → at l.x-items s ≡ at l.m s - l.d;
  rest : (s : ℕ) → l.x-index ≤ s → at l.x-items s ≡ at l.m s;
}
