-- The bits of the word, from the last to the first.
-- Assumes nothing.
use Rattle.nearest.proofs.Trail.{Way}
use Rattle.nearest.proofs.back.Given as goal

abbrev pub invariant-loop-t : goal.invariant-loop-t
invariant-loop-t l = Way l.marks l.word l.s l.t
