-- The symbols, two for each bit.
-- Assumes nothing.
use Rattle.convolution.proofs.Sending.{Sent}
use Rattle.convolution.proofs.encode.Given as goal

abbrev pub invariant-loop-i : goal.invariant-loop-i
invariant-loop-i l = Sent l.word l.initial.coded l.coded l.register l.i
