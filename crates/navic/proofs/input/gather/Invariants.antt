-- Byte by byte: the bytes passed are gathered.
-- Assumes nothing.
use lib.ListN.{take}
use Rattle.navic.specs.Input.{Gathered}
use Rattle.navic.proofs.input.gather.Given as goal

abbrev pub invariant-loop-byte : goal.invariant-loop-byte
invariant-loop-byte l = Gathered l.initial.kept l.count (take l.byte-index l.bytes) l.kept l.n
