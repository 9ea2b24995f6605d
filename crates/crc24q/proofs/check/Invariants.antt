-- The register is the check of the bits passed.
-- Assumes nothing.
use Rattle.std.proofs.Common.{◌≡◌, take}
use Rattle.crc24q.specs.Check.{check_of}
use Rattle.crc24q.proofs.check.Given as goal

abbrev pub invariant-loop-b : goal.invariant-loop-b
invariant-loop-b l = l.r ≡ check_of (take l.b-index l.bits)
