-- The loop has read the number of the bits so far. Assumes nothing.
use mathlib.Core.Path.{◌≡◌}
use lib.ListN.{take}
use Rattle.bits.specs.Numbers.{number}
use Rattle.fields.proofs.field.Given as goal

abbrev pub invariant-loop-bit : goal.invariant-loop-bit
invariant-loop-bit l = l.n ≡ number (take l.bit-index l.bits)
