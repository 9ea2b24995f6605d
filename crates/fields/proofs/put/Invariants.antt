-- The bits from the place k on are in; what is left of the number are those still to come. Assumes nothing.
use mathlib.Core.Path.{◌≡◌}
use Prim.Native.Nat.{◌-◌, ◌/◌, ◌^◌}
use lib.ListN.{length, drop}
use Rattle.bits.specs.Numbers.{bits_of}
use Rattle.fields.proofs.put.Given as goal

abbrev pub invariant-loop-k : goal.invariant-loop-k
invariant-loop-k l = let w = length l.initial.bits in (l.left ≡ l.n / 2 ^ (w - l.k)) × (drop l.k l.bits ≡ bits_of (w - l.k) l.n)
