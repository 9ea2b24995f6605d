-- The bytes that were read are gathered, at least one for each turn.
-- Assumes nothing.
use mathlib.Core.List.{List}
use Prim.Native.Nat.{ℕ, ◌≤◌}
use lib.ListN.{length}
use Rattle.std.specs.Io.KnownBytes.{Consumes}
use Rattle.navic.specs.Input.{Gathered}
use Rattle.navic.proofs.input.take_all.Given as goal

abbrev pub invariant-loop : goal.invariant-loop
invariant-loop g l = (bytes : List ℕ) × (l.counter ≤ length bytes)
    × Consumes (g.R.Read.remaining l.initial.input) (g.R.Read.remaining l.input) bytes
    × Gathered l.initial.kept 0 bytes l.kept l.count
