-- The rows up to a pair of levels, put in one by one.
-- Assumes nothing.
use mathlib.Core.Path.{◌≡◌}
use Prim.Native.Nat.{◌+◌, ◌*◌, ◌≤◌}
use lib.ListN.{length}
use Rattle.nearest.specs.Steps.{Tolls}
use Rattle.nearest.proofs.TopPrice.table.Given as goal

abbrev pub invariant-loop-x : goal.invariant-loop-x
invariant-loop-x l = (l.x ≤ l.self.price + 1) × (length l.all ≡ 2048) × Tolls l.self.price (8 * l.x) l.all

abbrev pub invariant-loop-y : goal.invariant-loop-y
invariant-loop-y l = (l.y ≤ l.self.price + 1) × (length l.all ≡ 2048) × Tolls l.self.price (8 * l.x + l.y) l.all
