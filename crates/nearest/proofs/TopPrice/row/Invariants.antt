-- The 32 prices of a row, put in one by one.
-- Assumes nothing.
use Prim.Native.Nat.{◌+◌, ◌*◌, ◌≤◌}
use Rattle.bits.proofs.Fill.{Put}
use Rattle.nearest.specs.Steps.{even_toll}
use Rattle.nearest.proofs.TopPrice.row.Given as goal

abbrev pub invariant-loop-j : goal.invariant-loop-j
invariant-loop-j l = (l.j ≤ 32) × Put (even_toll l.self.price (8 * l.x + l.y)) (32 * (8 * l.x + l.y)) l.j l.initial.table l.table
