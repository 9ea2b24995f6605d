-- The fields so far are in the body, and those left come behind them. Assumes nothing.
use mathlib.Core.Path.{◌≡◌}
use lib.ListN.{length}
use Rattle.fields.specs.Table.{rows_of}
use Rattle.fields.proofs.Turns.{Left, Written}
use Rattle.fields.proofs.write.Given as goal

abbrev pub invariant-loop-row : goal.invariant-loop-row
invariant-loop-row l = let i = l.row-iterator in
    (length l.body ≡ 262) × Left i.a.rest.now i.b.rest.now × Written (rows_of l.fn.layout) l.fn.numbers l.body i.a.rest.now i.b.rest.now
