-- The rows so far hold their numbers, so the fault is one of the rows left. Assumes nothing.
use mathlib.Core.Path.{◌≡◌}
use Rattle.fields.specs.Patterns.{pattern_fault}
use Rattle.fields.specs.Table.{rows_of}
use Rattle.fields.proofs.Turns.{Left}
use Rattle.fields.proofs.fault.Given as goal

abbrev pub invariant-loop-row : goal.invariant-loop-row
invariant-loop-row l = let i = l.row-iterator in
    Left i.a.rest.now i.b.rest.now × (pattern_fault (rows_of l.fn.layout) l.fn.numbers ≡ pattern_fault i.a.rest.now i.b.rest.now)
