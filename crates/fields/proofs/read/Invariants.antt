-- The loop has read the numbers of the first i rows. Assumes nothing.
use mathlib.Core.Path.{◌≡◌}
use Rattle.fields.proofs.Turns.{reading}
use Rattle.fields.proofs.read.Given as goal

abbrev pub invariant-loop-i : goal.invariant-loop-i
invariant-loop-i l = l.numbers ≡ reading l.body l.row-items l.i
