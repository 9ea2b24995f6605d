-- The cells with a number below i, counted column by column, are filled. Assumes nothing.
use Rattle.framing.specs.Grid.{columnwise, Filled}
use Rattle.framing.proofs.fill_columns.Given as goal

abbrev pub invariant-loop-i : goal.invariant-loop-i
invariant-loop-i l = Filled columnwise l.coded l.grid l.i
