-- The cells with a number below i, counted row by row, are filled. Assumes nothing.
use lib.ListN.{drop}
use Rattle.framing.specs.Frame.{turned_if}
use Rattle.framing.specs.Grid.{rowwise, Filled}
use Rattle.framing.proofs.fill_rows.Given as goal

abbrev pub invariant-loop-i : goal.invariant-loop-i
invariant-loop-i l = Filled rowwise (drop 16 (turned_if l.turned_over l.top l.symbols)) l.grid l.i
