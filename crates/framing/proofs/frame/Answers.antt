-- Filled by columns and emptied by rows, the grid gives the symbols as they are sent, after the sync. Assumes nothing.
use mathlib.Core.Path.{ap, ◌∙◌}
use mathlib.Core.List.{◌++◌}
use Rattle.framing.specs.Frame.{framed}
use Rattle.framing.specs.Sync.{eb90}
use Rattle.framing.proofs.Grid.{emptied_by_rows}
use Rattle.framing.proofs.frame.Goals as goal

pub returns : goal.returns
unfolding framed
returns c = c.by_rows.ensures ∙ ap (◌++◌ eb90) (emptied_by_rows _ _ c.fill_columns.ensures)
