-- Filled by rows and emptied by columns, the grid gives the symbols as they were coded. Assumes nothing.
use mathlib.Core.Path.{◌∙◌}
use Rattle.framing.specs.Frame.{coded_of}
use Rattle.framing.proofs.Grid.{emptied_by_columns}
use Rattle.framing.proofs.coded.Goals as goal

pub returns : goal.returns
unfolding coded_of
returns c = c.by_columns.ensures ∙ emptied_by_columns _ _ c.fill_rows.ensures
