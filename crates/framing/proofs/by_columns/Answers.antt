-- Each call gives the cell of its index. Assumes nothing.
use Rattle.std.proofs.Common.{rules, ◌/◌, ◌%◌}
use Rattle.framing.specs.Grid.{cell, by_columns}
use Rattle.bits.proofs.Made.{made}
use Rattle.framing.proofs.by_columns.Goals as goal

pub returns : goal.returns
unfolding by_columns
returns c = made _ _ (λ i. cell c.args.grid (i % 8) (i / 8)) 584 (λ i y q l k. search rules) c.from_fn.result c.from_fn.ensures.items
