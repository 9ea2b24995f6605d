-- Each row of the table has a near scale. Assumes nothing.
use Rattle.ephemeris.proofs.Rows.{scales_near}
use Rattle.ephemeris.proofs.powers.Scales.of.Goals as goal

pub invariant_of-result : goal.invariant_of-result
invariant_of-result c = record { near = scales_near c.args.layout _ c.table.ensures }
