use native.Mathlib.Omega.{arith}
use Rattle.bits.proofs.Fill.{put_more}
use Rattle.nearest.proofs.Fly.{written_row}
use Rattle.nearest.proofs.TopPrice.row.Goals as goal

pub loop-j-preserved : goal.loop-j-preserved
loop-j-preserved c = (omega arith, put_more _ _ _ _ _ _ _ (omega arith) (omega arith) (written_row _ _ _ _ _ c.requires.1 c.loop-j-test.true c.pair.ensures) c.loop-j.invariant.1)
