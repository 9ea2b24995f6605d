use native.Mathlib.Omega.{arith}
use Rattle.nearest.proofs.Pass.{going_first, going_more, room}
use Rattle.nearest.proofs.Prices.block.Goals as goal

pub loop-t-init : goal.loop-t-init
loop-t-init c = going_first (omega arith) c.requires.begun.0 c.requires.begun.1

pub step-m-requires : goal.step-m-requires
step-m-requires c = room _ _ _ _ _ c.requires.steps.0 c.loop-t.auto.t c.loop-t-test.true c.loop-t.invariant.under

pub loop-t-preserved : goal.loop-t-preserved
loop-t-preserved c = going_more c.loop-t.auto.t (omega arith) c.loop-t.invariant c.step-m.ensures.metrics c.step-m.ensures.marks
