use native.Mathlib.Omega.{arith}
use Rattle.navic.proofs.Gathering.{gathered_none, gathered_next}
use Rattle.navic.proofs.input.gather.Goals as goal

pub loop-byte-init : goal.loop-byte-init
loop-byte-init c = gathered_none (omega arith)

pub loop-byte-preserved : goal.loop-byte-preserved
loop-byte-preserved c = gathered_next c.args.bytes.now c.loop-byte.byte-index (omega arith) (omega arith) c.loop-byte.invariant c.take_byte-n.ensures
