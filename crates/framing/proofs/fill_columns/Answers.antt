use mathlib.Core.Path.{refl}
use native.Mathlib.Omega.{arith}
use Rattle.framing.specs.Grid.{columnwise}
use Rattle.framing.proofs.Grid.{filled_none, filled_more, filled_all, columns_numbered}
use Rattle.framing.proofs.fill_columns.Goals as goal

pub loop-i-init : goal.loop-i-init
loop-i-init c = filled_none columnwise _

pub loop-i-preserved : goal.loop-i-preserved
loop-i-preserved c = filled_more columnwise _ columns_numbered _ _ _ _ _ (omega arith) (omega arith) (omega arith) refl c.loop-i.invariant

pub returns : goal.returns
returns c = filled_all columnwise _ _ _ 584 (omega arith) c.loop-i.invariant
