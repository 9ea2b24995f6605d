use mathlib.Core.Path.{◌∙◌}
use native.Mathlib.Omega.{arith}
use Rattle.nearest.proofs.Pass.{tolls_more, tolls_upto}
use Rattle.nearest.proofs.TopPrice.table.Goals as goal

pub loop-y-init : goal.loop-y-init
loop-y-init c = let v = c.loop-x.invariant in (omega arith, v.1, tolls_upto v.2 (λ q l k. omega arith))

pub loop-y-preserved : goal.loop-y-preserved
loop-y-preserved c = let v = c.loop-y.invariant in
    (omega arith, c.row.ensures.long ∙ v.1, tolls_upto (tolls_more v.2 c.row.ensures) (λ q l k. omega arith))

pub loop-x-preserved : goal.loop-x-preserved
loop-x-preserved c = let v = c.loop-y.invariant in
    (omega arith, v.1, tolls_upto v.2 (λ q l k. omega arith))

pub returns : goal.returns
returns c = let v = c.loop-x.invariant in tolls_upto v.2 (λ q l k. omega arith)
