use mathlib.Core.Path.{◌≡◌}
use Prim.Native.Nat.{◌+◌}
use native.Mathlib.Omega.{arith}
use Rattle.bits.proofs.Fill.{put_two}
use Rattle.nearest.proofs.weave.Goals as goal

pub loop-j-preserved : goal.loop-j-preserved
loop-j-preserved c = let i = c.loop-j in
    let z : i.j ≡ 0 + i.j = omega arith in
    λ f w. put_two _ _ _ _ _ _ (omega arith) (w.evens.here _ _ (omega arith) z) (w.odds.here _ _ (omega arith) z) (i.invariant f w)

pub returns : goal.returns
returns c = λ f w. record { each = λ s h. (c.loop-j.invariant f w).here s s (omega arith) (omega arith) }
