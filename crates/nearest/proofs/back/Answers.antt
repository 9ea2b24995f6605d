use mathlib.Core.Path.{◌≡◌, refl}
use Prim.Native.Nat.{suc, ◌+◌, ◌-◌}
use native.Mathlib.Omega.{arith}
use Rattle.nearest.proofs.Trail.{way_first, way_more}
use Rattle.nearest.proofs.back.Goals as goal

pub loop-t-preserved : goal.loop-t-preserved
loop-t-preserved c = let now = c.loop-t in
    let e : now.t ≡ suc (now.t - 1) = omega arith in
    rw c.from.ensures
    (way_more (omega arith) refl (c.requires (now.t - 1 + 6) now.s (omega arith) now.invariant.state) (rw e at now.invariant))

pub loop-t-init : goal.loop-t-init
loop-t-init c = way_first (omega arith)
