use mathlib.Core.Path.{ap, ◌∙◌}
use Prim.Native.Nat.{ℕ, ◌/◌}
use native.Mathlib.Omega.{arith}
use lib.ListN.{length}
use Rattle.fields.proofs.Putting.{none_left, half_again, put_none, put_more, put_all}
use Rattle.fields.proofs.put.Goals as goal

pub loop-k-init : goal.loop-k-init
loop-k-init c = (none_left (length c.args.bits.now) c.args.n, put_none c.args.bits.now c.args.n)

pub loop-k-preserved : goal.loop-k-preserved
loop-k-preserved c = let w = length c.args.bits.now in
    let v = c.loop-k in (
      ap (λ (x : ℕ). x / 2) v.invariant.0 ∙ half_again w c.args.n v.k (omega arith) (omega arith),
      put_more v.bits w c.args.n v.k v.left (omega arith) (omega arith) (omega arith) v.invariant.0 v.invariant.1,
    )

pub returns : goal.returns
returns c = put_all c.loop-k.bits (length c.args.bits.now) c.args.n c.loop-k.k c.loop-k-test.false c.loop-k.invariant.1
