-- `crc24q::push` meets its contract: the generator goes in where the register with the new bit has a term of 24.
-- Assumes nothing.
use Prim.Native.Nat.{◌*◌, ◌%◌, ◌^◌}
use native.Mathlib.Omega.{arith}
use Rattle.crc24q.specs.Check.{◌⊕◌}
use Rattle.crc24q.proofs.Register.{reduce_none, reduce_once}
use Rattle.crc24q.proofs.Sums.{plus_lt}
use Rattle.crc24q.proofs.push.Goals as goal

pub returns-then-t-lt16777216 : goal.returns-then-t-lt16777216
unfolding ◌⊕◌
returns-then-t-lt16777216 c = rw c.from.ensures
    (reduce_none (c.args.r * 2 ⊕ c.args.b % 2 * 2 ^ 24) (rw c.from.ensures at c.if-t-lt16777216.true))

pub returns-else-t-lt16777216 : goal.returns-else-t-lt16777216
unfolding ◌⊕◌
returns-else-t-lt16777216 c = rw c.from.ensures
    (reduce_once (c.args.r * 2 ⊕ c.args.b % 2 * 2 ^ 24) (rw c.from.ensures at c.if-t-lt16777216.false)
    (plus_lt 25 (c.args.r * 2) (c.args.b % 2 * 2 ^ 24) (omega arith) (omega arith)))
