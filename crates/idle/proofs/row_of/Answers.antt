-- The row's number is what the two bits spell; the table is the one of the definitions. Assumes nothing.
use Rattle.std.proofs.Common.{◌≡◌, List, ℕ, ◌+◌, ◌*◌, ◌%◌, ◌≤◌, length, arith}
use Rattle.bits.specs.Lists.{at, part}
use Rattle.bits.specs.Numbers.{number}
use Rattle.bits.proofs.Numbers.{number_part}
use Rattle.idle.specs.Idle.{rows}
use Rattle.idle.proofs.Fitting.{row_inside}
use Rattle.idle.proofs.row_of.Goals as goal

-- the row that the two bits spell
spelt : (word : List ℕ) (high low : ℕ) → 262 ≤ length word → high ≡ at word 27 % 2 → low ≡ at word 28 % 2 → number (part word 27 2) ≡ high * 2 + low
unfolding number
spelt word high low long h l = omega (arith, number_part word 27 0 (omega arith), number_part word 27 1 (omega arith))

pub returns-clause-value : goal.returns-clause-value
unfolding rows
returns-clause-value c = rw (spelt c.args.body.now c.from.result c.from-2.result (omega arith) c.from.ensures c.from-2.ensures)

pub returns-clause-inside : goal.returns-clause-inside
returns-clause-inside c = row_inside c.args.body.now _ (returns-clause-value c)
