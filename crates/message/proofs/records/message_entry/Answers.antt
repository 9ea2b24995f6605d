-- `records::message_entry` meets its contract where no other case has the ID. Assumes nothing.
use borrow.Author.Tests.{ne_eqb}
use native.Mathlib.Omega.{arith}
use Rattle.message.specs.declared.Record.TheVariants as case
use Rattle.message.proofs.records.message_entry.Goals as goal

pub returns-in_default : goal.returns-in_default
returns-in_default c = let id = c.args.id in
    rw (
      ne_eqb id 5 (omega arith),
      ne_eqb id 7 (omega arith),
      ne_eqb id 9 (omega arith),
      ne_eqb id 11 (omega arith),
      ne_eqb id 26 (omega arith),
      ne_eqb id 0 (omega arith),
    )
    (λ i. record { «record» = case.Unread (c.unread_of.ensures i); beside = c.data_of-in_default.ensures i })
