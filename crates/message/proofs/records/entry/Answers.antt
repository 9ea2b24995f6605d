-- `records::entry` meets its contract where the body is a message's. Assumes nothing.
use borrow.Author.Tests.{ne_eqb}
use native.Mathlib.Omega.{arith}
use Rattle.message.specs.Records.{entry_by}
use Rattle.message.proofs.records.entry.Goals as goal

pub returns-in_default : goal.returns-in_default
unfolding entry_by
returns-in_default c = rw (ne_eqb c.args.subframe 0 (omega arith), ne_eqb c.args.subframe 1 (omega arith)) c.message_entry.ensures
