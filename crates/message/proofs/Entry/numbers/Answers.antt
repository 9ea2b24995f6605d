-- `Entry::numbers` meets its contract. Assumes nothing.
use Rattle.message.proofs.Laying.{laid_patterns}
use Rattle.message.proofs.Entry.numbers.Goals as goal

pub returns : goal.returns
returns c = laid_patterns c.args.self.«record» c.args.self.beside c.numbers_of.result c.numbers_of.ensures
