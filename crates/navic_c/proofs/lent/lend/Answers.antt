use Rattle.std.proofs.Common.{ap, length, arith}
use lib.Seq.{length-take-le}
use Rattle.navic_c.proofs.Answered.{patterns_42}
use Rattle.navic_c.proofs.lent.lend.Goals as goal

pub copy_from_slice-requires : goal.copy_from_slice-requires
copy_from_slice-requires c = let e = c.in-Ok.reading.entry in omega (arith, length-take-le 42 c.args.numbers.now (omega arith), patterns_42 e.«record» e.beside, ap length c.numbers-table.ensures)
