use Rattle.std.proofs.Common.{arith}
use lib.Seq.{length-take-le}
use Rattle.navic_c.proofs.lent.decode.Goals as goal

pub copy_from_slice-requires : goal.copy_from_slice-requires
copy_from_slice-requires c = omega (arith, length-take-le 286 c.args.word.now (omega arith))
