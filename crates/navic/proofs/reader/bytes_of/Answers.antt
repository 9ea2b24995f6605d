-- Each call gives the byte of its index.
-- Assumes nothing.
use Rattle.std.proofs.Common.{rules, ◌*◌}
use Rattle.bits.proofs.Made.{made}
use Rattle.bits.specs.Lists.{part}
use Rattle.bits.specs.Numbers.{number}
use Rattle.navic.proofs.reader.bytes_of.Goals as goal

pub returns : goal.returns
returns c = made _ _ (λ i. number (part c.args.bits.now (8 * i) 8)) 36 (λ i y q l k. search rules) c.from_fn.result c.from_fn.ensures.items
