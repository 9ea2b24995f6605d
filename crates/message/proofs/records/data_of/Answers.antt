-- `records::data_of` meets its contract: each call gives the byte of its index. Assumes nothing.
use Rattle.std.proofs.Common.{rules, ◌+◌, ◌*◌, ◌%◌, ◌^◌}
use mathlib.Core.Path.{ap}
use lib.Dec.{eqb}
use Rattle.bits.specs.Lists.{pick, at}
use Rattle.bits.proofs.Made.{made}
use Rattle.message.specs.declared.Beside.{Beside}
use Rattle.message.proofs.records.data_of.Goals as goal

pub returns : goal.returns
returns c = let t = c.args.t.now.0.now in
    let bits = made _ _ (λ i. pick (eqb i 27) (at t 34 % 2 ^ 4 * 16) (at t (7 + i) % 2 ^ 8)) 28 (λ i y q l k. search rules) c.from_fn.result c.from_fn.ensures.items in
    λ i. record { bits = bits i; pairs = ap (λ (b : Beside). b.pairs) c.nothing.ensures i }
