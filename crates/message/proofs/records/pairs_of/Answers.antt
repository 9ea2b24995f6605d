-- `records::pairs_of` meets its contract: each call gives the pair of its index. Assumes nothing.
use Rattle.std.proofs.Common.{rules, ◌+◌, ◌*◌, ◌%◌, ◌^◌}
use Prim.Native.Nat.{ℕ}
use mathlib.Core.Path.{ap}
use native.Mathlib.Omega.{arith}
use Rattle.bits.specs.Lists.{at}
use Rattle.bits.proofs.Made.{made_at}
use Rattle.message.specs.declared.Beside.{Beside}
use Rattle.message.specs.declared.Pair.{Pair}
use Rattle.message.specs.Numbers.{no_pair}
use Rattle.message.proofs.Filling.{filled_list}
use Rattle.message.proofs.records.pairs_of.Goals as goal

pub returns : goal.returns
returns c = let t = c.args.t.now.0.now in
    let pair : ℕ → Pair = λ i. record { givei = at t (9 + 2 * i) % 2 ^ 4; givd = at t (10 + 2 * i) % 2 ^ 16 } in
    let items = c.from_fn.ensures.items in
    let made = made_at _ _ pair 15 (λ i y q l k. search rules) c.from_fn.result no_pair items in
    let pairs = filled_list no_pair pair 15 15 _ (omega arith) (record { long = items.long; here = made }) in
    λ i. record { bits = ap (λ (b : Beside). b.bits) c.nothing.ensures i; pairs = pairs i }
