-- `numbers::lay` meets its contract: the numbers before i are laid. Assumes nothing.
use mathlib.Core.List.{◌++◌}
use Prim.Native.Nat.{ℕ, ◌<◌}
use lib.ListN.{get_or}
use Rattle.fields.specs.Patterns.{pattern}
use Rattle.message.specs.declared.Field.TheVariants.{Plain}
use Rattle.message.specs.Numbers.{number_of}
use Rattle.message.specs.Raw.{Good}
use Rattle.message.proofs.Filling.{Filled}
use Rattle.message.proofs.numbers.lay.Given as goal

abbrev pub invariant-loop-i : goal.invariant-loop-i
invariant-loop-i l =
    Filled 0 (λ k. pattern (number_of l.beside (get_or (l.lead ++ l.own) k (Plain 0)))) 42 l.i l.numbers
    × ((k : ℕ) → k < l.i → Good l.beside (get_or (l.lead ++ l.own) k (Plain 0)))
