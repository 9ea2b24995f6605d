-- The highest symbol is at most the top exactly where each of them is. Assumes nothing.
use mathlib.Core.Path.{ap, ◌∙◌}
use Prim.Native.Nat.{ℕ, max}
use lib.Dec.{leb}
use Rattle.std.proofs.Common.{rules, fold, ◌≡◌}
use Rattle.framing.proofs.Agreement.{highest_at_most}
use Rattle.framing.proofs.clean.Goals as goal

pub returns : goal.returns
returns c = let e : c.fold-highest.result ≡ fold max 0 c.args.symbols.now = search rules in ap (λ (n : ℕ). leb n c.args.top) e ∙ highest_at_most c.args.top c.args.symbols.now
