-- `unused::no_bits` meets its contract. Assumes nothing.
use mathlib.Core.Path.{◌∙◌}
use Rattle.message.proofs.Zeros.{zeros_same}
use Rattle.message.proofs.unused.no_bits.Goals as goal

pub returns : goal.returns
returns c = c.eq.ensures ∙ zeros_same 28 _
