-- `unused::no_pairs` meets its contract. Assumes nothing.
use mathlib.Core.Path.{refl, ◌∙◌}
use Rattle.message.proofs.Zeros.{pairs_same}
use Rattle.message.proofs.unused.no_pairs.Goals as goal

pub returns : goal.returns
returns c = c.eq.ensures ∙ pairs_same _ (λ p. refl) 15 _
