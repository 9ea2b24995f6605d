-- Two zeros stand behind the word.
-- Assumes nothing.
use mathlib.Core.Path.{ap, ◌∙◌}
use Rattle.demands.specs.Family.{packed}
use Rattle.navic.proofs.reader.pack.Goals as goal

pub returns : goal.returns
unfolding packed
returns c = c.bytes_of.ensures ∙ ap packed c.copy_from_slice.ensures.after
