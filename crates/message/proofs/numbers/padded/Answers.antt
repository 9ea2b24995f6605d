-- `numbers::padded` meets its contract: behind what is copied the zeros stay. Assumes nothing.
use mathlib.Core.Path.{ap₂}
use mathlib.Core.List.{◌++◌}
use lib.ListN.{length}
use Rattle.std.proofs.lemmas.List.{drop-replicate}
use Rattle.message.specs.declared.Field.TheVariants.{Plain}
use Rattle.message.proofs.numbers.padded.Goals as goal

pub returns : goal.returns
returns c = ap₂ ◌++◌ c.copy_from_slice.ensures.after (drop-replicate (length c.args.fields.now) 36 (Plain 0))
