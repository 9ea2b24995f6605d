-- `numbers::numbers_of` meets its contract. Assumes nothing.
use mathlib.Core.Path.{ap₂, ◌∙◌}
use Rattle.message.specs.Numbers.{head_fields}
use Rattle.message.proofs.Laying.{laid_record}
use Rattle.message.proofs.numbers.numbers_of.Goals as goal

pub returns : goal.returns
returns c = let lead = c.head_fields-lead.ensures ∙ ap₂ head_fields c.head.ensures c.id.ensures in
    laid_record c.args.entry.«record» lead c.own_fields.ensures c.lay.ensures
