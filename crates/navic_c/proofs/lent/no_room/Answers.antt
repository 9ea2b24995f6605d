-- The length is tested before the room. Assumes nothing.
use mathlib.Core.Path.{sym, ap, ◌∙◌}
use native.Mathlib.Omega.{arith}
use Rattle.demands.proofs.Ordered.{not_600, little_room_lem}
use Rattle.navic_c.specs.Numbers.{numbered}
use Rattle.navic_c.specs.Calls.{line_of_numbers}
use Rattle.navic_c.proofs.lent.no_room.Goals as goal

pub returns-then-symbols-ne600 : goal.returns-then-symbols-ne600
returns-then-symbols-ne600 c = c.line.ensures ∙ sym (ap line_of_numbers (not_600 numbered c.args.symbols.now 0 c.if-symbols-ne600.true))

pub returns : goal.returns
returns c = c.line-2.ensures ∙ sym (ap line_of_numbers (little_room_lem numbered c.args.symbols.now 0 c.if-symbols-ne600.false (omega arith)))
