-- Past the end nothing changes.
-- Assumes nothing.
use mathlib.Core.Path.{sym}
use lib.Seq.{set_out}
use Rattle.navic.proofs.input.keep.Goals as goal

pub returns-else-place-kept : goal.returns-else-place-kept
returns-else-place-kept c = sym (set_out _ _ _ c.if-place-kept.false)
