-- The forward pass leaves the marks that the way back needs, and the price.
-- Assumes nothing.
use mathlib.Core.Path.{sym, ◌∙◌}
use native.Mathlib.Omega.{arith}
use Rattle.convolution.proofs.Decoded.{decode_cost}
use Rattle.nearest.proofs.Trail.{marks_bits}
use Rattle.nearest.proofs.find.Goals as goal

pub back-requires : goal.back-requires
back-requires c = marks_bits c.forward-total.ensures.1

pub returns : goal.returns
returns c = let f = c.forward-total.ensures in
    (f.0 ∙ sym (decode_cost _ 286 _ (omega arith)), c.back.ensures _ _ f.1)
