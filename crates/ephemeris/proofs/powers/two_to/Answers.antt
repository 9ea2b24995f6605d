-- `ephemeris::two_to` meets its contract: e + 1023 is the number `biased e`, whose power is 2 ^ e.
-- Assumes nothing.
use mathlib.Core.Path.{◌≡◌, ap, ◌∙◌}
use native.Mathlib.Nat.{lt_of_lt_of_le}
use lib.IntN.{ℤ, pos, nat_abs, ◌+ℤ◌}
use lib.Dec.{lit≤}
use lib.Ieee.{fin, minus}
use mathlib.Core.Bool.{false}
use mir.Syntax.{w32}
use mir.Val.{SFits, to_z, of_z}
use mir.ValLaws.{to_z-of_z}
use Rattle.ephemeris.specs.Scales.{Near}
use Rattle.ephemeris.proofs.Biased.{biased, biased_is, biased_lt, biased_back}
use Rattle.ephemeris.proofs.powers.two_to.Goals as goal

-- the machine's sum, and that sum read back from its bits
sum_is : (e : ℤ) → SFits w32 e → Near e → to_z w32 (of_z w32 e) +ℤ pos 1023 ≡ pos (biased e)
sum_is e f h = ap (λ (z : ℤ). z +ℤ pos 1023) (to_z-of_z w32 e f) ∙ biased_is e h

below : (e : ℤ) → Near e → SFits w32 (pos (biased e))
below e h = record { sfits = lt_of_lt_of_le (biased_lt e h) (lit≤ tt) }

again : (e : ℤ) → SFits w32 e → Near e → to_z w32 (of_z w32 (to_z w32 (of_z w32 e) +ℤ pos 1023)) ≡ pos (biased e)
again e f h = ap (λ (z : ℤ). to_z w32 (of_z w32 z)) (sum_is e f h) ∙ to_z-of_z w32 (pos (biased e)) (below e h)

pub returns : goal.returns
returns c = c.power.ensures
    ∙ ap (λ (z : ℤ). fin false 1 (minus (nat_abs z) 1023)) (again c.args.e c.ranges.e c.requires)
    ∙ ap (λ (z : ℤ). fin false 1 z) (biased_back c.args.e c.requires)
