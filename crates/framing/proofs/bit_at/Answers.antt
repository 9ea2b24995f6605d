-- A level is above half of the top exactly where its double is above the top. Assumes nothing.
use mathlib.Core.Bool.{Bool, true, false}
use mathlib.Core.Path.{◌≡◌, refl, ◌∙◌}
use Prim.Native.Nat.{ℕ, ◌*◌, ◌/◌}
use native.Mathlib.Omega.{arith}
use borrow.Author.Tests.{lt-ltb, le-ltb, ltb-true, ltb-false}
use lib.Dec.{ltb}
use mir.Val.{bool_byte}
use Rattle.bits.specs.Lists.{pick}
use Rattle.framing.specs.Sync.{bit_at}
use Rattle.framing.proofs.bit_at.Goals as goal

doubled : (top level : ℕ) (t : Bool) → ltb (top / 2) level ≡ t → bool_byte t ≡ pick (ltb top (2 * level)) 1 0
doubled top level true e = let l = ltb-true (top / 2) level e in rw (lt-ltb top (2 * level) (omega arith)) refl
doubled top level false e = let l = ltb-false (top / 2) level e in rw (le-ltb top (2 * level) (omega arith)) refl

pub returns : goal.returns
unfolding bit_at
returns c = c.from.ensures ∙ doubled c.args.top c.args.level _ refl
