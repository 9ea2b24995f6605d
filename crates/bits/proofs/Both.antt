-- Two tests that must both hold.
-- Assumes nothing.
use mathlib.Core.Path.{◌≡◌, refl}
use mathlib.Core.Bool.{Bool, true, false}
use Prim.Native.Nat.{ℕ}
use native.Mathlib.Omega.{arith}
use Rattle.bits.specs.Lists.{both}

pub both_holds : (a b : Bool) → both a b ≡ true → (a ≡ true) × (b ≡ true)
both_holds true b e = (refl, e)
both_holds false b e = absurd (let z : ◌≡◌ {A = ℕ} 0 1 = (cc) in omega arith)

pub both_false : (a : Bool) → both a false ≡ false
both_false true = refl
both_false false = refl
