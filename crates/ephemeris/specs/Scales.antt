-- How the code reaches the table's scales: the raw number as a float, times two to the exponent in its row.
-- Nobody has to believe anything of this file: the contract of `pair` speaks of the table's rows. Assumes nothing.
use Rattle.std.specs.Prelude.{◌≡◌, ◌<◌, ◌≤◌, ◌^◌, ℤ, Float}
use Rattle.std.specs.Float.{binary64}
use Rattle.std.specs.Float.Ieee.{of_int}
use Rattle.std.proofs.Math.IntN.{nat_abs}
use Rattle.ephemeris.specs.Exactly.{exactly}

-- an exponent whose power of two, and its product with a number of 32 bits, binary64 holds
abbrev pub Near : ℤ → Type 0
Near e = nat_abs e ≤ 900

-- where the raw number's float, which Raw tells, is that of the whole number z, r is z · 2 ^ e, exactly
pub record Scaled (Raw : Float → Type 0) (e : ℤ) (r : Float) : Type 0 where
  pub exact : (z : ℤ) → nat_abs z < 2 ^ 53 → ((x : Float) → Raw x → x ≡ of_int binary64 z) → r ≡ exactly z e
