-- The numbers of an i32 and their patterns: -1 - k and 2 ^ 64 - 1 - k, with no cast that loses bits. Assumes nothing.
use mathlib.Core.Path.{◌≡◌, ap, ◌∙◌}
use Prim.Native.Nat.{suc, ◌-◌, ◌%◌, ◌^◌, ◌<◌}
use native.Mathlib.Nat.{mod-eq_of_lt}
use native.Mathlib.Omega.{arith}
use lib.IntN.{ℤ, pos, negsuc}
use lib.Signed.{mag}
use mir.Facts.{to_z_pos, to_z-neg}
use mir.Syntax.{w32, w64}
use mir.Val.{to_z, of_z}

-- ---- the two laws of `signed` and `pattern`
pub signed_pattern : (z : ℤ) → mag z < 2 ^ 31 → to_z w32 (of_z w64 z % 2 ^ 32) ≡ z
signed_pattern (pos n) h =
    let e : n % 2 ^ 32 ≡ n = mod-eq_of_lt (omega arith) in
    ap (to_z w32) e ∙ to_z_pos w32 h
signed_pattern (negsuc n) h =
    let e : (2 ^ 64 - suc n) % 2 ^ 32 ≡ 2 ^ 32 - suc n = omega arith in
    ap (to_z w32) e ∙ to_z-neg w32 n h

pub pattern_signed : (z : ℤ) → mag z < 2 ^ 31 → of_z w64 (to_z w32 (of_z w64 z % 2 ^ 32)) ≡ of_z w64 z
pattern_signed z h = ap (of_z w64) (signed_pattern z h)
