-- Half of 2 ^ w, as the code shifts it. Assumes nothing.
use mathlib.Core.Path.{◌≡◌, ap, ◌∙◌}
use Prim.Native.Nat.{ℕ, suc, ◌+◌, ◌-◌, ◌*◌, ◌%◌, ◌^◌, ◌≤◌, ◌<◌}
use native.Mathlib.Nat.{one-mul, two-pow-succ}
use native.Mathlib.Omega.{arith}
use lib.Dec.{lit<}
use lib.Pow.{pow_mono, shl_exact}

pub two_halves : (w : ℕ) → 0 < w → 2 ^ w ≡ 2 ^ (w - 1) + 2 ^ (w - 1)
two_halves w h = let e : w ≡ suc (w - 1) = omega arith in ap (λ (k : ℕ). 2 ^ k) e ∙ two-pow-succ (w - 1)

-- below 2 ^ 63 there is room
pub half_small : (w : ℕ) → w ≤ 63 → 2 ^ (w - 1) ≤ 4611686018427387904
half_small w h = let e : w - 1 ≤ 62 = omega arith in pow_mono e

pub whole_small : (w : ℕ) → w ≤ 63 → 2 ^ w ≤ 9223372036854775808
whole_small w h = pow_mono h

pub shifted : (k : ℕ) → k ≤ 63 → (1 * 2 ^ k) % 18446744073709551616 ≡ 2 ^ k
shifted k h = let e : 1 + k ≤ 64 = omega arith in shl_exact 1 k 64 (lit< tt) e ∙ one-mul (2 ^ k)

pub half_shifted : (w : ℕ) → w ≤ 63 → (1 * 2 ^ (w - 1)) % 18446744073709551616 ≡ 2 ^ (w - 1)
half_shifted w h = shifted (w - 1) (omega arith)
