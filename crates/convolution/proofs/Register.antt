-- The state that a list of bits leaves, and the symbols of a register as sums of its bits.
-- Assumes nothing.
use mathlib.Core.Path.{◌≡◌, refl}
use mathlib.Core.List.{List, [], ◌∷◌}
use Prim.Native.Nat.{ℕ, ◌+◌, ◌*◌, ◌/◌, ◌%◌, ◌≤◌, ◌<◌}
use native.Mathlib.Omega.{arith}
use Rattle.bits.proofs.Lists.{at_most_at, at_most_append, at_most_zeros}
use Rattle.bits.specs.Lists.{Bits}
use Rattle.convolution.specs.Code.{ago, six_zeros, g1, g2}
use Rattle.convolution.specs.Trellis.{out1, out2}

-- the latest six bits, the newest worth 1
unfoldable pub after : List ℕ → ℕ
after [] = 0
after (b ∷ x) = (2 * after x + b) % 64

pub after_lt : (x : List ℕ) → after x < 64
unfolding after
after_lt [] = omega arith
after_lt (b ∷ x) = omega arith

pub after_bits : (x : List ℕ) → Bits x → after x ≡ ago x 0 + 2 * ago x 1 + 4 * ago x 2 + 8 * ago x 3 + 16 * ago x 4 + 32 * ago x 5
unfolding after
after_bits [] h = refl
after_bits (b ∷ x) h =
    let bit : (k : ℕ) → ago x k ≤ 1 = at_most_at 1 x h.1 in
    omega (arith, after_bits x h.1, bit 0, bit 1, bit 2, bit 3, bit 4, bit 5)

-- six zeros before the bits x
pub zeros_bits : (x : List ℕ) → Bits x → Bits (0 ∷ 0 ∷ 0 ∷ 0 ∷ 0 ∷ 0 ∷ x)
zeros_bits x h = at_most_append 1 six_zeros x (at_most_zeros 1 6) h

pub after_zeros : (x : List ℕ) → Bits x → after (0 ∷ 0 ∷ 0 ∷ 0 ∷ 0 ∷ 0 ∷ x) ≡ 0
after_zeros x h = after_bits (0 ∷ 0 ∷ 0 ∷ 0 ∷ 0 ∷ 0 ∷ x) (zeros_bits x h)

-- the digits of a register of bits
module _ (a b c d e f g : ℕ) (ha : a ≤ 1) (hb : b ≤ 1) (hc : c ≤ 1) (hd : d ≤ 1) (he : e ≤ 1) (hf : f ≤ 1) (hg : g ≤ 1) where
  digit0 : (2 * (b + 2 * c + 4 * d + 8 * e + 16 * f + 32 * g) + a) % 2 ≡ a
  digit0 = omega arith

  digit1 : (2 * (b + 2 * c + 4 * d + 8 * e + 16 * f + 32 * g) + a) / 2 % 2 ≡ b
  digit1 = omega arith

  digit2 : (2 * (b + 2 * c + 4 * d + 8 * e + 16 * f + 32 * g) + a) / 4 % 2 ≡ c
  digit2 = omega arith

  digit3 : (2 * (b + 2 * c + 4 * d + 8 * e + 16 * f + 32 * g) + a) / 8 % 2 ≡ d
  digit3 = omega arith

  digit5 : (2 * (b + 2 * c + 4 * d + 8 * e + 16 * f + 32 * g) + a) / 32 % 2 ≡ f
  digit5 = omega arith

  digit6 : (2 * (b + 2 * c + 4 * d + 8 * e + 16 * f + 32 * g) + a) / 64 % 2 ≡ g
  digit6 = omega arith

  sum1 : out1 (2 * (b + 2 * c + 4 * d + 8 * e + 16 * f + 32 * g) + a) ≡ (a + b + c + d + g) % 2
  unfolding out1
  sum1 = rw (digit0, digit1, digit2, digit3, digit6)

  sum2 : out2 (2 * (b + 2 * c + 4 * d + 8 * e + 16 * f + 32 * g) + a) ≡ (a + c + d + f + g) % 2
  unfolding out2
  sum2 = rw (digit0, digit2, digit3, digit5, digit6)

module _ (b : ℕ) (x : List ℕ) (hb : b ≤ 1) (h : Bits x) where
  bit : (k : ℕ) → ago x k ≤ 1
  bit = at_most_at 1 x h

  pub g1_out : out1 (2 * after x + b) ≡ g1 (b ∷ x)
  unfolding g1
  g1_out = rw (after_bits x h) (sum1 b _ _ _ _ _ _ hb (bit 0) (bit 1) (bit 2) (bit 3) (bit 4) (bit 5))

  pub g2_out : out2 (2 * after x + b) ≡ g2 (b ∷ x)
  unfolding g2
  g2_out = rw (after_bits x h) (sum2 b _ _ _ _ _ _ hb (bit 0) (bit 1) (bit 2) (bit 3) (bit 4) (bit 5))
