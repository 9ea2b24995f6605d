-- The sum of polynomials, told by its coefficients.
-- Assumes nothing.
use mathlib.Core.Path.{◌≡◌, refl, sym, ap, ◌∙◌}
use Prim.Native.Nat.{ℕ, suc, ◌+◌, ◌*◌, ◌/◌, ◌%◌, ◌^◌, ◌<◌}
use native.Mathlib.Nat.{mod-lt, div-eq_of_lt}
use native.Mathlib.Numerals.{one-add}
use native.Mathlib.Omega.{arith}
use lib.Arith.{bin_ind}
use lib.Bits.{xor_add_and, xor_lt, xor_self, xor_shifted, xor_shr}
use lib.Dec.{lit<}
use lib.Pow.{pow_pos, shr-shr}
use Rattle.crc24q.specs.Check.{◌⊕◌, coefficient}

-- ---- coefficients
pub digit : (n : ℕ) → n % 2 < 2
digit n = mod-lt n (lit< tt)

pub coefficient_suc : (p k : ℕ) → coefficient p (suc k) ≡ coefficient (p / 2) k
coefficient_suc p k = ap (λ (n : ℕ). n % 2) (ap (λ (n : ℕ). p / 2 ^ n) (sym (one-add k)) ∙ sym (shr-shr p 1 k))

pub coefficient_small : (p k : ℕ) → p < 2 ^ k → coefficient p k ≡ 0
coefficient_small p k h = ap (λ (n : ℕ). n % 2) (div-eq_of_lt h)

-- numbers with the same coefficients are the same
pub same_coefficients : (a b : ℕ) → ((k : ℕ) → coefficient a k ≡ coefficient b k) → a ≡ b
same_coefficients =
    bin_ind (λ (a : ℕ). (b : ℕ) → ((k : ℕ) → coefficient a k ≡ coefficient b k) → a ≡ b) none
    (λ a ih b h. omega (arith, h 0, ih (b / 2) (λ k. sym (coefficient_suc a k) ∙ h (suc k) ∙ coefficient_suc b k)))
  where
    none : (b : ℕ) → ((k : ℕ) → coefficient 0 k ≡ coefficient b k) → 0 ≡ b
    none =
        bin_ind (λ (b : ℕ). ((k : ℕ) → coefficient 0 k ≡ coefficient b k) → 0 ≡ b) (λ h. refl)
        (λ b ih h. omega (arith, h 0, ih (λ k. sym (coefficient_suc 0 k) ∙ h (suc k) ∙ coefficient_suc b k)))

-- ---- the sum
pub plus_shr : (a b k : ℕ) → (a ⊕ b) / 2 ^ k ≡ a / 2 ^ k ⊕ b / 2 ^ k
unfolding ◌⊕◌
plus_shr = xor_shr

pub plus_even : (a b : ℕ) → (a ⊕ b) % 2 ≡ (a % 2 + b % 2) % 2
unfolding ◌⊕◌
plus_even a b = omega (arith, xor_add_and a b)

pub plus_coefficient : (p q k : ℕ) → coefficient (p ⊕ q) k ≡ (coefficient p k + coefficient q k) % 2
plus_coefficient p q k = ap (λ (x : ℕ). x % 2) (plus_shr p q k) ∙ plus_even (p / 2 ^ k) (q / 2 ^ k)

pub plus_lt : (k a b : ℕ) → a < 2 ^ k → b < 2 ^ k → a ⊕ b < 2 ^ k
unfolding ◌⊕◌
plus_lt = xor_lt

pub zero_plus : (a : ℕ) → 0 ⊕ a ≡ a
unfolding ◌⊕◌
zero_plus a = refl

pub plus_self : (a : ℕ) → a ⊕ a ≡ 0
unfolding ◌⊕◌
plus_self = xor_self

-- where the terms of the one stand above those of the other, the sum is that of numbers
pub plus_above : (a k b : ℕ) → b < 2 ^ k → a * 2 ^ k ⊕ b ≡ a * 2 ^ k + b
unfolding ◌⊕◌
plus_above = xor_shifted

-- only equals add up to nothing
pub plus_zero_same : (a b : ℕ) → a ⊕ b ≡ 0 → a ≡ b
plus_zero_same a b e =
    same_coefficients a b
    (λ k. omega (arith, plus_coefficient a b k, ap (λ (n : ℕ). coefficient n k) e, coefficient_small 0 k (pow_pos k)))
