-- The check CRC-24Q over bits 1 to 262, in bits 263 to 286 (01, "Check"): the remainder of the body polynomial times X ^ 24, divided by the
-- generator over the field of two elements; no preset, no final inversion. A polynomial is a number: the digit worth 2 ^ k is the coefficient
-- of X ^ k. The first bit is the most significant. Assumes nothing.
use Rattle.std.specs.Prelude.{◌≡◌, Bool, List, [], ◌∷◌, ◌++◌, ℕ, zero, suc, ◌+◌, ◌*◌, ◌/◌, ◌%◌, ◌^◌, ◌<◌, eqb, take, replicate}
use Rattle.std.specs.Int.Bits.{bit_xor}
use Rattle.bits.specs.Lists.{part}
use Rattle.bits.specs.Numbers.{number, bits_of}

-- ---- the generator
abbrev pub exponents : List ℕ
exponents = 24 ∷ 23 ∷ 18 ∷ 17 ∷ 14 ∷ 11 ∷ 10 ∷ 7 ∷ 6 ∷ 5 ∷ 4 ∷ 3 ∷ 1 ∷ 0 ∷ []

-- the sum of the powers of X
abbrev pub powers : List ℕ → ℕ
powers [] = 0
powers (e ∷ es) = 2 ^ e + powers es

unfoldable pub generator : ℕ
generator = powers exponents

-- ---- the remainder
-- the coefficient of X ^ k
abbrev pub coefficient : ℕ → ℕ → ℕ
coefficient p k = p / 2 ^ k % 2

-- in the product of p and q, before it is taken modulo 2: the sum of p's coefficient of X ^ i times q's of X ^ j, over all i + j = k
unfoldable pub product_at : ℕ → ℕ → ℕ → ℕ
product_at p q zero = p % 2 * coefficient q 0
product_at p q (suc k) = p % 2 * coefficient q (suc k) + product_at (p / 2) q k

-- c is the remainder of the body times X ^ 24 by the generator: with some quotient it makes up the whole, and it has no term of 24 or more
pub record Remainder (body : List ℕ) (c : ℕ) : Type 0 where
  pub quotient : ℕ
  pub whole : (k : ℕ) → coefficient (number body * 2 ^ 24) k ≡ (product_at quotient generator k + coefficient c k) % 2
  pub small : c < 2 ^ 24

-- ---- the same by long division; `check_remainder` and `remainder_one` of proofs/ say that this is the remainder, and the only one
infixl 65 ◌⊕◌
-- the sum of two polynomials: no carries
unfoldable pub ◌⊕◌ : ℕ → ℕ → ℕ
◌⊕◌ p q = bit_xor p q

-- the generator once less, where the coefficient of X ^ 24 is 1
unfoldable pub reduce : ℕ → ℕ
reduce t = t / 2 ^ 24 * generator ⊕ t

-- the next bit is brought down
unfoldable pub step : ℕ → ℕ → ℕ
step r b = reduce (r * 2 + b % 2)

-- the remainder r so far, and the bits to come
unfoldable pub divide : ℕ → List ℕ → ℕ
divide r [] = r
divide r (b ∷ x) = divide (step r b) x

-- the check of a body
unfoldable pub check_of : List ℕ → ℕ
check_of body = divide 0 (body ++ replicate 24 0)

-- ---- a word: a body of 262 bits and its check
-- whether bits 263 to 286 are the check of bits 1 to 262
unfoldable pub agrees_of : List ℕ → Bool
agrees_of word = eqb (number (part word 262 24)) (check_of (take 262 word))

-- the word of a body
unfoldable pub with_check : List ℕ → List ℕ
with_check body = body ++ bits_of 24 (check_of body)
