-- Bits and the numbers that they spell: the first bit is the most significant. Assumes nothing.
use Rattle.std.specs.Prelude.{List, [], ◌∷◌, ℕ, zero, suc, ◌+◌, ◌*◌, ◌/◌, ◌%◌, ◌^◌, length}

-- the number that the bits spell
unfoldable pub number : List ℕ → ℕ
number [] = 0
number (b ∷ x) = b % 2 * 2 ^ length x + number x

-- the n lowest bits of c
unfoldable pub bits_of : ℕ → ℕ → List ℕ
bits_of zero c = []
bits_of (suc n) c = c / 2 ^ n % 2 ∷ bits_of n c
