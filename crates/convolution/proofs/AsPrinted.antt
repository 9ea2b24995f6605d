-- The code as the paper prints it: the generators in octal, and the code of a one and six zeros.
-- Assumes nothing.
use mathlib.Core.Path.{◌≡◌, refl}
use mathlib.Core.List.{List, [], ◌∷◌}
use Prim.Native.Nat.{ℕ}
use native.Mathlib.Omega.{arith}
use Rattle.convolution.specs.Code.{g1, g2, encode, coded_form, octal, uses}

pub g1_octal : (bits : List ℕ) → g1 bits ≡ uses (octal 1 7 1) bits
unfolding g1
g1_octal bits = omega arith

pub g2_octal : (bits : List ℕ) → g2 bits ≡ uses (octal 1 3 3) bits
unfolding g2
g2_octal bits = omega arith

-- 11 10 11 11 00 01 11
pub one_coded : coded_form (1 ∷ []) ≡ 1 ∷ 1 ∷ 1 ∷ 0 ∷ 1 ∷ 1 ∷ 1 ∷ 1 ∷ 0 ∷ 0 ∷ 0 ∷ 1 ∷ 1 ∷ 1 ∷ []
unfolding coded_form encode g1 g2
one_coded = refl
