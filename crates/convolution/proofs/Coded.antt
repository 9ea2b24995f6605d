-- The coded form of a word is two bits for each of its bits and of the six zeros after it, and no symbol costs more than the top price.
-- Assumes nothing.
use mathlib.Core.Path.{◌≡◌, refl}
use mathlib.Core.Bool.{Bool, true, false}
use mathlib.Core.List.{List, [], ◌∷◌, ◌++◌}
use Prim.Native.Nat.{ℕ, ◌+◌, ◌-◌, ◌*◌, ◌≤◌, min}
use native.Mathlib.Omega.{arith}
use lib.Dec.{eqb}
use lib.ListN.{length, length-append}
use Rattle.bits.specs.Lists.{pick, Bits}
use Rattle.convolution.specs.Code.{g1, g2, encode, six_zeros, coded_form, price, prices, cost}

encode_bits : (past w : List ℕ) → Bits (encode past w)
unfolding encode g1 g2
encode_bits past [] = tt
encode_bits past (b ∷ w) = (omega arith, (omega arith, encode_bits (b ∷ past) w))

encode_long : (past w : List ℕ) → length (encode past w) ≡ 2 * length w
unfolding encode
encode_long past [] = refl
encode_long past (b ∷ w) = omega (arith, encode_long (b ∷ past) w)

pub coded_bits : (w : List ℕ) → Bits (coded_form w)
unfolding coded_form
coded_bits w = encode_bits six_zeros (w ++ six_zeros)

pub coded_long : (w : List ℕ) → length (coded_form w) ≡ 2 * (length w + 6)
unfolding coded_form
coded_long w = omega (arith, encode_long six_zeros (w ++ six_zeros), length-append w six_zeros)

-- ---- the price
module _ (p : ℕ) where
  pub price_le : (b l : ℕ) → price p b l ≤ p
  unfolding price
  price_le b l = go (eqb b 0)
    where
      go : (t : Bool) → pick t (min l p) (p - min l p) ≤ p
      go true = omega arith
      go false = omega arith

  prices_le : (u l : List ℕ) → prices p u l ≤ p * length u
  unfolding prices
  prices_le [] l = omega arith
  prices_le (b ∷ u) [] = omega arith
  prices_le (b ∷ u) (c ∷ l) = omega (arith, price_le b c, prices_le u l)

  pub cost_at_most : (l w : List ℕ) → cost p l w ≤ p * (2 * (length w + 6))
  cost_at_most l w = rw (← coded_long w) (prices_le (coded_form w) l)
