-- What the decoder puts right: since the coded forms of two words are ten symbols apart, a word that was received with less than five symbols'
-- worth of errors is the nearest. At the price 1 the cost is the number of symbols that differ. Assumes nothing.
use mathlib.Core.Path.{◌≡◌, refl, sym, ◌∙◌}
use mathlib.Core.Logic.{inl}
use mathlib.Core.List.{List, [], ◌∷◌}
use Prim.Native.Nat.{ℕ, ◌+◌, ◌*◌, ◌≤◌, ◌<◌}
use native.Mathlib.Nat.{mul-le-mul_left}
use native.Mathlib.Omega.{arith}
use lib.ListN.{length}
use Rattle.bits.proofs.Test.{two_bits}
use Rattle.bits.specs.Lists.{Bits, unlike, differences}
use Rattle.convolution.specs.Code.{coded_form, price, prices, cost, Better}
use Rattle.convolution.specs.Trellis.{decode}
use Rattle.convolution.proofs.Coded.{coded_bits, coded_long}
use Rattle.convolution.proofs.Decoded.{nearest_decode}
use Rattle.convolution.proofs.Distance.{distance}
use Rattle.convolution.proofs.Order.{nearest_one}

-- of two bits that differ, one costs what the other leaves
two_prices : (p a b c : ℕ) → a ≤ 1 → b ≤ 1 → p * unlike a b ≤ price p a c + price p b c
two_prices p a b c = two_bits (λ a b. p * unlike a b ≤ price p a c + price p b c) (omega arith) (unfold price in omega arith) (unfold price in omega arith) (omega arith) a b

two_costs : (p : ℕ) (u v l : List ℕ) → Bits u → Bits v → length u ≡ length l → length v ≡ length l → p * differences u v ≤ prices p u l + prices p v l
unfolding differences prices
two_costs p [] v l hu hv e f = omega arith
two_costs p (a ∷ u) [] l hu hv e f = absurd (omega arith)
two_costs p (a ∷ u) (b ∷ v) [] hu hv e f = absurd (omega arith)
two_costs p (a ∷ u) (b ∷ v) (c ∷ l) hu hv e f =
    omega (arith, two_prices p a b c hu.0 hv.0, two_costs p u v l hu.1 hv.1 (omega arith) (omega arith))

module _ (p n : ℕ) (l w : List ℕ) (size : length l ≡ 2 * (n + 6)) (h : Bits w) (e : length w ≡ n) (near : 2 * cost p l w < 10 * p) where
  pub corrected : decode p n l ≡ w
  corrected = nearest_one p n l (decode p n l) w (nearest_decode p n l size) (record { bits = h; long = e; best = best })
    where
      best : (v : List ℕ) → Bits v → length v ≡ n → (v ≡ w → ⊥) → Better p l w v
      best v hv ev other =
          inl (omega (
            arith,
            two_costs p (coded_form w) (coded_form v) l (coded_bits w) (coded_bits v) (omega (arith, coded_long w)) (omega (arith, coded_long v)),
            mul-le-mul_left p (distance w v h hv (e ∙ sym ev) (λ q. other (sym q))),
          ))

-- ---- symbols: a price is the number of symbols that differ
hard_price : (a b : ℕ) → a ≤ 1 → b ≤ 1 → price 1 a b ≡ unlike a b
unfolding price
hard_price = two_bits (λ a b. price 1 a b ≡ unlike a b) refl refl refl refl

hard_prices : (u l : List ℕ) → Bits u → Bits l → prices 1 u l ≡ differences u l
unfolding prices differences
hard_prices [] l h k = refl
hard_prices (a ∷ u) [] h k = refl
hard_prices (a ∷ u) (b ∷ l) h k = rw (hard_price a b h.0 k.0, hard_prices u l h.1 k.1)

pub hard_cost : (l w : List ℕ) → Bits l → cost 1 l w ≡ differences (coded_form w) l
hard_cost l w k = hard_prices (coded_form w) l (coded_bits w) k

-- four altered symbols at most, wherever they stand, are put right
pub four_altered : (n : ℕ) (l w : List ℕ) → length l ≡ 2 * (n + 6) → Bits l → Bits w → length w ≡ n
    → differences (coded_form w) l ≤ 4 → decode 1 n l ≡ w
four_altered n l w size k h e near = corrected 1 n l w size h e (omega (arith, hard_cost l w k))
